-- What of a server's history lasts over a crash.
use Rattle.std.proofs.Common.{◌≡◌, ◌≤◌, ◌++◌, ◌∷◌, ℕ, Bool, true, false, List, [], Option, Some, None, refl, sym, subst, ap, ◌∙◌, arith}
use Rattle.std.specs.Prelude.{IfSome, is_some}
use Rattle.nc_machine.specs.Lasting.{Lasting}
use Rattle.nc_machine.specs.Serving.{GoesOn, Serving, StandsFor}
use Rattle.nc_model.specs.Desks.{Home}
use Rattle.nc_model.specs.History.{Survives, doubts_after, returning}
use Rattle.nc_model.specs.State.{State}
use Rattle.nc_model.specs.Step.{next}
use Rattle.nc_model.specs.declared.entry.Entry.{Entry}
use Rattle.nc_names.specs.declared.path.Row.{Row}
use Rattle.nc_outside.specs.Disks.{LeavesOnly, Told}
use Rattle.nc_store.specs.Keeping.{Continues, StoreLeaves, Storing}
use Rattle.nc_store.specs.Reopening.{Reopens}
use Rattle.nc_store.specs.inner.Leaving.{unmoved}
use Rattle.nc_device.specs.Crashes.{BeginsAmong, Crashing, Lasts, Leaves, Opened, Spares, SurvivesRun, Untouched, crashing}
use Rattle.nc_device.specs.Devices.{Makes, begun_with}
use Rattle.nc_device.specs.Sessions.{IsHomeAt}
use Rattle.nc_device.specs.Outside.{Filing, Times}
use Rattle.nc_device.specs.Begun.{HasLeft, IsBegun, IsKept, IsSpared, Keeps, NotMoved, OpenedFor, Unmoved, WasOpened, store_words}
use Rattle.nc_device.specs.declared.device.Device.{Device}

-- a history that survives by one word survives by a wider one
survives_so : (L M : ℕ → List (List Row) → Type 0) → ((t : ℕ) (among : List (List Row)) → L t among → M t among)
    → (now : ℕ) (s : State) (doubts : List (List Row)) (t : ℕ) (history : List Entry)
    → Survives L now s doubts t history → Survives M now s doubts t history
survives_so L M so now s doubts t [] it = (it.0, so t _ it.1)
survives_so L M so now s doubts t (e ∷ rest) it =
    (so t _ it.0, (it.1.0, it.1.1, survives_so L M so now (next s e) (doubts_after s doubts e) it.1.0 rest it.1.2))

told_of : {X : Type 0} (o : Option (List ℕ)) → X → Told o (λ _. X)
told_of o x = λ file is. x

is_told : {X : Type 0} (o : Option (List ℕ)) → is_some o ≡ true → Told o (λ _. X) → X
is_told None none x = absurd (cc none)
is_told (Some file) some x = x file refl

some_told : (o : Option (List ℕ)) (file : List ℕ) → o ≡ Some file → is_some o ≡ true
some_told o file is = ap is_some is

module _ {D : Type 0} (seen : D → Option (List ℕ)) (may_leave : D → List ℕ → Type 0) (moment : D → ℕ)
    (left_since : D → ℕ → List ℕ → Type 0) (disk : D) (device : Device) (machine : Serving (Storing D))
    (begun : IsBegun seen may_leave moment left_since disk device machine) (before : Times) (place : List ℕ) where
  -- what is known of crashes until the disk is that one
  abbrev pub over : D → Option (List (List Row)) → Crashing
  over now held = crashing seen may_leave moment left_since held disk now

  -- where a history begins: a crash since that moment leaves these too
  abbrev home_since : ℕ → List (List Row) → Home
  home_since start among = record {
    opening = machine.state;
    answers = before.answers;
    heard = before.given;
    alone = true;
    place = place;
    begun = moment machine.keeper.disk;
    start = start;
    among = among;
  }

  at_home : (start : ℕ) (among : List (List Row)) → IsHomeAt machine.state before (home_since start among)
  at_home start among = record { opening_is = refl; answers_is = refl; heard_is = refl; alone_is = refl }

  stands_there : (start : ℕ) (among : List (List Row)) → start ≤ moment machine.keeper.disk
      → StoreLeaves seen left_since machine.keeper start among
      → StandsFor (store_words seen moment left_since) (home_since start among) machine []
  stands_there start among began leaves = begun.stands (home_since start among)
      (record { opening_is = refl; begun_is = refl; began = began; before = leaves })

  -- what a store at a later moment leaves is what a start of the device begins with
  leaves_so : (keeper : Storing D) (held : Option (List (List Row))) → is_some (seen disk) ≡ true
      → Continues seen moment left_since machine.keeper keeper → (t : ℕ) (among : List (List Row))
      → StoreLeaves seen left_since keeper t among → Leaves (over keeper.disk held) device t among
  leaves_so keeper held some on t among leaves =
      subst (λ setup. (c : List ℕ) → left_since keeper.disk t c → Reopens setup among c) (on.setup_is ∙ begun.setup_is)
      (is_told (seen keeper.disk) (on.tells ∙ (begun.tells ∙ some)) leaves)

  -- a home for a server, of whose history so much lasts
  pub record IsHeld (held : Option (List (List Row))) : Type 0 where
    pub home : Home
    pub is_home : IsHomeAt machine.state before home
    pub place_is : home.place ≡ place
    pub stands : StandsFor (store_words seen moment left_since) home machine []
    pub lasts : (keeper : Storing D) (history : List Entry)
        → Keeps (store_words seen moment left_since) home machine.keeper keeper history
        → Lasts (over keeper.disk held) device machine.state history

  since_begun : (keeper : Storing D) (held : Option (List (List Row))) (history : List Entry) (start : ℕ)
      (among : List (List Row)) → is_some (seen disk) ≡ true
      → Keeps (store_words seen moment left_since) (home_since start among) machine.keeper keeper history
      → Survives (Leaves (over keeper.disk held) device) (moment keeper.disk) machine.state []
      (moment machine.keeper.disk) history
  since_begun keeper held history start among some keeps =
      survives_so (StoreLeaves seen left_since keeper) (Leaves (over keeper.disk held) device)
      (leaves_so keeper held some keeps.continues) (moment keeper.disk) machine.state [] (moment machine.keeper.disk)
      history keeps.survives.since

  -- nothing is known of what the store held
  hold_none : IsHeld None
  hold_none = record {
    home = home_since (moment machine.keeper.disk) (machine.state.running ∷ []);
    is_home = at_home (moment machine.keeper.disk) (machine.state.running ∷ []);
    place_is = refl;
    stands = stands_there (moment machine.keeper.disk) (machine.state.running ∷ []) (omega arith) begun.now;
    lasts = λ keeper history keeps file is. record {
      opened = moment machine.keeper.disk;
      since = since_begun keeper None history (moment machine.keeper.disk) (machine.state.running ∷ [])
          (some_told (seen disk) file is) keeps;
      before = tt;
    };
  }

  -- it is known, of a disk that tells its bytes
  hold_some : (among : List (List Row)) → is_some (seen disk) ≡ true
      → LeavesOnly moment left_since disk machine.keeper.disk (Reopens (begun_with device) among) → IsHeld (Some among)
  hold_some among some only = record {
    home = home_since (moment disk) among;
    is_home = at_home (moment disk) among;
    place_is = refl;
    stands = stands_there (moment disk) among only.later (told_of (seen machine.keeper.disk)
        (subst (λ setup. (c : List ℕ) → left_since machine.keeper.disk (moment disk) c → Reopens setup among c)
        (sym begun.setup_is) only.each));
    lasts = λ keeper history keeps file is. record {
      opened = moment machine.keeper.disk;
      since = since_begun keeper (Some among) history (moment disk) among some keeps;
      before = (
        only.later,
        leaves_so keeper (Some among) some keeps.continues (moment disk)
            (among ++ returning machine.state [] history) keeps.survives.before,
      );
    };
  }

  -- nothing is said of a disk that tells none
  hold_untold : (held : Option (List (List Row))) → is_some (seen disk) ≡ false → IsHeld held
  hold_untold held none = record {
    home = home_since (moment machine.keeper.disk) (machine.state.running ∷ []);
    is_home = at_home (moment machine.keeper.disk) (machine.state.running ∷ []);
    place_is = refl;
    stands = stands_there (moment machine.keeper.disk) (machine.state.running ∷ []) (omega arith) begun.now;
    lasts = λ keeper history keeps file is. absurd (cc (none, some_told (seen disk) file is));
  }

  hold : (told : Option (List ℕ)) → seen disk ≡ told → (held : Option (List (List Row)))
      → IfSome held (BeginsAmong device (may_leave disk)) → IsHeld held
  hold None is None known = hold_none
  hold (Some file) is None known = hold_none
  hold None is (Some among) known = hold_untold (Some among) (ap is_some is)
  hold (Some file) is (Some among) known = hold_some among (ap is_some is) (begun.moments file is among known)

  pub held_so : (held : Option (List (List Row))) → IfSome held (BeginsAmong device (may_leave disk)) → IsHeld held
  held_so held known = hold (seen disk) refl held known

  -- and of a server that went on
  pub went_on : (held : Option (List (List Row))) → IfSome held (BeginsAmong device (may_leave disk))
      → (last : Serving (Storing D)) (history : List Entry)
      → GoesOn (store_words seen moment left_since) machine last history
      → Lasts (over last.keeper.disk held) device machine.state history
  went_on held known last history goes =
      let it = held_so held known in
      it.lasts last.keeper history (record {
        survives = (goes.stands it.home [] it.stands).survives;
        continues = goes.continues machine.keeper (unmoved seen moment left_since machine.keeper);
      })

  pub has_left : (held : Option (List (List Row))) → IfSome held (BeginsAmong device (may_leave disk)) → (now : D)
      (history : List Entry) → HasLeft (store_words seen moment left_since) machine now history
      → Lasts (over now held) device machine.state history
  has_left held known now history left =
      subst (λ (d : D). Lasts (over d held) device machine.state history) left.disk_is
      (went_on held known left.last history left.goes)

  -- a server that did nothing, whose disk was given back
  pub given_back : (files : Filing) (folder : List ℕ) (now : D) → Makes files folder device → now ≡ machine.keeper.disk
      → IsSpared seen may_leave moment left_since disk now files folder
  given_back files folder now makes same = OpenedFor device makes (WasOpened
      (subst (λ (d : D). Told (seen disk) (λ _. (among : List (List Row)) → BeginsAmong device (may_leave disk) among
      → LeavesOnly moment left_since disk d (Reopens (begun_with device) among))) (sym same) begun.moments)
      (λ file told none. absurd (begun.read file told none)))

-- ---- a run that made no server
module _ {D : Type 0} (seen : D → Option (List ℕ)) (may_leave : D → List ℕ → Type 0) (moment : D → ℕ)
    (left_since : D → ℕ → List ℕ → Type 0) (old new : D) (files : Filing) (folder : List ℕ)
    (held : Option (List (List Row))) where
  still : (device : Device) (these : Option (List (List Row))) → IfSome these (BeginsAmong device (may_leave old))
      → ((among : List (List Row)) → BeginsAmong device (may_leave old) among
      → LeavesOnly moment left_since old new (Reopens (begun_with device) among))
      → IfSome these (BeginsAmong device (left_since new (moment old)))
  still device None known moments = tt
  still device (Some among) known moments = (moments among known).each

  pub spares_so : ((device : Device) → Makes files folder device → IfSome held (BeginsAmong device (may_leave old)))
      → IsSpared seen may_leave moment left_since old new files folder
      → Spares (crashing seen may_leave moment left_since held old new) files folder
  spares_so known (Unmoved only) = Untouched only
  spares_so known (OpenedFor device makes (NotMoved only)) = Untouched only
  spares_so known (OpenedFor device makes (WasOpened moments spared)) =
      Opened device makes (λ file told. still device held (known device makes) (moments file told)) spared
