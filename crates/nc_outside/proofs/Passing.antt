-- How stretches of calls of a disk go on.
use Rattle.std.proofs.Common.{◌≡◌, ◌⊎◌, inl, inr, ⊎_elim, ℕ, ◌+◌, ◌≤◌, max, List, length, take, drop, refl, sym, subst, arith}
use Rattle.nc_outside.specs.Disks.{Torn, Same, Then, After, Follows, Within, Elapses, LeavesOnly, Passes}

-- a step that may as well do nothing
abbrev pub IsReflexive : (List ℕ → List ℕ → Type 0) → Type 0
IsReflexive step = (c : List ℕ) → step c c

pub torn_reflexive : (place n : ℕ) → IsReflexive (Torn place n)
torn_reflexive place n c = record { before = refl; after = refl; no_shorter = omega arith; no_longer = omega arith }

module _ {D : Type 0} (may_leave : D → List ℕ → Type 0) (moment : D → ℕ) (left_since : D → ℕ → List ℕ → Type 0)
    (only_now : (disk : D) (c : List ℕ) → left_since disk (moment disk) c → may_leave disk c) where
  -- a call that may change the file
  pub passes_step : (step : List ℕ → List ℕ → Type 0) (old new : D) → IsReflexive step
      → Follows step (may_leave old) (may_leave new)
      → Elapses (moment old) (moment new) (left_since old) (left_since new) (may_leave new)
      → Passes may_leave moment left_since step old new
  passes_step step old new idle follows time = record {
    outcomes = follows;
    moments = record {
      later = time.later;
      each = λ c left. ⊎_elim
          (λ (was : left_since old (moment old) c). let it : After step (may_leave old) c = record
          { from = c; was = only_now old c was; did = idle c } in it)
          (follows c) (time.nothing_else (moment old) c (omega arith) left);
      before = λ t c le left. ⊎_elim (λ (was : left_since old t c). inl was)
          (λ (now : may_leave new c). inr (follows c now)) (time.nothing_else t c le left);
    };
  }

  -- one stretch after another
  pub passes_then : (first second : List ℕ → List ℕ → Type 0) (old mid new : D) → IsReflexive second
      → Passes may_leave moment left_since first old mid → Passes may_leave moment left_since second mid new
      → Passes may_leave moment left_since (Then first second) old new
  passes_then first second old mid new idle one two = record {
    outcomes = λ c left. joined c (two.outcomes c left);
    moments = record {
      later = omega (arith, one.moments.later, two.moments.later);
      each = λ c left. ⊎_elim (λ (was : left_since mid (moment old) c). early c (one.moments.each c was)) (joined c)
          (two.moments.before (moment old) c one.moments.later left);
      before = λ t c le left. ⊎_elim
          (λ (was : left_since mid t c). ⊎_elim (λ (older : left_since old t c). inl older)
          (λ (now : After first (may_leave old) c). inr (early c now)) (one.moments.before t c le was))
          (λ (now : After second (may_leave mid) c). inr (joined c now))
          (two.moments.before t c (omega (arith, le, one.moments.later)) left);
    };
  }
    where
      joined : (c : List ℕ) → After second (may_leave mid) c → After (Then first second) (may_leave old) c
      joined c a =
          let b = one.outcomes a.from a.was in
          record { from = b.from; was = b.was; did = record { mid = a.from; left = b.did; right = a.did } }

      early : (c : List ℕ) → After first (may_leave old) c → After (Then first second) (may_leave old) c
      early c a = record { from = a.from; was = a.was; did = record { mid = c; left = a.did; right = idle c } }

  -- what one step does, another does too
  pub passes_as : (first second : List ℕ → List ℕ → Type 0) (old new : D) → ((c d : List ℕ) → first c d → second c d)
      → Passes may_leave moment left_since first old new → Passes may_leave moment left_since second old new
  passes_as first second old new also one = record {
    outcomes = λ c left. taken c (one.outcomes c left);
    moments = record {
      later = one.moments.later;
      each = λ c left. taken c (one.moments.each c left);
      before = λ t c le left. ⊎_elim (λ (was : left_since old t c). inl was)
          (λ (now : After first (may_leave old) c). inr (taken c now)) (one.moments.before t c le left);
    };
  }
    where
      taken : (c : List ℕ) → After first (may_leave old) c → After second (may_leave old) c
      taken c a = record { from = a.from; was = a.was; did = also a.from c a.did }

  -- a call that changes nothing
  pub passes_quiet : (old new : D) → Within (may_leave old) (may_leave new)
      → Elapses (moment old) (moment new) (left_since old) (left_since new) (may_leave new)
      → Passes may_leave moment left_since Same old new
  passes_quiet old new within time = passes_step Same old new (λ c. refl)
      (λ c now. let it : After Same (may_leave old) c = record { from = c; was = within c now; did = refl } in it) time

  -- one more call that changes nothing
  pub passes_more : (step : List ℕ → List ℕ → Type 0) (old mid new : D)
      → Passes may_leave moment left_since step old mid
      → Within (may_leave mid) (may_leave new)
      → Elapses (moment mid) (moment new) (left_since mid) (left_since new) (may_leave new)
      → Passes may_leave moment left_since step old new
  passes_more step old mid new one within time =
      passes_as (Then step Same) step old new (λ c d t. subst (λ e. step c e) (sym t.right) t.left)
      (passes_then step Same old mid new (λ c. refl) one (passes_quiet mid new within time))
