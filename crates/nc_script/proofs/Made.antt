-- A machine that goes on by entries.
use Rattle.std.proofs.Common.{◌≡◌, ◌≤◌, ℕ, true, List, [], ◌∷◌, ◌++◌, refl, sym, subst, Err}
use Rattle.nc_names.specs.Limits.{most_requests}
use Rattle.nc_machine.specs.Lasting.{Lasting, lasting}
use Rattle.nc_machine.specs.Serving.{GoesOn, IsRead, Makes, Serving, read_entry}
use Rattle.nc_machine.proofs.Stood.{goes_further_on, goes_nowhere, read_makes}
use Rattle.nc_tree.specs.declared.keeper.Keeper.{Ghosts}
use Rattle.nc_model.specs.declared.entry.Entry.{Entry}
use Rattle.nc_model.specs.declared.event.Event.{Event}
use Rattle.nc_model.specs.declared.event.Event.TheVariants.{Reading}
use Rattle.nc_model.specs.Step.{may_come_of}
use Rattle.nc_model.proofs.OutcomeLemmas.{fits_may_come}
use Rattle.nc_script.specs.inner.Entering.{Comes, IsEntered}
use Rattle.nc_script.specs.declared.fault.StepFault.TheVariants.{Memory}

-- what a keeper says of crashes
abbrev pub words_by : {K A : Type 0} → Ghosts K A → Lasting K
words_by keeper = lasting keeper.doubt keeper.moment keeper.leaves keeper.continues

pub made_none : {K : Type 0} {words : Lasting K} (machine : Serving K) → GoesOn words machine machine []
made_none {K} {words} machine = goes_nowhere words machine

pub made_same : {K : Type 0} {words : Lasting K} (old new : Serving K) → new ≡ old → GoesOn words old new []
made_same {K} {words} old new same = subst (λ m. GoesOn words old m []) (sym same) (made_none old)

pub made_more : {K : Type 0} {words : Lasting K} (one two three : Serving K) (xs ys : List Entry)
    → GoesOn words one two xs
    → GoesOn words two three ys → GoesOn words one three (xs ++ ys)
made_more {K} {words} one two three xs ys first second = goes_further_on words one two three xs ys first second

pub entered_one : {K : Type 0} {words : Lasting K} (old new : Serving K) (event : Event) (at : ℕ) (e : Entry)
    → Makes old new event at e
    → GoesOn words old new (e ∷ []) → new.count ≤ most_requests → IsEntered words old new event at e
entered_one old new event at e makes goes few = record {
  event_is = makes.event_is;
  at_is = makes.at_is;
  fits = makes.fits;
  made = goes;
  few = few;
}

-- what was entered of an event may come of it
pub entered_may_come : {K : Type 0} {words : Lasting K} (old new : Serving K) (event : Event) (at : ℕ) (e : Entry)
    → IsEntered words old new event at e → may_come_of event e.outcome ≡ true
entered_may_come old new event at e entered =
    subst (λ (v : Event). may_come_of v e.outcome ≡ true) entered.event_is (fits_may_come old.state e entered.fits)

pub read_entered : {K : Type 0} {words : Lasting K} (old new : Serving K) (at : ℕ) → IsRead old new at
    → GoesOn words old new (read_entry old at ∷ []) → new.count ≤ most_requests
    → Comes words old new Reading at (Err Memory)
read_entered old new at read goes few =
    (read_entry old at, entered_one old new Reading at (read_entry old at) (read_makes old new at read) goes few)
