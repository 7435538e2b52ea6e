-- A machine stays sound.
use Rattle.std.proofs.Common.{◌≡◌, ◌<◌, ◌+◌, ℕ, List, sym, subst, ◌∙◌, Result, Ok, Err, arith}
use Rattle.std.specs.Prelude.{Option, IfOk, OnErr}
use Rattle.nc_names.specs.Limits.{most_requests}
use Rattle.nc_names.specs.declared.memory.Memory.{Memory}
use Rattle.nc_names.specs.declared.path.Row.{Row}
use Rattle.nc_schema.specs.Tables.{Tables}
use Rattle.nc_model.specs.declared.entry.Entry.{Entry}
use Rattle.nc_model.specs.declared.event.Event.{Event}
use Rattle.nc_model.specs.State.{State, IsGood, expired}
use Rattle.nc_model.proofs.GoodLemmas.{good_next, good_now}
use Rattle.nc_machine.specs.Lasting.{Lasting}
use Rattle.nc_machine.specs.Serving.{IsSound}
use Rattle.nc_machine.specs.inner.Turns.{Enters, LeavesKept}
use Rattle.nc_machine.proofs.Keeping.{by_schema}

pub good_entered : (old new : State) (number : ℕ) (event : Event) (at : ℕ) (e : Entry) → Enters old new number event at e →
    IsGood old → IsGood new
good_entered old new number event at e enters good = subst IsGood (sym enters.state_is) (good_next old e good enters.fits)

pub good_read : (old new : State) (at : ℕ) → new ≡ expired old at → IsGood old → IsGood new
good_read old new at is good = subst IsGood (sym is) (good_now old at good)

pub good_after : (old new : State) (number : ℕ) (event : Event) (at : ℕ) (result : Result Entry Memory) →
    IfOk result (λ e. Enters old new number event at e) → OnErr result (new ≡ expired old at) → IsGood old → IsGood new
good_after old new number event at (Ok e) ok err good = good_entered old new number event at e ok good
good_after old new number event at (Err memory) ok err good = good_read old new at err good

-- an entry that leaves what is kept as it was
pub sound_kept : {K : Type 0} (schema : K → Option Tables) (base : K → List Row) (failures : K → ℕ) (words : Lasting K)
    (old new : State) (count : ℕ) (keeper : K) (number : ℕ) (event : Event) (at : ℕ) (e : Entry) →
    Enters old new number event at e → LeavesKept old new → count < most_requests →
    IsSound schema base failures words (record { state = old; count = count; keeper = keeper }) →
    IsSound schema base failures words (record { state = new; count = count + 1; keeper = keeper })
sound_kept schema base failures words old new count keeper number event at e enters same room sound = record {
  good = good_entered old new number event at e enters sound.good;
  schema_is = by_schema (schema keeper) old.schema new.schema same.schema_is sound.schema_is;
  kept = sound.kept ∙ sym same.base_is;
  stands = sound.stands;
  faults = sound.faults ∙ sym same.faults_is;
  few = omega (arith, room);
}
