-- What a keeper keeps stays as it is, but at a commit.
use Rattle.std.proofs.Common.{◌≡◌, ◌==◌, ◌+◌, ℕ, Bool, true, false, not, List, refl, sym, ◌∙◌, Option, Some, None, Result, Ok, Err}
use Rattle.std.specs.Prelude.{if◌then◌else◌, is_some, IfSome}
use Rattle.nc_names.specs.Same.{is_same_rows}
use Rattle.nc_names.specs.declared.path.Path.{Path}
use Rattle.nc_names.specs.declared.path.Row.{Row}
use Rattle.nc_schema.specs.Tables.{Tables}
use Rattle.nc_model.specs.State.{Pending, State, candidate_in_force, expired, is_due, left_by_end, read_at, reverted, session_ended}
use Rattle.nc_model.specs.Step.{milliseconds, without_partial}
use Rattle.nc_model.specs.Verdict.{has_lock}
use Rattle.nc_model.proofs.RunningLemmas.{candidate_base, ended_base}
use Rattle.nc_courses.specs.declared.course.Change.{Change}
use Rattle.nc_courses.specs.declared.course.Change.TheVariants.{Nothing, Candidate, Discard, Grant, Release, Confirm, Revert, Over, GrantNodes, ReleaseNodes}
use Rattle.nc_partial.specs.declared.locks.PartialFault.{PartialFault}
use Rattle.nc_partial.specs.Granted.{lock_given}
use Rattle.nc_machine.specs.Lasting.{Lasting}
use Rattle.nc_courses.specs.inner.Courses.{confirming, granted, made, partly_granted, partly_released, unlocked, with_given}
use Rattle.nc_machine.specs.inner.Turns.{IsKeeping, LeavesKept}
use Rattle.nc_machine.proofs.Confirmed.{confirming_base}

pub all_kept : (s : State) → LeavesKept s s
all_kept s = record { schema_is = refl; base_is = refl; faults_is = refl }

-- ---- the clock
pub read_keeps : (s : State) (at : ℕ) → LeavesKept s (expired s at)
read_keeps s at = by (is_due (read_at s at))
  where
    by : (due : Bool) → LeavesKept s (if due then reverted (read_at s at) else read_at s at)
    by true = record { schema_is = refl; base_is = refl; faults_is = refl }
    by false = record { schema_is = refl; base_is = refl; faults_is = refl }

-- ---- the end of a session
left_schema : (s : State) (n : ℕ) (pending : Option Pending) → (left_by_end s n pending).schema ≡ s.schema
left_schema s n None = refl
left_schema s n (Some pending) = by (pending.session == n) (is_some pending.token)
  where
    by : (own persists : Bool) →
        (if not own then s else (if persists then record s { pending = Some (record pending { session = 0 }) } else reverted s)).schema ≡ s.schema
    by false persists = refl
    by true true = refl
    by true false = refl

left_faults : (s : State) (n : ℕ) (pending : Option Pending) → (left_by_end s n pending).faults ≡ s.faults
left_faults s n None = refl
left_faults s n (Some pending) = by (pending.session == n) (is_some pending.token)
  where
    by : (own persists : Bool) →
        (if not own then s else (if persists then record s { pending = Some (record pending { session = 0 }) } else reverted s)).faults ≡ s.faults
    by false persists = refl
    by true true = refl
    by true false = refl

pub end_keeps : (s : State) (n : ℕ) → LeavesKept s (session_ended s n)
end_keeps s n = record {
  schema_is = left_schema _ n s.pending;
  base_is = ended_base s n;
  faults_is = left_faults _ n s.pending;
}

-- ---- what a request changes
candidate_schema : (s : State) (rows : List Row) (same : Bool) → (if same then s else record s { candidate = Some rows }).schema ≡ s.schema
candidate_schema s rows true = refl
candidate_schema s rows false = refl

candidate_faults : (s : State) (rows : List Row) (same : Bool) → (if same then s else record s { candidate = Some rows }).faults ≡ s.faults
candidate_faults s rows true = refl
candidate_faults s rows false = refl

given_keeps : (s : State) (session : ℕ) (nodes : List Path) (told : Result ℕ PartialFault) → LeavesKept s (with_given s session nodes told)
given_keeps s session nodes (Ok lock) = record { schema_is = refl; base_is = refl; faults_is = refl }
given_keeps s session nodes (Err fault) = all_kept s

released_keeps : (s : State) (lock : ℕ) (has : Bool) → LeavesKept s (if has then without_partial s lock else s)
released_keeps s lock true = record { schema_is = refl; base_is = refl; faults_is = refl }
released_keeps s lock false = all_kept s

pub made_keeps : (s : State) (session : ℕ) (change : Change) → LeavesKept s (made s session change)
unfolding made granted unlocked confirming partly_granted partly_released
made_keeps s session Nothing = all_kept s
made_keeps s session (Candidate rows) = record {
  schema_is = candidate_schema s rows (is_same_rows rows (candidate_in_force s));
  base_is = candidate_base s (Some rows);
  faults_is = candidate_faults s rows (is_same_rows rows (candidate_in_force s));
}
made_keeps s session Discard = record { schema_is = refl; base_is = refl; faults_is = refl }
made_keeps s session (Grant target) = record { schema_is = refl; base_is = refl; faults_is = refl }
made_keeps s session (Release target) = record { schema_is = refl; base_is = refl; faults_is = refl }
made_keeps s session (Confirm rows timeout persist) = record {
  schema_is = refl;
  base_is = confirming_base s.pending s.running (s.now + milliseconds timeout) persist session;
  faults_is = refl;
}
made_keeps s session Revert = record { schema_is = refl; base_is = refl; faults_is = refl }
made_keeps s session (Over number) = end_keeps s number
made_keeps s session (GrantNodes nodes) = given_keeps s session nodes (lock_given s session nodes)
made_keeps s session (ReleaseNodes lock) = released_keeps s lock (has_lock s session lock)

-- ---- sessions

-- ---- the keeper
pub by_schema : (found : Option Tables) (one other : Tables) → other ≡ one → IfSome found (λ tables. tables ≡ one) →
    IfSome found (λ tables. tables ≡ other)
by_schema None one other is by = tt
by_schema (Some tables) one other is by = by ∙ sym is

pub keeping_stays : {K : Type 0} (schema : K → Option Tables) (base : K → List Row) (failures : K → ℕ) (words : Lasting K)
    (s t : State) (keeper : K) → IsKeeping schema base failures words s keeper → LeavesKept s t →
    IsKeeping schema base failures words t keeper
keeping_stays schema base failures words s t keeper keeping same = record {
  schema_is = by_schema (schema keeper) s.schema t.schema same.schema_is keeping.schema_is;
  kept = keeping.kept ∙ sym same.base_is;
  stands = keeping.stands;
  faults = keeping.faults ∙ sym same.faults_is;
}
