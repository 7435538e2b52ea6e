-- The nodes directly in a place, found by their steps.
use Rattle.std.specs.Prelude.{◌≡◌, ◌≤◌, ℕ, List, Option, None, Some, length, find, option_map, IfSome, if◌then◌else◌}
use Rattle.std.proofs.Common.{Bor}
use Rattle.std.specs.BTreeMap.{BTreeMap, get}
use Rattle.std.specs.declared.cmp.Ordering.{Ordering}
use Rattle.std.specs.Option.{option_or}
use Rattle.nc_names.specs.Same.{is_same_step}
use Rattle.nc_names.specs.contracts.path.StepOrd.TheImpl.{ghosts}
use Rattle.nc_names.specs.declared.path.Row.{Row}
use Rattle.nc_names.specs.declared.path.Step.{Step}
use Rattle.nc_schema.specs.Places.{Part, is_same_next, parts}
use Rattle.nc_defaults.specs.Within.{rows_between}

-- steps are ordered by their nodes, then by their keys
abbrev pub step_order : Bor Step → Bor Step → Ordering
step_order step other = ghosts.cmp step.now other.now

-- where the rows of a node begin and end, by the step to it
abbrev pub Spans : Type 0
Spans = BTreeMap (Bor Step) (ℕ × ℕ)

-- the part of rows from one number up to another, to which a step leads
abbrev pub part_at : List Row → Step → ℕ × ℕ → Part
part_at rows step span = record { step = Some step; rows = rows_between rows span.0 span.1 }

-- the first part to which a step leads
abbrev pub first_part : Step → List Part → Option Part
first_part step found = find (λ part. is_same_next part.step (Some step)) found

-- a part from one number up to another, which is not past the end of the rows
abbrev pub IsSpan : List Row → ℕ × ℕ → Type 0
IsSpan rows span = (span.0 ≤ span.1) × (span.1 ≤ length rows)

-- the table has the first part of each step among rows after so many steps
pub record AreBranches (rows : List Row) (depth from to : ℕ) (table : Spans) : Type 0 where
  pub parts : (key : Bor Step) →
      option_map (part_at rows key.now) (get step_order table key)
      ≡ first_part key.now (parts depth (rows_between rows from to))
  pub spans : (key : Bor Step) → IfSome (get step_order table key) (IsSpan rows)

-- a table has a part more, where it had none of that step
abbrev pub AddsFirst : Spans → Spans → Step → ℕ × ℕ → Type 0
AddsFirst before now step span =
    (key : Bor Step) →
    get step_order now key ≡ option_or (get step_order before key) (if is_same_step step key.now
    then Some span else None)
