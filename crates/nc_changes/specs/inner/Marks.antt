-- Marks of paths: two rows of different marks have different paths.
use Rattle.std.specs.Prelude.{◌≡◌, ◌+◌, ◌*◌, ◌%◌, ◌^◌, ◌==◌, ℕ, List, fold}
use Rattle.std.specs.BTreeSet.{BTreeSet, contains}
use Rattle.std.specs.List.{list_any}
use Rattle.std.specs.Ordering.{nat_cmp}
use Rattle.nc_names.specs.declared.path.Row.{Row}
use Rattle.nc_names.specs.declared.path.Step.{Step}

-- a mark with one number more
abbrev pub marked : ℕ → ℕ → ℕ
marked mark number = (mark * 1099511628211 % 2 ^ 64 + number) % 2 ^ 64

-- with a text, before which stands a number that is no byte
abbrev pub with_text : ℕ → List ℕ → ℕ
with_text mark text = fold marked (marked mark 256) text

-- with a step: its node's number, then its keys
abbrev pub with_step : ℕ → Step → ℕ
with_step mark step = fold with_text (marked mark step.node) step.keys

-- the mark of a path
unfoldable pub mark_of : List Step → ℕ
mark_of steps = fold with_step 0 steps

-- the marks in the set are those of these rows
abbrev pub HasMarks : BTreeSet ℕ → List Row → Type 0
HasMarks known rows = (mark : ℕ) → contains nat_cmp known mark ≡ list_any (λ row. mark_of row.path.steps == mark) rows
