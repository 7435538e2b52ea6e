-- Where nodes stand in a subtree, as lists that are compared: entries that the user orders by their turns.
use Rattle.std.specs.Prelude.{ℕ, if◌then◌else◌, List, [], ◌∷◌, ◌++◌, Option, Some, None}
use Rattle.std.specs.Option.{option_map_or}
use Rattle.std.specs.BTreeMap.{get}
use Rattle.std.specs.declared.cmp.Ordering.{Ordering}
use Rattle.std.specs.Cmp.Lexicographic.{slice_cmp}
use Rattle.nc_names.specs.declared.path.Step.{Step}
use Rattle.nc_schema.specs.Order.{keys_above, sibling_place}
use Rattle.nc_schema.specs.Standing.{is_by_user}
use Rattle.nc_schema.specs.Tables.{Tables}
use Rattle.nc_payload.specs.contracts.marks.MarkOrd.TheImpl.{ghosts as of_marks}
use Rattle.nc_payload.specs.declared.marks.Mark.{Mark}
use Rattle.nc_payload.specs.declared.marks.Turns.{Turns}
use Rattle.nc_payload.specs.inner.Places.{order}

-- when an entry that the user orders comes, by the steps to it; 0 where the merges have no such entry
abbrev pub turn_of : Turns → List Step → ℕ
turn_of turns steps = option_map_or (λ turn. turn) (get order turns.entries steps) 0

-- a step's mark, with the steps that end with it
abbrev pub mark : Tables → (List Step → ℕ) → Option ℕ → List Step → Step → Mark
mark tables turn at steps step = record {
  place = sibling_place (keys_above tables at) step.node;
  turn = if is_by_user tables step.node then turn steps else 0;
  keys = if is_by_user tables step.node then [] else step.keys;
}

-- the marks of the further steps, from the node of some steps down
abbrev pub marks_from : Tables → (List Step → ℕ) → Option ℕ → List Step → List Step → List Mark
marks_from tables turn at above [] = []
marks_from tables turn at above (step ∷ rest) =
    mark tables turn at (above ++ step ∷ []) step ∷ marks_from tables turn (Some step.node) (above ++ step ∷ []) rest

-- the marks of all steps from the top
abbrev pub marks : Tables → (List Step → ℕ) → List Step → List Mark
marks tables turn steps = marks_from tables turn None [] steps

-- marks are ordered step by step
abbrev pub in_marks : List Mark → List Mark → Ordering
in_marks some others = slice_cmp of_marks.cmp some others
