-- Marks of what rules ask of a path: its module, its nodes, and their keys. One thing has one mark.
use Rattle.std.specs.Prelude.{◌+◌, ◌*◌, ◌%◌, ◌^◌, ◌==◌, ℕ, Bool, List, [], ◌∷◌, Option, Some, None, fold}
use Rattle.std.specs.List.{flat_map, list_any}
use Rattle.nc_names.specs.declared.path.Step.{Step}
use Rattle.nc_schema.specs.declared.pattern.PatternStep.{PatternStep}
use Rattle.nc_model.specs.Words.{star}

-- a mark with one number more
abbrev pub marked : ℕ → ℕ → ℕ
marked mark number = (mark * 1099511628211 % 2 ^ 64 + number) % 2 ^ 64

-- that of a module's name
unfoldable pub module_mark : List ℕ → ℕ
module_mark name = fold marked 0 name

-- that of a node
unfoldable pub node_mark : ℕ → ℕ
node_mark node = marked 1 node

-- that of a key of a list entry, by the list, which of its keys it is, and the value
unfoldable pub key_mark : ℕ → ℕ → List ℕ → ℕ
key_mark node at key = fold marked (marked (marked 2 node) at) key

-- ---- of a pattern
abbrev pub given_marks : ℕ → ℕ → List (Option (List ℕ)) → List ℕ
given_marks node at [] = []
given_marks node at (None ∷ keys) = given_marks node (at + 1) keys
given_marks node at (Some key ∷ keys) = key_mark node at key ∷ given_marks node (at + 1) keys

abbrev pub pattern_step_marks : PatternStep → List ℕ
pattern_step_marks step = node_mark step.node ∷ given_marks step.node 0 step.keys

abbrev pub pattern_marks : List PatternStep → List ℕ
pattern_marks pattern = flat_map pattern_step_marks pattern

-- ---- of a path
abbrev pub key_marks : ℕ → ℕ → List (List ℕ) → List ℕ
key_marks node at [] = []
key_marks node at (key ∷ keys) = key_mark node at key ∷ key_marks node (at + 1) keys

abbrev pub step_marks : Step → List ℕ
step_marks step = node_mark step.node ∷ key_marks step.node 0 step.keys

-- all that a path has, of which rules for all modules and rules for its own may ask
abbrev pub path_marks : List ℕ → List Step → List ℕ
path_marks name steps = module_mark star ∷ module_mark name ∷ flat_map step_marks steps

abbrev pub is_among : List ℕ → ℕ → Bool
is_among marks mark = list_any (λ one. one == mark) marks
