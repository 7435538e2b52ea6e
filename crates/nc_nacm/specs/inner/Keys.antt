-- Rules about data nodes by their module and pattern, and what a path has of them.
use Rattle.std.specs.Prelude.{◌&&◌, ℕ, Bool, true, false, List, [], ◌∷◌, map, Option, Some, None, is_some}
use Rattle.std.specs.Cmp.Lexicographic.{slice_cmp}
use Rattle.std.specs.Option.{option_cmp, option_map_or}
use Rattle.std.specs.Ordering.{bool_cmp, is_eq, nat_cmp, ordering_then}
use Rattle.std.specs.declared.cmp.Ordering.{Ordering}
use Rattle.nc_names.specs.declared.path.Right.{Right}
use Rattle.nc_names.specs.declared.path.Step.{Step}
use Rattle.nc_schema.specs.declared.pattern.PatternStep.{PatternStep}
use Rattle.nc_model.specs.Decision.{has_right}
use Rattle.nc_model.specs.declared.policy.Rule.{Rule}
use Rattle.nc_model.specs.declared.policy.RuleKind.{RuleKind}
use Rattle.nc_model.specs.declared.policy.RuleKind.TheVariants.{OfAll, OfData}
use Rattle.nc_nacm.specs.declared.key.Key.{Key}
use Rattle.nc_nacm.specs.declared.key.KeyStep.{KeyStep}

-- ---- the order of keys
abbrev pub text_cmp : List ℕ → List ℕ → Ordering
text_cmp a b = slice_cmp nat_cmp a b

-- the keys of a step are ordered in turn, those that are not given first
abbrev pub given_cmp : List (Option (List ℕ)) → List (Option (List ℕ)) → Ordering
given_cmp a b = slice_cmp (option_cmp text_cmp) a b

-- steps are ordered by their nodes, then by their keys
abbrev pub step_cmp : KeyStep → KeyStep → Ordering
step_cmp a b = ordering_then (nat_cmp a.node b.node) (given_cmp a.keys b.keys)

-- keys are ordered by their modules, then by their steps
abbrev pub key_cmp : Key → Key → Ordering
key_cmp a b = ordering_then (text_cmp a.module b.module) (slice_cmp step_cmp a.steps b.steps)

-- ---- the key of a rule
abbrev pub key_step : PatternStep → KeyStep
key_step step = record { node = step.node; keys = step.keys }

-- the pattern of a rule about data nodes: a rule about all has the empty one, another rule none
abbrev pub pattern_in : RuleKind → Option (List PatternStep)
pattern_in OfAll = Some []
pattern_in (OfData pattern) = Some pattern.steps
pattern_in kind = None

-- the key of a rule of that pattern: its module, and the steps of the pattern
abbrev pub key_of : Rule → List PatternStep → Key
key_of rule pattern = record { «module» = rule.module; steps = map key_step pattern }

-- the rule is about data nodes, with that module and pattern
abbrev pub is_at : Key → Rule → Bool
is_at key rule = option_map_or (λ pattern. is_eq (key_cmp (key_of rule pattern) key)) (pattern_in rule.kind) false

-- so it is, and the rule is about the right
abbrev pub is_at_with : Key → Right → Rule → Bool
is_at_with key right rule = is_at key rule && has_right rule.operations right

-- ---- which keys a pattern gives
abbrev pub shape_of : List PatternStep → List (List Bool)
shape_of pattern = map (λ step. map is_some step.keys) pattern

-- the order of shapes
abbrev pub shape_cmp : List (List Bool) → List (List Bool) → Ordering
shape_cmp a b = slice_cmp (slice_cmp bool_cmp) a b

-- a key, if it is given
abbrev pub wanted : Bool → Option (List ℕ) → Option (List ℕ)
wanted true key = key
wanted false key = None

-- the keys of a step that are given
abbrev pub masked_keys : List Bool → List (List ℕ) → List (Option (List ℕ))
masked_keys [] keys = []
masked_keys (given ∷ more) [] = wanted given None ∷ masked_keys more []
masked_keys (given ∷ more) (key ∷ keys) = wanted given (Some key) ∷ masked_keys more keys

-- the one pattern that gives such keys and covers the path, if one does
abbrev pub masked : List (List Bool) → List Step → List KeyStep
masked [] steps = []
masked (given ∷ more) [] = []
masked (given ∷ more) (step ∷ steps) =
    record { node = step.node; keys = masked_keys given step.keys } ∷ masked more steps

-- the key of a rule of that module whose pattern gives such keys and covers the path
abbrev pub sought : List ℕ → List (List Bool) → List Step → Key
sought name shape steps = record { «module» = name; steps = masked shape steps }
