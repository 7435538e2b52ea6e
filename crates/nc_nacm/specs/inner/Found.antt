-- The first rule that matches, as the index finds it.
use Rattle.std.specs.Prelude.{◌&&◌, ◌||◌, ℕ, Bool, List, Option, Some, None, min}
use Rattle.std.specs.List.Sorted.{IsStrictlySortedBy}
use Rattle.std.specs.Map.{keys_of}
use Rattle.nc_names.specs.declared.path.Right.{Right}
use Rattle.nc_names.specs.declared.path.Step.{Step}
use Rattle.nc_model.specs.Decision.{has_right, is_of_data, is_of_module}
use Rattle.nc_model.specs.Words.{star}
use Rattle.nc_model.specs.declared.policy.Rule.{Rule}
use Rattle.nc_nacm.specs.declared.index.Index.{Index}
use Rattle.nc_nacm.specs.inner.Keys.{is_at_with, key_cmp, sought}
use Rattle.nc_nacm.specs.inner.Tables.{HasPlaces, HasShapes, in_entries}

-- the index has each rule that may be about a node, by what its path names
pub record IsIndex (rules : List Rule) (index : Index) : Type 0 where
  pub sorted : IsStrictlySortedBy key_cmp (keys_of index.entries.items)
  pub places : HasPlaces (in_entries index.entries.items) rules
  pub shapes : HasShapes index.shapes rules

-- the lower of two places, of which each may be none
abbrev pub earlier : Option ℕ → Option ℕ → Option ℕ
earlier None other = other
earlier (Some place) None = Some place
earlier (Some place) (Some other) = Some (min place other)

-- the rule is at a key that is sought for a shape, under the module's name or for all modules
abbrev pub under : List ℕ → List Step → Right → List (List Bool) → Rule → Bool
under name steps right shape rule =
    is_at_with (sought star shape steps) right rule || is_at_with (sought name shape steps) right rule

-- the rule is about the node, of the module of that name, and about the right: `matches_data`, where the name is known
abbrev pub matches_under : List ℕ → List Step → Right → Rule → Bool
matches_under name steps right rule =
    is_of_module rule name && has_right rule.operations right && is_of_data rule.kind steps
