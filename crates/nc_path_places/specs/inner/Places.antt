-- What readers of a path text that is refused answer.
use Rattle.std.specs.Prelude.{◌≡◌, ◌<◌, ℕ, Bool, true, false, List, [], ◌∷◌, Option, Some, None, length, if◌then◌else◌}
use Rattle.nc_names.specs.Signs.{equals}
use Rattle.nc_schema.specs.InstancePaths.{key_nodes}
use Rattle.nc_path_places.specs.inner.Candidates.{can_be_given}
use Rattle.nc_path_places.specs.inner.Going.{Reading, Keys, Signed, Steps, Valued, without}
use Rattle.nc_path_places.specs.inner.Halting.{IsPlaceIn, Leads}

-- a step to that node without its predicates has been read
pub record IsStepName (s : Reading) (above : Option ℕ) (text : List ℕ) (number : ℕ) (rest : List ℕ) : Type 0 where
  pub leads : Leads (Steps s above) (Keys s number (key_nodes s.tables number)) text rest
  pub given : can_be_given s number (key_nodes s.tables number) ≡ true
  pub less : length rest < length text

-- a step to that node has been read
pub record IsStep (s : Reading) (above : Option ℕ) (text : List ℕ) (number : ℕ) (rest : List ℕ) : Type 0 where
  pub leads : Leads (Steps s above) (Steps s (Some number)) text rest
  pub less : length rest < length text

-- what follows the key of a predicate
abbrev pub KeyThen : Reading → ℕ → List ℕ → ℕ → List ℕ → Type 0
KeyThen s number left key = Signed equals (Valued (Keys s number (without key left)))

-- no key is left
abbrev pub is_empty : List ℕ → Bool
is_empty [] = true
is_empty (n ∷ ns) = false

-- a path can end where these keys are left
abbrev pub may_end : Reading → List ℕ → Bool
may_end s left = if s.all then is_empty left else true

-- the place at which a text stops to be the beginning of steps from the top
abbrev pub IsPlace : Reading → List ℕ → ℕ → Type 0
IsPlace s text at = IsPlaceIn (Steps s None) text at
