-- On what the `type` statement of a number rests.
use Rattle.std.specs.Prelude.{◌≡◌, ◌<◌, ◌≤◌, ℕ, if◌then◌else◌, nat_lt, List, [], ◌∷◌, ◌++◌, length, Some, None}
use Rattle.std.specs.Prelude.{slice_get, slice_set, IsSomeAnd, Contains}
use Rattle.nc_yang_statements.specs.declared.built_in.BuiltIn.{BuiltIn}
use Rattle.nc_yang_scopes.specs.Scopes.{Located, Scoping}
use Rattle.nc_yang_order.specs.Orders.{targets}
use Rattle.nc_yang_types.specs.Places.{base_of, built_in}
use Rattle.nc_yang_types.specs.declared.footing.Footing.{Footing}
use Rattle.nc_yang_types.specs.declared.footing.Footing.TheVariants.{OnBuiltIn, OnNothing, OnType}

-- on what a `type` statement rests: on a built-in type, on the type of a number, or on no type that is there
abbrev pub IsFooting : Scoping → Located → Footing → Type 0
IsFooting scoping l (OnBuiltIn one) = built_in l ≡ Some one
IsFooting scoping l (OnType number) =
    (built_in l ≡ None) × ((base : Located) × (slice_get scoping.located number ≡ Some base)
    × (base_of scoping.texts l ≡ Some base))
IsFooting scoping l OnNothing = (built_in l ≡ None) × (base_of scoping.texts l ≡ None)

-- on what each of the first so many rests
pub record AreFootings (scoping : Scoping) (count : ℕ) (footings : List Footing) : Type 0 where
  pub within : count ≤ length scoping.located
  pub counted : length footings ≡ count
  pub each : (number : ℕ) (l : Located) → number < count → slice_get scoping.located number ≡ Some l →
      IsSomeAnd (slice_get footings number) (IsFooting scoping l)

-- with an edge to the type of that number from the one on which it rests
abbrev pub dependent : List (List ℕ) → ℕ → Footing → List (List ℕ)
dependent graph number (OnType base) =
    if nat_lt base (length graph) then slice_set graph base (targets graph base ++ number ∷ []) else graph
dependent graph number footing = graph

-- from each of the first so many types there are edges to those that rest on it
pub record AreDependents (footings : List Footing) (count : ℕ) (graph : List (List ℕ)) : Type 0 where
  pub counted : length graph ≡ length footings
  pub rests : (base number : ℕ) → Contains (targets graph base) number → slice_get footings number ≡ Some (OnType base)
  pub has : (base number : ℕ) → number < count → base < length footings → slice_get footings number
      ≡ Some (OnType base) →
      Contains (targets graph base) number

-- with a number, if its type rests on a built-in type
abbrev pub started : List ℕ → ℕ → Footing → List ℕ
started starts number (OnBuiltIn one) = starts ++ number ∷ []
started starts number footing = starts

-- those of the first so many that rest on built-in types
pub record AreStarts (footings : List Footing) (count : ℕ) (starts : List ℕ) : Type 0 where
  pub rests : (number : ℕ) → Contains starts number → (one : BuiltIn) × (slice_get footings number
      ≡ Some (OnBuiltIn one))
  pub has : (number : ℕ) (one : BuiltIn) → number < count → slice_get footings number ≡ Some (OnBuiltIn one)
      → Contains starts number
