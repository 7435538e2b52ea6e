-- The elements of a list for which something is so.
use Rattle.std.specs.Prelude.{ℕ, List, [], ◌∷◌}
use Rattle.nc_yang_scopes.specs.Scopes.{Located}
use Rattle.nc_yang_scopes.specs.Numbers.{AreNumbers}

-- all of them, and no others, in their order
pub data Picks {A : Type 0} (P : A → Type 0) : List A → List A → Type 0 where
  none : Picks P [] []
  picked : (x : A) (xs found : List A) → P x → Picks P xs found → Picks P (x ∷ xs) (x ∷ found)
  passed : (x : A) (xs found : List A) → ¬ P x → Picks P xs found → Picks P (x ∷ xs) found

-- the numbers of those statements for which it is
abbrev pub PicksNumbers : List Located → (Located → Type 0) → List Located → List ℕ → Type 0
PicksNumbers located P ls numbers = (found : List Located) × AreNumbers located numbers found × Picks P ls found
