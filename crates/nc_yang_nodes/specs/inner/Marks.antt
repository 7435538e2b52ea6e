-- Marks at the places of identities, and lists that are made smaller by them.
use Rattle.std.specs.Prelude.{◌≡◌, ℕ, Bool, true, false, List, Some, slice_get, unwrap_or}
use Rattle.nc_yang_words.specs.declared.statement.Statement.{Statement}
use Rattle.nc_yang_scopes.specs.Scopes.{Located}
use Rattle.nc_yang_scopes.specs.Numbers.{AreNumbers}
use Rattle.nc_yang_nodes.specs.Picks.{PicksNumbers}
use Rattle.nc_yang_nodes.specs.Values.{IsUnder}
use Rattle.nc_yang_nodes.specs.inner.Places.{place_of}

-- an answer says whether something is so
abbrev pub Tells : Bool → Type 0 → Type 0
Tells true P = P
Tells false P = ¬ P

-- there is a mark at a place
abbrev pub is_marked : List Bool → ℕ → Bool
is_marked marks place = unwrap_or (slice_get marks place) false

-- they say which identities are derived from the one that a `base` statement names
abbrev pub AreMarks : List Statement → Located → List Bool → Type 0
AreMarks texts base marks =
    (l : Located) (place : ℕ) → place_of texts l ≡ Some place → Tells (is_marked marks place) (IsUnder texts base l)

-- of statements by their numbers, those for which something is so
abbrev pub Narrows : List Located → (Located → Type 0) → List ℕ → List ℕ → Type 0
Narrows located P numbers kept = (ls : List Located) → AreNumbers located numbers ls → PicksNumbers located P ls kept
