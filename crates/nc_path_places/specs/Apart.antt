-- No predicate is of two keys of a list (RFC 7950 7.8.2).
use Rattle.std.specs.Prelude.{◌≡◌, ℕ, List, [], ◌∷◌, Option, true, false}
use Rattle.nc_names.specs.declared.name.Bound.{Bound}
use Rattle.nc_schema.specs.InstancePaths.{is_of_key, key_nodes}
use Rattle.nc_schema.specs.Tables.{Tables}
use Rattle.nc_schema.specs.declared.written.WrittenName.{WrittenName}

-- the predicate is of none of the keys
abbrev pub IsOfNone : Tables → List Bound → ℕ → Option WrittenName → List ℕ → Type 0
IsOfNone tables bounds number written [] = Unit {0}
IsOfNone tables bounds number written (key ∷ keys) =
    (is_of_key tables bounds number key written ≡ false) × IsOfNone tables bounds number written keys

-- a predicate of an entry of the node that is of one of the keys is of no later one
abbrev pub AreApart : Tables → ℕ → List ℕ → Type 0
AreApart tables number [] = Unit {0}
AreApart tables number (key ∷ keys) =
    ((bounds : List Bound) (written : Option WrittenName) → is_of_key tables bounds number key written ≡ true →
    IsOfNone tables bounds number written keys) × AreApart tables number keys

-- so it is with the keys of every data node, as in a schema that modules define
abbrev pub HasKeysApart : Tables → Type 0
HasKeysApart tables = (number : ℕ) → AreApart tables number (key_nodes tables number)
