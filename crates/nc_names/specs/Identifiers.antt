-- Identifiers.
use Rattle.std.specs.Prelude.{ℕ, Bool, false, ◌&&◌, List, [], ◌∷◌, IsTrue}
use Rattle.std.specs.List.{list_all}
use Rattle.nc_names.specs.Signs.{begins_identifier, is_in_identifier}

-- the text is an identifier (RFC 7950 6.2)
abbrev pub is_identifier : List ℕ → Bool
is_identifier [] = false
is_identifier (first ∷ rest) = begins_identifier first && list_all is_in_identifier rest

-- the same as a fact
abbrev pub IsIdentifier : List ℕ → Type 0
IsIdentifier text = IsTrue (is_identifier text)
