-- Keywords.
use Rattle.std.specs.Prelude.{ℕ, Bool, true, false, ◌==◌, ◌&&◌, if◌then◌else◌, List, [], ◌∷◌}
use Rattle.nc_names.specs.Identifiers.{is_identifier}
use Rattle.nc_names.specs.Signs.{colon, plus, begins_identifier, is_in_identifier}

-- what follows the first character of a keyword
abbrev pub is_keyword_rest : List ℕ → Bool
is_keyword_rest [] = true
is_keyword_rest (c ∷ cs) = if c == colon then is_identifier cs else is_in_identifier c && is_keyword_rest cs

-- RFC 7950 6.1.2: a keyword is an identifier, or two joined by one colon
abbrev pub is_keyword : List ℕ → Bool
is_keyword [] = false
is_keyword (c ∷ cs) = begins_identifier c && is_keyword_rest cs

-- the word is the sign between the parts of a quoted string (RFC 7950 6.1.3)
abbrev pub is_plus : List ℕ → Bool
is_plus [] = false
is_plus (c ∷ []) = c == plus
is_plus (c ∷ d ∷ cs) = false
