-- The bytes of names and of white space.
use Rattle.std.specs.Prelude.{ℕ, Bool, ◌==◌, ◌||◌, ◌&&◌, not, nat_le, List, map}
use Rattle.std.specs.Char.{to_ascii_lowercase}
use Rattle.nc_names.specs.Same.{is_same_text}
use Rattle.nc_names.specs.Signs.{begins_identifier, is_in_identifier, less_than, quote, apostrophe}

-- a byte with which a name, or what follows its colon, begins: an ASCII letter, `_`, or a byte of a
-- character past U+007F
abbrev pub begins_name : ℕ → Bool
begins_name c = begins_identifier c || nat_le 128 c

-- a byte with which it goes on
abbrev pub is_in_name : ℕ → Bool
is_in_name c = is_in_identifier c || nat_le 128 c

-- a byte of a quoted value (XML 1.0, 2.3): any but `<` and its quotation mark
abbrev pub is_in_value : (mark : ℕ) → ℕ → Bool
is_in_value mark c = not (c == less_than) && not (c == mark)

-- a byte of a run of text
abbrev pub is_in_run : ℕ → Bool
is_in_run c = not (c == less_than)

-- whether two texts differ at most in the case of ASCII letters
abbrev pub is_same_in_any_case : List ℕ → List ℕ → Bool
is_same_in_any_case a b = is_same_text (map to_ascii_lowercase a) (map to_ascii_lowercase b)

-- the quotation marks
abbrev pub is_quote : ℕ → Bool
is_quote c = c == quote || c == apostrophe
