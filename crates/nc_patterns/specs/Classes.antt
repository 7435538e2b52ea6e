-- Classes in brackets, by their members.
use Rattle.std.specs.Prelude.{ℕ, ◌≤◌, ◌==◌, ◌||◌, ◌&&◌, ◌≡◌, not, nat_le, Bool, true, false, List, [], ◌∷◌, ◌++◌, codes}
use Rattle.std.specs.List.{flat_map, list_any}
use Rattle.std.specs.Int.{is_in_range}
use Rattle.regex.specs.Patterns.{default_config}
use Rattle.regex_syntax.specs.Grammar.{atom}
use Rattle.regex_syntax.specs.Reading.{Text}
use Rattle.nc_patterns.specs.Translation.{quoted_text}
use Rattle.nc_patterns.specs.Laws.{as_class}

-- a member of a class, but for categories: a character, a range, `\d` or `\s`
pub data Member : Type 0 where
  one : ℕ → Member
  between : (low high : ℕ) → low ≤ high → Member
  digits : Member
  spaces : Member

-- as it is written
abbrev pub text_of : Member → Text
text_of (one c) = quoted_text c
text_of (between low high h) = quoted_text low ++ (0x2D ∷ quoted_text high)
text_of digits = codes "[0-9]"
text_of spaces = codes "[ \\t\\n\\r]"

-- its characters
abbrev pub set_of : Member → ℕ → Bool
set_of (one c) = λ d. d == c
set_of (between low high h) = is_in_range low high
set_of digits = is_in_range 0x30 0x39
set_of spaces = λ c. c == 0x20 || (c == 0x09 || (c == 0x0A || c == 0x0D))

-- members as they are written
abbrev pub texts : List Member → Text
texts = flat_map text_of

-- a class of all others begins with it
abbrev pub caret : Bool → Text
caret true = 0x5E ∷ []
caret false = []

-- the characters of a class: those of a member, or all others
abbrev pub in_class : Bool → List Member → ℕ → Bool
in_class true ms c = nat_le c 0x10_FFFF && not (list_any (λ m. set_of m c) ms)
in_class false ms c = list_any (λ m. set_of m c) ms

-- `regex` reads the class as its characters, whatever follows
abbrev pub IsReadAsClass : Bool → Member → List Member → Text → Type 0
IsReadAsClass negated m ms t =
    (depth : ℕ) × (atom default_config (0x5B ∷ (caret negated ++ (texts (m ∷ ms) ++ (0x5D ∷ t))))
    ≡ as_class (in_class negated (m ∷ ms)) depth t)
