-- Numbers up to one past the last code of a character.
use Rattle.std.specs.Prelude.{◌≡◌, ◌⊎◌, ℕ, min}

-- digits are decimal or hexadecimal, as those of a character reference
abbrev pub IsRadix : ℕ → Type 0
IsRadix radix = (radix ≡ 10) ⊎ (radix ≡ 16)

-- one past the last code of a character
abbrev pub past_characters : ℕ
past_characters = 1114112

-- a number, or that one where it is greater
abbrev pub capped : ℕ → ℕ
capped n = min n past_characters
