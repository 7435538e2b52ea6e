-- What stands at the ends of a text.
use Rattle.std.specs.Prelude.{ℕ, zero, suc, Bool, false, if◌then◌else◌, List, [], ◌∷◌, slice_index}
use Rattle.std.specs.List.{list_all}
use Rattle.nc_names.specs.Signs.{is_white}

-- the text without the signs at its front that pass
abbrev pub past : (ℕ → Bool) → List ℕ → List ℕ
past p [] = []
past p (c ∷ cs) = if p c then past p cs else c ∷ cs

-- the text without the signs at its end that pass
abbrev pub without_last : (ℕ → Bool) → List ℕ → List ℕ
without_last p [] = []
without_last p (c ∷ cs) = if list_all p (c ∷ cs) then [] else c ∷ without_last p cs

-- the sign before a place passes; the places are counted from 0
abbrev pub last_passes : (ℕ → Bool) → List ℕ → (place : ℕ) → Bool
last_passes p text zero = false
last_passes p text (suc k) = p (slice_index text k)

-- the text without white space at its front (`S` of XML 1.0, 2.3)
abbrev pub after_white : List ℕ → List ℕ
after_white text = past is_white text

-- the text without white space at both ends
abbrev pub trimmed : List ℕ → List ℕ
trimmed text = without_last is_white (after_white text)
