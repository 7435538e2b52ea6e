-- How the texts of a language are read up to a place, and the place at which a text leaves it.
use Rattle.std.specs.Prelude.{◌≡◌, ◌-◌, ℕ, List, [], ◌∷◌, ◌++◌, length, Option, Some, None}

-- the sign that stands first
abbrev pub first_sign : List ℕ → Option ℕ
first_sign [] = None
first_sign (c ∷ cs) = Some c

-- a text of the first language has been read up to the rest: what stood before the rest is followed in that
-- language by the texts of the second one alone
pub record Leads (L M : List ℕ → Type 0) (text rest : List ℕ) : Type 0 where
  pub chunk : List ℕ
  pub is : text ≡ chunk ++ rest
  pub into : (next : List ℕ) → M next → L (chunk ++ next)
  pub back : (next : List ℕ) → first_sign next ≡ first_sign rest → L (chunk ++ next) → M next

-- so many signs are left of a text where it stops to be the beginning of a text of the language
pub record Halts (L : List ℕ → Type 0) (text : List ℕ) (left : ℕ) : Type 0 where
  pub front : List ℕ
  pub rest : List ℕ
  pub is : text ≡ front ++ rest
  pub long : length rest ≡ left
  pub more : List ℕ
  pub before : L (front ++ more)
  pub there : (c : ℕ) (cs next : List ℕ) → rest ≡ c ∷ cs → L (front ++ c ∷ next) → ⊥

-- the place at which a text stops to be the beginning of a text of the language
abbrev pub IsPlaceIn : (List ℕ → Type 0) → List ℕ → ℕ → Type 0
IsPlaceIn L text at = (left : ℕ) × Halts L text left × (at ≡ length text - left)
