-- What is left of an output to which a text was to be appended.
use Rattle.std.specs.Prelude.{◌≡◌, ℕ, List, ◌++◌, Result, MatchResult}

-- the new bytes begin with the old ones
pub record Extends (old new : List ℕ) : Type 0 where
  pub more : List ℕ
  pub is : new ≡ old ++ more

-- at Ok the text was appended; else perhaps a part of something was
abbrev pub Appends : {T E : Type 0} → Result T E → List ℕ → List ℕ → List ℕ → Type 0
Appends result old new text = MatchResult result (λ _. new ≡ old ++ text) (λ _. Extends old new)
