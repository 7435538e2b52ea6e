-- The end-of-message mark (RFC 6242 4.3).
use Rattle.std.specs.Prelude.{◌≡◌, ◌≢◌, ℕ, List, [], ◌∷◌, ◌++◌}
use Rattle.nc_names.specs.Signs.{closing_bracket, greater_than}

-- `]]>]]>`
abbrev pub mark : List ℕ
mark =
    closing_bracket ∷ closing_bracket ∷ greater_than ∷ closing_bracket ∷ closing_bracket ∷ greater_than ∷ []

-- the mark stands nowhere in the bytes
abbrev pub HasNoMark : List ℕ → Type 0
HasNoMark bytes = (before after : List ℕ) → bytes ≢ before ++ (mark ++ after)

-- the message as it is sent, with the mark after it
abbrev pub with_mark : List ℕ → List ℕ
with_mark message = message ++ mark

-- in the message with its mark the mark stands only at the end
abbrev pub IsMarked : List ℕ → Type 0
IsMarked message = (before after : List ℕ) → with_mark message ≡ before ++ (mark ++ after) → after ≡ []
