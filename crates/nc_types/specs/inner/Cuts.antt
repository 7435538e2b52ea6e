-- Texts that are cut in two.
use Rattle.std.specs.Prelude.{◌≡◌, ◌==◌, ◌<◌, ℕ, List, Option, length, MatchOption}
use Rattle.std.specs.Borrow.{Bor}
use Rattle.std.specs.List.{after_first, before_first, position_or_len}
use Rattle.nc_names.specs.Signs.{colon, dot}

-- the parts before and after the first such sign, where there is one
abbrev pub SplitsAt : ℕ → List ℕ → Option (Bor (List ℕ) × Bor (List ℕ)) → Type 0
SplitsAt sign text found =
    MatchOption found (position_or_len (λ c. c == sign) text ≡ length text)
    (λ x. (x.0.now ≡ before_first (λ c. c == sign) text) × (x.1.now ≡ after_first (λ c. c == sign) text)
    × (position_or_len (λ c. c == sign) text < length text))

-- the same of the first colon
abbrev pub SplitsAtColon : List ℕ → Option (Bor (List ℕ) × Bor (List ℕ)) → Type 0
SplitsAtColon text found = SplitsAt colon text found

-- the same of the first point
abbrev pub SplitsAtDot : List ℕ → Option (Bor (List ℕ) × Bor (List ℕ)) → Type 0
SplitsAtDot text found = SplitsAt dot text found
