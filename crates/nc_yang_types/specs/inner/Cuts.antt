-- Texts that are cut in two, and parts that are left to be read.
use Rattle.std.specs.Prelude.{◌≡◌, ◌==◌, ◌<◌, ◌++◌, ℕ, List, [], Option, Some, None, length, MatchOption, option_map}
use Rattle.std.specs.Borrow.{Bor}
use Rattle.std.specs.List.{after_first, before_first, position_or_len, slice_split}
use Rattle.nc_names.specs.Signs.{bar}
use Rattle.nc_schema.specs.declared.value_type.Between.{Between}
use Rattle.nc_yang_types.specs.Ranges.{around_dots}

-- the parts before and after the first such sign, where there is one
abbrev pub SplitsAt : ℕ → List ℕ → Option (Bor (List ℕ) × Bor (List ℕ)) → Type 0
SplitsAt sign text found =
    MatchOption found (position_or_len (λ c. c == sign) text ≡ length text)
    (λ x. (x.0.now ≡ before_first (λ c. c == sign) text) × (x.1.now ≡ after_first (λ c. c == sign) text)
    × (position_or_len (λ c. c == sign) text < length text))

-- the parts before and after `..`, where it stands
abbrev pub SplitsAtDots : List ℕ → Option (Bor (List ℕ) × Bor (List ℕ)) → Type 0
SplitsAtDots text found = MatchOption found (around_dots text ≡ None) (λ x. around_dots text ≡ Some (x.0.now, x.1.now))

-- the parts between bars that are left
abbrev pub parts_left : Option (List ℕ) → List (List ℕ)
parts_left None = []
parts_left (Some text) = slice_split (λ c. c == bar) text

-- more parts after these
abbrev pub joined : List Between → Option (List Between) → Option (List Between)
joined before more = option_map (λ parts. before ++ parts) more
