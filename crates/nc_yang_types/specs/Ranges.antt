-- The arguments of `range` and `length` (RFC 7950 9.2.4, 9.4.4; 14, `range-arg` and `length-arg`).
use Rattle.std.specs.Prelude.{ℕ, ◌-◌, ◌==◌, ◌&&◌, not, Bool, true, if◌then◌else◌, List, [], ◌∷◌, length, ℤ, pos, ◌-ℤ◌, int_le, int_lt, Option, Some, None, option_map, codes}
use Rattle.std.specs.List.{list_all, list_any, slice_split, before_first}
use Rattle.std.specs.Ordering.{int_eq}
use Rattle.nc_names.specs.Ends.{trimmed}
use Rattle.nc_names.specs.Same.{is_same_text}
use Rattle.nc_names.specs.Signs.{bar, dot}
use Rattle.nc_schema.specs.NumberTexts.{fraction_of, number_of, units_of}
use Rattle.nc_schema.specs.PathWords.{◌>>=◌}
use Rattle.nc_schema.specs.declared.value_type.Between.{Between}
use Rattle.nc_yang_statements.specs.Arguments.{is_nothing, is_plain, is_visible_at, without_minus}
use Rattle.nc_yang_types.specs.declared.bound.Counted.{Counted}
use Rattle.nc_yang_types.specs.declared.bound.Counted.TheVariants.{Units, Lengths}

-- `min` and `max`, the lowest and the highest number of the base
unfoldable pub is_min : List ℕ → Bool
is_min text = is_same_text text (codes "min")

-- the word `max`
unfoldable pub is_max : List ℕ → Bool
is_max text = is_same_text text (codes "max")

-- a number, perhaps after a minus (`integer-value`)
abbrev pub is_integer : List ℕ → Bool
is_integer text = is_plain (without_minus text)

-- a point stands in it
abbrev pub has_dot : List ℕ → Bool
has_dot text = list_any (λ c. c == dot) text

-- an integer, perhaps with a point and digits after it (`integer-value`, `decimal-value`)
abbrev pub is_decimal : List ℕ → Bool
is_decimal text = is_integer (before_first (λ c. c == dot) text) && not (has_dot text && is_nothing (fraction_of text))

-- the number that is written: in units of the last of so many fraction digits, which are none of an integer type
-- (RFC 7950 9.2.4, 9.3.4), or the length, which is never below 0 (`non-negative-integer-value`)
abbrev pub number_in : Counted → List ℕ → Option ℤ
number_in (Units digits) text = if is_decimal text then units_of digits text else None
number_in Lengths text = if is_plain text then number_of text else None

-- a bound, where the base goes from its lowest to its highest number
abbrev pub bound : Counted → Between → List ℕ → Option ℤ
bound counted whole text =
    if is_min text then Some whole.least else (if is_max text then Some whole.most else number_in counted text)

-- what stands before the first `..`, and after it
abbrev pub around_dots : List ℕ → Option (List ℕ × List ℕ)
around_dots (a ∷ b ∷ rest) =
    if a == dot && b == dot then Some ([], rest)
    else option_map (λ found. (a ∷ found.0, found.1)) (around_dots (b ∷ rest))
around_dots text = None

-- the numbers from one bound to another; white space may stand round the bounds (`optsep`)
abbrev pub from_to : Counted → Between → List ℕ → List ℕ → Option Between
from_to counted whole low high = do
  least ← bound counted whole (trimmed low)
  most ← bound counted whole (trimmed high)
  Some (record { least = least; most = most })

-- a part: two bounds round `..`, or one that is both
abbrev pub part_of : Counted → Between → List ℕ → Option Between
part_of counted whole text =
    elim (around_dots text) [
      | None ↦ from_to counted whole text text
      | Some found ↦ from_to counted whole found.0 found.1
    ]

-- the parts of a range, each of which has a reading
abbrev pub parts_of : Counted → Between → List (List ℕ) → Option (List Between)
parts_of counted whole [] = Some []
parts_of counted whole (text ∷ texts) = do
  first ← part_of counted whole text
  more ← parts_of counted whole texts
  Some (first ∷ more)

-- the number is lower than each of the first part
abbrev pub is_below : ℤ → List Between → Bool
is_below number [] = true
is_below number (part ∷ parts) = int_lt number part.least

-- they ascend and share no number
abbrev pub are_ascending : List Between → Bool
are_ascending [] = true
are_ascending (part ∷ parts) = int_le part.least part.most && is_below part.most parts && are_ascending parts

-- the next part begins right after it
abbrev pub adjoins : Between → Between → Bool
adjoins part next = int_lt part.most next.least && int_eq (next.least -ℤ pos 1) part.most

-- a part with those after it, of which each that adjoins is one with the one before
abbrev pub merged_with : Between → List Between → List Between
merged_with part [] = part ∷ []
merged_with part (next ∷ parts) =
    if adjoins part next then merged_with (record { least = part.least; most = next.most }) parts
    else part ∷ merged_with next parts

-- parts that adjoin are one
abbrev pub merged : List Between → List Between
merged [] = []
merged (part ∷ parts) = merged_with part parts

-- all its numbers are those of one part of the base
abbrev pub holds : Between → Between → Bool
holds part over = int_le over.least part.least && int_le part.most over.most

-- a part lies within one of the base
abbrev pub lies_in : List Between → Between → Bool
lies_in base part = list_any (holds part) base

-- the highest number of the last part
abbrev pub highest : Between → List Between → ℤ
highest part [] = part.most
highest part (next ∷ parts) = highest next parts

-- from the lowest number to the highest
abbrev pub whole_of : List Between → Option Between
whole_of [] = None
whole_of (part ∷ parts) = Some (record { least = part.least; most = highest part parts })

-- no white space stands at its ends
abbrev pub is_tight : List ℕ → Bool
is_tight text = is_visible_at text 0 && is_visible_at text (length text - 1)

-- the parts may stand in a type over this base, whose adjoining parts are one
abbrev pub are_parts : List Between → List Between → Bool
are_parts base parts = are_ascending parts && list_all (lies_in (merged base)) parts

-- the numbers that a `range` or a `length` leaves of those of the base
abbrev pub restriction : Counted → List Between → List ℕ → Option (List Between)
restriction counted base text = do
  whole ← whole_of base
  parts ← parts_of counted whole (slice_split (λ c. c == bar) text)
  if is_tight text && are_parts base parts then Some parts else None
