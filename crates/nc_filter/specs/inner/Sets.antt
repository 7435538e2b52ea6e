-- Sets of the numbers of instances: a few numbers as a list, more of them as bits, 64 to a word.
use Rattle.std.specs.Prelude.{◌==◌, ◌||◌, ◌/◌, ◌%◌, ℕ, Bool, List, slice_index}
use Rattle.std.specs.Int.{bit_at}
use Rattle.std.specs.List.{list_any}
use Rattle.nc_filter.specs.declared.members.Members.{Members}

-- a number's bit, counted from the lowest of the first word
abbrev pub bit_of : List ℕ → ℕ → Bool
bit_of words n = bit_at (slice_index words (n / 64)) (n % 64) == 1

-- a number is in the list or among the bits
abbrev pub has : Members → ℕ → Bool
has members n = list_any (λ one. one == n) members.few || bit_of members.words n
