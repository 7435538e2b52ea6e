use Rattle.std.proofs.Common.{◌≡◌, ◌≤◌, ◌+◌, map, drop, string_bytes}
use Rattle.nc_words.specs.Words as meant
use Rattle.nc_words.proofs.words.count_recovery.Given as goal

abbrev pub invariant-loop-word : goal.invariant-loop-word
invariant-loop-word l =
    (l.count ≤ l.word-index)
    × (l.count + meant.count_recovery (map string_bytes (drop l.word-index l.words))
    ≡ meant.count_recovery (map string_bytes l.words))
