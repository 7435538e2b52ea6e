use Rattle.std.proofs.Common.{◌≡◌, ◌++◌, map, drop, string_bytes}
use Rattle.nc_words.specs.Words as meant
use Rattle.nc_words.proofs.words.groups_of.Given as goal

abbrev pub invariant-loop-word : goal.invariant-loop-word
invariant-loop-word l =
    l.groups ++ meant.arguments (map string_bytes (drop l.word-index l.words))
    ≡ meant.arguments (map string_bytes l.words)
