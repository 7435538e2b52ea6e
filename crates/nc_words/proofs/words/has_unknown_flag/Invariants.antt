use Rattle.std.proofs.Common.{◌≡◌, map, drop, string_bytes}
use Rattle.std.specs.List.{list_any}
use Rattle.nc_words.specs.Words as meant
use Rattle.nc_words.proofs.words.has_unknown_flag.Given as goal

abbrev pub invariant-loop-word : goal.invariant-loop-word
invariant-loop-word l =
    list_any meant.is_unknown_flag (map string_bytes (drop l.word-index l.words))
    ≡ list_any meant.is_unknown_flag (map string_bytes l.words)
