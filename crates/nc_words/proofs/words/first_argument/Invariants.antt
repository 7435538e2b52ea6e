use Rattle.std.proofs.Common.{◌≡◌, map, drop, string_bytes}
use Rattle.nc_words.specs.Words as meant
use Rattle.nc_words.proofs.words.first_argument.Given as goal

abbrev pub invariant-loop-place : goal.invariant-loop-place
invariant-loop-place l =
    meant.arguments (map string_bytes (drop l.place l.words)) ≡ meant.arguments (map string_bytes l.words)
