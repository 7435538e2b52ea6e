use Rattle.std.proofs.Common.{◌≡◌, drop}
use Rattle.nc_yang_words.specs.Keywords.{is_keyword_rest}
use Rattle.nc_yang_words.proofs.keyword.is_keyword.Given as goal

abbrev pub invariant-loop-place : goal.invariant-loop-place
invariant-loop-place l = is_keyword_rest l.rest ≡ is_keyword_rest (drop l.place l.rest)
