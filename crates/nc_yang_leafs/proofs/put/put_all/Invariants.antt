use Rattle.std.proofs.Common.{◌≡◌, length}
use Rattle.nc_yang_leafs.proofs.PutLemmas.{Underway}
use Rattle.nc_yang_leafs.proofs.put.put_all.Given as goal

abbrev pub invariant-loop-values : goal.invariant-loop-values
invariant-loop-values l = record {
  counted : length l.found ≡ l.number;
  underway : Underway l.fn.found l.found l.fn.schema l.schema;
}

abbrev pub decreases-loop-values : goal.decreases-loop-values
decreases-loop-values l = length l.found
