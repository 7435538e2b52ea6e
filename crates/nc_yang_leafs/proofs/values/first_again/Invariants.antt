use Rattle.std.proofs.Common.{◌≢◌, take}
use Rattle.std.specs.List.{AllPairs}
use Rattle.nc_yang_leafs.proofs.ReadLemmas.{HasSeen}
use Rattle.nc_yang_leafs.proofs.values.first_again.Given as goal

abbrev pub invariant-loop-place : goal.invariant-loop-place
invariant-loop-place l = record {
  apart : AllPairs (λ one later. one ≢ later) (take l.place l.values);
  names : HasSeen l.seen (take l.place l.values);
}
