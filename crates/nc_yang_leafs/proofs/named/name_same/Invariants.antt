use Rattle.nc_yang_leafs.proofs.NamedLemmas.{NameFirst}
use Rattle.nc_yang_leafs.proofs.named.name_same.Given as goal

abbrev pub invariant-loop-place : goal.invariant-loop-place
invariant-loop-place l = NameFirst l.scopes l.bases l.others l.place
