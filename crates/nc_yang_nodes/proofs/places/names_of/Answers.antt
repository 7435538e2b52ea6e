use Rattle.std.proofs.Common.{arith}
use Rattle.std.proofs.lemmas.Option.{slice_get-get_or}
use Rattle.nc_yang_nodes.proofs.PlaceLemmas.{firsts_all, firsts_step}
use Rattle.nc_yang_nodes.proofs.places.names_of.Goals as goal

pub loop-place-preserved : goal.loop-place-preserved
loop-place-preserved c = λ ls are.
    firsts_step c.args.scopes.now c.args.list.now ls c.loop-place.place _ c.loop-place.names c.in_ok-names.names are
    (slice_get-get_or c.args.list.now c.loop-place.place _ c.loop-place-test.true) (c.loop-place.invariant ls are) c.in_ok-names.ensures

pub returns : goal.returns
returns c = λ ls are. firsts_all c.args.scopes.now.located c.args.list.now ls c.loop-place.place c.loop-place.names are (omega arith) (c.loop-place.invariant ls are)
