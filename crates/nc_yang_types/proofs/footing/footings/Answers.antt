use Rattle.std.proofs.Common.{◌+◌, ◌≤◌, length, sym, subst, arith}
use Rattle.nc_yang_types.specs.inner.Footings.{AreFootings}
use Rattle.nc_yang_types.proofs.FootingLemmas.{footings_all, footings_more}
use Rattle.nc_yang_types.proofs.footing.footings.Goals as goal

pub loop-number-preserved : goal.loop-number-preserved
loop-number-preserved c =
    subst (λ z. AreFootings c.args.scopes.now (c.loop-number.number + 1) z) (sym c.in_ok-push.ensures.ok)
    (footings_more c.args.scopes.now c.loop-number.number c.loop-number.footings c.rests_on.result c.loop-number.invariant (omega arith) c.rests_on.ensures)

pub returns : goal.returns
returns c =
    let past : length c.args.scopes.now.located ≤ c.loop-number.number = omega arith in
    footings_all c.args.scopes.now c.loop-number.number c.loop-number.footings c.loop-number.invariant past
