use Rattle.std.proofs.Common.{refl}
use Rattle.nc_yang_types.proofs.FoundLemmas.{step_on, step_within}
use Rattle.nc_yang_types.proofs.planned.Meanings.along.Goals as goal

pub step-requires : goal.step-requires
step-requires g c = λ _. (
  (refl, tt),
  step_within c.args.footings.now c.args.order.now c.requires.order c.loop-number.number-index _ c.loop-number-test.true refl
      c.args.scopes.now c.loop-number.meanings (g.F.Features.on c.args.features.now) c.requires.footings c.loop-number.invariant,
)

pub loop-number-preserved : goal.loop-number-preserved
loop-number-preserved g c =
    step_on c.args.footings.now c.args.order.now c.requires.order c.loop-number.number-index _ c.loop-number-test.true refl
    c.args.scopes.now c.loop-number.meanings c.in_ok-meanings.meanings (g.F.Features.on c.args.features.now) c.footing_of-footing.result c.requires.footings c.loop-number.invariant
    c.footing_of-footing.ensures c.in_ok-meanings.ensures
