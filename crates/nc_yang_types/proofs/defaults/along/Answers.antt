use Rattle.std.proofs.Common.{◌+◌, get_or, refl, subst, sym, take}
use Rattle.nc_yang_types.specs.Defaults.{IsDefault}
use Rattle.nc_yang_types.specs.Numbers.{OnNumber}
use Rattle.nc_yang_types.specs.inner.Footings.{IsFooting}
use Rattle.nc_yang_types.specs.inner.KnownTypes.{AreKnown, KnowsBase}
use Rattle.nc_yang_types.proofs.DefaultLemmas.{known_more, known_none, known_within}
use Rattle.nc_yang_types.proofs.defaults.along.Goals as goal

pub loop-number-init : goal.loop-number-init
loop-number-init c = known_none c.args.scopes.now _ c.in_ok-defaults.defaults c.requires.footings.counted c.in_ok-defaults.ensures

pub loop-number-preserved : goal.loop-number-preserved
loop-number-preserved c =
    subst (λ z. AreKnown c.args.scopes.now (take (c.loop-number.number-index + 1) c.args.order.now) z) (sym c.set.ensures)
    (known_more c.args.footings.now c.args.order.now c.requires.order c.loop-number.number-index _ c.loop-number-test.true refl
    c.args.scopes.now c.requires.footings c.loop-number.defaults c.loop-number.invariant c.footing_of-footing.result c.footing_of-footing.ensures c.brought-default.result
    (subst
    (λ z. OnNumber c.args.scopes.now (get_or c.args.order.now c.loop-number.number-index 0) (λ l. IsFooting c.args.scopes.now l c.footing_of-footing.result → KnowsBase c.args.scopes.now z c.footing_of-footing.result →
    IsDefault c.args.scopes.now l c.brought-default.result))
    c.as_slice.ensures c.brought-default.ensures))

pub set-requires : goal.set-requires
set-requires c =
    known_within c.args.footings.now c.args.order.now c.requires.order c.loop-number.number-index _ c.loop-number-test.true refl
    c.args.scopes.now c.requires.footings c.loop-number.defaults c.loop-number.invariant
