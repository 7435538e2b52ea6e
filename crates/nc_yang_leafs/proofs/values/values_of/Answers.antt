use Rattle.std.proofs.Common.{◌<◌, length, refl, ap, subst, arith}
use Rattle.std.specs.Prelude.{None, IfSome}
use Rattle.nc_yang_leafs.specs.inner.Reading.{AreRead, IsAgain, IsFirstAgain}
use Rattle.nc_yang_leafs.proofs.ReadLemmas.{stop_again_at, stop_lacks}
use Rattle.nc_yang_leafs.proofs.values.values_of.Goals as goal

pub returns-in-Some : goal.returns-in-Some
returns-in-Some c = λ are ls numbers.
    let within : c.in-Some.place < length c.as_slice.result.now = subst (λ o. IfSome o (λ place. place < length c.as_slice.result.now)) c.in-Some.is c.in_ok-place.ensures.within in
    let same = ap length c.as_slice.ensures in
    let few = c.in_ok-values.ensures.few in
    stop_again_at c.args.scopes.now c.args.schema.now c.args.number ls c.in_ok-values.values c.in_ok-values.stop c.in-Some.place _ c.args.defaults.now
    (omega (arith, within, same, few)) refl (c.in_ok-values.ensures.read are ls numbers)
    (subst (λ z. IsAgain z c.in-Some.place) c.as_slice.ensures (subst (IsFirstAgain c.as_slice.result.now) c.in-Some.is c.in_ok-place.ensures.again)) numbers

pub returns-in-Some-stop : goal.returns-in-Some-stop
returns-in-Some-stop c = λ are ls numbers.
    stop_lacks c.args.scopes.now c.args.schema.now c.args.number ls c.in_ok-values.values c.in-Some-stop.at
    (subst (AreRead c.args.scopes.now c.args.schema.now c.args.number ls c.in_ok-values.values) c.in-Some-stop.is (c.in_ok-values.ensures.read are ls numbers))
    (subst (λ z. IsFirstAgain z None) c.as_slice.ensures (subst (IsFirstAgain c.as_slice.result.now) c.in_default.is c.in_ok-place.ensures.again))
