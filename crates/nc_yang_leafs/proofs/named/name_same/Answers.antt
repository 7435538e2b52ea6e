use Rattle.std.proofs.Common.{◌≡◌, length, refl, arith}
use Rattle.nc_yang_leafs.proofs.NamedLemmas.{first_all, first_more}
use Rattle.nc_yang_leafs.proofs.named.name_same.Goals as goal

pub loop-place-preserved : goal.loop-place-preserved
loop-place-preserved c =
    first_more c.args.scopes.now c.args.bases.now c.args.others.now c.loop-place.place _ c.in-Some.other.now c.loop-place.invariant c.loop-place-test.true refl
    c.in-Some.ensures.lookup.3.0 c.in-Some.ensures.lookup.1 (c.name_one.ensures c.if-not-name_one.false)

pub returns : goal.returns
returns c = λ e.
    let counted : length c.args.bases.now ≡ length c.args.others.now = grind arith in
    first_all c.args.scopes.now c.args.bases.now c.args.others.now c.loop-place.place counted (omega arith) c.loop-place.invariant
