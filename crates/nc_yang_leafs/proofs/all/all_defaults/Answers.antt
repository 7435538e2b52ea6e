use Rattle.std.proofs.Common.{◌≡◌, ◌<◌, [], ◌∷◌, length, ap, sym, subst, arith}
use Rattle.std.specs.Prelude.{MatchResult}
use Rattle.std.proofs.lemmas.List.{length-append}
use Rattle.std.proofs.lemmas.Result.{err_from_is_err_and}
use Rattle.nc_yang_leafs.specs.Defaults.{BreaksDefault}
use Rattle.nc_yang_statements.specs.Stops.{OnBroken}
use Rattle.nc_yang_leafs.specs.inner.Reading.{AreFound}
use Rattle.nc_yang_leafs.proofs.NodeLemmas.{found_more, found_stop}
use Rattle.nc_yang_leafs.proofs.all.all_defaults.Goals as goal

pub returns-in_err-defaults_at-clause-found : goal.returns-in_err-defaults_at-clause-found
returns-in_err-defaults_at-clause-found c = λ are typed.
    let p = err_from_is_err_and c.from_residual.result c.from_residual.ensures.1 in
    let scoping = c.args.scopes.now in
    let plan = c.args.plan.now in
    let tables = c.args.schema.now in
    subst (λ r. MatchResult r (AreFound scoping plan tables (length tables.nodes)) (OnBroken (BreaksDefault scoping plan tables))) (sym p.1)
    (subst (OnBroken (BreaksDefault scoping plan tables)) (sym p.2)
    (found_stop scoping plan tables typed c.loop-number.number c.loop-number.found (c.loop-number.invariant.found are typed) c.in_err-defaults_at.field-0.0
    (subst (λ n. c.loop-number.number < n) c.nodes-number-end.ensures.number c.loop-number-test.true) (c.in_err-defaults_at.ensures are)))

pub loop-number-preserved : goal.loop-number-preserved
loop-number-preserved c = record {
  found = λ are typed.
      found_more c.args.scopes.now c.args.plan.now c.args.schema.now typed c.loop-number.number c.loop-number.found (c.loop-number.invariant.found are typed)
      c.in_ok-defaults_at.field-0 c.push.new.self (c.in_ok-defaults_at.ensures are) c.in_ok-push.ensures.ok;
  counted =
      let new_is = ap length c.in_ok-push.ensures.ok in
      let long = length-append c.loop-number.found (c.in_ok-defaults_at.field-0 ∷ []) in
      omega (arith, new_is, long, c.loop-number.invariant.counted);
}

pub returns : goal.returns
returns c =
    let same : c.loop-number.number ≡ length c.args.schema.now.nodes = omega (arith, c.loop-number-test.false, c.loop-number.auto.number-end, c.nodes-number-end.ensures.number) in
    record {
      found = λ are typed. subst (λ n. AreFound c.args.scopes.now c.args.plan.now c.args.schema.now n c.loop-number.found) same (c.loop-number.invariant.found are typed);
      counted = omega (arith, same, c.loop-number.invariant.counted);
    }
