use Rattle.std.proofs.Common.{[], ◌∷◌, length, refl, sym, ap, ◌∙◌, arith}
use Rattle.std.proofs.lemmas.List.{length-append}
use Rattle.nc_yang_leafs.proofs.ReadLemmas.{read_more, read_stops}
use Rattle.nc_yang_leafs.proofs.values.read_all.Goals as goal

pub returns-in-None-clause-read : goal.returns-in-None-clause-read
returns-in-None-clause-read c = λ are ls numbers.
    read_stops c.args.scopes.now c.args.schema.now c.args.number c.args.defaults.now c.loop-default.default-index _ c.loop-default-test.true refl
    c.loop-default.values (c.loop-default.invariant.read are) (λ d here. sym c.in-None.is ∙ c.in_ok-found.ensures are d here) ls numbers

pub loop-default-preserved : goal.loop-default-preserved
loop-default-preserved c = record {
  read = λ are ls numbers.
      read_more c.args.scopes.now c.args.schema.now c.args.number c.args.defaults.now c.loop-default.default-index _ c.loop-default-test.true refl
      c.loop-default.values c.push.new.self c.in-Some.found (c.loop-default.invariant.read are) (λ d here. sym c.in-Some.is ∙ c.in_ok-found.ensures are d here)
      c.in_ok-push-in-Some.ensures.ok ls numbers;
  few =
      let new_is = ap length c.in_ok-push-in-Some.ensures.ok in
      let long = length-append c.loop-default.values (c.in-Some.found ∷ []) in
      omega (arith, new_is, long, c.loop-default.invariant.few);
}
