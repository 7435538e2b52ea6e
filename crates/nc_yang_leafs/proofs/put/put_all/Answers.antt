use Rattle.std.proofs.Common.{◌≡◌, ◌-◌, [], ◌∷◌, length, refl, sym, ap, ◌∙◌, arith}
use Rattle.std.proofs.lemmas.List.{length-append}
use Rattle.nc_yang_leafs.proofs.PutLemmas.{underway_first, underway_last, underway_more}
use Rattle.nc_yang_leafs.proofs.put.put_all.Goals as goal

pub loop-values-init : goal.loop-values-init
loop-values-init c = record {
  counted = c.requires ∙ sym c.nodes-number.ensures.number;
  underway = underway_first c.args.found c.args.found c.args.schema.now c.args.schema.now refl refl;
}

pub loop-values-preserved : goal.loop-values-preserved
loop-values-preserved c =
    let longer = ap length c.in-Some.ensures in
    let long = length-append c.pop.new.self (c.in-Some.values ∷ []) in
    let counted : length c.pop.new.self ≡ c.loop-values.number - 1 = omega (arith, longer, long, c.loop-values.invariant.counted) in
    record {
      counted = counted;
      underway =
          underway_more c.args.found c.pop.new.self c.in-Some.values c.args.schema.now c.loop-values.schema c.put.new.schema (c.loop-values.number - 1) counted
          c.loop-values.found c.in-Some.ensures c.loop-values.invariant.underway c.in_ok-put.ensures;
    }

pub returns : goal.returns
returns c = underway_last c.args.found c.loop-values.found c.args.schema.now c.loop-values.schema c.in_default.ensures.0 c.loop-values.invariant.underway
