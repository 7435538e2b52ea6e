-- The text of a number in units.
use Rattle.std.proofs.Common.{◌++◌, ap, ◌∙◌}
use Rattle.std.specs.Int.{w128}
use Rattle.std.specs.Prelude.{ℤ, nat_abs}
use Rattle.std.proofs.lemmas.Int.{to_z-of_z}
use Rattle.nc_schema.specs.NumberTexts.{sign_of}
use Rattle.nc_types.proofs.DecimalLemmas.{units_whole}
use Rattle.nc_types.proofs.decimal.print_units.Goals as goal

pub returns : goal.returns
returns c =
    let same = to_z-of_z w128 c.args.units c.ranges.units in
    units_whole c.args.digits c.args.units c.size_of-size.result c.power_of_ten.result c.in_ok-whole.whole c.in_ok-fraction.fraction c.as_str.result.now c.as_str-2.result.now
    c.new-out.result c.push_sign.new.out c.push_str.new.self c.push_str-2.new.self c.push_shortened.new.out
    (c.size_of-size.ensures ∙ ap nat_abs same) c.power_of_ten.ensures.power c.in_ok-whole.ensures c.in_ok-fraction.ensures c.as_str.ensures c.as_str-2.ensures
    c.new-out.ensures (c.in_ok-push_sign.ensures ∙ ap (λ (u : ℤ). c.new-out.result ++ sign_of u) same) c.in_ok-push_str.ensures.ok c.in_ok-push_str-2.ensures.ok c.in_ok-push_shortened.ensures
