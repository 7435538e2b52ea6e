use Rattle.std.proofs.Common.{◌∙◌, ◌+◌, ◌-◌, ◌/◌, arith, sym}
use Rattle.std.proofs.lemmas.Bool.{leb-false, leb-true}
use Rattle.nc_schema.specs.Record.{record_size}
use Rattle.nc_record.proofs.body.whole_size.Goals as goal

pub loop-low-init : goal.loop-low-init
loop-low-init c = omega arith

pub loop-low-smaller-then-is_within : goal.loop-low-smaller-then-is_within
loop-low-smaller-then-is_within c = omega (arith, c.loop-low-test.true)

pub loop-low-preserved-then-is_within : goal.loop-low-preserved-then-is_within
loop-low-preserved-then-is_within c =
    let middle = c.loop-low.low + (c.loop-low.high - c.loop-low.low) / 2 in
    let fits = leb-true (record_size c.args.config.now) middle (sym c.is_within.ensures ∙ c.if-is_within.true) in
    omega (arith, c.loop-low-test.true, c.loop-low.invariant.0, c.loop-low.invariant.1, c.loop-low.invariant.2, fits)

pub loop-low-smaller : goal.loop-low-smaller
loop-low-smaller c = omega (arith, c.loop-low-test.true)

pub loop-low-preserved : goal.loop-low-preserved
loop-low-preserved c =
    let middle = c.loop-low.low + (c.loop-low.high - c.loop-low.low) / 2 in
    let larger = leb-false (record_size c.args.config.now) middle (sym c.is_within.ensures ∙ c.if-is_within.false) in
    omega (arith, c.loop-low-test.true, c.loop-low.invariant.0, c.loop-low.invariant.1, c.loop-low.invariant.2, larger)

pub returns : goal.returns
returns c = omega (arith, c.loop-low-test.false, c.loop-low.invariant.0, c.loop-low.invariant.1)
