use Rattle.std.proofs.Common.{◌∙◌, [], sym}
use Rattle.std.specs.Option.{option_copied}
use Rattle.nc_validate.proofs.ApartLemmas.{all_risen, fallen, risen}
use Rattle.nc_validate.proofs.apart.rise.Goals as goal

pub loop-value-preserved : goal.loop-value-preserved
loop-value-preserved c =
    risen (option_copied c.loop-value.last) c.args.values.now c.loop-value.value-index _ (record { ref_ptr = (0, 0); now = [] }) c.loop-value-test.true
    (sym c.comes_after.ensures ∙ c.if-not-comes_after.false) c.loop-value.invariant

pub returns-then-not-comes_after : goal.returns-then-not-comes_after
returns-then-not-comes_after c =
    fallen (option_copied c.loop-value.last) c.args.values.now c.loop-value.value-index _ (record { ref_ptr = (0, 0); now = [] }) c.loop-value-test.true
    (sym c.comes_after.ensures ∙ c.if-not-comes_after.true) c.loop-value.invariant

pub returns : goal.returns
returns c = all_risen (option_copied c.loop-value.last) c.args.values.now c.loop-value.value-index _ c.loop-value-test.false c.loop-value.invariant
