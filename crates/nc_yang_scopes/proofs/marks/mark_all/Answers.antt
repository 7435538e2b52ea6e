use Rattle.nc_yang_scopes.proofs.Marking.{all_done, none_yet, one_more}
use Rattle.nc_yang_scopes.proofs.marks.mark_all.Goals as goal

pub loop-number-init : goal.loop-number-init
loop-number-init c = none_yet c.args.scopes.now c.args.keyword c.args.numbers.now c.args.marks.now

pub loop-number-preserved : goal.loop-number-preserved
loop-number-preserved c =
    one_more c.args.scopes.now c.args.keyword c.args.numbers.now c.loop-number.number-index c.args.marks.now c.loop-number.marks c.mark_if.new.marks
    c.loop-number-test.true c.mark_if.ensures c.loop-number.invariant

pub returns : goal.returns
returns c =
    all_done c.args.scopes.now c.args.keyword c.args.numbers.now c.loop-number.number-index c.args.marks.now c.loop-number.marks
    c.loop-number-test.false c.loop-number.invariant
