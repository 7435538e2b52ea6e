-- One choice more, and the end.
use Rattle.std.proofs.Common.{◌∙◌, sym}
use Rattle.nc_validate.proofs.ChoiceLemmas.{bare_more, bare_passed, bares_end}
use Rattle.nc_validate.proofs.outline.bares_of.Goals as goal

pub loop-number-preserved : goal.loop-number-preserved
loop-number-preserved c =
    bare_more c.args.firsts.now c.args.among.now c.loop-number.number _ c.loop-number.bares c.push.new.self _ c.loop-number-test.true
    c.index-among-number.is (sym c.has_first.ensures ∙ c.if-has_first.false) c.in_ok-push.ensures.ok c.loop-number.invariant

pub loop-number-preserved-then-has_first : goal.loop-number-preserved-then-has_first
loop-number-preserved-then-has_first c =
    bare_passed c.args.firsts.now c.args.among.now c.loop-number.number c.index-among-number.result c.loop-number.bares _ c.loop-number-test.true
    c.index-among-number.is (sym c.has_first.ensures ∙ c.if-has_first.true) c.loop-number.invariant

pub returns : goal.returns
returns c = bares_end c.args.firsts.now c.args.among.now c.loop-number.number c.loop-number.bares _ c.loop-number-test.false c.loop-number.invariant
