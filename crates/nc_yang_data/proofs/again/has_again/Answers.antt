use Rattle.std.proofs.Common.{sym, ◌∙◌}
use Rattle.nc_yang_data.proofs.SeenLemmas.{seen_again, seen_more}
use Rattle.nc_yang_data.proofs.again.has_again.Goals as goal

pub returns-then-contains : goal.returns-then-contains
returns-then-contains c =
    seen_again c.args.numbers.now c.loop-number.number-index c.loop-number.seen c.loop-number-test.true
    (sym c.contains.ensures ∙ c.if-contains.true) c.loop-number.invariant

pub loop-number-preserved : goal.loop-number-preserved
loop-number-preserved c =
    seen_more c.args.numbers.now c.loop-number.number-index c.loop-number.seen c.in_ok-seen.seen c.loop-number-test.true
    (sym c.contains.ensures ∙ c.if-contains.false) c.in_ok-seen.ensures c.loop-number.invariant
