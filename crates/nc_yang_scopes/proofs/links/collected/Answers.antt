use Rattle.std.proofs.Common.{[], sym, subst}
use Rattle.nc_yang_scopes.specs.inner.Links.{Collects}
use Rattle.nc_yang_scopes.proofs.Linking.{all_done, none_yet, one_more}
use Rattle.nc_yang_scopes.proofs.links.collected.Goals as goal

pub loop-number-init : goal.loop-number-init
loop-number-init c =
    subst (Collects c.args.scopes.now c.args.sort c.args.marks.now []) (sym c.new-links.ensures)
    (none_yet c.args.scopes.now c.args.sort c.args.marks.now)

pub loop-number-preserved : goal.loop-number-preserved
loop-number-preserved c =
    one_more c.args.scopes.now c.args.sort c.args.marks.now c.args.numbers.now c.loop-number.number-index c.loop-number.links c.add_link.new.links
    c.loop-number-test.true c.in_ok-add_link.ensures c.loop-number.invariant

pub returns : goal.returns
returns c =
    all_done c.args.scopes.now c.args.sort c.args.marks.now c.args.numbers.now c.loop-number.number-index c.loop-number.links
    c.loop-number-test.false c.loop-number.invariant
