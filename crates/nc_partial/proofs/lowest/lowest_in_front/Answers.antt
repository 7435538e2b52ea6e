use Rattle.std.proofs.Common.{sym, ◌∙◌}
use Rattle.nc_partial.proofs.SearchLemmas.{stops}
use Rattle.nc_partial.proofs.lowest.lowest_in_front.Goals as goal

pub returns-then-not-is_at : goal.returns-then-not-is_at
returns-then-not-is_at c =
    stops c.args.below c.args.steps.now c.args.other_than c.args.entries.now c.loop-entry.entry-index c.entry-item.result c.loop-entry.lowest
    c.requires c.loop-entry-test.true c.entry-item.is (sym c.is_at.ensures ∙ c.if-not-is_at.true) c.loop-entry.invariant
