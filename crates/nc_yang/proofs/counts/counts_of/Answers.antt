use Rattle.std.proofs.Common.{◌∙◌, ◌≤◌, arith, map, subst, sym, ap}
use Rattle.std.specs.Cmp.Lexicographic.{same_text}
use Rattle.nc_yang.specs.inner.Marked.{AreCounts, asked_with, count_at}
use Rattle.nc_yang.proofs.CountLemmas.{counts_at_first, counts_next, counts_stay}
use Rattle.nc_yang.proofs.counts.counts_of.Goals as goal

pub loop-init : goal.loop-init
loop-init c = subst (AreCounts c.args.schema.now 0) (sym c.new-counts.ensures) (counts_at_first c.args.schema.now)

pub loop-preserved : goal.loop-preserved
loop-preserved c =
    counts_next c.args.schema.now c.loop.counter c.loop.counts c.in_ok-more.more c.loop.invariant
    (c.in_ok-more.ensures ∙ ap (λ counts. map (asked_with c.args.schema.now (count_at counts)) c.args.schema.now.types) c.as_slice.ensures)

pub returns-then-eq : goal.returns-then-eq
returns-then-eq c =
    let less : c.loop.counter ≤ c.args.levels = omega arith in
    counts_stay c.args.schema.now c.loop.counter c.args.levels c.loop.counts less c.loop.invariant
    (sym (same_text c.in_ok-more.more c.loop.counts c.if-eq.ensures) ∙ c.in_ok-more.ensures
    ∙ ap (λ counts. map (asked_with c.args.schema.now (count_at counts)) c.args.schema.now.types) c.as_slice.ensures)
