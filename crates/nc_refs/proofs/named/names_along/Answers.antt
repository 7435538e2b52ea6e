use Rattle.std.proofs.Common.{sym, ◌∙◌}
use Rattle.nc_refs.specs.inner.Named.{names}
use Rattle.nc_refs.proofs.NamedLemmas.{either_true, found_above, not_above}
use Rattle.nc_refs.proofs.named.names_along.Goals as goal

pub returns-then-branch-2 : goal.returns-then-branch-2
returns-then-branch-2 c =
    sym (either_true (names c.args.schema.now c.args.text.now c.args.steps.now) _
    (found_above (names c.args.schema.now c.args.text.now) c.args.steps.now c.loop-at.at c.loop-at-test.true c.loop-at.invariant
    (sym c.in_ok-names-2.ensures ∙ c.if-branch-2.true)))

pub loop-at-preserved : goal.loop-at-preserved
loop-at-preserved c =
    not_above (names c.args.schema.now c.args.text.now) c.args.steps.now c.loop-at.at c.loop-at-test.true c.loop-at.invariant
    (sym c.in_ok-names-2.ensures ∙ c.if-branch-2.false)
