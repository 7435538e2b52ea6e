use Rattle.std.proofs.Common.{◌∙◌, ◌++◌, ℕ, List, Bor, ap}
use Rattle.nc_validate.specs.inner.Tuples.{texts}
use Rattle.nc_validate.proofs.ApartLemmas.{entry_more}
use Rattle.nc_validate.proofs.apart.values_in.Goals as goal

pub loop-entry-preserved : goal.loop-entry-preserved
loop-entry-preserved c =
    entry_more c.args.children.now c.args.leaf c.args.config.now c.args.entries.now c.loop-entry.entry-index c.entry-item.result
    c.loop-entry.out c.in_ok-out.out c.in_ok-values.values c.loop-entry-test.true c.entry-item.is
    (c.in_ok-out.ensures ∙ ap (λ (vs : List (Bor (List ℕ))). texts c.loop-entry.out ++ texts vs) c.as_slice.ensures) c.in_ok-values.ensures c.loop-entry.invariant
