use Rattle.std.proofs.Common.{arith, sym, ◌∙◌}
use Rattle.nc_schema.specs.Places.{parts}
use Rattle.nc_defaults.specs.Within.{rows_between}
use Rattle.nc_defaults.specs.inner.Runs.{next_at}
use Rattle.nc_refs.proofs.BranchLemmas.{part_more, span_more}
use Rattle.nc_refs.proofs.branches.Branches.of.Goals as goal

pub part-preserved-in_ok-table : goal.part-preserved-in_ok-table
part-preserved-in_ok-table c =
    let rows = c.args.config.now in
    let at = c.part.at in
    let end = c.run_end-end.result in
    let left = parts c.args.depth (rows_between rows at c.args.here.to) in
    let rest = parts c.args.depth (rows_between rows end c.args.here.to) in
    let next = next_at c.args.depth rows at in
    let adds = c.in_ok-table.ensures in
    record {
      after = omega (arith, c.part.invariant.after, c.run_end-end.ensures.later);
      within = c.run_end-end.ensures.within;
      rest = λ key.
          part_more rows (at, end) c.part.table c.in_ok-table.table c.in-Some.step.now next left rest (sym c.in-Some.ensures) adds c.run_end-end.ensures.run key
          ∙ c.part.invariant.rest key;
      spans = span_more rows (at, end) c.part.table c.in_ok-table.table c.in-Some.step.now adds
          (omega (arith, c.run_end-end.ensures.later), omega (arith, c.run_end-end.ensures.within, c.requires)) c.part.invariant.spans;
    }
