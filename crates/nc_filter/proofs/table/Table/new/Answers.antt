use Rattle.std.proofs.Common.{◌+◌, ℕ, ap, subst}
use Rattle.nc_filter.specs.inner.Runs.{Marks, has_key}
use Rattle.nc_filter.proofs.MemberLemmas.{all_marked, run_marked}
use Rattle.nc_filter.proofs.table.Table.new.Goals as goal

pub loop-run-preserved : goal.loop-run-preserved
loop-run-preserved c = (
  ap (λ n. n + 1) c.loop-run.invariant.0,
  λ all index. run_marked c.args.basis.now.schema.now all c.args.upper c.loop-run.items c.in_ok-items.items c.args.rows.now c.loop-run.run-index c.run-item.result c.loop-run-test.true c.run-item.is
      (c.loop-run.invariant.1 all index)
      (subst (λ (n : ℕ). Marks c.loop-run.items c.in_ok-items.items (has_key c.args.basis.now.schema.now all c.args.upper c.run-item.result) n) c.loop-run.invariant.0 (c.in_ok-items.ensures all index)),
)

pub returns : goal.returns
returns c = λ all index. all_marked c.args.basis.now.schema.now all c.args.upper c.loop-run.items c.args.rows.now c.loop-run.run-index c.loop-run-test.false (c.loop-run.invariant.1 all index)
