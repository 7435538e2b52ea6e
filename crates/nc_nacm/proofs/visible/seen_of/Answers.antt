use Rattle.std.proofs.Common.{List, map, Bor}
use Rattle.nc_names.specs.declared.path.Row.{Row}
use Rattle.nc_names.specs.declared.path.Step.{Step}
use Rattle.nc_nacm.proofs.Hiding.{all_told, still_unread, told_more}
use Rattle.nc_nacm.proofs.Trails.{all_rows, ref_more}
use Rattle.nc_nacm.proofs.visible.seen_of.Goals as goal

pub loop-one-preserved : goal.loop-one-preserved
loop-one-preserved g c =
    let p = g.R.Reads.reads c.args.reader.now in
    let nodes = map (λ (node : Bor (List Step)). node.now) c.loop-one.hidden in
    let new = map (λ (node : Bor (List Step)). node.now) c.push_hidden.new.out in
    record {
      trail = c.seen_after-seen.ensures;
      rows =
          ref_more p c.args.rows.now c.loop-one.one-index c.one-item.result c.as_slice-steps.result.now
          c.seen_after-seen.result (map (λ (row : Bor Row). row.now) c.loop-one.seen_rows) (map (λ (row : Bor Row). row.now) c.push_seen.new.out)
          c.loop-one-test.true c.one-item.is c.as_slice-steps.ensures c.seen_after-seen.ensures c.loop-one.invariant.rows c.in_ok-push_seen.ensures;
      unread =
          still_unread p c.as_slice-steps.result.now c.seen_after-seen.result nodes new c.seen_after-seen.ensures c.in_ok-push_hidden.ensures
          c.loop-one.invariant.unread;
      told =
          told_more p c.args.rows.now c.loop-one.one-index c.one-item.result c.as_slice-steps.result.now c.seen_after-seen.result nodes new
          c.loop-one-test.true c.one-item.is c.as_slice-steps.ensures c.seen_after-seen.ensures c.in_ok-push_hidden.ensures c.loop-one.invariant.told;
    }

pub returns-clause-rows : goal.returns-clause-rows
returns-clause-rows g c =
    all_rows (g.R.Reads.reads c.args.reader.now) c.args.rows.now c.loop-one.one-index (map (λ (row : Bor Row). row.now) c.loop-one.seen_rows)
    c.loop-one-test.false c.loop-one.invariant.rows

pub returns-clause-hidden : goal.returns-clause-hidden
returns-clause-hidden g c =
    all_told (g.R.Reads.reads c.args.reader.now) c.args.rows.now c.loop-one.one-index (map (λ (node : Bor (List Step)). node.now) c.loop-one.hidden)
    c.loop-one-test.false c.loop-one.invariant.unread c.loop-one.invariant.told
