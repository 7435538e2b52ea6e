use Rattle.std.proofs.Common.{◌≡◌, take, map, true, false, Bor, List}
use Rattle.std.specs.List.{list_all, list_any}
use Rattle.nc_names.specs.declared.path.Row.{Row}
use Rattle.nc_names.specs.declared.path.Step.{Step}
use Rattle.nc_nacm.specs.inner.Hidden.{rows_read}
use Rattle.nc_nacm.specs.inner.Trails.{IsTrail}
use Rattle.nc_nacm.proofs.Hiding.{is_told, may_show}
use Rattle.nc_nacm.proofs.visible.seen_of.Given as goal

abbrev pub invariant-loop-one : goal.invariant-loop-one
invariant-loop-one g l =
    let taken : List Row = take l.one-index (map (λ (row : Bor Row). row.now) l.rows) in
    let nodes : List (List Step) = map (λ (node : Bor (List Step)). node.now) l.hidden in
    record {
      trail : IsTrail (g.R.Reads.reads l.reader) l.last l.seen;
      rows : map (λ (row : Bor Row). row.now) l.seen_rows ≡ rows_read (g.R.Reads.reads l.reader) taken;
      unread : list_any (may_show (g.R.Reads.reads l.reader)) nodes ≡ false;
      told : list_all (is_told (g.R.Reads.reads l.reader) nodes) taken ≡ true;
    }
