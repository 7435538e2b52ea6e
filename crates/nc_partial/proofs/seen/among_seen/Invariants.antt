use Rattle.std.proofs.Common.{◌≡◌, take}
use Rattle.std.specs.List.{filter}
use Rattle.nc_model.specs.Verdict.{is_matched}
use Rattle.nc_partial.specs.Selects.{rows_seen}
use Rattle.nc_partial.proofs.seen.among_seen.Given as goal

abbrev pub invariant-loop-path : goal.invariant-loop-path
invariant-loop-path g l = l.kept ≡ filter (is_matched l.schema (rows_seen (g.S.Sees.seen l.sees) l.rows)) (take l.path-index l.paths)
