-- The nodes so far, and those of the rest that were not seen.
use Rattle.std.proofs.Common.{◌≡◌, ◌++◌, drop}
use Rattle.nc_model.specs.Verdict.{each_once}
use Rattle.nc_partial.proofs.OnceLemmas.{rest_once}
use Rattle.nc_partial.proofs.seen.each_once.Given as goal

abbrev pub invariant-loop-path : goal.invariant-loop-path
invariant-loop-path l = each_once l.paths ≡ l.nodes ++ rest_once l.seen (drop l.path-index l.paths)
