use Rattle.std.proofs.Common.{◌≡◌, true}
use Rattle.std.specs.Prelude.{Some}
use Rattle.nc_schema.specs.Places.{is_same_next}
use Rattle.nc_defaults.specs.Within.{rows_between}
use Rattle.nc_defaults.specs.inner.Runs.{next_at}
use Rattle.nc_defaults.proofs.PartsLemmas.{found_here}
use Rattle.nc_defaults.proofs.parts.find_part.Goals as goal

pub returns-then-is_same_next-clause-part : goal.returns-then-is_same_next-clause-part
returns-then-is_same_next-clause-part c =
    let args = c.args in
    let test = c.if-is_same_next.ensures in
    let here = c.next_of.ensures in
    let same : is_same_next (next_at args.depth args.config.now c.part.at) (Some args.step.now) ≡ true = cc in
    found_here args.step.now (next_at args.depth args.config.now c.part.at) (rows_between args.config.now c.part.at c.run_end-end.result) _ _ _ c.run_end-end.ensures.run same
    c.part.invariant.rest
