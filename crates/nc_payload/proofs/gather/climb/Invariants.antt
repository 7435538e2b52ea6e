use Rattle.std.proofs.Common.{drop}
use Rattle.nc_payload.specs.inner.Gathered.{Climbs, row_marks}
use Rattle.nc_payload.proofs.gather.climb.Given as goal

abbrev pub invariant-loop-row : goal.invariant-loop-row
invariant-loop-row l =
    Climbs l.plan.schema.now l.plan.turns l.last (drop l.row-index l.rest) → Climbs l.plan.schema.now l.plan.turns (row_marks l.plan.schema.now l.plan.turns l.first) l.rest
