use Rattle.std.proofs.Common.{◌≡◌, List, Some, ap, sym, arith, ◌∙◌}
use Rattle.std.specs.Prelude.{Option}
use Rattle.nc_names.specs.declared.path.Row.{Row}
use Rattle.nc_names.specs.declared.path.Step.{Step}
use Rattle.nc_schema.specs.Places.{Place, place_of}
use Rattle.nc_defaults.specs.Within.{place_here, rows_between}
use Rattle.nc_defaults.proofs.spots.spot_of.Goals as goal

pub found_next-requires-clause-within : goal.found_next-requires-clause-within
found_next-requires-clause-within c = omega (arith, c.requires.run.order, c.requires.run.end)

pub returns-clause-place : goal.returns-clause-place
returns-clause-place c =
    let args = c.args in
    let config = args.config.now in
    let place : Place = place_here config args.steps.now args.here in
    let rows : List Row = rows_between config args.run.now.from args.run.now.to in
    ap (λ (steps : List Step). place_here config steps c.place_of.result) c.in_ok-found_next.ensures
    ∙ c.place_of.ensures.place (Some args.step.now)
    ∙ ap (λ (next : Option Step). place_of args.schema.now place args.node.now (record { step = next; rows = rows })) (sym c.requires.next)

pub returns-clause-within : goal.returns-clause-within
returns-clause-within c =
    let run = c.args.run.now in
    let from : c.place_of.result.from ≡ run.from = c.place_of.ensures.from in
    let to : c.place_of.result.to ≡ run.to = c.place_of.ensures.to in
    (omega (arith, from, to, c.requires.run.order), omega (arith, to, c.requires.run.end))
