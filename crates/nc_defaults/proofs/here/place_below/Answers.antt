use Rattle.std.proofs.Common.{ap, ◌∙◌}
use Rattle.std.specs.Prelude.{Option, Some, find, option_and_then, option_map}
use Rattle.nc_schema.specs.Places.{Part, Place, is_same_next, place_of, place_parts}
use Rattle.nc_schema.specs.declared.node.Node.{Node}
use Rattle.nc_defaults.specs.Within.{place_here}
use Rattle.nc_defaults.proofs.here.place_below.Goals as goal

pub returns-clause-place : goal.returns-clause-place
returns-clause-place c =
    let args = c.args in
    let tables = args.schema.now in
    let place : Place = place_here args.config.now args.steps.now args.here in
    let step = args.step.now in
    let node = c.in_ok-node.node.now in
    let instance : Node → Option Part = λ n. find (λ part. is_same_next part.step (Some step)) (place_parts place step.node n.kind) in
    ap Some (c.place_of.ensures.place (Some step))
    ∙ ap (option_map (place_of tables place node)) c.in_ok-rows.ensures.part
    ∙ ap (λ (found : Option Node). option_and_then (λ n. option_map (place_of tables place n) (instance n)) found) c.in_ok-node.ensures
