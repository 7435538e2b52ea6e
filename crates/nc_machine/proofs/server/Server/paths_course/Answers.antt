-- The nodes that the session's access shows are those among the rows that it sees.
use Rattle.std.proofs.Common.{◌≡◌, ◌∙◌, Bool, ap}
use Rattle.std.specs.Prelude.{List}
use Rattle.nc_names.specs.declared.path.Path.{Path}
use Rattle.nc_partial.specs.Selects.{nodes_seen}
use Rattle.nc_model.specs.Sight.{Viewer, may_see}
use Rattle.nc_machine.proofs.NodeLocks.{nodes_looked}
use Rattle.nc_machine.proofs.server.Server.paths_course.Goals as goal

pub returns : goal.returns
returns c =
    let sees : Path → Bool = λ path. may_see c.in_ok-reach.reach.tables c.in_ok-reach.reach.policy c.in_ok-reach.reach.peer path.steps in
    nodes_looked c.args.self.now c.args.session c.schema.result.now c.in_ok-reach.reach c.running.result.now c.args.paths
    c.in_ok-nodes.nodes c.in_ok-course.course c.schema.ensures c.in_ok-reach.ensures c.running.ensures
    (c.in_ok-nodes.ensures ∙ ap (λ (ps : List Path). nodes_seen c.schema.result.now sees c.running.result.now ps) c.as_slice.ensures)
    c.in_ok-course.ensures
