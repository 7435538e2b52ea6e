use Rattle.std.proofs.Common.{subst}
use Rattle.nc_yang_nodes.specs.inner.Tables.{test_of}
use Rattle.nc_yang_nodes.specs.inner.Walks.{Moves, stack}
use Rattle.nc_yang_nodes.proofs.Walking.{adds_or_stops}
use Rattle.nc_yang_nodes.proofs.walk.Walk.add_text.Goals as goal

pub returns : goal.returns
returns c = record {
  adds =
      adds_or_stops c.args.table.now.scopes.now (test_of c.args.table.now) c.args.text c.in-Some.number c.requires.within c.in-Some.ensures c.run.result
      c.args.self.now.frames c.at_top.result c.args.self.now.plan c.run.new.self c.at_top.ensures c.requires.frames
      (subst (λ fs. Moves c.args.table.now.scopes.now (test_of c.args.table.now) c.run.result (stack c.args.table.now.scopes.now fs) c.args.self.now.plan c.run.new.self)
      c.in_ok-push.ensures.ok c.run.ensures.moves) c.run.ensures.ended;
}
