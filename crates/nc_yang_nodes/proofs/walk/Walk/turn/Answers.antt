use Rattle.nc_yang_nodes.specs.inner.Tables.{test_of}
use Rattle.nc_yang_nodes.proofs.Walking.{end_comes}
use Rattle.nc_yang_nodes.proofs.walk.Walk.turn.Goals as goal

pub returns-in_default-child_of-clause-moves : goal.returns-in_default-child_of-clause-moves
returns-in_default-child_of-clause-moves c =
    end_comes c.args.table.now.scopes.now (test_of c.args.table.now) c.args.self.now.frames c.pop.new.self c.in-Some.frame c.args.self.now.plan
    c.in-Some.ensures c.in_default-child_of.ensures c.requires.room

pub meet-requires-clause-next : goal.meet-requires-clause-next
meet-requires-clause-next c = record {
  found = c.in-Some-child_of.ensures;
  known = c.in-Some-entry.ensures c.in-Some-child_of.ensures.statement c.in-Some-child_of.ensures.located;
}
