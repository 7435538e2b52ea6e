use Rattle.std.proofs.lemmas.Result.{err_from_is_err_and}
use Rattle.nc_yang_nodes.specs.inner.Tables.{test_of}
use Rattle.nc_yang_nodes.specs.inner.Walks.{stack}
use Rattle.nc_yang_nodes.proofs.Walking.{comes_on, comes_self, stops_on}
use Rattle.nc_yang_nodes.proofs.walk.Walk.run.Goals as goal

pub loop-init : goal.loop-init
loop-init c = comes_self c.args.table.now.scopes.now (test_of c.args.table.now) c.args.self.now c.requires.room

pub loop-preserved : goal.loop-preserved
loop-preserved c =
    comes_on c.args.table.now.scopes.now (test_of c.args.table.now) (stack c.args.table.now.scopes.now c.args.self.now.frames) c.args.self.now.plan c.loop.self
    c.turn.new.self c.loop.invariant c.in_ok-turn.ensures.moves

pub returns-then-not-branch-clause-moves : goal.returns-then-not-branch-clause-moves
returns-then-not-branch-clause-moves c =
    comes_on c.args.table.now.scopes.now (test_of c.args.table.now) (stack c.args.table.now.scopes.now c.args.self.now.frames) c.args.self.now.plan c.loop.self
    c.turn.new.self c.loop.invariant c.in_ok-turn.ensures.moves

pub returns-in_err-turn-clause-moves : goal.returns-in_err-turn-clause-moves
returns-in_err-turn-clause-moves c =
    let p = err_from_is_err_and c.from_residual.result c.from_residual.ensures.1 in
    rw (p.1, p.2) (stops_on c.args.table.now.scopes.now (test_of c.args.table.now) (stack c.args.table.now.scopes.now c.args.self.now.frames)
    c.args.self.now.plan c.loop.self c.in_err-turn.field-0.0 c.loop.invariant c.in_err-turn.ensures.moves)
