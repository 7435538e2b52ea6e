use Rattle.nc_branches.proofs.Beside.{same_turn}
use Rattle.nc_branches.proofs.tree.Fork.way.Goals as goal

pub returns-then-not-free : goal.returns-then-not-free
returns-then-not-free c = λ branches is turned seen. same_turn c.seen_way.result c.args.turn c.args.aim.now c.args.depth c.args.above branches c.args.self.now is turned (c.seen_way.ensures branches is)

pub returns-then-is_ready : goal.returns-then-is_ready
returns-then-is_ready c = λ branches is turned seen. same_turn c.marked_way.result c.args.turn c.args.aim.now c.args.depth c.args.above branches c.args.self.now is turned (c.marked_way.ensures branches is (seen c.if-not-free.false))

pub returns-then-way-ne3 : goal.returns-then-way-ne3
returns-then-way-ne3 c = λ branches is turned seen. c.numbered_way-way.ensures branches is turned (seen c.if-not-free.false)

pub returns : goal.returns
returns c = λ branches is turned seen. same_turn c.seen_way-2.result c.args.turn c.args.aim.now c.args.depth c.args.above branches c.args.self.now is turned (c.seen_way-2.ensures branches is)
