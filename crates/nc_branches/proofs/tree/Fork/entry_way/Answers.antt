use Rattle.std.proofs.Common.{sym, ◌∙◌}
use Rattle.nc_branches.specs.declared.way.Way.TheVariants.{Here}
use Rattle.nc_branches.proofs.Beside.{met_of, same_turn, unknown_goes}
use Rattle.nc_branches.proofs.Numbered.{numbered_here}
use Rattle.nc_branches.proofs.tree.Fork.entry_way.Goals as goal

pub returns-then-is_same_step : goal.returns-then-is_same_step
returns-then-is_same_step c = λ above branches of.
    same_turn Here c.args.turn c.args.aim.now c.args.depth above branches c.args.self.now of.is of.turned
    (numbered_here c.args.aim.now c.args.depth above c.args.asked.now c.args.own.now branches c.args.self.now of.is of.numbered of.single of.asked_is of.at of.free
    (sym c.is_same_step.ensures ∙ c.if-is_same_step.true) (sym c.has_keys.ensures ∙ c.if-not-has_keys.true))

pub returns-then-not-has_keys : goal.returns-then-not-has_keys
returns-then-not-has_keys c = λ above branches of. unknown_goes c.args.turn c.args.aim.now c.args.depth above branches c.args.self.now

pub returns-then-not-has_keys-2 : goal.returns-then-not-has_keys-2
returns-then-not-has_keys-2 c = λ above branches of. unknown_goes c.args.turn c.args.aim.now c.args.depth above branches c.args.self.now

pub returns-in-None : goal.returns-in-None
returns-in-None c = λ above branches of. unknown_goes c.args.turn c.args.aim.now c.args.depth above branches c.args.self.now

pub returns-in-Some : goal.returns-in-Some
returns-in-Some c = λ above branches of.
    c.laid_way.ensures above branches
    (met_of c.args.turn c.args.aim.now c.in-Some.lay.now c.args.depth above c.args.asked.now c.args.own.now branches c.args.self.now of c.in-Some.ensures (sym c.has_keys-2.ensures ∙ c.if-not-has_keys-2.false))
