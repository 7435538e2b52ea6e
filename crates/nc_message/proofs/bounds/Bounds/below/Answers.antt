use Rattle.nc_message.specs.Bindings.{inside}
use Rattle.nc_message.proofs.Looking.{nothing_declared, ok_as}
use Rattle.nc_message.proofs.bounds.Bounds.below.Goals as goal

pub returns-then-is_empty : goal.returns-then-is_empty
returns-then-is_empty c =
    ok_as c.copy.result c.args.self.now (inside c.args.self.now c.args.level)
    (nothing_declared c.args.self.now c.args.level (c.is_empty.ensures.own c.if-is_empty.true)
    (c.is_empty.ensures.undeclares c.if-is_empty.true)) c.copy.ensures
