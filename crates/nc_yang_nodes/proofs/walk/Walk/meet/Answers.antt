use Rattle.std.proofs.Common.{rules}
use Rattle.nc_yang_nodes.specs.inner.Tables.{test_of}
use Rattle.nc_yang_nodes.proofs.Walking.{full_stops, pass_comes, take_comes}
use Rattle.nc_yang_nodes.proofs.walk.Walk.meet.Goals as goal

pub returns-in_default : goal.returns-in_default
returns-in_default c =
    pass_comes c.args.table.now.scopes.now (test_of c.args.table.now) c.args.self.now c.args.frame c.args.child c.args.entry c.requires.next
    c.pass.new.self c.in_default.is c.requires.room c.in_ok-pass.ensures

pub returns-then-not-fits : goal.returns-then-not-fits
returns-then-not-fits c =
    full_stops c.args.table.now.scopes.now (test_of c.args.table.now) c.args.self.now c.args.frame c.args.child c.args.entry c.requires.next
    c.in-Some.role c.in_ok-fault_at.field-0 c.in-Some.is (search rules) c.requires.room c.in_ok-fault_at.ensures

pub returns : goal.returns
returns c =
    take_comes c.args.table.now.scopes.now (test_of c.args.table.now) c.args.self.now c.args.frame c.args.child c.args.entry c.requires.next
    c.take.new.self c.in-Some.role c.in-Some.is (search rules) c.requires.room c.in_ok-take.ensures
