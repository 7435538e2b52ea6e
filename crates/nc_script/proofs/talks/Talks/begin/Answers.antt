use Rattle.std.proofs.Common.{◌≡◌, true, false}
use Rattle.std.specs.BTreeMap as tree
use Rattle.std.specs.Ordering.{nat_cmp}
use Rattle.std.specs.Prelude.{is_some}
use Rattle.nc_script.proofs.Steppings.{begin_done, begin_fault, begin_unkept, begun_before, fresh_at}
use Rattle.nc_script.proofs.talks.Talks.begin.Goals as goal

pub returns-then-is_some : goal.returns-then-is_some
returns-then-is_some g c = λ board stand.
    let some : is_some (tree.get nat_cmp c.args.self.now.places c.args.number) ≡ true = cc in
    begun_before c.args.machine.now.state.schema c.args.self.now board c.args.number c.args.peer.now c.args.machine.now
    c.args.self.now.tally c.args.self.now stand some

pub returns-in-Err : goal.returns-in-Err
returns-in-Err g c = λ board stand.
    let none : is_some (tree.get nat_cmp c.args.self.now.places c.args.number) ≡ false = cc in
    let fresh = fresh_at c.args.machine.now.state.schema c.args.self.now board c.args.number stand none in
    begin_fault c.args.machine.now.state.schema c.args.self.now c.args.self.now board c.args.number c.args.peer.now c.args.machine.now
    c.begin.new.machine c.in-Err.fault stand fresh c.in-Err.ensures

pub returns-in-Ok-put : goal.returns-in-Ok-put
returns-in-Ok-put g c = λ board stand.
    let none : is_some (tree.get nat_cmp c.args.self.now.places c.args.number) ≡ false = cc in
    let fresh = fresh_at c.args.machine.now.state.schema c.args.self.now board c.args.number stand none in
    begin_done c.args.self.now c.put.new.self board c.args.number c.args.peer.now c.args.machine.now c.begin.new.machine c.in-Ok.talk
    stand fresh c.in-Ok.ensures
    (λ x kept new. c.in-Ok-put.ensures c.args.machine.now.state.schema board x stand kept new)

pub returns-in-Err-put : goal.returns-in-Err-put
returns-in-Err-put g c = λ board stand.
    let none : is_some (tree.get nat_cmp c.args.self.now.places c.args.number) ≡ false = cc in
    let fresh = fresh_at c.args.machine.now.state.schema c.args.self.now board c.args.number stand none in
    begin_unkept c.args.machine.now.state.schema c.args.self.now c.put.new.self board c.args.number c.args.peer.now c.args.machine.now
    c.begin.new.machine c.in-Ok.talk stand fresh c.in-Ok.ensures
