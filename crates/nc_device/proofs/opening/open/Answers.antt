use Rattle.std.proofs.Common.{◌≡◌, ℕ, List, [], ap, refl, subst, sym}
use Rattle.nc_machine.specs.Serving.{IsHomeOf, StandsFor}
use Rattle.nc_model.specs.Desks.{Home}
use Rattle.nc_model.specs.State.{opening}
use Rattle.nc_device.specs.Devices.{Begins}
use Rattle.nc_device.specs.Outside.{stored}
use Rattle.nc_device.specs.Begun.{IsBegun, IsKept, NotMoved, store_words}
use Rattle.nc_device.proofs.Preparing.{begins_by, begun_by, err_so, kept_by, ok_all, ok_so, refuses_by}
use Rattle.nc_device.proofs.opening.open.Goals as goal

pub returns-in-Ok-begin-clause-begins : goal.returns-in-Ok-begin-clause-begins
returns-in-Ok-begin-clause-begins g c =
    ok_so (λ it. it.machine.state ≡ opening c.in-Ok.owners.machine.value c.in-Ok-begin.running (g.D.Disk.faults c.in-Ok-begin.store.disk))
    (λ it. Begins c.args.device (stored (g.D.Disk.seen c.args.disk) (g.D.Disk.faults c.args.disk)) it.machine.state) c.with_machine.result
    (λ it is. begins_by c.args.device (stored (g.D.Disk.seen c.args.disk) (g.D.Disk.faults c.args.disk)) (g.D.Disk.faults c.in-Ok-begin.store.disk) c.in-Ok.owners.store.value c.in-Ok.owners.machine.value
    c.in-Ok-begin.store c.in-Ok-begin.running it.machine.state c.in-Ok.ensures.store c.in-Ok.ensures.machine c.requires.proper
    c.in-Ok-begin.ensures.begun c.in-Ok-begin.ensures.reads c.in-Ok-begin.ensures.unfailed is) c.with_machine.ensures.opening

pub returns-in-Ok-begin-clause-begun : goal.returns-in-Ok-begin-clause-begun
returns-in-Ok-begin-clause-begun g c =
    ok_all (λ it. it.machine.keeper ≡ c.in-Ok-begin.store)
    (λ it. it.machine.state ≡ opening c.in-Ok.owners.machine.value c.in-Ok-begin.running (g.D.Disk.faults c.in-Ok-begin.store.disk))
    (λ it. (home : Home) → IsHomeOf (store_words g.D.Disk.seen g.D.Disk.moment g.D.Disk.left_since) it.machine home
    → StandsFor (store_words g.D.Disk.seen g.D.Disk.moment g.D.Disk.left_since) home it.machine [])
    (λ it. IsBegun g.D.Disk.seen g.D.Disk.may_leave g.D.Disk.moment g.D.Disk.left_since c.args.disk c.args.device it.machine) c.with_machine.result
    (λ it keeper is stands. begun_by g.D.Disk.seen g.D.Disk.may_leave g.D.Disk.moment g.D.Disk.left_since c.args.disk c.args.device
    c.in-Ok.owners.store.value c.in-Ok-begin.store c.in-Ok-begin.running it.machine c.in-Ok.ensures.store c.in-Ok-begin.ensures.begun c.in-Ok-begin.ensures.reads keeper
    (ap (λ s. s.running) is) c.in-Ok-begin.ensures.tells.0 c.in-Ok-begin.ensures.now
    (λ file told among known. (c.in-Ok-begin.ensures.moments file told among known).0) stands)
    c.with_machine.ensures.keeper c.with_machine.ensures.opening c.with_machine.ensures.stands

pub returns-in_default-clause-kept : goal.returns-in_default-clause-kept
returns-in_default-clause-kept g c =
    NotMoved (subst (λ (d : g.row.D.Denot). (x : List ℕ) → g.D.Disk.left_since d (g.D.Disk.moment c.args.disk) x → g.D.Disk.may_leave c.args.disk x)
    (sym c.without_memory.ensures.disk) (g.met.D.Disk.only_now c.args.disk))

pub returns-in-Ok-begin-clause-kept : goal.returns-in-Ok-begin-clause-kept
returns-in-Ok-begin-clause-kept g c =
    err_so (λ it. it.disk ≡ c.in-Ok-begin.store.disk) (λ it. IsKept g.D.Disk.seen g.D.Disk.may_leave g.D.Disk.moment g.D.Disk.left_since c.args.disk it.disk c.args.device) c.with_machine.result
    (λ it back. kept_by g.D.Disk.seen g.D.Disk.may_leave g.D.Disk.moment g.D.Disk.left_since c.args.disk c.in-Ok-begin.store.disk it.disk c.args.device c.in-Ok.owners.store.value c.in-Ok.ensures.store back
    (λ file told none. let reads = c.in-Ok-begin.ensures.reads file told in absurd (none reads.bodies reads.opens))
    (λ file told among known. (c.in-Ok-begin.ensures.moments file told among known).0)) c.with_machine.ensures.back

pub returns-in-Err-clause-kept : goal.returns-in-Err-clause-kept
returns-in-Err-clause-kept g c =
    kept_by g.D.Disk.seen g.D.Disk.may_leave g.D.Disk.moment g.D.Disk.left_since c.args.disk c.in-Err.disk c.in-Err.disk c.args.device c.in-Ok.owners.store.value c.in-Ok.ensures.store refl
    (λ file told none. (c.in-Err.ensures.spared file told none).moments)
    (λ file told among known. (c.in-Err.ensures.moments file told among known).1)

pub returns-in-Err-clause-unopened : goal.returns-in-Err-clause-unopened
returns-in-Err-clause-unopened g c =
    refuses_by c.args.device (stored (g.D.Disk.seen c.args.disk) (g.D.Disk.faults c.args.disk)) (stored (g.D.Disk.seen c.in-Err.disk) (g.D.Disk.faults c.in-Err.disk)) c.in-Ok.owners.store.value c.in-Err.fault
    c.in-Ok.ensures.store c.in-Err.ensures.refused c.in-Err.ensures.unread c.in-Err.ensures.cause c.in-Err.ensures.other
