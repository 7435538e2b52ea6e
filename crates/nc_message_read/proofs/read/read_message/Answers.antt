use Rattle.std.proofs.Common.{ℕ, sym, subst}
use Rattle.std.specs.Str.{is_utf8}
use Rattle.nc_message.specs.declared.tree.Why.{Why}
use Rattle.nc_message.specs.Faults.{IsFault}
use Rattle.nc_message_read.specs.inner.Reads.{told}
use Rattle.nc_message_read.specs.inner.Turn.{IsStop}
use Rattle.nc_message_read.proofs.Faulty.{fault_of}
use Rattle.nc_message_read.proofs.read.read_message.Goals as goal

pub returns-in-Err-clause-fault : goal.returns-in-Err-clause-fault
returns-in-Err-clause-fault c =
    let bytes = c.args.bytes.now in
    let stop = c.in-Err.stop in
    let stops : IsStop bytes stop = rw c.in-Err.is at c.in_ok-tree.ensures in
    let At : ℕ → Type 0 = λ at. IsFault bytes at (told (is_utf8 bytes) stop.why) in
    let For : Why → Type 0 = λ why. IsFault bytes c.saturating_sub.result why in
    subst For (sym c.told.ensures) (subst At (sym c.saturating_sub.ensures) (fault_of bytes stop stops))
