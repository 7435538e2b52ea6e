-- What the functions that read a file say of a fault.
use Rattle.std.specs.Prelude.{◌≡◌, ℕ, ◌≤◌, Result, Ok, Err, OnOk, IsErrOf}
use Rattle.nc_names.specs.Counts.{Rose}
use Rattle.nc_journal.specs.declared.fault.JournalFault.{JournalFault}
use Rattle.nc_journal.specs.declared.fault.JournalFault.TheVariants.{DiskFault, Damaged, OtherHeader, Memory}

-- so where the file was refused, of the fault that tells it
abbrev pub OnRefused : {T : Type 0} → Result T JournalFault → (JournalFault → Type 0) → Type 0
OnRefused (Ok it) P = Unit {0}
OnRefused (Err DiskFault) P = Unit {0}
OnRefused (Err (Damaged at)) P = P (Damaged at)
OnRefused (Err (OtherHeader at)) P = P (OtherHeader at)
OnRefused (Err Memory) P = Unit {0}

-- so where the file was refused
abbrev pub OnDamaged : {T : Type 0} → Result T JournalFault → Type 0 → Type 0
OnDamaged (Ok it) P = Unit {0}
OnDamaged (Err DiskFault) P = Unit {0}
OnDamaged (Err (Damaged at)) P = P
OnDamaged (Err (OtherHeader at)) P = P
OnDamaged (Err Memory) P = Unit {0}

-- so where the file is not opened, though no call of the disk failed
abbrev pub OnStopped : {T : Type 0} → Result T JournalFault → Type 0 → Type 0
OnStopped (Ok it) P = Unit {0}
OnStopped (Err DiskFault) P = Unit {0}
OnStopped (Err (Damaged at)) P = P
OnStopped (Err (OtherHeader at)) P = P
OnStopped (Err Memory) P = P

-- an Ok leaves the count of faults as it was, and so does any fault but one of the disk, which comes only where it rose
pub record HasFault {T : Type 0} (before now : ℕ) (result : Result T JournalFault) : Type 0 where
  pub later : before ≤ now
  pub same : OnOk result (now ≡ before)
  pub other : OnStopped result (now ≡ before)
  pub failed : IsErrOf result DiskFault → Rose before now
