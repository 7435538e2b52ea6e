-- Counts of faults, and what is known of bytes that a call gave or took.
use Rattle.std.specs.Prelude.{◌≡◌, ℕ, Bool, false, ◌<◌, ◌≤◌, ◌==◌, ◌&&◌, nat_lt, List, ◌++◌, Option, Result, Ok, Err, OnOk, OnErr, IfOk, IsErrOf, if◌then◌else◌}
use Rattle.std.specs.Io.KnownBytes.{append_known, IsAtEnd}
use Rattle.nc_names.specs.Counts.{Rose, one_more}
use Rattle.nc_outside.specs.declared.fault.FileFault.{FileFault}
use Rattle.nc_outside.specs.declared.fault.FileFault.TheVariants.{Failed as FileFailed}

-- the count of faults is as before, or there is an error and it rose
pub record HasCause {T E : Type 0} (before now : ℕ) (result : Result T E) : Type 0 where
  pub later : before ≤ now
  pub same : OnOk result (now ≡ before)
  pub failed : OnErr result (Rose before now)

-- the same for files, where want of memory is no fault of theirs
pub record HasFileCause {T : Type 0} (before now : ℕ) (result : Result T FileFault) : Type 0 where
  pub later : before ≤ now
  pub same : (¬ IsErrOf result FileFailed) → now ≡ before
  pub failed : IsErrOf result FileFailed → Rose before now

-- a read gave nothing into a buffer with room for a byte: the end of input
abbrev pub is_end : {E : Type 0} → (room : ℕ) → Result ℕ E → Bool
is_end room (Ok count) = count == 0 && nat_lt 0 room
is_end room (Err fault) = false

-- a read that gives the end of input leaves nothing, and is counted
pub record TellsEnd {E : Type 0} (room before now : ℕ) (left : Option (List ℕ)) (result : Result ℕ E) : Type 0 where
  pub nothing_left : IfOk result (λ n. n ≡ 0 → 0 < room → IsAtEnd left)
  pub counted : now ≡ (if is_end room result then one_more before else before)

-- the known bytes grew by a beginning of these, if by any
pub record TookPart (before now : Option (List ℕ)) (bytes : List ℕ) : Type 0 where
  pub part : List ℕ
  pub rest : List ℕ
  pub whole : bytes ≡ part ++ rest
  pub taken : now ≡ append_known before part
