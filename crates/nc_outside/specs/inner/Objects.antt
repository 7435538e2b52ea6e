-- What contracts see of the objects in memory, and what a call of one does beside what its trait says.
use Rattle.std.specs.Prelude.{◌≡◌, ◌⊎◌, ◌↔◌, ℕ, zero, suc, ◌-◌, ◌^◌, ◌<◌, ◌==◌, min, List, [], ◌∷◌, ◌++◌, length, get_or, Contains, Option, Some, None, Result, IsErr, IfOk, OnOk, IsErrOf, is_err, if◌then◌else◌}
use Rattle.nc_names.specs.Counts.{one_more}
use Rattle.nc_outside.specs.declared.fault.Failed.{Failed}
use Rattle.nc_outside.specs.declared.fault.FileFault.{FileFault}
use Rattle.nc_outside.specs.declared.fault.FileFault.TheVariants.{Failed as FileFailed}
use Rattle.nc_outside.specs.declared.files.NamedFile.{NamedFile}

-- a source: the bytes that are left, how many a read gives at most, the numbers of the calls that
-- are to fail, and how many calls, ends of input and faults there were
pub record SourceState : Type 0 where
  pub left : List ℕ
  pub piece : ℕ
  pub failing : List ℕ
  pub calls : ℕ
  pub ends : ℕ
  pub faults : ℕ

-- a read gives as many bytes as a piece, the room and what is left allow, unless the call is to fail
pub record IsReadOf (before now : SourceState) (room : ℕ) (result : Result ℕ Failed) : Type 0 where
  pub amount : IfOk result (λ n. n ≡ min (length before.left) (min before.piece room))
  pub fails : IsErr result ↔ Contains before.failing (one_more before.calls)
  pub calls : now.calls ≡ one_more before.calls
  pub faults : now.faults ≡ (if is_err result then one_more before.faults else before.faults)
  pub piece : now.piece ≡ before.piece
  pub failing : now.failing ≡ before.failing

-- a sink: the bytes that it took, and for how many calls it found no memory
pub record SinkState : Type 0 where
  pub taken : List ℕ
  pub starved : ℕ
  pub failing : List ℕ
  pub calls : ℕ
  pub faults : ℕ

-- A write takes the whole piece, unless the call is to fail or finds no memory; it then raises
-- `starved` too.
pub record IsWriteOf (before now : SinkState) (bytes : List ℕ) (result : Result ℕ Failed) : Type 0 where
  pub whole : IfOk result (λ n. n ≡ length bytes)
  pub named : Contains before.failing (one_more before.calls) → IsErr result
  pub fails : now.starved < one_more before.starved → (IsErr result ↔ Contains before.failing (one_more before.calls))
  pub ok_starved : OnOk result (now.starved ≡ before.starved)
  pub starved : (now.starved ≡ before.starved) ⊎ (now.starved ≡ one_more before.starved)
  pub calls : now.calls ≡ one_more before.calls
  pub faults : now.faults ≡ (if is_err result then one_more before.faults else before.faults)
  pub failing : now.failing ≡ before.failing

-- files, in the order in which they were given
pub record FilesState : Type 0 where
  pub files : List NamedFile
  pub failing : List ℕ
  pub calls : ℕ
  pub faults : ℕ

-- a call on files fails exactly where it is to fail
pub record IsFileCallOf {T : Type 0} (before now : FilesState) (result : Result T FileFault) : Type 0 where
  pub fails : IsErrOf result FileFailed ↔ Contains before.failing (one_more before.calls)
  pub calls : now.calls ≡ one_more before.calls
  pub faults : IsErrOf result FileFailed → now.faults ≡ one_more before.faults
  pub failing : now.failing ≡ before.failing

-- a clock: all its readings, and how often it answered
pub record ClockState : Type 0 where
  pub readings : List ℕ
  pub answers : ℕ

-- the answer after so many others: the reading of this place or the last, or 0 where there is none
abbrev pub answer_after : List ℕ → ℕ → ℕ
answer_after readings answers = get_or readings (min answers (length readings - 1)) 0

-- the last answer, or 0 where there is none
abbrev pub last_answer : ClockState → ℕ
last_answer clock = if clock.answers == 0 then 0 else answer_after clock.readings (clock.answers - 1)

-- the first answers, so many of them
abbrev pub first_answers : List ℕ → ℕ → List ℕ
first_answers readings zero = []
first_answers readings (suc n) = first_answers readings n ++ answer_after readings n ∷ []

-- all answers, as long as they are counted
abbrev pub told_answers : ClockState → Option (List ℕ)
told_answers clock = if clock.answers == 2 ^ 64 - 1 then None else Some (first_answers clock.readings clock.answers)
