-- A text that is written to standard error, as the write answers.
use Rattle.std.specs.Prelude.{◌≡◌, ℕ, List, Result, Ok, Err}
use Rattle.std.specs.Io.KnownBytes.{append_known}
use Rattle.nc_names.specs.Counts.{Rose}
use Rattle.nc_outside.specs.Causes.{TookPart}
use Rattle.nc_outside.specs.declared.fault.Failed.{Failed}
use Rattle.nc_words.specs.Notes.{Told}

-- a text was written whole, or a beginning of it, and then a write failed
abbrev pub Wrote : List ℕ → Told → Told → Result (Unit {0}) Failed → Type 0
Wrote text before now (Ok u) = (now.taken ≡ append_known before.taken text) × (now.failed ≡ before.failed)
Wrote text before now (Err fault) = TookPart before.taken now.taken text × Rose before.failed now.failed
