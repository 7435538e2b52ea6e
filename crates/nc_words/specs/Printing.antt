-- A text on standard output.
use Rattle.std.specs.Prelude.{◌≡◌, ℕ, List}
use Rattle.std.specs.Io.KnownBytes.{append_known}
use Rattle.nc_names.specs.Counts.{Rose}
use Rattle.nc_outside.specs.Causes.{TookPart}
use Rattle.nc_words.specs.Notes.{Told}
use Rattle.nc_words.specs.declared.end.Printed.{Printed}
use Rattle.nc_words.specs.declared.end.Printed.TheVariants.{Part, Whole}

-- it was written whole, or a beginning of it, and then a write failed
abbrev pub IsPrinted : List ℕ → (before now : Told) → Printed → Type 0
IsPrinted text before now Whole = (now.taken ≡ append_known before.taken text) × (now.failed ≡ before.failed)
IsPrinted text before now Part = TookPart before.taken now.taken text × Rose before.failed now.failed
