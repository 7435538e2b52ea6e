use Rattle.std.proofs.Common.{◌≡◌, ℕ, List, take, length}
use Rattle.nc_yang.specs.Texts.{AreEachRead}
use Rattle.nc_yang.proofs.read.read_texts.Given as goal

abbrev pub invariant-loop-file : goal.invariant-loop-file
invariant-loop-file l = AreEachRead (take l.file l.fn.texts) l.roots
