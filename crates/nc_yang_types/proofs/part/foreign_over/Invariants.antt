use Rattle.std.proofs.Common.{◌≡◌, drop}
use Rattle.nc_yang_types.specs.Parts.{foreign_over}
use Rattle.nc_yang_types.proofs.part.foreign_over.Given as goal

abbrev pub invariant-loop-part : goal.invariant-loop-part
invariant-loop-part l = foreign_over l.base l.below ≡ foreign_over l.base (drop l.part-index l.below)
