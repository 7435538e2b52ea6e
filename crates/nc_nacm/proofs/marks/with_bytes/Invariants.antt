use Rattle.std.proofs.Common.{◌≡◌, drop}
use Rattle.std.specs.Prelude.{fold}
use Rattle.nc_nacm.specs.inner.Marks.{marked}
use Rattle.nc_nacm.proofs.marks.with_bytes.Given as goal

abbrev pub invariant-loop-byte : goal.invariant-loop-byte
invariant-loop-byte l = fold marked l.mark (drop l.byte-index l.bytes) ≡ fold marked l.fn.mark l.bytes
