use Rattle.std.proofs.Common.{◌≡◌, [], false, drop}
use Rattle.nc_yang_words.specs.inner.Streams.{double, reads}
use Rattle.nc_yang_words.proofs.double.read_double.Given as goal

abbrev pub invariant-loop-count : goal.invariant-loop-count
invariant-loop-count l =
    (double l.width 0 [] false 0 l.signs ≡ reads l.reader l.count (drop l.count l.signs))
