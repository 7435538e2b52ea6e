use Rattle.std.specs.Prelude.{bit_and}
use Rattle.nc_filter.proofs.BitLemmas.{Upto}
use Rattle.nc_filter.proofs.bits.met.Given as goal

abbrev pub invariant-places : goal.invariant-places
invariant-places l = Upto bit_and l.fn.words l.others l.out l.place
