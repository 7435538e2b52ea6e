use Rattle.std.specs.Prelude.{bit_or}
use Rattle.nc_filter.proofs.BitLemmas.{Upto}
use Rattle.nc_filter.proofs.bits.join.Given as goal

abbrev pub invariant-places : goal.invariant-places
invariant-places l = Upto bit_or l.fn.words l.others l.out l.place
