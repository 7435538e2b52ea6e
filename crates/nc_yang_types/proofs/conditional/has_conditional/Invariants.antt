-- One of the words is conditional where one of the rest is.
use Rattle.std.proofs.Common.{◌≡◌, length}
use Rattle.std.specs.List.{list_any}
use Rattle.nc_schema.specs.Values.{words_of}
use Rattle.nc_yang_types.specs.Faults.{is_conditional}
use Rattle.nc_yang_types.proofs.conditional.has_conditional.Given as goal

abbrev pub invariant-loop-rest : goal.invariant-loop-rest
invariant-loop-rest l = list_any (is_conditional l.names) (words_of l.text) ≡ list_any (is_conditional l.names) (words_of l.rest)

abbrev pub decreases-loop-rest : goal.decreases-loop-rest
decreases-loop-rest l = length l.rest
