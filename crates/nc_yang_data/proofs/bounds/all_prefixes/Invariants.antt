-- The prefixes of the texts before.
use Rattle.nc_yang_data.proofs.PrefixLemmas.{AreFirst}
use Rattle.nc_yang_data.proofs.bounds.all_prefixes.Given as goal

abbrev pub invariant-loop-text : goal.invariant-loop-text
invariant-loop-text l = AreFirst l.scopes.texts l.text l.all
