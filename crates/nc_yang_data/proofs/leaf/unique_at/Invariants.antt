-- The same leaf from here.
use Rattle.std.proofs.Common.{◌≡◌, length, option_map}
use Rattle.nc_yang_data.specs.Leafs.{leaf_below, unique_at}
use Rattle.nc_yang_data.specs.inner.Words.{names_of}
use Rattle.nc_yang_data.specs.inner.Cases.{case_test}
use Rattle.nc_yang_data.proofs.leaf.unique_at.Given as goal

abbrev pub invariant-loop-left : goal.invariant-loop-left
invariant-loop-left l =
    unique_at l.scopes.texts l.schema (case_test l.cases) l.text l.number l.word
    ≡ leaf_below l.scopes.texts l.schema (case_test l.cases) l.text l.way (names_of (option_map (λ rest. rest.now) l.left))

abbrev pub decreases-loop-left : goal.decreases-loop-left
decreases-loop-left l = length (names_of (option_map (λ rest. rest.now) l.left))
