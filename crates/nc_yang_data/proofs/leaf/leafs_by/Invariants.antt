-- The same leafs from here.
use Rattle.std.proofs.Common.{◌≡◌, ◌++◌, length, option_map}
use Rattle.nc_yang_data.specs.Leafs.{all_there, leafs_by, leafs_in}
use Rattle.nc_yang_data.specs.inner.Words.{parts_of}
use Rattle.nc_yang_data.specs.inner.Cases.{case_test}
use Rattle.nc_yang_data.proofs.leaf.leafs_by.Given as goal

abbrev pub invariant-loop-left : goal.invariant-loop-left
invariant-loop-left l =
    leafs_by l.naming l.scopes.texts l.schema (case_test l.cases) l.text l.number l.fn.words
    ≡ option_map (λ more. l.found ++ more)
    (all_there (leafs_in l.naming l.scopes.texts l.schema (case_test l.cases) l.text l.number (parts_of (option_map (λ rest. rest.now) l.left))))

abbrev pub decreases-loop-left : goal.decreases-loop-left
decreases-loop-left l = length (parts_of (option_map (λ rest. rest.now) l.left))
