use Rattle.std.proofs.Common.{◌≡◌, ℕ, List, sym, subst}
use Rattle.std.specs.Prelude.{Bool, Some}
use Rattle.nc_yang_statements.specs.declared.keyword.Keyword.TheVariants.{TypeName}
use Rattle.nc_yang_scopes.specs.Scopes.{Located}
use Rattle.nc_yang_types.specs.Defaults.{IsLeafDefault}
use Rattle.nc_yang_types.specs.Meanings.{Meaning, Means}
use Rattle.nc_yang_types.specs.Numbers.{OnNumber}
use Rattle.nc_yang_types.specs.Places.{part_of}
use Rattle.nc_yang_types.proofs.DefaultLemmas.{leaf_brought, leaf_own}
use Rattle.nc_yang_types.proofs.defaults.leaf_default.Goals as goal

pub returns-in-Some : goal.returns-in-Some
returns-in-Some c = leaf_own c.args.scopes.now c.args.leaf c.in-Some.own c.in-Some.ensures

pub returns-in-Some-part_of : goal.returns-in-Some-part_of
returns-in-Some-part_of c =
    subst
    (λ z. OnNumber c.args.scopes.now c.args.leaf (λ l. (on : ℕ → List ℕ → Bool) → (of_type : Located) → (m : Meaning) →
    part_of TypeName l ≡ Some of_type → Means on c.args.scopes.now.texts of_type m → IsLeafDefault c.args.scopes.now l of_type z))
    (sym c.kept.ensures)
    (leaf_brought c.args.scopes.now c.args.leaf c.args.defaults.now c.requires c.in_default.ensures c.in-Some-part_of.of_type c.in-Some-part_of.ensures)
