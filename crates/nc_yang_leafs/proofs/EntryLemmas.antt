-- Entries of plans without members.
use Rattle.std.proofs.Common.{◌≡◌, ℕ, Bool, List, [], refl, sym, subst}
use Rattle.std.specs.Prelude.{Result, Ok, Err, IfOk}
use Rattle.nc_names.specs.declared.name.QName.{QName}
use Rattle.nc_schema.specs.declared.value_type.ValueType.{ValueType}
use Rattle.nc_schema.specs.declared.value_type.ValueType.TheVariants.{Identity as IdentityType}
use Rattle.nc_yang_scopes.specs.Scopes.{Located}
use Rattle.nc_yang_types.specs.declared.planned.Planned.{Planned}
use Rattle.nc_yang_types.specs.declared.planned.Planned.TheVariants.{Bases, Finished, Leafref}
use Rattle.nc_yang_scopes.specs.Numbers.{AreNumbers}
use Rattle.nc_yang_scopes.specs.declared.naming.TextFault.{TextFault}
use Rattle.nc_yang_statements.specs.declared.stop.Stop.{Stop}
use Rattle.nc_yang_types.specs.declared.member.Named.{Named}
use Rattle.nc_yang_leafs.specs.declared.table.Table.{Table}
use Rattle.nc_yang_leafs.specs.Patterns.{with_numbers}
use Rattle.nc_yang_leafs.specs.inner.Tables.{Enters, IsLeafref, Work}
use Rattle.nc_yang_leafs.proofs.AskLemmas.{asked_none}

module _ (derived : List Located → List QName → Type 0) (w : Work) (table : Table) (planned : Planned) where
  pub enters_finished : (one entry : ValueType) (ns : List ℕ) (listed : List Named) → planned ≡ Finished one ns listed → entry ≡ with_numbers ns one → Enters derived w planned table table entry
  enters_finished one entry ns listed is same = subst (λ z. Enters derived w z table table entry) (sym is) (record { numbers = []; asked = asked_none w table; fits = same })

  pub enters_bases : (bases slice : List ℕ) (names : List QName) (located : List Located) → planned ≡ Bases bases → slice ≡ bases → located ≡ w.scoping.located →
      ((ls : List Located) → AreNumbers located slice ls → derived ls names) → Enters derived w planned table table (IdentityType names)
  enters_bases bases slice names located is same_slice same give = subst (λ z. Enters derived w z table table (IdentityType names)) (sym is) (record {
    numbers = [];
    asked = asked_none w table;
    fits = (names, refl, λ ls are. give ls (subst (λ z. AreNumbers z slice ls) (sym same) (subst (λ z. AreNumbers w.scoping.located z ls) (sym same_slice) are)));
  })

  pub enters_leafref : (path : ℕ) (need : Bool) → planned ≡ Leafref path need → (result : Result ValueType (Stop TextFault)) → IfOk result (IsLeafref w path need) → IfOk result (Enters derived w planned table table)
  enters_leafref path need is (Err stop) h = tt
  enters_leafref path need is (Ok entry) h = subst (λ z. Enters derived w z table table entry) (sym is) (record { numbers = []; asked = asked_none w table; fits = h })
