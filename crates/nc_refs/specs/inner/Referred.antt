-- The values to which leafrefs may refer, and what is known of a configuration.
use Rattle.std.specs.Prelude.{◌≡◌, ℕ, List, IfSome}
use Rattle.std.proofs.Common.{Bor}
use Rattle.std.specs.BTreeMap.{get}
use Rattle.std.specs.BTreeSet.{BTreeSet, contains}
use Rattle.std.specs.Cmp.Lexicographic.{slice_cmp}
use Rattle.std.specs.Ordering.{nat_cmp}
use Rattle.std.specs.declared.cmp.Ordering.{Ordering}
use Rattle.nc_names.specs.declared.path.Row.{Row}
use Rattle.nc_schema.specs.Tables.{Tables}
use Rattle.nc_schema.specs.Violations.{has_text, values_referred}
use Rattle.nc_refs.specs.declared.referred.Known.{Known}
use Rattle.nc_refs.specs.declared.referred.Referred.{Referred}
use Rattle.nc_refs.specs.inner.Trails.{IsTrail}

-- texts are ordered byte by byte
abbrev pub text_order : Bor (List ℕ) → Bor (List ℕ) → Ordering
text_order text other = slice_cmp nat_cmp text.now other.now

-- the set has these values and no other
abbrev pub HasValues : BTreeSet (Bor (List ℕ)) → List (List ℕ) → Type 0
HasValues set values = (key : Bor (List ℕ)) → contains text_order set key ≡ has_text key.now values

-- the values that are known are those of the leafref's target below the place where its path turned down last
abbrev pub AreReferred : Tables → List Row → Referred → Type 0
AreReferred tables rows referred =
    HasValues referred.values (values_referred tables rows referred.turning.now referred.target)

-- what is known holds
pub record IsKnown (tables : Tables) (rows : List Row) (known : Known) : Type 0 where
  pub trail : IsTrail tables rows known.trail
  pub children : IfSome known.children (λ children. children ≡ tables)
  pub referred : (leaf : ℕ) → IfSome (get nat_cmp known.referred leaf) (AreReferred tables rows)
