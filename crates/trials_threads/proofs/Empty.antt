-- A schema without anything is one that modules define, and the configuration without rows is one of it.
use Rattle.std.proofs.Common.{◌≡◌, ℕ, List, [], ◌∷◌, ◌++◌, refl, Option, Some, None, arith}
use Rattle.std.specs.Prelude.{slice_get}
use Rattle.std.specs.List.{All}
use Rattle.nc_schema.specs.declared.node.Node.{Node}
use Rattle.nc_schema.specs.Configuration.{IsConfiguration, IsDataTree}
use Rattle.nc_schema.specs.Proper.{EachNode, IsProperSchema}
use Rattle.nc_schema.specs.Tables.{no_tables}
use Rattle.nc_schema.specs.Violations.{IsValid}

none_all : {X : Type 0} (P : X → Type 0) → All P []
none_all P k d within = absurd (omega (arith, within))

none_some : {X : Type 0} (y : X) → None ≡ Some y → ⊥
none_some y is = cc

no_element : {X : Type 0} (before after : List X) (x : X) → [] ≡ before ++ x ∷ after → ⊥
no_element [] after x is = cc
no_element (y ∷ before) after x is = cc

no_two : {X : Type 0} (before between after : List X) (x y : X) → [] ≡ before ++ x ∷ between ++ y ∷ after → ⊥
no_two [] between after x y is = cc
no_two (z ∷ before) between after x y is = cc

-- it has no data node
no_node : (P : ℕ → Node → Type 0) → EachNode no_tables P
no_node P number node is = absurd (none_some node is)

pub empty_is_proper : IsProperSchema no_tables
empty_is_proper = record {
  modules = record { modules = none_all _; modules_apart = λ i j d less within. absurd (omega (arith, within)) };
  places = record {
    parents = no_node _;
    names = no_node _;
    siblings_apart = no_node _;
    keys = no_node _;
    uniques = no_node _;
    by_user = no_node _;
    cases = no_node _;
    outer_cases = none_all _;
  };
  types = record { typed = no_node _; types = none_all _; leafrefs = no_node _ };
  defaults = no_node _;
}

empty_is_tree : IsDataTree no_tables []
empty_is_tree = record {
  below = none_all _;
  paths = none_all _;
  distinct = λ i j d less within. absurd (omega (arith, within));
  ordered = λ i j d less within. absurd (omega (arith, within));
  together = λ first between last row other steps is at beyond. absurd (no_two first between last row other is);
  values = none_all _;
  keys = λ before after row above step node is leads kind. absurd (no_element before after row is);
  ancestors = λ before after row above step next rest node is steps at there stands. absurd (no_element before after row is);
  cases = λ row other above rest others step beside choice case another (k, within, at) there path path_too one two.
      absurd (omega (arith, within));
}

pub empty_is_configuration : IsConfiguration no_tables []
empty_is_configuration = record { tree = empty_is_tree; canonical = none_all _ }

pub empty_is_valid : IsValid no_tables []
empty_is_valid = refl
