-- The schema of the tests is one that modules define.
use Rattle.std.proofs.Common.{◌≡◌, ◌≢◌, ◌<◌, ◌≤◌, ℕ, zero, suc, true, false, List, [], ◌∷◌, ◌++◌, length, refl, sym, ap, subst, ◌∙◌, Option, Some, None, arith}
use Rattle.std.specs.Prelude.{codes, ◌+◌, slice_get, slice_index_or, IsSomeAnd, IsTrue, IsSome, ltb}
use Rattle.std.specs.List.{All, AllPairs}
use Rattle.nc_names.specs.declared.name.Module.{Module}
use Rattle.nc_names.specs.declared.name.QName.{QName}
use Rattle.nc_names.specs.declared.path.Row.{Row}
use Rattle.nc_schema.specs.declared.node.Case.{Case}
use Rattle.nc_schema.specs.declared.node.Kind.TheVariants.{Leaf, LeafList, List as ListKind}
use Rattle.nc_schema.specs.declared.node.Node.{Node}
use Rattle.nc_schema.specs.declared.value_type.ValueType.TheVariants.{Chars, Leafref}
use Rattle.nc_schema.specs.Configuration.{HasCanonicalValue, IsConfiguration, IsDataTree}
use Rattle.nc_schema.specs.Kinds.{has_entries, has_value, holds_nodes, is_leaf}
use Rattle.nc_schema.specs.Proper.{AreNested, EachNode, HasItsDefaults, HasItsKeys, HasItsUniques, IsKeyIn, IsNamed, IsProperModule, IsProperSchema, IsProperType, StandsIn, TurnsAbove}
use Rattle.nc_schema.specs.Tables.{Tables}
use Rattle.nc_schema.specs.Violations.{IsValid}
use Rattle.trials_machine.specs.Sample.{host, name, port, sample, speed, tag}

all_one : {X : Type 0} (P : X → Type 0) (x : X) → P x → All P (x ∷ [])
all_one P x p zero d within = p
all_one P x p (suc k) d within = absurd (omega (arith, within))

none_all : {X : Type 0} (P : X → Type 0) → All P []
none_all P k d within = absurd (omega (arith, within))

one_pair : {X : Type 0} (R : X → X → Type 0) (x : X) → AllPairs R (x ∷ [])
one_pair R x i j d less within = absurd (omega (arith, less, within))

some_same : {X : Type 0} (x y : X) → Some x ≡ Some y → x ≡ y
some_same x y is = cc

none_some : {X : Type 0} (y : X) → None ≡ Some y → ⊥
none_some y is = cc

-- what is so of the five nodes is so of each
each : (P : ℕ → Node → Type 0) → P 0 host → P 1 tag → P 2 port → P 3 name → P 4 speed → EachNode sample P
unfolding sample
each P a b c d e zero node is = subst (P 0) (some_same _ _ is) a
each P a b c d e (suc zero) node is = subst (P 1) (some_same _ _ is) b
each P a b c d e (suc (suc zero)) node is = subst (P 2) (some_same _ _ is) c
each P a b c d e (suc (suc (suc zero))) node is = subst (P 3) (some_same _ _ is) d
each P a b c d e (suc (suc (suc (suc zero)))) node is = subst (P 4) (some_same _ _ is) e
each P a b c d e (suc (suc (suc (suc (suc n))))) node is = absurd (none_some node is)

no_element : {X : Type 0} (before after : List X) (x : X) → [] ≡ before ++ x ∷ after → ⊥
no_element [] after x is = cc
no_element (y ∷ before) after x is = cc

-- ---- what is so of each node

-- two names with two first signs are two
first : QName → ℕ
first name = slice_index_or name.name 0 0

rises : (x y : QName) (more : ℕ) → first y ≡ first x + suc more → x ≡ y → ⊥
rises x y more is same = let firsts : first x ≡ first y = ap first same in omega (arith, is, firsts)

abbrev IsApart : ℕ → Node → ℕ → Node → Type 0
IsApart number node other beside = node.parent ≡ beside.parent → node.name ≡ beside.name → number ≡ other

apart : EachNode sample (λ number node. EachNode sample (IsApart number node))
unfolding sample host tag port name speed first
apart =
    each (λ number node. EachNode sample (IsApart number node))
    (each (IsApart 0 host)
    (λ place name_is. refl)
    (λ place name_is. absurd (rises host.name tag.name 11 refl name_is))
    (λ place name_is. absurd (rises host.name port.name 7 refl name_is))
    (λ place name_is. absurd (rises host.name name.name 5 refl name_is))
    (λ place name_is. absurd (rises host.name speed.name 10 refl name_is)))
    (each (IsApart 1 tag)
    (λ place name_is. absurd (rises host.name tag.name 11 refl (sym name_is)))
    (λ place name_is. refl)
    (λ place name_is. absurd (rises port.name tag.name 3 refl (sym name_is)))
    (λ place name_is. absurd (rises name.name tag.name 5 refl (sym name_is)))
    (λ place name_is. absurd (rises speed.name tag.name 0 refl (sym name_is))))
    (each (IsApart 2 port)
    (λ place name_is. absurd (rises host.name port.name 7 refl (sym name_is)))
    (λ place name_is. absurd (rises port.name tag.name 3 refl name_is))
    (λ place name_is. refl)
    (λ place name_is. absurd (rises name.name port.name 1 refl (sym name_is)))
    (λ place name_is. absurd (rises port.name speed.name 2 refl name_is)))
    (each (IsApart 3 name)
    (λ place name_is. absurd (rises host.name name.name 5 refl (sym name_is)))
    (λ place name_is. absurd (rises name.name tag.name 5 refl name_is))
    (λ place name_is. absurd (rises name.name port.name 1 refl name_is))
    (λ place name_is. refl)
    (λ place name_is. absurd (rises name.name speed.name 4 refl name_is)))
    (each (IsApart 4 speed)
    (λ place name_is. absurd (rises host.name speed.name 10 refl (sym name_is)))
    (λ place name_is. absurd (rises speed.name tag.name 0 refl name_is))
    (λ place name_is. absurd (rises port.name speed.name 2 refl (sym name_is)))
    (λ place name_is. absurd (rises name.name speed.name 4 refl (sym name_is)))
    (λ place name_is. refl))

parents : EachNode sample (λ number node. StandsIn sample number node.parent)
unfolding sample host tag port name speed
parents =
    each (λ number node. StandsIn sample number node.parent) tt tt tt
    (omega arith, refl)
    (omega arith, refl)

names : EachNode sample (λ number node. IsNamed sample node)
unfolding sample host tag port name speed
names =
    each (λ number node. IsNamed sample node)
    (record { name = refl; space = refl })
    (record { name = refl; space = refl })
    (record { name = refl; space = refl })
    (record { name = refl; space = refl })
    (record { name = refl; space = refl })

no_keys : (number : ℕ) (node : Node) → node.keys ≡ [] → ¬ (node.kind ≡ ListKind) → HasItsKeys sample number node
no_keys number node none kind = record {
  some = (λ is. absurd (kind is), λ some. absurd (some none));
  leafs = λ k d within. absurd (omega (arith, within, ap length none));
  apart = λ i j d less within. absurd (omega (arith, within, ap length none));
}

keys : EachNode sample (HasItsKeys sample)
unfolding sample host tag port name speed
keys =
    each (HasItsKeys sample)
    (no_keys 0 host refl (λ is. cc))
    (no_keys 1 tag refl (λ is. cc))
    (record {
      some = (λ is none. cc, λ some. refl);
      leafs = all_one (λ key. IsSomeAnd (slice_get sample.nodes key) (IsKeyIn 2)) 3 (record { kind = refl; parent = refl; cases = refl });
      apart = one_pair (λ (key later : ℕ). key ≢ later) 3;
    })
    (no_keys 3 name refl (λ is. cc))
    (no_keys 4 speed refl (λ is. cc))

by_user : EachNode sample (λ number node. IsTrue node.by_user → IsTrue (has_entries node.kind))
unfolding sample host tag port name speed
by_user =
    each (λ number node. IsTrue node.by_user → IsTrue (has_entries node.kind))
    (λ is. cc) (λ is. refl) (λ is. refl) (λ is. cc) (λ is. cc)

cases : EachNode sample (λ number node. AreNested sample node.parent node.cases)
unfolding sample host tag port name speed
cases =
    each (λ number node. AreNested sample node.parent node.cases)
    (λ before after one is. absurd (no_element before after one is))
    (λ before after one is. absurd (no_element before after one is))
    (λ before after one is. absurd (no_element before after one is))
    (λ before after one is. absurd (no_element before after one is))
    (λ before after one is. absurd (no_element before after one is))

typed : EachNode sample (λ number node. IsTrue (has_value node.kind) → IsSome (slice_get sample.types node.kind_of_value))
unfolding sample host tag port name speed
typed =
    each (λ number node. IsTrue (has_value node.kind) → IsSome (slice_get sample.types node.kind_of_value))
    (λ is. refl) (λ is. refl) (λ is. refl) (λ is. refl) (λ is. refl)

uniques : EachNode sample (HasItsUniques sample)
unfolding sample host tag port name speed
uniques = each (HasItsUniques sample) (none_all _) (none_all _) (none_all _) (none_all _) (none_all _)

defaults : EachNode sample (λ number node. HasItsDefaults node)
unfolding sample host tag port name speed
defaults =
    each (λ number node. HasItsDefaults node)
    (λ is. omega arith) (λ is. omega arith) (λ is. omega arith) (λ is. omega arith) (λ is. omega arith)

no_leafref : (number : ℕ) (node : Node) → node.kind_of_value ≡ 0 → TurnsAbove sample number node
unfolding sample
no_leafref number node zeroth target above required is value =
    let at : slice_get sample.types 0 ≡ Some (Leafref target (Some above) required)
    = subst (λ (n : ℕ). slice_get sample.types n ≡ Some (Leafref target (Some above) required)) zeroth is in
    cc

leafrefs : EachNode sample (TurnsAbove sample)
unfolding sample host tag port name speed
leafrefs =
    each (TurnsAbove sample) (no_leafref 0 host refl) (no_leafref 1 tag refl) (no_leafref 2 port refl)
    (no_leafref 3 name refl) (no_leafref 4 speed refl)

pub sample_is_proper : IsProperSchema sample
unfolding sample host tag port name speed
sample_is_proper = record {
  modules = record {
    modules = all_one IsProperModule _ (record { name = refl; space = λ is. cc });
    modules_apart = one_pair (λ (one later : Module). (one.name ≢ later.name) × (one.space ≢ later.space)) _;
  };
  places = record {
    parents = parents;
    names = names;
    siblings_apart = apart;
    keys = keys;
    uniques = uniques;
    by_user = by_user;
    cases = cases;
    outer_cases = none_all _;
  };
  types = record { typed = typed; types = all_one (IsProperType sample) _ tt; leafrefs = leafrefs };
  defaults = defaults;
}

-- ---- the configuration without rows

no_two : {X : Type 0} (before between after : List X) (x y : X) → [] ≡ before ++ x ∷ between ++ y ∷ after → ⊥
no_two [] between after x y is = cc
no_two (z ∷ before) between after x y is = cc

pub empty_is_tree : IsDataTree sample []
empty_is_tree = record {
  below = none_all _;
  paths = none_all _;
  distinct = λ i j d less within. absurd (omega (arith, within));
  ordered = λ i j d less within. absurd (omega (arith, within));
  together = λ first between last row other steps is at beyond. absurd (no_two first between last row other is);
  values = none_all _;
  keys = λ before after row above step node is leads kind. absurd (no_element before after row is);
  ancestors = λ before after row above step next rest node is steps at there stands. absurd (no_element before after row is);
  cases = λ row other above rest others step beside choice case another (k, within, at) there path path_too one two.
      absurd (omega (arith, within));
}

pub empty_is_configuration : IsConfiguration sample []
empty_is_configuration = record { tree = empty_is_tree; canonical = none_all _ }

pub empty_is_valid : IsValid sample []
unfolding sample host tag port name speed
empty_is_valid = refl
