-- What a proper schema says of its names and nodes, in the form in which proofs use it.
use Rattle.std.proofs.Common.{◌≡◌, ◌≢◌, ◌<◌, ◌≤◌, ◌++◌, ◌⊎◌, ℕ, zero, suc, List, [], ◌∷◌, length, take, drop, Option, Some, None, refl, sym, ap, subst, ◌∙◌, arith, inl, inr}
use Rattle.std.specs.Prelude.{IsTrue, IsSome, IsSomeAnd, slice_get}
use Rattle.std.specs.List.{All, AllPairs, Contains, slice_index_or}
use Rattle.nc_names.specs.declared.name.Module.{Module}
use Rattle.nc_names.specs.Identifiers.{IsIdentifier}
use Rattle.nc_schema.specs.declared.node.Case.{Case}
use Rattle.nc_schema.specs.declared.node.Choice.{Choice}
use Rattle.nc_schema.specs.declared.node.Kind.{Kind}
use Rattle.nc_schema.specs.declared.node.Kind.TheVariants.{Container, Leaf, LeafList, List as ListKind}
use Rattle.nc_schema.specs.declared.node.Node.{Node}
use Rattle.nc_schema.specs.Kinds.{holds_nodes}
use Rattle.nc_schema.specs.Proper.{IsProperSchema, IsProperModule, IsNamed, IsKeyIn, AreNested, StandsIn}
use Rattle.nc_schema.specs.Tables.{Tables}

-- data nodes stand in containers and lists
abbrev pub HoldsNodes : Kind → Type 0
HoldsNodes (Container presence) = Unit {0}
HoldsNodes Leaf = ⊥
HoldsNodes LeafList = ⊥
HoldsNodes ListKind = Unit {0}

pub record HasProperNodes (tables : Tables) : Type 0 where
  pub parents : (number above : ℕ) (node over : Node) → slice_get tables.nodes number ≡ Some node → node.parent ≡ Some above → slice_get tables.nodes above ≡ Some over → HoldsNodes over.kind
  pub keys : (number key : ℕ) (node : Node) → slice_get tables.nodes number ≡ Some node → Contains node.keys key → IsSomeAnd (slice_get tables.nodes key) (IsKeyIn number)
  pub keys_apart : (number : ℕ) (node : Node) → slice_get tables.nodes number ≡ Some node → AllPairs (λ key later. key ≢ later) node.keys
  pub cases_apart : (number : ℕ) (node : Node) → slice_get tables.nodes number ≡ Some node → AllPairs (λ one later. one.choice ≢ later.choice) node.cases

pub record HasProperNames (tables : Tables) : Type 0 where
  pub node_names : (number : ℕ) (node : Node) → slice_get tables.nodes number ≡ Some node → IsIdentifier node.name.name
  pub module_names : (number : ℕ) (found : Module) → slice_get tables.modules number ≡ Some found → IsIdentifier found.name
  pub known_modules : (number : ℕ) (node : Node) → slice_get tables.nodes number ≡ Some node → IsSome (slice_get tables.modules node.module)
  pub modules_apart : (number other : ℕ) (found another : Module) → slice_get tables.modules number ≡ Some found → slice_get tables.modules other ≡ Some another → found.name ≡ another.name → number ≡ other
  pub siblings_apart : (number other : ℕ) (node beside : Node) → slice_get tables.nodes number ≡ Some node → slice_get tables.nodes other ≡ Some beside → node.parent ≡ beside.parent → node.module ≡ beside.module → node.name.name ≡ beside.name.name → number ≡ other

-- the element of a list at a place
found_at : {X : Type 0} (xs : List X) (i : ℕ) (x d : X) → slice_get xs i ≡ Some x → (i < length xs) × (slice_index_or xs i d ≡ x)
found_at [] i x d is = cc
found_at (y ∷ ys) zero x d is = (omega arith, some_is y x is)
  where
    some_is : {X : Type 0} (y x : X) → Some y ≡ Some x → y ≡ x
    some_is y x e = cc
found_at (y ∷ ys) (suc i) x d is = let rest = found_at ys i x d is in (omega (arith, rest.0), rest.1)

-- what is so of each is so of this one
each_at : {X : Type 0} (P : X → Type 0) (xs : List X) (i : ℕ) (x : X) → All P xs → slice_get xs i ≡ Some x → P x
each_at P xs i x each is = let at = found_at xs i x x is in subst P at.1 (each i x at.0)

each_contained : {X : Type 0} (P : X → Type 0) (xs : List X) (x : X) → All P xs → Contains xs x → P x
each_contained P xs x each has = subst P has.2 (each has.0 x has.1)

cut_at : {X : Type 0} (xs : List X) (i : ℕ) (d : X) → i < length xs → xs ≡ take i xs ++ slice_index_or xs i d ∷ drop (suc i) xs
cut_at [] i d within = absurd (omega (arith, within))
cut_at (x ∷ xs) zero d within = refl
cut_at (x ∷ xs) (suc i) d within = ap (λ r. x ∷ r) (cut_at xs i d (omega (arith, within)))

taken : {X : Type 0} (xs : List X) (i : ℕ) → i ≤ length xs → length (take i xs) ≡ i
taken [] zero within = refl
taken [] (suc i) within = absurd (omega (arith, within))
taken (x ∷ xs) zero within = refl
taken (x ∷ xs) (suc i) within = ap suc (taken xs i (omega (arith, within)))

holds : (kind : Kind) → IsTrue (holds_nodes kind) → HoldsNodes kind
holds (Container presence) is = tt
holds Leaf is = cc
holds LeafList is = cc
holds ListKind is = tt

-- one choice stands within the same cases each time
within_of : (tables : Tables) (parent : Option ℕ) (cases : List Case) (i : ℕ) (d : Case) (choice : Choice) → AreNested tables parent cases → i < length cases →
    slice_get tables.choices (slice_index_or cases i d).choice ≡ Some choice → length choice.within ≡ i
within_of tables parent cases i d choice nested within is =
    let P : Option Choice → Type 0 = λ found. IsSomeAnd found (λ choice. (choice.parent ≡ parent) × (choice.within ≡ take i cases)) in
    let there = subst P is (nested (take i cases) (drop (suc i) cases) (slice_index_or cases i d) (cut_at cases i d within)) in
    ap length there.1 ∙ taken cases i (omega (arith, within))

cases_differ_in : (tables : Tables) (parent : Option ℕ) (cases : List Case) → AreNested tables parent cases → AllPairs (λ one later. one.choice ≢ later.choice) cases
cases_differ_in tables parent cases nested i j d less within same = by (slice_get tables.choices (slice_index_or cases i d).choice) refl
  where
    there : IsSomeAnd (slice_get tables.choices (slice_index_or cases i d).choice) (λ choice. (choice.parent ≡ parent) × (choice.within ≡ take i cases))
    there = nested (take i cases) (drop (suc i) cases) (slice_index_or cases i d) (cut_at cases i d (omega (arith, less, within)))

    by : (found : Option Choice) → slice_get tables.choices (slice_index_or cases i d).choice ≡ found → ⊥
    by None is = subst (λ (f : Option Choice). IsSomeAnd f (λ choice. (choice.parent ≡ parent) × (choice.within ≡ take i cases))) is there
    by (Some choice) is =
        let first = within_of tables parent cases i d choice nested (omega (arith, less, within)) is in
        let later = within_of tables parent cases j d choice nested within (ap (slice_get tables.choices) (sym same) ∙ is) in
        omega (arith, less, first, later)

pub proper_nodes : (tables : Tables) → IsProperSchema tables → HasProperNodes tables
proper_nodes tables proper = record {
  parents = λ number above node over is parent over_is.
      let P : Option ℕ → Type 0 = StandsIn tables number in
      let Q : Option Node → Type 0 = λ found. IsSomeAnd found (λ over. IsTrue (holds_nodes over.kind)) in
      holds over.kind (subst Q over_is (subst P parent (proper.places.parents number node is)).1);
  keys = λ number key node is has. each_contained (λ key. IsSomeAnd (slice_get tables.nodes key) (IsKeyIn number)) node.keys key (proper.places.keys number node is).leafs has;
  keys_apart = λ number node is. (proper.places.keys number node is).apart;
  cases_apart = λ number node is. cases_differ_in tables node.parent node.cases (proper.places.cases number node is);
}

-- the module of a node
module_there : (tables : Tables) (node : Node) → IsNamed tables node → (found : Module) × (slice_get tables.modules node.module ≡ Some found) × (found.space ≡ node.name.space)
module_there tables node named = by (slice_get tables.modules node.module) refl named.space
  where
    by : (found : Option Module) → slice_get tables.modules node.module ≡ found → IsSomeAnd found (λ found. found.space ≡ node.name.space) →
        (found : Module) × (slice_get tables.modules node.module ≡ Some found) × (found.space ≡ node.name.space)
    by None is there = absurd there
    by (Some found) is there = (found, is, there)

is_some_by : {X : Type 0} (found : Option X) (x : X) → found ≡ Some x → IsSome found
is_some_by found x is = subst IsSome (sym is) refl

same_some : {X : Type 0} (x y : X) → Some x ≡ Some y → x ≡ y
same_some x y e = cc

pub proper_names : (tables : Tables) → IsProperSchema tables → HasProperNames tables
proper_names tables proper = record {
  node_names = λ number node is. (proper.places.names number node is).name;
  module_names = λ number found is. (each_at IsProperModule tables.modules number found proper.modules.modules is).name;
  known_modules = λ number node is. let there = module_there tables node (proper.places.names number node is) in is_some_by (slice_get tables.modules node.module) there.0 there.1;
  modules_apart = apart;
  siblings_apart = λ number other node beside is beside_is parent same_module same_name.
      let there = module_there tables node (proper.places.names number node is) in
      let also = module_there tables beside (proper.places.names other beside beside_is) in
      let one = same_some there.0 also.0 (sym there.1 ∙ ap (slice_get tables.modules) same_module ∙ also.1) in
      let space : node.name.space ≡ beside.name.space = sym there.2 ∙ ap (λ m. m.space) one ∙ also.2 in
      let name : node.name ≡ beside.name = λ i. record { space = space i; name = same_name i } in
      proper.places.siblings_apart number node is other beside beside_is parent name;
}
  where
    differ : (i j : ℕ) (found another : Module) → i < j → slice_get tables.modules i ≡ Some found → slice_get tables.modules j ≡ Some another → found.name ≡ another.name → ⊥
    differ i j found another less is another_is same =
        let at = found_at tables.modules i found found is in
        let at_other = found_at tables.modules j another found another_is in
        (proper.modules.modules_apart i j found less at_other.0).0 (ap (λ m. m.name) at.1 ∙ same ∙ sym (ap (λ m. m.name) at_other.1))

    order : (a b : ℕ) → (a < b) ⊎ (a ≡ b) ⊎ (b < a)
    order zero zero = inr (inl refl)
    order zero (suc b) = inl (omega arith)
    order (suc a) zero = inr (inr (omega arith))
    order (suc a) (suc b) = by (order a b)
      where
        by : (a < b) ⊎ (a ≡ b) ⊎ (b < a) → (suc a < suc b) ⊎ (suc a ≡ suc b) ⊎ (suc b < suc a)
        by (inl less) = inl (omega (arith, less))
        by (inr (inl same)) = inr (inl (ap suc same))
        by (inr (inr more)) = inr (inr (omega (arith, more)))

    apart : (number other : ℕ) (found another : Module) → slice_get tables.modules number ≡ Some found → slice_get tables.modules other ≡ Some another → found.name ≡ another.name → number ≡ other
    apart number other found another is another_is same = by (order number other)
      where
        by : (number < other) ⊎ (number ≡ other) ⊎ (other < number) → number ≡ other
        by (inl less) = absurd (differ number other found another less is another_is same)
        by (inr (inl one)) = one
        by (inr (inr more)) = absurd (differ other number another found more another_is is (sym same))
