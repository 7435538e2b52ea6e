-- What is so of the data nodes of a schema is so where they have other types and other defaults.
use Rattle.std.proofs.Common.{◌≡◌, ◌<◌, ◌++◌, ℕ, List, [], ◌∷◌, length, refl, sym, ap, ◌∙◌, subst}
use Rattle.std.specs.Prelude.{Option, Some, None, IsSome, IsSomeAnd, IsTrue, IsFalse, slice_get}
use Rattle.std.specs.List.{All}
use Rattle.nc_names.specs.declared.name.Module.{Module}
use Rattle.nc_names.specs.declared.name.QName.{QName}
use Rattle.nc_schema.specs.Kinds.{has_entries, has_value, holds_nodes, is_list}
use Rattle.nc_schema.specs.Proper.{AreInPlace, AreNested, EachNode, HasItsKeys, HasItsUniques, IsChain, IsContainer, IsIdentityOf, IsKeyIn, IsNamed, IsProperType, IsUniqueIn, StandsIn, TurnsAbove}
use Rattle.nc_schema.specs.Tables.{Tables}
use Rattle.nc_schema.specs.declared.node.Case.{Case}
use Rattle.nc_schema.specs.declared.node.Choice.{Choice}
use Rattle.nc_schema.specs.declared.node.Kind.TheVariants.{Leaf}
use Rattle.nc_schema.specs.declared.node.Node.{Node}
use Rattle.nc_schema.specs.declared.value_type.ValueType.{ValueType}
use Rattle.nc_schema.specs.declared.value_type.ValueType.TheVariants.{Decimal, Bits, Union, Identity, Leafref}
use Rattle.nc_yang_nodes.proofs.ListLemmas.{got}
use Rattle.nc_yang_scopes.proofs.Lists.{get_within}

-- a data node with another type and other defaults
abbrev pub put_in : Node → ℕ → List (List ℕ) → Node
put_in old of_value defaults = record old { kind_of_value = of_value; defaults = defaults }

pub record IsAlike (old new : Node) : Type 0 where
  pub of_value : ℕ
  pub defaults : List (List ℕ)
  pub is : new ≡ put_in old of_value defaults

-- two schemas whose data nodes, one by one, differ in these alone
pub record AreAlike (from to : Tables) : Type 0 where
  pub modules : to.modules ≡ from.modules
  pub choices : to.choices ≡ from.choices
  pub counted : length to.nodes ≡ length from.nodes
  pub nodes : EachNode from (λ number old. IsSomeAnd (slice_get to.nodes number) (IsAlike old))

pub some_and : {A : Type 0} (P Q : A → Type 0) → ((x : A) → P x → Q x) → (o : Option A) → IsSomeAnd o P → IsSomeAnd o Q
some_and P Q go None p = absurd p
some_and P Q go (Some x) p = go x p

module _ (from to : Tables) (alike : AreAlike from to) where
  -- the data node of a number as it was
  pub back : (number : ℕ) (new : Node) → slice_get to.nodes number ≡ Some new → (old : Node) × (slice_get from.nodes number ≡ Some old) × IsAlike old new
  back number new at =
      let less : number < length from.nodes = subst (λ n. number < n) alike.counted (get_within to.nodes number new at) in
      let old = got from.nodes number less in
      (old.0, old.1, subst (λ o. IsSomeAnd o (IsAlike old.0)) at (alike.nodes number old.0 old.1))

  -- what is so of a data node
  on : (P : Node → Type 0) → ((old : Node) (of_value : ℕ) (defaults : List (List ℕ)) → P old → P (put_in old of_value defaults)) → (number : ℕ) →
      IsSomeAnd (slice_get from.nodes number) P → IsSomeAnd (slice_get to.nodes number) P
  on P go number some = by (slice_get from.nodes number) refl some
    where
      by : (o : Option Node) → slice_get from.nodes number ≡ o → IsSomeAnd o P → IsSomeAnd (slice_get to.nodes number) P
      by None e p = absurd p
      by (Some old) e p =
          some_and (IsAlike old) P (λ new a. subst P (sym a.is) (go old a.of_value a.defaults p)) (slice_get to.nodes number) (alike.nodes number old e)

  each : (P Q : ℕ → Node → Type 0) → ((number : ℕ) (old : Node) (of_value : ℕ) (defaults : List (List ℕ)) → P number old → Q number (put_in old of_value defaults)) →
      EachNode from P → EachNode to Q
  each P Q go all number new at =
      let b = back number new at in
      subst (Q number) (sym b.2.is) (go number b.0 b.2.of_value b.2.defaults (all number b.0 b.1))

  stands : (number : ℕ) (parent : Option ℕ) → StandsIn from number parent → StandsIn to number parent
  stands number None s = tt
  stands number (Some above) s = (s.0, on (λ (over : Node). IsTrue (holds_nodes over.kind)) (λ old v d p. p) above s.1)

  named : (old : Node) (of_value : ℕ) (defaults : List (List ℕ)) → IsNamed from old → IsNamed to (put_in old of_value defaults)
  named old of_value defaults p = record {
    name = p.name;
    space = subst (λ ms. IsSomeAnd (slice_get ms old.module) (λ (found : Module). found.space ≡ old.name.space)) (sym alike.modules) p.space;
  }

  apart : EachNode from (λ number node. EachNode from (λ other beside. node.parent ≡ beside.parent → node.name ≡ beside.name → number ≡ other)) →
      EachNode to (λ number node. EachNode to (λ other beside. node.parent ≡ beside.parent → node.name ≡ beside.name → number ≡ other))
  apart all number new at other beside there parents names =
      let a = back number new at in
      let b = back other beside there in
      all number a.0 a.1 other b.0 b.1
      (sym (ap (λ (n : Node). n.parent) a.2.is) ∙ parents ∙ ap (λ (n : Node). n.parent) b.2.is)
      (sym (ap (λ (n : Node). n.name) a.2.is) ∙ names ∙ ap (λ (n : Node). n.name) b.2.is)

  -- ---- keys and unique leafs
  is_key : (number : ℕ) (old : Node) (of_value : ℕ) (defaults : List (List ℕ)) → IsKeyIn number old → IsKeyIn number (put_in old of_value defaults)
  is_key number old of_value defaults k = record { kind = k.kind; parent = k.parent; cases = k.cases }

  its_keys : (number : ℕ) (old : Node) (of_value : ℕ) (defaults : List (List ℕ)) → HasItsKeys from number old → HasItsKeys to number (put_in old of_value defaults)
  its_keys number old of_value defaults k = record {
    some = k.some;
    leafs = λ i key less. on (IsKeyIn number) (is_key number) _ (k.leafs i key less);
    apart = k.apart;
  }

  chain : (above : ℕ) (numbers : List ℕ) → IsChain from above numbers → IsChain to above numbers
  chain above [] c = tt
  chain above (number ∷ rest) c = (on (λ (node : Node). node.parent ≡ Some above) (λ old v d p. p) number c.0, chain number rest c.1)

  container : (number : ℕ) → IsContainer from number → IsContainer to number
  container number c = on (λ (node : Node). IsTrue (holds_nodes node.kind) × IsFalse (is_list node.kind)) (λ old v d p. p) number c

  unique : (number leaf : ℕ) → IsUniqueIn from number leaf → IsUniqueIn to number leaf
  unique number leaf u = record {
    kind = on (λ (node : Node). node.kind ≡ Leaf) (λ old v d p. p) leaf u.kind;
    between = u.between;
    chain = chain number (u.between ++ leaf ∷ []) u.chain;
    containers = λ i over less. container _ (u.containers i over less);
  }

  its_uniques : (number : ℕ) (old : Node) (of_value : ℕ) (defaults : List (List ℕ)) → HasItsUniques from number old → HasItsUniques to number (put_in old of_value defaults)
  its_uniques number old of_value defaults u = λ i leafs less.
      let one = u i leafs less in
      (one.0, (λ j leaf within. unique number _ (one.1 j leaf within)))

  -- ---- cases
  nested : (parent : Option ℕ) (cases : List Case) → AreNested from parent cases → AreNested to parent cases
  nested parent cases n = λ before after one cut.
      subst (λ cs. IsSomeAnd (slice_get cs one.choice) (λ (choice : Choice). (choice.parent ≡ parent) × (choice.within ≡ before))) (sym alike.choices)
      (n before after one cut)

  outer : All (λ (choice : Choice). AreNested from choice.parent choice.within) from.choices → All (λ (choice : Choice). AreNested to choice.parent choice.within) to.choices
  outer all =
      subst (λ cs. All (λ (choice : Choice). AreNested to choice.parent choice.within) cs) (sym alike.choices)
      (λ i choice less. nested _ _ (all i choice less))

  pub still_in_place : AreInPlace from → AreInPlace to
  still_in_place p = record {
    parents =
        each (λ number node. StandsIn from number node.parent) (λ number node. StandsIn to number node.parent)
        (λ number old v d s. stands number old.parent s) p.parents;
    names = each (λ number node. IsNamed from node) (λ number node. IsNamed to node) (λ number. named) p.names;
    siblings_apart = apart p.siblings_apart;
    keys = each (HasItsKeys from) (HasItsKeys to) its_keys p.keys;
    uniques = each (HasItsUniques from) (HasItsUniques to) its_uniques p.uniques;
    by_user =
        each (λ number node. IsTrue node.by_user → IsTrue (has_entries node.kind)) (λ number node. IsTrue node.by_user → IsTrue (has_entries node.kind))
        (λ number old v d s. s) p.by_user;
    cases =
        each (λ number node. AreNested from node.parent node.cases) (λ number node. AreNested to node.parent node.cases)
        (λ number old v d s. nested old.parent old.cases s) p.cases;
    outer_cases = outer p.outer_cases;
  }

  -- ---- types
  module _ (types : to.types ≡ from.types) (kept : EachNode from (λ number old. IsSomeAnd (slice_get to.nodes number) (λ new. new.kind_of_value ≡ old.kind_of_value))) where
    -- the number of its type is the same
    of_same : (number : ℕ) (new : Node) (at : slice_get to.nodes number ≡ Some new) → new.kind_of_value ≡ (back number new at).0.kind_of_value
    of_same number new at =
        let b = back number new at in
        subst (λ o. IsSomeAnd o (λ (n : Node). n.kind_of_value ≡ b.0.kind_of_value)) at (kept number b.0 b.1)

    pub still_typed : EachNode from (λ number node. IsTrue (has_value node.kind) → IsSome (slice_get from.types node.kind_of_value)) →
        EachNode to (λ number node. IsTrue (has_value node.kind) → IsSome (slice_get to.types node.kind_of_value))
    still_typed all number new at has =
        let b = back number new at in
        let some : IsSome (slice_get from.types b.0.kind_of_value) = all number b.0 b.1 (sym (ap (λ (n : Node). has_value n.kind) b.2.is) ∙ has) in
        subst (λ v. IsSome (slice_get to.types v)) (sym (of_same number new at)) (subst (λ ts. IsSome (slice_get ts b.0.kind_of_value)) (sym types) some)

    proper_type : (found : ValueType) → IsProperType from found → IsProperType to found
    proper_type (Decimal digits among) p = p
    proper_type (Bits names) p = p
    proper_type (Union members) p = subst (λ ts. All (λ member. IsSome (slice_get ts member)) members) (sym types) p
    proper_type (Identity among) p =
        subst (λ ms. All (λ (name : QName). IsIdentityOf (record to { modules = ms }) name) among) (sym alike.modules) p
    proper_type (Leafref target above required) p = on (λ (node : Node). IsTrue (has_value node.kind)) (λ old v d q. q) target p
    proper_type found p = tt

    pub still_proper_types : All (IsProperType from) from.types → All (IsProperType to) to.types
    still_proper_types all = subst (All (IsProperType to)) (sym types) (λ i found less. proper_type _ (all i found less))

    pub still_turn : EachNode from (TurnsAbove from) → EachNode to (TurnsAbove to)
    still_turn all number new at target above required is has =
        let b = back number new at in
        let there : slice_get from.types b.0.kind_of_value ≡ Some (Leafref target (Some above) required) =
        ap (λ ts. slice_get ts b.0.kind_of_value) (sym types) ∙ ap (slice_get to.types) (sym (of_same number new at)) ∙ is in
        let turns = all number b.0 b.1 target above required there (sym (ap (λ (n : Node). has_value n.kind) b.2.is) ∙ has) in
        (turns.0, chain above (turns.0 ++ number ∷ []) turns.1)
