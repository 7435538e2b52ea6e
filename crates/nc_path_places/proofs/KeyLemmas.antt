-- The keys of a list have names of their own.
use Rattle.std.proofs.Common.{◌≡◌, ◌≢◌, ℕ, suc, Bool, true, false, not, eqb, List, [], ◌∷◌, Option, Some, None, All, AllPairs, IsSomeAnd, slice_get, refl, sym, ap, ◌∙◌, arith}
use Rattle.std.specs.Option.{option_map_or}
use Rattle.std.proofs.lemmas.Bool.Decides.{Decides-eqb}
use Rattle.nc_names.proofs.SameLemmas.{second_true, name_decide}
use Rattle.nc_names.specs.declared.name.Bound.{Bound}
use Rattle.nc_names.specs.declared.name.QName.{QName}
use Rattle.nc_names.specs.Same.{is_same_name}
use Rattle.nc_schema.specs.InstancePaths.{has_name, is_of_key, keys_of_kind, qualified}
use Rattle.nc_schema.specs.Proper.{HasItsKeys, IsKeyIn, IsProperSchema}
use Rattle.nc_schema.specs.Tables.{Tables}
use Rattle.nc_schema.specs.declared.node.Kind.{Kind}
use Rattle.nc_schema.specs.declared.node.Kind.TheVariants.{Container, Leaf, LeafList, List as ListKind}
use Rattle.nc_schema.specs.declared.node.Node.{Node}
use Rattle.nc_schema.specs.declared.written.WrittenName.{WrittenName}
use Rattle.nc_path_places.specs.Apart.{AreApart, IsOfNone}
use Rattle.nc_path_places.specs.Laws.{ProperKeysAreApart}
use Rattle.nc_path_places.proofs.Names.{map_or_true}

there_and : {X : Type 0} (o : Option X) (P : X → Type 0) → IsSomeAnd o P → (x : X) × (o ≡ Some x) × P x
there_and None P h = absurd h
there_and (Some x) P h = (x, refl, h)

all_first : {X : Type 0} (P : X → Type 0) (x : X) (xs : List X) → All P (x ∷ xs) → P x
all_first P x xs all = all 0 x (omega arith)

all_rest : {X : Type 0} (P : X → Type 0) (x : X) (xs : List X) → All P (x ∷ xs) → All P xs
all_rest P x xs all k d within = all (suc k) d (omega (arith, within))

pairs_first : {X : Type 0} (R : X → X → Type 0) (x : X) (xs : List X) → AllPairs R (x ∷ xs) → All (R x) xs
pairs_first R x xs all k d within = all 0 (suc k) d (omega arith) (omega (arith, within))

pairs_rest : {X : Type 0} (R : X → X → Type 0) (x : X) (xs : List X) → AllPairs R (x ∷ xs) → AllPairs R xs
pairs_rest R x xs all i j d less within = all (suc i) (suc j) d (omega (arith, less)) (omega (arith, within))

module _ (tables : Tables) (proper : IsProperSchema tables) (number : ℕ) (node : Node) (node_is : slice_get tables.nodes number ≡ Some node) (list : node.kind ≡ ListKind) where
  abbrev IsKey : ℕ → Type 0
  IsKey key = IsSomeAnd (slice_get tables.nodes key) (IsKeyIn number)

  -- a key is not the list itself
  other_node : (key : ℕ) → IsKey key → key ≢ number
  other_node key is same =
      let (leaf, leaf_is, in_list) = there_and (slice_get tables.nodes key) (IsKeyIn number) is in
      let both : Some leaf ≡ Some node = sym leaf_is ∙ ap (slice_get tables.nodes) same ∙ node_is in
      let one : leaf ≡ node = cc in
      let kinds : Leaf ≡ ListKind = sym in_list.kind ∙ ap (λ (n : Node). n.kind) one ∙ list in
      cc

  named : (key : ℕ) (leaf : Node) (q : QName) → slice_get tables.nodes key ≡ Some leaf → has_name tables key q ≡ true → leaf.name ≡ q
  named key leaf q leaf_is has =
      let (found, found_is, same) = map_or_true (λ (n : Node). is_same_name n.name q) (slice_get tables.nodes key) has in
      let both : Some found ≡ Some leaf = sym found_is ∙ leaf_is in
      let one : found ≡ leaf = cc in
      ap (λ (n : Node). n.name) (sym one) ∙ (name_decide found.name q).0 same

  same_key : (bounds : List Bound) (key other : ℕ) (written : Option WrittenName) → IsKey key → IsKey other → is_of_key tables bounds number key written ≡ true → is_of_key tables bounds number other written ≡ true → key ≡ other
  same_key bounds key other None is is_other e f = absurd (other_node key is ((Decides-eqb key number).0 e))
  same_key bounds key other (Some w) is is_other e f =
      let (leaf, leaf_is, in_list) = there_and (slice_get tables.nodes key) (IsKeyIn number) is in
      let (beside, beside_is, in_it) = there_and (slice_get tables.nodes other) (IsKeyIn number) is_other in
      let e1 = second_true (not (eqb key number)) (option_map_or (has_name tables key) (qualified tables bounds w) false) e in
      let f1 = second_true (not (eqb other number)) (option_map_or (has_name tables other) (qualified tables bounds w) false) f in
      let (q, q_is, has) = map_or_true (has_name tables key) (qualified tables bounds w) e1 in
      let (p, p_is, has_too) = map_or_true (has_name tables other) (qualified tables bounds w) f1 in
      let both : Some q ≡ Some p = sym q_is ∙ p_is in
      let names : q ≡ p = cc in
      proper.places.siblings_apart key leaf leaf_is other beside beside_is (in_list.parent ∙ sym in_it.parent) (named key leaf q leaf_is has ∙ names ∙ sym (named other beside p beside_is has_too))

  of_none : (bounds : List Bound) (key : ℕ) (written : Option WrittenName) (keys : List ℕ) → IsKey key → is_of_key tables bounds number key written ≡ true → All IsKey keys → All (λ later. key ≢ later) keys → IsOfNone tables bounds number written keys
  of_none bounds key written [] is e all differ = tt
  of_none bounds key written (k ∷ keys) is e all differ =
      (by (is_of_key tables bounds number k written) refl, of_none bounds key written keys is e (all_rest IsKey k keys all) (all_rest (λ later. key ≢ later) k keys differ))
    where
      by : (t : Bool) → is_of_key tables bounds number k written ≡ t → t ≡ false
      by true f = absurd (all_first (λ later. key ≢ later) k keys differ (same_key bounds key k written is (all_first IsKey k keys all) e f))
      by false f = refl

  apart : (keys : List ℕ) → All IsKey keys → AllPairs (λ key later. key ≢ later) keys → AreApart tables number keys
  apart [] all differ = tt
  apart (k ∷ keys) all differ = (
    (λ bounds written e. of_none bounds k written keys (all_first IsKey k keys all) e (all_rest IsKey k keys all) (pairs_first (λ key later. key ≢ later) k keys differ)),
    apart keys (all_rest IsKey k keys all) (pairs_rest (λ key later. key ≢ later) k keys differ),
  )

of_kind : (tables : Tables) → IsProperSchema tables → (number : ℕ) (node : Node) → slice_get tables.nodes number ≡ Some node → (kind : Kind) → node.kind ≡ kind → AreApart tables number (keys_of_kind kind number node.keys)
of_kind tables proper number node is (Container presence) e = tt
of_kind tables proper number node is Leaf e = tt
of_kind tables proper number node is LeafList e = ((λ bounds written f. tt), tt)
of_kind tables proper number node is ListKind e =
    let keys : HasItsKeys tables number node = proper.places.keys number node is in
    apart tables proper number node is e node.keys keys.leafs keys.apart

pub proper_keys_are_apart : ProperKeysAreApart
proper_keys_are_apart tables proper number = by (slice_get tables.nodes number) refl
  where
    by : (o : Option Node) → slice_get tables.nodes number ≡ o → AreApart tables number (option_map_or (λ (node : Node). keys_of_kind node.kind number node.keys) o [])
    by None e = tt
    by (Some node) e = of_kind tables proper number node e node.kind refl
