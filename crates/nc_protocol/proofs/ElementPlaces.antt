-- Where the elements of a payload stand, and that the merge of each fits the schema there.
use Rattle.std.proofs.Common.{◌≡◌, ◌==◌, ◌&&◌, ◌⊎◌, ℕ, true, false, cond, not, List, [], ◌∷◌, ◌++◌, length, Option, Some, None, inl, refl, sym, ap, subst, ◌∙◌, arith, append_assoc}
use Rattle.std.specs.Prelude.{IsTrue, IsSome, IsSomeAnd, is_some, option_map, slice_get}
use Rattle.std.specs.List.{All, Contains, find, list_any}
use Rattle.std.specs.Option.{option_map_or, option_or}
use Rattle.std.proofs.lemmas.Option.{get_or_from_slice_get, slice_get_within}
use Rattle.nc_names.specs.declared.path.Path.{Path}
use Rattle.nc_names.specs.declared.path.Step.{Step}
use Rattle.nc_message.specs.declared.tree.Elem.{Elem}
use Rattle.nc_message.specs.declared.tree.Part.{Part}
use Rattle.nc_schema.specs.Configuration.{IsRowValue}
use Rattle.nc_schema.specs.Kinds.{has_value, is_list}
use Rattle.nc_schema.specs.Order.{keys_above}
use Rattle.nc_schema.specs.Paths.{key_count, HasAllKeys, LeadDown, IsPathOf}
use Rattle.nc_schema.specs.Proper.{IsKeyIn}
use Rattle.nc_schema.proofs.ProperLemmas.{HasProperNodes}
use Rattle.nc_schema.specs.declared.node.Kind.{Kind}
use Rattle.nc_schema.specs.declared.node.Kind.TheVariants.{Container, Leaf, LeafList, List as ListKind}
use Rattle.nc_schema.specs.declared.node.Node.{Node}
use Rattle.nc_protocol.specs.declared.position.Position.{Position}
use Rattle.nc_protocol.specs.declared.position.Under.{Under}
use Rattle.nc_protocol.specs.Elements.{Reading, Named, value_in, first_child, key_values, keys_read, is_dropped, is_key, step_of, steps_to}
use Rattle.nc_protocol.specs.Faults.{clashes, inside, under_element, missing_key, keys_fault, entry_fault}
use Rattle.nc_protocol.specs.Payload.{merge_of}
use Rattle.nc_protocol.specs.ProperEdit.{IsKeyAt, IsNoKey, IsProperEdit}
use Rattle.nc_protocol.proofs.ElementLemmas.{true_is_not_false, or_none, map_none, IsNamed, named_parent, IsSound, find_in, key_value, keys_are_read, key_is_read, IsNew, leaf_is_new, leaf_keys, listed_passes}
use Rattle.nc_protocol.proofs.KeyLemmas.{down_more}
use Rattle.nc_protocol.proofs.ListLemmas.{all_one, all_append, no_element, same_before, some_same}
use Rattle.nc_protocol.proofs.PathViews.{node_after, after_last}

-- ---- where parts stand: the steps lead to an instance, and those to a list entry have the keys that are read in
-- the parts
pub record HoldsKeys (reading : Reading) (entry : Step) (node : Node) (parts : List Part) : Type 0 where
  pub holder : Named
  pub number : holder.number ≡ entry.node
  pub content : holder.elem.parts ≡ parts
  pub keys : key_values reading holder node.keys ≡ Some entry.keys

pub record IsPlace (reading : Reading) (at : Position) (parts : List Part) : Type 0 where
  pub down : LeadDown reading.tables None at.above
  pub instances : All (λ step. IsSomeAnd (slice_get reading.tables.nodes step.node) (λ node. HasAllKeys node step)) at.above
  pub last : node_after None at.above ≡ at.parent
  pub taken : is_dropped at.under ≡ false
  pub keys : (before : List Step) (entry : Step) (node : Node) → at.above ≡ before ++ entry ∷ [] → slice_get reading.tables.nodes entry.node ≡ Some node → node.kind ≡ ListKind → HoldsKeys reading entry node parts

abbrev pub top_position : Under → Position
top_position under = record { above = []; parent = None; under = under }

pub top_place : (reading : Reading) (under : Under) (parts : List Part) → is_dropped under ≡ false → IsPlace reading (top_position under) parts
top_place reading under parts taken = record {
  down = tt;
  instances = λ k d within. absurd (omega (arith, within));
  last = refl;
  taken = taken;
  keys = λ before entry node is node_is list. absurd (no_element before [] entry is);
}

-- ---- an element in such a place, without a fault of its own
pub record IsElement (reading : Reading) (at : Position) (earlier : List Step) (whole : List Part) (elem : Elem) (it : Named) : Type 0 where
  pub proper : HasProperNodes reading.tables
  pub place : IsPlace reading at whole
  pub named : IsNamed reading at.parent elem it
  pub sound : IsSound reading at earlier it
  pub entry : entry_fault reading at it ≡ None
  pub valued : it.node.kind ≡ LeafList → (v : List ℕ) × (value_in reading it ≡ Some v)
  -- it is the first of its parent where it is a leaf
  pub first : it.node.kind ≡ Leaf → IsNew earlier it.number → find_in reading at.parent whole it.number ≡ Some it

module _ (reading : Reading) (at : Position) (earlier : List Step) (whole : List Part) (elem : Elem) (it : Named) (is : IsElement reading at earlier whole elem it) where
  abbrev pub step : Step
  step = step_of reading at.under it

  -- its keys
  entry_parts : it.node.kind ≡ ListKind → (missing_key reading at it ≡ None) × (keys_fault reading (inside reading at it) [] it.elem.parts ≡ None)
  entry_parts list =
      or_none (missing_key reading at it) (keys_fault reading (inside reading at it) [] it.elem.parts)
      (ap (λ kind. cond (is_list kind) (option_or (missing_key reading at it) (keys_fault reading (inside reading at it) [] it.elem.parts)) None) (sym list) ∙ is.entry)

  pub read_keys : it.node.kind ≡ ListKind → (values : List (List ℕ)) × (key_values reading it it.node.keys ≡ Some values) × (length values ≡ length it.node.keys)
  read_keys list =
      keys_are_read reading it it.node.keys
      (λ key child in_keys found. key_value reading at it key child is.proper is.named.node_is (entry_parts list).1 in_keys found)
      (map_none _ (find (λ key. not (is_some (first_child reading it key))) it.node.keys) (entry_parts list).0)

  step_keys : step.keys ≡ option_map_or (λ keys. keys) (keys_read reading it.node.kind it) []
  step_keys = ap (λ b. cond (b && has_value it.node.kind) [] (option_map_or (λ keys. keys) (keys_read reading it.node.kind it) [])) is.place.taken

  pub list_keys : (values : List (List ℕ)) → it.node.kind ≡ ListKind → key_values reading it it.node.keys ≡ Some values → step.keys ≡ values
  list_keys values list read =
      step_keys ∙ ap (λ kind. option_map_or (λ keys. keys) (keys_read reading kind it) []) list ∙ ap (λ o. option_map_or (λ keys. keys) o []) read

  entry_value : (v : List ℕ) → it.node.kind ≡ LeafList → value_in reading it ≡ Some v → step.keys ≡ v ∷ []
  entry_value v kind read =
      step_keys ∙ ap (λ k. option_map_or (λ keys. keys) (keys_read reading k it) []) kind
      ∙ ap (λ o. option_map_or (λ keys. keys) (option_map (λ value. value ∷ []) o) []) read

  all_keys : HasAllKeys it.node step
  all_keys = by it.node.kind refl
    where
      counts : (kind : Kind) (keys : List (List ℕ)) → it.node.kind ≡ kind → step.keys ≡ keys → length keys ≡ key_count kind (length it.node.keys) → HasAllKeys it.node step
      counts kind keys kind_is keys_are count = ap length keys_are ∙ count ∙ ap (λ k. key_count k (length it.node.keys)) (sym kind_is)

      plain : (kind : Kind) → it.node.kind ≡ kind → keys_read reading kind it ≡ Some [] → step.keys ≡ []
      plain kind kind_is none =
          step_keys ∙ ap (λ k. option_map_or (λ keys. keys) (keys_read reading k it) []) kind_is ∙ ap (λ o. option_map_or (λ keys. keys) o []) none

      by : (kind : Kind) → it.node.kind ≡ kind → HasAllKeys it.node step
      by (Container presence) e = counts (Container presence) [] e (plain (Container presence) e refl) refl
      by Leaf e = counts Leaf [] e (plain Leaf e refl) refl
      by LeafList e =
          let read = is.valued e in
          counts LeafList (read.0 ∷ []) e (entry_value read.0 e read.1) refl
      by ListKind e =
          let read = read_keys e in
          counts ListKind read.0 e (list_keys read.0 e read.1) read.2

  -- the steps to it
  pub steps_down : LeadDown reading.tables None (at.above ++ step ∷ [])
  steps_down =
      down_more reading.tables None at.above step is.place.down
      (subst (λ (o : Option Node). IsSomeAnd o (λ n. (n.parent ≡ node_after None at.above) × (HasAllKeys n step ⊎ (step.keys ≡ []))))
      (sym is.named.node_is) (named_parent reading at.parent elem it is.named ∙ sym is.place.last, inl all_keys))

  steps_instances : All (λ s. IsSomeAnd (slice_get reading.tables.nodes s.node) (λ n. HasAllKeys n s)) (at.above ++ step ∷ [])
  steps_instances =
      all_append (λ (s : Step). IsSomeAnd (slice_get reading.tables.nodes s.node) (λ n. HasAllKeys n s)) at.above (step ∷ []) is.place.instances
      (all_one (λ (s : Step). IsSomeAnd (slice_get reading.tables.nodes s.node) (λ n. HasAllKeys n s)) step
      (subst (λ (o : Option Node). IsSomeAnd o (λ n. HasAllKeys n step)) (sym is.named.node_is) all_keys))

  pub path_is : IsPathOf reading.tables (record { steps = steps_to reading at it })
  path_is = record {
    names = record { steps = λ none. no_element at.above [] step (sym none); down = steps_down };
    instances = steps_instances;
  }

  -- its parts stand in its node
  pub place_below : is_dropped (under_element at.under it.elem.attrs) ≡ false → IsPlace reading (inside reading at it) it.elem.parts
  place_below taken = record {
    down = steps_down;
    instances = steps_instances;
    last = after_last None at.above step;
    taken = taken;
    keys = λ before entry node cut. subst Holds (same_before at.above before step entry cut).1 here node;
  }
    where
      Holds : Step → Type 0
      Holds s = (node : Node) → slice_get reading.tables.nodes s.node ≡ Some node → node.kind ≡ ListKind → HoldsKeys reading s node it.elem.parts

      here : Holds step
      here other other_is list =
          let same : it.node ≡ other = some_same it.node other (sym is.named.node_is ∙ other_is) in
          let own : it.node.kind ≡ ListKind = ap (λ (n : Node). n.kind) same ∙ list in
          let read = read_keys own in
          record {
            holder = it;
            number = refl;
            content = refl;
            keys = ap (λ (n : Node). key_values reading it n.keys) (sym same) ∙ read.1 ∙ ap (λ ks. Some ks) (sym (list_keys read.0 own read.1));
          }

  -- ---- its value
  abbrev pub value : Option (List ℕ)
  value = cond (has_value it.node.kind) (value_in reading it) None

  own_value : (it.node.kind ≡ Leaf → (v : List ℕ) × (value_in reading it ≡ Some v)) → (kind : Kind) → it.node.kind ≡ kind → has_value kind ≡ true → IsRowValue kind step value
  own_value leaf (Container presence) e valued = absurd (true_is_not_false (sym valued))
  own_value leaf ListKind e valued = absurd (true_is_not_false (sym valued))
  own_value leaf Leaf e valued =
      let read = leaf e in
      subst IsSome (sym (ap (λ kind. cond (has_value kind) (value_in reading it) None) e ∙ read.1)) refl
  own_value leaf LeafList e valued =
      let read = is.valued e in
      ap (λ kind. cond (has_value kind) (value_in reading it) None) e ∙ read.1 ∙ ap (λ ks. slice_get ks 0) (sym (entry_value read.0 e read.1))

  -- the key of an entry, by its place among the keys
  abbrev path : Path
  path = record { steps = at.above ++ step ∷ [] }

  record IsKeyHere (entry : Step) (number : ℕ) (key_at : IsKeyAt reading.tables path entry number) : Type 0 where
    cut : at.above ≡ key_at.above ++ entry ∷ []
    over : at.parent ≡ Some entry.node
    key : slice_get key_at.node.keys number ≡ Some it.number

  key_here : (entry : Step) (number : ℕ) (key_at : IsKeyAt reading.tables path entry number) → IsKeyHere entry number key_at
  key_here entry number key_at =
      let cut = same_before at.above (key_at.above ++ entry ∷ []) step key_at.key (key_at.steps ∙ sym (append_assoc key_at.above (entry ∷ []) (key_at.key ∷ []))) in
      record {
        cut = cut.0;
        over = sym is.place.last ∙ ap (node_after None) cut.0 ∙ after_last None key_at.above entry;
        key = key_at.key_is ∙ (λ i. Some (sym cut.1 i).node);
      }

  key_value_is : (entry : Step) (number : ℕ) → IsKeyAt reading.tables path entry number → value ≡ slice_get entry.keys number
  key_value_is entry number key_at = by (is.place.keys key_at.above entry key_at.node here.cut key_at.node_is key_at.list)
    where
      here : IsKeyHere entry number key_at
      here = key_here entry number key_at

      in_keys : Contains key_at.node.keys it.number
      in_keys = (number, slice_get_within key_at.node.keys number it.number here.key, get_or_from_slice_get key_at.node.keys number it.number it.number here.key)

      leaf : IsKeyIn entry.node it.node
      leaf = subst (λ (o : Option Node). IsSomeAnd o (IsKeyIn entry.node)) is.named.node_is (is.proper.keys entry.node it.number key_at.node key_at.node_is in_keys)

      new : IsNew earlier it.number
      new = leaf_is_new reading.tables at.under it.node it.number earlier leaf.kind
          (ap (λ ks. list_any (clashes reading.tables at.under it.node (record { node = it.number; keys = ks })) earlier) (sym (leaf_keys reading at.under it leaf.kind)) ∙ is.sound.alone)

      by : HoldsKeys reading entry key_at.node whole → value ≡ slice_get entry.keys number
      by holds =
          let found : first_child reading holds.holder it.number ≡ Some it =
          (λ i. find_in reading (Some (holds.number i)) (holds.content i) it.number) ∙ ap (λ o. find_in reading o whole it.number) (sym here.over) ∙ is.first leaf.kind new in
          ap (λ kind. cond (has_value kind) (value_in reading it) None) leaf.kind
          ∙ sym (key_is_read reading holds.holder key_at.node.keys entry.keys number it.number it holds.keys here.key found)

  -- ---- its merge fits the schema
  pub merge_is_proper : (it.node.kind ≡ Leaf → (v : List ℕ) × (value_in reading it ≡ Some v)) → IsProperEdit reading.tables (merge_of reading at it)
  merge_is_proper leaf = record {
    path = path_is;
    action = record {
      own = λ over last other cut other_is valued. subst Fits (same_before at.above over step last cut).1 here other other_is valued;
      of_key = key_value_is;
    };
  }
    where
      Fits : Step → Type 0
      Fits s = (n : Node) → slice_get reading.tables.nodes s.node ≡ Some n → IsTrue (has_value n.kind) → IsRowValue n.kind s value

      here : Fits step
      here other other_is valued =
          let same : it.node ≡ other = some_same it.node other (sym is.named.node_is ∙ other_is) in
          subst (λ (n : Node). IsTrue (has_value n.kind) → IsRowValue n.kind step value) same (own_value leaf it.node.kind refl) valued

  -- an element that is no key stands for none
  pub no_key : is_key reading at it ≡ false → IsNoKey reading.tables (record { steps = steps_to reading at it })
  no_key none entry number key_at =
      let here = key_here entry number key_at in
      let in_keys : Contains key_at.node.keys it.number = (number, slice_get_within key_at.node.keys number it.number here.key, get_or_from_slice_get key_at.node.keys number it.number it.number here.key) in
      let listed : list_any (λ key. key == it.number) key_at.node.keys ≡ true = listed_passes it.number key_at.node.keys in_keys in
      let keys : is_key reading at it ≡ list_any (λ key. key == it.number) key_at.node.keys =
      ap (λ o. list_any (λ key. key == it.number) (keys_above reading.tables o)) here.over
      ∙ ap (λ o. list_any (λ key. key == it.number) (option_map_or (λ n. n.keys) o [])) key_at.node_is in
      true_is_not_false (sym listed ∙ sym keys ∙ none)
