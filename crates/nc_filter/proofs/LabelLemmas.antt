-- What a level without containment nodes selects is found by labels.
use Rattle.std.proofs.Common.{◌≡◌, ◌&&◌, ◌||◌, ◌+◌, ℕ, Bool, true, false, not, List, [], ◌∷◌, None, Some, take, refl, sym, ap, ◌∙◌, if◌then◌else◌}
use Rattle.std.specs.Prelude.{Option, map, slice_get}
use Rattle.std.specs.List.{filter, list_any}
use Rattle.std.specs.Option.{option_map_or}
use Rattle.std.proofs.lemmas.List.Folds.{list_any-append}
use Rattle.nc_names.specs.Same.{is_same_text}
use Rattle.nc_names.specs.declared.path.Row.{Row}
use Rattle.nc_message.specs.declared.tree.Elem.{Elem}
use Rattle.nc_schema.specs.Tables.{Tables}
use Rattle.nc_schema.specs.declared.node.Node.{Node}
use Rattle.nc_protocol.specs.Elements.{has_child}
use Rattle.nc_protocol.specs.Filter.{has_no_attribute, is_containment, is_content_match, is_of_matches, is_of_name, level_of, meets}
use Rattle.nc_filter.specs.inner.Instances.{elems_pick}
use Rattle.nc_filter.specs.inner.Keys.{among, elem_key, key, name_key, node_labels, row_keys}
use Rattle.nc_filter.specs.inner.Labels.{elem_label, labels_at, level_labels, row_labels, text_labels}
use Rattle.nc_filter.specs.inner.Picks.{ends, is_named, node_at, opens, picks_at, says, within}
use Rattle.nc_filter.proofs.KeyLemmas.{fits_is, no_key, same_key, turned_text}
use Rattle.nc_filter.proofs.PickLemmas.{named_meets}
use Rattle.nc_filter.proofs.Unions.{any_filter, any_map, any_nothing, any_or, any_same, or_assoc, or_false}

-- labels of texts and labels of names never meet
pub text_part : (b : Bool) (keys : List (List ℕ)) (wanted : List ℕ) → among (if b then map (λ key. 1 ∷ key) keys else []) (1 ∷ wanted) ≡ (b && among keys wanted)
text_part false keys wanted = refl
text_part true keys wanted = any_map (λ key. is_same_text key (1 ∷ wanted)) (λ key. 1 ∷ key) keys

pub text_not : (b : Bool) (keys : List (List ℕ)) (wanted : List ℕ) → among (if b then map (λ key. 1 ∷ key) keys else []) (0 ∷ wanted) ≡ false
text_not false keys wanted = refl
text_not true keys wanted = any_map (λ key. is_same_text key (0 ∷ wanted)) (λ key. 1 ∷ key) keys ∙ any_nothing keys

pub name_not : (o : Option Node) (wanted : List ℕ) → among (option_map_or node_labels o []) (1 ∷ wanted) ≡ false
name_not None wanted = refl
name_not (Some node) wanted = refl

-- an element names a data node where it has one of the labels of its name
pub name_part : (elem : Elem) (o : Option Node) → option_map_or (is_of_name elem) o false ≡ among (option_map_or node_labels o []) (0 ∷ name_key elem)
name_part elem None = refl
name_part elem (Some node) = by (has_no_attribute elem.attrs)
  where
    turned : (n s0 s1 : Bool) → (n && (s0 || s1)) ≡ ((s1 && (n && true)) || ((s0 && (n && true)) || false))
    turned true true true = refl
    turned true true false = refl
    turned true false true = refl
    turned true false false = refl
    turned false true true = refl
    turned false true false = refl
    turned false false true = refl
    turned false false false = refl

    by : (b : Bool) → ((b && is_same_text elem.name.name node.name.name) && (is_same_text elem.name.space [] || is_same_text elem.name.space node.name.space))
        ≡ (is_same_text (key node.name.space node.name.name []) (if b then key elem.name.space elem.name.name [] else [])
        || (is_same_text (key [] node.name.name []) (if b then key elem.name.space elem.name.name [] else []) || false))
    by false = sym (λ i. no_key node.name.space node.name.name [] i || (no_key [] node.name.name [] i || false))
    by true =
        turned (is_same_text elem.name.name node.name.name) (is_same_text elem.name.space []) (is_same_text elem.name.space node.name.space)
        ∙ (λ i. (turned_text elem.name.space node.name.space i && (turned_text elem.name.name node.name.name i && true))
        || ((turned_text elem.name.space [] i && (turned_text elem.name.name node.name.name i && true)) || false))
        ∙ (λ i. sym (same_key node.name.space node.name.name [] elem.name.space elem.name.name []) i
        || (sym (same_key [] node.name.name [] elem.name.space elem.name.name []) i || false))

module _ (tables : Tables) (rows : List Row) (depth : ℕ) (row : Row) where
  label_is : (number : ℕ) (elem : Elem) → node_at depth row ≡ Some number → is_containment elem ≡ false →
      (is_named tables number elem && says tables rows depth row elem) ≡ among (row_labels tables depth row) (elem_label elem)
  label_is number elem at_node shallow =
      ap (λ b. is_named tables number elem && (if is_content_match elem then meets tables elem (take depth row.path.steps) row else (if b then within tables rows (depth + 1) row elem else true))) shallow
      ∙ by (is_content_match elem)
      ∙ sym (ap (λ (o : Option ℕ). among ([] ∷ option_map_or (labels_at tables depth row) o []) (elem_label elem)) at_node)
    where
      names : List (List ℕ)
      names = option_map_or node_labels (slice_get tables.nodes number) []

      whole : (wanted : List ℕ) → among (labels_at tables depth row number) wanted ≡ (among names wanted || among (text_labels tables depth row) wanted)
      whole wanted = list_any-append (λ key. is_same_text key wanted) names (text_labels tables depth row)

      last : (b : Bool) → (b && true) ≡ b
      last true = refl
      last false = refl

      by : (m : Bool) → (is_named tables number elem && (if m then meets tables elem (take depth row.path.steps) row else true))
          ≡ among ([] ∷ labels_at tables depth row number) (if m then 1 ∷ elem_key elem else 0 ∷ name_key elem)
      by true =
          named_meets tables rows row depth number elem at_node
          ∙ ap (λ b. ends depth row && b) (fits_is tables elem row)
          ∙ sym (text_part (ends depth row) (row_keys tables row) (elem_key elem))
          ∙ ap (λ b. b || among (text_labels tables depth row) (1 ∷ elem_key elem)) (sym (name_not (slice_get tables.nodes number) (elem_key elem)))
          ∙ sym (whole (1 ∷ elem_key elem))
      by false =
          last (is_named tables number elem)
          ∙ name_part elem (slice_get tables.nodes number)
          ∙ sym (or_false (among names (0 ∷ name_key elem)))
          ∙ ap (λ b. among names (0 ∷ name_key elem) || b) (sym (text_not (ends depth row) (row_keys tables row) (name_key elem)))
          ∙ sym (whole (0 ∷ name_key elem))

  -- the same of all elements of a level that are no containment nodes
  names_are : (number : ℕ) (elems : List Elem) → node_at depth row ≡ Some number →
      list_any (λ elem. is_named tables number elem && says tables rows depth row elem) (filter (λ elem. not (is_containment elem)) elems)
      ≡ list_any (among (row_labels tables depth row)) (map elem_label (filter (λ elem. not (is_containment elem)) elems))
  names_are number [] at_node = refl
  names_are number (elem ∷ elems) at_node = by (is_containment elem) refl (names_are number elems at_node)
    where
      picks : Elem → Bool
      picks elem = is_named tables number elem && says tables rows depth row elem

      rest : List Elem
      rest = filter (λ elem. not (is_containment elem)) elems

      by : (b : Bool) → is_containment elem ≡ b → list_any picks rest ≡ list_any (among (row_labels tables depth row)) (map elem_label rest) →
          list_any picks (if not b then elem ∷ rest else rest) ≡ list_any (among (row_labels tables depth row)) (map elem_label (if not b then elem ∷ rest else rest))
      by true e more = more
      by false e more = λ i. label_is number elem at_node e i || more i

  deeps_are : (number : ℕ) (elems : List Elem) →
      list_any (λ elem. is_named tables number elem && says tables rows depth row elem) (filter is_containment elems)
      ≡ list_any (λ elem. is_named tables number elem && within tables rows (depth + 1) row elem) (filter is_containment elems)
  deeps_are number [] = refl
  deeps_are number (elem ∷ elems) = by (is_containment elem) refl (deeps_are number elems)
    where
      picks : Elem → Bool
      picks elem = is_named tables number elem && says tables rows depth row elem

      contains : Elem → Bool
      contains elem = is_named tables number elem && within tables rows (depth + 1) row elem

      rest : List Elem
      rest = filter is_containment elems

      no_text : (c m : Bool) → (c && not m) ≡ true → m ≡ false
      no_text true true e = let clash : false ≡ true = e in cc
      no_text true false e = refl
      no_text false m e = let clash : false ≡ true = e in cc

      by : (b : Bool) → is_containment elem ≡ b → list_any picks rest ≡ list_any contains rest →
          list_any picks (if b then elem ∷ rest else rest) ≡ list_any contains (if b then elem ∷ rest else rest)
      by false e more = more
      by true e more = λ i.
          (is_named tables number elem &&
          (ap (λ m. if m then meets tables elem (take depth row.path.steps) row else (if is_containment elem then within tables rows (depth + 1) row elem else true))
          (no_text (has_child elem.parts) (is_content_match elem) e)
          ∙ ap (λ b. if b then within tables rows (depth + 1) row elem else true) e) i)
          || more i

  -- a row that ends above the level has the empty label alone
  none_is : (elems : List Elem) → node_at depth row ≡ None → list_any (among (row_labels tables depth row)) (map elem_label elems) ≡ false
  none_is [] none = refl
  none_is (elem ∷ elems) none = λ i. (ap (λ (o : Option ℕ). among ([] ∷ option_map_or (labels_at tables depth row) o []) (elem_label elem)) none ∙ never (is_content_match elem)) i || none_is elems none i
    where
      never : (m : Bool) → among ([] ∷ []) (if m then 1 ∷ elem_key elem else 0 ∷ name_key elem) ≡ false
      never true = refl
      never false = refl

  any_parted : (f p : Elem → Bool) (elems : List Elem) → list_any f elems ≡ (list_any f (filter (λ elem. not (p elem)) elems) || list_any f (filter p elems))
  any_parted f p elems =
      sym ((λ i. any_filter f (λ elem. not (p elem)) elems i || any_filter f p elems i)
      ∙ sym (any_or (λ elem. not (p elem) && f elem) (λ elem. p elem && f elem) elems)
      ∙ any_same (λ elem. (not (p elem) && f elem) || (p elem && f elem)) f elems (λ elem. either (p elem) (f elem)))
    where
      either : (a b : Bool) → ((not a && b) || (a && b)) ≡ b
      either true b = refl
      either false true = refl
      either false false = refl

  -- what a level picks: by labels, and by its containment nodes
  pub opens_split : (elem : Elem) → opens tables rows depth row elem
      ≡ (list_any (among (row_labels tables depth row)) (level_labels elem) || elems_pick tables rows (depth + 1) (Some depth) (filter is_containment (level_of elem)) row)
  opens_split elem =
      (λ i. whole (is_of_matches (level_of elem)) i || by (node_at depth row) refl i)
      ∙ sym (or_assoc (list_any (among (row_labels tables depth row)) front) (list_any (among (row_labels tables depth row)) (map elem_label others)) (elems_pick tables rows (depth + 1) (Some depth) (filter is_containment (level_of elem)) row))
      ∙ ap (λ b. b || elems_pick tables rows (depth + 1) (Some depth) (filter is_containment (level_of elem)) row)
      (sym (list_any-append (among (row_labels tables depth row)) front (map elem_label others)))
    where
      front : List (List ℕ)
      front = if is_of_matches (level_of elem) then [] ∷ [] else []

      others : List Elem
      others = filter (λ elem. not (is_containment elem)) (level_of elem)

      whole : (m : Bool) → m ≡ list_any (among (row_labels tables depth row)) (if m then [] ∷ [] else [])
      whole true = refl
      whole false = refl

      nobody : (elems : List Elem) → list_any (λ elem. false && within tables rows (depth + 1) row elem) elems ≡ false
      nobody elems = any_nothing elems

      by : (o : Option ℕ) → node_at depth row ≡ o → option_map_or (picks_at tables rows depth (level_of elem) row) o false
          ≡ (list_any (among (row_labels tables depth row)) (map elem_label others)
          || list_any (λ elem. option_map_or (λ number. is_named tables number elem) o false && within tables rows (depth + 1) row elem) (filter is_containment (level_of elem)))
      by None none = sym ((λ i. none_is others none i || nobody (filter is_containment (level_of elem)) i))
      by (Some number) at_node =
          any_parted (λ elem. is_named tables number elem && says tables rows depth row elem) is_containment (level_of elem)
          ∙ (λ i. names_are number (level_of elem) at_node i || deeps_are number (level_of elem) i)
