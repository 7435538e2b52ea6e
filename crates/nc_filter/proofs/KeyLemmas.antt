-- A content match is met where a row has the key for which it asks.
use Rattle.std.proofs.Common.{◌≡◌, ◌&&◌, ◌||◌, ℕ, Bool, true, false, not, List, [], ◌∷◌, ◌++◌, None, Some, refl, sym, ap, ◌∙◌, if◌then◌else◌, arith}
use Rattle.std.specs.Prelude.{Option, option_and_then, slice_get}
use Rattle.std.specs.List.{cons_option, filter, filter_map, last_or, list_all, list_any}
use Rattle.std.specs.Option.{option_map_or}
use Rattle.std.specs.Cmp.Lexicographic.{bytes_decides}
use Rattle.std.proofs.lemmas.List.{append_assoc}
use Rattle.nc_names.specs.Ends.{trimmed}
use Rattle.nc_names.specs.Same.{is_same_text}
use Rattle.nc_names.specs.declared.path.Row.{Row}
use Rattle.nc_names.specs.declared.path.Step.{Step}
use Rattle.nc_message.specs.declared.tree.Elem.{Elem}
use Rattle.nc_message.specs.declared.tree.Part.{Part}
use Rattle.nc_schema.specs.Tables.{Tables}
use Rattle.nc_schema.specs.declared.node.Node.{Node}
use Rattle.nc_protocol.specs.Elements.{elem_of, whole_text}
use Rattle.nc_protocol.specs.Filter.{has_no_attribute, holds, is_content_match, is_of_name, is_of_node, level_of, meets}
use Rattle.nc_filter.specs.inner.Keys.{among, asked, elem_key, has_all, key, keys_in, marked, name_key, row_keys, value_keys}
use Rattle.nc_filter.specs.inner.Levels.{children, fits, is_free}
use Rattle.nc_filter.proofs.LevelLemmas.{any_children}
use Rattle.nc_filter.proofs.StepLemmas.{same_test}
use Rattle.nc_filter.proofs.Unions.{and_false, any_filter, any_flat_map, any_map, any_same}

pub first_of : (a b : Bool) → (a && b) ≡ true → a ≡ true
first_of true b e = refl
first_of false b e = let clash : false ≡ true = e in cc

pub second_of : (a b : Bool) → (a && b) ≡ true → b ≡ true
second_of true b e = e
second_of false b e = let clash : false ≡ true = e in cc

head_of : (x y : ℕ) (xs ys : List ℕ) → x ∷ xs ≡ y ∷ ys → x ≡ y
head_of x y xs ys e = cc

rest_of : (x y : ℕ) (xs ys : List ℕ) → x ∷ xs ≡ y ∷ ys → xs ≡ ys
rest_of x y xs ys e = cc

-- ---- keys are read in one way
marked_reads : (a b r s : List ℕ) → marked a ++ r ≡ marked b ++ s → (a ≡ b) × (r ≡ s)
marked_reads [] [] r s e = (refl, rest_of 0 0 r s e)
marked_reads [] (y ∷ ys) r s e = let clash = head_of 0 1 r (y ∷ (marked ys ++ s)) e in absurd (omega (arith, clash))
marked_reads (x ∷ xs) [] r s e = let clash = head_of 1 0 (x ∷ (marked xs ++ r)) s e in absurd (omega (arith, clash))
marked_reads (x ∷ xs) (y ∷ ys) r s e =
    let more : x ∷ (marked xs ++ r) ≡ y ∷ (marked ys ++ s) = rest_of 1 1 (x ∷ (marked xs ++ r)) (y ∷ (marked ys ++ s)) e in
    let rest = marked_reads xs ys r s (rest_of x y (marked xs ++ r) (marked ys ++ s) more) in
    ((λ i. head_of x y (marked xs ++ r) (marked ys ++ s) more i ∷ rest.0 i), rest.1)

key_reads : (a b c d e f : List ℕ) → key a b c ≡ key d e f → (a ≡ d) × ((b ≡ e) × (c ≡ f))
key_reads a b c d e f is =
    let first = marked_reads a d (marked b ++ c) (marked e ++ f) (sym (append_assoc (marked a) (marked b) c) ∙ is ∙ append_assoc (marked d) (marked e) f) in
    (first.0, marked_reads b e c f first.1)

pub same_key : (a b c d e f : List ℕ) → is_same_text (key a b c) (key d e f) ≡ (is_same_text a d && (is_same_text b e && is_same_text c f))
same_key a b c d e f = same_test (is_same_text (key a b c) (key d e f)) (is_same_text a d && (is_same_text b e && is_same_text c f)) there back
  where
    there : is_same_text (key a b c) (key d e f) ≡ true → (is_same_text a d && (is_same_text b e && is_same_text c f)) ≡ true
    there is =
        let reads = key_reads a b c d e f ((bytes_decides (key a b c) (key d e f)).0 is) in
        (λ i. (bytes_decides a d).1 reads.0 i && ((bytes_decides b e).1 reads.1.0 i && (bytes_decides c f).1 reads.1.1 i))

    back : (is_same_text a d && (is_same_text b e && is_same_text c f)) ≡ true → is_same_text (key a b c) (key d e f) ≡ true
    back is = (bytes_decides (key a b c) (key d e f)).1 (λ i. key (one i) (two i) (three i))
      where
        more : (is_same_text b e && is_same_text c f) ≡ true
        more = second_of (is_same_text a d) (is_same_text b e && is_same_text c f) is

        one : a ≡ d
        one = (bytes_decides a d).0 (first_of (is_same_text a d) (is_same_text b e && is_same_text c f) is)

        two : b ≡ e
        two = (bytes_decides b e).0 (first_of (is_same_text b e) (is_same_text c f) more)

        three : c ≡ f
        three = (bytes_decides c f).0 (second_of (is_same_text b e) (is_same_text c f) more)

pub no_key : (a b c : List ℕ) → is_same_text (key a b c) [] ≡ false
no_key [] b c = refl
no_key (x ∷ xs) b c = refl

pub turned_text : (a b : List ℕ) → is_same_text a b ≡ is_same_text b a
turned_text a b = same_test (is_same_text a b) (is_same_text b a)
    (λ e. (bytes_decides b a).1 (sym ((bytes_decides a b).0 e))) (λ e. (bytes_decides a b).1 (sym ((bytes_decides b a).0 e)))

-- ---- a row meets a content match where it has its key
value_fits : (elem : Elem) (node : Node) (value : List ℕ) →
    (is_of_name elem node && is_same_text (trimmed value) (trimmed (whole_text elem.parts))) ≡ among (value_keys node value) (elem_key elem)
value_fits elem node value = by (has_no_attribute elem.attrs)
  where
    text : List ℕ
    text = trimmed (whole_text elem.parts)

    turned : (n s0 s1 t : Bool) → ((n && (s0 || s1)) && t) ≡ ((s1 && (n && t)) || ((s0 && (n && t)) || false))
    turned true true true true = refl
    turned true true true false = refl
    turned true true false true = refl
    turned true true false false = refl
    turned true false true true = refl
    turned true false true false = refl
    turned true false false t = refl
    turned false true true t = refl
    turned false true false t = refl
    turned false false true t = refl
    turned false false false t = refl

    by : (b : Bool) → (((b && is_same_text elem.name.name node.name.name) && (is_same_text elem.name.space [] || is_same_text elem.name.space node.name.space)) && is_same_text (trimmed value) text)
        ≡ among (value_keys node value) (if b then key elem.name.space elem.name.name text else [])
    by false = sym (λ i. no_key node.name.space node.name.name (trimmed value) i || (no_key [] node.name.name (trimmed value) i || false))
    by true =
        turned (is_same_text elem.name.name node.name.name) (is_same_text elem.name.space []) (is_same_text elem.name.space node.name.space) (is_same_text (trimmed value) text)
        ∙ (λ i. (turned_text elem.name.space node.name.space i && (turned_text elem.name.name node.name.name i && is_same_text (trimmed value) text))
        || ((turned_text elem.name.space [] i && (turned_text elem.name.name node.name.name i && is_same_text (trimmed value) text)) || false))
        ∙ (λ i. sym (same_key node.name.space node.name.name (trimmed value) elem.name.space elem.name.name text) i
        || (sym (same_key [] node.name.name (trimmed value) elem.name.space elem.name.name text) i || false))

pub fits_is : (tables : Tables) (elem : Elem) (row : Row) → fits tables elem row ≡ among (row_keys tables row) (elem_key elem)
fits_is tables elem row = by (last_or None row.path.steps) row.value
  where
    by_node : (o : Option Node) (v : Option (List ℕ)) →
        (option_map_or (is_of_name elem) o false && option_map_or (λ value. is_same_text (trimmed value) (trimmed (whole_text elem.parts))) v false)
        ≡ among (option_map_or (λ node. option_map_or (value_keys node) v []) o []) (elem_key elem)
    by_node None v = refl
    by_node (Some node) None = and_false (is_of_name elem node)
    by_node (Some node) (Some value) = value_fits elem node value

    by : (o : Option Step) (v : Option (List ℕ)) →
        (option_map_or (is_of_node tables elem) o false && option_map_or (λ value. is_same_text (trimmed value) (trimmed (whole_text elem.parts))) v false)
        ≡ among (option_map_or (λ node. option_map_or (value_keys node) v []) (option_and_then (λ step. slice_get tables.nodes step.node) o) []) (elem_key elem)
    by None v = refl
    by (Some step) v = by_node (slice_get tables.nodes step.node) v

meets_is : (tables : Tables) (all : List Row) (above : List Step) (elem : Elem) → list_any (meets tables elem above) all ≡ among (keys_in tables all above) (elem_key elem)
meets_is tables all above elem =
    sym (any_children tables elem above all)
    ∙ any_same (fits tables elem) (λ row. among (row_keys tables row) (elem_key elem)) (children all above) (fits_is tables elem)
    ∙ sym (any_flat_map (λ key. is_same_text key (elem_key elem)) (row_keys tables) (children all above))

all_is : {X : Type 0} (p q : X → Bool) (xs : List X) → list_all (λ x. not (p x) || q x) xs ≡ not (list_any (λ x. p x && not (q x)) xs)
all_is p q [] = refl
all_is p q (x ∷ xs) = by (p x) (q x) (all_is p q xs)
  where
    by : (a b : Bool) → list_all (λ x. not (p x) || q x) xs ≡ not (list_any (λ x. p x && not (q x)) xs) →
        ((not a || b) && list_all (λ x. not (p x) || q x) xs) ≡ not ((a && not b) || list_any (λ x. p x && not (q x)) xs)
    by true true more = more
    by true false more = refl
    by false b more = more

-- the content matches of a level hold where what they ask for is there
pub holds_keys : (tables : Tables) (all : List Row) (above : List Step) (elem : Elem) → holds tables all above (level_of elem) ≡ has_all (λ wanted. among (keys_in tables all above) wanted) (asked elem)
holds_keys tables all above elem =
    (λ i. list_all (λ (one : Elem). not (is_content_match one) || meets_is tables all above one i) (level_of elem))
    ∙ all_is is_content_match (λ one. has (elem_key one)) (level_of elem)
    ∙ ap not (sym (any_filter (λ one. not (has (elem_key one))) is_content_match (level_of elem))
    ∙ sym (any_map (λ wanted. not (has wanted)) elem_key (filter is_content_match (level_of elem))))
  where
    has : List ℕ → Bool
    has wanted = among (keys_in tables all above) wanted

-- a level without content matches holds everywhere
pub holds_free : (tables : Tables) (all : List Row) (above : List Step) (parts : List Part) → list_all is_free parts ≡ true → holds tables all above (filter_map elem_of parts) ≡ true
holds_free tables all above [] free = refl
holds_free tables all above (part ∷ parts) free = by (elem_of part) free (holds_free tables all above parts)
  where
    by : (o : Option Elem) → (not (option_map_or is_content_match o false) && list_all is_free parts) ≡ true → (list_all is_free parts ≡ true → holds tables all above (filter_map elem_of parts) ≡ true) →
        holds tables all above (cons_option o (filter_map elem_of parts)) ≡ true
    by None free more = more free
    by (Some elem) free more = λ i.
        (first_of (not (is_content_match elem)) (list_all is_free parts) free i || list_any (meets tables elem above) all)
        && more (second_of (not (is_content_match elem)) (list_all is_free parts) free) i

-- ---- an element that names a data node has one of the keys of its name
pub name_keys : (elem : Elem) (node : Node) → is_of_name elem node ≡ true →
    (is_same_text (name_key elem) (key node.name.space node.name.name []) || is_same_text (name_key elem) (key [] node.name.name [])) ≡ true
name_keys elem node named = by (has_no_attribute elem.attrs) named
  where
    turned : (n s0 s1 : Bool) → (n && (s0 || s1)) ≡ true → ((s1 && (n && true)) || (s0 && (n && true))) ≡ true
    turned true true true e = refl
    turned true true false e = refl
    turned true false true e = refl
    turned true false false e = e
    turned false s0 s1 e = let clash : false ≡ true = e in cc

    by : (b : Bool) → ((b && is_same_text elem.name.name node.name.name) && (is_same_text elem.name.space [] || is_same_text elem.name.space node.name.space)) ≡ true →
        (is_same_text (if b then key elem.name.space elem.name.name [] else []) (key node.name.space node.name.name [])
        || is_same_text (if b then key elem.name.space elem.name.name [] else []) (key [] node.name.name [])) ≡ true
    by false e = let clash : false ≡ true = e in cc
    by true e =
        (λ i. same_key elem.name.space elem.name.name [] node.name.space node.name.name [] i || same_key elem.name.space elem.name.name [] [] node.name.name [] i)
        ∙ turned (is_same_text elem.name.name node.name.name) (is_same_text elem.name.space []) (is_same_text elem.name.space node.name.space) e
