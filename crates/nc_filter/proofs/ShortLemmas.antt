-- A filter with elements of the same names keeps the same.
use Rattle.std.proofs.Common.{◌≡◌, ◌≤◌, ◌<◌, ◌+◌, ◌&&◌, ◌||◌, ℕ, Bool, true, false, not, List, [], ◌∷◌, ◌++◌, None, Some, length, take, get_or, refl, sym, ap, subst, ◌∙◌, if◌then◌else◌, arith}
use Rattle.std.specs.Prelude.{Option, IfSome, slice_get}
use Rattle.std.specs.List.{cons_option, filter, filter_map, last_or, list_all, list_any}
use Rattle.std.specs.Option.{option_map_or}
use Rattle.std.specs.Cmp.Lexicographic.{bytes_decides}
use Rattle.std.proofs.lemmas.Bool.{ltb-true}
use Rattle.std.proofs.lemmas.List.{take_more}
use Rattle.nc_names.specs.Ends.{trimmed}
use Rattle.nc_names.specs.Same.{is_same_path, is_same_text}
use Rattle.nc_names.specs.Signs.{is_white}
use Rattle.nc_names.specs.declared.path.Row.{Row}
use Rattle.nc_names.specs.declared.path.Step.{Step}
use Rattle.nc_message.specs.declared.tree.Elem.{Elem}
use Rattle.nc_message.specs.declared.tree.Part.{Part}
use Rattle.nc_message.specs.declared.tree.Part.TheVariants.{Child}
use Rattle.nc_schema.specs.Blocks.{above_last}
use Rattle.nc_schema.specs.Tables.{Tables}
use Rattle.nc_schema.specs.declared.node.Node.{Node}
use Rattle.nc_protocol.specs.Elements.{elem_of, has_child, has_text, is_child, text_of, whole_text}
use Rattle.nc_protocol.specs.Filter.{chosen, comes_with, has_no_attribute, holds, is_containment, is_content_match, is_of_matches, is_of_name, is_of_node, level_of, meets, selected, selects}
use Rattle.nc_filter.specs.inner.Short.{AreAlike, AreWithin, NameSame, child, is_long, none, same}
use Rattle.nc_filter.proofs.ElementLemmas.{elem_of_child}
use Rattle.nc_filter.proofs.KeyLemmas.{first_of}
use Rattle.nc_filter.proofs.Unions.{and_false}

-- ---- contents of which each part is alike
pub alike_append : {most : ℕ} {parts others more mores : List Part} → AreAlike most parts others → AreAlike most more mores → AreAlike most (parts ++ more) (others ++ mores)
alike_append none rest = rest
alike_append (same part first) rest = same part (alike_append first rest)
alike_append (child part other elem like is is_like name inner first) rest = child part other elem like is is_like name inner (alike_append first rest)

-- one part more
pub alike_more : (most : ℕ) (items : List Part) (at : ℕ) (parts now : List Part) (part it : Part) → at < length items → part ≡ get_or items at part →
    AreAlike most (take at items) parts → AreAlike most (part ∷ []) (it ∷ []) → now ≡ parts ++ it ∷ [] → AreAlike most (take (at + 1) items) now
alike_more most items at parts now part it less is so_far one put =
    let front : take (at + 1) items ≡ take at items ++ part ∷ [] = take_more items at part less ∙ ap (λ (x : Part). take at items ++ x ∷ []) (sym is) in
    subst (λ (xs : List Part). AreAlike most xs now) (sym front) (subst (AreAlike most (take at items ++ part ∷ [])) (sym put) (alike_append so_far one))

pub alike_self : (most : ℕ) (parts : List Part) → AreAlike most parts parts
alike_self most [] = none
alike_self most (part ∷ parts) = same part (alike_self most parts)

-- a text of its own has no child
text_of_child : (elem : Elem) → text_of (Child elem) ≡ []
text_of_child elem = refl

child_is_child : (elem : Elem) → is_child (Child elem) ≡ true
child_is_child elem = refl

any_part : {most : ℕ} (test : Part → Bool) → ((elem like : Elem) → test (Child elem) ≡ test (Child like)) → {parts others : List Part} → AreAlike most parts others → list_any test parts ≡ list_any test others
any_part test children none = refl
any_part test children (same part rest) = ap (λ b. test part || b) (any_part test children rest)
any_part test children (child part other elem like is is_like name inner rest) =
    let one : test part ≡ test other = ap test is ∙ children elem like ∙ sym (ap test is_like) in
    λ i. one i || any_part test children rest i

white_alike : {most : ℕ} {parts others : List Part} → AreAlike most parts others → has_text parts ≡ has_text others
white_alike alike = any_part (λ part. list_any (λ sign. not (is_white sign)) (text_of part))
    (λ elem like. ap (list_any (λ sign. not (is_white sign))) (text_of_child elem ∙ sym (text_of_child like))) alike

child_alike : {most : ℕ} {parts others : List Part} → AreAlike most parts others → has_child parts ≡ has_child others
child_alike alike = any_part is_child (λ elem like. child_is_child elem ∙ sym (child_is_child like)) alike

whole_alike : {most : ℕ} {parts others : List Part} → AreAlike most parts others → whole_text parts ≡ whole_text others
whole_alike none = refl
whole_alike (same part rest) = ap (λ text. text_of part ++ text) (whole_alike rest)
whole_alike (child part other elem like is is_like name inner rest) =
    let one : text_of part ≡ text_of other = ap text_of is ∙ text_of_child elem ∙ sym (text_of_child like) ∙ sym (ap text_of is_like) in
    λ i. one i ++ whole_alike rest i

-- ---- levels of which each element is alike
data AreElems (most : ℕ) : List Elem → List Elem → Type 0 where
  nobody : AreElems most [] []
  another : (elem like : Elem) {level likes : List Elem} → NameSame most elem like → AreAlike most elem.parts like.parts → AreElems most level likes → AreElems most (elem ∷ level) (like ∷ likes)

cons_same : {most : ℕ} (o : Option Elem) {level likes : List Elem} → AreElems most level likes → AreElems most (cons_option o level) (cons_option o likes)
cons_same None more = more
cons_same {most} (Some elem) more = another elem elem (λ node within. refl) (alike_self most elem.parts) more

cons_alike : {most : ℕ} (o p : Option Elem) (elem like : Elem) {level likes : List Elem} → o ≡ Some elem → p ≡ Some like → NameSame most elem like → AreAlike most elem.parts like.parts →
    AreElems most level likes → AreElems most (cons_option o level) (cons_option p likes)
cons_alike {most} o p elem like {level} {likes} is is_like name inner more =
    subst (λ (o : Option Elem). AreElems most (cons_option o level) (cons_option p likes)) (sym is)
    (subst (λ (p : Option Elem). AreElems most (elem ∷ level) (cons_option p likes)) (sym is_like) (another elem like name inner more))

level_alike : {most : ℕ} {parts others : List Part} → AreAlike most parts others → AreElems most (filter_map elem_of parts) (filter_map elem_of others)
level_alike none = nobody
level_alike (same part rest) = cons_same (elem_of part) (level_alike rest)
level_alike (child part other elem like is is_like name inner rest) =
    cons_alike (elem_of part) (elem_of other) elem like (ap elem_of is ∙ elem_of_child elem) (ap elem_of is_like ∙ elem_of_child like) name inner (level_alike rest)

all_alike : {most : ℕ} {level likes : List Elem} → AreElems most level likes → list_all is_content_match level ≡ list_all is_content_match likes
all_alike nobody = refl
all_alike (another elem like name inner rest) = λ i. white_alike inner i && all_alike rest i

matches_alike : {most : ℕ} {level likes : List Elem} → AreElems most level likes → is_of_matches level ≡ is_of_matches likes
matches_alike nobody = refl
matches_alike (another elem like name inner rest) = λ i. white_alike inner i && all_alike rest i

module _ {most : ℕ} (tables : Tables) (within : AreWithin tables most) where
  node_alike : (elem like : Elem) → NameSame most elem like → (step : Step) → is_of_node tables elem step ≡ is_of_node tables like step
  node_alike elem like name step = by (slice_get tables.nodes step.node) (within step.node)
    where
      by : (o : Option Node) → IfSome o (λ node. length node.name.space ≤ most) → option_map_or (is_of_name elem) o false ≡ option_map_or (is_of_name like) o false
      by None short = refl
      by (Some node) short = name node short

  meets_alike : (elem like : Elem) → NameSame most elem like → AreAlike most elem.parts like.parts → (above : List Step) (row : Row) → meets tables elem above row ≡ meets tables like above row
  meets_alike elem like name inner above row =
      let text : whole_text elem.parts ≡ whole_text like.parts = whole_alike inner in
      λ i. is_same_path (above_last row.path.steps) above && option_map_or (λ step. node_alike elem like name step i) (last_or None row.path.steps) false
      && option_map_or (λ value. is_same_text (trimmed value) (trimmed (text i))) row.value false

  holds_alike : (rows : List Row) (above : List Step) {level likes : List Elem} → AreElems most level likes → holds tables rows above level ≡ holds tables rows above likes
  holds_alike rows above nobody = refl
  holds_alike rows above (another elem like name inner rest) = λ i.
      (not (white_alike inner i) || list_any (λ row. meets_alike elem like name inner above row i) rows) && holds_alike rows above rest i

  one_alike : (rows : List Row) (row : Row) (above : List Step) (step : Step) (steps : List Step) →
      ((level likes : List Elem) → AreElems most level likes → (over : List Step) → selects tables rows row level over steps ≡ selects tables rows row likes over steps) →
      {level likes : List Elem} → AreElems most level likes →
      list_any (λ elem. is_of_node tables elem step && (if is_content_match elem then meets tables elem above row
      else (if is_containment elem then selects tables rows row (level_of elem) (above ++ step ∷ []) steps else true))) level
      ≡ list_any (λ elem. is_of_node tables elem step && (if is_content_match elem then meets tables elem above row
      else (if is_containment elem then selects tables rows row (level_of elem) (above ++ step ∷ []) steps else true))) likes
  one_alike rows row above step steps deeper nobody = refl
  one_alike rows row above step steps deeper (another elem like name inner rest) = λ i.
      (node_alike elem like name step i && (if white_alike inner i then meets_alike elem like name inner above row i
      else (if child_alike inner i && not (white_alike inner i) then deeper (level_of elem) (level_of like) (level_alike inner) (above ++ step ∷ []) i else true)))
      || one_alike rows row above step steps deeper rest i

  selects_alike : (rows : List Row) (row : Row) (steps : List Step) {level likes : List Elem} → AreElems most level likes → (above : List Step) → selects tables rows row level above steps ≡ selects tables rows row likes above steps
  selects_alike rows row [] alike above = λ i. holds_alike rows above alike i && matches_alike alike i
  selects_alike rows row (step ∷ steps) alike above = λ i.
      holds_alike rows above alike i && (matches_alike alike i
      || one_alike rows row above step steps (λ level likes deep over. selects_alike rows row steps deep over) alike i)

  -- ---- a filter in which each element is alike keeps the same
  pub selected_alike : (elem like : Elem) → AreAlike most elem.parts like.parts → (rows : List Row) → selected tables like rows ≡ selected tables elem rows
  selected_alike elem like inner rows = sym (λ i. filter (λ row. list_any (λ other. comes_with tables other row) (found i)) rows)
    where
      found : chosen tables elem rows ≡ chosen tables like rows
      found = λ i. filter (λ row. selects_alike rows row row.path.steps (level_alike inner) [] i) rows

-- ---- elements of the same names
pub plain_names : (most : ℕ) (elem it : Elem) (parts : List Part) → (has_no_attribute elem.attrs && not (is_long most elem)) ≡ true →
    it ≡ record { name = elem.name; bounds = []; attrs = []; parts = parts } → NameSame most elem it
plain_names most elem it parts may is node short =
    (λ i. (bare i && is_same_text elem.name.name node.name.name) && (is_same_text elem.name.space [] || is_same_text elem.name.space node.name.space))
    ∙ sym (ap (λ (one : Elem). is_of_name one node) is)
  where
    bare : has_no_attribute elem.attrs ≡ true
    bare = first_of (has_no_attribute elem.attrs) (not (is_long most elem)) may

longer_differs : (text other : List ℕ) → length other < length text → is_same_text text other ≡ false
longer_differs text other longer = by (is_same_text text other) refl
  where
    by : (b : Bool) → is_same_text text other ≡ b → is_same_text text other ≡ false
    by true e = let alike : length text ≡ length other = ap length ((bytes_decides text other).0 e) in absurd (omega (arith, alike, longer))
    by false e = e

pub nameless_names : (most : ℕ) (elem it : Elem) → (has_no_attribute elem.attrs && not (is_long most elem)) ≡ false →
    has_no_attribute it.attrs ≡ false → NameSame most elem it
nameless_names most elem it may_not bare node short =
    by (has_no_attribute elem.attrs) refl (is_long most elem) refl may_not
    ∙ sym (ap (λ b. (b && is_same_text it.name.name node.name.name) && (is_same_text it.name.space [] || is_same_text it.name.space node.name.space)) bare)
  where
    by : (a : Bool) → has_no_attribute elem.attrs ≡ a → (l : Bool) → is_long most elem ≡ l → (a && not l) ≡ false → is_of_name elem node ≡ false
    by false e l d h = ap (λ b. (b && is_same_text elem.name.name node.name.name) && (is_same_text elem.name.space [] || is_same_text elem.name.space node.name.space)) e
    by true e false d h = let clash : true ≡ false = h in cc
    by true e true d h =
        let long : most < length elem.name.space = ltb-true most (length elem.name.space) d in
        let some : is_same_text elem.name.space [] ≡ false = longer_differs elem.name.space [] (omega (arith, long)) in
        let other : is_same_text elem.name.space node.name.space ≡ false = longer_differs elem.name.space node.name.space (omega (arith, long, short)) in
        (λ i. (has_no_attribute elem.attrs && is_same_text elem.name.name node.name.name) && (some i || other i))
        ∙ and_false (has_no_attribute elem.attrs && is_same_text elem.name.name node.name.name)
