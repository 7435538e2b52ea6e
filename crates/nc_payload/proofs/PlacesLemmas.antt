-- Sets of the places of a payload's elements.
use Rattle.std.proofs.Common.{◌≡◌, ◌||◌, ◌⊎◌, ◌+◌, ◌<◌, ℕ, length, take, get_or, Bool, true, false, cond, List, [], ◌∷◌, ◌++◌, Option, Some, None, refl, sym, ap, subst, ◌∙◌, inl, inr}
use Rattle.std.proofs.lemmas.List.{append-nil, append_assoc, take_more}
use Rattle.std.proofs.lemmas.List.Folds.{list_any-append}
use Rattle.std.specs.List.{flat_map}
use Rattle.std.specs.Prelude.{Result, Ok, Err, IfOk, option_map}
use Rattle.std.specs.BTreeSet.{BTreeSet, contains}
use Rattle.std.specs.Ordering.{is_eq}
use Rattle.nc_names.proofs.StepOrder.{order_ties, same_itself, same_path}
use Rattle.nc_names.specs.Same.{is_at_or_below, is_same_path}
use Rattle.nc_names.specs.declared.memory.Memory.{Memory as NoMemory}
use Rattle.nc_names.specs.declared.path.Path.{Path}
use Rattle.nc_names.specs.declared.path.Step.{Step}
use Rattle.nc_message.specs.declared.tree.Elem.{Elem}
use mathlib.Core.Former.{Count}
use Rattle.nc_message.specs.declared.tree.Part.{Part, Child', Chars, Row_of-Part, end_of-Part, more_of-Part}
use Rattle.nc_message.specs.declared.tree.Part.TheVariants.{Child}
use Rattle.nc_message.specs.declared.tree.Part.TheBlock.{Row_of-Elem, end_of-Elem, more_of-Elem, items-the_row-Part, items_hidden-the_row-Part-0}
use Rattle.nc_message.specs.declared.tree.Part.TheBlock.{hidden-the_row-Part-0, hidden-the_row-Elem-1}
use denote.Hole.Carrier.{hidden}
use Rattle.nc_protocol.specs.declared.request.Cause.{Cause}
use Rattle.nc_protocol.specs.Elements.{Reading, Named, keys_read, named}
use Rattle.nc_protocol.specs.Payload.{element_places, if_read, is_at_fault, part_places, parts_places, places_at}
use Rattle.nc_protocol.proofs.ListLemmas.{last_cut}
use Rattle.nc_protocol.proofs.PlaceLemmas.{below_is_below}
use Rattle.nc_payload.specs.declared.payload_paths.Places.{Places}
use Rattle.nc_payload.specs.inner.Places.{AddsPlace, AddsPlaces, HasAbove, ends_at, has, inside_places, is_above_any, order}

turned : (s b : Bool) → cond s true b ≡ (b || s)
turned true true = refl
turned true false = refl
turned false true = refl
turned false false = refl

pub items_added : (before after : BTreeSet (List Step)) (steps : List Step) → ((key : List Step) → contains order after key ≡ cond (is_eq (order steps key)) true (contains order before key)) →
    (key : List Step) → contains order after key ≡ (contains order before key || is_same_path steps key)
items_added before after steps put key =
    put key ∙ ap (λ b. cond b true (contains order before key)) (order_ties steps key) ∙ turned (is_same_path steps key) (contains order before key)

-- ---- a node and those above it
same_test : (a b : Bool) → (a ≡ true → b ≡ true) → (b ≡ true → a ≡ true) → a ≡ b
same_test true b there back = sym (there refl)
same_test false true there back = back refl
same_test false false there back = refl

either : (a b : Bool) → (a || b) ≡ true → (a ≡ true) ⊎ (b ≡ true)
either true b e = inl refl
either false b e = inr e

or_first : (a b : Bool) → a ≡ true → (a || b) ≡ true
or_first a b e = ap (λ (x : Bool). x || b) e

or_second : (a b : Bool) → b ≡ true → (a || b) ≡ true
or_second true b e = refl
or_second false b e = e

abbrev path_to : List Step → Path
path_to steps = record { steps = steps }

below_push : (at steps : List Step) (step : Step) →
    is_at_or_below at (path_to (steps ++ step ∷ [])) ≡ (is_at_or_below at (path_to steps) || is_same_path (steps ++ step ∷ []) at)
below_push at steps step = same_test (is_at_or_below at (path_to (steps ++ step ∷ []))) (is_at_or_below at (path_to steps) || is_same_path (steps ++ step ∷ []) at)
    (λ e. there ((below_is_below at (path_to (steps ++ step ∷ []))).0 e))
    (λ e. back (either (is_at_or_below at (path_to steps)) (is_same_path (steps ++ step ∷ []) at) e))
  where
    there : (rest : List Step) × (steps ++ step ∷ [] ≡ at ++ rest) → (is_at_or_below at (path_to steps) || is_same_path (steps ++ step ∷ []) at) ≡ true
    there (rest, is) = by (last_cut steps at rest step is)
      where
        by : (rest ≡ []) ⊎ ((more : List Step) × (steps ≡ at ++ more)) → (is_at_or_below at (path_to steps) || is_same_path (steps ++ step ∷ []) at) ≡ true
        by (inl none) = or_second (is_at_or_below at (path_to steps)) (is_same_path (steps ++ step ∷ []) at)
            (same_itself (steps ++ step ∷ []) at (is ∙ ap (λ more. at ++ more) none ∙ append-nil at))
        by (inr more) = or_first (is_at_or_below at (path_to steps)) (is_same_path (steps ++ step ∷ []) at) ((below_is_below at (path_to steps)).1 more)

    back : (is_at_or_below at (path_to steps) ≡ true) ⊎ (is_same_path (steps ++ step ∷ []) at ≡ true) → is_at_or_below at (path_to (steps ++ step ∷ [])) ≡ true
    back (inl e) =
        let below = (below_is_below at (path_to steps)).0 e in
        (below_is_below at (path_to (steps ++ step ∷ []))).1 (below.0 ++ step ∷ [], ap (λ (more : List Step). more ++ step ∷ []) below.1 ∙ append_assoc at below.0 (step ∷ []))
    back (inr e) = (below_is_below at (path_to (steps ++ step ∷ []))).1 ([], same_path (steps ++ step ∷ []) at e ∙ sym (append-nil at))

below_root : (path : Path) → is_at_or_below [] path ≡ true
below_root path = (below_is_below [] path).1 (path.steps, refl)

-- ---- one place more, below places that are there
or_true : (b : Bool) → true ≡ (b || true)
or_true true = refl
or_true false = refl

seen : (b s : Bool) → b ≡ true → (b || s) ≡ (b || true)
seen true s e = refl
seen false s e = absurd (let clash : false ≡ true = e in cc)

placed_at : (items : BTreeSet (List Step)) (above : List Step) (step : Step) (key : List Step) → (is_at_or_below key (path_to above) ≡ true → contains order items key ≡ true) →
    (contains order items key || is_same_path (above ++ step ∷ []) key) ≡ (contains order items key || is_at_or_below key (path_to (above ++ step ∷ [])))
placed_at items above step key there = by (is_at_or_below key (path_to above)) refl ∙ ap (λ b. contains order items key || b) (sym (below_push key above step))
  where
    by : (b : Bool) → is_at_or_below key (path_to above) ≡ b →
        (contains order items key || is_same_path (above ++ step ∷ []) key) ≡ (contains order items key || (is_at_or_below key (path_to above) || is_same_path (above ++ step ∷ []) key))
    by true is =
        seen (contains order items key) (is_same_path (above ++ step ∷ []) key) (there is)
        ∙ ap (λ b. contains order items key || (b || is_same_path (above ++ step ∷ []) key)) (sym is)
    by false is = ap (λ b. contains order items key || (b || is_same_path (above ++ step ∷ []) key)) (sym is)

pub placed : (before after : Places) (above : List Step) (step : Step) → HasAbove before above → AddsPlace before after (above ++ step ∷ []) →
    (key : List Step) → has after key ≡ (has before key || is_at_or_below key (path_to (above ++ step ∷ [])))
placed before after above step there added [] =
    added.0 ∙ or_true before.some ∙ ap (λ b. before.some || b) (sym (below_root (path_to (above ++ step ∷ []))))
placed before after above step there added (first ∷ rest) =
    added.1 (first ∷ rest) ∙ placed_at before.items above step (first ∷ rest) (λ e. there first rest e)

pub above_more : (before after : Places) (above : List Step) (step : Step) → HasAbove before above → AddsPlace before after (above ++ step ∷ []) → HasAbove after (above ++ step ∷ [])
above_more before after above step there added first rest is =
    placed before after above step there added (first ∷ rest) ∙ or_second (has before (first ∷ rest)) (is_at_or_below (first ∷ rest) (path_to (above ++ step ∷ []))) is

-- ---- places one after another
or_false : (b : Bool) → (b || false) ≡ b
or_false true = refl
or_false false = refl

assoc : (a b c : Bool) → ((a || b) || c) ≡ (a || (b || c))
assoc true b c = refl
assoc false b c = refl

pub nothing_added : (places : Places) → AddsPlaces places places []
nothing_added places key = sym (or_false (has places key))

pub places_more : (first before after : Places) (xs ys : List (List Step)) → AddsPlaces first before xs → AddsPlaces before after ys → AddsPlaces first after (xs ++ ys)
places_more first before after xs ys one two key =
    two key ∙ ap (λ b. b || is_above_any ys key) (one key) ∙ assoc (has first key) (is_above_any xs key) (is_above_any ys key)
    ∙ ap (λ b. has first key || b) (sym (list_any-append (λ (steps : List Step). is_at_or_below key (path_to steps)) xs ys))

pub still_above : (before after : Places) (xs : List (List Step)) (above : List Step) → AddsPlaces before after xs → HasAbove before above → HasAbove after above
still_above before after xs above added there first rest is = added (first ∷ rest) ∙ or_first (has before (first ∷ rest)) (is_above_any xs (first ∷ rest)) (there first rest is)

pub element_added : (before mid after : Places) (above : List Step) (step : Step) (rest : List (List Step)) → HasAbove before above → AddsPlace before mid (above ++ step ∷ []) →
    AddsPlaces mid after rest → AddsPlaces before after ((above ++ step ∷ []) ∷ rest)
element_added before mid after above step rest there added more key =
    more key ∙ ap (λ b. b || is_above_any rest key) (placed before mid above step there added key)
    ∙ assoc (has before key) (is_at_or_below key (path_to (above ++ step ∷ []))) (is_above_any rest key)

-- ---- an element
pub no_element : (reading : Reading) (above : List Step) (parent : Option ℕ) (elem : Elem) → named reading parent elem ≡ None → inside_places reading above parent elem ≡ []
no_element reading above parent elem none = rw none refl

pub no_reading : (reading : Reading) (above : List Step) (parent : Option ℕ) (elem : Elem) (it : Named) → named reading parent elem ≡ Some it → ends_at reading above it ≡ None → inside_places reading above parent elem ≡ []
no_reading reading above parent elem it is none = rw is (by (keys_read reading it.node.kind it) none)
  where
    by : (o : Option (List (List ℕ))) → option_map (λ keys. above ++ record { node = it.number; keys = keys } ∷ []) o ≡ None →
        places_at above o it (λ steps. flat_map (part_places reading steps (Some it.number)) elem.parts) ≡ []
    by None e = refl
    by (Some keys) e = absurd (let clash : Some (above ++ record { node = it.number; keys = keys } ∷ []) ≡ None = e in cc)

pub element_is : (reading : Reading) (above : List Step) (parent : Option ℕ) (elem : Elem) (it : Named) (steps : List Step) → named reading parent elem ≡ Some it → ends_at reading above it ≡ Some steps →
    (step : Step) × (steps ≡ above ++ step ∷ []) × (inside_places reading above parent elem ≡ steps ∷ flat_map (part_places reading steps (Some it.number)) elem.parts)
element_is reading above parent elem it steps is ends = by (keys_read reading it.node.kind it) refl ends
  where
    by : (o : Option (List (List ℕ))) → keys_read reading it.node.kind it ≡ o → option_map (λ keys. above ++ record { node = it.number; keys = keys } ∷ []) o ≡ Some steps →
        (step : Step) × (steps ≡ above ++ step ∷ []) × (inside_places reading above parent elem ≡ steps ∷ flat_map (part_places reading steps (Some it.number)) elem.parts)
    by None read e = absurd (let clash : None ≡ Some steps = e in cc)
    by (Some keys) read e =
        let step : Step = record { node = it.number; keys = keys } in
        let same : above ++ step ∷ [] ≡ steps = cc in
        (step, sym same, rw (is, read, sym same) refl)

-- ---- a fault
pub same_fault : {A B : Type 0} (f : A → B) (r : Result A Cause) (path : Path) → is_at_fault (if_read f r) path ≡ is_at_fault r path
same_fault f (Ok it) path = refl
same_fault f (Err cause) path = refl

-- ---- the places of a child, by the rows of elements and parts that a tree is made of, are those of the element
places_are : (reading : Reading) (above : List Step) (parent : Option ℕ) (n : _) (row : Row_of-Part n) →
    parts_places reading above parent row ≡ flat_map (part_places reading above parent) (items-the_row-Part n row)
places_are reading above parent n end_of-Part = refl
places_are reading above parent n (more_of-Part part rest) = ap (λ more. part_places reading above parent part ++ more) (places_are reading above parent _ rest)

abbrev row_of_child : {n : _} → Row_of-Elem n → (m : Count) × Row_of-Part m
row_of_child (more_of-Elem name bounds attrs shape row none) = (_, row)
row_of_child end_of-Elem = (_, end_of-Part)

abbrev row_of : Part → (n : Count) × Row_of-Part n
row_of (Child' u child) = row_of_child child
row_of (Chars t) = (_, end_of-Part)

pub child_is_place : (reading : Reading) (above : List Step) (parent : Option ℕ) (e : Elem) → part_places reading above parent (Child e) ≡ inside_places reading above parent e
unfolding hidden-the_row-Part-0 hidden-the_row-Elem-1 hidden
child_is_place reading above parent e =
    let row = row_of (Child e) in
    let with_parts : List Part → Elem = λ ps. record { name = e.name; bounds = e.bounds; attrs = e.attrs; parts = ps } in
    ap (λ (f : List Step → Option ℕ → List (List Step)). element_places reading above (named reading parent (with_parts (items-the_row-Part row.0 row.1))) f)
    (λ i steps number. places_are reading steps number row.0 row.1 i)
    ∙ ap (λ (ps : List Part). element_places reading above (named reading parent (with_parts ps)) (λ steps number. flat_map (part_places reading steps number) ps))
    (items_hidden-the_row-Part-0 e.parts)

-- ---- an element with what is in it, as the code finds it
pub none_named : (reading : Reading) (above : List Step) (parent : Option ℕ) (elem : Elem) (places : Places) → None ≡ named reading parent elem →
    AddsPlaces places places (inside_places reading above parent elem)
none_named reading above parent elem places none =
    subst (AddsPlaces places places) (sym (no_element reading above parent elem (sym none))) (nothing_added places)

pub none_read : (reading : Reading) (above : List Step) (parent : Option ℕ) (elem : Elem) (it : Named) (places : Places) → Some it ≡ named reading parent elem →
    None ≡ ends_at reading above it → AddsPlaces places places (inside_places reading above parent elem)
none_read reading above parent elem it places is none =
    subst (AddsPlaces places places) (sym (no_reading reading above parent elem it (sym is) (sym none))) (nothing_added places)

pub above_read : (reading : Reading) (above : List Step) (it : Named) (steps : List Step) (before after : Places) → Some steps ≡ ends_at reading above it →
    HasAbove before above → AddsPlace before after steps → HasAbove after steps
above_read reading above it steps before after ends there added = by (keys_read reading it.node.kind it) (sym ends)
  where
    by : (o : Option (List (List ℕ))) → option_map (λ keys. above ++ record { node = it.number; keys = keys } ∷ []) o ≡ Some steps → HasAbove after steps
    by None e = absurd (let clash : None ≡ Some steps = e in cc)
    by (Some keys) e =
        let step : Step = record { node = it.number; keys = keys } in
        let same : above ++ step ∷ [] ≡ steps = cc in
        subst (HasAbove after) same (above_more before after above step there (subst (AddsPlace before after) (sym same) added))

pub element_adds : (reading : Reading) (above : List Step) (parent : Option ℕ) (elem : Elem) (it : Named) (steps : List Step) (before mid after : Places) →
    Some it ≡ named reading parent elem → Some steps ≡ ends_at reading above it → HasAbove before above → AddsPlace before mid steps →
    AddsPlaces mid after (flat_map (part_places reading steps (Some it.number)) elem.parts) → AddsPlaces before after (inside_places reading above parent elem)
element_adds reading above parent elem it steps before mid after is ends there added more =
    let found = element_is reading above parent elem it steps (sym is) (sym ends) in
    let rest = flat_map (part_places reading steps (Some it.number)) elem.parts in
    subst (AddsPlaces before after) (sym found.2)
    (subst (λ (s : List Step). AddsPlaces before after (s ∷ rest)) (sym found.1)
    (element_added before mid after above found.0 rest there (subst (AddsPlace before mid) found.1 added) more))

-- ---- the parts of an element, one after another
flat_map_push : (f : Part → List (List Step)) (xs : List Part) (x : Part) → flat_map f (xs ++ x ∷ []) ≡ flat_map f xs ++ f x
flat_map_push f [] x = append-nil (f x)
flat_map_push f (y ∷ xs) x = ap (λ (more : List (List Step)). f y ++ more) (flat_map_push f xs x) ∙ sym (append_assoc (f y) (flat_map f xs) (f x))

pub part_added : (f : Part → List (List Step)) (items : List Part) (i : ℕ) (part : Part) (above : List Step) (first before after : Places) → i < length items → part ≡ get_or items i part →
    (HasAbove first above → AddsPlaces first before (flat_map f (take i items))) → (HasAbove before above → AddsPlaces before after (f part)) →
    HasAbove first above → AddsPlaces first after (flat_map f (take (i + 1) items))
part_added f items i part above first before after within item so_far added there =
    let before_is = so_far there in
    let more = places_more first before after (flat_map f (take i items)) (f part) before_is (added (still_above first before (flat_map f (take i items)) above before_is there)) in
    subst (AddsPlaces first after) (sym ((λ k. flat_map f (take_more items i part within k)) ∙ flat_map_push f (take i items) (get_or items i part) ∙ (λ k. flat_map f (take i items) ++ f (sym item k)))) more

pub ok_more : {A : Type 0} (r : Result A NoMemory) (P Q : A → Type 0) → ((it : A) → P it → Q it) → IfOk r P → IfOk r Q
ok_more (Ok it) P Q more holds = more it holds
ok_more (Err fault) P Q more holds = holds

-- ---- the places of a whole payload
