-- What is known of an element of a payload that has no fault of its own: its data node, its value and its keys.
use Rattle.std.proofs.Common.{◌≡◌, ◌==◌, ◌&&◌, ◌||◌, ℕ, zero, suc, Bool, true, false, cond, not, List, [], ◌∷◌, ◌++◌, length, Option, Some, None, refl, sym, ap, subst, ◌∙◌, arith}
use Rattle.std.specs.Prelude.{IsSomeAnd, is_some, option_and_then, option_map, slice_get}
use Rattle.std.specs.List.{Contains, cons_option, filter_map, find, list_any}
use Rattle.std.specs.Option.{option_map_or, option_or, option_to_list}
use Rattle.std.proofs.lemmas.Bool.{eqb-true, or_parts}
use Rattle.std.proofs.lemmas.Bool.Decides.{Decides-eqb}
use Rattle.std.proofs.lemmas.List.Quantifiers.{position-Some}
use Rattle.std.proofs.lemmas.Option.{get_or_from_slice_get, none-some}
use Rattle.nc_names.specs.Same.{is_same_name, is_same_step}
use Rattle.nc_names.specs.declared.path.Step.{Step}
use Rattle.nc_message.specs.declared.tree.Elem.{Elem}
use Rattle.nc_message.specs.declared.tree.Part.{Part}
use Rattle.nc_schema.specs.Children.{child_number, is_same_number}
use Rattle.nc_schema.specs.Kinds.{has_value}
use Rattle.nc_schema.specs.Proper.{IsKeyIn}
use Rattle.nc_schema.proofs.ProperLemmas.{HasProperNodes}
use Rattle.nc_schema.specs.Standing.{cases_of, cases_differ}
use Rattle.nc_schema.specs.Tables.{Tables}
use Rattle.nc_schema.specs.declared.node.Kind.TheVariants.{Leaf}
use Rattle.nc_schema.specs.declared.node.Node.{Node}
use Rattle.nc_protocol.specs.Attributes.{operation_of, attributes_fault}
use Rattle.nc_protocol.specs.Edited.{cause_where}
use Rattle.nc_protocol.specs.Elements.{Reading, Named, named, named_part, elem_of, value_in, first_child, with_key, key_values, keys_read, is_dropped, keys_of, is_key, step_of, with_step}
use Rattle.nc_protocol.specs.Faults.{has_bad_content, stands_once, clashes, shape_fault, is_read, value_fault, element_fault, inside, key_fault, keys_fault}
use Rattle.nc_protocol.specs.declared.position.EditOperation.{EditOperation}
use Rattle.nc_protocol.specs.declared.position.Position.{Position}
use Rattle.nc_protocol.specs.declared.position.Under.{Under}
use Rattle.nc_protocol.specs.declared.position.Under.TheVariants.{Edited, Rows, Inline, Dropped, BelowDropped}
use Rattle.nc_protocol.specs.declared.request.Cause.{Cause}
use Rattle.nc_protocol.proofs.ListLemmas.{some_same}
use Rattle.nc_names.proofs.SameLemmas.{first_true, step_itself}

-- ---- options and tests
pub some_is_not_none : {X : Type 0} (x : X) → ¬ (Some x ≡ None)
some_is_not_none x e = cc

pub true_is_not_false : ¬ (true ≡ false)
true_is_not_false e = cc

pub or_none : {X : Type 0} (one other : Option X) → option_or one other ≡ None → (one ≡ None) × (other ≡ None)
or_none None other e = (refl, e)
or_none (Some x) other e = absurd (some_is_not_none x e)

pub map_none : {X Y : Type 0} (f : X → Y) (o : Option X) → option_map f o ≡ None → o ≡ None
map_none f None e = refl
map_none f (Some x) e = absurd (some_is_not_none (f x) e)

where_false : (b : Bool) (cause : Cause) → cause_where b cause ≡ None → b ≡ false
where_false true cause e = absurd (some_is_not_none cause e)
where_false false cause e = refl

chosen : {X : Type 0} (b : Bool) (x y z : X) → b ≡ true → cond b x y ≡ z → x ≡ z
chosen true x y z is e = e
chosen false x y z is e = absurd (true_is_not_false (sym is))

pub same_either : {X : Type 0} (b : Bool) (x : X) → cond b x x ≡ x
same_either true x = refl
same_either false x = refl

has_it : {X : Type 0} (b : Bool) (o : Option X) → (b && not (is_some o)) ≡ false → b ≡ true → (x : X) × (o ≡ Some x)
has_it b (Some x) e is = (x, refl)
has_it true None e is = absurd (true_is_not_false e)
has_it false None e is = absurd (true_is_not_false (sym is))

-- ---- the data node of an element
pub record IsNamed (reading : Reading) (parent : Option ℕ) (elem : Elem) (it : Named) : Type 0 where
  pub number_is : child_number reading.tables parent elem.name ≡ Some it.number
  pub node_is : slice_get reading.tables.nodes it.number ≡ Some it.node
  pub elem_is : it.elem ≡ elem

named_at : (reading : Reading) (parent : Option ℕ) (elem : Elem) (it : Named) (number : ℕ) → child_number reading.tables parent elem.name ≡ Some number →
    (n : Option Node) → slice_get reading.tables.nodes number ≡ n → option_map (λ node. record { number = number; node = node; elem = elem }) n ≡ Some it → IsNamed reading parent elem it
named_at reading parent elem it number number_is None is e = absurd (none-some it e)
named_at reading parent elem it number number_is (Some node) is e =
    let same : record { number = number; node = node; elem = elem } ≡ it = some_same (record { number = number; node = node; elem = elem }) it e in
    record {
      number_is = number_is ∙ (λ i. Some (same i).number);
      node_is = ap (slice_get reading.tables.nodes) (sym (λ i. (same i).number)) ∙ is ∙ (λ i. Some (same i).node);
      elem_is = sym (λ i. (same i).elem);
    }

pub named_is : (reading : Reading) (parent : Option ℕ) (elem : Elem) (it : Named) → named reading parent elem ≡ Some it → IsNamed reading parent elem it
named_is reading parent elem it e = by (child_number reading.tables parent elem.name) refl e
  where
    by : (o : Option ℕ) → child_number reading.tables parent elem.name ≡ o →
        option_and_then (λ number. option_map (λ node. record { number = number; node = node; elem = elem }) (slice_get reading.tables.nodes number)) o ≡ Some it → IsNamed reading parent elem it
    by None is e = absurd (none-some it e)
    by (Some number) is e = named_at reading parent elem it number is (slice_get reading.tables.nodes number) refl e

pub part_named : (reading : Reading) (parent : Option ℕ) (part : Part) (it : Named) → named_part reading parent part ≡ Some it → (elem : Elem) × IsNamed reading parent elem it
part_named reading parent part it e = by (elem_of part) e
  where
    by : (o : Option Elem) → option_and_then (named reading parent) o ≡ Some it → (elem : Elem) × IsNamed reading parent elem it
    by None e = absurd (none-some it e)
    by (Some elem) e = (elem, named_is reading parent elem it e)

same_number_is : (a b : Option ℕ) → is_same_number a b ≡ true → a ≡ b
same_number_is None None e = refl
same_number_is None (Some b) e = cc
same_number_is (Some a) None e = cc
same_number_is (Some a) (Some b) e = λ i. Some (eqb-true a b e i)

-- it stands in the parent
pub named_parent : (reading : Reading) (parent : Option ℕ) (elem : Elem) (it : Named) → IsNamed reading parent elem it → it.node.parent ≡ parent
named_parent reading parent elem it is =
    let there = position-Some (λ (n : Node). is_same_number n.parent parent && is_same_name n.name elem.name) reading.tables.nodes it.number it.node is.number_is in
    let same = get_or_from_slice_get reading.tables.nodes it.number it.node it.node is.node_is in
    let tested : (is_same_number it.node.parent parent && is_same_name it.node.name elem.name) ≡ true =
    subst (λ (n : Node). (is_same_number n.parent parent && is_same_name n.name elem.name) ≡ true) same there.1 in
    same_number_is it.node.parent parent (first_true (is_same_number it.node.parent parent) (is_same_name it.node.name elem.name) tested)

-- ---- an element without a fault but for those of its keys
pub record IsSound (reading : Reading) (at : Position) (earlier : List Step) (it : Named) : Type 0 where
  pub content : has_bad_content it.node.kind it.elem.parts ≡ false
  pub alone : list_any (clashes reading.tables at.under it.node (step_of reading at.under it)) earlier ≡ false
  pub attributes : attributes_fault reading at it false it.elem.attrs ≡ None
  pub value : is_read at.under (operation_of at.under it.elem.attrs) (is_key reading at it) it.node.kind ≡ true → (v : List ℕ) × (value_in reading it ≡ Some v)

pub element_sound : (reading : Reading) (at : Position) (earlier : List Step) (it : Named) → element_fault reading at earlier it ≡ None → IsSound reading at earlier it
element_sound reading at earlier it none =
    let first = or_none (shape_fault reading at earlier it) _ none in
    let second = or_none (attributes_fault reading at it false it.elem.attrs) (value_fault reading at it) first.1 in
    let shape = or_parts (has_bad_content it.node.kind it.elem.parts) (list_any (clashes reading.tables at.under it.node (step_of reading at.under it)) earlier) (where_false _ _ first.0) in
    record {
      content = shape.0;
      alone = shape.1;
      attributes = second.0;
      value = has_it (is_read at.under (operation_of at.under it.elem.attrs) (is_key reading at it) it.node.kind) (value_in reading it) (where_false _ _ second.1);
    }

-- ---- children of a number
abbrev pub find_in : Reading → Option ℕ → List Part → ℕ → Option Named
find_in reading parent parts number = find (λ child. child.number == number) (filter_map (named_part reading parent) parts)

-- it is that of the first part where that is such a child, else one of the parts behind
pub found_here : (reading : Reading) (parent : Option ℕ) (part : Part) (more : List Part) (it : Named) → named_part reading parent part ≡ Some it →
    find_in reading parent (part ∷ more) it.number ≡ Some it
found_here reading parent part more it is =
    ap (λ o. find (λ child. child.number == it.number) (cons_option o (filter_map (named_part reading parent) more))) is
    ∙ ap (λ b. cond b (Some it) (find_in reading parent more it.number)) ((Decides-eqb it.number it.number).1 refl)

-- a child that is found among parts without a fault in keys, and is a key
pub record IsKeyChild (reading : Reading) (at : Position) (number : ℕ) (it : Named) : Type 0 where
  pub elem : Elem
  pub earlier : List Step
  pub named : IsNamed reading at.parent elem it
  pub number_is : it.number ≡ number
  pub sound : is_key reading at it ≡ true → IsSound reading at earlier it

found_key : (reading : Reading) (at : Position) (earlier : List Step) (part : Part) (number : ℕ) (it d : Named) → key_fault reading at earlier part ≡ None →
    named_part reading at.parent part ≡ Some d → (d.number == number) ≡ true → d ≡ it → IsKeyChild reading at number it
found_key reading at earlier part number it d none is numbered same =
    let it_is : named_part reading at.parent part ≡ Some it = is ∙ ap (λ x. Some x) same in
    let made = part_named reading at.parent part it it_is in
    let fault : cond (is_key reading at it) (element_fault reading at earlier it) None ≡ None =
    ap (λ o. option_and_then (λ child. cond (is_key reading at child) (element_fault reading at earlier child) None) o) (sym it_is) ∙ none in
    record {
      elem = made.0;
      earlier = earlier;
      named = made.1;
      number_is = (λ i. (sym same i).number) ∙ eqb-true d.number number numbered;
      sound = λ key. element_sound reading at earlier it (chosen (is_key reading at it) (element_fault reading at earlier it) None None key fault);
    }

pub key_child : (reading : Reading) (at : Position) (earlier : List Step) (parts : List Part) (number : ℕ) (it : Named) →
    keys_fault reading at earlier parts ≡ None → find_in reading at.parent parts number ≡ Some it → IsKeyChild reading at number it
key_child reading at earlier [] number it none found = absurd (none-some it found)
key_child reading at earlier (part ∷ more) number it none found =
    let faults = or_none (key_fault reading at earlier part) (keys_fault reading at (with_step reading at earlier part) more) none in
    by faults.0 (named_part reading at.parent part) refl found (key_child reading at (with_step reading at earlier part) more number it faults.1)
  where
    by : key_fault reading at earlier part ≡ None → (o : Option Named) → named_part reading at.parent part ≡ o →
        find (λ child. child.number == number) (cons_option o (filter_map (named_part reading at.parent) more)) ≡ Some it →
        (find_in reading at.parent more number ≡ Some it → IsKeyChild reading at number it) → IsKeyChild reading at number it
    by fault None is found rest = rest found
    by fault (Some d) is found rest = go (d.number == number) refl found
      where
        go : (b : Bool) → (d.number == number) ≡ b → cond b (Some d) (find_in reading at.parent more number) ≡ Some it → IsKeyChild reading at number it
        go true same found = found_key reading at earlier part number it d fault is same (some_same d it found)
        go false other found = rest found

-- ---- keys of an entry
key_read : (under : Under) (operation : EditOperation) → is_read under operation true Leaf ≡ true
key_read (Edited above) operation = refl
key_read (Rows above) operation = refl
key_read Inline operation = refl
key_read (Dropped above) operation = refl
key_read BelowDropped operation = refl

-- a number that is listed passes
pub listed_passes : (number : ℕ) (numbers : List ℕ) → Contains numbers number → list_any (λ key. key == number) numbers ≡ true
listed_passes number [] has = absurd (omega (arith, has.1))
listed_passes number (key ∷ numbers) (zero, within, here) = ap (λ b. b || list_any (λ k. k == number) numbers) ((Decides-eqb key number).1 here)
listed_passes number (key ∷ numbers) (suc k, within, here) = by (key == number) (listed_passes number numbers (k, omega (arith, within), here))
  where
    by : (b : Bool) → list_any (λ other. other == number) numbers ≡ true → (b || list_any (λ other. other == number) numbers) ≡ true
    by true e = refl
    by false e = e

-- the value of a key in an entry without faults in its keys
pub key_value : (reading : Reading) (at : Position) (it : Named) (number : ℕ) (child : Named) → HasProperNodes reading.tables → slice_get reading.tables.nodes it.number ≡ Some it.node →
    keys_fault reading (inside reading at it) [] it.elem.parts ≡ None → Contains it.node.keys number → first_child reading it number ≡ Some child →
    (v : List ℕ) × (value_in reading child ≡ Some v)
key_value reading at it number child proper node_is none in_keys found = sound.value read
  where
    within : Position
    within = inside reading at it

    key : IsKeyChild reading within number child
    key = key_child reading within [] it.elem.parts number child none found

    child_is : slice_get reading.tables.nodes number ≡ Some child.node
    child_is = ap (slice_get reading.tables.nodes) (sym key.number_is) ∙ key.named.node_is

    leaf : child.node.kind ≡ Leaf
    leaf = by (slice_get reading.tables.nodes number) child_is (proper.keys it.number number it.node node_is in_keys)
      where
        by : (o : Option Node) → o ≡ Some child.node → IsSomeAnd o (IsKeyIn it.number) → child.node.kind ≡ Leaf
        by None is key_in = absurd key_in
        by (Some leaf) is key_in = ap (λ n. n.kind) (sym (some_same leaf child.node is)) ∙ key_in.kind

    is_its_key : is_key reading within child ≡ true
    is_its_key =
        ap (λ o. list_any (λ k. k == child.number) (option_map_or (λ n. n.keys) o [])) node_is
        ∙ ap (λ n. list_any (λ k. k == n) it.node.keys) key.number_is ∙ listed_passes number it.node.keys in_keys

    sound : IsSound reading within key.earlier child
    sound = key.sound is_its_key

    read : is_read within.under (operation_of within.under child.elem.attrs) (is_key reading within child) child.node.kind ≡ true
    read =
        ap (λ kind. is_read within.under (operation_of within.under child.elem.attrs) (is_key reading within child) kind) leaf
        ∙ ap (λ b. is_read within.under (operation_of within.under child.elem.attrs) b Leaf) is_its_key
        ∙ key_read within.under (operation_of within.under child.elem.attrs)

-- an entry whose keys are there and have values has a value for each key
pub keys_are_read : (reading : Reading) (it : Named) (keys : List ℕ) →
    ((key : ℕ) (child : Named) → Contains keys key → first_child reading it key ≡ Some child → (v : List ℕ) × (value_in reading child ≡ Some v)) →
    find (λ key. not (is_some (first_child reading it key))) keys ≡ None →
    (values : List (List ℕ)) × (key_values reading it keys ≡ Some values) × (length values ≡ length keys)
keys_are_read reading it [] read none = ([], refl, refl)
keys_are_read reading it (key ∷ keys) read none =
    by (first_child reading it key) refl none (λ e. keys_are_read reading it keys (λ k child in_keys found. read k child (suc in_keys.0, omega (arith, in_keys.1), in_keys.2) found) e)
  where
    by : (o : Option Named) → first_child reading it key ≡ o →
        cond (not (is_some o)) (Some key) (find (λ k. not (is_some (first_child reading it k))) keys) ≡ None →
        (find (λ k. not (is_some (first_child reading it k))) keys ≡ None → (values : List (List ℕ)) × (key_values reading it keys ≡ Some values) × (length values ≡ length keys)) →
        (values : List (List ℕ)) × (with_key (option_and_then (value_in reading) (first_child reading it key)) (key_values reading it keys) ≡ Some values) × (length values ≡ length (key ∷ keys))
    by None is e rest = absurd (some_is_not_none key e)
    by (Some child) is e rest =
        let behind = rest e in
        let valued = read key child (0, omega arith, refl) is in
        let value : option_and_then (value_in reading) (first_child reading it key) ≡ Some valued.0 = ap (option_and_then (value_in reading)) is ∙ valued.1 in
        (valued.0 ∷ behind.0, (λ i. with_key (value i) (behind.1 i)), omega (arith, behind.2))

with_key_some : (value : Option (List ℕ)) (values : Option (List (List ℕ))) (all : List (List ℕ)) → with_key value values ≡ Some all →
    (first : List ℕ) × (rest : List (List ℕ)) × (value ≡ Some first) × (values ≡ Some rest) × (first ∷ rest ≡ all)
with_key_some None None all e = absurd (none-some all e)
with_key_some None (Some rest) all e = absurd (none-some all e)
with_key_some (Some first) None all e = absurd (none-some all e)
with_key_some (Some first) (Some rest) all e = (first, rest, refl, refl, some_same (first ∷ rest) all e)

-- the key in a place has the value of the first child that is its node
pub key_is_read : (reading : Reading) (it : Named) (keys : List ℕ) (values : List (List ℕ)) (place key : ℕ) (child : Named) →
    key_values reading it keys ≡ Some values → slice_get keys place ≡ Some key → first_child reading it key ≡ Some child → slice_get values place ≡ value_in reading child
key_is_read reading it [] values place key child all at found = absurd (none-some key at)
key_is_read reading it (first ∷ keys) values zero key child all at found =
    let made = with_key_some (option_and_then (value_in reading) (first_child reading it first)) (key_values reading it keys) values all in
    ap (λ vs. slice_get vs 0) (sym made.4) ∙ sym made.2
    ∙ ap (λ k. option_and_then (value_in reading) (first_child reading it k)) (some_same first key at) ∙ ap (option_and_then (value_in reading)) found
key_is_read reading it (first ∷ keys) values (suc place) key child all at found =
    let made = with_key_some (option_and_then (value_in reading) (first_child reading it first)) (key_values reading it keys) values all in
    ap (λ vs. slice_get vs (suc place)) (sym made.4) ∙ key_is_read reading it keys made.1 place key child made.3 at found

-- ---- a leaf comes once
once : (under : Under) → stands_once under Leaf ≡ true
once (Edited above) = refl
once (Rows above) = refl
once Inline = refl
once (Dropped above) = refl
once BelowDropped = refl

-- no earlier step is that to the leaf
abbrev pub IsNew : List Step → ℕ → Type 0
IsNew earlier number = list_any (λ other. is_same_step other (record { node = number; keys = [] })) earlier ≡ false

pub leaf_is_new : (tables : Tables) (under : Under) (node : Node) (number : ℕ) (earlier : List Step) → node.kind ≡ Leaf →
    list_any (clashes tables under node (record { node = number; keys = [] })) earlier ≡ false → IsNew earlier number
leaf_is_new tables under node number [] leaf alone = refl
leaf_is_new tables under node number (other ∷ earlier) leaf alone =
    let step : Step = record { node = number; keys = [] } in
    let parts = or_parts (clashes tables under node step other) (list_any (clashes tables under node step) earlier) alone in
    let first = or_parts (stands_once under node.kind && is_same_step other step) (cases_differ node.cases (cases_of tables other.node)) parts.0 in
    let apart : is_same_step other step ≡ false = ap (λ b. b && is_same_step other step) (sym (ap (stands_once under) leaf ∙ once under)) ∙ first.0 in
    let rest = leaf_is_new tables under node number earlier leaf parts.1 in
    (λ i. apart i || rest i)

-- the step to a leaf has no keys
pub leaf_keys : (reading : Reading) (under : Under) (it : Named) → it.node.kind ≡ Leaf → keys_of reading under it ≡ []
leaf_keys reading under it leaf =
    ap (λ kind. cond (is_dropped under && has_value kind) [] (option_map_or (λ keys. keys) (keys_read reading kind it) [])) leaf ∙ same_either (is_dropped under && true) []

-- a leaf that is not among those before the next part either is not that of the part
any_append : {X : Type 0} (p : X → Bool) (xs ys : List X) → list_any p (xs ++ ys) ≡ false → (list_any p xs ≡ false) × (list_any p ys ≡ false)
any_append p [] ys none = (refl, none)
any_append p (x ∷ xs) ys none =
    let parts = or_parts (p x) (list_any p (xs ++ ys)) none in
    let rest = any_append p xs ys parts.1 in
    ((λ i. parts.0 i || rest.0 i), rest.1)

pub new_behind : (reading : Reading) (at : Position) (earlier : List Step) (part : Part) (more : List Part) (number : ℕ) (node : Node) →
    slice_get reading.tables.nodes number ≡ Some node → node.kind ≡ Leaf → IsNew (with_step reading at earlier part) number →
    IsNew earlier number × (find_in reading at.parent (part ∷ more) number ≡ find_in reading at.parent more number)
new_behind reading at earlier part more number node is leaf none =
    let parts = any_append (λ other. is_same_step other (record { node = number; keys = [] })) earlier (option_to_list (option_map (step_of reading at.under) (named_part reading at.parent part))) none in
    (parts.0, by (named_part reading at.parent part) refl parts.1)
  where
    by : (o : Option Named) → named_part reading at.parent part ≡ o → IsNew (option_to_list (option_map (step_of reading at.under) o)) number →
        find (λ child. child.number == number) (cons_option o (filter_map (named_part reading at.parent) more)) ≡ find_in reading at.parent more number
    by None e none = refl
    by (Some d) e none = go (d.number == number) refl
      where
        go : (b : Bool) → (d.number == number) ≡ b → cond b (Some d) (find_in reading at.parent more number) ≡ find_in reading at.parent more number
        go false other = refl
        go true same =
            let number_is : d.number ≡ number = eqb-true d.number number same in
            let made = part_named reading at.parent part d e in
            let node_same : d.node ≡ node = some_same d.node node (sym made.1.node_is ∙ ap (slice_get reading.tables.nodes) number_is ∙ is) in
            let kind : d.node.kind ≡ Leaf = ap (λ n. n.kind) node_same ∙ leaf in
            let step_is : step_of reading at.under d ≡ record { node = number; keys = [] } = λ i. record { node = number_is i; keys = leaf_keys reading at.under d kind i } in
            let test : is_same_step (step_of reading at.under d) (record { node = number; keys = [] }) ≡ true =
            ap (λ (s : Step). is_same_step s (record { node = number; keys = [] })) step_is ∙ step_itself (record { node = number; keys = [] }) in
            absurd (true_is_not_false (sym test ∙ (or_parts (is_same_step (step_of reading at.under d) (record { node = number; keys = [] })) false none).0))
