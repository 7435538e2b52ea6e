-- The elements of a payload that are rows build a subtree, with values that were read.
use Rattle.std.proofs.Common.{◌≡◌, ◌==◌, ◌&&◌, ◌||◌, ℕ, zero, suc, Bool, true, false, cond, not, List, [], ◌∷◌, ◌++◌, Option, Some, None, refl, sym, ap, subst, ◌∙◌, arith}
use Rattle.std.specs.List.{Contains, find, list_any}
use Rattle.std.specs.Option.{option_map_or}
use Rattle.std.specs.Prelude.{Result, Ok, option_and_then, option_map, slice_get}
use Rattle.std.proofs.lemmas.Bool.{and_parts}
use Rattle.std.proofs.lemmas.Option.{none-some}
use Rattle.nc_names.specs.declared.cause.CauseKind.TheVariants.{BadAttribute, UnknownAttribute}
use Rattle.nc_names.specs.declared.path.Place.{Place}
use Rattle.nc_names.specs.declared.path.Step.{Step}
use Rattle.nc_message.specs.declared.tree.Attr.{Attr}
use Rattle.nc_message.specs.declared.tree.Elem.{Elem}
use Rattle.nc_message.specs.declared.tree.Part.{Part, Child', Chars, Row_of-Part, end_of-Part, more_of-Part}
use Rattle.nc_message.specs.declared.tree.Part.TheBlock.{Row_of-Elem, end_of-Elem, more_of-Elem, items-the_row-Part}
use Rattle.nc_schema.specs.Kinds.{has_value}
use Rattle.nc_schema.specs.Order.{keys_above}
use Rattle.nc_schema.specs.Tables.{Tables}
use Rattle.nc_schema.specs.declared.node.Kind.TheVariants.{Leaf}
use Rattle.nc_schema.specs.declared.node.Node.{Node}
use Rattle.nc_protocol.specs.Attributes.{is_operation, is_insertion, is_placed, operation_of_word, operation_of, is_same_operation, takes_operation, has_operation, reads_operation, reads_insertion, kind_unless, attribute_fault, attribute_cause, attributes_fault, place_of}
use Rattle.nc_protocol.specs.Elements.{Reading, Named, elem_in, named, named_part, value_in, is_dropped, is_key, step_of, steps_to, with_step}
use Rattle.nc_protocol.specs.Faults.{is_read, under_element, inside}
use Rattle.nc_protocol.specs.Payload.{merge_of, made, with_more, element_edits, part_edits, child_edits, parts_edits}
use Rattle.nc_protocol.specs.ProperEdit.{BringsThat}
use Rattle.nc_protocol.specs.declared.edit.Edit.{Edit}
use Rattle.nc_protocol.specs.declared.position.EditOperation.{EditOperation}
use Rattle.nc_protocol.specs.declared.position.EditOperation.TheVariants.{Merge, Replace, Create, Delete, Remove, Nothing}
use Rattle.nc_protocol.specs.declared.position.Position.{Position}
use Rattle.nc_protocol.specs.declared.position.Under.{Under}
use Rattle.nc_protocol.specs.declared.position.Under.TheVariants.{Edited, Rows, Inline, Dropped, BelowDropped}
use Rattle.nc_protocol.specs.declared.request.Cause.{Cause}
use Rattle.nc_protocol.proofs.Building.{IsBuilt, nothing_built, joined_built, below_built}
use Rattle.nc_protocol.proofs.ElementLemmas.{some_is_not_none, true_is_not_false, or_none, map_none, named_is, find_in, found_here, IsNew, new_behind}
use Rattle.nc_protocol.proofs.ElementPlaces.{IsPlace, IsElement, place_below, merge_is_proper}
use Rattle.nc_protocol.proofs.ListLemmas.{contains_behind, some_same}
use Rattle.nc_protocol.proofs.ProperPayload.{ok_same, with_more_ok, element_made, IsAt, IsFirst, is_element, IsReadValue, merge_brings}

-- ---- the operation of a key
-- the first attribute of a test
abbrev IsTaken : Position → Bool → Attr → Type 0
IsTaken at key attr = (operation : EditOperation) × (operation_of_word attr.value ≡ Some operation) × (takes_operation at.under key operation ≡ true)

taken_from : (at : Position) (key : Bool) (attr : Attr) (given : Bool) → kind_unless (not given && option_map_or (takes_operation at.under key) (operation_of_word attr.value) false) BadAttribute ≡ None → IsTaken at key attr
taken_from at key attr given e = by (operation_of_word attr.value) refl (and_parts (not given) _ (reads (not given && option_map_or (takes_operation at.under key) (operation_of_word attr.value) false) e)).1
  where
    reads : (b : Bool) → kind_unless b BadAttribute ≡ None → b ≡ true
    reads true e = refl
    reads false e = absurd (some_is_not_none BadAttribute e)

    by : (o : Option EditOperation) → operation_of_word attr.value ≡ o → option_map_or (takes_operation at.under key) o false ≡ true → IsTaken at key attr
    by None is e = absurd (true_is_not_false (sym e))
    by (Some operation) is e = (operation, is, e)

operation_taken : (reading : Reading) (at : Position) (it : Named) (given : Bool) (attrs : List Attr) (attr : Attr) → has_operation at.under ≡ true →
    attributes_fault reading at it given attrs ≡ None → find is_operation attrs ≡ Some attr → IsTaken at (is_key reading at it) attr
operation_taken reading at it given [] attr known none found = absurd (none-some attr found)
operation_taken reading at it given (first ∷ attrs) attr known none found =
    let faults = or_none (option_map (attribute_cause reading at it first) (attribute_fault reading at it given first)) (attributes_fault reading at it (given || is_operation first) attrs) none in
    by (is_operation first) refl (map_none (attribute_cause reading at it first) (attribute_fault reading at it given first) faults.0) found
    (operation_taken reading at it (given || is_operation first) attrs attr known faults.1)
  where
    by : (b : Bool) → is_operation first ≡ b →
        cond (is_operation first && has_operation at.under) (kind_unless (reads_operation reading at it given first) BadAttribute)
        (cond (is_insertion first && is_placed at.under it.node) (kind_unless (reads_insertion reading it first) BadAttribute) (Some UnknownAttribute)) ≡ None →
        cond b (Some first) (find is_operation attrs) ≡ Some attr → (find is_operation attrs ≡ Some attr → IsTaken at (is_key reading at it) attr) → IsTaken at (is_key reading at it) attr
    by false is fault found rest = rest found
    by true is fault found rest =
        let here : kind_unless (reads_operation reading at it given first) BadAttribute ≡ None =
        sym ((λ i. cond (is i && known i) (kind_unless (reads_operation reading at it given first) BadAttribute)
        (cond (is_insertion first && is_placed at.under it.node) (kind_unless (reads_insertion reading it first) BadAttribute) (Some UnknownAttribute)))) ∙ fault in
        subst (IsTaken at (is_key reading at it)) (some_same first attr found) (taken_from at (is_key reading at it) first given here)

same_operation_is : (a b : EditOperation) → is_same_operation a b ≡ true → a ≡ b
same_operation_is Merge Merge e = refl
same_operation_is Replace Replace e = refl
same_operation_is Create Create e = refl
same_operation_is Delete Delete e = refl
same_operation_is Remove Remove e = refl
same_operation_is Nothing b e = absurd (true_is_not_false (sym e))
same_operation_is Merge Replace e = absurd (true_is_not_false (sym e))
same_operation_is Merge Create e = absurd (true_is_not_false (sym e))
same_operation_is Merge Delete e = absurd (true_is_not_false (sym e))
same_operation_is Merge Remove e = absurd (true_is_not_false (sym e))
same_operation_is Merge Nothing e = absurd (true_is_not_false (sym e))
same_operation_is Replace Merge e = absurd (true_is_not_false (sym e))
same_operation_is Replace Create e = absurd (true_is_not_false (sym e))
same_operation_is Replace Delete e = absurd (true_is_not_false (sym e))
same_operation_is Replace Remove e = absurd (true_is_not_false (sym e))
same_operation_is Replace Nothing e = absurd (true_is_not_false (sym e))
same_operation_is Create Merge e = absurd (true_is_not_false (sym e))
same_operation_is Create Replace e = absurd (true_is_not_false (sym e))
same_operation_is Create Delete e = absurd (true_is_not_false (sym e))
same_operation_is Create Remove e = absurd (true_is_not_false (sym e))
same_operation_is Create Nothing e = absurd (true_is_not_false (sym e))
same_operation_is Delete Merge e = absurd (true_is_not_false (sym e))
same_operation_is Delete Replace e = absurd (true_is_not_false (sym e))
same_operation_is Delete Create e = absurd (true_is_not_false (sym e))
same_operation_is Delete Remove e = absurd (true_is_not_false (sym e))
same_operation_is Delete Nothing e = absurd (true_is_not_false (sym e))
same_operation_is Remove Merge e = absurd (true_is_not_false (sym e))
same_operation_is Remove Replace e = absurd (true_is_not_false (sym e))
same_operation_is Remove Create e = absurd (true_is_not_false (sym e))
same_operation_is Remove Delete e = absurd (true_is_not_false (sym e))
same_operation_is Remove Nothing e = absurd (true_is_not_false (sym e))

key_operation : (reading : Reading) (at : Position) (it : Named) (above : EditOperation) → at.under ≡ Edited above → attributes_fault reading at it false it.elem.attrs ≡ None →
    is_key reading at it ≡ true → operation_of (Edited above) it.elem.attrs ≡ above
key_operation reading at it above under none key = by (find is_operation it.elem.attrs) refl
  where
    by : (o : Option Attr) → find is_operation it.elem.attrs ≡ o → option_map_or (λ operation. operation) (option_and_then (λ attr. operation_of_word attr.value) o) above ≡ above
    by None is = refl
    by (Some attr) is =
        let taken = operation_taken reading at it false it.elem.attrs attr (ap has_operation under) none is in
        let same : is_same_operation taken.0 above ≡ true =
        (λ i. takes_operation (sym under i) (sym key i) taken.0) ∙ taken.2 in
        ap (λ o. option_map_or (λ operation. operation) o above) taken.1 ∙ same_operation_is taken.0 above same

-- below an edit that gives edits for its children the operation is one of these
abbrev pub is_calm : EditOperation → Bool
is_calm Merge = true
is_calm Nothing = true
is_calm operation = false

-- so only such an operation stands at a key
pub not_key : (reading : Reading) (at : Position) (it : Named) (above : EditOperation) → at.under ≡ Edited above → attributes_fault reading at it false it.elem.attrs ≡ None →
    ((parent : ℕ) → at.parent ≡ Some parent → is_calm above ≡ true) → is_calm (operation_of (Edited above) it.elem.attrs) ≡ false → is_key reading at it ≡ false
not_key reading at it above under none calm other = by (is_key reading at it) refl (at.parent) refl
  where
    by : (b : Bool) → is_key reading at it ≡ b → (o : Option ℕ) → at.parent ≡ o → is_key reading at it ≡ false
    by false is o parent_is = is
    by true is None parent_is = ap (λ o. list_any (λ key. key == it.number) (keys_above reading.tables o)) parent_is
    by true is (Some parent) parent_is =
        absurd (true_is_not_false (sym (calm parent parent_is) ∙ sym (ap is_calm (key_operation reading at it above under none is)) ∙ other))

-- ---- among rows
abbrev pub AreRows : Under → Type 0
AreRows (Rows above) = Unit {0}
AreRows Inline = Unit {0}
AreRows under = ⊥

pub rows_taken : (under : Under) → AreRows under → is_dropped under ≡ false
rows_taken (Edited above) are = absurd are
rows_taken (Rows above) are = refl
rows_taken Inline are = refl
rows_taken (Dropped above) are = absurd are
rows_taken BelowDropped are = absurd are

rows_below : (under : Under) (attrs : List Attr) → AreRows under → AreRows (under_element under attrs)
rows_below (Edited above) attrs are = absurd are
rows_below (Rows above) attrs are = tt
rows_below Inline attrs are = tt
rows_below (Dropped above) attrs are = absurd are
rows_below BelowDropped attrs are = absurd are

rows_read_leaf : (under : Under) (operation : EditOperation) (key : Bool) → AreRows under → is_read under operation key Leaf ≡ true
rows_read_leaf (Edited above) operation key are = absurd are
rows_read_leaf (Rows above) operation true are = refl
rows_read_leaf (Rows above) operation false are = refl
rows_read_leaf Inline operation true are = refl
rows_read_leaf Inline operation false are = refl
rows_read_leaf (Dropped above) operation key are = absurd are
rows_read_leaf BelowDropped operation key are = absurd are

rows_made : (tables : Tables) (under : Under) (operation : EditOperation) (merge : Edit) (place : Place) (below : List Edit) → AreRows under → made tables under operation merge place below ≡ merge ∷ below
rows_made tables (Edited above) operation merge place below are = absurd are
rows_made tables (Rows above) operation merge place below are = refl
rows_made tables Inline operation merge place below are = refl
rows_made tables (Dropped above) operation merge place below are = absurd are
rows_made tables BelowDropped operation merge place below are = absurd are

-- what elements among rows build, with the values that they bring
pub record Builds (reading : Reading) (above : List Step) (edits : List Edit) : Type 0 where
  pub built : IsBuilt reading.tables above edits
  pub brings : (e : Edit) → Contains edits e → BringsThat (IsReadValue reading) reading.tables e

pub brings_more : (reading : Reading) (xs ys : List Edit) → ((e : Edit) → Contains xs e → BringsThat (IsReadValue reading) reading.tables e) →
    ((e : Edit) → Contains ys e → BringsThat (IsReadValue reading) reading.tables e) → (e : Edit) → Contains (xs ++ ys) e → BringsThat (IsReadValue reading) reading.tables e
brings_more reading [] ys first rest e has = rest e has
brings_more reading (x ∷ xs) ys first rest e (zero, within, here) = subst (BringsThat (IsReadValue reading) reading.tables) here (first x (0, omega arith, refl))
brings_more reading (x ∷ xs) ys first rest e (suc k, within, here) =
    brings_more reading xs ys (λ d has. first d (contains_behind x xs d has)) rest e (k, omega (arith, within), here)

pub nothing_builds : (reading : Reading) (above : List Step) (edits : List Edit) → ◌≡◌ {A = Result (List Edit) Cause} (Ok []) (Ok edits) → Builds reading above edits
nothing_builds reading above edits e =
    subst (Builds reading above) (ok_same [] edits e) (record { built = nothing_built reading.tables above; brings = λ d has. absurd (omega (arith, has.1)) })

pub joined_builds : (reading : Reading) (above : List Step) (one more : Result (List Edit) Cause) (edits : List Edit) →
    ((first : List Edit) → one ≡ Ok first → Builds reading above first) → ((rest : List Edit) → more ≡ Ok rest → Builds reading above rest) →
    with_more one more ≡ Ok edits → Builds reading above edits
joined_builds reading above one more edits first rest e =
    let parts = with_more_ok one more edits e in
    let front = first parts.0 parts.2 in
    let back = rest parts.1 parts.3 in
    subst (Builds reading above) parts.4 (record {
      built = joined_built reading.tables above parts.0 parts.1 front.built back.built;
      brings = brings_more reading parts.0 parts.1 front.brings back.brings;
    })

-- an element with what is below it
pub merge_builds : (reading : Reading) (at : Position) (earlier : List Step) (whole : List Part) (elem : Elem) (it : Named) (below : List Edit) → IsElement reading at earlier whole elem it →
    (it.node.kind ≡ Leaf → (v : List ℕ) × (value_in reading it ≡ Some v)) → Builds reading (steps_to reading at it) below → Builds reading at.above (merge_of reading at it ∷ below)
merge_builds reading at earlier whole elem it below is leaf builds = record {
  built = below_built reading.tables at.above (step_of reading at.under it) (merge_of reading at it) (cond (has_value it.node.kind) (value_in reading it) None) below
      is.proper (merge_is_proper reading at earlier whole elem it is leaf) refl refl builds.built;
  brings = brings_more reading (merge_of reading at it ∷ []) below first builds.brings;
}
  where
    first : (e : Edit) → Contains (merge_of reading at it ∷ []) e → BringsThat (IsReadValue reading) reading.tables e
    first e (zero, within, here) = subst (BringsThat (IsReadValue reading) reading.tables) here (merge_brings reading at earlier whole elem it is)
    first e (suc k, within, here) = absurd (omega (arith, within))

-- the parts behind those so far
abbrev pub AreBehind : Reading → Option ℕ → List Part → List Step → List Part → Type 0
AreBehind reading parent whole earlier parts =
    (number : ℕ) (node : Node) → slice_get reading.tables.nodes number ≡ Some node → node.kind ≡ Leaf → IsNew earlier number → find_in reading parent whole number ≡ find_in reading parent parts number

pub first_behind : (reading : Reading) (at : Position) (whole : List Part) (earlier : List Step) (part : Part) (more : List Part) → AreBehind reading at.parent whole earlier (part ∷ more) →
    (elem : Elem) (it : Named) → named reading at.parent elem ≡ Some it → named_part reading at.parent part ≡ Some it → IsFirst reading at.parent whole earlier it
first_behind reading at whole earlier part more behind elem it named_as is leaf new =
    behind it.number it.node (named_is reading at.parent elem it named_as).node_is leaf new ∙ found_here reading at.parent part more it is

pub more_behind : (reading : Reading) (at : Position) (whole : List Part) (earlier : List Step) (part : Part) (more : List Part) → AreBehind reading at.parent whole earlier (part ∷ more) →
    AreBehind reading at.parent whole (with_step reading at earlier part) more
more_behind reading at whole earlier part more behind number node is leaf new =
    let apart = new_behind reading at earlier part more number node is leaf new in
    behind number node is leaf apart.0 ∙ apart.1

-- a child is the first of its kind where it is a leaf
abbrev pub ChildIsFirst : Reading → Option ℕ → List Part → List Step → {n : _} → Row_of-Elem n → Type 0
ChildIsFirst reading parent whole earlier child =
    (elem : Elem) (it : Named) → elem_in child ≡ Some elem → named reading parent elem ≡ Some it → IsFirst reading parent whole earlier it

element_builds : (reading : Reading) (at : Position) (earlier : List Step) (whole : List Part) (elem : Elem) (children : Position → Result (List Edit) Cause) (edits : List Edit) →
    IsAt reading at whole → AreRows at.under → ((it : Named) → named reading at.parent elem ≡ Some it → IsFirst reading at.parent whole earlier it) →
    ((within : Position) (rest : List Edit) → IsAt reading within elem.parts → AreRows within.under → children within ≡ Ok rest → Builds reading within.above rest) →
    element_edits reading at earlier elem children ≡ Ok edits → Builds reading at.above edits
element_builds reading at earlier whole elem children edits stands are first below e =
    let made = element_made reading at earlier elem children edits e in
    let is = is_element reading at earlier whole elem made.it stands made.it_is made.none (first made.it made.it_is) in
    let taken = rows_taken (under_element at.under made.it.elem.attrs) (rows_below at.under made.it.elem.attrs are) in
    let place : IsPlace reading (inside reading at made.it) elem.parts =
    subst (λ (e : Elem). IsPlace reading (inside reading at made.it) e.parts) is.named.elem_is (place_below reading at earlier whole elem made.it is taken) in
    let builds = below (inside reading at made.it) made.below (record { proper = stands.proper; place = place }) (rows_below at.under made.it.elem.attrs are) made.below_is in
    let leaf : made.it.node.kind ≡ Leaf → (v : List ℕ) × (value_in reading made.it ≡ Some v) = λ kind.
    is.sound.value (ap (is_read at.under (operation_of at.under made.it.elem.attrs) (is_key reading at made.it)) kind
    ∙ rows_read_leaf at.under (operation_of at.under made.it.elem.attrs) (is_key reading at made.it) are) in
    subst (Builds reading at.above)
    (sym (rows_made reading.tables at.under (operation_of at.under made.it.elem.attrs) (merge_of reading at made.it) (place_of reading made.it) made.below are) ∙ made.edits_are)
    (merge_builds reading at earlier whole elem made.it made.below is leaf builds)

mutual
  pub part_builds : (reading : Reading) (at : Position) (earlier : List Step) (whole : List Part) (part : Part) (more : List Part) (edits : List Edit) →
      IsAt reading at whole → AreRows at.under → AreBehind reading at.parent whole earlier (part ∷ more) → part_edits reading at earlier part ≡ Ok edits → Builds reading at.above edits
  part_builds reading at earlier whole (Chars text) more edits stands are behind e = nothing_builds reading at.above edits e
  part_builds reading at earlier whole (Child' u child) more edits stands are behind e =
      child_builds reading at earlier whole child edits stands are
      (λ elem it in_child is. first_behind reading at whole earlier (Child' u child) more behind elem it is (ap (option_and_then (named reading at.parent)) in_child ∙ is)) e

  child_builds : (reading : Reading) (at : Position) (earlier : List Step) (whole : List Part) {n : _} (child : Row_of-Elem n) (edits : List Edit) →
      IsAt reading at whole → AreRows at.under → ChildIsFirst reading at.parent whole earlier child → child_edits reading at earlier child ≡ Ok edits → Builds reading at.above edits
  child_builds reading at earlier whole end_of-Elem edits stands are first e = nothing_builds reading at.above edits e
  child_builds reading at earlier whole (more_of-Elem name bounds attrs shape parts none) edits stands are first e =
      element_builds reading at earlier whole (record { name = name; bounds = bounds; attrs = attrs; parts = items-the_row-Part _ parts }) (λ within. parts_edits reading within [] parts) edits stands are
      (λ it is. first (record { name = name; bounds = bounds; attrs = attrs; parts = items-the_row-Part _ parts }) it refl is)
      (λ within rest under rows made. parts_build reading within [] (items-the_row-Part _ parts) parts rest under rows (λ number node node_is leaf new. refl) made) e

  pub parts_build : (reading : Reading) (at : Position) (earlier : List Step) (whole : List Part) {n : _} (row : Row_of-Part n) (edits : List Edit) →
      IsAt reading at whole → AreRows at.under → AreBehind reading at.parent whole earlier (items-the_row-Part n row) → parts_edits reading at earlier row ≡ Ok edits → Builds reading at.above edits
  parts_build reading at earlier whole end_of-Part edits stands are behind e = nothing_builds reading at.above edits e
  parts_build reading at earlier whole (more_of-Part part more) edits stands are behind e =
      joined_builds reading at.above (part_edits reading at earlier part) (parts_edits reading at (with_step reading at earlier part) more) edits
      (λ first made. part_builds reading at earlier whole part (items-the_row-Part _ more) first stands are behind made)
      (λ rest made. parts_build reading at (with_step reading at earlier part) whole more rest stands are (more_behind reading at whole earlier part (items-the_row-Part _ more) behind) made)
      e
