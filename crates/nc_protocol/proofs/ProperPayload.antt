-- The edits of a payload fit the schema and bring values that were read, and the rows of an inline configuration are
-- a data tree.
use Rattle.std.proofs.Common.{◌≡◌, ℕ, Bool, true, false, cond, not, List, [], ◌∷◌, ◌++◌, Option, Some, None, refl, sym, ap, subst, ◌∙◌, arith}
use Rattle.std.specs.List.{All, Contains, filter_map, find, fold}
use Rattle.std.specs.Prelude.{IfSome, Result, Ok, Err, option_and_then}
use Rattle.std.proofs.lemmas.Bool.{eqb-true}
use Rattle.std.proofs.lemmas.List.Elements.{All-nil}
use Rattle.std.proofs.lemmas.Option.{none-some}
use Rattle.nc_names.specs.declared.name.Bound.{Bound}
use Rattle.nc_names.specs.declared.path.Path.{Path}
use Rattle.nc_names.specs.declared.path.Row.{Row}
use Rattle.nc_names.specs.declared.path.Step.{Step}
use Rattle.nc_message.specs.declared.tree.Elem.{Elem}
use Rattle.nc_message.specs.declared.tree.Part.{Part}
use Rattle.nc_schema.specs.Blocks.{own_rows}
use Rattle.nc_schema.specs.Configuration.{HasValueThat, key_rows}
use Rattle.nc_schema.specs.Kinds.{has_value}
use Rattle.nc_schema.proofs.ProperLemmas.{HasProperNodes}
use Rattle.nc_schema.specs.Tables.{Tables}
use Rattle.nc_schema.specs.declared.node.Kind.{Kind}
use Rattle.nc_schema.specs.declared.node.Kind.TheVariants.{Container, Leaf, LeafList, List as ListKind}
use Rattle.nc_protocol.specs.Attributes.{operation_of}
use Rattle.nc_protocol.specs.Edited.{left_by, new_block, place_by}
use Rattle.nc_protocol.specs.Elements.{Reading, Named, has_child, whole_text, named, named_part, value_in, first_child, with_key, key_values, is_dropped, is_key, step_of, steps_to}
use Rattle.nc_protocol.specs.Faults.{is_read, inside, element_fault, entry_fault, own_fault, unknown_or}
use Rattle.nc_protocol.specs.Payload.{merge_of, made_of, with_more, if_read, unless_fault, node_edits, element_edits}
use Rattle.nc_protocol.specs.ProperEdit.{rows_brought, BringsThat}
use Rattle.nc_protocol.specs.declared.edit.Edit.{Edit}
use Rattle.nc_protocol.specs.declared.position.EditOperation.{EditOperation}
use Rattle.nc_protocol.specs.declared.position.Position.{Position}
use Rattle.nc_protocol.specs.declared.position.Under.{Under}
use Rattle.nc_protocol.specs.declared.request.Cause.{Cause}
use Rattle.nc_protocol.proofs.CanonicalLemmas.{of_block, of_left}
use Rattle.nc_protocol.proofs.ElementLemmas.{some_is_not_none, or_none, named_is, element_sound, find_in, IsNew}
use Rattle.nc_protocol.proofs.ElementPlaces.{IsPlace, IsElement, read_keys, list_keys}
use Rattle.nc_protocol.proofs.ListLemmas.{all_cons, all_one, contains_behind, last_same, some_same}
use Rattle.nc_protocol.proofs.SubtreeLemmas.{own_rows_are}

-- ---- results
pub ok_same : {X : Type 0} (xs ys : X) → ◌≡◌ {A = Result X Cause} (Ok xs) (Ok ys) → xs ≡ ys
ok_same xs ys e = cc

pub err_is_not_ok : {X : Type 0} (cause : Cause) (xs : X) → ¬ (◌≡◌ {A = Result X Cause} (Err cause) (Ok xs))
err_is_not_ok cause xs e = cc

pub with_more_ok : (one more : Result (List Edit) Cause) (edits : List Edit) → with_more one more ≡ Ok edits →
    (first : List Edit) × (rest : List Edit) × (one ≡ Ok first) × (more ≡ Ok rest) × (first ++ rest ≡ edits)
with_more_ok (Err cause) more edits e = absurd (err_is_not_ok cause edits e)
with_more_ok (Ok first) (Err cause) edits e = absurd (err_is_not_ok cause edits e)
with_more_ok (Ok first) (Ok rest) edits e = (first, rest, refl, refl, ok_same (first ++ rest) edits e)

pub if_read_ok : {X Y : Type 0} (f : X → Y) (r : Result X Cause) (y : Y) → if_read f r ≡ Ok y → (x : X) × (r ≡ Ok x) × (f x ≡ y)
if_read_ok f (Ok x) y e = (x, refl, ok_same (f x) y e)
if_read_ok f (Err cause) y e = absurd (err_is_not_ok cause y e)

unless_fault_ok : (fault : Option Cause) (result : Result (List Edit) Cause) (edits : List Edit) → unless_fault fault result ≡ Ok edits → (fault ≡ None) × (result ≡ Ok edits)
unless_fault_ok None result edits e = (refl, e)
unless_fault_ok (Some cause) result edits e = absurd (err_is_not_ok cause edits e)

-- ---- an element that has edits
pub record IsMade (reading : Reading) (at : Position) (earlier : List Step) (elem : Elem) (children : Position → Result (List Edit) Cause) (edits : List Edit) : Type 0 where
  pub it : Named
  pub it_is : named reading at.parent elem ≡ Some it
  pub none : own_fault reading at earlier it ≡ None
  pub below : List Edit
  pub below_is : children (inside reading at it) ≡ Ok below
  pub edits_are : made_of reading at it below ≡ edits

pub element_made : (reading : Reading) (at : Position) (earlier : List Step) (elem : Elem) (children : Position → Result (List Edit) Cause) (edits : List Edit) →
    element_edits reading at earlier elem children ≡ Ok edits → IsMade reading at earlier elem children edits
element_made reading at earlier elem children edits e = by (named reading at.parent elem) refl e
  where
    by : (o : Option Named) → named reading at.parent elem ≡ o → unless_fault (unknown_or reading at earlier elem o) (node_edits reading at o children) ≡ Ok edits → IsMade reading at earlier elem children edits
    by None is e = absurd (some_is_not_none _ (unless_fault_ok _ (Ok []) edits e).0)
    by (Some it) is e =
        let parts = unless_fault_ok (own_fault reading at earlier it) (if_read (made_of reading at it) (children (inside reading at it))) edits e in
        let below = if_read_ok (made_of reading at it) (children (inside reading at it)) edits parts.1 in
        record { it = it; it_is = is; none = parts.0; below = below.0; below_is = below.1; edits_are = below.2 }

-- its text is read where its node is a leaf-list, or a leaf that needs it
read_entry : (under : Under) (operation : EditOperation) (key : Bool) → is_dropped under ≡ false → is_read under operation key LeafList ≡ true
read_entry under operation key taken = ap not taken

-- what is to be known where it stands
pub record IsAt (reading : Reading) (at : Position) (whole : List Part) : Type 0 where
  pub proper : HasProperNodes reading.tables
  pub place : IsPlace reading at whole

abbrev pub IsFirst : Reading → Option ℕ → List Part → List Step → Named → Type 0
IsFirst reading parent whole earlier it = it.node.kind ≡ Leaf → IsNew earlier it.number → find_in reading parent whole it.number ≡ Some it

pub is_element : (reading : Reading) (at : Position) (earlier : List Step) (whole : List Part) (elem : Elem) (it : Named) → IsAt reading at whole → named reading at.parent elem ≡ Some it →
    own_fault reading at earlier it ≡ None → IsFirst reading at.parent whole earlier it → IsElement reading at earlier whole elem it
is_element reading at earlier whole elem it stands it_is none first =
    let faults = or_none (element_fault reading at earlier it) (entry_fault reading at it) none in
    let sound = element_sound reading at earlier it faults.0 in
    record {
      proper = stands.proper;
      place = stands.place;
      named = named_is reading at.parent elem it it_is;
      sound = sound;
      entry = faults.1;
      valued = λ kind. sound.value (ap (is_read at.under (operation_of at.under it.elem.attrs) (is_key reading at it)) kind ∙ read_entry at.under (operation_of at.under it.elem.attrs) (is_key reading at it) stands.place.taken);
      first = first;
    }

-- ---- the values that it brings
-- the text is read from some text of the payload
abbrev pub IsReadValue : Reading → ℕ → List ℕ → Type 0
IsReadValue reading number value = (text : List ℕ) × (bounds : List Bound) × (reading.value number text bounds ≡ Some value)

value_is_read : (reading : Reading) (it : Named) (v : List ℕ) → value_in reading it ≡ Some v → IsReadValue reading it.number v
value_is_read reading it v e = by (has_child it.elem.parts) e
  where
    by : (b : Bool) → cond b None (reading.value it.number (whole_text it.elem.parts) it.elem.bounds) ≡ Some v → IsReadValue reading it.number v
    by true e = absurd (none-some v e)
    by false e = (whole_text it.elem.parts, it.elem.bounds, e)

child_number_is : (reading : Reading) (entry : Named) (number : ℕ) (child : Named) → first_child reading entry number ≡ Some child → child.number ≡ number
child_number_is reading entry number child found = eqb-true child.number number (passes _ (filter_map (named_part reading (Some entry.number)) entry.elem.parts) child found)
  where
    passes : (p : Named → Bool) (xs : List Named) (x : Named) → find p xs ≡ Some x → p x ≡ true
    passes p [] x e = absurd (none-some x e)
    passes p (y ∷ ys) x e = by (p y) refl e (passes p ys x)
      where
        by : (b : Bool) → p y ≡ b → cond b (Some y) (find p ys) ≡ Some x → (find p ys ≡ Some x → p x ≡ true) → p x ≡ true
        by true is e rest = ap p (sym (some_same y x e)) ∙ is
        by false is e rest = rest e

module _ (reading : Reading) where
  abbrev pub Has : Row → Type 0
  Has = HasValueThat (IsReadValue reading) reading.tables

  no_value : (path : Path) → Has (record { path = path; value = None })
  no_value path above step node leads = tt

  keys_have : (it : Named) (entry : List Step) (keys : List ℕ) (values : List (List ℕ)) → key_values reading it keys ≡ Some values → All Has (key_rows entry keys values)
  keys_have it entry [] values e = All-nil Has
  keys_have it entry (key ∷ keys) values e = by (first_child reading it key) refl (key_values reading it keys) refl e (λ rest is. keys_have it entry keys rest is)
    where
      by : (o : Option Named) → first_child reading it key ≡ o → (more : Option (List (List ℕ))) → key_values reading it keys ≡ more →
          with_key (option_and_then (value_in reading) o) more ≡ Some values → ((rest : List (List ℕ)) → key_values reading it keys ≡ Some rest → All Has (key_rows entry keys rest)) → All Has (key_rows entry (key ∷ keys) values)
      by None is None more_is e rest = absurd (none-some values e)
      by None is (Some more) more_is e rest = absurd (none-some values e)
      by (Some child) is more more_is e rest = go (value_in reading child) refl more more_is e
        where
          go : (v : Option (List ℕ)) → value_in reading child ≡ v → (more : Option (List (List ℕ))) → key_values reading it keys ≡ more → with_key v more ≡ Some values → All Has (key_rows entry (key ∷ keys) values)
          go None v_is None more_is e = absurd (none-some values e)
          go None v_is (Some more) more_is e = absurd (none-some values e)
          go (Some v) v_is None more_is e = absurd (none-some values e)
          go (Some v) v_is (Some more) more_is e =
              let row : Row = record { path = record { steps = entry ++ record { node = key; keys = [] } ∷ [] }; value = Some v } in
              let own : Has row = λ above step node leads.
              subst (λ n. IsReadValue reading n v) (child_number_is reading it key child is ∙ (λ i. (last_same entry above (record { node = key; keys = [] }) step leads.path i).node)) (value_is_read reading child v v_is) in
              subst (λ vs. All Has (key_rows entry (key ∷ keys) vs)) (some_same (v ∷ more) values e)
              (all_cons Has row (key_rows entry keys more) own (rest more more_is))

  module _ (at : Position) (earlier : List Step) (whole : List Part) (elem : Elem) (it : Named) (is : IsElement reading at earlier whole elem it) where
    abbrev path : Path
    path = record { steps = steps_to reading at it }

    abbrev value : Option (List ℕ)
    value = cond (has_value it.node.kind) (value_in reading it) None

    own_has : it.node.kind ≡ it.node.kind → has_value it.node.kind ≡ true → Has (record { path = path; value = value })
    own_has e valued above step node leads = by (value_in reading it) refl
      where
        same : step_of reading at.under it ≡ step
        same = last_same at.above above (step_of reading at.under it) step leads.path

        by : (o : Option (List ℕ)) → value_in reading it ≡ o → IfSome value (IsReadValue reading step.node)
        by None e = subst (λ (o : Option (List ℕ)). IfSome o (IsReadValue reading step.node)) (sym (ap (λ b. cond b (value_in reading it) None) valued ∙ e)) tt
        by (Some v) e =
            subst (λ (o : Option (List ℕ)). IfSome o (IsReadValue reading step.node)) (sym (ap (λ b. cond b (value_in reading it) None) valued ∙ e))
            (subst (λ n. IsReadValue reading n v) (λ i. (same i).node) (value_is_read reading it v e))

    pub merge_brings : BringsThat (IsReadValue reading) reading.tables (merge_of reading at it)
    merge_brings =
        subst (All Has) (sym (own_rows_are reading.tables path value at.above (step_of reading at.under it) it.node refl is.named.node_is)) (by it.node.kind refl)
      where
        by : (kind : Kind) → it.node.kind ≡ kind → All Has (own_rows kind it.node.keys path (step_of reading at.under it).keys value)
        by (Container true) e = all_one Has (record { path = path; value = None }) (no_value path)
        by (Container false) e = All-nil Has
        by Leaf e = all_one Has (record { path = path; value = value }) (own_has refl (ap has_value e))
        by LeafList e = all_one Has (record { path = path; value = value }) (own_has refl (ap has_value e))
        by ListKind e =
            let read = read_keys reading at earlier whole elem it is e in
            all_cons Has (record { path = path; value = None }) (key_rows (steps_to reading at it) it.node.keys (step_of reading at.under it).keys) (no_value path)
            (keys_have it (steps_to reading at it) it.node.keys (step_of reading at.under it).keys (read.1 ∙ ap (λ ks. Some ks) (sym (list_keys reading at earlier whole elem it is read.0 e read.1))))

-- the rows that merges leave have the values that they bring
pub merged_have : (P : Row → Type 0) (tables : Tables) (rows : List Row) (edits : List Edit) → All P rows → ((e : Edit) → Contains edits e → All P (rows_brought tables e.path e.action)) → All P (fold (left_by tables) rows edits)
merged_have P tables rows [] each brings = each
merged_have P tables rows (edit ∷ edits) each brings =
    merged_have P tables (left_by tables rows edit) edits
    (of_left P tables rows edit.path each (place_by edit.action edit.place) (new_block tables rows edit.path edit.action) (of_block P tables rows edit.path each edit.action (brings edit (0, omega arith, refl))))
    (λ e has. brings e (contains_behind edit edits e has))
