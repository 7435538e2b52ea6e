-- What is printed for a list entry, as it is read.
use Rattle.std.proofs.Common.{◌≡◌, ◌++◌, ◌∙◌, not, cond, ℕ, true, false, List, [], ◌∷◌, Option, Some, None, refl, sym, ap, subst}
use Rattle.std.specs.Prelude.{Result, Ok, Err, is_some, option_and_then, slice_get}
use Rattle.std.specs.List.{find}
use Rattle.std.specs.Option.{option_or}
use Rattle.nc_names.specs.declared.path.Step.{Step}
use Rattle.nc_message.specs.declared.tree.Elem.{Elem}
use Rattle.nc_message.specs.declared.tree.Part.{Part, Child', Chars}
use Rattle.nc_message.specs.declared.tree.Part.TheBlock.{Row_of-Elem, end_of-Elem, more_of-Elem, items-the_row-Part}
use Rattle.nc_schema.specs.Proper.{IsProperSchema}
use Rattle.nc_schema.specs.declared.node.Kind.TheVariants.{List as ListKind}
use Rattle.nc_schema.specs.declared.node.Node.{Node}
use Rattle.nc_protocol.proofs.ElementLemmas.{or_none, same_either}
use Rattle.nc_protocol.proofs.PayloadLemmas.{child_is_element}
use Rattle.nc_protocol.specs.declared.edit.Edit.{Edit}
use Rattle.nc_protocol.specs.declared.position.Position.{Position}
use Rattle.nc_protocol.specs.declared.request.Cause.{Cause}
use Rattle.nc_protocol.specs.Elements.{Reading, Named, elem_in, first_child, has_text, is_key, key_values, named, value_in, with_key, with_step}
use Rattle.nc_protocol.specs.Faults.{element_fault, entry_fault, key_fault, keys_fault, own_fault, unknown_or}
use Rattle.nc_protocol.specs.Payload.{child_edits, element_edits, list_edits, node_edits, part_edits, parts_edits, unless_fault, with_more}
use Rattle.nc_protocol.specs.Printed.{node_part}
use Rattle.nc_print.proofs.ReadBack.{named_is}
use Rattle.nc_print.specs.Laws.{ListEntryIsReadBack, StandsFree, inline_at, merge_at, printed_elem}

-- ---- an entry whose keys have values lacks none
valued_some : (value : Option (List ℕ)) (rest : Option (List (List ℕ))) (values : List (List ℕ)) → with_key value rest ≡ Some values →
    (more : List (List ℕ)) × (rest ≡ Some more)
valued_some None None values e = absurd cc
valued_some None (Some rest) values e = absurd cc
valued_some (Some value) None values e = absurd cc
valued_some (Some value) (Some rest) values e = (rest, refl)

valued : (reading : Reading) (found : Option Named) (rest : Option (List (List ℕ))) (values : List (List ℕ)) →
    with_key (option_and_then (value_in reading) found) rest ≡ Some values →
    (is_some found ≡ true) × ((more : List (List ℕ)) × (rest ≡ Some more))
valued reading None None values e = absurd cc
valued reading None (Some rest) values e = absurd cc
valued reading (Some child) rest values e = (refl, valued_some (value_in reading child) rest values e)

keys_present : (reading : Reading) (it : Named) (keys : List ℕ) (values : List (List ℕ)) → key_values reading it keys ≡ Some values →
    find (λ key. not (is_some (first_child reading it key))) keys ≡ None
keys_present reading it [] values e = refl
keys_present reading it (key ∷ keys) values e =
    let first = valued reading (first_child reading it key) (key_values reading it keys) values e in
    ap (λ b. cond (not b) (Some key) (find (λ k. not (is_some (first_child reading it k))) keys)) first.0
    ∙ keys_present reading it keys first.1.0 first.1.1

-- ---- elements that are read have no fault, and so their keys have none
with_more_ok : (one more : Result (List Edit) Cause) (edits : List Edit) → with_more one more ≡ Ok edits →
    ((a : List Edit) × (one ≡ Ok a)) × ((b : List Edit) × (more ≡ Ok b))
with_more_ok (Err cause) more edits e = absurd cc
with_more_ok (Ok a) (Err cause) edits e = absurd cc
with_more_ok (Ok a) (Ok b) edits e = ((a, refl), (b, refl))

unless_none : (fault : Option Cause) (more : Result (List Edit) Cause) (edits : List Edit) → unless_fault fault more ≡ Ok edits → fault ≡ None
unless_none None more edits e = refl
unless_none (Some cause) more edits e = absurd cc

abbrev fault_of : Reading → Position → List Step → Option Named → Option Cause
fault_of reading at earlier found =
    option_and_then (λ child. cond (is_key reading at child) (element_fault reading at earlier child) None) found

element_none : (reading : Reading) (at : Position) (earlier : List Step) (elem : Elem) (children : Position → Result (List Edit) Cause) (edits : List Edit) →
    element_edits reading at earlier elem children ≡ Ok edits → fault_of reading at earlier (named reading at.parent elem) ≡ None
element_none reading at earlier elem children edits e = by (named reading at.parent elem) refl
  where
    by : (found : Option Named) → named reading at.parent elem ≡ found → fault_of reading at earlier found ≡ None
    by None is = refl
    by (Some it) is =
        let given : unless_fault (own_fault reading at earlier it) (node_edits reading at (Some it) children) ≡ Ok edits =
        subst (λ (found : Option Named). unless_fault (unknown_or reading at earlier elem found) (node_edits reading at found children) ≡ Ok edits) is e in
        let own : own_fault reading at earlier it ≡ None = unless_none (own_fault reading at earlier it) (node_edits reading at (Some it) children) edits given in
        let none = or_none (element_fault reading at earlier it) (entry_fault reading at it) own in
        ap (λ fault. cond (is_key reading at it) fault None) none.0 ∙ same_either (is_key reading at it) None

child_none : (reading : Reading) (at : Position) (earlier : List Step) {n : _} (child : Row_of-Elem n) (edits : List Edit) →
    child_edits reading at earlier child ≡ Ok edits → fault_of reading at earlier (option_and_then (named reading at.parent) (elem_in child)) ≡ None
child_none reading at earlier end_of-Elem edits e = refl
child_none reading at earlier (more_of-Elem name bounds attrs shape parts none) edits e =
    element_none reading at earlier (record { name = name; bounds = bounds; attrs = attrs; parts = items-the_row-Part _ parts })
    (λ within. parts_edits reading within [] parts) edits e

part_none : (reading : Reading) (at : Position) (earlier : List Step) (part : Part) (edits : List Edit) →
    part_edits reading at earlier part ≡ Ok edits → key_fault reading at earlier part ≡ None
part_none reading at earlier (Chars text) edits e = refl
part_none reading at earlier (Child' u child) edits e = child_none reading at earlier child edits e

keys_sound : (reading : Reading) (at : Position) (earlier : List Step) (parts : List Part) (edits : List Edit) →
    list_edits reading at earlier parts ≡ Ok edits → keys_fault reading at earlier parts ≡ None
keys_sound reading at earlier [] edits e = refl
keys_sound reading at earlier (part ∷ more) edits e =
    let each = with_more_ok (part_edits reading at earlier part) (list_edits reading at (with_step reading at earlier part) more) edits e in
    ap (λ fault. option_or fault (keys_fault reading at (with_step reading at earlier part) more)) (part_none reading at earlier part each.0.0 each.0.1)
    ∙ keys_sound reading at (with_step reading at earlier part) more each.1.0 each.1.1

-- ---- the entry
list_edits_of : (reading : Reading) (above earlier : List Step) (number : ℕ) (node : Node) (parts : List Part) (values : List (List ℕ)) (edits : List Edit) →
    let entry : Node = record node { kind = ListKind } in
    let step : Step = record { node = number; keys = values } in
    let it : Named = record { number = number; node = entry; elem = record { name = node.name; bounds = []; attrs = []; parts = parts } } in
    named reading node.parent it.elem ≡ Some it → has_text parts ≡ false → key_values reading it node.keys ≡ Some values →
    StandsFree reading.tables earlier entry step → list_edits reading (inline_at (above ++ step ∷ []) (Some number)) [] parts ≡ Ok edits →
    find (λ key. not (is_some (first_child reading it key))) node.keys ≡ None →
    keys_fault reading (inline_at (above ++ step ∷ []) (Some number)) [] parts ≡ None →
    element_edits reading (inline_at above node.parent) earlier it.elem (λ within. list_edits reading within [] parts)
    ≡ Ok (merge_at above step None ∷ edits)
list_edits_of reading above earlier number node parts values edits named_as content keyed free below present sound =
    simp (named_as, content, keyed, free, present, sound, below)

entry_at : (reading : Reading) (above earlier : List Step) (number : ℕ) (node : Node) (values : List (List ℕ)) (below : List Part) (edits : List Edit) →
    let entry : Node = record node { kind = ListKind } in
    let step : Step = record { node = number; keys = values } in
    let it : Named = record { number = number; node = entry; elem = printed_elem reading.tables number None below entry } in
    IsProperSchema reading.tables → slice_get reading.tables.nodes number ≡ Some entry → has_text below ≡ false →
    key_values reading it node.keys ≡ Some values → list_edits reading (inline_at (above ++ step ∷ []) (Some number)) [] below ≡ Ok edits →
    StandsFree reading.tables earlier entry step →
    part_edits reading (inline_at above node.parent) earlier (node_part reading.tables number None below entry)
    ≡ Ok (merge_at above step None ∷ edits)
entry_at reading above earlier number node values below edits proper at content keyed inner free =
    let entry : Node = record node { kind = ListKind } in
    let step : Step = record { node = number; keys = values } in
    let elem : Elem = printed_elem reading.tables number None below entry in
    let it : Named = record { number = number; node = entry; elem = elem } in
    child_is_element reading (inline_at above node.parent) earlier elem
    ∙ list_edits_of reading above earlier number node below values edits (named_is reading number entry elem proper at refl) content keyed free inner
    (keys_present reading it node.keys values keyed) (keys_sound reading (inline_at (above ++ step ∷ []) (Some number)) [] below edits inner)

pub list_entry_is_read_back : ListEntryIsReadBack
list_entry_is_read_back reading above earlier number node values below edits proper at list content keyed inner free =
    let same : record node { kind = ListKind } ≡ node = ap (λ kind. record node { kind = kind }) (sym list) in
    let step : Step = record { node = number; keys = values } in
    subst (λ (n : Node). part_edits reading (inline_at above node.parent) earlier (node_part reading.tables number None below n)
    ≡ Ok (merge_at above step None ∷ edits)) same
    (entry_at reading above earlier number node values below edits proper (at ∙ ap Some (sym same)) content
    (subst (λ (n : Node). key_values reading (record { number = number; node = n; elem = printed_elem reading.tables number None below n }) node.keys
    ≡ Some values) (sym same) keyed) inner
    (subst (λ (n : Node). StandsFree reading.tables earlier n step) (sym same) free))
