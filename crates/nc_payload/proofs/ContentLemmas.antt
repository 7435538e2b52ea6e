-- What an element says of its data node.
use Rattle.std.proofs.Common.{◌≡◌, ◌++◌, ◌&&◌, ℕ, Bool, false, not, List, [], ◌∷◌, Option, Some, None, length, refl, sym, ap, ◌∙◌, arith}
use Rattle.std.proofs.lemmas.List.{append-nil, nil_from_length}
use Rattle.std.specs.Option.{option_or}
use Rattle.std.specs.Prelude.{if◌then◌else◌, is_some}
use Rattle.nc_names.specs.declared.cause.CauseKind.TheVariants.{BadValue}
use Rattle.nc_names.specs.declared.path.Step.{Step}
use Rattle.nc_message.specs.declared.tree.Part.{Part, Chars}
use Rattle.nc_schema.specs.Kinds.{has_value}
use Rattle.nc_schema.specs.declared.node.Kind.{Kind}
use Rattle.nc_schema.specs.declared.node.Kind.TheVariants.{Container, Leaf, LeafList, List as ListKind}
use Rattle.nc_protocol.specs.Attributes.{attributes_fault, cause_in, operation_of}
use Rattle.nc_protocol.specs.Edited.{cause_where}
use Rattle.nc_protocol.specs.Elements.{Reading, Named, has_child, is_key, steps_to, value_in, whole_text}
use Rattle.nc_protocol.specs.Faults.{element_fault, inside, is_read, shape_fault}
use Rattle.nc_protocol.specs.declared.position.EditOperation.{EditOperation}
use Rattle.nc_protocol.specs.declared.position.Position.{Position}
use Rattle.nc_protocol.specs.declared.position.Under.{Under}
use Rattle.nc_payload.specs.declared.content.Content.{Content}
use Rattle.nc_payload.specs.inner.Reads.{IsText, content_of, element_by, within_of}

-- a value that is read is that of a node with one
read_of_value : (under : Under) (operation : EditOperation) (key : Bool) (kind : Kind) (value : Option (List ℕ)) →
    (is_read under operation key kind && not (is_some (if has_value kind then value else None))) ≡ (is_read under operation key kind && not (is_some value))
read_of_value under operation key (Container presence) value = refl
read_of_value under operation key Leaf value = refl
read_of_value under operation key LeafList value = refl
read_of_value under operation key ListKind value = refl

-- what an element says tells its fault
pub element_is : (reading : Reading) (at : Position) (earlier : List Step) (named : Named) →
    element_by reading at earlier (content_of reading at.under named) named ≡ element_fault reading at earlier named
element_is reading at earlier named =
    ap (λ (lacks : Bool). option_or (shape_fault reading at earlier named)
    (option_or (attributes_fault reading at named false named.elem.attrs) (cause_where lacks (cause_in BadValue (steps_to reading at named) []))))
    (read_of_value at.under (operation_of at.under named.elem.attrs) (is_key reading at named) named.node.kind (value_in reading named))

-- where its children stand
pub within_is : (reading : Reading) (at : Position) (named : Named) (content : Content) (within : Position) → content ≡ content_of reading at.under named → within ≡ within_of at content named →
    within ≡ inside reading at named
within_is reading at named content within is there = there ∙ ap (λ (it : Content). within_of at it named) is

-- the one part of an element is its text
pub only_text_is : (parts : List Part) (first : Part) (rest : List Part) (text : List ℕ) → length parts ≡ 1 → parts ≡ first ∷ rest → first ≡ Chars text → IsText parts text
only_text_is parts first rest text one are is =
    let short : length rest ≡ 0 = omega (arith, ap length are) in
    let none : rest ≡ [] = nil_from_length rest short in
    let whole : parts ≡ Chars text ∷ [] = are ∙ (λ i. is i ∷ none i) in
    (ap has_child whole, sym (append-nil text) ∙ sym (ap whole_text whole))
