-- How the reading of a payload is answered.
use Rattle.std.specs.Prelude.{◌≡◌, ◌&&◌, ◌||◌, ℕ, false, not, if◌then◌else◌, ◌++◌, ◌∷◌, [], List, Option, Some, None, is_some, option_and_then, option_map, option_to_list, Result, Ok, Err}
use Rattle.std.specs.List.{list_any}
use Rattle.std.specs.Option.{option_or}
use Rattle.nc_names.specs.declared.path.Path.{Path}
use Rattle.nc_names.specs.declared.path.Place.{Place}
use Rattle.nc_names.specs.declared.path.Place.TheVariants.{Kept}
use Rattle.nc_names.specs.declared.path.Step.{Step}
use Rattle.nc_message.specs.declared.tree.Elem.{Elem}
use Rattle.nc_message.specs.declared.tree.Part.{Part}
use Rattle.nc_names.specs.declared.cause.CauseKind.TheVariants.{BadElement, BadValue}
use Rattle.nc_schema.specs.Kinds.{has_value}
use Rattle.nc_protocol.specs.declared.edit.Action.{Action}
use Rattle.nc_protocol.specs.declared.edit.Action.TheVariants.{Merge}
use Rattle.nc_protocol.specs.declared.edit.Edit.{Edit}
use Rattle.nc_protocol.specs.declared.request.Cause.{Cause}
use Rattle.nc_payload.specs.declared.payload.PayloadFault.{PayloadFault}
use Rattle.nc_payload.specs.declared.payload.Read.{Read}
use Rattle.nc_payload.specs.declared.payload.PayloadFault.TheVariants.{Bad, Memory}
use Rattle.nc_payload.specs.declared.content.Content.{Content}
use Rattle.nc_payload.specs.declared.own.Found.{Found}
use Rattle.nc_protocol.specs.declared.position.Position.{Position}
use Rattle.nc_protocol.specs.declared.position.Under.{Under}
use Rattle.nc_protocol.specs.Attributes.{attributes_fault, cause_in, operation_of, place_of}
use Rattle.nc_protocol.specs.Edited.{cause_where}
use Rattle.nc_payload.specs.declared.elements.Named.{Named as Seen}
use Rattle.nc_protocol.specs.Elements.{Reading, Named, has_child, is_key, named, step_of, steps_to, value_in, whole_text}
use Rattle.nc_protocol.specs.Faults.{clashes, element_fault, has_bad_content, inside, is_read, own_fault, under_element, unknown_or}

-- what a definition gives is answered, edits or a fault; want of memory is free
abbrev pub Answers : {A : Type 0} → Result A Cause → Result A PayloadFault → Type 0
Answers (Ok it) (Ok answered) = answered ≡ it
Answers (Err cause) (Ok answered) = ⊥
Answers defined (Err (Bad cause)) = defined ≡ Err cause
Answers defined (Err Memory) = Unit {0}

-- the edits of an element, and the step to its node, if it names one
abbrev pub ReadsAs : Result (List Edit) Cause → Option Step → Result Read PayloadFault → Type 0
ReadsAs edits step (Ok read) = Answers edits (Ok read.edits) × (read.step ≡ step)
ReadsAs edits step (Err fault) = Answers edits (Err fault)

-- an element has this text and no child element
abbrev pub IsText : List Part → List ℕ → Type 0
IsText parts text = (has_child parts ≡ false) × (text ≡ whole_text parts)

-- what an element says of its data node
abbrev pub content_of : Reading → Under → Named → Content
content_of reading under named = record {
  step = step_of reading under named;
  value = if has_value named.node.kind then value_in reading named else None;
}

-- the fault of an element's shape, by the step to its node
abbrev pub shape_by : Reading → Position → List Step → Step → Named → Option Cause
shape_by reading at earlier step named =
    cause_where (has_bad_content named.node.kind named.elem.parts
    || list_any (clashes reading.tables at.under named.node step) earlier)
    (cause_in BadElement at.above (named.elem.name.name ∷ []))

-- the fault of its value, by the value that it says
abbrev pub value_by : Reading → Position → Option (List ℕ) → Named → Option Cause
value_by reading at value named =
    cause_where (is_read at.under (operation_of at.under named.elem.attrs) (is_key reading at named) named.node.kind
    && not (is_some value))
    (cause_in BadValue (steps_to reading at named) [])

-- the first fault of an element without those of its keys, by what it says
abbrev pub element_by : Reading → Position → List Step → Content → Named → Option Cause
element_by reading at earlier content named =
    option_or (shape_by reading at earlier content.step named)
    (option_or (attributes_fault reading at named false named.elem.attrs) (value_by reading at content.value named))

-- where the children of an element stand, by what it says
abbrev pub within_of : Position → Content → Named → Position
within_of at content named = record {
  above = at.above ++ content.step ∷ [];
  parent = Some named.number;
  under = under_element at.under named.elem.attrs;
}

-- the fault of a child of an entry, where it is a key
abbrev pub child_fault : Reading → Position → List Step → Option Named → Option Cause
child_fault reading at earlier child =
    option_and_then (λ it. if is_key reading at it then element_fault reading at earlier it else None) child

-- the steps so far, with that to a child, if there is one
abbrev pub with_child : Reading → Position → List Step → Option Named → List Step
with_child reading at earlier child = earlier ++ option_to_list (option_map (step_of reading at.under) child)

-- what there is to find of an element
pub record IsOf (reading : Reading) (at : Position) (named : Named) (found : Found) : Type 0 where
  pub content : found.content ≡ content_of reading at.under named
  pub within : found.within ≡ inside reading at named
  pub operation : found.operation ≡ operation_of at.under named.elem.attrs
  pub place : found.place ≡ place_of reading named

-- what is found of an element without a fault of its own
pub record IsFound (reading : Reading) (at : Position) (earlier : List Step) (named : Named)
    (found : Found) : Type 0 where
  pub has_no_fault : own_fault reading at earlier named ≡ None
  pub is : IsOf reading at named found

-- an element that names a data node there: what is found of it, or its own fault
abbrev pub OwnsNamed : Reading → Position → List Step → Named → Result Found PayloadFault → Type 0
OwnsNamed reading at earlier named (Ok found) = IsFound reading at earlier named found
OwnsNamed reading at earlier named (Err (Bad cause)) = own_fault reading at earlier named ≡ Some cause
OwnsNamed reading at earlier named (Err Memory) = Unit {0}

-- an element that is no data node there, or has a fault of its own
abbrev pub Owns : Reading → Position → List Step → Elem → Result Found PayloadFault → Type 0
Owns reading at earlier elem (Ok found) =
    (it : Named) × (named reading at.parent elem ≡ Some it) × IsFound reading at earlier it found
Owns reading at earlier elem (Err (Bad cause)) =
    unknown_or reading at earlier elem (named reading at.parent elem) ≡ Some cause
Owns reading at earlier elem (Err Memory) = Unit {0}

-- what the code's reference to an element and its node means
abbrev pub meaning : Seen → Named
meaning seen = record { number = seen.number; node = seen.node.now; elem = seen.elem.now }

-- an edit by its parts
abbrev pub edit_at : Path → Action → Place → Edit
edit_at path action place = record { path = path; action = action; place = place }

-- the merge of a node
abbrev pub merge_at : List Step → Option (List ℕ) → Edit
merge_at steps value = edit_at (record { steps = steps }) (Merge value) Kept
