-- The recursion over elements and parts.
use Rattle.std.proofs.Common.{◌≡◌, ◌+◌, ◌<◌, ℕ, List, [], ◌∷◌, ◌++◌, Option, Some, length, drop, get_or, drop-cons, suc, arith, ap, ◌∙◌, refl, sym, subst}
use Rattle.std.proofs.lemmas.List.{append_assoc}
use Rattle.std.specs.Prelude.{option_and_then, option_map, option_to_list, Result, Ok, Err}
use Rattle.nc_message.specs.declared.tree.Elem.{Elem}
use Rattle.nc_message.specs.declared.tree.Part.{Part}
use Rattle.nc_message.specs.declared.tree.Part.TheVariants.{Child}
use Rattle.nc_names.specs.declared.path.Step.{Step}
use Rattle.nc_protocol.specs.declared.edit.Edit.{Edit}
use Rattle.nc_protocol.specs.declared.request.Cause.{Cause}
use Rattle.nc_protocol.specs.declared.position.Position.{Position}
use Rattle.nc_payload.specs.declared.content.Content.{Content}
use Rattle.nc_payload.specs.declared.own.Found.{Found}
use Rattle.nc_payload.specs.declared.payload.PayloadFault.{PayloadFault}
use Rattle.nc_payload.specs.declared.payload.PayloadFault.TheVariants.{Bad, Memory}
use Rattle.nc_payload.specs.declared.payload.Read.{Read}
use Rattle.nc_protocol.proofs.PayloadLemmas.{child_is_element}
use Rattle.nc_protocol.specs.Payload.{part_edits, list_edits, elem_edits, made, made_of, with_more}
use Rattle.nc_protocol.specs.Faults.{inside}
use Rattle.nc_payload.specs.inner.Reads.{Answers, Owns, ReadsAs, content_of, merge_at}
use Rattle.nc_payload.proofs.Naming.{elem_is}
use Rattle.nc_protocol.specs.Elements.{Reading, named, named_part, step_of, with_step}

pub answers_ok : {A : Type 0} (defined : Result A Cause) (it : A) → Answers defined (Ok it) → defined ≡ Ok it
answers_ok (Ok other) it same = ap (λ x. Ok x) (sym same)
answers_ok (Err cause) it none = absurd none

pub answers_is : {A : Type 0} (defined : Result A Cause) (it : A) → defined ≡ Ok it → Answers defined (Ok it)
answers_is defined it same = rw same refl

-- an element among whose children there is a fault
pub elem_below : (reading : Reading) (at : Position) (earlier : List Step) (e : Elem) (found : Found) (fault : PayloadFault) →
    Owns reading at earlier e (Ok found) → Answers (list_edits reading found.within [] e.parts) (Err fault) → Answers (elem_edits reading at earlier e) (Err fault)
elem_below reading at earlier e found (Bad cause) is below =
    let same : list_edits reading (inside reading at is.0) [] e.parts ≡ Err cause = subst (λ within. list_edits reading within [] e.parts ≡ Err cause) is.2.is.within below in
    rw (is.1, is.2.has_no_fault, same) refl
elem_below reading at earlier e found Memory is below = tt

-- an element with the edits of what is in it
pub elem_read : (reading : Reading) (at : Position) (earlier : List Step) (e : Elem) (found : Found) (below : List Edit) (read : Read) →
    Owns reading at earlier e (Ok found) → Answers (list_edits reading found.within [] e.parts) (Ok below) →
    read.edits ≡ made reading.tables at.under found.operation (merge_at found.within.above found.content.value) found.place below → read.step ≡ Some found.content.step →
    ReadsAs (elem_edits reading at earlier e) (option_map (step_of reading at.under) (named reading at.parent e)) (Ok read)
elem_read reading at earlier e found below read is answered are step_is =
    let it = is.0 in
    let same : list_edits reading (inside reading at it) [] e.parts ≡ Ok below = subst (λ within. list_edits reading within [] e.parts ≡ Ok below) is.2.is.within (answers_ok (list_edits reading found.within [] e.parts) below answered) in
    let made_is : read.edits ≡ made_of reading at it below = are ∙ (λ i. made reading.tables at.under (is.2.is.operation i) (merge_at (is.2.is.within i).above (is.2.is.content i).value) (is.2.is.place i) below) in
    let whole : elem_edits reading at earlier e ≡ Ok (made_of reading at it below) = rw (is.1, is.2.has_no_fault, same) refl in (
      answers_is (elem_edits reading at earlier e) read.edits (whole ∙ ap (λ (x : List Edit). Ok x) (sym made_is)),
      step_is ∙ ap (λ (content : Content). Some content.step) is.2.is.content ∙ ap (option_map (step_of reading at.under)) (sym is.1),
    )

-- an element as a part
pub child_read : (reading : Reading) (at : Position) (earlier : List Step) (e : Elem) (result : Result Read PayloadFault) →
    ReadsAs (elem_edits reading at earlier e) (option_map (step_of reading at.under) (named reading at.parent e)) result →
    ReadsAs (part_edits reading at earlier (Child e)) (option_map (step_of reading at.under) (named_part reading at.parent (Child e))) result
child_read reading at earlier e result here =
    let P : Result (List Edit) Cause → Type 0 = λ edits. ReadsAs edits (option_map (step_of reading at.under) (named reading at.parent e)) result in
    let Q : Option Elem → Type 0 = λ one. ReadsAs (part_edits reading at earlier (Child e)) (option_map (step_of reading at.under) (option_and_then (named reading at.parent) one)) result in
    subst Q (sym (elem_is e)) (subst P (sym (child_is_element reading at earlier e)) here)

-- one part more
pub more_edits : (edits piece : List Edit) (part more : Result (List Edit) Cause) → part ≡ Ok piece →
    with_more (Ok (edits ++ piece)) more ≡ with_more (Ok edits) (with_more part more)
more_edits edits piece part (Ok rest) same = rw same (ap (λ x. Ok x) (append_assoc edits piece rest))
more_edits edits piece part (Err cause) same = rw same refl

-- one part more, in the code's loop
pub parts_more : (reading : Reading) (at : Position) (items : List Part) (i : ℕ) (part : Part) (edits piece grown : List Edit) (earlier next : List Step) (whole : Result (List Edit) Cause) →
    i < length items → part ≡ get_or items i part → Answers (part_edits reading at earlier part) (Ok piece) → grown ≡ edits ++ piece → next ≡ with_step reading at earlier part →
    with_more (Ok edits) (list_edits reading at earlier (drop i items)) ≡ whole →
    with_more (Ok grown) (list_edits reading at next (drop (i + 1) items)) ≡ whole
parts_more reading at items i part edits piece grown earlier next whole within item read is_grown is_next so_far =
    let next_is : i + 1 ≡ suc i = omega arith in
    (λ k. with_more (Ok (is_grown k)) (list_edits reading at (is_next k) (drop (i + 1) items)))
    ∙ more_edits edits piece (part_edits reading at earlier part) (list_edits reading at (with_step reading at earlier part) (drop (i + 1) items)) (answers_ok (part_edits reading at earlier part) piece read)
    ∙ ap (λ (rest : List Part). with_more (Ok edits) (list_edits reading at earlier rest)) (sym (drop-cons items i part within ∙ (λ k. sym item k ∷ drop (sym next_is k) items)))
    ∙ so_far

pub part_more : (reading : Reading) (at : Position) (items : List Part) (i : ℕ) (part : Part) (edits : List Edit) (read : Read) (grown : List Edit) (earlier next : List Step) (whole : Result (List Edit) Cause) →
    i < length items → part ≡ get_or items i part →
    ReadsAs (part_edits reading at earlier part) (option_map (step_of reading at.under) (named_part reading at.parent part)) (Ok read) →
    grown ≡ edits ++ read.edits → next ≡ earlier ++ option_to_list read.step →
    with_more (Ok edits) (list_edits reading at earlier (drop i items)) ≡ whole →
    with_more (Ok grown) (list_edits reading at next (drop (i + 1) items)) ≡ whole
part_more reading at items i part edits read grown earlier next whole within item is is_grown is_next so_far =
    parts_more reading at items i part edits read.edits grown earlier next whole within item is.0 is_grown
    (is_next ∙ ap (λ (step : Option Step). earlier ++ option_to_list step) is.1) so_far
