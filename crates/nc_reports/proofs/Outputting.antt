-- The outputs of a script, written one after another.
use Rattle.std.proofs.Common.{◌≡◌, ◌<◌, ◌+◌, ℕ, suc, List, [], ◌∷◌, ◌++◌, length, get_or, take, drop, Result, Ok, Err, refl, sym, ap, ◌∙◌, append-nil, take-append-drop}
use Rattle.std.specs.Prelude.{IsErrAnd}
use Rattle.std.proofs.Math.Seq.{drop-cons}
use Rattle.std.proofs.lemmas.List.{take_more}
use Rattle.std.proofs.lemmas.List.Concat.{flat_map-append}
use Rattle.nc_outside.specs.declared.fault.Failed.{Failed}
use Rattle.nc_script.specs.declared.output.Output.{Output}
use Rattle.nc_words.proofs.Noting.{wrote_front, wrote_more, wrote_same}
use Rattle.nc_words.specs.Notes.{Told}
use Rattle.nc_reports.specs.Outputs.{output_text, outputs_text}
use Rattle.nc_words.specs.Writings.{Wrote}

-- the texts before an output, its own, and those behind it
texts_split : (outputs : List Output) (i : ℕ) (d : Output) → i < length outputs
    → outputs_text (take i outputs) ++ (output_text (get_or outputs i d) ++ outputs_text (drop (suc i) outputs)) ≡ outputs_text outputs
texts_split outputs i d there =
    sym (flat_map-append output_text (take i outputs) (get_or outputs i d ∷ drop (suc i) outputs))
    ∙ ap outputs_text (ap (λ xs. take i outputs ++ xs) (sym (drop-cons outputs i d there)) ∙ take-append-drop i outputs)

texts_more : (outputs : List Output) (i : ℕ) (d : Output) → i < length outputs
    → outputs_text (take i outputs) ++ output_text (get_or outputs i d) ≡ outputs_text (take (i + 1) outputs)
texts_more outputs i d there =
    ap (λ t. outputs_text (take i outputs) ++ t) (sym (append-nil (output_text (get_or outputs i d))))
    ∙ (sym (flat_map-append output_text (take i outputs) (get_or outputs i d ∷ []))
    ∙ ap outputs_text (sym (take_more outputs i d there)))

-- one was written in part
pub written_part : (outputs : List Output) (i : ℕ) (d one : Output) (before middle now : Told) (fault : Failed) (P : Failed → Type 0)
    (result : Result (Unit {0}) Failed) → i < length outputs → one ≡ get_or outputs i d
    → Wrote (outputs_text (take i outputs)) before middle (Ok tt) → Wrote (output_text one) middle now (Err fault)
    → IsErrAnd result P → Wrote (outputs_text outputs) before now result
written_part outputs i d one before middle now fault P result there is wrote part failed =
    let behind = outputs_text (drop (suc i) outputs) in
    let text = output_text (get_or outputs i d) in
    wrote_same (outputs_text outputs) (outputs_text (take i outputs) ++ (text ++ behind)) before now result (texts_split outputs i d there)
    (wrote_more (outputs_text (take i outputs)) (outputs_text (take i outputs)) (text ++ behind) before middle now tt result refl wrote
    (wrote_front text (output_text one) behind middle now fault P result (ap output_text is) part failed))

-- one more was written
pub written_more : (outputs : List Output) (i : ℕ) (d one : Output) (before middle now : Told) (u : Unit {0}) → i < length outputs
    → one ≡ get_or outputs i d → Wrote (outputs_text (take i outputs)) before middle (Ok tt)
    → Wrote (output_text one) middle now (Ok u) → Wrote (outputs_text (take (i + 1) outputs)) before now (Ok tt)
written_more outputs i d one before middle now u there is wrote more =
    let text = output_text (get_or outputs i d) in
    wrote_same (outputs_text (take (i + 1) outputs)) (outputs_text (take i outputs) ++ text) before now (Ok tt)
    (texts_more outputs i d there)
    (wrote_more (outputs_text (take i outputs)) (outputs_text (take i outputs)) text before middle now tt (Ok tt) refl wrote
    (wrote_same text (output_text one) middle now (Ok tt) (ap output_text is) more))
