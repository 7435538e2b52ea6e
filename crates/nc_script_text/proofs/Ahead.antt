-- One step more of a text.
use Rattle.std.proofs.Common.{◌≡◌, ◌≤◌, ◌+◌, ℕ, List, [], ◌∷◌, ◌++◌, length, drop, refl, sym, ap, subst, ◌∙◌, append-nil, append_assoc, arith}
use Rattle.std.specs.List.{flat_map}
use Rattle.std.proofs.lemmas.List.Concat.{flat_map-append}
use Rattle.nc_script_text.specs.Lines.{line_of}
use Rattle.nc_script_text.specs.inner.Heads.{IsFound}
use Rattle.nc_script_text.specs.declared.line.Found.{Found}
use Rattle.nc_script_text.specs.declared.step.ScriptStep.{ScriptStep}

pub one_line_more : (text rest tail : List ℕ) (steps more : List ScriptStep) (found : Found) → text ≡ flat_map line_of steps ++ rest
    → IsFound rest found → more ≡ steps ++ found.step ∷ [] → tail ≡ drop found.len rest → text ≡ flat_map line_of more ++ tail
one_line_more text rest tail steps more found is there push left =
    let last : flat_map line_of (found.step ∷ []) ≡ line_of found.step = append-nil (line_of found.step) in
    is ∙ (ap (λ r. flat_map line_of steps ++ r) (there.text_is ∙ (λ i. sym last i ++ sym left i))
    ∙ (sym (append_assoc (flat_map line_of steps) (flat_map line_of (found.step ∷ [])) tail)
    ∙ ap (λ t. t ++ tail) (sym (flat_map-append line_of steps (found.step ∷ [])) ∙ ap (flat_map line_of) (sym push))))
