use Rattle.std.proofs.Common.{◌≡◌, ◌∙◌, ◌++◌, ◌∷◌, [], ap, sym, length, Some, None, ℕ, List}
use Rattle.nc_names.specs.declared.path.Step.{Step}
use Rattle.nc_record.specs.inner.Placing as placing
use Rattle.nc_record.proofs.Above.{IsAbove, none_above, one_above}
use Rattle.nc_record.proofs.row.+steps_above.Goals as goal

pub returns-in_default : goal.returns-in_default
returns-in_default t c = λ above step same way.
    let none : placing.parent_of c.args.schema.now c.args.number ≡ None = cc (c.parent_of.ensures.parent, c.in_default.is) in
    c.new.ensures ∙ none_above c.args.schema.now c.args.before.now above step c.args.number same way none

pub returns : goal.returns
returns t c = λ above step same way.
    let some : placing.parent_of c.args.schema.now c.args.number ≡ Some c.in-Some.parent = cc (c.parent_of.ensures.parent, c.in-Some.is) in
    let it : IsAbove c.args.schema.now c.args.before.now above c.in-Some.parent = one_above c.args.schema.now c.args.before.now above step c.args.number c.in-Some.parent same way some in
    let steps : c.in_ok-steps.steps ≡ it.up = c.in_ok-steps.ensures it.up it.last it.same it.way in
    let depth : c.len.result ≡ length it.up = c.len.ensures ∙ ap length steps in
    let last : c.in_ok-open_step.field-0 ≡ it.last = c.in_ok-open_step.ensures ∙ ap (λ (n : ℕ). placing.open_step c.args.before.now n c.in-Some.parent) depth ∙ it.found in
    let pushed : c.push.new.self ≡ c.in_ok-steps.steps ++ c.in_ok-open_step.field-0 ∷ [] = c.in_ok-push.ensures.ok in
    pushed ∙ ap (λ (z : List Step). z ++ c.in_ok-open_step.field-0 ∷ []) steps ∙ ap (λ (s : Step). it.up ++ s ∷ []) last ∙ sym it.is
