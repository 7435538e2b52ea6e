use Rattle.std.proofs.Common.{sym, ◌∙◌, ap, map, Bor, List, Bool}
use Rattle.std.proofs.lemmas.List.{take_all}
use Rattle.std.specs.List.{position_from, list_any}
use Rattle.nc_model.specs.declared.policy.Rule.{Rule}
use Rattle.nc_nacm.specs.inner.Found.{earlier, under}
use Rattle.nc_nacm.proofs.Covering.{all_found}
use Rattle.nc_nacm.proofs.Firsts.{none_first, one_more_first}
use Rattle.nc_nacm.proofs.index.first_by_shapes.Goals as goal

pub loop-shape-init : goal.loop-shape-init
loop-shape-init c = sym (none_first 0 (map (λ (rule : Bor Rule). rule.now) c.args.rules.now))

pub loop-shape-preserved : goal.loop-shape-preserved
loop-shape-preserved c =
    let rules = map (λ (rule : Bor Rule). rule.now) c.args.rules.now in
    let test : List (List Bool) → Rule → Bool = λ shape rule. under c.args.name.now c.args.steps.now c.args.right shape rule in
    let place = c.place_under-place.ensures ∙ ap (λ shape. position_from (under c.args.name.now c.args.steps.now c.args.right shape) 0 rules) c.as_slice.ensures in
    c.earlier-first.ensures ∙ (λ i. earlier (c.loop-shape.invariant i) (place i))
    ∙ one_more_first test c.as_slice-shape-items.result.now c.loop-shape.shape-index c.shape-item.result rules c.loop-shape-test.true c.shape-item.is

pub returns : goal.returns
returns c =
    let rules = map (λ (rule : Bor Rule). rule.now) c.args.rules.now in
    let whole = take_all c.loop-shape.shape-index c.as_slice-shape-items.result.now c.loop-shape-test.false ∙ c.as_slice-shape-items.ensures in
    c.loop-shape.invariant
    ∙ ap (λ shapes. position_from (λ (rule : Rule). list_any (λ shape. under c.args.name.now c.args.steps.now c.args.right shape rule) shapes) 0 rules) whole
    ∙ all_found c.args.name.now c.args.steps.now c.args.right c.args.index.now.shapes rules c.requires.shapes
