use Rattle.std.proofs.Common.{sym, ◌∙◌, ap, map, Bor}
use Rattle.std.specs.List.{position_from}
use Rattle.nc_model.specs.Words.{star}
use Rattle.nc_model.specs.declared.policy.Rule.{Rule}
use Rattle.nc_nacm.specs.inner.Found.{earlier}
use Rattle.nc_nacm.specs.inner.Keys.{is_at_with, sought}
use Rattle.nc_nacm.proofs.Firsts.{either_first}
use Rattle.nc_nacm.proofs.index.place_under.Goals as goal

pub returns : goal.returns
returns c =
    let rules = map (λ (rule : Bor Rule). rule.now) c.args.rules.now in
    let all = is_at_with (sought star c.args.shape.now c.args.steps.now) c.args.right in
    let own = is_at_with (sought c.args.name.now c.args.shape.now c.args.steps.now) c.args.right in
    let star_is = ap (λ name. position_from (is_at_with (sought name c.args.shape.now c.args.steps.now) c.args.right) 0 rules) c.star.ensures in
    c.earlier.ensures
    ∙ (λ i. earlier ((c.place_at.ensures ∙ star_is) i) (c.place_at-2.ensures i))
    ∙ sym (either_first all own 0 rules)
