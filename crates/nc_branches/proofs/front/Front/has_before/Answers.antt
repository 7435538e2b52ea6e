use Rattle.std.proofs.Common.{◌≡◌, ◌∙◌, ap, rules}
use Rattle.nc_schema.specs.Standing.{stands_before}
use Rattle.nc_branches.proofs.FrontLemmas.{stands_until}
use Rattle.nc_branches.proofs.front.Front.has_before.Goals as goal

pub returns-then-are_same_keys : goal.returns-then-are_same_keys
returns-then-are_same_keys c =
    let same : c.self.inside.keys.now ≡ c.args.others.now = search rules in
    let order = ap (λ f. f.order) c.self.view_is in
    c.is_known.ensures _ c.self.invariant ∙ stands_until c.self.inside.order.now c.args.keys.now c.self.inside.keys.now c.args.others.now same
    ∙ ap (λ o. stands_before o c.args.keys.now c.args.others.now) order
