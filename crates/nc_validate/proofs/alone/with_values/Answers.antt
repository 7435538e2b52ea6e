use Rattle.std.proofs.Common.{◌≡◌, ◌∙◌, ℕ, length, List, ap, sym, subst, rules}
use Rattle.std.specs.List.{list_any}
use Rattle.nc_validate.specs.inner.Alone.{AddsValues, has_value}
use Rattle.nc_validate.proofs.AloneLemmas.{one_is, or_false}
use Rattle.nc_validate.proofs.alone.with_values.Goals as goal

pub returns-clause-adds : goal.returns-clause-adds
returns-clause-adds c =
    let values = c.args.values.now in
    let one : length values ≡ 1 = search rules in
    subst (λ (ts : List (List ℕ)). AddsValues c.args.seen c.in_ok-more.more ts) (one_is values c.index-values-0.result c.index-values-0.is one) c.in_ok-more.ensures.adds

pub returns-clause-there : goal.returns-clause-there
returns-clause-there c =
    let values = c.args.values.now in
    let one : length values ≡ 1 = search rules in
    c.in_ok-more.ensures.there ∙ sym (or_false (has_value c.args.seen c.index-values-0.result.now))
    ∙ ap (list_any (has_value c.args.seen)) (one_is values c.index-values-0.result c.index-values-0.is one)
