use Rattle.std.proofs.Common.{◌∙◌, sym, subst, ℕ, List}
use Rattle.nc_payload.specs.inner.Earlier.{AddsNumber}
use Rattle.nc_payload.proofs.EarlierLemmas.{number_there, number_pushed}
use Rattle.nc_payload.proofs.indexed.with_number.Goals as goal

pub returns-then-has_number : goal.returns-then-has_number
returns-then-has_number c = number_there c.args.number c.args.numbers (sym c.has_number.ensures ∙ c.if-has_number.true)

pub returns : goal.returns
returns c = subst (λ (after : List ℕ). AddsNumber c.args.numbers after c.args.number) (sym c.in_ok-push.ensures.ok) (number_pushed c.args.number c.args.numbers)
