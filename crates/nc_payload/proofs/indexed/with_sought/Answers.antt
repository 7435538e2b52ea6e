use Rattle.std.proofs.Common.{◌∙◌, sym}
use Rattle.nc_payload.proofs.EarlierLemmas.{none_sought}
use Rattle.nc_payload.proofs.indexed.with_sought.Goals as goal

pub returns-then-is_sought : goal.returns-then-is_sought
returns-then-is_sought c = λ other sought. c.in_ok-added.ensures other

pub returns : goal.returns
returns c = none_sought c.args.each c.args.steps c.args.step.now (sym c.is_sought.ensures ∙ c.if-is_sought.false)
