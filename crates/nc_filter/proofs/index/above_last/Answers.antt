use Rattle.std.proofs.Common.{◌∙◌, ap, take}
use Rattle.nc_filter.proofs.StepLemmas.{take_above}
use Rattle.nc_filter.proofs.index.above_last.Goals as goal

pub returns : goal.returns
returns c = ap (λ n. take n c.args.steps.now) c.saturating_sub.ensures ∙ take_above c.args.steps.now
