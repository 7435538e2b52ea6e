use Rattle.std.proofs.Common.{length, refl}
use Rattle.nc_defaults.proofs.StepLemmas.{one_more}
use Rattle.nc_defaults.proofs.steps.led_by.Goals as goal

pub returns : goal.returns
returns c = λ step there.
    one_more c.args.path.now c.args.steps.now c.first_steps.result.now c.first_steps-2.result.now (length c.args.steps.now) step refl
    c.first_steps.ensures (c.if-not-same_steps.ensures.same.0 refl) c.first_steps-2.ensures there
