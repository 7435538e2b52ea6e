use Rattle.std.proofs.Common.{refl}
use Rattle.nc_protocol.proofs.laws.reply_repeats_request.Goals as goal

pub returns : goal.returns
returns c = record { name = λ tables sees request verdict. refl; attributes = λ tables sees request verdict. refl; rows = λ tables sees request rows. refl }
