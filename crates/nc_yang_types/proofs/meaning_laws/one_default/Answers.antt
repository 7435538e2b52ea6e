use Rattle.nc_yang_types.proofs.DefaultLemmas.{one_default}
use Rattle.nc_yang_types.proofs.meaning_laws.one_default.Goals as goal

pub returns : goal.returns
returns c = one_default
