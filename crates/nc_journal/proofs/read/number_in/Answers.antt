use Rattle.std.proofs.Common.{refl}
use Rattle.nc_journal.proofs.Looking.{number_made}
use Rattle.nc_journal.proofs.read.number_in.Goals as goal

pub returns : goal.returns
returns c = number_made c.from_be_bytes.result c.args.bytes.now c.told-bytes c.fits-bytes c.from_be_bytes.ensures
