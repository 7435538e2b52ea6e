use Rattle.nc_journal.proofs.Headers.{short_number_made}
use Rattle.nc_journal.proofs.read.short_number_in.Goals as goal

pub returns : goal.returns
returns c = short_number_made c.from_be_bytes.result c.args.bytes.now c.told-bytes c.fits-bytes c.from_be_bytes.ensures
