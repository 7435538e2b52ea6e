use Rattle.nc_device.proofs.Preparing.{short_modules}
use Rattle.nc_device.proofs.device.with_header.Goals as goal

pub header_of-requires-clause-small : goal.header_of-requires-clause-small
header_of-requires-clause-small c = short_modules c.args.contents.now c.args.setup c.requires.setup
