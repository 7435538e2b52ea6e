use Rattle.std.proofs.Common.{sym, arith}
use Rattle.nc_outside.proofs.DiskFiles.{byte_read}
use Rattle.nc_outside.proofs.stretches.byte_at.Goals as goal

pub returns-else-count-eq0-clause-byte : goal.returns-else-count-eq0-clause-byte
returns-else-count-eq0-clause-byte g c = λ file is.
    sym (byte_read c.read.new.into file c.in_ok-count.count c.args.at (omega arith)
    (c.in_ok-count.ensures.some file is).0 (c.in_ok-count.ensures.bytes file is))
