use Rattle.nc_edge.proofs.Calls.{failed_call}
use Rattle.nc_edge.proofs.file_disk.FileDiskDisk.read.Goals as goal

pub returns-in-Err-clause-cause : goal.returns-in-Err-clause-cause
returns-in-Err-clause-cause c = failed_call c.args.self.now.faults c.begin.new.self.faults c.fail.new.self.faults c.fail.result c.begin.ensures c.fail.ensures.later c.fail.ensures.rose
