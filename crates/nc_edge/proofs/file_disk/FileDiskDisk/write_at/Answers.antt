use Rattle.nc_edge.proofs.Calls.{any_torn, failed_call}
use Rattle.nc_edge.proofs.file_disk.FileDiskDisk.write_at.Goals as goal

pub returns-in-Err-clause-cause : goal.returns-in-Err-clause-cause
returns-in-Err-clause-cause c = failed_call c.args.self.now.faults c.begin.new.self.faults c.fail.new.self.faults c.fail.result c.begin.ensures c.fail.ensures.later c.fail.ensures.rose

pub returns-in-Ok-clause-crash : goal.returns-in-Ok-clause-crash
returns-in-Ok-clause-crash c = any_torn c.args.at _

pub returns-in-Err-clause-crash : goal.returns-in-Err-clause-crash
returns-in-Err-clause-crash c = any_torn c.args.at _
