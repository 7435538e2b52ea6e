use Rattle.std.proofs.Common.{None}
use Rattle.nc_program.proofs.Running.{disk_status, files_status, read_status, words_status, write_status}
use Rattle.nc_program.proofs.program.run.Goals as goal

pub returns-clause-words : goal.returns-clause-words
returns-clause-words g c = rw c.status.ensures (words_status _ _ _ _ _ (c.served-done.ensures None tt))

pub returns-clause-read_fault : goal.returns-clause-read_fault
returns-clause-read_fault g c = rw c.status.ensures (read_status _ _ _ _ _ (c.served-done.ensures None tt))

pub returns-clause-write_fault : goal.returns-clause-write_fault
returns-clause-write_fault g c = rw c.status.ensures (write_status _ _ _ _ _ (c.served-done.ensures None tt))

pub returns-clause-disk_fault : goal.returns-clause-disk_fault
returns-clause-disk_fault g c = rw c.status.ensures (disk_status _ _ _ _ _ (c.served-done.ensures None tt))

pub returns-clause-files_fault : goal.returns-clause-files_fault
returns-clause-files_fault g c = rw c.status.ensures (files_status _ _ _ _ _ (c.served-done.ensures None tt))
