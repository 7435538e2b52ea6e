use Rattle.nc_journal.proofs.Once.{holds_once, doubt_once}
use Rattle.nc_journal.proofs.Fronts.{chooser_read}
use Rattle.nc_journal.proofs.laws.one_reading.Goals as goal

pub returns : goal.returns
returns c = λ header one two doubt other file first second.
    let read = chooser_read header one doubt file first in
    (holds_once header one two doubt other file read.0 read.1 first second, doubt_once header one two doubt other file read.0 read.1 first second)
