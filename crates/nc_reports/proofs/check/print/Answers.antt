use Rattle.nc_reports.specs.Counts.{check_line}
use Rattle.nc_words.specs.Notes.{told}
use Rattle.nc_reports.proofs.check.print.Goals as goal

pub returns : goal.returns
returns g c =
    c.printed_by.ensures (check_line c.args.found) (told (g.K.Sink.taken c.args.sink.now) (g.K.Sink.faults c.args.sink.now))
    (told (g.K.Sink.taken c.write_found.new.sink) (g.K.Sink.faults c.write_found.new.sink)) c.write_found.ensures
