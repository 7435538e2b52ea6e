use Rattle.std.proofs.Common.{subst}
use Rattle.nc_outside.specs.Streams.{streams}
use Rattle.nc_words.specs.Asking.{AsksIn}
use Rattle.nc_program.proofs.done.folder_words.Goals as goal

pub returns-in-Serve : goal.returns-in-Serve
returns-in-Serve g c = λ words left ends failed asks held known.
    c.serve_words.ensures words c.in-Serve.field-0.now (streams left ends failed (g.K.Sink.taken c.args.sink.now) (g.K.Sink.faults c.args.sink.now))
    (subst (AsksIn words c.args.asked.folder.now) c.in-Serve.is asks) held known
