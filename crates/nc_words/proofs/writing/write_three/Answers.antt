use Rattle.std.proofs.Common.{refl, ◌++◌}
use Rattle.nc_words.proofs.Noting.{wrote_front, wrote_more, wrote_same}
use Rattle.nc_words.specs.Notes.{told}
use Rattle.nc_words.proofs.writing.write_three.Goals as goal

pub returns-in_err-write_bytes : goal.returns-in_err-write_bytes
returns-in_err-write_bytes g c =
    wrote_front (c.args.first.now) (c.args.first.now) (c.args.second.now ++ c.args.third.now) (told (g.K.Sink.taken c.args.sink.now) (g.K.Sink.faults c.args.sink.now)) (told (g.K.Sink.taken c.write_bytes.new.sink) (g.K.Sink.faults c.write_bytes.new.sink)) _ _ c.from_residual.result refl
    c.in_err-write_bytes.ensures c.from_residual.ensures.1

pub returns-in_err-write_bytes-2 : goal.returns-in_err-write_bytes-2
returns-in_err-write_bytes-2 g c =
    wrote_more (c.args.first.now) (c.args.first.now) (c.args.second.now ++ c.args.third.now) (told (g.K.Sink.taken c.args.sink.now) (g.K.Sink.faults c.args.sink.now)) (told (g.K.Sink.taken c.write_bytes.new.sink) (g.K.Sink.faults c.write_bytes.new.sink)) (told (g.K.Sink.taken c.write_bytes-2.new.sink) (g.K.Sink.faults c.write_bytes-2.new.sink)) c.in_ok-write_bytes.field-0
    c.from_residual-in_err-write_bytes-2.result refl c.in_ok-write_bytes.ensures
    (wrote_front (c.args.second.now) (c.args.second.now) (c.args.third.now) (told (g.K.Sink.taken c.write_bytes.new.sink) (g.K.Sink.faults c.write_bytes.new.sink)) (told (g.K.Sink.taken c.write_bytes-2.new.sink) (g.K.Sink.faults c.write_bytes-2.new.sink)) _ _ c.from_residual-in_err-write_bytes-2.result refl
    c.in_err-write_bytes-2.ensures c.from_residual-in_err-write_bytes-2.ensures.1)

pub returns : goal.returns
returns g c =
    wrote_more (c.args.first.now) (c.args.first.now) (c.args.second.now ++ c.args.third.now) (told (g.K.Sink.taken c.args.sink.now) (g.K.Sink.faults c.args.sink.now)) (told (g.K.Sink.taken c.write_bytes.new.sink) (g.K.Sink.faults c.write_bytes.new.sink)) (told (g.K.Sink.taken c.write_bytes-3.new.sink) (g.K.Sink.faults c.write_bytes-3.new.sink)) c.in_ok-write_bytes.field-0
    c.write_bytes-3.result refl c.in_ok-write_bytes.ensures
    (wrote_more (c.args.second.now) (c.args.second.now) (c.args.third.now) (told (g.K.Sink.taken c.write_bytes.new.sink) (g.K.Sink.faults c.write_bytes.new.sink)) (told (g.K.Sink.taken c.write_bytes-2.new.sink) (g.K.Sink.faults c.write_bytes-2.new.sink)) (told (g.K.Sink.taken c.write_bytes-3.new.sink) (g.K.Sink.faults c.write_bytes-3.new.sink)) c.in_ok-write_bytes-2.field-0 c.write_bytes-3.result refl
    c.in_ok-write_bytes-2.ensures
    (wrote_same (c.args.third.now) (c.args.third.now) (told (g.K.Sink.taken c.write_bytes-2.new.sink) (g.K.Sink.faults c.write_bytes-2.new.sink)) (told (g.K.Sink.taken c.write_bytes-3.new.sink) (g.K.Sink.faults c.write_bytes-3.new.sink)) c.write_bytes-3.result refl c.write_bytes-3.ensures))
