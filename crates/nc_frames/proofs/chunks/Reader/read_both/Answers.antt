use Rattle.std.proofs.Common.{◌++◌, None, Some, refl}
use Rattle.std.proofs.lemmas.Result.{IfOk-weaker, on_err_weaker}
use Rattle.nc_frames.specs.inner.Turns.{Turned}
use Rattle.nc_frames.proofs.TurnLemmas.{Turned-more, Turned-both}
use Rattle.nc_frames.proofs.chunks.Reader.read_both.Goals as goal

pub returns-in-Some-clause-read : goal.returns-in-Some-clause-read
returns-in-Some-clause-read c = Turned-more (Some c.in-Some.stop) c.args.self.now c.read.new.self c.args.earlier.now c.read.new.source c.args.waiting.now (rw c.in-Some.is at c.in_ok-stop.ensures.read)

pub returns-clause-read : goal.returns-clause-read
returns-clause-read c =
    let first = rw c.in_default.is at c.in_ok-stop.ensures.read in
    let none = rw c.in_default.is at c.in_ok-stop.ensures.all refl in
    IfOk-weaker c.read-2.result
    (λ stop. Turned stop c.read.new.self c.args.waiting.now c.read-2.new.self c.read-2.new.source)
    (λ stop. Turned stop c.args.self.now (c.args.earlier.now ++ c.args.waiting.now) c.read-2.new.self (c.read.new.source ++ c.read-2.new.source))
    (λ stop t. Turned-both stop c.args.self.now c.read.new.self c.read-2.new.self c.args.earlier.now c.read.new.source c.args.waiting.now c.read-2.new.source first none t)
    c.read-2.ensures.read

pub returns-clause-err : goal.returns-clause-err
returns-clause-err c =
    let first = rw c.in_default.is at c.in_ok-stop.ensures.read in
    let none = rw c.in_default.is at c.in_ok-stop.ensures.all refl in
    on_err_weaker c.read-2.result
    (λ t. Turned-both None c.args.self.now c.read.new.self c.read-2.new.self c.args.earlier.now c.read.new.source c.args.waiting.now c.read-2.new.source first none t)
    c.read-2.ensures.err
