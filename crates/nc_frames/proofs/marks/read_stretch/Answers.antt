use Rattle.std.proofs.Common.{◌≡◌, ◌++◌, take, arith}
use Rattle.std.proofs.lemmas.Grind.{common_steps}
use Rattle.nc_frames.proofs.MarkLemmas.{IsStretch-take, drop_is_shorter}
use Rattle.nc_frames.proofs.marks.read_stretch.Goals as goal

pub returns-clause-read : goal.returns-clause-read
returns-clause-read c =
    let rest = c.rest-rest.result.now in
    let pushed : c.push_slice.new.self ≡ c.args.message.now ++ take c.stretch-count.result rest = grind (arith, common_steps, c.in_ok-push_slice.ensures.ok) in
    (IsStretch-take c.args.message.now c.push_slice.new.self rest c.stretch-count.result c.stretch-count.ensures.some c.stretch-count.ensures.within c.stretch-count.ensures.before pushed, drop_is_shorter c.args.waiting.now c.skip.new.self c.stretch-count.result c.skip.ensures c.stretch-count.ensures.some c.requires.some)
