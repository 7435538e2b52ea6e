use Rattle.std.proofs.Common.{◌∙◌}
use Rattle.nc_frames.proofs.FrameLemmas.{Switches-marked, Switches-unmarked}
use Rattle.nc_frames.proofs.frames.Frames.switch.Goals as goal

pub returns-in-Marked : goal.returns-in-Marked
returns-in-Marked c =
    let f = c.self.inside in
    Switches-marked f.state f.reader f.earlier f.waiting c.replace-read.new.dest c.from_bytes.result c.args.self.now c.self.view_is c.self.invariant c.in-Marked.is (c.replace-read.ensures.after ∙ c.new.ensures) (c.from_bytes.ensures ∙ c.replace-read.ensures.value)

pub returns-in_default : goal.returns-in_default
returns-in_default c =
    let f = c.self.inside in
    Switches-unmarked f.state f.reader f.earlier f.waiting c.args.self.now c.self.view_is c.in_default.not-Marked
