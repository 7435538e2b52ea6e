use Rattle.nc_frames.proofs.FrameLemmas.{Feeds-faulty, Feeds-pushed}
use Rattle.nc_frames.proofs.frames.Frames.feed.Goals as goal

pub returns-in-Faulty : goal.returns-in-Faulty
returns-in-Faulty c =
    let f = c.self.inside in
    Feeds-faulty f.state f.reader f.earlier f.waiting c.args.piece.now c.args.self.now c.in-Faulty.field-0 c.self.view_is c.in-Faulty.is

pub returns-in_default : goal.returns-in_default
returns-in_default c =
    let f = c.self.inside in
    Feeds-pushed f.state f.reader f.earlier f.waiting c.push_slice.new.self c.args.piece.now c.args.self.now c.push_slice.result c.self.view_is c.in_default.not-Faulty c.push_slice.ensures.ok c.push_slice.ensures.err
