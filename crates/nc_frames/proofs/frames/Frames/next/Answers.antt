use Rattle.nc_frames.proofs.FrameLemmas.{Answers-faulty, marked_is_open, chunked_is_open}
use Rattle.nc_frames.proofs.frames.Frames.next.Goals as goal

pub returns-in-Marked : goal.returns-in-Marked
returns-in-Marked c =
    let f = c.self.inside in
    record {
      replies = c.next_marked.ensures.replies;
      fault = c.next_marked.ensures.fault;
      standing = λ fault failed. absurd (marked_is_open f.state f.reader f.earlier f.waiting c.args.self.now fault c.self.view_is c.in-Marked.is failed);
    }

pub returns-in-Chunked : goal.returns-in-Chunked
returns-in-Chunked c =
    let f = c.self.inside in
    record {
      replies = c.next_chunked.ensures.replies;
      fault = c.next_chunked.ensures.fault;
      standing = λ fault failed. absurd (chunked_is_open f.state f.reader f.earlier f.waiting c.args.self.now fault c.self.view_is c.in-Chunked.is failed);
    }

pub returns-in-Faulty : goal.returns-in-Faulty
returns-in-Faulty c =
    let f = c.self.inside in
    Answers-faulty f.state f.reader f.earlier f.waiting c.args.self.now c.in-Faulty.fault c.self.view_is c.in-Faulty.is
