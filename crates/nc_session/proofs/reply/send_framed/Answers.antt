use Rattle.std.proofs.Common.{◌≡◌, ◌++◌, List, ℕ, ap, arith, subst, ◌∙◌}
use Rattle.nc_frames.specs.Writing.{written_chunk}
use Rattle.nc_session.specs.Replies.{framed}
use Rattle.nc_session.specs.declared.base.Base.TheVariants.{Base11}
use Rattle.nc_session.specs.inner.Turns.{Writes}
use Rattle.nc_session.proofs.Cutting.{appended}
use Rattle.nc_session.proofs.reply.send_framed.Goals as goal

pub returns-then-is_long : goal.returns-then-is_long
returns-then-is_long g c = c.send_chunks.ensures

pub returns : goal.returns
returns g c =
    let P : List ℕ → Type 0 = λ t. Writes t (g.K.Sink.taken c.args.sink.now) (g.K.Sink.taken c.send.new.sink) (g.K.Sink.faults c.args.sink.now) (g.K.Sink.faults c.send.new.sink) c.send.result in
    let text : c.as_slice.result.now ≡ framed Base11 c.args.body.now =
    c.as_slice.ensures
    ∙ appended written_chunk c.new-text.result c.write_chunks.new.out c.args.body.now (omega arith) c.in_ok-write_chunks.ensures.ok
    ∙ ap (λ (b : List ℕ). b ++ framed Base11 c.args.body.now) c.new-text.ensures in
    subst P text c.send.ensures
