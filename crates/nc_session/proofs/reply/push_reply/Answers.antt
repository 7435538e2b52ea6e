use Rattle.std.proofs.Common.{◌≡◌, ◌++◌, List, ℕ, ap, arith, ◌∙◌}
use Rattle.std.proofs.lemmas.Result.{on_ok_weaker}
use Rattle.nc_frames.specs.Writing.{written_chunk}
use Rattle.nc_message.specs.Written.{written}
use Rattle.nc_session.proofs.Cutting.{appended, framed_in_chunks}
use Rattle.nc_session.proofs.reply.push_reply.Goals as goal

pub returns-clause-ok : goal.returns-clause-ok
returns-clause-ok c =
    let text : c.as_slice-in-Base11.result.now ≡ written c.args.reply.now =
    c.as_slice-in-Base11.ensures ∙ c.in_ok-write_reply.ensures.ok ∙ ap (λ (b : List ℕ). b ++ written c.args.reply.now) c.new-body.ensures in
    on_ok_weaker c.write_chunks.result
    (λ a. appended written_chunk c.args.out.now c.write_chunks.new.out c.as_slice-in-Base11.result.now (omega arith) a
    ∙ ap (λ (t : List ℕ). c.args.out.now ++ t) (framed_in_chunks c.args.base c.as_slice-in-Base11.result.now c.args.reply.now c.in-Base11.is text)) c.write_chunks.ensures.ok
