use Rattle.std.proofs.Common.{◌≡◌, ◌++◌, List, ℕ, ap, subst, ◌∙◌}
use Rattle.nc_message.specs.Written.{written}
use Rattle.nc_session.specs.inner.Turns.{Writes}
use Rattle.nc_session.proofs.Cutting.{framed_in_chunks}
use Rattle.nc_session.proofs.reply.send_reply.Goals as goal

pub returns-in-Base11 : goal.returns-in-Base11
returns-in-Base11 g c =
    let text : c.as_slice-in-Base11.result.now ≡ written c.args.reply.now =
    c.as_slice-in-Base11.ensures ∙ c.in_ok-write_reply.ensures.ok ∙ ap (λ (b : List ℕ). b ++ written c.args.reply.now) c.clear.ensures in
    let P : List ℕ → Type 0 = λ t. Writes t (g.K.Sink.taken c.args.sink.now) (g.K.Sink.taken c.send_framed.new.sink) (g.K.Sink.faults c.args.sink.now) (g.K.Sink.faults c.send_framed.new.sink) c.send_framed.result in
    subst P (framed_in_chunks c.args.base c.as_slice-in-Base11.result.now c.args.reply.now c.in-Base11.is text) c.send_framed.ensures
