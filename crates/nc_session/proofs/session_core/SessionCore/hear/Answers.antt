use Rattle.std.proofs.Common.{List, ℕ, Ok, refl, subst, sym, ap, ◌∙◌}
use Rattle.nc_frames.specs.Framing.{Marks}
use Rattle.nc_session.specs.declared.base.Base.TheVariants.{Base10, Base11}
use Rattle.nc_session.specs.declared.end.SessionEnd.TheVariants.{BadHello}
use Rattle.nc_session.specs.declared.session_core.Phase.TheVariants.{Over}
use Rattle.nc_session.specs.Cores.{Core}
use Rattle.nc_session.specs.Requests.{IsReading}
use Rattle.nc_session.specs.inner.Unseen.{Unseen}
use Rattle.nc_session.proofs.Reading.{heard, inner_gives, inner_phase, spurned, unheard, inner_unread, serving_no_greeting, over_no_greeting}
use Rattle.nc_session.proofs.session_core.SessionCore.hear.Goals as goal

pub returns-in_default : goal.returns-in_default
returns-in_default c = λ base bytes gives.
    unheard _ base bytes (inner_phase c.self.view_is c.requires.phase) (c.put_back.ensures Marks 0 bytes (inner_gives Marks 0 bytes c.args.message c.self.view_is gives))

pub returns-in-Ok-Base10 : goal.returns-in-Ok-Base10
returns-in-Ok-Base10 c = λ base bytes gives.
    let P : List ℕ → Type 0 = λ b. IsReading b c.in-Ok.reading in (
      Base10,
      heard (Unseen c.args.self.now.inbox Marks) _ Base10 bytes c.args.message gives
          (record { reading = c.in-Ok.reading; is_reading = subst P c.as_slice.ensures c.in-Ok.ensures; answer_is = sym c.base_chosen.ensures ∙ c.in-Ok-Base10.is ∙ ap Ok c.in-Ok-Base10.field-0-is })
          refl (λ first b u. inner_unread Marks first b c.self.view_is u),
      serving_no_greeting Base10,
    )

pub returns-in-Ok-Base11 : goal.returns-in-Ok-Base11
returns-in-Ok-Base11 c = λ base bytes gives.
    let P : List ℕ → Type 0 = λ b. IsReading b c.in-Ok.reading in (
      Base11,
      heard (Unseen c.args.self.now.inbox Marks) _ Base11 bytes c.args.message gives
          (record { reading = c.in-Ok.reading; is_reading = subst P c.as_slice.ensures c.in-Ok.ensures; answer_is = sym c.base_chosen.ensures ∙ c.in-Ok-Base11.is ∙ ap Ok c.in-Ok-Base11.field-0-is })
          refl (λ first b u. c.switch.ensures first b (inner_unread Marks first b c.self.view_is u)),
      serving_no_greeting Base11,
    )

pub returns : goal.returns
returns c = λ base bytes gives.
    let P : List ℕ → Type 0 = λ b. IsReading b c.in-Ok.reading in
    let core : Core = record { inbox = c.self.inside.inbox; phase = Over (BadHello c.in-Err.why) } in (
      base,
      spurned (Unseen c.args.self.now.inbox Marks) core base bytes c.args.message c.in-Err.why gives
          (record { reading = c.in-Ok.reading; is_reading = subst P c.as_slice.ensures c.in-Ok.ensures; answer_is = sym c.base_chosen.ensures ∙ c.in-Err.is })
          refl,
      over_no_greeting (BadHello c.in-Err.why),
    )
