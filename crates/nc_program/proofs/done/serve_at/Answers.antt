use Rattle.std.proofs.Common.{◌∙◌, ap, refl}
use denote.Exit.{no}
use denote.Param.Send.{arg_send, param_send}
use Rattle.nc_device.specs.Outside.{listening, times}
use Rattle.nc_device.specs.Begun.{store_words}
use Rattle.nc_program.proofs.Sent.{store_send}
use Rattle.nc_program.proofs.Doing.{has_made}
use Rattle.nc_program.proofs.done.serve_at.Goals as goal

pub serve_shared-requires-send-K : goal.serve_shared-requires-send-K
serve_shared-requires-send-K g c κs within = param_send 1 _ (arg_send _ no _ (store_send _ g.D.Disk c.type_bounds.send-D))

pub returns-in-Ok : goal.returns-in-Ok
returns-in-Ok g c =
    rw c.after_serving.ensures.end (
      has_made (store_words g.D.Disk.seen g.D.Disk.moment g.D.Disk.left_since) c.args.opened.machine (record {
        machine = c.in-Ok.after.machine;
        answers = g.C.Clock.count c.in-Ok.after.clock;
        given = g.C.Clock.given c.in-Ok.after.clock;
        from = g.C.Clock.count c.args.clock;
      }) c.after_serving.result.disk (g.D.Disk.faults c.after_serving.result.disk) (times (g.C.Clock.given c.args.clock) (g.C.Clock.count c.args.clock))
          (times (g.C.Clock.given c.after_serving.result.clock) (g.C.Clock.count c.after_serving.result.clock)) c.requires.good refl
          (ap g.C.Clock.given c.after_serving.ensures.clock) (ap g.C.Clock.count c.after_serving.ensures.clock)
          c.after_serving.ensures.faults c.after_serving.ensures.disk c.after_serving.ensures.few c.in-Ok.ensures.served,
      c.in-Ok.ensures.end,
    )

pub returns : goal.returns
returns g c = (
  ap (λ l. listening (g.L.Listener.failed l) (g.L.Listener.over l)) c.in-Err.ensures.refused.1,
  ap (λ b. times (g.C.Clock.given b.1) (g.C.Clock.count b.1)) c.in-Err.ensures.refused.0,
  c.disk_of.ensures.faults ∙ ap (λ b. b.0.state.faults) c.in-Err.ensures.refused.0,
  c.disk_of.ensures.disk ∙ ap (λ b. b.0.keeper.disk) c.in-Err.ensures.refused.0,
)
