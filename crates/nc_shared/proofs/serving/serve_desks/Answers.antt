use Rattle.std.proofs.Common.{ap, subst, sym, ◌∙◌}
use Rattle.std.proofs.lemmas.List.Elements.{All-nil}
use mir.Syntax.{named}
use denote.Exit.{no}
use denote.Param.{param}
use denote.Param.Send.{arg_send, param_send}
use Rattle.nc_shared.proofs.Sharing.{held_send, seated_send}
use Rattle.nc_machine.specs.Lasting.{lasting}
use Rattle.nc_model.specs.declared.entry.Entry.{Entry}
use Rattle.nc_server.specs.Homes.{BeginsNoRecovery, HaveNoRecovery}
use Rattle.nc_shared.specs.Holding.{Stood, held_home}
use Rattle.nc_shared.proofs.Returned.{finished}
use Rattle.nc_shared.proofs.serving.serve_desks.Goals as goal

pub serve-end-requires-send-Q-D : goal.serve-end-requires-send-Q-D
serve-end-requires-send-Q-D g c κs within =
    let words = lasting g.K.Keeper.doubt g.K.Keeper.moment g.K.Keeper.leaves g.K.Keeper.continues in
    param_send 7 _ (arg_send _ no _ (seated_send _ (record {
      home = held_home g.row.K.coded g.C.Clock.given;
      stands = Stood words g.C.Clock.count g.C.Clock.given;
    }) (record { mir = named 3; lft = κs.1.1.1.0 }) _ c.type_bounds.sync-R
    (held_send _ _ (param 5 g.row.K-Ready) g.K.Keeper c.type_bounds.send-K c.type_bounds.send-C)))

pub returns-clause-pass : goal.returns-clause-pass
returns-clause-pass g c =
    let whole = sym (ap (λ o. o.home) c.new-seats.ensures.0) in
    finished (held_home g.row.K.coded g.C.Clock.given) c.args.shared.now c.args.pass c.serve-end.new.desks c.finish.result
    (whole ∙ sym c.serve-end.ensures.home) c.serve-end.ensures.out c.requires.pass.0 c.finish.ensures

pub new-seats-requires : goal.new-seats-requires
new-seats-requires g c = (
  c.requires.pass.0,
  c.requires.pass.1,
  subst HaveNoRecovery (sym c.requires.pass.2) (All-nil (λ (e : Entry). BeginsNoRecovery e.event)),
)
