use Rattle.nc_turn.specs.Passes.{view}
use Rattle.nc_shared.proofs.Plain.{plain_all}
use Rattle.nc_shared.proofs.serving.serve_all.Goals as goal

pub returns-clause-served : goal.returns-clause-served
returns-clause-served g c = record {
  history = _;
  stands = c.close-machine.ensures.stands;
  plain = plain_all _ _ c.close-machine.ensures.gathered c.serve_desks-end.ensures.pass.2;
}
