use Rattle.nc_script.proofs.Runnings.{outputs_are}
use Rattle.nc_script.proofs.talks.Talks.into_outputs.Goals as goal

pub returns : goal.returns
returns c = λ schema board stand. outputs_are schema c.args.self board c.outputs_of.result stand c.outputs_of.ensures
