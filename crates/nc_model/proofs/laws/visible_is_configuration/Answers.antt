use Rattle.nc_model.proofs.VisibleLemmas as lemmas
use Rattle.nc_model.proofs.laws.visible_is_configuration.Goals as goal

pub returns : goal.returns
returns c = lemmas.visible_is_configuration
