use Rattle.nc_schema.proofs.BodyLemmas as lemmas
use Rattle.nc_schema.proofs.laws.body_spells_one.Goals as goal

pub returns : goal.returns
returns c = lemmas.spells_one
