use Rattle.nc_schema.proofs.PathTextLemmas as lemmas
use Rattle.nc_schema.proofs.laws.text_names_one_path.Goals as goal

pub returns : goal.returns
returns c = lemmas.text_names_one_path
