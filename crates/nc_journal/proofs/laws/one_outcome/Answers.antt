use Rattle.nc_journal.proofs.Outcomes.{outcomes_once}
use Rattle.nc_journal.proofs.laws.one_outcome.Goals as goal

pub returns : goal.returns
returns c = λ modules features header file one two is a b. outcomes_once modules features header file is one two a b
