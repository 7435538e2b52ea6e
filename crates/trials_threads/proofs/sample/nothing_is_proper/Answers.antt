use Rattle.trials_threads.proofs.Empty as lemmas
use Rattle.trials_threads.proofs.sample.nothing_is_proper.Goals as goal

pub returns-clause-proper : goal.returns-clause-proper
returns-clause-proper c = lemmas.empty_is_proper

pub returns-clause-empty : goal.returns-clause-empty
returns-clause-empty c = lemmas.empty_is_configuration

pub returns-clause-valid : goal.returns-clause-valid
returns-clause-valid c = lemmas.empty_is_valid
