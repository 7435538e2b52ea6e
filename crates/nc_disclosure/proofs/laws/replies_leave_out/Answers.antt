use Rattle.nc_disclosure.proofs.ToldLemmas as lemmas
use Rattle.nc_disclosure.proofs.laws.replies_leave_out.Goals as goal

pub returns : goal.returns
returns c = lemmas.replies_leave_out
