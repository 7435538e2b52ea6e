use Rattle.nc_frames.proofs.AnswerLemmas.{one_answer}
use Rattle.nc_frames.proofs.laws.has_one_answer.Goals as goal

pub returns : goal.returns
returns c = one_answer
