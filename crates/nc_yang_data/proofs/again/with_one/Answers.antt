use Rattle.nc_yang_data.proofs.SeenLemmas.{number_added}
use Rattle.nc_yang_data.proofs.again.with_one.Goals as goal

pub returns : goal.returns
returns c = λ before has. number_added c.args.seen c.insert.new.self c.args.number before c.in_ok-insert.ensures.updates.0 has
