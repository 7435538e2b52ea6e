use Rattle.nc_refs.proofs.ValueLemmas.{value_added}
use Rattle.nc_refs.proofs.referred.with_value.Goals as goal

pub returns : goal.returns
returns c = λ before has. value_added c.args.values c.insert.new.self c.args.value before c.in_ok-insert.ensures.updates.0 has
