use Rattle.nc_validate.proofs.UniqueLemmas.{tuple_added}
use Rattle.nc_validate.proofs.unique.with.Goals as goal

pub returns : goal.returns
returns c = tuple_added c.args.seen c.insert.new.self c.args.tuple c.in_ok-insert.ensures.updates.0
