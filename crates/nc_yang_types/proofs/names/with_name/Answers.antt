use Rattle.nc_yang_types.proofs.KnownLemmas.{name_added}
use Rattle.nc_yang_types.proofs.names.with_name.Goals as goal

pub returns : goal.returns
returns c = λ before has is.
    name_added c.args.listed c.args.names c.insert.new.self c.name.result c.args.statement.now before c.name.ensures c.in_ok-insert.ensures.updates.0 has is
