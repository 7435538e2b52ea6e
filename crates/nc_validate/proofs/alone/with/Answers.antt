use Rattle.nc_validate.specs.inner.Alone.{has_value}
use Rattle.nc_validate.proofs.AloneLemmas.{had_unless_new, value_added}
use Rattle.nc_validate.proofs.alone.with.Goals as goal

pub returns-clause-adds : goal.returns-clause-adds
returns-clause-adds c = value_added c.args.seen c.insert.new.self c.args.value c.in_ok-added.ensures.updates.0

pub returns-clause-there : goal.returns-clause-there
returns-clause-there c = had_unless_new c.in_ok-added.added (has_value c.args.seen c.args.value.now) c.in_ok-added.ensures.added
