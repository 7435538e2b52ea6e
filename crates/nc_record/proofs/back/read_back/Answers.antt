use Rattle.std.proofs.Common.{ap}
use Rattle.nc_record.proofs.ReadAgain.{back_bad, back_is, back_same}
use Rattle.nc_record.proofs.back.read_back.Goals as goal

pub returns-in-Ok-clause-is : goal.returns-in-Ok-clause-is
returns-in-Ok-clause-is c = back_is c.args.schema.now c.in_ok-config.config c.in-Ok.config c.inline_is_configuration.ensures c.requires c.in-Ok.ensures

pub returns-in-Ok-clause-same : goal.returns-in-Ok-clause-same
returns-in-Ok-clause-same c = λ configuration.
    back_same c.args.schema.now c.in_ok-config.config c.args.given c.in-Ok.config c.printed_rows_are_read_back.ensures c.requires c.in_ok-config.ensures c.in-Ok.ensures configuration

pub returns-in-Err-Bad-clause-same : goal.returns-in-Err-Bad-clause-same
returns-in-Err-Bad-clause-same c = λ configuration.
    back_bad c.args.schema.now c.in_ok-config.config c.args.given _ c.printed_rows_are_read_back.ensures c.requires c.in_ok-config.ensures (rw c.in-Err-Bad.field-0-is at c.in-Err-Bad.ensures) configuration
