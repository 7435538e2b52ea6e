use Rattle.nc_journal.proofs.Looking.{if_ok_also}
use Rattle.nc_store.specs.inner.Finding.{FindsRecord, FindsValid}
use Rattle.nc_store.proofs.Spelling.{none_found, record_found}
use Rattle.nc_store.proofs.base.spelled.Goals as goal

pub returns-in-Ok : goal.returns-in-Ok
returns-in-Ok c =
    if_ok_also c.valid.result (FindsValid c.args.schema.now c.in-Ok.config) (FindsRecord c.args.schema.now c.args.body.now) c.valid.ensures (λ found it.
    record_found c.args.schema.now c.args.body.now c.in-Ok.config c.in-Ok.ensures.read c.in-Ok.ensures.one found it)

pub returns-in-Err-Unreadable : goal.returns-in-Err-Unreadable
returns-in-Err-Unreadable c = none_found c.args.schema.now c.args.body.now (c.in-Err-Unreadable.ensures.unreadable c.in-Err-Unreadable.field-0-is)
