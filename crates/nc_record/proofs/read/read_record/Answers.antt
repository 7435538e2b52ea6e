use Rattle.std.proofs.Common.{◌≡◌, ◌∙◌, sym, subst, true, List, Err, arith}
use Rattle.std.proofs.lemmas.Result.{err_from_is_err_and}
use Rattle.nc_names.specs.declared.path.Row.{Row}
use Rattle.nc_record.specs.declared.fault.RecordFault.{RecordFault}
use Rattle.nc_record.specs.inner.Given.{Gives}
use Rattle.nc_record.proofs.Reading.{is_read, not_body, not_within, within_limit}
use Rattle.nc_record.proofs.read.read_record.Goals as goal

pub returns-in_err-config-clause-unreadable : goal.returns-in_err-config-clause-unreadable
returns-in_err-config-clause-unreadable c =
    let p = err_from_is_err_and c.from_residual.result c.from_residual.ensures.1 in
    rw (p.1, p.2) (λ is rows it. subst (λ (f : RecordFault). Gives (λ (all : List Row). all ≡ rows) (Err f)) is (c.in_err-config.ensures.same rows it))

pub returns-then-not-is_within-clause-unreadable : goal.returns-then-not-is_within-clause-unreadable
returns-then-not-is_within-clause-unreadable c = λ is rows it.
    not_within c.args.schema.now c.args.body.now c.in_ok-config.config rows (c.in_ok-config.ensures.same rows it) (sym c.is_within.ensures ∙ c.if-not-is_within.true) it

pub returns-then-not-same-clause-unreadable : goal.returns-then-not-same-clause-unreadable
returns-then-not-same-clause-unreadable c = λ is rows it.
    not_body c.args.schema.now c.args.body.now c.in_ok-config.config rows c.in_ok-same.same (c.in_ok-config.ensures.same rows it) c.in_ok-same.ensures.same.1 c.if-not-same.true it

pub returns-clause-read : goal.returns-clause-read
returns-clause-read c =
    is_read c.args.schema.now c.args.body.now c.in_ok-config.config c.in_ok-config.ensures.is (c.in_ok-same.ensures.same.0 c.if-not-same.false)
    (within_limit c.in_ok-config.config (sym c.is_within.ensures ∙ c.if-not-is_within.false)) c.in_ok-same.ensures.texts

pub returns-clause-one : goal.returns-clause-one
returns-clause-one c = λ rows it. sym (c.in_ok-config.ensures.same rows it)
