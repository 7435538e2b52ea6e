use Rattle.std.proofs.Common.{◌≡◌, ◌∙◌, sym, subst, List, map}
use Rattle.std.proofs.lemmas.Result.{err_from_is_err_and}
use Rattle.nc_names.specs.declared.path.Row.{Row}
use Rattle.nc_schema.specs.Configuration.{IsConfiguration}
use Rattle.nc_record.specs.declared.spelled.Spelled.{Spelled}
use Rattle.nc_record.specs.inner.Given.{spelled_of}
use Rattle.nc_record.proofs.Found.{gives_err}
use Rattle.nc_record.proofs.Reading.{all_fit, gives_same, records_are}
use Rattle.nc_record.proofs.read.meant.Goals as goal

pub returns-in_err-spelled-clause-same : goal.returns-in_err-spelled-clause-same
returns-in_err-spelled-clause-same c = λ rows it.
    let p = err_from_is_err_and c.from_residual.result c.from_residual.ensures.1 in
    rw (p.1, p.2) (gives_err (λ (all : List Spelled). all ≡ map spelled_of rows) (λ (all : List Row). all ≡ rows) c.in_err-spelled.field-0.0
    (c.in_err-spelled.ensures rows (all_fit c.args.schema.now c.args.body.now rows c.nodes.result c.nodes.ensures.number it) (c.records.ensures ∙ records_are c.args.schema.now c.args.body.now rows it)))

pub returns-clause-same : goal.returns-clause-same
returns-clause-same c = λ rows it.
    let found : c.in_ok-spelled.spelled ≡ map spelled_of rows = c.in_ok-spelled.ensures rows (all_fit c.args.schema.now c.args.body.now rows c.nodes.result c.nodes.ensures.number it) (c.records.ensures ∙ records_are c.args.schema.now c.args.body.now rows it) in
    let placed : c.in_ok-rows.rows ≡ rows = c.in_ok-rows.ensures rows it.spells.configuration.tree found in
    gives_same c.in_ok-rows.rows rows c.read_back.result placed (c.read_back.ensures.same (subst (IsConfiguration c.args.schema.now) (sym placed) it.spells.configuration))
