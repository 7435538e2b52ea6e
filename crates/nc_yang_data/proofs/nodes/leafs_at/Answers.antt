use Rattle.std.proofs.Common.{◌≡◌, Some, subst, sym, ap, ◌∙◌}
use Rattle.std.specs.Option.{option_copied}
use Rattle.nc_yang_statements.specs.Rules.{first}
use Rattle.nc_yang_statements.specs.Stops.{OnBroken}
use Rattle.nc_yang_data.specs.Places.{node_faults}
use Rattle.nc_yang_data.specs.inner.Cases.{case_test}
use Rattle.nc_yang_data.proofs.PlaceLemmas.{faults_known, found_in_place}
use Rattle.nc_yang_data.proofs.nodes.leafs_at.Goals as goal

pub returns-in-Err : goal.returns-in-Err
returns-in-Err c =
    subst (λ fs. OnBroken (λ found. Some found ≡ first fs) c.in_text.result)
    (sym (faults_known c.args.scopes.now c.args.schema.now (case_test c.args.cases.now) c.args.number c.args.at c.in-Some-Some.text c.in-Some-Some.statement.now
    (sym c.in-Some-Some.is-0 ∙ c.text.ensures) (sym (ap option_copied c.in-Some-Some.is-1) ∙ c.statement.ensures)))
    (c.in_text.ensures (node_faults c.args.scopes.now.texts c.args.schema.now (case_test c.args.cases.now) c.in-Some-Some.text c.args.number c.in-Some-Some.statement.now)
    c.in-Err.ensures)

pub returns-in-Ok : goal.returns-in-Ok
returns-in-Ok c =
    found_in_place c.args.scopes.now c.args.schema.now (case_test c.args.cases.now) c.args.number c.args.at c.in-Some-Some.text c.in-Some-Some.statement.now c.in-Ok.leafs
    (sym c.in-Some-Some.is-0 ∙ c.text.ensures) (sym (ap option_copied c.in-Some-Some.is-1) ∙ c.statement.ensures) c.in-Ok.ensures
