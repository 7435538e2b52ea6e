use Rattle.std.proofs.Common.{◌≡◌, ◌∙◌, ap, sym}
use Rattle.std.specs.Prelude.{false}
use Rattle.nc_yang_statements.specs.Keywords.{is_closed}
use Rattle.nc_yang_statements.specs.Statements.{kind}
use Rattle.nc_yang_scopes.specs.Revisions.{unrevised_at, unrevised_in}
use Rattle.nc_yang_scopes.proofs.Revising.{found_next, none_found, opened, passed_next}
use Rattle.nc_yang_scopes.proofs.revision.unrevised_in.Goals as goal

pub loop-statement-init : goal.loop-statement-init
loop-statement-init c =
    let is_open : is_closed (kind c.args.root.now) ≡ false = sym (c.if-is_closed.ensures ∙ ap is_closed c.kind.ensures) in
    opened c.args.scopes.now.texts c.args.number c.args.root.now c.as_slice-statement-items.result.now c.as_slice-statement-items.ensures is_open

pub returns-in-Some : goal.returns-in-Some
returns-in-Some c =
    found_next (unrevised_at c.args.scopes.now.texts c.args.number) c.as_slice-statement-items.result.now c.loop-statement.statement-index
    c.statement-item.result (unrevised_in c.args.scopes.now.texts c.args.number c.args.root.now) c.in-Some.found c.loop-statement-test.true
    c.statement-item.is c.loop-statement.invariant c.in-Some.ensures

pub loop-statement-preserved : goal.loop-statement-preserved
loop-statement-preserved c =
    passed_next (unrevised_at c.args.scopes.now.texts c.args.number) c.as_slice-statement-items.result.now c.loop-statement.statement-index
    c.statement-item.result (unrevised_in c.args.scopes.now.texts c.args.number c.args.root.now) c.loop-statement-test.true c.statement-item.is
    c.loop-statement.invariant c.in_default.ensures

pub returns : goal.returns
returns c =
    none_found (unrevised_at c.args.scopes.now.texts c.args.number) c.as_slice-statement-items.result.now c.loop-statement.statement-index
    (unrevised_in c.args.scopes.now.texts c.args.number c.args.root.now) c.loop-statement-test.false c.loop-statement.invariant
