use Rattle.std.proofs.Common.{refl, ◌∙◌}
use Rattle.std.proofs.lemmas.Option.{slice_get-get_or}
use Rattle.std.proofs.lemmas.Result.{err_from_is_err_and}
use Rattle.nc_yang_leafs.proofs.AddingLemmas.{adds_none, adds_turn, refused_one_on}
use Rattle.nc_yang_leafs.specs.Patterns.{IsReadable}
use Rattle.nc_yang_leafs.proofs.PatternLemmas.{all_at}
use Rattle.nc_yang_leafs.proofs.patterns.add_all.Goals as goal

pub loop-statement-init : goal.loop-statement-init
loop-statement-init g c = (adds_none c.args.scopes.now.located c.args.schema.now c.new-numbers.result c.new-numbers.ensures, c.requires.known, refl)

pub ask_one-requires-clause-readable : goal.ask_one-requires-clause-readable
ask_one-requires-clause-readable g c =
    all_at (IsReadable c.args.scopes.now.located) c.args.statements.now c.loop-statement.statement-index _ c.requires.readable (slice_get-get_or c.args.statements.now c.loop-statement.statement-index _ c.loop-statement-test.true)

pub loop-statement-preserved : goal.loop-statement-preserved
loop-statement-preserved g c = (
  adds_turn c.args.scopes.now.located c.args.statements.now c.loop-statement.statement-index _ c.args.schema.now c.loop-statement.schema c.ask_one.new.schema c.loop-statement.numbers c.push.new.self _
      (slice_get-get_or c.args.statements.now c.loop-statement.statement-index _ c.loop-statement-test.true) c.loop-statement.invariant.0 c.in_ok-ask_one.ensures.ok c.in_ok-push.ensures.ok,
  c.in_ok-ask_one.ensures.known,
  c.in_ok-ask_one.ensures.same ∙ c.loop-statement.invariant.2,
)

pub returns-in_err-ask_one-clause-fault : goal.returns-in_err-ask_one-clause-fault
returns-in_err-ask_one-clause-fault g c =
    let p = err_from_is_err_and c.from_residual.result c.from_residual.ensures.1 in
    let at = slice_get-get_or c.args.statements.now c.loop-statement.statement-index 0 c.loop-statement-test.true in
    rw (p.1, p.2)
    (refused_one_on c.args.scopes.now.located c.args.statements.now c.loop-statement.statement-index _ (g.M.Maker.refusals c.loop-statement.maker) (g.M.Maker.refusals c.args.maker.now)
    (g.M.Maker.refusals c.ask_one.new.maker) (g.M.Maker.last_refused c.ask_one.new.maker) c.in_err-ask_one.field-0.0 c.loop-statement.invariant.2 at
    (all_at (IsReadable c.args.scopes.now.located) c.args.statements.now c.loop-statement.statement-index _ c.requires.readable at) c.in_err-ask_one.ensures.fault)
