use Rattle.std.proofs.Common.{sym, subst, length}
use Rattle.std.specs.List.{All}
use Rattle.std.proofs.lemmas.Result.{err_from_is_err_and}
use Rattle.nc_yang_statements.specs.Stops.{OnBroken}
use Rattle.nc_yang_leafs.specs.Patterns.{IsReadable, RefusesType, refusing}
use Rattle.nc_yang_leafs.specs.inner.Adding.{HasSomePatterns}
use Rattle.nc_yang_leafs.specs.inner.Assembly.{both}
use Rattle.nc_yang_leafs.proofs.AddingLemmas.{has_all, refuses_whole}
use Rattle.nc_yang_leafs.proofs.patterns.with_patterns.Goals as goal

pub set_all-requires : goal.set_all-requires
set_all-requires g c = subst (All (All (IsReadable c.args.scopes.now.located))) (sym c.as_slice.ensures) c.requires

pub returns-clause-ok : goal.returns-clause-ok
returns-clause-ok g c =
    has_all c.args.scopes.now.located c.args.typed c.set_all.new.schema
    (subst (λ z. HasSomePatterns c.args.scopes.now.located (both c.args.typed.schema z) (length z) c.set_all.new.schema) c.as_slice.ensures c.in_ok-set_all.ensures.ok)

pub returns-in_err-set_all-clause-fault : goal.returns-in_err-set_all-clause-fault
returns-in_err-set_all-clause-fault g c =
    let p = err_from_is_err_and c.from_residual.result c.from_residual.ensures.1 in
    let refusals = refusing (g.M.Maker.refusals c.args.maker.now) (g.M.Maker.refusals c.set_all.new.maker) (g.M.Maker.last_refused c.set_all.new.maker) in
    rw (p.1, p.2)
    (refuses_whole c.args.scopes.now.located c.args.typed refusals c.in_err-set_all.field-0.0
    (subst (λ z. OnBroken (RefusesType c.args.scopes.now.located (both c.args.typed.schema z) refusals) c.in_err-set_all.field-0.0) c.as_slice.ensures c.in_err-set_all.ensures.fault))
