use Rattle.std.proofs.Common.{subst, sym}
use Rattle.std.proofs.lemmas.Result.{err_from_is_err_and}
use Rattle.nc_yang_leafs.specs.Conditions.{holds}
use Rattle.nc_yang_nodes.specs.FeaturesOn.{is_on}
use Rattle.nc_yang.specs.Typedefs.{AreJudged}
use Rattle.nc_yang.proofs.SuitedLemmas.{typedefs_blank, typedefs_broken, typedefs_ready, typedefs_suited, typedefs_whole}
use Rattle.nc_yang.proofs.suited.suited_typedefs.Goals as goal

pub fitted-requires-clause-whole : goal.fitted-requires-clause-whole
fitted-requires-clause-whole c =
    typedefs_whole c.args.scopes.now (is_on c.args.features.now) c.requires.texts c.requires.types c.as_slice-numbers.result.now
    (subst (AreJudged (holds c.args.scopes.now.texts (is_on c.args.features.now)) c.args.scopes.now) (sym c.as_slice-numbers.ensures)
    (c.in_ok-found.ensures (holds c.args.scopes.now.texts (is_on c.args.features.now)) c.requires.meanings))
    c.in_ok-plan.plan c.in_ok-untyped.untyped c.in_ok-plan.ensures c.in_ok-untyped.ensures

pub fitted-requires-clause-blank : goal.fitted-requires-clause-blank
fitted-requires-clause-blank c =
    typedefs_blank c.args.scopes.now (is_on c.args.features.now) c.requires.texts c.requires.types c.as_slice-numbers.result.now
    (subst (AreJudged (holds c.args.scopes.now.texts (is_on c.args.features.now)) c.args.scopes.now) (sym c.as_slice-numbers.ensures)
    (c.in_ok-found.ensures (holds c.args.scopes.now.texts (is_on c.args.features.now)) c.requires.meanings))
    c.in_ok-plan.plan c.in_ok-untyped.untyped c.in_ok-plan.ensures c.in_ok-untyped.ensures

pub fitted-requires-clause-ready : goal.fitted-requires-clause-ready
fitted-requires-clause-ready c =
    typedefs_ready c.args.scopes.now (is_on c.args.features.now) c.requires.texts c.requires.types c.as_slice-numbers.result.now
    (subst (AreJudged (holds c.args.scopes.now.texts (is_on c.args.features.now)) c.args.scopes.now) (sym c.as_slice-numbers.ensures)
    (c.in_ok-found.ensures (holds c.args.scopes.now.texts (is_on c.args.features.now)) c.requires.meanings))
    c.in_ok-plan.plan c.in_ok-untyped.untyped c.in_ok-plan.ensures c.in_ok-untyped.ensures

pub returns-in_err-typed : goal.returns-in_err-typed
returns-in_err-typed c =
    let p = err_from_is_err_and c.from_residual-in_err-typed.result c.from_residual-in_err-typed.ensures.1 in
    rw (p.1, p.2)
    (typedefs_broken c.args.scopes.now (is_on c.args.features.now) c.requires.texts c.requires.types c.as_slice-numbers.result.now
    (subst (AreJudged (holds c.args.scopes.now.texts (is_on c.args.features.now)) c.args.scopes.now) (sym c.as_slice-numbers.ensures)
    (c.in_ok-found.ensures (holds c.args.scopes.now.texts (is_on c.args.features.now)) c.requires.meanings))
    c.in_ok-plan.plan c.in_ok-untyped.untyped c.in_ok-plan.ensures c.in_ok-untyped.ensures c.in_err-typed.field-0.0 c.in_err-typed.ensures)

pub returns : goal.returns
returns c =
    typedefs_suited c.args.scopes.now (is_on c.args.features.now) c.requires.texts c.requires.types c.as_slice-numbers.result.now
    (subst (AreJudged (holds c.args.scopes.now.texts (is_on c.args.features.now)) c.args.scopes.now) (sym c.as_slice-numbers.ensures)
    (c.in_ok-found.ensures (holds c.args.scopes.now.texts (is_on c.args.features.now)) c.requires.meanings))
    c.in_ok-plan.plan c.in_ok-untyped.untyped c.in_ok-plan.ensures c.in_ok-untyped.ensures c.in_ok-typed.typed c.in_ok-typed.ensures
