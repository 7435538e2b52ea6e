use Rattle.std.proofs.lemmas.Result.{err_from_is_err_and}
use Rattle.nc_yang_nodes.specs.FeaturesOn.{is_on}
use Rattle.nc_yang.proofs.SuitedLemmas.{circle_bare, deep_bare, default_bare, leafref_bare}
use Rattle.nc_yang.proofs.suited.fitted.Goals as goal

pub returns-in_err-keep_straight : goal.returns-in_err-keep_straight
returns-in_err-keep_straight c =
    let p = err_from_is_err_and c.from_residual.result c.from_residual.ensures.1 in
    rw (p.1, p.2) (circle_bare c.args.scopes.now (is_on c.args.features.now) c.args.plan.now c.args.untyped c.in_err-keep_straight.field-0.0 c.in_err-keep_straight.ensures)

pub returns-in_err-typed : goal.returns-in_err-typed
returns-in_err-typed c =
    let p = err_from_is_err_and c.from_residual-in_err-typed.result c.from_residual-in_err-typed.ensures.1 in
    rw (p.1, p.2) (leafref_bare c.args.scopes.now (is_on c.args.features.now) c.args.plan.now c.args.untyped c.in_err-typed.field-0.0 c.in_err-typed.ensures)

pub returns-in_err-keep_depth : goal.returns-in_err-keep_depth
returns-in_err-keep_depth c =
    let p = err_from_is_err_and c.from_residual-in_err-keep_depth.result c.from_residual-in_err-keep_depth.ensures.1 in
    rw (p.1, p.2)
    (deep_bare c.args.scopes.now (is_on c.args.features.now) c.args.plan.now c.args.untyped c.in_ok-typed.typed c.in_ok-keep_straight.ensures c.in_ok-typed.ensures
    c.in_err-keep_depth.field-0.0 c.in_err-keep_depth.ensures)

pub returns-in_err-keep_defaults : goal.returns-in_err-keep_defaults
returns-in_err-keep_defaults c =
    let p = err_from_is_err_and c.from_residual-in_err-keep_defaults.result c.from_residual-in_err-keep_defaults.ensures.1 in
    rw (p.1, p.2)
    (default_bare c.args.scopes.now (is_on c.args.features.now) c.args.plan.now c.args.untyped c.in_ok-typed.typed c.in_ok-keep_straight.ensures c.in_ok-typed.ensures
    c.in_err-keep_defaults.field-0.0 (c.in_err-keep_defaults.ensures c.requires.prefixes (c.requires.ready c.in_ok-typed.typed c.in_ok-typed.ensures)))

pub returns : goal.returns
returns c = record {
  straight = c.in_ok-keep_straight.ensures;
  typings = c.in_ok-typed.ensures;
  shallow = c.in_ok-keep_depth.ensures;
  defaults = c.in_ok-keep_defaults.ensures c.requires.prefixes (c.requires.ready c.in_ok-typed.typed c.in_ok-typed.ensures);
}
