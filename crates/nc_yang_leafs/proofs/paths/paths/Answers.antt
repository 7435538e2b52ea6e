use Rattle.std.proofs.Common.{◌≡◌, sym, subst}
use Rattle.std.specs.Prelude.{true, Some}
use Rattle.std.proofs.lemmas.Result.{IfOk-weaker}
use Rattle.nc_yang_scopes.specs.Numbers.{IsNumber}
use Rattle.nc_yang_leafs.specs.Bases.{type_of}
use Rattle.nc_yang_leafs.specs.inner.Links.{basis_of}
use Rattle.nc_yang_leafs.specs.inner.Plans.{is_valued}
use Rattle.nc_yang_leafs.proofs.UseLemmas.{paths_are}
use Rattle.nc_yang_leafs.proofs.paths.paths.Goals as goal

pub returns : goal.returns
returns c =
    let valued : is_valued c.args.site.now.schema.now c.args.leaf ≡ true = sym c.if-not-is_valued.ensures in
    let is : IsNumber c.args.site.now.scopes.now.located (Some c.in-Some.statement) (type_of c.args.site.now.scopes.now c.args.site.now.plan.now c.args.leaf) =
    subst (λ o. IsNumber c.args.site.now.scopes.now.located o (type_of c.args.site.now.scopes.now c.args.site.now.plan.now c.args.leaf)) c.in-Some.is c.type_statement.ensures in
    IfOk-weaker c.type_paths.result _ _
    (λ paths h. λ on are.
    paths_are (basis_of on c.args.site.now) c.args.leaf c.args.site.now.meanings.now are valued c.in-Some.statement is paths h) c.type_paths.ensures
