use Rattle.std.proofs.Common.{◌≡◌, true, refl, subst, arith}
use Rattle.std.specs.Prelude.{Some, IfSome, slice_get}
use Rattle.nc_schema.specs.Kinds.{has_value}
use Rattle.nc_yang_leafs.specs.inner.Nodes.{basis_of}
use Rattle.nc_yang_leafs.specs.inner.Sites.{work}
use Rattle.nc_yang_leafs.proofs.GiveLemmas.{breaks_kind, gives_kind, if_err_on, if_ok_on, on_broken}
use Rattle.nc_yang_leafs.proofs.table.Table.kind_of.Goals as goal

pub returns-clause-ok : goal.returns-clause-ok
returns-clause-ok g c =
    let valued : has_value c.args.kind ≡ true = (let e = c.has_value.ensures in let f = c.if-not-has_value.ensures in let h = c.if-not-has_value.false in grind arith) in
    if_ok_on c.give.result (λ number gives. λ on may.
    gives_kind (g.D.Derives.derived c.args.identities.now) (basis_of on c.args.site.now c.args.plan.now) (work c.args.site.now c.args.node) c.args.kind valued c.args.self.now may refl refl c.in-Some.statement
    (λ l e. subst (λ o. IfSome o (λ number. slice_get c.args.site.now.scopes.now.located number ≡ Some l)) c.in-Some.is (c.type_statement.ensures l e))
    c.give.new.self number (gives on may.are)) c.give.ensures.ok

pub returns-clause-fault : goal.returns-clause-fault
returns-clause-fault g c =
    let valued : has_value c.args.kind ≡ true = (let e = c.has_value.ensures in let f = c.if-not-has_value.ensures in let h = c.if-not-has_value.false in grind arith) in
    if_err_on c.give.result (λ stop. on_broken stop (λ fault loses. λ on may.
    breaks_kind (g.D.Derives.derived c.args.identities.now) (basis_of on c.args.site.now c.args.plan.now) (work c.args.site.now c.args.node) c.args.kind valued c.args.self.now may refl refl c.in-Some.statement
    (λ l e. subst (λ o. IfSome o (λ number. slice_get c.args.site.now.scopes.now.located number ≡ Some l)) c.in-Some.is (c.type_statement.ensures l e))
    fault (loses on may.are))) c.give.ensures.fault
