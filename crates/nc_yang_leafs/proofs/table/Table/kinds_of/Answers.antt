use Rattle.std.proofs.Common.{◌≡◌, ◌∙◌, length, sym, ap, subst, arith}
use Rattle.std.specs.Option.{option_copied}
use Rattle.std.proofs.lemmas.Result.{err_from_is_err_and}
use Rattle.nc_yang_leafs.specs.inner.Nodes.{HaveKinds, basis_of}
use Rattle.nc_yang_leafs.proofs.GiveLemmas.{breaks_leafref, given_first, given_more, may_give, on_broken}
use Rattle.nc_yang_leafs.proofs.table.Table.kinds_of.Goals as goal

pub returns-in_err-kind_of-clause-fault : goal.returns-in_err-kind_of-clause-fault
returns-in_err-kind_of-clause-fault g c =
    let p = err_from_is_err_and c.from_residual.result c.from_residual.ensures.1 in
    rw (p.1, p.2)
    (on_broken c.in_err-kind_of.field-0.0 (λ fault breaks. λ on known.
    breaks_leafref (g.D.Derives.derived c.args.identities.now) on c.args.site.now c.args.plan.now known c.loop-number.number c.in-Some.node.now fault (sym c.node.ensures ∙ ap option_copied c.in-Some.is)
    (breaks on (may_give (g.D.Derives.derived c.args.identities.now) on c.args.site.now c.args.plan.now known c.loop-number.number c.in-Some.node.now c.loop-number.self c.loop-number.kinds
    (sym c.node.ensures ∙ ap option_copied c.in-Some.is) (c.loop-number.invariant on known)))) c.in_err-kind_of.ensures.fault)

pub loop-number-init : goal.loop-number-init
loop-number-init g c = λ on known.
    given_first (g.D.Derives.derived c.args.identities.now) on c.args.site.now c.args.plan.now known c.requires.firsts c.args.self.now c.new-kinds.result c.requires.blank c.new-kinds.ensures

pub loop-number-preserved : goal.loop-number-preserved
loop-number-preserved g c = λ on known.
    given_more (g.D.Derives.derived c.args.identities.now) on c.args.site.now c.args.plan.now known c.loop-number.number c.in-Some.node.now c.loop-number.self c.kind_of.new.self c.loop-number.kinds c.push.new.self
    c.in_ok-kind_of.field-0 (sym c.node.ensures ∙ ap option_copied c.in-Some.is) (c.loop-number.invariant on known)
    (c.in_ok-kind_of.ensures.ok on (may_give (g.D.Derives.derived c.args.identities.now) on c.args.site.now c.args.plan.now known c.loop-number.number c.in-Some.node.now c.loop-number.self c.loop-number.kinds
    (sym c.node.ensures ∙ ap option_copied c.in-Some.is) (c.loop-number.invariant on known))) c.in_ok-push.ensures.ok

pub returns-clause-ok : goal.returns-clause-ok
returns-clause-ok g c = λ on known.
    let end : c.loop-number.number ≡ length c.args.site.now.schema.now.nodes = omega arith in
    subst (λ z. HaveKinds (g.D.Derives.derived c.args.identities.now) (basis_of on c.args.site.now c.args.plan.now) c.loop-number.self.types z c.loop-number.kinds) end
    (c.loop-number.invariant on known).have
