use Rattle.std.proofs.Common.{◌∙◌, sym}
use Rattle.std.proofs.lemmas.Result.{err_from_is_err_and}
use Rattle.nc_yang_leafs.specs.inner.Sites.{work}
use Rattle.nc_yang_leafs.proofs.GiveLemmas.{gives_number, on_broken, on_way}
use Rattle.nc_yang_leafs.proofs.table.Table.give.Goals as goal

pub returns-in_err-fill-clause-fault : goal.returns-in_err-fill-clause-fault
returns-in_err-fill-clause-fault g c =
    let p = err_from_is_err_and c.from_residual-in_err-fill.result c.from_residual-in_err-fill.ensures.1 in
    rw (p.1, p.2)
    (on_broken c.in_err-fill.field-0.0 (λ fault loses. λ on are ready top here. loses on are top
    (on_way (g.D.Derives.derived c.args.identities.now) (work c.args.site.now c.args.node) c.args.statement c.in-Some.plan c.in_ok-number.number (sym c.plan_for.ensures ∙ c.in-Some.is)
    c.args.self.now c.ask.new.self c.in_ok-number.ensures on are ready top here)) c.in_err-fill.ensures.fault)

pub returns-clause-ok : goal.returns-clause-ok
returns-clause-ok g c = λ on are ready top here.
    gives_number (g.D.Derives.derived c.args.identities.now) (work c.args.site.now c.args.node) c.args.statement c.in-Some.plan c.in_ok-number.number (sym c.plan_for.ensures ∙ c.in-Some.is)
    c.args.self.now c.ask.new.self c.in_ok-number.ensures on are ready top here c.fill.new.self
    (c.in_ok-fill.ensures.ok on are top
    (on_way (g.D.Derives.derived c.args.identities.now) (work c.args.site.now c.args.node) c.args.statement c.in-Some.plan c.in_ok-number.number (sym c.plan_for.ensures ∙ c.in-Some.is)
    c.args.self.now c.ask.new.self c.in_ok-number.ensures on are ready top here))
