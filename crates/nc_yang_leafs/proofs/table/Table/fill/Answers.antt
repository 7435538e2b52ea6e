use Rattle.std.proofs.Common.{◌∙◌, sym, ap}
use Rattle.std.specs.Prelude.{slice_get}
use Rattle.std.proofs.lemmas.Result.{err_from_is_err_and}
use Rattle.nc_yang_leafs.specs.inner.Sites.{work}
use Rattle.nc_yang_leafs.proofs.StepLemmas.{all_filled, lost_on, step_on}
use Rattle.nc_yang_leafs.proofs.table.Table.fill.Goals as goal

pub returns-in_default-clause-ok : goal.returns-in_default-clause-ok
returns-in_default-clause-ok g c = λ on are top way.
    all_filled (g.D.Derives.derived c.args.identities.now) (work c.args.site.now c.args.node) on top c.args.self.now c.loop.self (c.loop.invariant on are top way)
    (ap (slice_get c.loop.self.plans) (sym c.len.ensures) ∙ sym c.get.ensures.value ∙ sym c.copied.ensures ∙ c.in_default.is)

pub returns-in_err-add-clause-fault : goal.returns-in_err-add-clause-fault
returns-in_err-add-clause-fault g c =
    let p = err_from_is_err_and c.from_residual.result c.from_residual.ensures.1 in
    rw (p.1, p.2)
    (lost_on (g.D.Derives.derived c.args.identities.now) (work c.args.site.now c.args.node) c.in-Some.plan c.args.self.now c.loop.self c.in_err-add.field-0.0
    (ap (slice_get c.loop.self.plans) (sym c.len.ensures) ∙ sym c.get.ensures.value ∙ sym c.copied.ensures ∙ c.in-Some.is) c.loop.invariant c.in_err-add.ensures.fault)

pub loop-preserved : goal.loop-preserved
loop-preserved g c = λ on are top way.
    step_on (g.D.Derives.derived c.args.identities.now) (work c.args.site.now c.args.node) on are top c.in-Some.plan c.args.self.now c.loop.self c.add.new.self (c.loop.invariant on are top way)
    (ap (slice_get c.loop.self.plans) (sym c.len.ensures) ∙ sym c.get.ensures.value ∙ sym c.copied.ensures ∙ c.in-Some.is) c.in_ok-add.ensures.ok
