use Rattle.std.proofs.Common.{List, sym, subst}
use Rattle.nc_names.specs.declared.path.Step.{Step}
use Rattle.nc_payload.specs.inner.Earlier.{AreNumbersOf, AreSought}
use Rattle.nc_payload.proofs.EarlierLemmas.{numbers_more, sought_more}
use Rattle.nc_payload.proofs.indexed.Indexed.with.Goals as goal

pub invariant_of-result : goal.invariant_of-result
invariant_of-result c =
    let before = c.self.inside in
    subst (λ (list : List Step). AreSought before.each list c.in_ok-steps.steps × AreNumbersOf list c.in_ok-numbers.numbers) (sym c.in_ok-push.ensures.ok) (
      sought_more before.each before.list before.steps c.in_ok-steps.steps c.args.step c.self.invariant.0 c.in_ok-steps.ensures,
      numbers_more before.list before.numbers c.in_ok-numbers.numbers c.args.step c.self.invariant.1 c.in_ok-numbers.ensures,
    )
