use Rattle.std.proofs.Common.{◌≤◌, length, arith, subst}
use Rattle.nc_yang_types.specs.inner.Judging.{JudgesText}
use Rattle.nc_yang_types.proofs.CheckLemmas.{texts_all, texts_more}
use Rattle.nc_yang_types.proofs.check.first_ill_typed.Goals as goal

pub returns-in-Some : goal.returns-in-Some
returns-in-Some c = λ on are. subst (JudgesText c.args.scopes.now c.args.meanings.now c.loop-text.text) c.in-Some.is c.in_ok-fault.ensures on are

pub loop-text-preserved : goal.loop-text-preserved
loop-text-preserved c = λ on are.
    texts_more on c.args.scopes.now.texts c.loop-text.text
    (subst (JudgesText c.args.scopes.now c.args.meanings.now c.loop-text.text) c.in_default.is c.in_ok-fault.ensures on are) (c.loop-text.invariant on are)

pub returns : goal.returns
returns c =
    let all : length c.args.scopes.now.texts ≤ c.loop-text.text = omega arith in
    λ on are. texts_all on c.args.scopes.now.texts c.loop-text.text all (c.loop-text.invariant on are)
