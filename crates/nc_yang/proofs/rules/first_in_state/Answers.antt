use Rattle.std.proofs.Common.{false, length, subst, refl, take_all}
use Rattle.std.specs.List.{All}
use Rattle.std.proofs.lemmas.List.Elements.{All-more}
use Rattle.std.proofs.lemmas.Option.{slice_get_read}
use Rattle.nc_yang_scopes.specs.States.{KeepsState}
use Rattle.nc_yang.specs.Rules.{configured}
use Rattle.nc_yang.proofs.rules.first_in_state.Goals as goal

pub returns-in-Some : goal.returns-in-Some
returns-in-Some c =
    configured c.loop-text.text c.index-texts-text.result c.in-Some.fault
    (slice_get_read c.args.texts.now (length c.args.texts.now) c.loop-text.text c.index-texts-text.result refl
    c.loop-text-test.true c.index-texts-text.is) c.in-Some.ensures

pub loop-text-preserved : goal.loop-text-preserved
loop-text-preserved c =
    All-more (KeepsState false) c.args.texts.now c.loop-text.text c.index-texts-text.result c.loop-text-test.true c.loop-text.invariant
    (subst (KeepsState false) c.index-texts-text.is c.in_default.ensures)

pub returns : goal.returns
returns c =
    subst (All (KeepsState false)) (take_all c.loop-text.text c.args.texts.now c.loop-text-test.false) c.loop-text.invariant
