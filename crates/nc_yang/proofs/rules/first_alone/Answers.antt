use Rattle.std.proofs.Common.{rules, ◌≡◌, ◌<◌, ℕ, List, length, take, subst, refl, take_all}
use Rattle.std.specs.List.{All}
use Rattle.std.proofs.lemmas.List.Elements.{All-more}
use Rattle.std.proofs.lemmas.Option.{slice_get_read}
use Rattle.nc_yang_statements.specs.Rules.{KeepsRules}
use Rattle.nc_yang.specs.Rules.{alone}
use Rattle.nc_yang.proofs.rules.first_alone.Goals as goal

pub returns-in-Some : goal.returns-in-Some
returns-in-Some c =
    alone c.loop-text.text c.index-texts-text.result c.in-Some.fault
    (slice_get_read c.args.texts.now (length c.args.texts.now) c.loop-text.text c.index-texts-text.result refl
    c.loop-text-test.true c.index-texts-text.is) c.in-Some.ensures

pub loop-text-preserved : goal.loop-text-preserved
loop-text-preserved c =
    All-more KeepsRules c.args.texts.now c.loop-text.text c.index-texts-text.result c.loop-text-test.true c.loop-text.invariant
    (subst KeepsRules c.index-texts-text.is c.in_default.ensures)

pub returns : goal.returns
returns c =
    subst (All KeepsRules) (take_all c.loop-text.text c.args.texts.now c.loop-text-test.false) c.loop-text.invariant
