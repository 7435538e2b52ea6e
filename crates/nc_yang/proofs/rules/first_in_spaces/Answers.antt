use Rattle.std.proofs.Common.{rules, ◌≡◌, ◌<◌, ℕ, List, length, take, subst, refl, take_all}
use Rattle.std.specs.List.{All}
use Rattle.std.specs.Option.{MatchOption}
use Rattle.std.proofs.lemmas.List.Elements.{All-more}
use Rattle.std.proofs.lemmas.Option.{slice_get_read}
use Rattle.nc_yang_scopes.specs.Spaces.{BreaksSpaces, KeepsSpaces}
use Rattle.nc_yang.specs.Rules.{renamed}
use Rattle.nc_yang.proofs.rules.first_in_spaces.Goals as goal

pub returns-in-Some : goal.returns-in-Some
returns-in-Some c =
    renamed c.loop-text.text c.index-texts-text.result c.in-Some.fault
    (slice_get_read c.args.texts.now (length c.args.texts.now) c.loop-text.text c.index-texts-text.result refl
    c.loop-text-test.true c.index-texts-text.is)
    (subst (λ o. MatchOption o (KeepsSpaces c.index-texts-text.result) (BreaksSpaces c.index-texts-text.result)) c.in-Some.is c.in_ok-fault.ensures)

pub loop-text-preserved : goal.loop-text-preserved
loop-text-preserved c =
    All-more KeepsSpaces c.args.texts.now c.loop-text.text c.index-texts-text.result c.loop-text-test.true c.loop-text.invariant
    (subst KeepsSpaces c.index-texts-text.is (subst (λ o. MatchOption o (KeepsSpaces c.index-texts-text.result) (BreaksSpaces c.index-texts-text.result)) c.in_default.is c.in_ok-fault.ensures))

pub returns : goal.returns
returns c =
    subst (All KeepsSpaces) (take_all c.loop-text.text c.args.texts.now c.loop-text-test.false) c.loop-text.invariant
