use Rattle.std.proofs.Common.{rules, ◌≡◌, ℕ, List, [], length, Some, None, subst, sym, ◌∙◌}
use Rattle.std.specs.List.{All}
use Rattle.std.specs.Option.{MatchOption}
use Rattle.nc_yang_scopes.specs.Spaces.{KeepsSpaces}
use Rattle.nc_yang.specs.Rules.{BreaksText}
use Rattle.nc_yang.proofs.Ruling.{by_names_in, twin_found}
use Rattle.nc_yang.proofs.rules.first_break.Goals as goal

pub returns-in-Some-2 : goal.returns-in-Some-2
returns-in-Some-2 c = twin_found c.args.texts.now c.in_ok-found.field-0 c.in-Some-2.found c.in-Some-2.is c.in_ok-found.ensures

pub returns : goal.returns
returns c =
    by_names_in c.args.texts.now c.args.scopes.now.texts c.first_by_names.result c.requires c.in_default.ensures
    (sym c.in_ok-found.ensures ∙ c.in_default-2.is)
    (subst (λ o. MatchOption o (All KeepsSpaces c.args.texts.now) (BreaksText c.args.texts.now)) c.in_default-3.is
    c.in_ok-found-2.ensures)
    c.in_default-first_in_state.ensures
    c.first_by_names.ensures
