use Rattle.std.proofs.Common.{◌≡◌, true, subst, sym, ◌∙◌, take_all}
use Rattle.std.specs.List.{All}
use Rattle.std.proofs.lemmas.List.Elements.{All-more}
use Rattle.nc_yang.specs.Features.{is_feature}
use Rattle.nc_yang.proofs.features.first_unknown.Goals as goal

pub loop-place-preserved : goal.loop-place-preserved
loop-place-preserved c =
    All-more (λ line. is_feature c.args.scopes.now.texts line ≡ true) c.args.lines.now c.loop-place.place c.index-lines-place.result
    c.loop-place-test.true c.loop-place.invariant
    (subst (λ line. is_feature c.args.scopes.now.texts line ≡ true) c.index-lines-place.is
    (sym c.is_feature.ensures ∙ c.if-not-is_feature.false))

pub returns : goal.returns
returns c =
    subst (All (λ line. is_feature c.args.scopes.now.texts line ≡ true))
    (take_all c.loop-place.place c.args.lines.now c.loop-place-test.false) c.loop-place.invariant
