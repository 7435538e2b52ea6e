use Rattle.std.proofs.Common.{◌&&◌, not, ap, ◌∙◌, sym}
use Rattle.std.specs.Prelude.{is_some}
use Rattle.nc_yang_statements.specs.declared.keyword.Keyword.TheVariants.{Feature}
use Rattle.nc_yang_scopes.specs.Scopes.{resolved}
use Rattle.nc_yang.specs.Features.{at_top}
use Rattle.nc_yang.proofs.FeatureLemmas.{no_colon, some_there}
use Rattle.nc_yang.proofs.features.has_feature.Goals as goal

pub returns : goal.returns
returns c =
    let texts = c.args.scopes.now.texts in
    let feature = c.args.feature.now in
    let colon = no_colon feature c.split_reference.result c.split_reference.ensures (sym c.is_some.ensures ∙ c.if-is_some.false) in
    c.is_some-2.ensures
    ∙ some_there c.args.scopes.now.located c.feature_at.result (resolved texts Feature feature (at_top texts c.args.text)) c.feature_at.ensures.there c.feature_at.ensures.value
    ∙ sym (ap (λ b. not b && is_some (resolved texts Feature feature (at_top texts c.args.text))) colon)
