use Rattle.std.proofs.Common.{◌≡◌, true, subst, ap, ◌∙◌}
use Rattle.std.specs.Prelude.{IsSome, slice_get, option_and_then}
use Rattle.nc_yang_statements.specs.declared.keyword.Keyword.TheVariants.{Feature}
use Rattle.nc_yang_scopes.specs.Scopes.{Located, child, resolved, root}
use Rattle.nc_yang.proofs.FeatureLemmas.{first_there, means_top}
use Rattle.nc_yang.proofs.supported.feature_at.Goals as goal

pub child-first-requires : goal.child-first-requires
child-first-requires c =
    first_there (slice_get c.args.scopes.now.located c.in_ok-root.root) c.in_ok-statement.statement.now c.in_ok-statement.ensures
    (λ none. let wrong : c.is_empty.result ≡ true = c.is_empty.ensures.1 none in cc)

pub returns-clause-value : goal.returns-clause-value
returns-clause-value c =
    let texts = c.args.scopes.now.texts in
    let at = slice_get c.args.scopes.now.located c.in_ok-root.root in
    let rooted : at ≡ root texts c.args.text = c.in_ok-root.ensures in
    let there : IsSome (option_and_then (child 0) at) =
    first_there at c.in_ok-statement.statement.now c.in_ok-statement.ensures
    (λ none. let wrong : c.is_empty.result ≡ true = c.is_empty.ensures.1 none in cc) in
    c.resolve.ensures.value
    ∙ ap (option_and_then (λ (l : Located). resolved texts Feature c.args.reference.now l.place)) (c.child-first.ensures ∙ ap (option_and_then (child 0)) rooted)
    ∙ means_top texts c.args.text c.args.reference.now (subst (λ o. IsSome (option_and_then (child 0) o)) rooted there)
