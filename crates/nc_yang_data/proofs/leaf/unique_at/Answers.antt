use Rattle.std.proofs.Common.{◌≡◌, None, option_map, sym, subst, ◌∙◌}
use Rattle.nc_yang_data.specs.Leafs.{leaf_below, unique_at}
use Rattle.nc_yang_data.specs.inner.Cases.{case_test}
use Rattle.nc_yang_data.specs.inner.Words.{names_of}
use Rattle.nc_yang_data.proofs.LeafLemmas.{further}
use Rattle.nc_yang_data.proofs.leaf.unique_at.Goals as goal

pub returns-in_default-2 : goal.returns-in_default-2
returns-in_default-2 c =
    sym
    (subst (λ left. unique_at c.args.scopes.now.texts c.args.schema.now (case_test c.args.cases.now) c.args.text c.args.number c.args.word.now
    ≡ leaf_below c.args.scopes.now.texts c.args.schema.now (case_test c.args.cases.now) c.args.text c.loop-left.way (names_of (option_map (λ rest. rest.now) left)))
    c.in-Some.is c.loop-left.invariant
    ∙ further c.args.scopes.now.texts c.args.schema.now (case_test c.args.cases.now) c.args.text c.loop-left.way c.in-Some.rest.now c.next_name.result.0.now c.in-Some-local_name.local.now
    c.next_name.result.1 c.next_name.ensures c.if-is_none.ensures (sym c.in-Some-local_name.ensures) None (sym c.in_ok-later.ensures ∙ c.in_default-2.is))

pub returns : goal.returns
returns c =
    sym
    (subst (λ left. unique_at c.args.scopes.now.texts c.args.schema.now (case_test c.args.cases.now) c.args.text c.args.number c.args.word.now
    ≡ leaf_below c.args.scopes.now.texts c.args.schema.now (case_test c.args.cases.now) c.args.text c.loop-left.way (names_of (option_map (λ rest. rest.now) left)))
    c.in_default.is c.loop-left.invariant)
