use Rattle.std.proofs.Common.{◌≡◌, ◌++◌, option_map, subst, sym, ◌∙◌}
use Rattle.std.specs.List.{slice_split}
use Rattle.nc_names.specs.Signs.{is_white}
use Rattle.nc_yang_data.specs.Leafs as leafs
use Rattle.nc_yang_data.specs.inner.Words.{parts_of}
use Rattle.nc_yang_data.specs.inner.Cases.{case_test}
use Rattle.nc_yang_data.proofs.LeafLemmas.{leaf_more}
use Rattle.nc_yang_data.proofs.leaf.leafs_by.Goals as goal

pub loop-left-preserved : goal.loop-left-preserved
loop-left-preserved c =
    leaf_more (leafs.leaf_at c.args.naming c.args.scopes.now.texts c.args.schema.now (case_test c.args.cases.now) c.args.text c.args.number)
    (leafs.all_there (leafs.leafs_in c.args.naming c.args.scopes.now.texts c.args.schema.now (case_test c.args.cases.now) c.args.text c.args.number (slice_split is_white c.args.words.now)))
    c.loop-left.found c.in-Some-2.leafs (slice_split is_white c.in-Some.rest.now) c.next_part.result.0.now
    (parts_of (option_map (λ rest. rest.now) c.next_part.result.1))
    (subst (λ left. leafs.all_there (leafs.leafs_in c.args.naming c.args.scopes.now.texts c.args.schema.now (case_test c.args.cases.now) c.args.text c.args.number (slice_split is_white c.args.words.now))
    ≡ option_map (λ more. c.loop-left.found ++ more)
    (leafs.all_there (leafs.leafs_in c.args.naming c.args.scopes.now.texts c.args.schema.now (case_test c.args.cases.now) c.args.text c.args.number (parts_of (option_map (λ rest. rest.now) left)))))
    c.in-Some.is c.loop-left.invariant)
    c.next_part.ensures
    (sym c.in-Some-2.is ∙ c.in_ok-leafs.ensures)
