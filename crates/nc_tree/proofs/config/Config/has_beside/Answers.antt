use Rattle.std.proofs.Common.{◌≡◌, List, ◌∙◌, sym, subst}
use Rattle.std.specs.Prelude.{ℕ, IfOk}
use Rattle.nc_schema.specs.Standing.{has_entry}
use Rattle.nc_tree.proofs.LookLemmas.{beside_is}
use Rattle.nc_tree.proofs.config.Config.has_beside.Goals as goal

pub returns-in-Some : goal.returns-in-Some
returns-in-Some c =
    let steps = sym c.as_slice.ensures ∙ c.in-Some.ensures.cases.0 in
    subst (λ (x : List (List (List ℕ))). IfOk c.has_entry.result (λ it. it ≡ has_entry c.args.keys.now x))
    (beside_is c.args.self.now c.args.path.now.steps c.in-Some.above.now c.in-Some.step.now steps) c.has_entry.ensures
