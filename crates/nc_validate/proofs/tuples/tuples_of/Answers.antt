use Rattle.std.proofs.Common.{◌∙◌, ℕ, List, Bor, get_or, sym, ap}
use Rattle.nc_defaults.specs.Within.{place_here}
use Rattle.nc_schema.specs.InUse.{values_below}
use Rattle.nc_schema.specs.Places.{Place}
use Rattle.nc_validate.specs.inner.Tuples.{all_texts, extended, texts}
use Rattle.nc_validate.proofs.TuplesLemmas.{tuples_next}
use Rattle.nc_validate.proofs.tuples.tuples_of.Goals as goal

pub loop-leaf-preserved : goal.loop-leaf-preserved
loop-leaf-preserved c =
    let place : Place = place_here c.args.config.now c.args.entry.now.steps c.args.entry.now.here in
    c.in_ok-out-2.ensures
    ∙ ap (λ (ts : List (List (Bor (List ℕ)))). extended (all_texts ts) (texts c.as_slice-in-loop-leaf.result.now)) c.as_slice.ensures
    ∙ ap (λ (vs : List (Bor (List ℕ))). extended (all_texts c.loop-leaf.out) (texts vs)) c.as_slice-in-loop-leaf.ensures
    ∙ ap (λ (vs : List (List ℕ)). extended (all_texts c.loop-leaf.out) vs) c.in_ok-values.ensures
    ∙ ap (λ (ts : List (List (List ℕ))). extended ts (values_below c.args.children.now place (get_or c.args.leafs.now c.loop-leaf.leaf-index 0))) c.loop-leaf.invariant
    ∙ sym (tuples_next c.args.children.now c.args.leafs.now c.loop-leaf.leaf-index place c.loop-leaf-test.true)
