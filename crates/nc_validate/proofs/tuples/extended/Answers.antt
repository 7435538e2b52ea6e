use Rattle.std.proofs.Common.{◌∙◌, ◌++◌, ◌∷◌, [], ℕ, List, Bor, map, sym, ap}
use Rattle.nc_validate.specs.inner.Tuples.{all_texts, texts}
use Rattle.nc_validate.proofs.TuplesLemmas.{extended_next}
use Rattle.nc_validate.proofs.tuples.extended.Goals as goal

pub loop-tuple-preserved : goal.loop-tuple-preserved
loop-tuple-preserved c =
    c.in_ok-out.ensures
    ∙ ap (λ (t : List (Bor (List ℕ))). all_texts c.loop-tuple.out ++ map (λ value. texts t ++ value ∷ []) (texts c.args.values.now)) c.as_slice.ensures
    ∙ ap (λ (ts : List (List (List ℕ))). ts ++ map (λ value. texts c.tuple-item.result ++ value ∷ []) (texts c.args.values.now)) c.loop-tuple.invariant
    ∙ sym (extended_next c.args.tuples.now (texts c.args.values.now) c.loop-tuple.tuple-index c.tuple-item.result c.loop-tuple-test.true c.tuple-item.is)
