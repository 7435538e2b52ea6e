use Rattle.std.proofs.Common.{◌≢◌, ◌∙◌, ap, sym, subst}
use Rattle.std.specs.Prelude.{Some, is_some}
use Rattle.std.specs.List.{AllPairs}
use Rattle.std.proofs.lemmas.List.{take_all}
use Rattle.std.proofs.lemmas.Option.{slice_get-get_or}
use Rattle.nc_yang_leafs.proofs.ReadLemmas.{apart_next, found_again, seen_more}
use Rattle.nc_yang_leafs.proofs.values.first_again.Goals as goal

pub returns-then-is_some-clause-again : goal.returns-then-is_some-clause-again
returns-then-is_some-clause-again c =
    found_again c.args.values.now c.loop-place.place c.as_str.result.now
    (slice_get-get_or c.args.values.now c.loop-place.place c.index-values-place.result c.loop-place-test.true ∙ ap Some (sym c.index-values-place.is ∙ sym c.as_str.ensures))
    c.loop-place.seen c.loop-place.invariant.names (sym (c.if-is_some.ensures ∙ ap is_some c.get.ensures)) c.loop-place.invariant.apart c.loop-place-test.true

pub loop-place-preserved : goal.loop-place-preserved
loop-place-preserved c = record {
  apart =
      apart_next c.args.values.now c.loop-place.place c.as_str.result.now
      (slice_get-get_or c.args.values.now c.loop-place.place c.index-values-place.result c.loop-place-test.true ∙ ap Some (sym c.index-values-place.is ∙ sym c.as_str.ensures))
      c.loop-place.seen c.loop-place.invariant.names (sym (c.if-is_some.ensures ∙ ap is_some c.get.ensures)) c.loop-place.invariant.apart;
  names =
      seen_more c.args.values.now c.loop-place.place c.as_str-in-loop-place.result.now
      (slice_get-get_or c.args.values.now c.loop-place.place c.index-values-place.result c.loop-place-test.true ∙ ap Some (sym c.index-values-place.is ∙ sym c.as_str-in-loop-place.ensures))
      c.loop-place.seen c.in_ok-seen.seen c.loop-place.place c.loop-place.invariant.names c.in_ok-seen.ensures;
}

pub returns : goal.returns
returns c = record {
  again = subst (AllPairs (λ one later. one ≢ later)) (take_all c.loop-place.place c.args.values.now c.loop-place-test.false) c.loop-place.invariant.apart;
  within = tt;
}
