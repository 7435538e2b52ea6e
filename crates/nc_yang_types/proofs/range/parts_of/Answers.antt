use Rattle.std.proofs.Common.{◌≡◌, ◌∷◌, Some, ◌∙◌, ap, sym}
use Rattle.std.specs.Option.{option_copied}
use Rattle.nc_yang_types.specs.Ranges.{part_of, parts_of}
use Rattle.nc_yang_types.specs.inner.Cuts.{joined, parts_left}
use Rattle.nc_yang_types.proofs.RangeLemmas.{part_more}
use Rattle.nc_yang_types.proofs.range.parts_of.Goals as goal

pub loop-left-preserved : goal.loop-left-preserved
loop-left-preserved c =
    let next = parts_left (option_copied c.next_part.result.1) in
    let read : part_of c.args.counted c.args.whole c.next_part.result.0.now ≡ Some c.in-Some-2.part =
    sym c.in_ok-part.ensures ∙ c.in-Some-2.is in
    let texts : parts_left (option_copied c.loop-left.left) ≡ c.next_part.result.0.now ∷ next =
    ap (λ o. parts_left (option_copied o)) c.in-Some.is ∙ c.next_part.ensures in
    c.loop-left.invariant ∙ ap (λ ts. joined c.loop-left.parts (parts_of c.args.counted c.args.whole ts)) texts
    ∙ part_more c.args.counted c.args.whole c.loop-left.parts c.next_part.result.0.now next c.in-Some-2.part read
    ∙ ap (λ ps. joined ps (parts_of c.args.counted c.args.whole next)) (sym c.in_ok-push.ensures.ok)
