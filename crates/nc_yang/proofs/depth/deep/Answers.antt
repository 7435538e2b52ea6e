use Rattle.std.proofs.Common.{◌∙◌, ap, length, map, replicate, subst, sym, true}
use Rattle.std.specs.List.{list_any}
use Rattle.nc_yang.specs.Depths.{asked_of}
use Rattle.nc_yang.specs.inner.Marked.{AreDeep, is_marked}
use Rattle.nc_yang.proofs.DepthLemmas.{deep_at_first, deep_next}
use Rattle.nc_yang.proofs.depth.deep.Goals as goal

pub loop-init : goal.loop-init
loop-init c =
    subst (AreDeep c.args.schema.now 0) (sym (c.in_ok-marks.ensures ∙ ap (λ types. replicate (length types) true) c.types.ensures.types))
    (deep_at_first c.args.schema.now)

pub loop-preserved : goal.loop-preserved
loop-preserved c =
    subst (AreDeep c.args.schema.now _)
    (sym (c.in_ok-marks-2.ensures ∙ ap (λ marks. map (λ found. list_any (is_marked marks) (asked_of c.args.schema.now found)) c.args.schema.now.types) c.as_slice.ensures))
    (deep_next c.args.schema.now c.loop.counter c.loop.marks c.loop.invariant)
