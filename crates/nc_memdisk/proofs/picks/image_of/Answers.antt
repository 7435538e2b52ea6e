use Rattle.std.proofs.Common.{ap, ◌∙◌}
use Rattle.nc_memdisk.specs.Images.{seen_one}
use Rattle.nc_memdisk.specs.Picks.{picked_one}
use Rattle.nc_memdisk.proofs.PickLemmas.{picked_item}
use Rattle.nc_memdisk.proofs.picks.image_of.Goals as goal

pub loop-call-preserved : goal.loop-call-preserved
loop-call-preserved c =
    let pick = c.args.pick in
    let call = c.call-item.result in
    picked_item pick c.args.first.now c.args.log.now c.loop-call.call-index call
    c.loop-call.image c.loop-call.seen c.in_ok-next.next c.in_ok-later.later
    c.loop-call-test.true c.call-item.is c.loop-call.invariant
    (c.in_ok-next.ensures ∙ ap (λ l. picked_one pick call l c.as_slice-in-loop-call.result.now) c.as_slice.ensures
    ∙ ap (λ l. picked_one pick call c.loop-call.image l) c.as_slice-in-loop-call.ensures)
    (c.in_ok-later.ensures ∙ ap (seen_one call) c.as_slice-in-loop-call-2.ensures)
