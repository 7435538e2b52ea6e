use Rattle.std.proofs.Common.{◌∙◌, ap, refl}
use Rattle.nc_branches.proofs.Leading.{put_top}
use Rattle.nc_branches.proofs.Turned.{part_itself}
use Rattle.nc_branches.proofs.lay.lay_by.Goals as goal

pub returns-in-Kept : goal.returns-in-Kept
returns-in-Kept c =
    let laid = ap (λ l. l.laid) c.lay.view_is in
    let inner = rw c.in-Kept.is at c.in_ok-put.ensures in
    let turned = c.turn_at-turn.ensures c.args.lay.now.laid in
    let aim = rw c.laid-aim.ensures at (rw laid at inner) in
    let turn = rw c.laid-aim.ensures at turned in
    let free = rw c.laid-aim.ensures at (rw laid at c.is_free-free.ensures) in
    let put = put_top _ c.args.lay.now.laid c.args.lay.now.laid c.requires.under (aim.put (turn (part_itself _ c.args.lay.now.laid refl)) free) in
    rw c.in_ok-copy-in-Kept.ensures (laid ∙ put)

pub returns : goal.returns
returns c =
    let laid = ap (λ l. l.laid) c.lay.view_is in
    let inner = rw c.in-Made.is at c.in_ok-put.ensures in
    let turned = c.turn_at-turn.ensures c.args.lay.now.laid in
    let aim = rw c.laid-aim.ensures at (rw laid at inner) in
    let turn = rw c.laid-aim.ensures at turned in
    let free = rw c.laid-aim.ensures at (rw laid at c.is_free-free.ensures) in
    put_top _ c.args.lay.now.laid c.in-Made.tree.rows c.requires.under (aim.put (turn (part_itself _ c.args.lay.now.laid refl)) free)
