use Rattle.std.proofs.Common.{◌≤◌, length, arith}
use Rattle.nc_branches.proofs.SameRows.{all_same}
use Rattle.nc_branches.proofs.tree.Tree.is_same_by_place.Goals as goal

pub returns : goal.returns
returns c =
    let past : length c.args.self.now.rows ≤ c.loop-place.place = omega (arith, c.loop-place-test.false, c.len-place-end.ensures) in
    all_same c.args.self.now.rows c.args.other.now.rows c.loop-place.place c.requires past c.loop-place.invariant
