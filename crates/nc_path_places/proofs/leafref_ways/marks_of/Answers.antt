-- No data node is left.
use Rattle.std.proofs.Common.{rules, ◌≡◌, subst}
use Rattle.nc_path_places.specs.inner.Counted.{reading_of}
use Rattle.nc_path_places.specs.inner.LeafrefNames.{IsMarking}
use Rattle.nc_path_places.proofs.MarkLemmas.{marked}
use Rattle.nc_path_places.proofs.leafref_ways.marks_of.Goals as goal

pub returns-clause-marks : goal.returns-clause-marks
returns-clause-marks c =
    let s = reading_of c.args.names.now in
    let none : c.loop-left.left ≡ 0 = search rules in
    marked s c.args.own.now c.loop-left.marks (subst (IsMarking s c.args.own.now c.loop-left.marks) none c.loop-left.invariant.marking)
