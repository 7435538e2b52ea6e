use Rattle.std.proofs.Common.{◌≡◌, ◌∷◌, true}
use Rattle.nc_nacm.specs.inner.Marks.{is_among}
use Rattle.nc_nacm.proofs.anchors.rarest.Given as goal

abbrev pub invariant-others : goal.invariant-others
invariant-others l = is_among (l.first ∷ l.others) l.best ≡ true
