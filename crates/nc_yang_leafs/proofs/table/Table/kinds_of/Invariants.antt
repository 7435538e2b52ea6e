use Rattle.std.proofs.Common.{ℕ, Bool, List}
use Rattle.nc_yang_leafs.specs.inner.Nodes.{AreGiven, IsKnown, basis_of}
use Rattle.nc_yang_leafs.proofs.table.Table.kinds_of.Given as goal

abbrev pub invariant-loop-number : goal.invariant-loop-number
invariant-loop-number g l =
    (on : ℕ → List ℕ → Bool) → IsKnown (basis_of on l.site l.plan) l.site.meanings.now l.site.marks.now
    → AreGiven (g.D.Derives.derived l.identities) (basis_of on l.site l.plan) l.site l.self l.kinds l.number
