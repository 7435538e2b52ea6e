use Rattle.std.proofs.Common.{ℕ, Bool, List}
use Rattle.nc_yang_scopes.specs.Scopes.{Located}
use Rattle.nc_yang_types.specs.Plans.{AreMeanings}
use Rattle.nc_yang_leafs.specs.inner.Sites.{work}
use Rattle.nc_yang_leafs.specs.inner.Tables.{Goes, IsAtStart}
use Rattle.nc_yang_leafs.proofs.table.Table.fill.Given as goal

abbrev pub invariant-loop : goal.invariant-loop
invariant-loop g l =
    (on : ℕ → List ℕ → Bool) → AreMeanings on l.site.scopes.now l.site.meanings.now → (top : Located)
    → IsAtStart (g.D.Derives.derived l.identities) on (work l.site l.node) top l.fn.self
    → Goes (g.D.Derives.derived l.identities) on (work l.site l.node) top l.fn.self l.self
