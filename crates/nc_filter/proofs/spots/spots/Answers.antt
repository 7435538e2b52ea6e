use Rattle.std.proofs.Common.{List, ℕ, subst}
use Rattle.nc_filter.specs.inner.Labels.{AreSpotsIn}
use Rattle.nc_filter.proofs.SpotLemmas.{spots_known}
use Rattle.nc_filter.proofs.spots.spots.Goals as goal

pub returns : goal.returns
returns c =
    spots_known c.args.groups.now c.args.whole.now c.in_ok-held.held c.in_ok-found.found c.in_ok-held.ensures
    (subst (λ (held : List ℕ). AreSpotsIn held c.args.whole.now c.in_ok-found.found) c.as_slice.ensures c.in_ok-found.ensures)
