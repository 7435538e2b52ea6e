use Rattle.nc_refs.specs.inner.Trails.{AreBranchesAt}
use Rattle.nc_refs.proofs.TrailLemmas.{with_entry}
use Rattle.nc_refs.proofs.trail.Trail.with_branches.Goals as goal

pub returns : goal.returns
returns c = λ schema trail. record {
  places = trail.places;
  branches =
      with_entry (AreBranchesAt c.args.config.now) c.args.self.branches c.insert.new.self c.args.above c.in_ok-branches.branches
      c.in_ok-branches.ensures c.in_ok-insert.ensures.updates.0 trail.branches;
}
