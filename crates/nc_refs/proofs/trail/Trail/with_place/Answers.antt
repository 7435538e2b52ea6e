use Rattle.nc_refs.specs.inner.Trails.{IsReached}
use Rattle.nc_refs.proofs.TrailLemmas.{with_entry}
use Rattle.nc_refs.proofs.trail.Trail.with_place.Goals as goal

pub returns : goal.returns
returns c = λ schema rows trail reached. record {
  places =
      with_entry (IsReached schema rows) c.args.self.places c.insert.new.self c.args.steps c.args.found reached
      c.in_ok-insert.ensures.updates.0 trail.places;
  branches = trail.branches;
}
