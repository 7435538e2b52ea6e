use Rattle.std.proofs.Common.{◌≡◌, ◌≤◌, ◌-◌, ◌++◌, length}
use Rattle.std.specs.Prelude.{map}
use Rattle.std.specs.List.{filter}
use Rattle.nc_schema.specs.Places.{is_of, parts, place_of}
use Rattle.nc_defaults.specs.Within.{AreWithin, place_here, places_in, rows_between}
use Rattle.nc_validate.proofs.entries.entries.Given as goal

abbrev pub invariant-part : goal.invariant-part
invariant-part l = record {
  after : l.here.from ≤ l.at;
  end : l.at ≤ l.here.to;
  places : places_in l.config l.out
      ++ map (place_of l.schema (place_here l.config l.steps l.here) l.child.1.now) (filter (is_of l.child.0) (parts (length l.steps) (rows_between l.config l.at l.here.to)))
      ≡ map (place_of l.schema (place_here l.config l.steps l.here) l.child.1.now) (filter (is_of l.child.0) (parts (length l.steps) (rows_between l.config l.here.from l.here.to)));
  within : AreWithin l.config l.out;
}

abbrev pub decreases-part : goal.decreases-part
decreases-part l = l.here.to - l.at
