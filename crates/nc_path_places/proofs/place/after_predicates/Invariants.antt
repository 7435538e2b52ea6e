-- The predicates so far have been read.
use Rattle.std.proofs.Common.{◌≡◌, true, length}
use denote.Shadow.{shadow}
use denote.Text.{Utf8}
use Rattle.nc_schema.specs.InstancePaths.{key_nodes}
use Rattle.nc_path_places.specs.inner.Candidates.{can_be_given}
use Rattle.nc_path_places.specs.inner.Counted.{reading_of}
use Rattle.nc_path_places.specs.inner.Going.{Keys}
use Rattle.nc_path_places.specs.inner.Halting.{Leads}
use Rattle.nc_path_places.proofs.place.after_predicates.Given as goal

abbrev pub invariant-loop-inside : goal.invariant-loop-inside
invariant-loop-inside l = record {
  leads : Leads (Keys (reading_of l.names) l.number (key_nodes l.names.schema.now l.number)) (Keys (reading_of l.names) l.number l.left) l.text l.rest;
  given : can_be_given (reading_of l.names) l.number l.left ≡ true;
  utf8 : shadow (Utf8 l.rest);
}

abbrev pub decreases-loop-inside : goal.decreases-loop-inside
decreases-loop-inside l = length l.rest
