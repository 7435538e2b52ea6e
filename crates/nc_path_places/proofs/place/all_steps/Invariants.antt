-- The steps so far have been read.
use Rattle.std.proofs.Common.{None, length}
use denote.Shadow.{shadow}
use denote.Text.{Utf8}
use Rattle.nc_path_places.specs.inner.Counted.{reading_of}
use Rattle.nc_path_places.specs.inner.Going.{Steps}
use Rattle.nc_path_places.specs.inner.Halting.{Leads}
use Rattle.nc_path_places.proofs.place.all_steps.Given as goal

abbrev pub invariant-loop-rest : goal.invariant-loop-rest
invariant-loop-rest l = record {
  leads : Leads (Steps (reading_of l.names) None) (Steps (reading_of l.names) l.above) l.text l.rest;
  utf8 : shadow (Utf8 l.rest);
}

abbrev pub decreases-loop-rest : goal.decreases-loop-rest
decreases-loop-rest l = length l.rest
