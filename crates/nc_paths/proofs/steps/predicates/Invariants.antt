-- The predicates so far, and those of the rest.
use Rattle.std.proofs.Common.{◌≡◌, ◌-◌, length}
use denote.Shadow.{shadow}
use denote.Text.{Utf8}
use Rattle.nc_schema.specs.PathWords.{predicates}
use Rattle.nc_paths.specs.inner.Prepend.{prepend}
use Rattle.nc_paths.proofs.steps.predicates.Given as goal

abbrev pub invariant-loop-turn : goal.invariant-loop-turn
invariant-loop-turn l = (predicates (length l.text) l.text ≡ prepend l.found (predicates (length l.text - l.turn) l.rest)) × shadow (Utf8 l.rest)
