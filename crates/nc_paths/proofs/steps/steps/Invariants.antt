-- The steps so far, and those of the rest.
use Rattle.std.proofs.Common.{◌≡◌, ◌-◌, length}
use denote.Shadow.{shadow}
use denote.Text.{Utf8}
use Rattle.nc_schema.specs.PathWords.{steps_within, written_steps}
use Rattle.nc_paths.specs.inner.Prepend.{before}
use Rattle.nc_paths.proofs.steps.steps.Given as goal

abbrev pub invariant-loop-turn : goal.invariant-loop-turn
invariant-loop-turn l = (written_steps l.text ≡ before l.steps (steps_within (length l.text - l.turn) l.rest)) × shadow (Utf8 l.rest)
