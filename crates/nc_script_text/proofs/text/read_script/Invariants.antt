-- The steps that were read, and what is left.
use Rattle.std.proofs.Common.{◌≡◌, ◌≤◌, ◌+◌, ◌++◌, length}
use Rattle.std.specs.List.{All, flat_map}
use Rattle.nc_script_text.specs.Lines.{IsProper, line_of}
use Rattle.nc_script_text.proofs.text.read_script.Given as goal

abbrev pub invariant-loop-rest : goal.invariant-loop-rest
invariant-loop-rest l = record {
  text_is : l.fn.text ≡ flat_map line_of l.steps ++ l.rest;
  proper : All IsProper l.steps;
  line_is : l.line ≡ length l.steps + 1;
  few : length l.steps + length l.rest ≤ length l.fn.text;
}

abbrev pub decreases-loop-rest : goal.decreases-loop-rest
decreases-loop-rest l = length l.rest
