-- The names that were read, and what is left.
use Rattle.std.proofs.Common.{◌≡◌, ◌++◌, length}
use Rattle.std.specs.List.{All}
use Rattle.std.specs.Option.{option_copied}
use Rattle.nc_script_text.specs.inner.Heads.{IsSome, words_in}
use Rattle.nc_script_text.proofs.words.read_names.Given as goal

abbrev pub invariant-loop-left : goal.invariant-loop-left
invariant-loop-left l = record {
  words_are : words_in (option_copied l.fn.text) ≡ l.names ++ words_in (option_copied l.left);
  some : All IsSome l.names;
}

abbrev pub decreases-loop-left : goal.decreases-loop-left
decreases-loop-left l = length (words_in (option_copied l.left))
