-- The set has the words so far.
use Rattle.std.proofs.Common.{◌≡◌, ℕ, List, drop}
use Rattle.std.specs.Prelude.{◌||◌}
use Rattle.nc_types.specs.inner.Asked.{has, is_word}
use Rattle.nc_types.proofs.bits.set_of.Given as goal

abbrev pub invariant-loop-word : goal.invariant-loop-word
invariant-loop-word l = (name : List ℕ) → is_word l.words name ≡ (has l.set name || is_word (drop l.word-index l.words) name)
