use Rattle.std.proofs.Common.{◌≡◌, ◌||◌, ℕ, List, take}
use Rattle.nc_model.specs.Decision.{has_text}
use Rattle.nc_nacm.specs.inner.Own.{has}
use Rattle.nc_nacm.proofs.groups.with_texts.Given as goal

abbrev pub invariant-loop-text : goal.invariant-loop-text
invariant-loop-text l = (other : List ℕ) → has l.names other ≡ (has l.fn.names other || has_text (take l.text-index l.texts) other)
