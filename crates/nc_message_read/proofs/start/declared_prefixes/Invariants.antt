use Rattle.std.proofs.Common.{◌≡◌, ℕ, List, drop}
use Rattle.std.specs.Prelude.{◌||◌}
use Rattle.nc_message.specs.Resolved.{is_declared_by}
use Rattle.nc_message_read.specs.inner.Sets.{has}
use Rattle.nc_message_read.proofs.start.declared_prefixes.Given as goal

-- the set has the prefixes so far
abbrev pub invariant-loop-attribute : goal.invariant-loop-attribute
invariant-loop-attribute l = (prefix : List ℕ) → is_declared_by l.attributes prefix ≡ (has l.prefixes prefix || is_declared_by (drop l.attribute-index l.attributes) prefix)
