-- The symbols so far.
use Rattle.std.proofs.Common.{◌≡◌, not, ℕ, take}
use Rattle.std.specs.Prelude.{filter}
use Rattle.nc_names.specs.Signs.{is_white}
use Rattle.nc_types.proofs.simple.symbols.Given as goal

abbrev pub invariant-loop-byte : goal.invariant-loop-byte
invariant-loop-byte l = l.kept.items ≡ filter (λ (c : ℕ). not (is_white c)) (take l.byte-index l.text)
