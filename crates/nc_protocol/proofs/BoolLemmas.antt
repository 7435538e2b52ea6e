-- Tests of two parts, and tests that fail.
use Rattle.std.proofs.Common.{◌≡◌, ◌||◌, Bool, true, false, not}
use Rattle.std.proofs.lemmas.Bool.{not-true, not_from_false, or_from, or_parts}
pub use Rattle.std.proofs.lemmas.Bool.{false_from_ne_true as is_false}

pub not_both : (a b : Bool) → not (a || b) ≡ true → (a ≡ false) × (b ≡ false)
not_both a b e = or_parts a b (not-true (a || b) e)

pub neither : (a b : Bool) → a ≡ false → b ≡ false → not (a || b) ≡ true
neither a b e f = not_from_false (a || b) (or_from a b e f)
