use Rattle.std.proofs.Common.{◌==◌, ◌%◌, ℕ, ap, ◌∙◌}
use Rattle.std.specs.Int.{bit_at}
use Rattle.std.proofs.lemmas.Nat.Bits.{shr_and_one}
use Rattle.nc_filter.proofs.bits.is_set.Goals as goal

pub returns : goal.returns
returns c =
    ap (λ (x : ℕ). x == 1) (shr_and_one c.word_at-word.result (c.args.number % 64) ∙ ap (λ (w : ℕ). bit_at w (c.args.number % 64)) c.word_at-word.ensures)
