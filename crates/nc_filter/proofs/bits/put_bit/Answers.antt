use Rattle.std.proofs.Common.{◌/◌, ℕ, List, get_or, ap, ◌∙◌}
use Rattle.nc_filter.specs.inner.Sets.{bit_of}
use Rattle.nc_filter.proofs.BitLemmas.{bit_put}
use Rattle.nc_filter.proofs.bits.put_bit.Goals as goal

pub returns : goal.returns
returns c = λ n.
    ap (λ (words : List ℕ). bit_of words n) c.set.ensures
    ∙ bit_put c.args.words c.word_at-word.result c.args.number n c.requires
    (c.word_at-word.ensures ∙ ap (λ (words : List ℕ). get_or words (c.args.number / 64) 0) c.as_slice.ensures)
