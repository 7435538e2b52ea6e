use Rattle.std.proofs.Common.{◌∙◌, List, ℕ, ap, get_or, refl}
use Rattle.nc_filter.specs.inner.Sets.{bit_of}
use Rattle.nc_filter.proofs.BitLemmas.{empty_bits}
use Rattle.nc_filter.proofs.SpotLemmas.{union_more}
use Rattle.nc_filter.proofs.wants.union_of.Goals as goal

pub loop-number-init : goal.loop-number-init
loop-number-init c = λ n. ap (λ (words : List ℕ). bit_of words n) c.new-words.ensures ∙ empty_bits n

pub loop-number-preserved : goal.loop-number-preserved
loop-number-preserved c =
    union_more c.args.wants.now c.loop-number.words c.in_ok-words.words c.args.some.now c.loop-number.number-index (get_or c.args.some.now c.loop-number.number-index 0) 0
    c.loop-number-test.true refl c.in_ok-words.ensures c.loop-number.invariant
