use Rattle.std.proofs.Common.{◌∙◌, List, ℕ, ap, arith, get_or, bit_or}
use Rattle.nc_filter.proofs.BitLemmas.{bits_joined, upto_next, upto_start}
use Rattle.nc_filter.proofs.bits.join.Goals as goal

pub places-init : goal.places-init
places-init c = upto_start bit_or c.args.words c.args.others.now

pub places-preserved : goal.places-preserved
places-preserved c =
    upto_next bit_or c.args.words c.args.others.now c.places.out c.set.new.self (bit_or c.word_at.result c.word_at-in-places.result) c.places.place (omega arith) c.set.ensures
    (λ i. bit_or ((c.word_at.ensures ∙ ap (λ (words : List ℕ). get_or words c.places.place 0) c.as_slice.ensures) i) (c.word_at-in-places.ensures i)) c.places.invariant

pub returns : goal.returns
returns c = λ n. bits_joined c.args.words c.args.others.now c.places.out c.places.place n (omega arith) c.places.invariant
