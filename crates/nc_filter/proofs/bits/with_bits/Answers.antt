use Rattle.std.proofs.Common.{◌==◌, get_or, refl, sym}
use Rattle.nc_filter.specs.inner.Sets.{bit_of}
use Rattle.nc_filter.proofs.SpotLemmas.{any_done, any_next}
use Rattle.nc_filter.proofs.Unions.{or_false}
use Rattle.nc_filter.proofs.bits.with_bits.Goals as goal

pub loop-number-init : goal.loop-number-init
loop-number-init c = λ n. sym (or_false (bit_of c.args.words n))

pub loop-number-preserved : goal.loop-number-preserved
loop-number-preserved c = λ n.
    any_next (λ one. one == n) c.args.numbers.now c.loop-number.number-index (get_or c.args.numbers.now c.loop-number.number-index 0) 0 (bit_of c.args.words n)
    (bit_of c.loop-number.out n) (bit_of c.in_ok-out.out n) c.loop-number-test.true refl (c.in_ok-out.ensures n) (c.loop-number.invariant n)

pub returns : goal.returns
returns c = λ n.
    any_done (λ one. one == n) c.args.numbers.now c.loop-number.number-index (bit_of c.args.words n) (bit_of c.loop-number.out n) c.loop-number-test.false (c.loop-number.invariant n)
