use Rattle.std.proofs.Common.{◌&&◌, get_or, refl, sym}
use Rattle.std.specs.Prelude.{map}
use Rattle.std.specs.List.{list_any}
use Rattle.nc_filter.specs.inner.Labels.{at}
use Rattle.nc_filter.specs.inner.Sets.{bit_of}
use Rattle.nc_filter.proofs.SpotLemmas.{any_done, any_next}
use Rattle.nc_filter.proofs.Unions.{or_false}
use Rattle.nc_filter.proofs.flat.with_spots.Goals as goal

pub loop-number-init : goal.loop-number-init
loop-number-init c = λ test. sym (or_false (list_any test (map (λ row. row.now) c.args.out)))

pub loop-number-preserved : goal.loop-number-preserved
loop-number-preserved c = λ test.
    any_next (at c.args.spots.now (λ spot. bit_of c.args.set.now spot.number && test spot.row.now)) c.args.some.now c.loop-number.number-index
    (get_or c.args.some.now c.loop-number.number-index 0) 0 (list_any test (map (λ row. row.now) c.args.out)) (list_any test (map (λ row. row.now) c.loop-number.out))
    (list_any test (map (λ row. row.now) c.in_ok-out.out)) c.loop-number-test.true refl (c.in_ok-out.ensures test) (c.loop-number.invariant test)

pub returns : goal.returns
returns c = λ test.
    any_done (at c.args.spots.now (λ spot. bit_of c.args.set.now spot.number && test spot.row.now)) c.args.some.now c.loop-number.number-index
    (list_any test (map (λ row. row.now) c.args.out)) (list_any test (map (λ row. row.now) c.loop-number.out)) c.loop-number-test.false (c.loop-number.invariant test)
