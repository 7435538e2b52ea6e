use Rattle.std.proofs.Common.{◌∙◌, ◌==◌, ◌||◌, ap, get_or, refl, sym}
use Rattle.std.specs.List.{list_any}
use Rattle.nc_filter.specs.inner.Sets.{has}
use Rattle.nc_filter.proofs.SpotLemmas.{any_done, any_next}
use Rattle.nc_filter.proofs.Unions.{or_false}
use Rattle.nc_filter.proofs.reach.with_inside.Goals as goal

pub loop-number-init : goal.loop-number-init
loop-number-init c = λ n. sym (or_false (has c.args.members n))

pub loop-number-preserved : goal.loop-number-preserved
loop-number-preserved c = λ n.
    any_next (λ one. one == n) c.inside-inside.result.now c.loop-number.number-index (get_or c.inside-inside.result.now c.loop-number.number-index 0) 0 (has c.args.members n)
    (has c.loop-number.out n) (has c.in_ok-out.out n) c.loop-number-test.true refl (c.in_ok-out.ensures n) (c.loop-number.invariant n)

pub returns : goal.returns
returns c = λ n.
    any_done (λ one. one == n) c.inside-inside.result.now c.loop-number.number-index (has c.args.members n) (has c.loop-number.out n) c.loop-number-test.false (c.loop-number.invariant n)
    ∙ ap (λ numbers. has c.args.members n || list_any (λ one. one == n) numbers) c.inside-inside.ensures
