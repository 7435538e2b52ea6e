use Rattle.std.proofs.Common.{◌∙◌, ◌==◌, false, get_or, refl}
use Rattle.std.specs.List.{list_any}
use Rattle.nc_filter.specs.inner.Below.{in_number}
use Rattle.nc_filter.specs.inner.Sets.{has}
use Rattle.nc_filter.proofs.BelowLemmas.{inside_any}
use Rattle.nc_filter.proofs.SpotLemmas.{any_done, any_next}
use Rattle.nc_filter.proofs.reach.inside_all.Goals as goal

pub loop-parent-preserved : goal.loop-parent-preserved
loop-parent-preserved c = λ n.
    any_next (λ parent. list_any (λ one. one == n) (in_number c.args.below.now.items parent)) c.args.parents.now c.loop-parent.parent-index (get_or c.args.parents.now c.loop-parent.parent-index 0) 0 false
    (has c.loop-parent.out n) (has c.in_ok-out.out n) c.loop-parent-test.true refl (c.in_ok-out.ensures n) (c.loop-parent.invariant n)

pub returns : goal.returns
returns c = λ whole is n.
    any_done (λ parent. list_any (λ one. one == n) (in_number c.args.below.now.items parent)) c.args.parents.now c.loop-parent.parent-index false (has c.loop-parent.out n) c.loop-parent-test.false
    (c.loop-parent.invariant n)
    ∙ inside_any whole c.args.below.now.items c.args.parents.now n is
