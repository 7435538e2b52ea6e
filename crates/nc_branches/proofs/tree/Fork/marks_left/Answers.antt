use Rattle.std.proofs.Common.{List, subst}
use Rattle.nc_names.specs.declared.path.Step.{Step}
use Rattle.nc_branches.specs.inner.Regrown.{IsPassed}
use Rattle.nc_branches.specs.inner.Steady.{is_low}
use Rattle.nc_branches.proofs.Regrowing.{numbered_left, parted_left, whole_left}
use Rattle.nc_branches.proofs.tree.Fork.marks_left.Goals as goal

pub are_parted_still-requires : goal.are_parted_still-requires
are_parted_still-requires c = λ e.
    parted_left c.args.aim.now c.args.side c.args.self.now c.args.left.now.rows c.requires (c.keeps_order-order.ensures.ordered e) (c.keeps_order-order.ensures.side e)

pub are_numbered_still-requires : goal.are_numbered_still-requires
are_numbered_still-requires c = λ e.
    numbered_left c.args.aim.now c.args.side c.args.self.now c.args.left.now.rows c.requires (c.keeps_low-numbers.ensures.numbered e)
    (subst (λ (q : List Step). IsPassed is_low q c.args.self.now.twig) c.steps.ensures.steps (c.keeps_low-numbers.ensures.passed e))

pub are_whole_still-requires : goal.are_whole_still-requires
are_whole_still-requires c = λ e.
    whole_left c.args.aim.now c.args.side c.args.self.now c.args.left.now.rows c.requires (c.keeps_whole-entries.ensures.whole e) (c.keeps_whole-entries.ensures.beside e)
