use Rattle.std.proofs.Common.{◌≡◌, length, ap, ◌∙◌, arith}
use Rattle.nc_tree.proofs.Rows.{dropped}
use Rattle.nc_branches.specs.Branches.{without_block}
use Rattle.nc_tree.proofs.config.Config.remove.Goals as goal

pub overflow_sub-dropped : goal.overflow_sub-dropped
overflow_sub-dropped c =
    let both = dropped c.args.self.now c.args.path.now.steps in
    let before : c.len-before.result ≡ length c.args.self.now = c.len-before.ensures in
    let path : c.as_slice.result.now ≡ c.args.path.now.steps = c.as_slice.ensures in
    let rest : c.in_ok-rest.rest ≡ without_block c.args.self.now c.args.path.now.steps = c.in_ok-rest.ensures ∙ ap (without_block c.args.self.now) path in
    let after : c.len.result ≡ length (without_block c.args.self.now c.args.path.now.steps) = c.len.ensures ∙ ap length rest in
    omega (arith, both, before, after)
