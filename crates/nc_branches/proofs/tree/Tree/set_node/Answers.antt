use Rattle.std.proofs.Common.{List, ap, ◌≡◌, ◌∙◌, [], refl, subst}
use Rattle.std.specs.Prelude.{IfOk, IfSome}
use Rattle.std.specs.Option.{option_map_or}
use Rattle.nc_names.specs.declared.path.Row.{Row}
use Rattle.nc_branches.specs.inner.Shoots.{rows_of}
use Rattle.nc_branches.specs.Sides.{among}
use Rattle.nc_branches.specs.declared.labels.Turn.TheVariants.{Kept}
use Rattle.nc_branches.proofs.Leading.{put_top}
use Rattle.nc_branches.proofs.Turned.{turned_listed}
use Rattle.nc_branches.proofs.tree.Tree.set_node.Goals as goal

pub returns-in-Ok-Kept : goal.returns-in-Ok-Kept
returns-in-Ok-Kept c =
    let inner = rw c.in-Ok-Kept.field-0-is at (rw c.in-Ok-Kept.is at c.put-outcome.ensures) in
    let aim = rw c.new-aim.ensures at inner in
    let free = rw c.new-aim.ensures at c.is_free-free.ensures in
    let put = put_top _ c.args.self.now.rows c.args.self.now.rows c.requires (aim.put (turned_listed Kept _ 0 c.args.self.now.rows refl) free)
    ∙ ap (λ orders. among c.args.schema.now orders c.args.steps.now (option_map_or rows_of c.args.node []) c.args.self.now.rows) c.in_ok-fronts.ensures in
    subst (λ (rows : List Row). IfOk c.kept.result (λ it. IfSome it (λ tree. tree.rows ≡ rows))) put c.kept.ensures

pub returns-in-Ok-Made : goal.returns-in-Ok-Made
returns-in-Ok-Made c =
    let inner = rw c.in-Ok-Made.field-0-is at (rw c.in-Ok-Made.is at c.put-outcome.ensures) in
    let aim = rw c.new-aim.ensures at inner in
    let free = rw c.new-aim.ensures at c.is_free-free.ensures in
    put_top _ c.args.self.now.rows c.in-Ok-Made.tree.rows c.requires (aim.put (turned_listed Kept _ 0 c.args.self.now.rows refl) free)
    ∙ ap (λ orders. among c.args.schema.now orders c.args.steps.now (option_map_or rows_of c.args.node []) c.args.self.now.rows) c.in_ok-fronts.ensures
