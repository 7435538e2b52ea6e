use Rattle.std.proofs.Common.{◌≤◌, ℕ, arith, ◌≡◌}
use Rattle.std.specs.Prelude.{min}
use Rattle.nc_branches.specs.inner.Shoots.{rows_of}
use Rattle.nc_branches.proofs.Depths.{long_parts}
use Rattle.nc_branches.proofs.tree.least_of.Goals as goal

within_min : (m n a b c : ℕ) → m ≡ min a b → n ≡ min m c → (n ≤ a) × (n ≤ b) × (n ≤ c)
within_min m n a b c one two = (omega arith, omega arith, omega arith)

pub returns : goal.returns
returns c =
    let w = within_min c.min.result c.min-2.result c.shortest.result c.shortest-2.result c.shortest-3.result c.min.ensures c.min-2.ensures in
    long_parts c.min-2.result c.shortest.result c.shortest-2.result c.shortest-3.result c.args.left.now.rows (rows_of c.args.twig.now) c.args.right.now.rows c.shortest.ensures c.shortest-2.ensures c.shortest-3.ensures w.0 w.1 w.2
