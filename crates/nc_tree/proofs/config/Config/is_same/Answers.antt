use Rattle.std.proofs.Common.{◌∙◌}
use Rattle.nc_names.specs.Same.{is_same_rows}
use Rattle.nc_tree.proofs.Rows.{same_word}
use Rattle.nc_tree.proofs.config.Config.is_same.Goals as goal

pub returns-clause-word : goal.returns-clause-word
returns-clause-word c =
    same_word c.is_same.result c.self.inside.tree.rows c.other.inside.tree.rows c.is_same.ensures
    ∙ (λ i. is_same_rows (c.self.view_is i) (c.other.view_is i))
