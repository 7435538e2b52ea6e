-- The rules on what statements name.
use Rattle.std.specs.Prelude.{◌≡◌, List, None}
use Rattle.nc_yang_words.specs.declared.statement.Statement.{Statement}
use Rattle.nc_yang_statements.specs.Rules.{first}
use Rattle.nc_yang_scopes.specs.Names.{KeepsNames}
use Rattle.nc_yang_scopes.specs.Loops.{KeepsLoops}
use Rattle.nc_yang_scopes.specs.Revisions.{unrevised}

-- texts keep them
pub record KeepsNamed (texts : List Statement) : Type 0 where
  pub names : KeepsNames texts
  pub revisions : first (unrevised texts) ≡ None
  pub loops : KeepsLoops texts
