-- What the laws say.
use Rattle.std.specs.Prelude.{◌≡◌, ℕ, List}
use Rattle.nc_yang_words.specs.declared.statement.Statement.{Statement}
use Rattle.nc_yang_statements.specs.declared.fault.Fault.{Fault}
use Rattle.nc_yang.specs.Texts.{AreRead, IsUnread}
use Rattle.nc_yang.specs.declared.text.ModuleText.{ModuleText}

-- texts that have their statements have no such fault
abbrev pub ReadOrFaulty : Type 0
ReadOrFaulty =
    (texts : List ModuleText) (roots : List Statement) (file : ℕ) (fault : Fault) →
    AreRead texts roots → IsUnread texts file fault → ⊥

-- and they have no other statements
abbrev pub ReadOneWay : Type 0
ReadOneWay =
    (texts : List ModuleText) (roots others : List Statement) → AreRead texts roots → AreRead texts others → roots
    ≡ others
