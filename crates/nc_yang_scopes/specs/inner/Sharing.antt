-- What an answer says of a statement and those in it.
use Rattle.std.specs.Prelude.{Option, MatchOption}
use Rattle.nc_yang_words.specs.declared.statement.Statement.{Statement}
use Rattle.nc_yang_statements.specs.declared.fault.Fault.{Fault}
use Rattle.nc_yang_scopes.specs.Spaces.{BreaksSpaces, KeepsSpaces}

-- the fault of a statement that breaks a rule on spaces of names, or that none is broken
abbrev pub Judges : Statement → Option Fault → Type 0
Judges s result = MatchOption result (KeepsSpaces s) (BreaksSpaces s)
