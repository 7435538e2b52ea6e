-- What an answer says of statements.
use Rattle.std.specs.Prelude.{List, Option, MatchOption}
use Rattle.nc_yang_words.specs.declared.statement.Statement.{Statement}
use Rattle.nc_yang_statements.specs.declared.fault.Fault.{Fault}
use Rattle.nc_yang_statements.specs.Rules.{Faulty}

-- a fault of these statements, or that there is none
abbrev pub Judges : Option Fault → List Statement → Type 0
Judges result ss = MatchOption result ((fault : Fault) → Faulty ss fault → ⊥) (λ fault. Faulty ss fault)
