-- A decision as the code makes it: what decided is named by the rule itself.
use Rattle.nc_protocol.specs.declared.access.By.{By}
use Rattle.nc_protocol.specs.declared.access.By.TheVariants.{Off as ByOff, Recovery as ByRecovery, CloseSession as ByCloseSession, DenyAll as ByDenyAll, DenyWrite as ByDenyWrite, OperationDefault as ByOperationDefault, Default as ByDefault, Rule as ByRule}
use Rattle.nc_protocol.specs.declared.access.Decision.{Decision}
use Rattle.nc_nacm.specs.declared.made.Made.{Made}
use Rattle.nc_nacm.specs.declared.made.Reason.{Reason}
use Rattle.nc_nacm.specs.declared.made.Reason.TheVariants.{Off, Recovery, CloseSession, Ruled, DenyAll, DenyWrite, OperationDefault, Default}

-- what decided; a rule is told by its list and its name
abbrev pub by_of : Reason → By
by_of Off = ByOff
by_of Recovery = ByRecovery
by_of CloseSession = ByCloseSession
by_of (Ruled rule) = ByRule rule.now.list rule.now.name
by_of DenyAll = ByDenyAll
by_of DenyWrite = ByDenyWrite
by_of OperationDefault = ByOperationDefault
by_of Default = ByDefault

-- the decision for which the code's own stands
abbrev pub decision_of : Made → Decision
decision_of made = record { permit = made.permit; by = by_of made.reason }
