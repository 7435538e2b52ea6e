-- Faults of texts as those of their files, which stand after the text of ietf-netconf-acm.
use Rattle.std.specs.Prelude.{◌≡◌, ℕ}
use Rattle.nc_yang_statements.specs.declared.fault.Fault.{Fault}
use Rattle.nc_yang_statements.specs.declared.stop.Stop.{Stop}
use Rattle.nc_yang_statements.specs.declared.stop.Stop.TheVariants.{Broken, Memory}
use Rattle.nc_yang_scopes.specs.declared.naming.TextFault.{TextFault}
use Rattle.nc_yang.specs.declared.fault.CompileFault.{CompileFault}
use Rattle.nc_yang.specs.Access.{in_file}
use Rattle.nc_yang.specs.declared.fault.CompileFault.TheVariants.{Module, Memory as NoMemory}

-- so it is with a fault of a text that is a file's
abbrev pub OnFile : (ℕ → Fault → Type 0) → TextFault → Type 0
OnFile P found = (file : ℕ) → found ≡ in_file file found.fault → P file found.fault

-- a fault of a file is the one of its text, or want of memory
abbrev pub IsInFile : Stop TextFault → CompileFault → Type 0
IsInFile stop NoMemory = Unit {0}
IsInFile (Broken found) (Module file line why) = found ≡ in_file file (record { line = line; why = why })
IsInFile Memory (Module file line why) = ⊥
