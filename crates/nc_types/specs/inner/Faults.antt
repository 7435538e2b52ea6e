-- Why a text has no canonical text.
use Rattle.nc_types.specs.declared.fault.TypeFault.{TypeFault}
use Rattle.nc_types.specs.declared.fault.TypeFault.TheVariants.{NotInType, Memory}

-- so it is where the text is no value; of want of memory nothing is said
abbrev pub OnNotInType : TypeFault → Type 0 → Type 0
OnNotInType NotInType P = P
OnNotInType Memory P = Unit {0}
