-- What stands before a place of a message.
use Rattle.std.specs.Prelude.{Bool, List, Option, reverse}
use Rattle.nc_message.specs.declared.tree.Elem.{Elem}
use Rattle.nc_message_read.specs.declared.open.Open.{Open}
use Rattle.nc_message_read.specs.declared.stack.Stack.{Stack}

-- the elements that are open there, the nearest first, the root where it has ended, and whether the declaration
-- may still come: neither it nor a start tag stands before
pub record State : Type 0 where
  pub above : List Open
  pub root : Option Elem
  pub fresh : Bool

-- what the code's stack stands for, whose last element is the nearest
abbrev pub state_of : Stack → State
state_of s = record { above = reverse s.«open»; root = s.root; fresh = s.fresh }
