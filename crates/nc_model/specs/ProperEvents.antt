-- Events as the reading of messages gives them.
use Rattle.nc_model.specs.declared.event.Event.{Event}
use Rattle.nc_model.specs.declared.event.Event.TheVariants.{Request as Requested}
use Rattle.nc_protocol.specs.Proper.{IsProper}

-- so is that of the event, if it is one
abbrev pub IsProperEvent : Event → Type 0
IsProperEvent (Requested session request) = IsProper request
IsProperEvent event = Unit {0}
