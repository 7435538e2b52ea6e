-- Whole tokens that fit, one after another.
use Rattle.std.specs.Prelude.{List, [], ◌∷◌, Option, None, Some, Ok, Err}
use Rattle.nc_message.specs.Tokens.{Token}
use Rattle.nc_message_read.specs.inner.State.{State}
use Rattle.nc_message_read.specs.inner.Reads.{step}

-- where tokens lead, if each of them fits
abbrev pub go : State → List Token → Option State
go s [] = Some s
go s (k ∷ ks) = elim (step s k) [ Err why ↦ None | Ok t ↦ go t ks ]
