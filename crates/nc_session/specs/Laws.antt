-- What follows of the bytes of a session.
use Rattle.std.specs.Prelude.{◌≡◌, ℕ, List, ◌++◌, Option}
use Rattle.nc_protocol.specs.declared.request.Request.{Request}
use Rattle.nc_session.specs.declared.base.Base.{Base}
use Rattle.nc_session.specs.declared.end.SessionEnd.{SessionEnd}
use Rattle.nc_session.specs.Asks.{AsksFirst, AsksAll}

-- The bytes of a session ask for one list of requests, and stop in one way or not at all. What their beginning asks
-- for is the beginning of that, with the same version of the protocol.
pub record OneReading : Type 0 where
  pub whole : (base other : Base) (bytes : List ℕ) (requests others : List Request) (stop last : Option SessionEnd)
      → AsksAll base bytes requests stop → AsksAll other bytes others last → (requests ≡ others) × (stop ≡ last)
  pub front : (base other : Base) (bytes : List ℕ) (requests others : List Request) (stop : Option SessionEnd)
      → AsksFirst base bytes requests → AsksAll other bytes others stop
      → (other ≡ base) × (more : List Request) × (others ≡ requests ++ more)
