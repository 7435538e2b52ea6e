-- What contracts see of the listener in memory, and what a call of it does beside what its trait says.
use Rattle.std.specs.Prelude.{◌≡◌, ◌↔◌, ℕ, Bool, List, [], ◌∷◌, Contains, Option, Some, None, Result, Ok, Err, IsErr}
use Rattle.nc_names.specs.Counts.{one_more}

-- a listener: the connections that wait in their order, the numbers of the calls that are to fail, how many calls
-- there were, how many failed since the last connection, and whether the last answer was that none will come
pub record ListenerState (Connection : Type 0) : Type 0 where
  pub waiting : List Connection
  pub failing : List ℕ
  pub calls : ℕ
  pub failed : ℕ
  pub over : Bool

-- an answer gives the first that waits, or none where none waits; a failure leaves them
abbrev pub GivesFirst : {C E : Type 0} → (before now : List C) → Result (Option C) E → Type 0
GivesFirst before now (Ok (Some connection)) = before ≡ connection ∷ now
GivesFirst before now (Ok None) = (before ≡ []) × (now ≡ [])
GivesFirst before now (Err fault) = now ≡ before

-- the first that waits is given, unless the call is to fail
pub record IsAcceptOf {C E : Type 0} (before now : ListenerState C) (result : Result (Option C) E) : Type 0 where
  pub gives : GivesFirst before.waiting now.waiting result
  pub fails : IsErr result ↔ Contains before.failing (one_more before.calls)
  pub calls : now.calls ≡ one_more before.calls
  pub failing : now.failing ≡ before.failing
