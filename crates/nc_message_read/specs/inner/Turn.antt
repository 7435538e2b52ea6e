-- What reading one token, and reading all, leads to.
use Rattle.std.specs.Prelude.{◌≡◌, ◌<◌, ◌⊎◌, ℕ, List, [], length, None, Some, Ok, Err}
use Rattle.nc_message.specs.declared.tree.Why.{Why}
use Rattle.nc_message.specs.declared.tree.Why.TheVariants.{NotWellFormed}
use Rattle.nc_message.specs.Tokens.{Token}
use Rattle.nc_message.specs.Pieces.{token}
use Rattle.nc_message.specs.Faults.{IsCut, begins_doctype}
use Rattle.nc_message_read.specs.declared.stop.Stop.{Stop}
use Rattle.nc_message_read.specs.inner.State.{State}
use Rattle.nc_message_read.specs.inner.Reads.{begin, step, torn_why}
use Rattle.nc_message_read.specs.inner.Fits.{go}

-- the first token fits
abbrev pub Takes : State → List ℕ → State → List ℕ → Type 0
Takes s text t next = (k : Token) × (token text ≡ Some (k, next)) × (step s k ≡ Ok t)

-- it does not
abbrev pub Refuses : State → List ℕ → Why → Type 0
Refuses s text why = (k : Token) × (next : List ℕ) × (token text ≡ Some (k, next)) × (step s k ≡ Err why)

-- there is none
abbrev pub IsTorn : List ℕ → Why → Type 0
IsTorn rest why = (token rest ≡ None) × (why ≡ torn_why (begins_doctype rest))

-- reading stops with so many bytes left, as the next token does not fit or there is none
abbrev pub Stops : State → List ℕ → Stop → Type 0
Stops s text stop = (stop.left ≡ length text) × (0 < length text) × (Refuses s text stop.why ⊎ IsTorn text stop.why)

-- tokens so far
pub record Went (from : State) (bytes : List ℕ) (s : State) (text : List ℕ) : Type 0 where
  pub tokens : List Token
  pub cut : IsCut bytes tokens text
  pub leads : go from tokens ≡ Some s

-- all but the last
pub record Halts (from : State) (bytes : List ℕ) (stop : Stop) : Type 0 where
  pub s : State
  pub text : List ℕ
  pub went : Went from bytes s text
  pub stops : Stops s text stop

-- the bytes end before the end of a root
abbrev pub EndsEarly : List ℕ → Stop → Type 0
EndsEarly bytes stop =
    (s : State) × Went begin bytes s [] × (s.root ≡ None) × (stop.left ≡ 0) × (stop.why ≡ NotWellFormed)

-- where and why reading stopped before the end of a root
abbrev pub IsStop : List ℕ → Stop → Type 0
IsStop bytes stop = Halts begin bytes stop ⊎ EndsEarly bytes stop
