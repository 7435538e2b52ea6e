-- What the calls of a pending commit answer, and what they leave of it (RFC 6241 8.4).
use Rattle.std.specs.Prelude.{◌==◌, ◌&&◌, ℕ, Bool, not, if◌then◌else◌, List, [], ◌∷◌, Option, Some, None, is_some, Result, Ok, Err}
use Rattle.std.specs.Fmt.{decimal}
use Rattle.std.specs.Option.{option_or}
use Rattle.nc_names.specs.declared.cause.CauseKind.TheVariants.{BadToken as TokenCause, InUsePending}
use Rattle.nc_protocol.specs.Asking.{plain_cause}
use Rattle.nc_protocol.specs.declared.request.Cause.{Cause}
use Rattle.nc_model.specs.State.{Pending}
use Rattle.nc_pending.specs.declared.pending.PendingFault.{PendingFault}
use Rattle.nc_pending.specs.declared.pending.PendingFault.TheVariants.{BadToken, InUse}

-- the cause of a refusal
abbrev pub cause_of : PendingFault → Cause
cause_of BadToken = plain_cause TokenCause []
cause_of (InUse session) = plain_cause InUsePending (decimal session ∷ [])

-- the cause of a refusal, if it is one
abbrev pub refusal : Result (Unit {0}) PendingFault → Option Cause
refusal (Ok it) = None
refusal (Err fault) = Some (cause_of fault)

-- a follow-up keeps the base, and the text of `persist` unless it gives another (RFC 6241 8.4.1, 8.4.5.1)
abbrev pub followed : Pending → (deadline : ℕ) → (token : Option (List ℕ)) → (session : ℕ) → Pending
followed pending deadline token session =
    record { base = pending.base; deadline = deadline; token = option_or token pending.token; session = session }

-- it is reverted when its session ends, unless it persists (RFC 6241 8.4.1)
abbrev pub is_reverted_by : Pending → ℕ → Bool
is_reverted_by pending session = pending.session == session && not (is_some pending.token)

-- where it persists, no session is the one that may confirm it without its text once its own has ended
abbrev pub left_of : Pending → ℕ → Pending
left_of pending session =
    if pending.session == session && is_some pending.token then record pending { session = 0 } else pending
