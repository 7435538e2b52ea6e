-- The calls of a pending commit beside the server's state.
use Rattle.std.specs.Prelude.{◌≡◌, ◌+◌, ℕ, if◌then◌else◌, nat_le, List, Option, Some, None}
use Rattle.nc_model.specs.State.{State, Pending, is_due, left_by_end, reverted}
use Rattle.nc_model.specs.Step.{milliseconds, pending_by}
use Rattle.nc_pending.specs.Pending.{followed, is_reverted_by, left_of}

-- a follow-up is what a confirmed commit makes of the pending one (RFC 6241 8.4.5.1)
abbrev pub FollowedAsStated : Type 0
FollowedAsStated =
    (s : State) (pending : Pending) (session timeout : ℕ) (persist : Option (List ℕ)) → s.pending ≡ Some pending →
    pending_by s session timeout persist ≡ followed pending (s.now + milliseconds timeout) persist session

-- a reading of the clock is past the deadline where the state has the commit reverted, and the base is running then
-- (RFC 6241 8.4.1)
pub record IsReversion (s : State) (pending : Pending) : Type 0 where
  pub due : is_due s ≡ nat_le pending.deadline s.now
  pub base : (reverted s).running ≡ pending.base
  pub none : (reverted s).pending ≡ None

-- what a pending commit is reverted to is what the server has then
abbrev pub RevertedAsStated : Type 0
RevertedAsStated = (s : State) (pending : Pending) → s.pending ≡ Some pending → IsReversion s pending

-- the end of a session reverts it, or leaves it (RFC 6241 8.4.1)
abbrev pub EndedAsStated : Type 0
EndedAsStated =
    (s : State) (pending : Pending) (session : ℕ) → s.pending ≡ Some pending → left_by_end s session s.pending
    ≡ (if is_reverted_by pending session then reverted s else record s { pending = Some (left_of pending session) })
