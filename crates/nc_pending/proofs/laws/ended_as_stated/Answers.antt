use Rattle.std.proofs.Common.{◌≡◌, ◌==◌, ◌&&◌, ◌∙◌, Bool, true, false, not, refl, ap, Some}
use Rattle.std.specs.Prelude.{if◌then◌else◌, is_some}
use Rattle.nc_model.specs.State.{State, Pending, left_by_end, reverted}
use Rattle.nc_pending.proofs.laws.ended_as_stated.Goals as goal

module _ (s : State) (pending : Pending) (is : s.pending ≡ Some pending) where
  -- the session of the commit ended, or another; the commit persists, or not
  by : (own persists : Bool) →
      (if not own then s else (if persists then record s { pending = Some (record pending { session = 0 }) } else reverted s))
      ≡ (if own && not persists then reverted s else record s { pending = Some (if own && persists then record pending { session = 0 } else pending) })
  by false persists = λ i. record s { pending = is i }
  by true true = refl
  by true false = refl

pub returns : goal.returns
returns c = λ s pending session is.
    ap (left_by_end s session) is ∙ by s pending is (pending.session == session) (is_some pending.token)
