-- What comes of an event is of its kind.
use Rattle.std.proofs.Common.{◌≡◌, ◌+◌, Bool, true, false, length, refl, ap, ◌∙◌}
use Rattle.std.specs.Prelude.{if◌then◌else◌}
use Rattle.nc_model.specs.declared.entry.Entry.{Entry}
use Rattle.nc_model.specs.declared.event.Event.{Event}
use Rattle.nc_model.specs.declared.event.Event.TheVariants.{Start, Request as Requested, End, Reading}
use Rattle.nc_model.specs.declared.event.Outcome.TheVariants.{Started, Full, NotLive, Ended}
use Rattle.nc_model.specs.State.{State, expired, is_live}
use Rattle.nc_model.specs.Step.{Fits, answer_to, has_failed, is_full, may_come_of, outcome_of}

-- in whatever state
pub outcome_may_come : (s : State) (event : Event) (failed : Bool) →
    may_come_of event (outcome_of s event failed) ≡ true
outcome_may_come s (Start peer) failed = by (is_full s)
  where
    by : (full : Bool) →
        may_come_of (Start peer) (if full then Full (length s.sessions) s.last else Started (s.last + 1)) ≡ true
    by true = refl
    by false = refl
outcome_may_come s (Requested session request) failed = by (is_live s session)
  where
    by : (live : Bool) →
        may_come_of (Requested session request) (if live then answer_to s session request failed else NotLive) ≡ true
    by true = refl
    by false = refl
outcome_may_come s (End session) failed = by (is_live s session)
  where
    by : (live : Bool) → may_come_of (End session) (if live then Ended else NotLive) ≡ true
    by true = refl
    by false = refl
outcome_may_come s Reading failed = refl

-- so is the outcome of an entry that fits a state
pub fits_may_come : (s : State) (e : Entry) → Fits s e → may_come_of e.event e.outcome ≡ true
fits_may_come s e fits =
    ap (may_come_of e.event) fits.outcome ∙ outcome_may_come (expired s e.at) e.event (has_failed e.outcome)
