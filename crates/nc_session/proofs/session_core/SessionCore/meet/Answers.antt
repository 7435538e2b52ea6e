use Rattle.nc_frames.specs.Framing.{Marks}
use Rattle.nc_session.specs.inner.Unseen.{Unseen}
use Rattle.nc_session.proofs.Reading.{meet_none, meet_stop, met_meets, gave_none, gave_some, hello_fault, inner, greeting_in, none_chosen, over_no_greeting}
use Rattle.nc_session.proofs.session_core.SessionCore.meet.Goals as goal

pub returns-in-Ok-None : goal.returns-in-Ok-None
returns-in-Ok-None c = λ base bytes given at.
    let V = Unseen c.next.new.self in
    let inside = inner base bytes given c.self.view_is at in
    let both = meet_none (Unseen c.self.inside.inbox) V c.self.inside.phase base bytes given c.in-Greeting.is
    (λ mode first b u. gave_none V mode first b c.in-Ok-None.field-0-is (c.in-Ok-None.ensures.gives mode first b u)) inside in
    (base, none_chosen given base base (greeting_in (Unseen c.self.inside.inbox) c.self.inside.phase base bytes given c.in-Greeting.is inside).0, both.0, λ _. both.1)

pub returns-in-Ok-Some : goal.returns-in-Ok-Some
returns-in-Ok-Some c = λ base bytes given at.
    let V = Unseen c.next.new.self in
    let inside = inner base bytes given c.self.view_is at in
    let awaits = greeting_in (Unseen c.self.inside.inbox) c.self.inside.phase base bytes given c.in-Greeting.is inside in
    met_meets _ base bytes given c.hear.result awaits.0
    (c.hear.ensures base bytes (gave_some V Marks 0 bytes c.in-Ok-Some.field-0-is (c.in-Ok-Some.ensures.gives Marks 0 bytes awaits.1)))

pub returns-in_ok-end-in-Err : goal.returns-in_ok-end-in-Err
returns-in_ok-end-in-Err c = λ base bytes given at.
    let inside = inner base bytes given c.self.view_is at in
    let stop = meet_stop (Unseen c.self.inside.inbox) c.self.inside.phase base bytes given c.in_ok-end-in-Err.end c.in-Greeting.is
    (λ u. hello_fault (Unseen c.next.new.self) bytes c.in-Err.fault c.in_ok-end-in-Err.end c.in_ok-end-in-Err.ensures (c.in-Err.ensures.gives Marks 0 bytes u)) inside in (
      base,
      none_chosen given base base (greeting_in (Unseen c.self.inside.inbox) c.self.inside.phase base bytes given c.in-Greeting.is inside).0,
      stop,
      λ is. absurd (over_no_greeting c.in_ok-end-in-Err.end is),
    )
