-- A session that hears what its client sends.
use Rattle.std.proofs.Common.{◌≡◌, ◌≢◌, ◌⊎◌, ℕ, List, [], ◌∷◌, ◌++◌, Option, None, Some, Result, Ok, Err, refl, sym, ap, subst, ◌∙◌, inl, inr, append-nil, arith}
use Rattle.std.specs.Prelude.{OnOk}
use Rattle.std.proofs.lemmas.List.Elements.{All-cons, All-nil}
use Rattle.nc_machine.specs.Serving.{GoesOn, Serving}
use Rattle.nc_machine.specs.Lasting.{Lasting}
use Rattle.nc_model.specs.declared.entry.Entry.{Entry}
use Rattle.nc_model.specs.declared.event.Event.{Event}
use Rattle.nc_model.specs.declared.event.Event.TheVariants.{Request as Requested, End}
use Rattle.nc_model.specs.declared.event.Outcome.TheVariants.{Ended, NotLive}
use Rattle.nc_protocol.specs.declared.peer.Peer.{Peer}
use Rattle.nc_protocol.specs.declared.request.Request.{Request}
use Rattle.nc_schema.specs.Tables.{Tables}
use Rattle.nc_session.proofs.Ending.{asks_in, asks_these, entered_more, same_text, text_more}
use Rattle.nc_session.specs.declared.base.Base.{Base}
use Rattle.nc_session.specs.declared.end.SessionEnd.{SessionEnd}
use Rattle.nc_session.specs.declared.end.SessionEnd.TheVariants.{Closed, InputEnded, BadHello, BadFrame, Malformed, TooBig, Killed, ReadFault, WriteFault, Full, Spent as EndSpent, Memory as EndMemory}
use Rattle.nc_session.specs.declared.session_core.Todo.TheVariants.{Ask}
use Rattle.nc_session.specs.Asks.{AsksFirst, AsksAll}
use Rattle.nc_session.specs.Cores.{Core, IsAt, IsChosen, IsTodo}
use Rattle.nc_session.specs.Serves.{AsksThese, Course}
use Rattle.nc_session.specs.Sessions.{HasEntered, entry_text, session_text}
use Rattle.nc_session.specs.inner.Unseen.{Unseen}
use Rattle.nc_script.proofs.Lefts.{dead_request, end_comes}
use Rattle.nc_script.proofs.Made.{made_none, made_same}
use Rattle.nc_script.specs.Leaving.{StaysLive}
use Rattle.nc_script.specs.Runs.{HasRead, NotRead}
use Rattle.nc_script.specs.Steps.{AsksEnd, AsksMore, AsksOne}
use Rattle.nc_script.specs.inner.Entering.{Breaks, Comes as EntersBy, CountsOne, IsEntered}
use Rattle.nc_script.specs.inner.Hearing.{Answers, BreaksOff, IsDueBy, IsLive, Part, Settles, Stopping, Turns, over_of, turn_of}
use Rattle.nc_script.specs.inner.Left.{EndsAs}
use Rattle.nc_script.specs.inner.Tallies.{Tallied}
use Rattle.nc_script.specs.declared.fault.StepFault.{StepFault}
use Rattle.nc_script.specs.declared.fault.StepFault.TheVariants.{Bad, Spent, Memory}
use Rattle.nc_script.specs.declared.hear.Turn.{Turn}
use Rattle.nc_script.specs.declared.hear.Turn.TheVariants.{Answered}
use Rattle.nc_script.specs.declared.tally.Tally.{Tally}

-- ---- what the reader has given
asks_at : (core : Core) (base : Base) (bytes : List ℕ) (given : List Request) → IsAt core base bytes given
    → (given ≡ []) ⊎ AsksFirst base bytes given
asks_at core base bytes given at = asks_in (Unseen core.inbox) core.phase base bytes given at

push_some : (given : List Request) (request : Request) → given ++ request ∷ [] ≢ []
push_some [] request e = cc e
push_some (x ∷ given) request e = cc e

first_at : (core : Core) (base : Base) (bytes : List ℕ) (given : List Request) (request : Request)
    → IsAt core base bytes (given ++ request ∷ []) → AsksFirst base bytes (given ++ request ∷ [])
first_at core base bytes given request at = by (asks_at core base bytes (given ++ request ∷ []) at)
  where
    by : ((given ++ request ∷ [] ≡ []) ⊎ AsksFirst base bytes (given ++ request ∷ [])) → AsksFirst base bytes (given ++ request ∷ [])
    by (inl none) = absurd (push_some given request none)
    by (inr first) = first

abbrev asked_by : Base → List ℕ → List Request → List Entry → Course
asked_by base bytes requests entries = record { bytes = bytes; base = base; requests = requests; entries = entries }

-- of what was asked for nothing more was entered
these_now : (base : Base) (bytes : List ℕ) (requests more : List Request)
    → ((requests ++ more ≡ []) ⊎ AsksFirst base bytes (requests ++ more)) → AsksThese (asked_by base bytes (requests ++ []) [])
these_now base bytes requests more asks = record {
  more = more;
  asks = subst (λ r. (r ++ more ≡ []) ⊎ AsksFirst base bytes (r ++ more)) (sym (append-nil requests)) asks;
}

no_part : (session at : ℕ) (course : Course) (base : Base) (more : List Request)
    → ((course.requests ++ more ≡ []) ⊎ AsksFirst base course.bytes (course.requests ++ more)) → Part session at course [] []
no_part session at course base more asks = record {
  base = base;
  are = refl;
  at_is = All-nil (λ e. e.at ≡ at);
  live = record { front = []; last = []; entries_are = refl; one = omega arith; live = All-nil StaysLive };
  asks = these_now base course.bytes course.requests more asks;
}

-- nothing was entered, and the bytes ask for more
more_due : (course : Course) (base : Base) (fault : StepFault) → AsksMore base course.bytes course.requests
    → IsDueBy fault course [] []
more_due course base Spent more =
    (base, All-nil StaysLive, subst (λ r. AsksMore base course.bytes r) (sym (append-nil course.requests)) more)
more_due course base Memory more = tt
more_due course base Bad more = tt

-- ---- an entry that was not made
pub comes_broken : {K : Type 0} {words : Lasting K} (old new : Serving K) (event : Event) (at : ℕ) (fault : StepFault)
    → EntersBy words old new event at (Err fault) → Breaks words at old new fault []
comes_broken old new event at Spent (same, count) = record {
  last = [];
  made = made_same old new same;
  read = NotRead;
  tells = (refl, ap (λ m. m.count) same ∙ count);
}
comes_broken old new event at Memory (e, entered) = record {
  last = e ∷ [];
  made = entered.made;
  read = HasRead e entered.event_is entered.at_is;
  tells = tt;
}
comes_broken old new event at Bad none = absurd none

memory_broken : {K : Type 0} {words : Lasting K} (at : ℕ) (old new : Serving K) (part : List Entry)
    → GoesOn words old new part
    → Breaks words at old new Memory part
memory_broken {K} {words} at old new part made = record {
  last = [];
  made = subst (λ p. GoesOn words old new p) (sym (append-nil part)) made;
  read = NotRead;
  tells = tt;
}

pub next_broken : {K : Type 0} {words : Lasting K} (session at : ℕ) (course : Course) (core : Core) (base : Base)
    (machine : Serving K)
    → IsAt core base course.bytes course.requests → BreaksOff words session at course machine machine Memory
next_broken session at course core base machine is = record {
  asked = [];
  part = [];
  is = no_part session at course base []
      (subst (λ r. (r ≡ []) ⊎ AsksFirst base course.bytes r) (sym (append-nil course.requests))
      (asks_at core base course.bytes course.requests is));
  due = tt;
  breaks = memory_broken at machine machine [] (made_none machine);
}

pub stop_broken : {K : Type 0} {words : Lasting K} (session at : ℕ) (course : Course) (core : Core) (base : Base)
    (stop : SessionEnd)
    (old new : Serving K) (fault : StepFault) → IsAt core base course.bytes course.requests
    → AsksAll base course.bytes course.requests (Some stop) → Breaks words at old new fault []
    → BreaksOff words session at course old new fault
stop_broken {K} {words} session at course core base stop old new fault is all breaks = record {
  asked = [];
  part = [];
  is = no_part session at course base []
      (subst (λ r. (r ≡ []) ⊎ AsksFirst base course.bytes r) (sym (append-nil course.requests))
      (asks_at core base course.bytes course.requests is));
  due = more_due course base fault (AsksEnd stop all);
  breaks = breaks;
}

-- ---- a request is entered
module _ {K : Type 0} {words : Lasting K} (schema : Tables) (peer : Peer) (session at : ℕ) (course : Course)
    (base : Base) (request : Request)
    (old new : Serving K) (core : Core) (before text : List ℕ) (told tells : Tally)
    (todo : IsTodo core base course.bytes course.requests (Ask request))
    (has : HasEntered peer session course.requests course.entries) where
  pub not_asked : (fault : StepFault) → EntersBy words old new (Requested session request) at (Err fault)
      → BreaksOff words session at course old new fault
  not_asked fault comes = record {
    asked = [];
    part = [];
    is = no_part session at course base (request ∷ []) (asks_at core base course.bytes (course.requests ++ request ∷ []) todo.1);
    due = more_due course base fault (AsksOne request (first_at core base course.bytes course.requests request todo.1));
    breaks = comes_broken old new (Requested session request) at fault comes;
  }

  module _ (e : Entry) (entered : IsEntered words old new (Requested session request) at e)
      (was : before ≡ session_text schema base course.entries) where
    text_one : (now : List ℕ) → now ≡ before ++ entry_text schema base e.outcome → now ≡ session_text schema base (course.entries ++ e ∷ [])
    text_one now is =
        is ∙ (ap (λ t. t ++ entry_text schema base e.outcome) was ∙ sym (text_more schema base course.entries e))

    pub answered_live : Settles schema base e before text (Ok None) → Tallied told tells (e ∷ [])
        → Answers words schema session at course base request old new core text told tells (Ok None)
    answered_live (live, is) tallied = (
      e,
      entered,
      live,
      record {
        peer = peer;
        at = todo.1;
        entered = entered_more peer session course.requests course.entries request e has entered.event_is;
        text_is = text_one text is;
      },
      tallied,
    )

    dead_text : e.outcome ≡ NotLive → before ≡ session_text schema base (course.entries ++ e ∷ [])
    dead_text dead =
        text_one before
        (sym (append-nil before) ∙ ap (λ t. before ++ t) (ap (λ o. entry_text schema base o) (sym dead)))

    pub answered_over : (end : SessionEnd) → Settles schema base e before text (Ok (Some end)) → Tallied told tells (e ∷ [])
        → Answers words schema session at course base request old new core text told tells (Ok (Some end))
    answered_over Closed (closes, is) tallied =
        (e, entered, closes, text_one text is, first_at core base course.bytes course.requests request todo.1, tallied)
    answered_over Killed (not, is) tallied =
        let dead = dead_request old.state e session request entered.fits entered.event_is not in
        (e, entered, dead, is ∙ dead_text dead, first_at core base course.bytes course.requests request todo.1, tallied)
    answered_over InputEnded none tallied = absurd none
    answered_over (BadHello why) none tallied = absurd none
    answered_over (BadFrame place) none tallied = absurd none
    answered_over (Malformed place why) none tallied = absurd none
    answered_over (TooBig place) none tallied = absurd none
    answered_over ReadFault none tallied = absurd none
    answered_over WriteFault none tallied = absurd none
    answered_over (Full live last) none tallied = absurd none
    answered_over (EndSpent ticket) none tallied = absurd none
    answered_over EndMemory none tallied = absurd none

    unwritten : (fault : StepFault) → Settles schema base e before text (Err fault)
        → BreaksOff words session at course old new fault
    unwritten fault is = record {
      asked = request ∷ [];
      part = e ∷ [];
      is = record {
        base = base;
        are = ap (λ v. v ∷ []) entered.event_is;
        at_is = All-cons (λ x. x.at ≡ at) e [] entered.at_is (All-nil (λ x. x.at ≡ at));
        live = record { front = []; last = e ∷ []; entries_are = refl; one = omega arith; live = All-nil StaysLive };
        asks = asks_these (asked_by base course.bytes (course.requests ++ request ∷ []) (e ∷ []))
            (inr (first_at core base course.bytes course.requests request todo.1));
      };
      due = subst (λ f. IsDueBy f course (request ∷ []) (e ∷ [])) (sym is) tt;
      breaks = subst (λ f. Breaks words at old new f (e ∷ [])) (sym is)
          (memory_broken at old new (e ∷ []) entered.made);
    }

    -- what an entry comes to, however it was written
    pub answered_as : (result : Result (Option SessionEnd) StepFault) → Settles schema base e before text result
        → Tallied told tells (e ∷ []) → Answers words schema session at course base request old new core text told
        tells result
    answered_as (Ok None) settles tallied = answered_live settles tallied
    answered_as (Ok (Some end)) settles tallied = answered_over end settles tallied
    answered_as (Err fault) settles tallied = unwritten fault settles

-- ---- a turn
pub turn_is : {K : Type 0} (words : Lasting K) (schema : Tables) (session at : ℕ) (course : Course)
    (old new : Serving K) (core : Core) (text : List ℕ)
    (told tells : Tally) (found turn : Turn) → found ≡ turn
    → Turns words schema session at course old new core text told tells (Ok found)
    → Turns words schema session at course old new core text told tells (Ok turn)
turn_is words schema session at course old new core text told tells found turn is turns =
    subst (λ t. Turns words schema session at course old new core text told tells (Ok t)) is turns

pub turn_asks : {K : Type 0} (words : Lasting K) (schema : Tables) (session at : ℕ) (course : Course) (base : Base)
    (request : Request) (old new : Serving K)
    (core : Core) (text : List ℕ) (told tells : Tally) (result : Result (Option SessionEnd) StepFault)
    → Answers words schema session at course base request old new core text told tells result
    → Turns words schema session at course old new core text told tells (turn_of result)
turn_asks words schema session at course base request old new core text told tells (Ok None) answers =
    (base, request, answers)
turn_asks words schema session at course base request old new core text told tells (Ok (Some end)) answers =
    inl (base, request, answers)
turn_asks words schema session at course base request old new core text told tells (Err fault) breaks = breaks

pub turn_stops : {K : Type 0} (words : Lasting K) (schema : Tables) (session at : ℕ) (course : Course) (base : Base)
    (old new : Serving K)
    (core : Core) (text : List ℕ) (tally : Tally) (stop : SessionEnd) (result : Result SessionEnd StepFault)
    → IsAt core base course.bytes course.requests → AsksAll base course.bytes course.requests (Some stop)
    → text ≡ session_text schema base course.entries → Stopping words session at stop old new result
    → Turns words schema session at course old new core text tally tally (over_of result)
turn_stops words schema session at course base old new core text tally stop (Ok end) here all is stopping =
    inr (base, stop, stopping, refl, all, is)
turn_stops words schema session at course base old new core text tally stop (Err fault) here all is breaks =
    stop_broken session at course core base stop old new fault here all breaks

-- a turn in which a request was answered has made an entry
pub entered_counts : {K : Type 0} {words : Lasting K} (old new : Serving K) (event : Event) (at : ℕ) (e : Entry)
    → IsEntered words old new event at e → CountsOne old new
entered_counts old new event at e entered = record { one = entered.made.count_is; few = entered.few }

pub turn_counts : {K : Type 0} (old new : Serving K) (answer : Result (Option SessionEnd) StepFault)
    → turn_of answer ≡ Ok Answered → OnOk answer (CountsOne old new) → CountsOne old new
turn_counts old new (Ok None) is counts = counts
turn_counts old new (Ok (Some end)) is counts = absurd (cc is)
turn_counts old new (Err fault) is counts = absurd (cc is)

pub over_is : (end : Result SessionEnd StepFault) → over_of end ≡ Ok Answered → ⊥
over_is (Ok end) is = cc is
over_is (Err fault) is = cc is

-- the End of a session was entered
pub stopped_as : {K : Type 0} {words : Lasting K} (session at : ℕ) (stop end : SessionEnd) (old new : Serving K)
    (e : Entry)
    → IsEntered words old new (End session) at e → EndsAs stop e.outcome end
    → Stopping words session at stop old new (Ok end)
stopped_as session at stop end old new e entered ends = (e, entered, by (end_comes old.state e session entered.fits entered.event_is))
  where
    by : ((e.outcome ≡ Ended) ⊎ (e.outcome ≡ NotLive)) → (((e.outcome ≡ Ended) × (end ≡ stop)) ⊎ ((e.outcome ≡ NotLive) × (end ≡ Killed)))
    by (inl out) = inl (out, subst (λ o. EndsAs stop o end) out ends)
    by (inr out) = inr (out, subst (λ o. EndsAs stop o end) out ends)

-- the version of the protocol may have been chosen
pub chosen_text : (schema : Tables) (course : Course) (base : Base) (peer : Peer) (session : ℕ) (text : List ℕ)
    → HasEntered peer session course.requests course.entries → IsChosen course.requests course.base base
    → text ≡ session_text schema course.base course.entries → text ≡ session_text schema base course.entries
chosen_text schema course base peer session text has chosen is =
    is ∙ sym (same_text schema course.base base peer session course.requests course.entries has chosen)

pub still_live : (schema : Tables) (session : ℕ) (core later : Core) (text : List ℕ) (course : Course) (base : Base)
    → (live : IsLive schema session core text course) → IsChosen course.requests course.base base
    → IsAt later base course.bytes course.requests → IsLive schema session later text (record course { base = base })
still_live schema session core later text course base live chosen at = record {
  peer = live.peer;
  at = at;
  entered = live.entered;
  text_is = chosen_text schema course base live.peer session text live.entered chosen live.text_is;
}
