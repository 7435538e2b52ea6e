-- A session that answers one request after another.
use Rattle.std.proofs.Common.{◌≡◌, ◌⊎◌, ◌<◌, ◌≤◌, ◌+◌, ℕ, false, List, [], ◌∷◌, ◌++◌, Option, None, Some, Ok, refl, sym, ap, subst, ◌∙◌, inl, inr, append-nil, append_assoc, arith}
use Rattle.std.proofs.lemmas.List.{map-append}
use Rattle.std.proofs.lemmas.List.Elements.{All-append, All-nil, All-push}
use Rattle.nc_names.specs.Limits.{most_requests}
use Rattle.nc_machine.specs.Serving.{GoesOn, Serving}
use Rattle.nc_machine.specs.Lasting.{Lasting}
use Rattle.nc_model.specs.declared.entry.Entry.{Entry}
use Rattle.nc_model.specs.declared.event.Event.{Event}
use Rattle.nc_model.specs.declared.event.Event.TheVariants.{Request as Requested, End}
use Rattle.nc_model.specs.declared.event.Outcome.TheVariants.{Ended, NotLive}
use Rattle.nc_protocol.specs.declared.request.Request.{Request}
use Rattle.nc_schema.specs.Tables.{Tables}
use Rattle.nc_session.proofs.Ending.{text_more}
use Rattle.nc_session.specs.declared.base.Base.{Base}
use Rattle.nc_session.specs.declared.end.SessionEnd.{SessionEnd}
use Rattle.nc_session.specs.declared.end.SessionEnd.TheVariants.{Closed, InputEnded, BadHello, BadFrame, Malformed, TooBig, Killed, ReadFault, WriteFault, Full, Spent as EndSpent, Memory as EndMemory}
use Rattle.nc_session.specs.Asks.{AsksFirst, AsksAll}
use Rattle.nc_session.specs.Cores.{Core}
use Rattle.nc_session.specs.Serves.{Course}
use Rattle.nc_session.specs.Sessions.{entry_text, session_text}
use Rattle.nc_script.proofs.Made.{made_more, made_none}
use Rattle.nc_script.proofs.Tallying.{tally_more, tally_none, tally_silent}
use Rattle.nc_script.specs.Leaving.{StaysLive}
use Rattle.nc_script.specs.Runs.{is_error, is_reply}
use Rattle.nc_script.specs.Steps.{AreOf, AsksMore, Comes, Stops, StopsDead, Waits as ItWaits, WasClosed, WasDead}
use Rattle.nc_script.specs.inner.Entering.{IsEntered}
use Rattle.nc_script.specs.inner.Hearing.{Answers, BreaksOff, EndsBy, Goes, Heard, HasCounted, IsDueBy, IsLive, Listening, LivesIf, Stopping, Turns, further}
use Rattle.nc_script.specs.inner.Tallies.{Tallied}
use Rattle.nc_script.specs.declared.fault.StepFault.{StepFault}
use Rattle.nc_script.specs.declared.fault.StepFault.TheVariants.{Bad, Spent, Memory}
use Rattle.nc_script.specs.declared.hear.Turn.TheVariants.{Answered, Waits, Over}
use Rattle.nc_script.specs.declared.tally.Tally.{Tally}

further_none : (course : Course) → course ≡ further course course.base [] []
further_none course i = record {
  bytes = course.bytes;
  base = course.base;
  requests = sym (append-nil course.requests) i;
  entries = sym (append-nil course.entries) i;
}

further_more : (course : Course) (base other : Base) (asked more : List Request) (group rest : List Entry)
    → further (further course other asked group) base more rest ≡ further course base (asked ++ more) (group ++ rest)
further_more course base other asked more group rest i = record {
  bytes = course.bytes;
  base = base;
  requests = append_assoc course.requests asked more i;
  entries = append_assoc course.entries group rest i;
}

are_more : (session : ℕ) (asked more : List Request) (xs ys : List Entry) → AreOf session asked xs → AreOf session more ys
    → AreOf session (asked ++ more) (xs ++ ys)
are_more session asked more xs ys first second =
    map-append (λ (e : Entry). e.event) xs ys
    ∙ ((λ i. first i ++ second i) ∙ sym (map-append (λ (request : Request). Requested session request) asked more))

pub listening_none : {K : Type 0} {words : Lasting K} (schema : Tables) (session at : ℕ) (course : Course)
    (machine : Serving K) (core : Core) (text : List ℕ)
    (tally : Tally) → IsLive schema session core text course
    → Listening words schema session at course machine machine core text tally tally
listening_none {K} {words} schema session at course machine core text tally live = record {
  base = course.base;
  asked = [];
  answers = [];
  are = refl;
  live = All-nil StaysLive;
  goes = record {
    made = made_none machine;
    at_is = All-nil (λ e. e.at ≡ at);
    text_is = live.text_is ∙ ap (λ es. session_text schema course.base es) (sym (append-nil course.entries));
    tallied = tally_none tally;
  };
  lives = subst (λ c. IsLive schema session core text c) (further_none course) live;
}

module _ {K : Type 0} {words : Lasting K} (schema : Tables) (session at : ℕ) (course : Course)
    (old middle new : Serving K) (core later : Core)
    (text now : List ℕ) (told mid tells : Tally)
    (l : Listening words schema session at course old middle core text told mid) where
  abbrev here : Course
  here = further course l.base l.asked l.answers

  joined : (base : Base) (e : Entry) → now ≡ session_text schema base (here.entries ++ e ∷ [])
      → now ≡ session_text schema base (course.entries ++ (l.answers ++ e ∷ []))
  joined base e is = is ∙ ap (λ es. session_text schema base es) (append_assoc course.entries l.answers (e ∷ []))

  goes_one : (base : Base) (asked : List Request) (event : Event) (e : Entry) → IsEntered words middle new event at e
      → now ≡ session_text schema base (here.entries ++ e ∷ []) → Tallied mid tells (e ∷ [])
      → Goes words schema session at course base asked (l.answers ++ e ∷ []) old new now told tells
  goes_one base asked event e entered is tallied = record {
    made = made_more old middle new l.answers (e ∷ []) l.goes.made entered.made;
    at_is = All-push (λ x. x.at ≡ at) l.answers e l.goes.at_is entered.at_is;
    text_is = joined base e is;
    tallied = tally_more told mid tells l.answers (e ∷ []) l.goes.tallied tallied;
  }

  pub listening_more : Turns words schema session at here middle new later now mid tells (Ok Answered)
      → Listening words schema session at course old new later now told tells
  listening_more (base, request, (e, entered, live, lives, tallied)) = record {
    base = base;
    asked = l.asked ++ request ∷ [];
    answers = l.answers ++ e ∷ [];
    are = are_more session l.asked (request ∷ []) l.answers (e ∷ []) l.are (ap (λ v. v ∷ []) entered.event_is);
    live = All-push StaysLive l.answers e l.live live;
    goes = goes_one base (l.asked ++ request ∷ []) (Requested session request) e entered lives.text_is tallied;
    lives = subst (λ c. IsLive schema session later now c)
        (further_more course base l.base l.asked (request ∷ []) l.answers (e ∷ [])) lives;
  }

  abbrev Ending : Base → List Request → List Entry → List Entry → Option SessionEnd → List Entry → Type 0
  Ending base asked answers ended end group =
      Goes words schema session at course base asked group old new now told tells
      × Comes session (further course base asked group) answers ended end
      × LivesIf end schema session later now (further course base asked group)

  heard_of : (base : Base) (asked : List Request) (answers : List Entry) (end : Option SessionEnd) → AreOf session asked answers
      → Ending base asked answers [] end answers → Heard words schema session at course old new later now told tells end
  heard_of base asked answers end are is =
      let all = subst (λ g. Ending base asked answers [] end g) (sym (append-nil answers)) is in
      record {
        base = base;
        asked = asked;
        answers = answers;
        ended = [];
        are = are;
        goes = all.0;
        comes = all.1;
        lives = all.2;
      }

  pub heard_waits : Turns words schema session at here middle new later now mid tells (Ok Waits)
      → Heard words schema session at course old new later now told tells None
  heard_waits (base, same, unchanged, lives, all) =
      heard_of base l.asked l.answers None l.are (
        record {
          made = subst (λ m. GoesOn words old m l.answers) (sym same) l.goes.made;
          at_is = l.goes.at_is;
          text_is = lives.text_is;
          tallied = subst (λ t. Tallied told t l.answers) (sym unchanged) l.goes.tallied;
        },
        ItWaits l.live all,
        lives,
      )

  first_of : (base : Base) (request : Request) → AsksFirst base here.bytes (here.requests ++ request ∷ [])
      → AsksFirst base course.bytes (course.requests ++ (l.asked ++ request ∷ []))
  first_of base request first =
      subst (λ r. AsksFirst base course.bytes r) (append_assoc course.requests l.asked (request ∷ [])) first

  pub heard_request : (end : SessionEnd) (base : Base) (request : Request)
      → Answers words schema session at here base request middle new later now mid tells (Ok (Some end))
      → Heard words schema session at course old new later now told tells (Some end)
  heard_request end base request (e, entered, ends, is, first, tallied) =
      heard_of base (l.asked ++ request ∷ []) (l.answers ++ e ∷ []) (Some end)
      (are_more session l.asked (request ∷ []) l.answers (e ∷ []) l.are (ap (λ v. v ∷ []) entered.event_is))
      (goes_one base (l.asked ++ request ∷ []) (Requested session request) e entered is tallied, by end ends, tt)
    where
      by : (end : SessionEnd) → EndsBy e end
          → Comes session (further course base (l.asked ++ request ∷ []) (l.answers ++ e ∷ [])) (l.answers ++ e ∷ []) [] (Some end)
      by Closed closes =
          WasClosed (record { before = l.answers; last = e; entries_are = refl; live = l.live; is = closes }) (first_of base request first)
      by Killed dead =
          WasDead (record { before = l.answers; last = e; entries_are = refl; live = l.live; is = dead }) (first_of base request first)
      by InputEnded none = absurd none
      by (BadHello why) none = absurd none
      by (BadFrame place) none = absurd none
      by (Malformed place why) none = absurd none
      by (TooBig place) none = absurd none
      by ReadFault none = absurd none
      by WriteFault none = absurd none
      by (Full live last) none = absurd none
      by (EndSpent ticket) none = absurd none
      by EndMemory none = absurd none

  silent_text : (base : Base) (e : Entry) → entry_text schema base e.outcome ≡ [] → now ≡ session_text schema base here.entries
      → now ≡ session_text schema base (here.entries ++ e ∷ [])
  silent_text base e silent is =
      is ∙ (sym (append-nil (session_text schema base here.entries))
      ∙ (ap (λ t. session_text schema base here.entries ++ t) (sym silent) ∙ sym (text_more schema base here.entries e)))

  pub heard_stop : (end stop : SessionEnd) (base : Base) → Stopping words session at stop middle new (Ok end)
      → tells ≡ mid
      → AsksAll base here.bytes here.requests (Some stop) → now ≡ session_text schema base here.entries
      → Heard words schema session at course old new later now told tells (Some end)
  heard_stop end stop base (e, entered, comes) same all is = by comes
    where
      goes : (silent : entry_text schema base e.outcome ≡ []) → is_reply e.outcome ≡ false → is_error e.outcome ≡ false
          → Goes words schema session at course base l.asked (l.answers ++ e ∷ []) old new now told tells
      goes silent no_reply no_error =
          goes_one base l.asked (End session) e entered (silent_text base e silent is)
          (subst (λ t. Tallied mid t (e ∷ [])) (sym same) (tally_silent mid e no_reply no_error))

      heard : Goes words schema session at course base l.asked (l.answers ++ e ∷ []) old new now told tells
          → Comes session (further course base l.asked (l.answers ++ e ∷ [])) l.answers (e ∷ []) (Some end)
          → Heard words schema session at course old new later now told tells (Some end)
      heard goes comes = record {
        base = base;
        asked = l.asked;
        answers = l.answers;
        ended = e ∷ [];
        are = l.are;
        goes = goes;
        comes = comes;
        lives = tt;
      }

      by : (((e.outcome ≡ Ended) × (end ≡ stop)) ⊎ ((e.outcome ≡ NotLive) × (end ≡ Killed)))
          → Heard words schema session at course old new later now told tells (Some end)
      by (inl (out, end_is)) =
          heard (goes (ap (λ o. entry_text schema base o) out) (ap is_reply out) (ap is_error out))
          (subst (λ x. Comes session (further course base l.asked (l.answers ++ e ∷ [])) l.answers (e ∷ []) (Some x)) (sym end_is)
          (Stops stop e l.live all entered.event_is out))
      by (inr (out, end_is)) =
          heard (goes (ap (λ o. entry_text schema base o) out) (ap is_reply out) (ap is_error out))
          (subst (λ x. Comes session (further course base l.asked (l.answers ++ e ∷ [])) l.answers (e ∷ []) (Some x)) (sym end_is)
          (StopsDead stop e l.live all entered.event_is out))

  pub heard_over : (end : SessionEnd) → Turns words schema session at here middle new later now mid tells
      (Ok (Over end))
      → Heard words schema session at course old new later now told tells (Some end)
  heard_over end (inl (base, request, answers)) = heard_request end base request answers
  heard_over end (inr (base, stop, stopping, same, all, is)) = heard_stop end stop base stopping same all is

  due_after : (asked : List Request) (part : List Entry) (fault : StepFault) → IsDueBy fault here asked part
      → IsDueBy fault course (l.asked ++ asked) (l.answers ++ part)
  due_after asked part Spent (base, live, more) = (
    base,
    All-append StaysLive l.answers part l.live live,
    subst (λ r. AsksMore base course.bytes r) (append_assoc course.requests l.asked asked) more,
  )
  due_after asked part Memory due = tt
  due_after asked part Bad due = tt

  -- a turn that ends early
  pub broken_off : (fault : StepFault) → BreaksOff words session at here middle new fault
      → BreaksOff words session at course old new fault
  broken_off fault b = record {
    asked = l.asked ++ b.asked;
    part = l.answers ++ b.part;
    is = record {
      base = b.is.base;
      are = are_more session l.asked b.asked l.answers b.part l.are b.is.are;
      at_is = All-append (λ e. e.at ≡ at) l.answers b.part l.goes.at_is b.is.at_is;
      live = record {
        front = l.answers ++ b.is.live.front;
        last = b.is.live.last;
        entries_are =
            ap (λ p. l.answers ++ p) b.is.live.entries_are ∙ sym (append_assoc l.answers b.is.live.front b.is.live.last);
        one = b.is.live.one;
        live = All-append StaysLive l.answers b.is.live.front l.live b.is.live.live;
      };
      asks = record {
        more = b.is.asks.more;
        asks = subst (λ r. (r ++ b.is.asks.more ≡ []) ⊎ AsksFirst b.is.base course.bytes (r ++ b.is.asks.more))
            (append_assoc course.requests l.asked b.asked) b.is.asks.asks;
      };
    };
    due = due_after b.asked b.part fault b.due;
    breaks = record {
      last = b.breaks.last;
      made = subst (λ es. GoesOn words old new es) (sym (append_assoc l.answers b.part b.breaks.last))
          (made_more old middle new l.answers (b.part ++ b.breaks.last) l.goes.made b.breaks.made);
      read = b.breaks.read;
      tells = b.breaks.tells;
    };
  }

-- one answer more, with one entry
pub counted_more : (answered was is : ℕ) → HasCounted answered was → is ≡ was + 1 → is ≤ most_requests
    → HasCounted (answered + 1) is
counted_more answered was is (inl none) one few = inr (omega (arith, none, one), few)
counted_more answered was is (inr more) one few = inr (omega (arith, more.0, one), few)

-- no history has so many entries
pub never_so_many : (answered count : ℕ) → HasCounted answered count → most_requests < answered → ⊥
never_so_many answered count (inl none) many = omega (arith, none, many)
never_so_many answered count (inr more) many = omega (arith, more.0, more.1, many)
