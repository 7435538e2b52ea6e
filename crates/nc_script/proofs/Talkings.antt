-- One connection of a script.
use Rattle.std.proofs.Common.{◌≡◌, ◌⊎◌, ℕ, Bool, true, false, List, [], ◌∷◌, ◌++◌, Option, None, Some, Result, Ok, Err, refl, sym, ap, subst, ◌∙◌, inl, inr, append-nil, arith}
use Rattle.std.specs.Prelude.{is_err}
use Rattle.nc_names.specs.declared.memory.Memory.{Memory as NamesMemory}
use Rattle.std.proofs.lemmas.List.Elements.{All-cons, All-nil}
use Rattle.nc_machine.specs.Serving.{GoesOn, Serving}
use Rattle.nc_machine.specs.Lasting.{Lasting}
use Rattle.nc_model.specs.declared.entry.Entry.{Entry}
use Rattle.nc_model.specs.declared.event.Event.TheVariants.{Start, End}
use Rattle.nc_model.specs.declared.event.Outcome.{Outcome}
use Rattle.nc_model.specs.declared.event.Outcome.TheVariants.{Started, Full as IsFull, Answered, Ended, NotLive, Noted}
use Rattle.nc_protocol.specs.declared.peer.Peer.{Peer}
use Rattle.nc_protocol.specs.declared.request.Request.{Request}
use Rattle.nc_schema.specs.Tables.{Tables}
use Rattle.nc_session.proofs.Ending.{asks_in, asks_these, text_more, these_more}
use Rattle.nc_session.specs.declared.base.Base.{Base}
use Rattle.nc_session.specs.declared.base.Base.TheVariants.{Base10}
use Rattle.nc_session.specs.declared.end.SessionEnd.{SessionEnd}
use Rattle.nc_session.specs.declared.end.SessionEnd.TheVariants.{InputEnded, Killed, Full}
use Rattle.nc_session.specs.Cores.{Core, IsAt, TakesPiece}
use Rattle.nc_session.specs.Serves.{AsksThese, Course}
use Rattle.nc_session.specs.Sessions.{entry_text, session_text}
use Rattle.nc_session.specs.inner.Unseen.{Unseen}
use Rattle.nc_script.proofs.Hearings.{comes_broken}
use Rattle.nc_script.proofs.Lefts.{end_comes}
use Rattle.nc_script.proofs.Made.{made_none, made_same}
use Rattle.nc_script.proofs.Tallying.{tally_none}
use Rattle.nc_script.specs.Connections.{Connection, begun}
use Rattle.nc_script.specs.Leaving.{StaysLive}
use Rattle.nc_script.specs.Runs.{NotRead, is_error, is_reply}
use Rattle.nc_script.specs.Steps.{AreOf, Comes, Greeted, HasEnded, HearsBy, Leaves, Unplaced, WasKilled, WasOver}
use Rattle.nc_script.specs.inner.Entering.{Breaks, Comes as EntersBy, IsEntered}
use Rattle.nc_script.specs.inner.Hearing.{BreaksOff, Heard, IsDueBy, IsLive, further}
use Rattle.nc_script.specs.inner.Talking.{BeginsAt, Greets, HasBegun, HasHeardAs, HasLeftAs, HeardPart, IsIn, IsNoneIf, LacksIf, LeavesIn, Placed, Stands}
use Rattle.nc_script.specs.inner.Left.{EndsAs}
use Rattle.nc_script.specs.declared.fault.StepFault.{StepFault}
use Rattle.nc_script.specs.declared.fault.StepFault.TheVariants.{Bad, Spent, Memory}
use Rattle.nc_script.specs.declared.talk.State.{State}
use Rattle.nc_script.specs.declared.talk.State.TheVariants.{Live, Over}
use Rattle.nc_script.specs.declared.talk.Talk.{Talk}
use Rattle.nc_script.specs.declared.tally.Tally.{Tally}

-- ---- a connection begins
module _ {K : Type 0} {words : Lasting K} (number : ℕ) (peer : Peer) (at : ℕ) (old new : Serving K) (e : Entry)
    (text : List ℕ)
    (entered : IsEntered words old new (Start peer) at e) where
  abbrev schema : Tables
  schema = new.state.schema

  started : (session n : ℕ) (core : Core) → e.outcome ≡ Started n → session ≡ n → ((base : Base) → IsAt core base [] [])
      → Greets schema (Live session core) (Ok text)
      → HasBegun words number peer at old new (record {
        number = number;
        text = text;
        state = Live session core;
        is_over = false;
      })
  started session n core out same at_start greets =
      let out_is : e.outcome ≡ Started session = out ∙ ap Started (sym same) in
      record {
        connection = begun number session e None;
        group = e ∷ [];
        begins = Greeted e session entered.event_is out_is;
        made = entered.made;
        at_is = All-cons (λ x. x.at ≡ at) e [] entered.at_is (All-nil (λ x. x.at ≡ at));
        stands = record {
          number_is = refl;
          over_is = refl;
          state_is = (
            refl,
            refl,
            record {
              peer = peer;
              at = at_start Base10;
              entered = record {
                start = e;
                answers = [];
                entries_are = refl;
                event = entered.event_is;
                started = out_is;
                events = refl;
              };
              text_is =
                  greets ∙ (sym (append-nil _) ∙ ap (λ o. entry_text schema Base10 o ++ []) (sym out_is));
            },
          );
        };
      }

  unplaced : (live last : ℕ) (end : SessionEnd) → e.outcome ≡ IsFull live last → end ≡ Full live last
      → Greets schema (Over end) (Ok text)
      → HasBegun words number peer at old new (record {
        number = number;
        text = text;
        state = Over end;
        is_over = false;
      })
  unplaced live last end out same greets = record {
    connection = begun number 0 e (Some (Full live last));
    group = e ∷ [];
    begins = Unplaced e live last entered.event_is out;
    made = entered.made;
    at_is = All-cons (λ x. x.at ≡ at) e [] entered.at_is (All-nil (λ x. x.at ≡ at));
    stands = record {
      number_is = refl;
      over_is = refl;
      state_is = (ap Some (sym same), greets ∙ ap (λ o. entry_text schema Base10 o ++ []) (sym out));
    };
  }

  pub has_begun : (state : State) → Placed e.outcome state → Greets schema state (Ok text)
      → HasBegun words number peer at old new (record { number = number; text = text; state = state; is_over = false })
  has_begun state placed greets = by e.outcome refl state placed greets
    where
      by : (outcome : Outcome) → e.outcome ≡ outcome → (state : State) → Placed outcome state → Greets schema state (Ok text)
          → HasBegun words number peer at old new (record {
            number = number;
            text = text;
            state = state;
            is_over = false;
          })
      by (Started n) out (Live session core) placed greets = started session n core out placed.0 placed.1 greets
      by (Started n) out (Over end) placed greets = absurd placed
      by (IsFull live last) out (Live session core) placed greets = absurd placed
      by (IsFull live last) out (Over end) placed greets = unplaced live last end out placed greets
      by (Answered decided reply) out state placed greets = absurd placed
      by NotLive out state placed greets = absurd placed
      by Ended out state placed greets = absurd placed
      by Noted out state placed greets = absurd placed

  ungreeted_by : (state : State) (fault : StepFault) → Greets schema state (Err fault) → fault ≡ Memory
  ungreeted_by (Live session core) fault is = is
  ungreeted_by (Over end) fault is = is

  pub ungreeted : (state : State) (fault : StepFault) → Greets schema state (Err fault)
      → BeginsAt words number peer at old new (Err fault)
  ungreeted state fault is = (
    e ∷ [],
    inr (e, refl, entered.event_is, entered.at_is),
    subst (λ f. IsNoneIf f (e ∷ [])) (sym (ungreeted_by state fault is)) tt,
    subst (λ f. Breaks words at old new f (e ∷ [])) (sym (ungreeted_by state fault is))
        (record { last = []; made = entered.made; read = NotRead; tells = tt }),
  )

-- the Start was not entered
none_if : (fault : StepFault) → IsNoneIf fault []
none_if Spent = refl
none_if Memory = tt
none_if Bad = tt

pub unstarted : {K : Type 0} {words : Lasting K} (number : ℕ) (peer : Peer) (at : ℕ) (old new : Serving K)
    (fault : StepFault)
    → EntersBy words old new (Start peer) at (Err fault) → BeginsAt words number peer at old new (Err fault)
unstarted number peer at old new fault comes =
    ([], inl refl, none_if fault, comes_broken old new (Start peer) at fault comes)

-- ---- bytes come
pub taken : (At : List ℕ → Type 0) (bytes piece : List ℕ) (result : Result (Unit {0}) NamesMemory) → is_err result ≡ false
    → TakesPiece At bytes piece result → At (bytes ++ piece)
taken At bytes piece (Ok u) ok is = is
taken At bytes piece (Err memory) ok is = absurd (cc ok)

-- a connection's course, with the bytes that came
module _ (piece : List ℕ) (c : Connection) where
  abbrev fed : Course
  fed = record c.course { bytes = c.course.bytes ++ piece }

  pub live_fed : (schema : Tables) (session : ℕ) (core later : Core) (text : List ℕ)
      → IsIn schema (Live session core) text c
      → IsAt later c.course.base (c.course.bytes ++ piece) c.course.requests → IsLive schema session later text fed
  live_fed schema session core later text (none, same, live) is = record {
    peer = live.peer;
    at = is;
    entered = live.entered;
    text_is = live.text_is;
  }

  lacks_if : (session : ℕ) (asked : List Request) (part : List Entry) (fault : StepFault) → AreOf c.session asked part
      → IsDueBy fault fed asked part → LacksIf fault piece part c
  lacks_if session asked part Spent are (base, live, more) =
      record { asked = asked; base = base; are = are; live = live; more = more }
  lacks_if session asked part Memory are due = tt
  lacks_if session asked part Bad are due = tt

module _ {K : Type 0} {words : Lasting K} (schema : Tables) (piece : List ℕ) (at : ℕ) (c : Connection)
    (old new : Serving K) (told tells : Tally) where
  heard_all : (session : ℕ) (core : Core) (text : List ℕ) (end : Option SessionEnd) (P : Connection → Type 0)
      → c.end ≡ None → c.session ≡ session → (h : Heard words schema session at
      (fed piece c) old new core text told tells end)
      → P (record c { course = further (fed piece c) h.base h.asked (h.answers ++ h.ended); end = end })
      → HasHeardAs words schema piece at c old new told tells P
  heard_all session core text end P none same h kept =
      let group = h.answers ++ h.ended in
      let next = record c { course = further (fed piece c) h.base h.asked group; end = end } in
      record {
        next = next;
        group = group;
        hears = subst (λ x. HearsBy x piece group c next) (sym none) (record {
          asked = h.asked;
          answers = h.answers;
          ended = h.ended;
          group_is = refl;
          are = subst (λ s. AreOf s h.asked h.answers) (sym same) h.are;
          comes = subst (λ s. Comes s (further (fed piece c) h.base h.asked group) h.answers h.ended end)
              (sym same) h.comes;
          bytes_are = refl;
          requests_are = refl;
          entries_are = refl;
          same = refl;
        });
        made = h.goes.made;
        at_is = h.goes.at_is;
        tallied = h.goes.tallied;
        kept = kept;
      }

  -- the session goes on
  pub heard_on : (session : ℕ) (core later : Core) (before text : List ℕ) → IsIn schema (Live session core) before c
      → Heard words schema session at (fed piece c) old new later text told tells None
      → HasHeardAs words schema piece at c old new told tells (λ next. IsIn schema (Live session later) text next)
  heard_on session core later before text (none, same, live) h =
      heard_all session later text None (λ next. IsIn schema (Live session later) text next) none same h (refl, same, h.lives)

  -- it ended
  pub heard_out : (session : ℕ) (core later : Core) (before text : List ℕ) (end : SessionEnd)
      → IsIn schema (Live session core) before c → Heard words schema session at
      (fed piece c) old new later text told tells (Some end)
      → HasHeardAs words schema piece at c old new told tells (λ next. IsIn schema (Over end) text next)
  heard_out session core later before text end (none, same, live) h =
      heard_all session later text (Some end) (λ next. IsIn schema (Over end) text next) none same h (refl, h.goes.text_is)

  pub heard_part : (session : ℕ) (core : Core) (text : List ℕ) (fault : StepFault) → IsIn schema (Live session core) text c
      → BreaksOff words session at (fed piece c) old new fault → HeardPart words piece at c old new fault
  heard_part session core text fault (none, same, live) b = record {
    part = b.part;
    goes_on = none;
    due = lacks_if piece c session b.asked b.part fault (subst (λ s. AreOf s b.asked b.part) (sym same) b.is.are) b.due;
    is = record {
      asked = b.asked;
      base = b.is.base;
      are = subst (λ s. AreOf s b.asked b.part) (sym same) b.is.are;
      live = b.is.live;
      asks = b.is.asks;
    };
    at_is = b.is.at_is;
    breaks = b.breaks;
  }

-- bytes are dropped
pub heard_dropped : {K : Type 0} {words : Lasting K} (schema : Tables) (piece : List ℕ) (at : ℕ) (c : Connection)
    (machine : Serving K) (tally : Tally)
    (text : List ℕ) (end : SessionEnd) → IsIn schema (Over end) text c
    → HasHeardAs words schema piece at c machine machine tally tally (λ next. IsIn schema (Over end) text next)
heard_dropped tables piece at c machine tally text end (ended, is) = record {
  next = c;
  group = [];
  hears = subst (λ x. HearsBy x piece [] c c) (sym ended) (refl, refl);
  made = made_none machine;
  at_is = All-nil (λ e. e.at ≡ at);
  tallied = tally_none tally;
  kept = (ended, is);
}

-- no memory for the bytes
pub heard_nothing : {K : Type 0} {words : Lasting K} (schema : Tables) (piece : List ℕ) (at : ℕ) (c : Connection)
    (machine : Serving K) (session : ℕ)
    (core : Core) (text : List ℕ) → IsIn schema (Live session core) text c
    → HeardPart words piece at c machine machine Memory
heard_nothing schema piece at c machine session core text (none, same, live) = record {
  part = [];
  goes_on = none;
  due = tt;
  is = record {
    asked = [];
    base = c.course.base;
    are = refl;
    live = record { front = []; last = []; entries_are = refl; one = omega arith; live = All-nil StaysLive };
    asks = subst (λ r. AsksThese (record {
      bytes = c.course.bytes ++ piece;
      base = c.course.base;
      requests = r;
      entries = [];
    })) (sym (append-nil c.course.requests)) (asks_these (record {
      bytes = c.course.bytes ++ piece;
      base = c.course.base;
      requests = c.course.requests;
      entries = [];
    }) (these_more c.course.base c.course.bytes piece c.course.requests
        (asks_in (Unseen core.inbox) core.phase c.course.base c.course.bytes c.course.requests live.at)));
  };
  at_is = All-nil (λ e. e.at ≡ at);
  breaks = record { last = []; made = made_none machine; read = NotRead; tells = tt };
}

-- ---- a connection ends
pub leaves_live : {K : Type 0} {words : Lasting K} (session at : ℕ) (core : Core) (end : SessionEnd)
    (old new : Serving K) (e : Entry)
    → IsEntered words old new (End session) at e → EndsAs InputEnded e.outcome end
    → LeavesIn words at old new (Live session core) (Ok end)
leaves_live session at core end old new e entered ends =
    (e, entered.made, entered.at_is, entered.event_is, by (end_comes old.state e session entered.fits entered.event_is))
  where
    by : ((e.outcome ≡ Ended) ⊎ (e.outcome ≡ NotLive)) → (((e.outcome ≡ Ended) × (end ≡ InputEnded)) ⊎ ((e.outcome ≡ NotLive) × (end ≡ Killed)))
    by (inl out) = inl (out, subst (λ o. EndsAs InputEnded o end) out ends)
    by (inr out) = inr (out, subst (λ o. EndsAs InputEnded o end) out ends)

-- its End was not entered
pub unended : {K : Type 0} (words : Lasting K) (session at : ℕ) (core : Core) (old new : Serving K)
    (fault : StepFault) (state : State)
    → state ≡ Live session core → EntersBy words old new (End session) at (Err fault)
    → LeavesIn words at old new state (Err fault)
unended words session at core old new fault state is comes =
    subst (λ s. LeavesIn words at old new s (Err fault)) (sym is) (comes_broken old new (End session) at fault comes)

abbrev left : Connection → List Entry → SessionEnd → Connection
left c group end = record c {
  course = record c.course { entries = c.course.entries ++ group };
  end = Some end;
  is_over = true;
}

abbrev gone : ℕ → List ℕ → SessionEnd → Talk
gone number text end = record { number = number; text = text; state = Over end; is_over = true }

module _ {K : Type 0} {words : Lasting K} (schema : Tables) (at : ℕ) (c : Connection) (old new : Serving K)
    (number : ℕ) (text : List ℕ) (over : Bool) where
  pub not_left : (state : State) (fault : StepFault)
      → Stands schema (record { number = number; text = text; state = state; is_over = over }) c
      → LeavesIn words at old new state (Err fault) → (c.end ≡ None) × Breaks words at old new fault []
  not_left (Live session core) fault stands breaks = (stands.state_is.0, breaks)
  not_left (Over end) fault stands none = absurd none

  left_one : (e : Entry) (end : SessionEnd) → c.number ≡ number → text ≡ session_text schema c.course.base c.course.entries
      → entry_text schema c.course.base e.outcome ≡ [] → is_reply e.outcome ≡ false → is_error e.outcome ≡ false
      → Leaves c.session c.end (e ∷ []) (Some end) → GoesOn words old new (e ∷ []) → e.at ≡ at
      → HasLeftAs words schema at c old new (gone number text end)
  left_one e end number_is is silent no_reply no_error leaves made at_is = record {
    next = left c (e ∷ []) end;
    group = e ∷ [];
    ends = record { leaves = leaves; new_is = refl };
    made = made;
    at_is = All-cons (λ x. x.at ≡ at) e [] at_is (All-nil (λ x. x.at ≡ at));
    unanswered = All-cons (λ x. (is_reply x.outcome ≡ false) × (is_error x.outcome ≡ false)) e [] (no_reply, no_error)
        (All-nil (λ x. (is_reply x.outcome ≡ false) × (is_error x.outcome ≡ false)));
    kept = record {
      number_is = number_is;
      over_is = refl;
      state_is = (
        refl,
        is ∙ (sym (append-nil (session_text schema c.course.base c.course.entries))
            ∙ (ap (λ t. session_text schema c.course.base c.course.entries ++ t) (sym silent)
            ∙ sym (text_more schema c.course.base c.course.entries e))),
      );
    };
  }

  pub has_left : (state : State) (end : SessionEnd) → Stands schema (record { number = number; text = text; state = state; is_over = over }) c
      → LeavesIn words at old new state (Ok end) → HasLeftAs words schema at c old new (gone number text end)
  has_left (Live session core) end stands (e, made, at_is, event, comes) = by comes
    where
      none : c.end ≡ None
      none = stands.state_is.0

      same : c.session ≡ session
      same = stands.state_is.1

      by : (((e.outcome ≡ Ended) × (end ≡ InputEnded)) ⊎ ((e.outcome ≡ NotLive) × (end ≡ Killed)))
          → HasLeftAs words schema at c old new (gone number text end)
      by (inl (out, end_is)) =
          left_one e end stands.number_is stands.state_is.2.text_is (ap (λ o. entry_text schema c.course.base o) out) (ap is_reply out) (ap is_error out)
          (subst (λ x. Leaves c.session x (e ∷ []) (Some end)) (sym none)
          (subst (λ x. Leaves c.session None (e ∷ []) (Some x)) (sym end_is)
          (HasEnded e (subst (λ s. e.event ≡ End s) (sym same) event) out)))
          made at_is
      by (inr (out, end_is)) =
          left_one e end stands.number_is stands.state_is.2.text_is (ap (λ o. entry_text schema c.course.base o) out) (ap is_reply out) (ap is_error out)
          (subst (λ x. Leaves c.session x (e ∷ []) (Some end)) (sym none)
          (subst (λ x. Leaves c.session None (e ∷ []) (Some x)) (sym end_is)
          (WasKilled e (subst (λ s. e.event ≡ End s) (sym same) event) out)))
          made at_is
  has_left (Over was) end stands (end_is, unchanged) = record {
    next = left c [] end;
    group = [];
    ends = record {
      leaves = subst (λ x. Leaves c.session x [] (Some end)) (ap Some end_is ∙ sym stands.state_is.0) (WasOver end);
      new_is = refl;
    };
    made = made_same old new unchanged;
    at_is = All-nil (λ e. e.at ≡ at);
    unanswered = All-nil (λ x. (is_reply x.outcome ≡ false) × (is_error x.outcome ≡ false));
    kept = record {
      number_is = stands.number_is;
      over_is = refl;
      state_is = (
        refl,
        stands.state_is.1 ∙ ap (λ es. session_text schema c.course.base es) (sym (append-nil c.course.entries)),
      );
    };
  }
