-- A session at a server of its own.
use Rattle.std.proofs.Common.{◌≡◌, ◌≢◌, ◌<◌, ◌+◌, ◌-◌, ◌^◌, ℕ, true, List, [], ◌∷◌, ◌++◌, length, Option, None, Some, refl, sym, subst, ap, ◌∙◌, arith}
use Rattle.std.specs.Coded.{Coded}
use Rattle.std.specs.Prelude.{IfSome, min}
use Rattle.nc_names.specs.Limits.{most_requests}
use Rattle.nc_machine.proofs.Standing.{named_continues, solo_begins}
use Rattle.nc_machine.specs.Lasting.{Lasting, name_of}
use Rattle.nc_machine.specs.Seats.{IsSpent, Seat, SoloStands, TellsReadings}
use Rattle.nc_names.specs.Counts.{Rose}
use Rattle.nc_names.specs.declared.path.Row.{Row}
use Rattle.nc_model.specs.declared.entry.Entry.{Entry}
use Rattle.nc_model.specs.Desks.{Home}
use Rattle.nc_model.specs.History.{IsLegal, after}
use Rattle.nc_model.specs.State.{IsGood, State, expired, opening}
use Rattle.nc_model.specs.Step.{has_failed, outcome_of}
use Rattle.nc_model.specs.declared.event.Event.TheVariants.{Start}
use Rattle.nc_model.specs.declared.event.Outcome.TheVariants.{Full as IsFull, Started}
use Rattle.nc_protocol.specs.declared.peer.Peer.{Peer}
use Rattle.nc_protocol.specs.declared.request.Request.{Request}
use Rattle.nc_model.proofs.GoodLemmas.{good_stays}
use Rattle.nc_model.proofs.HistoryLemmas.{legal_histories_join}
use Rattle.nc_outside.specs.Streams.{Streams}
use Rattle.nc_schema.specs.Tables.{Tables}
use Rattle.nc_session.specs.Asks.{AsksAll, Spurned, Stopped}
use Rattle.nc_session.specs.Serves.{Call, Concludes, CountedBy, Ends, IsDead, IsOver, Met, NoPlace, NoStart, Served, Serves, Unstarted, WasSpent, called}
use Rattle.nc_session.specs.declared.base.Base.{Base}
use Rattle.nc_session.specs.declared.end.SessionEnd.{SessionEnd}
use Rattle.nc_session.specs.declared.end.SessionEnd.TheVariants.{Closed, InputEnded, BadHello, BadFrame, Malformed, TooBig, Killed, ReadFault, WriteFault, Full, Spent, Memory}
use Rattle.nc_device.specs.Outside.{Times}
use Rattle.nc_device.specs.Sessions.{HasMade, HasMadeAlone, IsServed, Sitting}
use Rattle.nc_device.specs.Begun.{IsSeatedAt, Keeps}

-- what a desk stands for, and when it is spent, may be said by wider words
module _ (schema : Tables) (call : Call) (S T : List Entry → List Entry → Type 0) (P Q : ℕ → Type 0)
    (stands : (seen mine : List Entry) → S seen mine → T seen mine) (spent : (ticket : ℕ) → P ticket → Q ticket) where
  unstarted : (more : List Entry) (end : SessionEnd) → Unstarted call.home call.seen P more end
      → Unstarted call.home call.seen Q more end
  unstarted more (Spent ticket) (last, is, none) = (last, spent ticket is, none)
  unstarted more Memory is = is
  unstarted more Closed is = is
  unstarted more InputEnded is = is
  unstarted more (BadHello why) is = is
  unstarted more (BadFrame at) is = is
  unstarted more (Malformed at why) is = is
  unstarted more (TooBig at) is = is
  unstarted more Killed is = is
  unstarted more ReadFault is = is
  unstarted more WriteFault is = is
  unstarted more (Full live last) is = is

  concludes : (seen : List Entry) (session : ℕ) (standing : _) (met : SessionEnd) (later ended : List Entry)
      (end : SessionEnd) → Concludes call.home seen P session standing met later ended end
      → Concludes call.home seen Q session standing met later ended end
  concludes seen session standing met later ended end (IsOver other) = IsOver other
  concludes seen session standing met later ended end (WasSpent ticket last is) = WasSpent ticket last (spent ticket is)
  concludes seen session standing met later ended end (Ends others e alone live fresh event outcome) =
      Ends others e alone live fresh event outcome
  concludes seen session standing met later ended end (IsDead others e alone live fresh event outcome) =
      IsDead others e alone live fresh event outcome

  widened : (now : Streams) (end : SessionEnd) → Serves schema call S P now end → Serves schema call T Q now end
  widened now end (NoStart end2 more is same stood) = NoStart end2 more (unstarted more end2 is) same (stands _ _ stood)
  widened now end (NoPlace live last more start is same stood) = NoPlace live last more start is same (stands _ _ stood)
  widened now end (Served session more later ended course standing met end2 has over killed stood) =
      Served session more later ended course standing met end2 has
      (concludes (call.seen ++ more) session standing met later ended end2 over) killed (stands _ _ stood)

-- no other session ends one of a desk that is alone
killed_by : (schema : Tables) (call : Call) (S : List Entry → List Entry → Type 0) (P : ℕ → Type 0) (now : Streams) (end : SessionEnd)
    → call.home.alone ≡ true → Serves schema call S P now end → end ≡ Killed → ⊥
killed_by schema call S P now end alone (NoStart end2 more is same stood) killed =
    subst (λ e. Unstarted call.home call.seen P more e) killed is
killed_by schema call S P now end alone (NoPlace live last more start is same stood) killed = cc killed
killed_by schema call S P now end alone (Served session more later ended course standing met end2 has over by stood) killed =
    cc (alone, (by killed).shared)

never_killed : (schema : Tables) (call : Call) (S : List Entry → List Entry → Type 0) (P : ℕ → Type 0) (now : Streams) (end : SessionEnd)
    → call.home.alone ≡ true → Serves schema call S P now end → end ≢ Killed
never_killed schema call S P now end alone serves = λ killed. killed_by schema call S P now end alone serves killed

-- a good opening state leads to good ones
pub good_along : (opening : State) (seen : List Entry) → IsGood opening → IsLegal 0 opening seen → (front rest : List Entry)
    → seen ≡ front ++ rest → IsGood (after opening front)
good_along opening seen good legal front rest is =
    good_stays 0 opening front good
    ((legal_histories_join 0 opening front rest).0 (subst (λ h. IsLegal 0 opening h) is legal)).0

-- what lasts of a history may be said by a wider word
pub made_so : (first : State) (failed : ℕ) (S T : List Entry → Type 0) (before now : Times) (seen : List Entry)
    → ((history : List Entry) → S history → T history)
    → HasMade first failed S before now seen → HasMade first failed T before now seen
made_so first failed S T before now seen less made = record {
  legal = made.legal;
  good = made.good;
  faults = made.faults;
  few = made.few;
  answers = made.answers;
  readings = made.readings;
  lasts = less seen made.lasts;
}

-- what a machine and its clock stand for is what the server has made
has_made : {K : Type 0} (coded : Coded K) (words : Lasting K) (seat : Seat K) (home : Home) (first : K) (failed : ℕ)
    (before now : Times) → IsGood home.opening → home.place ≡ name_of coded first
    → before.answers ≡ home.answers → before.given ≡ home.heard → now.given ≡ seat.given → now.answers ≡ seat.answers
    → failed ≡ seat.machine.state.faults → (seen mine : List Entry) → SoloStands coded words seat home seen mine
    → HasMadeAlone home.opening failed (Keeps words home first seat.machine.keeper) before now seen mine
has_made coded words seat home first failed before now good named from heard given answers faults seen mine stood = record {
  made = record {
    legal = stood.machine_stands.legal;
    good = good_along home.opening seen good stood.machine_stands.legal;
    faults = sym (ap (λ s. s.faults) stood.machine_stands.state_is) ∙ sym faults;
    few = stood.few;
    answers = answers ∙ stood.answers_is ∙ ap (λ n. min (n + length seen) (2 ^ 64 - 1)) (sym (from ∙ stood.from_is));
    readings = subst (λ g. IfSome g (TellsReadings before.given seen)) (sym given)
        (subst (λ h. IfSome seat.given (TellsReadings h seen)) (sym heard) stood.readings);
    lasts = record { survives = stood.machine_stands.survives; continues = stood.continues first named };
  };
  own = stood.mine_is;
}

-- the end that a session met is its end, unless it was found dead
met_is : (schema : Tables) (home : Home) (seen : List Entry) (P : ℕ → Type 0) (session : ℕ) (standing : _)
    (met : SessionEnd) (later ended : List Entry) (end : SessionEnd) → Concludes home seen P session standing met later ended end
    → end ≢ Killed → met ≡ end
met_is schema home seen P session standing met later ended end (IsOver other) lives = refl
met_is schema home seen P session standing met later ended end (WasSpent ticket last is) lives = refl
met_is schema home seen P session standing met later ended end (Ends others e alone live fresh event outcome) lives = refl
met_is schema home seen P session standing met later ended end (IsDead others e alone live fresh event outcome) lives =
    absurd (lives refl)

-- the count of failed reads rose where a session ends by one, and that of failed writes
pub read_failed : (schema : Tables) (call : Call) (S : List Entry → List Entry → Type 0) (P : ℕ → Type 0) (now : Streams)
    (end : SessionEnd) → Serves schema call S P now end → end ≡ ReadFault → Rose call.before.reads_failed now.reads_failed
read_failed schema call S P now end (NoStart end2 more is same stood) e =
    absurd (subst (λ x. Unstarted call.home call.seen P more x) e is)
read_failed schema call S P now end (NoPlace live last more start is same stood) e = absurd (cc e)
read_failed schema call S P now end (Served session more later ended course standing met end2 has over by stood) e =
    let same = met_is schema call.home (call.seen ++ more) P session standing met later ended end over (λ k. cc (k, e)) in
    (subst (λ x. CountedBy call.before now x) (same ∙ e) has.counted).1

pub write_failed : (schema : Tables) (call : Call) (S : List Entry → List Entry → Type 0) (P : ℕ → Type 0) (now : Streams)
    (end : SessionEnd) → Serves schema call S P now end → end ≡ WriteFault → Rose call.before.writes_failed now.writes_failed
write_failed schema call S P now end (NoStart end2 more is same stood) e =
    absurd (subst (λ x. Unstarted call.home call.seen P more x) e is)
write_failed schema call S P now end (NoPlace live last more start is same stood) e = absurd (cc e)
write_failed schema call S P now end (Served session more later ended course standing met end2 has over by stood) e =
    let same = met_is schema call.home (call.seen ++ more) P session standing met later ended end over (λ k. cc (k, e)) in
    (subst (λ x. CountedBy call.before now x) (same ∙ e) has.counted).2

-- no message says that there is no place
no_stop : (base : Base) (bytes : List ℕ) (requests : List Request) (live last : ℕ)
    → AsksAll base bytes requests (Some (Full live last)) → ⊥
no_stop base bytes requests live last (Spurned end none stops) = stops
no_stop base bytes requests live last (Stopped first end stops) = stops

-- a server before its first event has a place
has_place : (first : State) (schema : Tables) (base : List Row) (failed : ℕ) (peer : Peer) (start : Entry) (live last : ℕ)
    → first ≡ opening schema base failed → IsLegal 0 first (start ∷ []) → start.event ≡ Start peer
    → start.outcome ≡ IsFull live last → ⊥
has_place first schema base failed peer start live last is legal event outcome =
    let from = subst (λ s. IsLegal 0 s (start ∷ [])) is legal in
    let fits = (from [] [] start refl).1 in
    let s = expired (opening schema base failed) start.at in
    let made = subst (λ x. start.outcome ≡ outcome_of s x (has_failed start.outcome)) event fits.outcome in
    let clash : IsFull live last ≡ Started 1 = sym outcome ∙ made in
    cc clash

-- there is a place for the only session of a server
pub never_full : (schema tables : Tables) (call : Call) (base : List Row) (failed : ℕ) (S : List Entry → List Entry → Type 0)
    (P : ℕ → Type 0) (now : Streams) (end : SessionEnd) → call.home.alone ≡ true → call.seen ≡ []
    → call.home.opening ≡ opening tables base failed → ((seen mine : List Entry) → S seen mine → IsLegal 0 call.home.opening seen)
    → Serves schema call S P now end → (live last : ℕ) → end ≢ Full live last
never_full schema tables call base failed S P now end alone none first legal (NoStart end2 more is same stood) live last =
    λ e. subst (λ x. Unstarted call.home call.seen P more x) e is
never_full schema tables call base failed S P now end alone none first legal (NoPlace at given more start is same stood) live last =
    λ e. has_place call.home.opening tables base failed call.peer start at given first
    (subst (λ h. IsLegal 0 call.home.opening h) (ap (λ l. l ++ more) none ∙ is.alone alone) (legal _ _ stood))
    is.event is.outcome_is
never_full schema tables call base failed S P now end alone none first legal (Served session more later ended course standing met end2 has over by stood) live last =
    λ e. let same = met_is schema call.home (call.seen ++ more) P session standing met later ended end over (λ k. cc (k, e)) in
    no_stop course.base course.bytes course.requests live last
    (subst (λ x. Met schema call course (call.seen ++ more) now standing x) (same ∙ e) has.met).1

-- A session was served at a machine before its first event.
pub is_served : {K : Type 0} (coded : Coded K) (words : Lasting K) (on : (k : K) → words.continues k k) (peer : Peer)
    (schema : Tables) (base : List Row) (begun failed : ℕ) (home : Home) (first last : Seat K) (before now : Sitting)
    (end : SessionEnd) → IsGood first.machine.state → first.machine.state ≡ opening schema base begun
    → first.answers ≡ before.times.answers → first.from ≡ before.times.answers → first.given ≡ before.times.given
    → before.times.answers < 2 ^ 64 → now.times.given ≡ last.given → now.times.answers ≡ last.answers
    → failed ≡ last.machine.state.faults → IsSeatedAt coded words first.machine before.times home
    → ((home : Home) (seen mine : List Entry) → SoloStands coded words first home seen mine
    → Serves schema (called peer home seen mine before.streams) (SoloStands coded words last home) (IsSpent last.machine) now.streams end)
    → IsServed first.machine.state failed (Keeps words home first.machine.keeper last.machine.keeper) peer before now end
is_served coded words on peer schema base begun failed home first last before now end good opened answers from heard few given_is answers_is faults seated serves =
    let state = first.machine.state in
    let kept = Keeps words home first.machine.keeper last.machine.keeper in
    let call = called peer home [] [] before.streams in
    let is = seated.is_home in
    let begins = solo_begins coded words first.machine first.from first.given home is.alone_is (is.answers_is ∙ sym from)
    (omega (arith, few, from)) (is.heard_is ∙ sym heard)
    (named_continues coded words on first.machine.keeper home.place seated.place_is) seated.stands in
    let stood : SoloStands coded words first home [] [] =
    subst (λ n. SoloStands coded words (record { machine = first.machine; answers = n; given = first.given; from = first.from }) home [] [])
    (from ∙ sym answers) begins in
    let same : schema ≡ state.schema = sym (ap (λ s. s.schema) opened) in
    let narrow = subst (λ s. Serves s call (SoloStands coded words last home) (IsSpent last.machine) now.streams end) same (serves home [] [] stood) in
    let good_home = subst IsGood (sym is.opening_is) good in
    let wide = widened state.schema call (SoloStands coded words last home) (HasMadeAlone state failed kept before.times now.times)
    (IsSpent last.machine) (λ ticket. ticket ≡ most_requests)
    (λ seen mine stands. subst (λ s. HasMadeAlone s failed kept before.times now.times seen mine) is.opening_is
    (has_made coded words last home first.machine.keeper failed before.times now.times good_home seated.place_is
    (sym is.answers_is) (sym is.heard_is) given_is answers_is faults seen mine stands))
    (λ ticket it. it.0) now.streams end narrow in
    record {
      home = home;
      begins = is;
      serves = wide;
      lives = never_killed state.schema call (HasMadeAlone state failed kept before.times now.times) (λ ticket. ticket ≡ most_requests)
          now.streams end is.alone_is wide;
      has_place = never_full state.schema schema call base begun (HasMadeAlone state failed kept before.times now.times)
          (λ ticket. ticket ≡ most_requests) now.streams end is.alone_is refl (is.opening_is ∙ opened)
          (λ seen mine made. subst (λ s. IsLegal 0 s seen) (sym is.opening_is) made.made.legal) wide;
    }

-- what lasts of a session's history may be said by a wider word
pub sat_so : (first : State) (failed : ℕ) (S T : List Entry → Type 0) (peer : Peer) (before now : Sitting) (end : SessionEnd)
    → ((seen : List Entry) → S seen → T seen)
    → IsServed first failed S peer before now end → IsServed first failed T peer before now end
sat_so first failed S T peer before now end less served = record {
  home = served.home;
  begins = served.begins;
  serves = widened first.schema (called peer served.home [] [] before.streams) (HasMadeAlone first failed S before.times now.times)
      (HasMadeAlone first failed T before.times now.times) (λ ticket. ticket ≡ most_requests) (λ ticket. ticket ≡ most_requests)
      (λ seen mine made. record { made = made_so first failed S T before.times now.times seen less made.made; own = made.own })
      (λ ticket is. is) now.streams end served.serves;
  lives = served.lives;
  has_place = served.has_place;
}
