-- The steps of a script, one after another.
use Rattle.std.proofs.Common.{◌≡◌, ◌≢◌, ◌≤◌, ℕ, true, false, cond, List, [], ◌∷◌, ◌++◌, length, get_or, Option, None, Some, Result, Ok, Err, refl, sym, ap, subst, ◌∙◌, inl, inr, append-nil, arith}
use Rattle.std.specs.Prelude.{max, is_some}
use Rattle.std.specs.Map.{lookup}
use Rattle.std.proofs.Math.ListN.{set}
use Rattle.std.proofs.lemmas.List.{length-map}
use Rattle.std.specs.BTreeMap as tree
use Rattle.std.specs.List.{All, AllZip, Contains}
use Rattle.std.specs.Ordering.{is_eq, nat_cmp}
use Rattle.std.proofs.lemmas.List.Elements.{All-cons, All-head, All-nil, All-tail, Contains-append_right}
use Rattle.nc_machine.specs.Serving.{GoesOn as MachineGoesOn, Serving}
use Rattle.nc_machine.specs.Lasting.{Lasting}
use Rattle.nc_model.specs.declared.entry.Entry.{Entry}
use Rattle.nc_model.specs.declared.event.Event.TheVariants.{Reading as ClockRead}
use Rattle.nc_outside.specs.Clocks.{last_reading}
use Rattle.nc_protocol.specs.declared.peer.Peer.{Peer}
use Rattle.nc_schema.specs.Tables.{Tables}
use Rattle.nc_session.specs.declared.end.SessionEnd.TheVariants.{Memory as EndMemory}
use Rattle.nc_script.proofs.Boardings.{is_new, numbers_more, numbers_same, place_more, split, zip_at, zip_length, zip_push}
use Rattle.nc_script.proofs.Hearings.{comes_broken}
use Rattle.nc_script.proofs.Lefts.{read_comes}
use Rattle.nc_script.proofs.SameSchema.{same_schema}
use Rattle.nc_script.proofs.Tallying.{tally_more, tally_none, tally_silent}
use Rattle.nc_script.specs.Connections.{Board, Connection, GoesOn, HasBegun, IsNew, no_connections}
use Rattle.nc_script.specs.Runs.{NotRead, is_error, is_reply}
use Rattle.nc_script.specs.Steps.{Begins, Begun, DueEnd, DueMore, DueReading, DueStart, Ends, Greeted, HasHeard as BegunHeard, HasStarted, HearsBy, IsDue, IsOpen, NotYet, Unplaced}
use Rattle.nc_script.specs.inner.Boards.{EndsEarly, HadNoMemory, HadNoNumber, IsBroken, IsDone, IsOpenAt, IsPlace, Puts, StandFor, StandsAt, StepsTo, WasBadStep, WasDone, numbers}
use Rattle.nc_script.specs.inner.Entering.{Breaks, Comes as EntersBy, IsEntered}
use Rattle.nc_script.specs.inner.Talking.{BeginsAt, HasBegun as TalkBegun, HasHeard, HasHeardAs, HasLeft, HasLeftAs, HeardPart, IsNoneIf, IsStart, LacksIf, Stands}
use Rattle.nc_script.specs.inner.Tallies.{Tallied}
use Rattle.nc_script.specs.declared.fault.StepFault.{StepFault}
use Rattle.nc_script.specs.declared.fault.StepFault.TheVariants.{Bad, Spent, Memory}
use Rattle.nc_script_text.specs.declared.step.ScriptStep.{ScriptStep}
use Rattle.nc_script_text.specs.declared.step.ScriptStep.TheVariants.{Begin, Piece, End, Reading}
use Rattle.nc_script.specs.declared.talk.State.TheVariants.{Over}
use Rattle.nc_script.specs.declared.talk.Talk.{Talk}
use Rattle.nc_script.specs.declared.talks.Talks.{Talks}
use Rattle.nc_script.specs.declared.tally.Tally.{Tally}

-- a connection of which nothing is asked
pub no_talk : Talk
no_talk = record { number = 0; text = []; state = Over EndMemory; is_over = false }

-- ---- one connection goes on
abbrev board_with : Board → List Connection → Board
board_with board connections = record board { connections = connections }

-- a connection of the board is kept anew
pub stand_with : (schema : Tables) (old new : Talks) (board : Board) (number place : ℕ) (talk : Talk) (next : Connection)
    (stand : StandFor schema old board) (at : IsOpenAt number place board.connections)
    → new.talks.items ≡ set old.talks.items place talk → new.places ≡ old.places → new.clock ≡ old.clock
    → next.number ≡ at.connection.number → Stands schema talk next
    → StandFor schema new (board_with board (at.front ++ next ∷ at.behind))
stand_with schema old new board number place talk next stand at items places now same kept =
    let zipped = zip_at (Stands schema) old.talks.items at.front at.connection at.behind
    (subst (AllZip (Stands schema) old.talks.items) at.connections_are stand.each) in
    let numbers_are : numbers (at.front ++ next ∷ at.behind) ≡ numbers board.connections =
    numbers_same at.front at.behind at.connection next same ∙ ap numbers (sym at.connections_are) in
    record {
      each = subst (λ xs. AllZip (Stands schema) xs (at.front ++ next ∷ at.behind))
          (ap (λ n. set old.talks.items n talk) at.place_is ∙ sym items) (zipped.with talk next kept);
      places = λ q. subst (λ ns. IsPlace ns q (tree.get nat_cmp new.places q)) (sym numbers_are)
          (subst (λ m. IsPlace (numbers board.connections) q (tree.get nat_cmp m q)) (sym places) (stand.places q));
      now_is = stand.now_is ∙ sym now;
      low = subst (λ n. n ≤ last_reading) (sym now) stand.low;
    }

-- it was kept so before
pub stands_at : (schema : Tables) (talks : Talks) (board : Board) (number place : ℕ) (d : Talk) → StandFor schema talks board
    → (at : IsOpenAt number place board.connections) → Stands schema (get_or talks.talks.items place d) at.connection
stands_at schema talks board number place d stand at =
    subst (λ n. Stands schema (get_or talks.talks.items n d) at.connection) at.place_is
    ((zip_at (Stands schema) talks.talks.items at.front at.connection at.behind
    (subst (AllZip (Stands schema) talks.talks.items) at.connections_are stand.each)).item d)

goes_on : (Goes : Connection → Connection → Type 0) (number place : ℕ) (connections : List Connection) (next : Connection)
    → (at : IsOpenAt number place connections) → Goes at.connection next
    → GoesOn Goes number connections (at.front ++ next ∷ at.behind)
goes_on Goes number place connections next at goes = record {
  front = at.front;
  behind = at.behind;
  old = at.connection;
  new = next;
  board_is = at.connections_are;
  next_is = refl;
  number_is = at.number_is;
  unended = at.unended;
  goes = goes;
}

hears_number : (end : Option _) (piece : List ℕ) (group : List Entry) (c next : Connection) → HearsBy end piece group c next
    → next.number ≡ c.number
hears_number None piece group c next hears = ap (λ x. x.number) hears.same
hears_number (Some end) piece group c next (none, same) = ap (λ x. x.number) same

-- ---- bytes come
pub heard_done : {K : Type 0} {words : Lasting K} (schema : Tables) (old new : Talks) (board : Board)
    (number place : ℕ) (piece : List ℕ) (talk : Talk)
    (before now : Serving K) → StandFor schema old board → (at : IsOpenAt number place board.connections)
    → new.talks.items ≡ set old.talks.items place talk → new.places ≡ old.places → new.clock ≡ old.clock
    → HasHeardAs words schema piece old.clock at.connection before now old.tally new.tally
    (λ next. Stands schema talk next)
    → IsDone words schema (Piece number piece) board before now new old.tally
heard_done schema old new board number place piece talk before now stand at items places same h = record {
  next = board_with board (at.front ++ h.next ∷ at.behind);
  group = h.group;
  does = record {
    does = (goes_on (λ a b. HearsBy a.end piece h.group a b) number place board.connections h.next at h.hears, refl);
    at = subst (λ n. All (λ e. e.at ≡ n) h.group) (sym stand.now_is) h.at_is;
  };
  made = h.made;
  stand = stand_with schema old new board number place talk h.next stand at items places same
      (hears_number at.connection.end piece h.group at.connection h.next h.hears) h.kept;
  tallied = h.tallied;
}

open_is : (number place : ℕ) (connections : List Connection) → (at : IsOpenAt number place connections)
    → at.connection.end ≡ None → IsOpen number connections at.connection
open_is number place connections at none = record {
  there =
      subst (λ cs. Contains cs at.connection) (sym at.connections_are)
      (Contains-append_right at.front (at.connection ∷ at.behind) at.connection (0, omega arith, refl));
  number_is = at.number_is;
  unended = at.unended;
  goes_on = none;
}

heard_early : {K : Type 0} {words : Lasting K} (talks : Talks) (board : Board) (number place : ℕ) (piece : List ℕ)
    (before now : Serving K)
    (fault : StepFault) → board.now ≡ talks.clock → (at : IsOpenAt number place board.connections)
    → (h : HeardPart words piece talks.clock at.connection before now fault)
    → EndsEarly fault board (Piece number piece) h.part
heard_early talks board number place piece before now fault same at h = by fault h.due
  where
    open_here : IsOpen number board.connections at.connection
    open_here = open_is number place board.connections at h.goes_on

    at_now : All (λ e. e.at ≡ board.now) h.part
    at_now = subst (λ n. All (λ e. e.at ≡ n) h.part) (sym same) h.at_is

    by : (f : StepFault) → LacksIf f piece h.part at.connection → EndsEarly f board (Piece number piece) h.part
    by Spent lacks = DueMore number piece h.part at.connection open_here lacks at_now
    by Memory lacks = BegunHeard number piece h.part at.connection open_here h.is at_now
    by Bad lacks = BegunHeard number piece h.part at.connection open_here h.is at_now

pub heard_broken : {K : Type 0} {words : Lasting K} (schema : Tables) (talks : Talks) (board : Board)
    (number place : ℕ) (piece : List ℕ)
    (before now : Serving K) (fault : StepFault) → StandFor schema talks board → (at : IsOpenAt number place board.connections)
    → HeardPart words piece talks.clock at.connection before now fault
    → IsBroken words (Piece number piece) board before now fault
heard_broken {K} {words} schema talks board number place piece before now fault stand at h = record {
  part = h.part;
  early = heard_early talks board number place piece before now fault stand.now_is at h;
  breaks = subst (λ n. Breaks words n before now fault h.part) (sym stand.now_is) h.breaks;
}

-- what breaks a step is no bad step
breaks_to : {K : Type 0} {words : Lasting K} (schema : Tables) (step : ScriptStep) (board : Board)
    (old new : Serving K) (talks : Talks) (told : Tally)
    (fault : StepFault) → IsBroken words step board old new fault
    → StepsTo words schema step board old new talks told (Err fault)
breaks_to schema step board old new talks told Bad b = absurd b.breaks.tells
breaks_to schema step board old new talks told Spent b = HadNoNumber b
breaks_to schema step board old new talks told Memory b = HadNoMemory b

pub heard_fault : {K : Type 0} {words : Lasting K} (schema : Tables) (old new : Talks) (board : Board)
    (number place : ℕ) (piece : List ℕ)
    (before now : Serving K) (fault : StepFault) → StandFor schema old board → (at : IsOpenAt number place board.connections)
    → HeardPart words piece old.clock at.connection before now fault
    → StepsTo words schema (Piece number piece) board before now new old.tally (Err fault)
heard_fault schema old new board number place piece before now fault stand at h =
    breaks_to schema (Piece number piece) board before now new old.tally fault
    (heard_broken schema old board number place piece before now fault stand at h)

pub heard_step : {K : Type 0} {words : Lasting K} (schema : Tables) (old new : Talks) (board : Board)
    (number place : ℕ) (piece : List ℕ) (talk : Talk)
    (before now : Serving K) (result : Result (Unit {0}) StepFault) → StandFor schema old board
    → (at : IsOpenAt number place board.connections) → new.talks.items ≡ set old.talks.items place talk → new.places ≡ old.places
    → new.clock ≡ old.clock → HasHeard words schema piece old.clock at.connection before now talk old.tally new.tally
    result
    → StepsTo words schema (Piece number piece) board before now new old.tally result
heard_step schema old new board number place piece talk before now (Ok u) stand at items places same h =
    WasDone u (heard_done schema old new board number place piece talk before now stand at items places same h)
heard_step schema old new board number place piece talk before now (Err fault) stand at items places same h =
    heard_fault schema old new board number place piece before now fault stand at h

-- ---- a connection ends
silent_all : (t : Tally) (group : List Entry) → All (λ e. (is_reply e.outcome ≡ false) × (is_error e.outcome ≡ false)) group
    → Tallied t t group
silent_all t [] all = tally_none t
silent_all t (e ∷ group) all =
    let is = All-head (λ x. (is_reply x.outcome ≡ false) × (is_error x.outcome ≡ false)) e group all in
    tally_more t t t (e ∷ []) group (tally_silent t e is.0 is.1)
    (silent_all t group (All-tail (λ x. (is_reply x.outcome ≡ false) × (is_error x.outcome ≡ false)) e group all))

pub left_done : {K : Type 0} {words : Lasting K} (schema : Tables) (old new : Talks) (board : Board)
    (number place : ℕ) (talk : Talk)
    (before now : Serving K) → StandFor schema old board → (at : IsOpenAt number place board.connections)
    → new.talks.items ≡ set old.talks.items place talk → new.places ≡ old.places → new.clock ≡ old.clock → new.tally ≡ old.tally
    → HasLeftAs words schema old.clock at.connection before now talk
    → IsDone words schema (End number) board before now new old.tally
left_done schema old new board number place talk before now stand at items places same tally h = record {
  next = board_with board (at.front ++ h.next ∷ at.behind);
  group = h.group;
  does = record {
    does = (goes_on (Ends h.group) number place board.connections h.next at h.ends, refl);
    at = subst (λ n. All (λ e. e.at ≡ n) h.group) (sym stand.now_is) h.at_is;
  };
  made = h.made;
  stand = stand_with schema old new board number place talk h.next stand at items places same (ap (λ x. x.number) h.ends.new_is) h.kept;
  tallied = subst (λ t. Tallied old.tally t h.group) (sym tally) (silent_all old.tally h.group h.unanswered);
}

left_early : (board : Board) (number place : ℕ) (fault : StepFault) → (at : IsOpenAt number place board.connections)
    → at.connection.end ≡ None → EndsEarly fault board (End number) []
left_early board number place Spent at none =
    DueEnd number at.connection (open_is number place board.connections at none)
left_early board number place Memory at none = NotYet (End number)
left_early board number place Bad at none = NotYet (End number)

pub left_fault : {K : Type 0} {words : Lasting K} (schema : Tables) (old new : Talks) (board : Board)
    (number place : ℕ) (told : Tally)
    (before now : Serving K) (fault : StepFault) → StandFor schema old board → (at : IsOpenAt number place board.connections)
    → (at.connection.end ≡ None) × Breaks words old.clock before now fault []
    → StepsTo words schema (End number) board before now new told (Err fault)
left_fault {K} {words} schema old new board number place told before now fault stand at (none, breaks) =
    breaks_to schema (End number) board before now new told fault (record {
      part = [];
      early = left_early board number place fault at none;
      breaks = subst (λ n. Breaks words n before now fault []) (sym stand.now_is) breaks;
    })

pub left_step : {K : Type 0} {words : Lasting K} (schema : Tables) (old new : Talks) (board : Board)
    (number place : ℕ) (talk : Talk)
    (before now : Serving K) (result : Result (Unit {0}) StepFault) → StandFor schema old board
    → (at : IsOpenAt number place board.connections) → new.talks.items ≡ set old.talks.items place talk → new.places ≡ old.places
    → new.clock ≡ old.clock → new.tally ≡ old.tally → HasLeft words schema old.clock at.connection before now talk
    result
    → StepsTo words schema (End number) board before now new old.tally result
left_step schema old new board number place talk before now (Ok u) stand at items places same tally h =
    WasDone u (left_done schema old new board number place talk before now stand at items places same tally h)
left_step schema old new board number place talk before now (Err fault) stand at items places same tally h =
    left_fault schema old new board number place old.tally before now fault stand at h

-- ---- the clock is read
pub read_done : {K : Type 0} {words : Lasting K} (schema : Tables) (old new : Talks) (board : Board) (at : ℕ)
    (before now : Serving K) (e : Entry)
    → StandFor schema old board → new.talks ≡ old.talks → new.places ≡ old.places → new.clock ≡ max old.clock at → new.tally ≡ old.tally
    → at ≤ last_reading → IsEntered words before now ClockRead new.clock e
    → IsDone words schema (Reading at) board before now new old.tally
read_done schema old new board at before now e stand talks places is tally low entered =
    let out = read_comes before.state e entered.fits entered.event_is in
    let now_is : max board.now at ≡ new.clock = ap (λ n. max n at) stand.now_is ∙ sym is in
    record {
      next = record board { now = max board.now at };
      group = e ∷ [];
      does = record {
        does = (record { e = e; group_is = refl; event_is = entered.event_is; outcome_is = out }, refl);
        at = All-cons (λ x. x.at ≡ max board.now at) e [] (entered.at_is ∙ sym now_is) (All-nil (λ x. x.at ≡ max board.now at));
      };
      made = entered.made;
      stand = record {
        each = subst (λ t. AllZip (Stands schema) t.items board.connections) (sym talks) stand.each;
        places = λ q. subst (λ m. IsPlace (numbers board.connections) q (tree.get nat_cmp m q)) (sym places) (stand.places q);
        now_is = now_is;
        low = omega (arith, is, stand.low, low);
      };
      tallied = subst (λ t. Tallied old.tally t (e ∷ [])) (sym tally)
          (tally_silent old.tally e (ap is_reply out) (ap is_error out));
    }

read_early : (board : Board) (at : ℕ) (fault : StepFault) → EndsEarly fault board (Reading at) []
read_early board at Spent = DueReading at
read_early board at Memory = NotYet (Reading at)
read_early board at Bad = NotYet (Reading at)

pub read_fault : {K : Type 0} {words : Lasting K} (schema : Tables) (old new : Talks) (board : Board) (at now_at : ℕ)
    (told : Tally)
    (before now : Serving K) (fault : StepFault) → StandFor schema old board → now_at ≡ max old.clock at
    → EntersBy words before now ClockRead now_at (Err fault)
    → StepsTo words schema (Reading at) board before now new told (Err fault)
read_fault {K} {words} schema old new board at now_at told before now fault stand is comes =
    let clock : now_at ≡ max board.now at = is ∙ ap (λ n. max n at) (sym stand.now_is) in
    breaks_to schema (Reading at) board before now new told fault (record {
      part = [];
      early = read_early board at fault;
      breaks = subst (λ n. Breaks words n before now fault []) clock
          (comes_broken before now ClockRead now_at fault comes);
    })

-- ---- a connection begins
pub stand_first : (schema : Tables) (talks : Talks) → talks.talks.items ≡ [] → tree.IsEmpty talks.places → talks.clock ≡ 0
    → StandFor schema talks no_connections
stand_first schema talks none empty now = record {
  each = subst (λ xs. AllZip (Stands schema) xs []) (sym none) tt;
  places = λ q. subst (λ es. IsPlace [] q (lookup (λ k. is_eq (nat_cmp q k)) es)) (sym empty) (All-nil (λ n. n ≢ q));
  now_is = sym now;
  low = omega (arith, now);
}

pub put_done : (schema : Tables) (old new : Talks) (board : Board) (c : Connection) (talk : Talk) (place : ℕ)
    → place ≡ length old.talks.items → StandFor schema old board
    → Stands schema talk c → IsNew talk.number board.connections → new.talks.items ≡ old.talks.items ++ talk ∷ []
    → ((q : ℕ) → tree.get nat_cmp new.places q
    ≡ cond (is_eq (nat_cmp talk.number q)) (Some place) (tree.get nat_cmp old.places q))
    → new.clock ≡ old.clock → new.tally ≡ old.tally → Puts schema old new board c
put_done schema old new board c talk place place_is stand kept fresh items updates now tally = record {
  stand = record {
    each = subst (λ xs. AllZip (Stands schema) xs (board.connections ++ c ∷ [])) (sym items)
        (zip_push (Stands schema) old.talks.items board.connections talk c stand.each kept);
    places = λ q. subst (λ ns. IsPlace ns q (tree.get nat_cmp new.places q)) (sym (numbers_more board.connections c))
        (subst (λ n. IsPlace (numbers board.connections ++ n ∷ []) q (tree.get nat_cmp new.places q)) (sym kept.number_is)
        (place_more (numbers board.connections) talk.number place (λ k. tree.get nat_cmp old.places k)
        (λ k. tree.get nat_cmp new.places k) (none_of board.connections fresh) (long ∙ sym place_is)
        stand.places updates q));
    now_is = stand.now_is ∙ sym now;
    low = subst (λ n. n ≤ last_reading) (sym now) stand.low;
  };
  tally = tally;
}
  where
    none_of : (connections : List Connection) → IsNew talk.number connections → All (λ n. n ≢ talk.number) (numbers connections)
    none_of [] fresh = All-nil (λ n. n ≢ talk.number)
    none_of (x ∷ connections) fresh =
        All-cons (λ n. n ≢ talk.number) x.number (numbers connections)
        (All-head (λ y. y.number ≢ talk.number) x connections fresh)
        (none_of connections (All-tail (λ y. y.number ≢ talk.number) x connections fresh))

    long : length (numbers board.connections) ≡ length old.talks.items
    long = length-map board.connections (λ (x : Connection). x.number) ∙ sym (zip_length (Stands schema) old.talks.items board.connections stand.each)

begun_at : (connections : List Connection) (number place : ℕ) → StandsAt (numbers connections) number place → HasBegun number connections
begun_at connections number place at =
    let s = split connections at.front number at.behind at.numbers_are in
    record {
      connection = s.connection;
      there = subst (λ cs. Contains cs s.connection) (sym s.connections_are)
          (Contains-append_right s.before (s.connection ∷ s.after) s.connection (0, omega arith, refl));
      number_is = s.number_is;
    }

pub begun_before : {K : Type 0} {words : Lasting K} (schema : Tables) (talks : Talks) (board : Board) (number : ℕ)
    (peer : Peer) (machine : Serving K)
    (told : Tally) (after : Talks) → StandFor schema talks board → is_some (tree.get nat_cmp talks.places number) ≡ true
    → StepsTo words schema (Begin number peer) board machine machine after told (Err Bad)
begun_before {K} {words} schema talks board number peer machine told after stand some =
    by (tree.get nat_cmp talks.places number) some (stand.places number)
  where
    by : (found : Option ℕ) → is_some found ≡ true → IsPlace (numbers board.connections) number found
        → StepsTo words schema (Begin number peer) board machine machine after told (Err Bad)
    by None some at = absurd (cc some)
    by (Some place) some at = WasBadStep (begun_at board.connections number place at) refl

pub fresh_at : (schema : Tables) (talks : Talks) (board : Board) (number : ℕ) → StandFor schema talks board
    → is_some (tree.get nat_cmp talks.places number) ≡ false → IsNew number board.connections
fresh_at schema talks board number stand none = by (tree.get nat_cmp talks.places number) none (stand.places number)
  where
    by : (found : Option ℕ) → is_some found ≡ false → IsPlace (numbers board.connections) number found → IsNew number board.connections
    by None none at = is_new number board.connections at
    by (Some place) none at = absurd (cc none)

begins_silent : (number : ℕ) (peer : Peer) (group : List Entry) (c : Connection) → Begins number peer group c
    → All (λ e. (is_reply e.outcome ≡ false) × (is_error e.outcome ≡ false)) group
begins_silent number peer group c (Greeted e session event out) =
    All-cons (λ x. (is_reply x.outcome ≡ false) × (is_error x.outcome ≡ false)) e [] (ap is_reply out, ap is_error out)
    (All-nil (λ x. (is_reply x.outcome ≡ false) × (is_error x.outcome ≡ false)))
begins_silent number peer group c (Unplaced e live last event out) =
    All-cons (λ x. (is_reply x.outcome ≡ false) × (is_error x.outcome ≡ false)) e [] (ap is_reply out, ap is_error out)
    (All-nil (λ x. (is_reply x.outcome ≡ false) × (is_error x.outcome ≡ false)))

begins_number : (number : ℕ) (peer : Peer) (group : List Entry) (c : Connection) → Begins number peer group c → c.number ≡ number
begins_number number peer group c (Greeted e session event out) = refl
begins_number number peer group c (Unplaced e live last event out) = refl

pub begin_done : {K : Type 0} {words : Lasting K} (old new : Talks) (board : Board) (number : ℕ) (peer : Peer)
    (before now : Serving K)
    (talk : Talk) → StandFor before.state.schema old board → IsNew number board.connections
    → (b : TalkBegun words number peer old.clock before now talk)
    → ((c : Connection) → Stands before.state.schema talk c → IsNew talk.number board.connections
    → Puts before.state.schema old new board c)
    → StepsTo words before.state.schema (Begin number peer) board before now new old.tally (Ok tt)
begin_done old new board number peer before now talk stand fresh b puts =
    let same : number ≡ talk.number =
    sym (begins_number number peer b.group b.connection b.begins) ∙ b.stands.number_is in
    let kept = subst (λ schema. Stands schema talk b.connection) (same_schema before now b.group b.made) b.stands in
    let put = puts b.connection kept (subst (λ n. IsNew n board.connections) same fresh) in
    WasDone tt (record {
      next = board_with board (board.connections ++ b.connection ∷ []);
      group = b.group;
      does = record {
        does = (fresh, (b.connection, b.begins, refl));
        at = subst (λ n. All (λ e. e.at ≡ n) b.group) (sym stand.now_is) b.at_is;
      };
      made = b.made;
      stand = put.stand;
      tallied = subst (λ t. Tallied old.tally t b.group) (sym put.tally)
          (silent_all old.tally b.group (begins_silent number peer b.group b.connection b.begins));
    })

start_begun : (board : Board) (number : ℕ) (peer : Peer) (now : ℕ) (part : List Entry) → IsNew number board.connections → board.now ≡ now
    → IsStart peer now part → Begun board (Begin number peer) part
start_begun board number peer now part fresh same (inl none) = subst (Begun board (Begin number peer)) (sym none) (NotYet (Begin number peer))
start_begun board number peer now part fresh same (inr (e, is, event, at)) =
    subst (Begun board (Begin number peer)) (sym is) (HasStarted number peer e fresh event (at ∙ sym same))

begin_early : (board : Board) (number : ℕ) (peer : Peer) (now : ℕ) (part : List Entry) (fault : StepFault)
    → IsNew number board.connections → board.now ≡ now → IsStart peer now part → IsNoneIf fault part
    → EndsEarly fault board (Begin number peer) part
begin_early board number peer now part Spent fresh same start none =
    subst (IsDue board (Begin number peer)) (sym none) (DueStart number peer fresh)
begin_early board number peer now part Memory fresh same start none = start_begun board number peer now part fresh same start
begin_early board number peer now part Bad fresh same start none = start_begun board number peer now part fresh same start

pub begin_fault : {K : Type 0} {words : Lasting K} (schema : Tables) (old new : Talks) (board : Board) (number : ℕ)
    (peer : Peer) (before now : Serving K)
    (fault : StepFault) → StandFor schema old board → IsNew number board.connections
    → BeginsAt words number peer old.clock before now (Err fault)
    → StepsTo words schema (Begin number peer) board before now new old.tally (Err fault)
begin_fault {K} {words} schema old new board number peer before now fault stand fresh (part, start, none, breaks) =
    breaks_to schema (Begin number peer) board before now new old.tally fault (record {
      part = part;
      early = begin_early board number peer old.clock part fault fresh stand.now_is start none;
      breaks = subst (λ n. Breaks words n before now fault part) (sym stand.now_is) breaks;
    })

-- the connection has begun, and there is no memory to keep it
one_start : {K : Type 0} (number : ℕ) (peer : Peer) (at : ℕ) (before now : Serving K) (group : List Entry) (c : Connection)
    → Begins number peer group c → All (λ e. e.at ≡ at) group → IsStart peer at group
one_start number peer at before now group c (Greeted e session event out) all =
    inr (e, refl, event, All-head (λ x. x.at ≡ at) e [] all)
one_start number peer at before now group c (Unplaced e live last event out) all =
    inr (e, refl, event, All-head (λ x. x.at ≡ at) e [] all)

pub begin_unkept : {K : Type 0} {words : Lasting K} (schema : Tables) (old new : Talks) (board : Board) (number : ℕ)
    (peer : Peer) (before now : Serving K)
    (talk : Talk) → StandFor schema old board → IsNew number board.connections
    → TalkBegun words number peer old.clock before now talk
    → StepsTo words schema (Begin number peer) board before now new old.tally (Err Memory)
begin_unkept {K} {words} schema old new board number peer before now talk stand fresh b = HadNoMemory (record {
  part = b.group;
  early = start_begun board number peer old.clock b.group fresh stand.now_is
      (one_start number peer old.clock before now b.group b.connection b.begins b.at_is);
  breaks = record {
    last = [];
    made = subst (λ es. MachineGoesOn words before now es) (sym (append-nil b.group)) b.made;
    read = NotRead;
    tells = tt;
  };
})
