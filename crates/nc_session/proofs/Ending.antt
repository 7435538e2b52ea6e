-- A session's entries, its text and its stops.
use Rattle.std.proofs.Common.{◌≡◌, ◌⊎◌, ℕ, List, [], ◌∷◌, ◌++◌, length, map, refl, sym, ap, subst, ◌∙◌, append-nil, inl, inr, Option, Some, Ok, true, false}
use Rattle.std.proofs.lemmas.List.{map-append}
use Rattle.std.proofs.lemmas.List.Concat.{flat_map-append}
use Rattle.std.proofs.lemmas.List.Elements.{filter-append}
use Rattle.nc_frames.specs.Framing.{Mode}
use Rattle.nc_model.specs.declared.entry.Entry.{Entry}
use Rattle.nc_model.specs.declared.event.Event.{Event}
use Rattle.nc_model.specs.declared.event.Event.TheVariants.{Request as Requested, Reading}
use Rattle.nc_model.specs.declared.event.Outcome.{Outcome}
use Rattle.nc_protocol.specs.declared.peer.Peer.{Peer}
use Rattle.nc_protocol.specs.declared.request.Request.{Request}
use Rattle.nc_protocol.proofs.ListLemmas.{heads_same, tails_same}
use Rattle.nc_schema.specs.Tables.{Tables}
use Rattle.nc_session.specs.declared.base.Base.{Base}
use Rattle.nc_session.specs.declared.end.SessionEnd.{SessionEnd}
use Rattle.nc_session.specs.declared.end.SessionEnd.TheVariants.{Closed, InputEnded, BadHello, BadFrame, TooBig, Malformed, Killed, ReadFault, WriteFault, Full, Spent, Memory}
use Rattle.nc_session.specs.declared.session_core.Phase.{Phase}
use Rattle.nc_session.specs.declared.session_core.Phase.TheVariants.{Greeting, Serving, Over}
use Rattle.nc_session.specs.Asks.{AsksFirst, AsksAll, Unmet, Spurned, Waiting, Stopped, StopsAtHello, StopsAtMessage}
use Rattle.nc_session.specs.declared.session_core.Todo.{Todo}
use Rattle.nc_session.proofs.Asking.{first_more}
use Rattle.nc_session.specs.Cores.{Core, IsIn, IsChosen, IsNext}
use Rattle.nc_model.specs.Desks.{is_own, own_of}
use Rattle.nc_session.specs.Sessions.{session_text, entry_text, HasEntered}
use Rattle.nc_session.specs.Serves.{Course, AsksThese}

-- the ends that bytes show
abbrev pub IsStop : SessionEnd → Type 0
IsStop (BadHello why) = Unit {0}
IsStop (BadFrame at) = Unit {0}
IsStop (TooBig at) = Unit {0}
IsStop (Malformed at why) = Unit {0}
IsStop end = ⊥

hello_stop : (bytes : List ℕ) (end : SessionEnd) → StopsAtHello bytes end → IsStop end
hello_stop bytes (BadHello why) s = tt
hello_stop bytes (BadFrame at) s = tt
hello_stop bytes (TooBig at) s = tt
hello_stop bytes (Malformed at why) s = tt
hello_stop bytes Closed s = absurd s
hello_stop bytes InputEnded s = absurd s
hello_stop bytes Killed s = absurd s
hello_stop bytes ReadFault s = absurd s
hello_stop bytes WriteFault s = absurd s
hello_stop bytes (Full live last) s = absurd s
hello_stop bytes (Spent ticket) s = absurd s
hello_stop bytes Memory s = absurd s

message_stop : (base : Base) (first : ℕ) (bytes : List ℕ) (end : SessionEnd) → StopsAtMessage base first bytes end → IsStop end
message_stop base first bytes (BadHello why) s = tt
message_stop base first bytes (BadFrame at) s = tt
message_stop base first bytes (TooBig at) s = tt
message_stop base first bytes (Malformed at why) s = tt
message_stop base first bytes Closed s = absurd s
message_stop base first bytes InputEnded s = absurd s
message_stop base first bytes Killed s = absurd s
message_stop base first bytes ReadFault s = absurd s
message_stop base first bytes WriteFault s = absurd s
message_stop base first bytes (Full live last) s = absurd s
message_stop base first bytes (Spent ticket) s = absurd s
message_stop base first bytes Memory s = absurd s

pub all_stop : (base : Base) (bytes : List ℕ) (given : List Request) (end : SessionEnd) → AsksAll base bytes given (Some end) → IsStop end
all_stop base bytes given end (Spurned last none stop) = hello_stop bytes last stop
all_stop base bytes given end (Stopped first last stop) = message_stop base (length first.front) first.rest last stop

-- what a reader has given is what the bytes ask for first
pub asks_in : (U : Mode → ℕ → List ℕ → Type 0) (phase : Phase) (base : Base) (bytes : List ℕ) (given : List Request)
    → IsIn U phase base bytes given → (given ≡ []) ⊎ AsksFirst base bytes given
asks_in U Greeting base bytes given at = inl at.0
asks_in U (Serving chosen) base bytes given at = inr at.1.first
asks_in U (Over end) base bytes given at = over at
  where
    over : AsksAll base bytes given (Some end) → (given ≡ []) ⊎ AsksFirst base bytes given
    over (Spurned last none stop) = inl none
    over (Stopped first last stop) = inr first

pub asks_all : (base : Base) (bytes : List ℕ) (given : List Request) (stop : Option SessionEnd) → AsksAll base bytes given stop → (given ≡ []) ⊎ AsksFirst base bytes given
asks_all base bytes given stop (Unmet none unfinished) = inl none
asks_all base bytes given stop (Spurned last none stops) = inl none
asks_all base bytes given stop (Waiting first unfinished) = inr first
asks_all base bytes given stop (Stopped first last stops) = inr first

pub these_more : (base : Base) (bytes piece : List ℕ) (given : List Request) → (given ≡ []) ⊎ AsksFirst base bytes given → (given ≡ []) ⊎ AsksFirst base (bytes ++ piece) given
these_more base bytes piece given (inl none) = inl none
these_more base bytes piece given (inr first) = inr (first_more base bytes piece given first)

pub todo_is : (core : Core) (base : Base) (bytes : List ℕ) (given : List Request) {found todo : Todo}
    → found ≡ todo → IsNext core base bytes given (Ok found) → IsNext core base bytes given (Ok todo)
todo_is core base bytes given {found} {todo} is next = subst (λ (t : Todo). IsNext core base bytes given (Ok t)) is next

pub asks_these : (course : Course) → (course.requests ≡ []) ⊎ AsksFirst course.base course.bytes course.requests → AsksThese course
asks_these course asks = record {
  more = [];
  asks = (let P : List Request → Type 0 = λ r. (r ≡ []) ⊎ AsksFirst course.base course.bytes r in subst P (sym (append-nil course.requests)) asks);
}

-- the base protocol does not change the text of a session without requests
no_answers : (f : Request → Event) (answers : List Entry) → map (λ (e : Entry). e.event) answers ≡ map f [] → answers ≡ []
no_answers f [] is = refl
no_answers f (e ∷ more) is = cc

pub same_text : (schema : Tables) (base chosen : Base) (peer : Peer) (session : ℕ) (requests : List Request) (entries : List Entry) → HasEntered peer session requests entries
    → IsChosen requests base chosen → session_text schema chosen entries ≡ session_text schema base entries
same_text schema base chosen peer session (request ∷ more) entries entered is = ap (λ b. session_text schema b entries) is
same_text schema base chosen peer session [] entries entered is =
    let none : entered.answers ≡ [] = no_answers (λ r. Requested session r) entered.answers entered.events in
    let only : entries ≡ entered.start ∷ [] = entered.entries_are ∙ ap (λ a. entered.start ∷ a) none in
    let P : Outcome → Type 0 = λ o. entry_text schema chosen o ++ [] ≡ entry_text schema base o ++ [] in
    ap (session_text schema chosen) only ∙ subst P (sym entered.started) refl ∙ sym (ap (session_text schema base) only)

-- one entry more
pub text_more : (schema : Tables) (base : Base) (entries : List Entry) (e : Entry) → session_text schema base (entries ++ e ∷ []) ≡ session_text schema base entries ++ entry_text schema base e.outcome
text_more schema base entries e =
    flat_map-append (λ (x : Entry). entry_text schema base x.outcome) entries (e ∷ [])
    ∙ ap (λ t. session_text schema base entries ++ t) (append-nil (entry_text schema base e.outcome))

abbrev pub entered_more : (peer : Peer) (session : ℕ) (requests : List Request) (entries : List Entry) (request : Request) (e : Entry) → HasEntered peer session requests entries
    → e.event ≡ Requested session request → HasEntered peer session (requests ++ request ∷ []) (entries ++ e ∷ [])
entered_more peer session requests entries request e entered is = record {
  start = entered.start;
  answers = entered.answers ++ e ∷ [];
  entries_are = ap (λ x. x ++ e ∷ []) entered.entries_are;
  event = entered.event;
  started = entered.started;
  events =
      map-append (λ (x : Entry). x.event) entered.answers (e ∷ []) ∙ ap (λ x. x ++ e.event ∷ []) entered.events
      ∙ ap (λ x. map (λ r. Requested session r) requests ++ x ∷ []) is ∙ sym (map-append (λ r. Requested session r) requests (request ∷ []));
}

-- a session's entries are its desk's own
pub own_first : (e : Entry) (more : List Entry) → is_own e.event ≡ true → own_of more ≡ more → own_of (e ∷ more) ≡ e ∷ more
own_first e more own rest = rw own (ap (λ x. e ∷ x) rest)

own_answers : (session : ℕ) (answers : List Entry) (requests : List Request) → map (λ (e : Entry). e.event) answers ≡ map (λ r. Requested session r) requests → own_of answers ≡ answers
own_answers session [] requests is = refl
own_answers session (e ∷ more) [] is = cc
own_answers session (e ∷ more) (request ∷ requests) is =
    own_first e more (subst (λ (v : Event). is_own v ≡ true) (sym (heads_same _ _ _ _ is)) refl) (own_answers session more requests (tails_same _ _ _ _ is))

pub own_entries : (peer : Peer) (session : ℕ) (requests : List Request) (entries : List Entry) → HasEntered peer session requests entries → own_of entries ≡ entries
own_entries peer session requests entries entered =
    let P : List Entry → Type 0 = λ x. own_of x ≡ x in
    subst P (sym entered.entries_are)
    (own_first entered.start entered.answers (subst (λ (v : Event). is_own v ≡ true) (sym entered.event) refl) (own_answers session entered.answers requests entered.events))

not_own : (e : Entry) → is_own e.event ≡ false → own_of (e ∷ []) ≡ []
not_own e own = rw own refl

-- a reading of the clock is no one's own
pub own_but_reading : (entries : List Entry) (e : Entry) → e.event ≡ Reading → own_of (entries ++ e ∷ []) ≡ own_of entries
own_but_reading entries e is =
    let own : is_own e.event ≡ false = subst (λ (v : Event). is_own v ≡ false) (sym is) refl in
    filter-append (λ (x : Entry). is_own x.event) entries (e ∷ []) ∙ ap (λ l. own_of entries ++ l) (not_own e own) ∙ append-nil (own_of entries)
