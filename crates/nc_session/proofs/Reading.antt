-- A session's reader, from one call to the next.
use Rattle.std.proofs.Common.{◌≡◌, ◌≢◌, ℕ, List, [], ◌∷◌, ◌++◌, length, refl, sym, ap, subst, ◌∙◌, Option, Some, None, Result, Ok, Err}
use Rattle.nc_names.specs.declared.memory.Memory.{Memory}
use Rattle.nc_frames.specs.Framing.{Mode, Marks, IsUnfinished}
use Rattle.nc_frames.specs.declared.fault.FrameFault.{FrameFault}
use Rattle.nc_frames.specs.declared.fault.FrameFault.TheVariants.{BadFrame as FrameBad, TooBig as FrameTooBig, Memory as FrameMemory}
use Rattle.nc_protocol.specs.declared.request.Request.{Request}
use Rattle.nc_session.specs.declared.base.Base.{Base}
use Rattle.nc_session.specs.declared.end.BadMessage.{BadMessage}
use Rattle.nc_session.specs.declared.end.HelloFault.{HelloFault}
use Rattle.nc_session.specs.declared.end.SessionEnd.{SessionEnd}
use Rattle.nc_session.specs.declared.end.SessionEnd.TheVariants.{BadHello, Malformed}
use Rattle.nc_session.specs.declared.session_core.Phase.{Phase}
use Rattle.nc_session.specs.declared.session_core.Phase.TheVariants.{Greeting, Serving, Over}
use Rattle.nc_session.specs.declared.session_core.Todo.{Todo}
use Rattle.nc_session.specs.declared.session_core.Todo.TheVariants.{Ask, Over as IsOver}
use Rattle.nc_session.specs.Requests.{AsksFor, Greets}
use Rattle.nc_session.specs.Asks.{mode_of, AsksAll, Unmet, Spurned, Waiting, Stopped, StopsAtHello, StopsAtMessage, BeginsWith}
use Rattle.nc_session.specs.Cores.{Core, HasGiven, IsIn, IsAt, IsTodo, TakesPiece, IsChosen, IsNext}
use Rattle.nc_session.specs.inner.Steps.{IsStreamEnd, Takes, Meets, HasMet, GivesMore}
use Rattle.nc_session.specs.inner.Unseen.{Unseen, Gives, GivesNext, Feeds}
use Rattle.nc_session.proofs.Asking.{hello_taken, from_first, one_more_request, first_more, stop_stays}

pub fed : (U V : Mode → ℕ → List ℕ → Type 0) (phase : Phase) (base : Base) (bytes piece : List ℕ) (given : List Request) (result : Result (Unit {0}) Memory)
    → ((mode : Mode) (first : ℕ) (b : List ℕ) → U mode first b → Feeds (V mode) first b piece result)
    → IsIn U phase base bytes given → TakesPiece (λ it. IsIn V phase base it given) bytes piece result
fed U V Greeting base bytes piece given (Ok u) feeds at = (at.0, feeds Marks 0 bytes at.1)
fed U V Greeting base bytes piece given (Err m) feeds at = (at.0, feeds Marks 0 bytes at.1)
fed U V (Serving chosen) base bytes piece given (Ok u) feeds at =
    (at.0, record { first = first_more base bytes piece given at.1.first; unread = feeds (mode_of base) (length at.1.first.front) at.1.first.rest at.1.unread })
fed U V (Serving chosen) base bytes piece given (Err m) feeds at =
    (at.0, record { first = at.1.first; unread = feeds (mode_of base) (length at.1.first.front) at.1.first.rest at.1.unread })
fed U V (Over end) base bytes piece given (Ok u) feeds at = stop_stays base bytes piece given end at
fed U V (Over end) base bytes piece given (Err m) feeds at = at

pub fed_over : (U : Mode → ℕ → List ℕ → Type 0) (phase : Phase) (end : SessionEnd) (base : Base) (bytes piece : List ℕ) (given : List Request)
    → phase ≡ Over end → IsIn U phase base bytes given → IsIn U phase base (bytes ++ piece) given
fed_over U phase end base bytes piece given is at =
    subst (λ (p : Phase). IsIn U p base (bytes ++ piece) given) (sym is)
    (stop_stays base bytes piece given end (subst (λ (p : Phase). IsIn U p base bytes given) is at))

-- in a session that has its version of the protocol
module _ (U : Mode → ℕ → List ℕ → Type 0) (phase : Phase) (base : Base) (bytes : List ℕ) (given : List Request) (is : phase ≡ Serving base) where
  pub given_in : IsIn U phase base bytes given → HasGiven U base bytes given
  given_in at = (subst (λ (p : Phase). IsIn U p base bytes given) is at).1

  pub in_given : HasGiven U base bytes given → IsIn U phase base bytes given
  in_given has = subst (λ (p : Phase). IsIn U p base bytes given) (sym is) (refl, has)

-- no whole message waits
pub ask_none : (U V : Mode → ℕ → List ℕ → Type 0) (phase : Phase) (base : Base) (bytes : List ℕ) (given : List Request) → phase ≡ Serving base
    → ((mode : Mode) (first : ℕ) (b : List ℕ) → U mode first b → V mode first b × IsUnfinished mode b)
    → IsIn U phase base bytes given → IsIn V phase base bytes given × AsksAll base bytes given None
ask_none U V phase base bytes given is gives at =
    let has = given_in U phase base bytes given is at in
    let both = gives (mode_of base) (length has.first.front) has.first.rest has.unread in
    (in_given V phase base bytes given is (record { first = has.first; unread = both.0 }), Waiting has.first both.1)

-- a message waits
pub ask_takes : (U V : Mode → ℕ → List ℕ → Type 0) (phase : Phase) (base : Base) (bytes body : List ℕ) (given : List Request) → phase ≡ Serving base
    → ((mode : Mode) (first : ℕ) (b : List ℕ) → U mode first b → Gives (V mode) mode first b body)
    → IsIn U phase base bytes given → Takes (V (mode_of base)) base bytes given body
ask_takes U V phase base bytes body given is gives at =
    let has = given_in U phase base bytes given is at in
    record { first = has.first; gives = gives (mode_of base) (length has.first.front) has.first.rest has.unread }

-- what stands after the requests is none
pub ask_stop : (U : Mode → ℕ → List ℕ → Type 0) (phase : Phase) (base : Base) (bytes : List ℕ) (given : List Request) (end : SessionEnd) → phase ≡ Serving base
    → ((first : ℕ) (b : List ℕ) → U (mode_of base) first b → StopsAtMessage base first b end)
    → IsIn U phase base bytes given → AsksAll base bytes given (Some end)
ask_stop U phase base bytes given end is stops at =
    let has = given_in U phase base bytes given is at in
    Stopped has.first end (stops (length has.first.front) has.first.rest has.unread)

-- no memory was found, and nothing is lost
pub ask_memory : (U V : Mode → ℕ → List ℕ → Type 0) (phase : Phase) (base : Base) (bytes : List ℕ) (given : List Request) → phase ≡ Serving base
    → ((mode : Mode) (first : ℕ) (b : List ℕ) → U mode first b → V mode first b)
    → IsIn U phase base bytes given → IsIn V phase base bytes given
ask_memory U V phase base bytes given is keeps at =
    let has = given_in U phase base bytes given is at in
    in_given V phase base bytes given is (record { first = has.first; unread = keeps (mode_of base) (length has.first.front) has.first.rest has.unread })

pub begins : (V : ℕ → List ℕ → Type 0) (mode : Mode) (first : ℕ) (bytes body : List ℕ) → Gives V mode first bytes body → BeginsWith mode bytes body
begins V mode first bytes body g = record { framed = g.framed; rest = g.rest; bytes_are = g.bytes_are; is_message = g.is_message }

-- a message that was taken gives a request
pub taken_ask : (core : Core) (base : Base) (bytes body : List ℕ) (given : List Request) (request : Request) → core.phase ≡ Serving base
    → Takes (Unseen core.inbox (mode_of base)) base bytes given body → AsksFor base body (Ok request) → IsTodo core base bytes given (Ask request)
taken_ask core base bytes body given request phase t asked =
    let more = one_more_request (Unseen core.inbox (mode_of base)) (Unseen core.inbox (mode_of base)) base bytes body given request t.first t.gives asked t.gives.unread in
    (phase, in_given (Unseen core.inbox) core.phase base bytes (given ++ request ∷ []) phase (record { first = more.0; unread = more.1 }))

-- or none
pub taken_stop : (After : ℕ → List ℕ → Type 0) (base : Base) (bytes body : List ℕ) (given : List Request) (bad : BadMessage)
    → Takes After base bytes given body → AsksFor base body (Err bad) → AsksAll base bytes given (Some (Malformed bad.at bad.why))
taken_stop After base bytes body given bad t asked =
    Stopped t.first (Malformed bad.at bad.why) (body, begins After (mode_of base) (length t.first.front) t.first.rest body t.gives, asked)

-- or is put back
pub taken_back : (core : Core) (After : ℕ → List ℕ → Type 0) (base : Base) (bytes body : List ℕ) (given : List Request) → core.phase ≡ Serving base
    → Takes After base bytes given body → ((mode : Mode) (first : ℕ) (b : List ℕ) → Gives After (mode_of base) first b body → Unseen core.inbox (mode_of base) first b)
    → IsAt core base bytes given
taken_back core After base bytes body given phase t back =
    in_given (Unseen core.inbox) core.phase base bytes given phase
    (record { first = t.first; unread = back (mode_of base) (length t.first.front) t.first.rest t.gives })

-- the hello is taken
pub heard : (U : ℕ → List ℕ → Type 0) (core : Core) (base : Base) (bytes body : List ℕ) (g : Gives U Marks 0 bytes body)
    → Greets body (Ok base) → core.phase ≡ Serving base → ((first : ℕ) (b : List ℕ) → U first b → Unseen core.inbox (mode_of base) first b)
    → IsAt core base bytes []
heard U core base bytes body g chooses phase goes =
    let taken = hello_taken U (Unseen core.inbox (mode_of base)) base bytes body g chooses (goes (length g.framed) g.rest (from_first U g.framed g.rest g.unread)) in
    in_given (Unseen core.inbox) core.phase base bytes [] phase (record { first = taken.0; unread = taken.1 })

-- it is not taken
pub spurned : (V : ℕ → List ℕ → Type 0) (core : Core) (base : Base) (bytes body : List ℕ) (why : HelloFault) → Gives V Marks 0 bytes body → Greets body (Err why)
    → core.phase ≡ Over (BadHello why) → IsAt core base bytes []
spurned V core base bytes body why g is phase =
    subst (λ (p : Phase). IsIn (Unseen core.inbox) p base bytes []) (sym phase) (Spurned (BadHello why) refl (body, begins V Marks 0 bytes body g, is))

-- it is put back
pub unheard : (core : Core) (base : Base) (bytes : List ℕ) → core.phase ≡ Greeting → Unseen core.inbox Marks 0 bytes → IsAt core base bytes []
unheard core base bytes phase unread = subst (λ (p : Phase). IsIn (Unseen core.inbox) p base bytes []) (sym phase) (refl, unread)

-- the bytes stop
pub over_gives : (core : Core) (base : Base) (bytes : List ℕ) (given : List Request) (end : SessionEnd) (todo : Todo)
    → core.phase ≡ Over end → todo ≡ IsOver end → AsksAll base bytes given (Some end) → IsTodo core base bytes given todo
over_gives core base bytes given end todo phase is all =
    let P : Todo → Type 0 = λ t. IsTodo core base bytes given t in
    let Q : Phase → Type 0 = λ p. IsIn (Unseen core.inbox) p base bytes given in
    subst P (sym is) (subst Q (sym phase) all, all)

-- what is said of the value is said of its fields
pub inner : {a b : Core} (base : Base) (bytes : List ℕ) (given : List Request) → a ≡ b → IsAt b base bytes given → IsAt a base bytes given
inner {a} {b} base bytes given is at = subst (λ (it : Core). IsAt it base bytes given) (sym is) at

pub outer : {a b : Core} (base : Base) (bytes : List ℕ) (given : List Request) → a ≡ b → IsAt a base bytes given → IsAt b base bytes given
outer {a} {b} base bytes given is at = subst (λ (it : Core). IsAt it base bytes given) is at

pub inner_phase : {a b : Core} {phase : Phase} → a ≡ b → b.phase ≡ phase → a.phase ≡ phase
inner_phase {a} {b} is phase_is = ap (λ (it : Core). it.phase) is ∙ phase_is

-- the hello is awaited: no request was given
pub greeting_in : (U : Mode → ℕ → List ℕ → Type 0) (phase : Phase) (base : Base) (bytes : List ℕ) (given : List Request) → phase ≡ Greeting
    → IsIn U phase base bytes given → (given ≡ []) × U Marks 0 bytes
greeting_in U phase base bytes given is at = subst (λ (p : Phase). IsIn U p base bytes given) is at

pub meet_none : (U V : Mode → ℕ → List ℕ → Type 0) (phase : Phase) (base : Base) (bytes : List ℕ) (given : List Request) → phase ≡ Greeting
    → ((mode : Mode) (first : ℕ) (b : List ℕ) → U mode first b → V mode first b × IsUnfinished mode b)
    → IsIn U phase base bytes given → IsIn V phase base bytes given × AsksAll base bytes given None
meet_none U V phase base bytes given is gives at =
    let awaits = greeting_in U phase base bytes given is at in
    let both = gives Marks 0 bytes awaits.1 in
    (subst (λ (p : Phase). IsIn V p base bytes given) (sym is) (awaits.0, both.0), Unmet awaits.0 both.1)

pub meet_stop : (U : Mode → ℕ → List ℕ → Type 0) (phase : Phase) (base : Base) (bytes : List ℕ) (given : List Request) (end : SessionEnd) → phase ≡ Greeting
    → (U Marks 0 bytes → StopsAtHello bytes end) → IsIn U phase base bytes given → AsksAll base bytes given (Some end)
meet_stop U phase base bytes given end is stops at =
    let awaits = greeting_in U phase base bytes given is at in
    Spurned end awaits.0 (stops awaits.1)

pub none_chosen : (given : List Request) (before now : Base) → given ≡ [] → IsChosen given before now
none_chosen given before now none = let P : List Request → Type 0 = λ g. IsChosen g before now in subst P (sym none) tt

pub same_chosen : (given : List Request) (base : Base) → IsChosen given base base
same_chosen [] base = tt
same_chosen (request ∷ more) base = refl

pub chosen_twice : (given : List Request) (before middle now : Base) → IsChosen given before middle → IsChosen given middle now → IsChosen given before now
chosen_twice [] before middle now first second = tt
chosen_twice (request ∷ more) before middle now first second = second ∙ first

-- the answers of the framings, by cases
pub gave_none : (V : Mode → ℕ → List ℕ → Type 0) (mode : Mode) (first : ℕ) (bytes : List ℕ) {found : Option (List ℕ)} → found ≡ None → GivesNext V mode first bytes (Ok found)
    → V mode first bytes × IsUnfinished mode bytes
gave_none V mode first bytes {found} is gives = subst (λ (f : Option (List ℕ)). GivesNext V mode first bytes (Ok f)) is gives

pub gave_some : (V : Mode → ℕ → List ℕ → Type 0) (mode : Mode) (first : ℕ) (bytes : List ℕ) {body : List ℕ} {found : Option (List ℕ)} → found ≡ Some body → GivesNext V mode first bytes (Ok found)
    → Gives (V mode) mode first bytes body
gave_some V mode first bytes {body} {found} is gives = subst (λ (f : Option (List ℕ)). GivesNext V mode first bytes (Ok f)) is gives

pub gave_memory : (V : Mode → ℕ → List ℕ → Type 0) (mode : Mode) (first : ℕ) (bytes : List ℕ) (fault : FrameFault) (memory : Memory) → IsStreamEnd fault (Err memory)
    → GivesNext V mode first bytes (Err fault) → V mode first bytes
gave_memory V mode first bytes FrameMemory memory is gives = gives
gave_memory V mode first bytes (FrameBad at) memory is gives = absurd is
gave_memory V mode first bytes (FrameTooBig at) memory is gives = absurd is

pub message_fault : (V : Mode → ℕ → List ℕ → Type 0) (base : Base) (first : ℕ) (bytes : List ℕ) (fault : FrameFault) (end : SessionEnd) → IsStreamEnd fault (Ok end)
    → GivesNext V (mode_of base) first bytes (Err fault) → StopsAtMessage base first bytes end
message_fault V base first bytes (FrameBad at) end is gives = subst (λ (e : SessionEnd). StopsAtMessage base first bytes e) (sym is) gives
message_fault V base first bytes (FrameTooBig at) end is gives = subst (λ (e : SessionEnd). StopsAtMessage base first bytes e) (sym is) gives
message_fault V base first bytes FrameMemory end is gives = absurd is

pub hello_fault : (V : Mode → ℕ → List ℕ → Type 0) (bytes : List ℕ) (fault : FrameFault) (end : SessionEnd) → IsStreamEnd fault (Ok end)
    → GivesNext V Marks 0 bytes (Err fault) → StopsAtHello bytes end
hello_fault V bytes (FrameBad at) end is gives = subst (λ (e : SessionEnd). StopsAtHello bytes e) (sym is) gives
hello_fault V bytes (FrameTooBig at) end is gives = subst (λ (e : SessionEnd). StopsAtHello bytes e) (sym is) gives
hello_fault V bytes FrameMemory end is gives = absurd is

abbrev NoGreeting : Phase → Type 0
NoGreeting Greeting = ⊥
NoGreeting (Serving base) = Unit {0}
NoGreeting (Over end) = Unit {0}

pub serving_no_greeting : (base : Base) → Serving base ≢ Greeting
serving_no_greeting base e = subst NoGreeting e tt

pub over_no_greeting : (end : SessionEnd) → Over end ≢ Greeting
over_no_greeting end e = subst NoGreeting e tt

pub inner_unread : {a b : Core} (mode : Mode) (first : ℕ) (bytes : List ℕ) → a ≡ b → Unseen b.inbox mode first bytes → Unseen a.inbox mode first bytes
inner_unread {a} {b} mode first bytes is has = subst (λ (it : Core). Unseen it.inbox mode first bytes) (sym is) has

-- the hello was read: no request was given
pub met_meets : (core : Core) (base : Base) (bytes : List ℕ) (given : List Request) (result : Result (Unit {0}) Memory) → given ≡ [] → HasMet core base bytes result → Meets core base bytes given result
met_meets core base bytes given (Ok u) none met =
    let P : List Request → Type 0 = λ g. IsAt core met.0 bytes g in
    (met.0, none_chosen given base met.0 none, subst P (sym none) met.1, λ is. absurd (met.2 is))
met_meets core base bytes given (Err memory) none met =
    let P : List Request → Type 0 = λ g. IsAt core base bytes g in subst P (sym none) met

pub inner_gives : {a b : Core} (mode : Mode) (first : ℕ) (bytes body : List ℕ) → a ≡ b → Gives (Unseen b.inbox mode) mode first bytes body → Gives (Unseen a.inbox mode) mode first bytes body
inner_gives {a} {b} mode first bytes body is g = subst (λ (it : Core). Gives (Unseen it.inbox mode) mode first bytes body) (sym is) g

-- the next request, once the version of the protocol is chosen
pub next_serving : (core now : Core) (chosen before : Base) (bytes : List ℕ) (given : List Request) (result : Result Todo Memory) → core.phase ≡ Serving chosen
    → Meets core before bytes given (Ok tt) → ((b : List ℕ) (g : List Request) → IsAt core chosen b g → GivesMore now chosen b g result) → IsNext now before bytes given result
next_serving core now chosen before bytes given result phase met gives =
    let same : chosen ≡ met.0 = (subst (λ (p : Phase). IsIn (Unseen core.inbox) p met.0 bytes given) phase met.2).0 in
    let P : Base → Type 0 = λ b. IsAt core b bytes given in
    let Q : Base → Type 0 = λ b. IsChosen given before b in
    by result (subst Q (sym same) met.1) (gives bytes given (subst P (sym same) met.2))
  where
    by : (r : Result Todo Memory) → IsChosen given before chosen → GivesMore now chosen bytes given r → IsNext now before bytes given r
    by (Ok todo) is more = (chosen, is, more)
    by (Err memory) is at = (chosen, is, at)
