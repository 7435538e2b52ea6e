-- Two readings of the same bytes agree.
use Rattle.std.proofs.Common.{◌≡◌, ℕ, List, [], ◌∷◌, ◌++◌, length, refl, sym, ap, subst, ◌∙◌, append_assoc, append-nil, length-append, arith, Option, Some, None, Result, Ok, Err}
use Rattle.std.specs.List.{AllByRecursion}
use Rattle.nc_frames.specs.Framing.{Mode, Marks, IsMessage, IsUnfinished}
use Rattle.nc_frames.specs.Replies.{IsFaultOf}
use Rattle.nc_frames.specs.declared.fault.FrameFault.{FrameFault}
use Rattle.nc_frames.specs.declared.fault.FrameFault.TheVariants.{BadFrame as FrameBad, TooBig as FrameTooBig, Memory as FrameMemory}
use Rattle.nc_frames.proofs.AnswerLemmas.{one_answer}
use Rattle.nc_protocol.specs.declared.request.Request.{Request}
use Rattle.nc_session.specs.declared.base.Base.{Base}
use Rattle.nc_session.specs.declared.end.BadMessage.{BadMessage}
use Rattle.nc_session.specs.declared.end.HelloFault.{HelloFault}
use Rattle.nc_session.specs.declared.end.SessionEnd.{SessionEnd}
use Rattle.nc_session.specs.declared.end.SessionEnd.TheVariants.{Closed, InputEnded, BadHello, BadFrame, TooBig, Malformed, Killed, ReadFault, WriteFault, Full, Spent, Memory}
use Rattle.nc_session.specs.ClientHello.{base_of}
use Rattle.nc_session.specs.Requests.{request_of, AsksFor, Greets}
use Rattle.nc_session.specs.Asks.{mode_of, Message, IsAsked, stream_of, requests_of, AsksFirst, AsksAll, Unmet, Spurned, Waiting, Stopped, BeginsWith, StopsAtHello, StopsAtMessage}
use Rattle.nc_session.specs.Laws.{OneReading}
use Rattle.nc_session.proofs.Faults.{one_spelling}

one_asked : (base : Base) (body : List ℕ) (a b : Result Request BadMessage) → AsksFor base body a → AsksFor base body b → a ≡ b
one_asked base body a b f g =
    sym f.answer_is ∙ ap (request_of base) (one_spelling body f.reading g.reading f.is_reading g.is_reading) ∙ g.answer_is

one_greeting : (body : List ℕ) (a b : Result Base HelloFault) → Greets body a → Greets body b → a ≡ b
one_greeting body a b f g = sym f.answer_is ∙ ap base_of (one_spelling body f.reading g.reading f.is_reading g.is_reading) ∙ g.answer_is

one_body : (mode : Mode) (bytes a b : List ℕ) → BeginsWith mode bytes a → BeginsWith mode bytes b → a ≡ b
one_body mode bytes a b x y =
    ((one_answer mode bytes).one_message x.framed x.rest a y.framed y.rest b x.bytes_are x.is_message.is_framed y.bytes_are y.is_message.is_framed).0

-- how bytes stop where a message is to begin: by a fault of the framing, or by what the message says
abbrev frame_end : FrameFault → SessionEnd
frame_end (FrameBad at) = BadFrame at
frame_end (FrameTooBig at) = TooBig at
frame_end FrameMemory = Memory

data StopsAt (mode : Mode) (first : ℕ) (bytes : List ℕ) (Says : List ℕ → SessionEnd → Type 0) (end : SessionEnd) : Type 0 where
  AtFault : (fault : FrameFault) → IsFaultOf mode first bytes fault → end ≡ frame_end fault → StopsAt mode first bytes Says end
  AtBody : (body : List ℕ) → BeginsWith mode bytes body → Says body end → StopsAt mode first bytes Says end

module _ (mode : Mode) (first : ℕ) (bytes : List ℕ) (Says : List ℕ → SessionEnd → Type 0) where
  one_stop : ((body : List ℕ) (end last : SessionEnd) → Says body end → Says body last → end ≡ last) → (end last : SessionEnd)
      → StopsAt mode first bytes Says end → StopsAt mode first bytes Says last → end ≡ last
  one_stop says end last (AtFault fault is ends) (AtFault other stands lasts) =
      ends ∙ ap frame_end ((one_answer mode bytes).one_fault first fault other is stands) ∙ sym lasts
  one_stop says end last (AtFault fault is ends) (AtBody body b said) =
      absurd ((one_answer mode bytes).message_alone b.framed b.rest body b.bytes_are b.is_message.is_framed b.is_message.small first fault is)
  one_stop says end last (AtBody body b said) (AtFault fault is lasts) =
      absurd ((one_answer mode bytes).message_alone b.framed b.rest body b.bytes_are b.is_message.is_framed b.is_message.small first fault is)
  one_stop says end last (AtBody body b said) (AtBody other c says_too) =
      says other end last (subst (λ (x : List ℕ). Says x end) (one_body mode bytes body other b c) said) says_too

  no_stop : (end : SessionEnd) → IsUnfinished mode bytes → StopsAt mode first bytes Says end → ⊥
  no_stop end unfinished (AtFault fault is ends) = (one_answer mode bytes).no_fault unfinished first fault is
  no_stop end unfinished (AtBody body b said) = (one_answer mode bytes).no_message unfinished b.framed b.rest body b.bytes_are b.is_message.is_framed

  no_body : (end : SessionEnd) (framed rest body : List ℕ) → bytes ≡ framed ++ rest → IsMessage mode framed body → (Says body end → ⊥)
      → StopsAt mode first bytes Says end → ⊥
  no_body end framed rest body is message silent (AtFault fault faulty ends) =
      (one_answer mode bytes).message_alone framed rest body is message.is_framed message.small first fault faulty
  no_body end framed rest body is message silent (AtBody other b said) =
      let here : BeginsWith mode bytes body = record { framed = framed; rest = rest; bytes_are = is; is_message = message } in
      silent (subst (λ (x : List ℕ). Says x end) (one_body mode bytes other body b here) said)

abbrev SaysHello : List ℕ → SessionEnd → Type 0
SaysHello body end = (why : HelloFault) × (end ≡ BadHello why) × Greets body (Err why)

abbrev SaysMessage : Base → List ℕ → SessionEnd → Type 0
SaysMessage base body end = (bad : BadMessage) × (end ≡ Malformed bad.at bad.why) × AsksFor base body (Err bad)

abbrev err_in : {A E : Type 0} → E → Result A E → E
err_in other (Ok a) = other
err_in other (Err e) = e

abbrev ok_in : {A E : Type 0} → A → Result A E → A
ok_in other (Ok a) = a
ok_in other (Err e) = other

same_err : {A E : Type 0} (a b : E) → ◌≡◌ {A = Result A E} (Err a) (Err b) → a ≡ b
same_err a b is = ap (err_in a) is

same_ok : {A E : Type 0} (a b : A) → ◌≡◌ {A = Result A E} (Ok a) (Ok b) → a ≡ b
same_ok a b is = ap (ok_in a) is

not_both : {A E : Type 0} (a : A) (b : E) → ◌≡◌ {A = Result A E} (Ok a) (Err b) → ⊥
not_both a b is = cc

one_hello : (body : List ℕ) (end last : SessionEnd) → SaysHello body end → SaysHello body last → end ≡ last
one_hello body end last (why, is, said) (other, stands, says) = is ∙ ap BadHello (same_err why other (one_greeting body (Err why) (Err other) said says)) ∙ sym stands

one_word : (base : Base) (body : List ℕ) (end last : SessionEnd) → SaysMessage base body end → SaysMessage base body last → end ≡ last
one_word base body end last (bad, is, said) (other, stands, says) =
    is ∙ ap (λ (b : BadMessage). Malformed b.at b.why) (same_err bad other (one_asked base body (Err bad) (Err other) said says)) ∙ sym stands

hello_stop : (bytes : List ℕ) (end : SessionEnd) → StopsAtHello bytes end → StopsAt Marks 0 bytes SaysHello end
hello_stop bytes (BadHello why) s = AtBody s.0 s.1 (why, refl, s.2)
hello_stop bytes (BadFrame at) s = AtFault (FrameBad at) s refl
hello_stop bytes (TooBig at) s = AtFault (FrameTooBig at) s refl
hello_stop bytes (Malformed at why) s = absurd s
hello_stop bytes Closed s = absurd s
hello_stop bytes InputEnded s = absurd s
hello_stop bytes Killed s = absurd s
hello_stop bytes ReadFault s = absurd s
hello_stop bytes WriteFault s = absurd s
hello_stop bytes (Full live last) s = absurd s
hello_stop bytes (Spent ticket) s = absurd s
hello_stop bytes Memory s = absurd s

message_stop : (base : Base) (first : ℕ) (bytes : List ℕ) (end : SessionEnd) → StopsAtMessage base first bytes end
    → StopsAt (mode_of base) first bytes (SaysMessage base) end
message_stop base first bytes (Malformed at why) s = AtBody s.0 s.1 (record { at = at; why = why }, refl, s.2)
message_stop base first bytes (BadFrame at) s = AtFault (FrameBad at) s refl
message_stop base first bytes (TooBig at) s = AtFault (FrameTooBig at) s refl
message_stop base first bytes (BadHello why) s = absurd s
message_stop base first bytes Closed s = absurd s
message_stop base first bytes InputEnded s = absurd s
message_stop base first bytes Killed s = absurd s
message_stop base first bytes ReadFault s = absurd s
message_stop base first bytes WriteFault s = absurd s
message_stop base first bytes (Full live last) s = absurd s
message_stop base first bytes (Spent ticket) s = absurd s
message_stop base first bytes Memory s = absurd s

-- what stands after the last request
data Rest (base : Base) (first : ℕ) (rest : List ℕ) : Option SessionEnd → Type 0 where
  IsOpen : IsUnfinished (mode_of base) rest → Rest base first rest None
  Stops : (end : SessionEnd) → StopsAtMessage base first rest end → Rest base first rest (Some end)

one_rest : (base : Base) (first : ℕ) (rest : List ℕ) (stop last : Option SessionEnd) → Rest base first rest stop → Rest base first rest last → stop ≡ last
one_rest base first rest stop last (IsOpen unfinished) (IsOpen other) = refl
one_rest base first rest stop last (IsOpen unfinished) (Stops end s) =
    absurd (no_stop (mode_of base) first rest (SaysMessage base) end unfinished (message_stop base first rest end s))
one_rest base first rest stop last (Stops end s) (IsOpen unfinished) =
    absurd (no_stop (mode_of base) first rest (SaysMessage base) end unfinished (message_stop base first rest end s))
one_rest base first rest stop last (Stops end s) (Stops other t) =
    ap Some (one_stop (mode_of base) first rest (SaysMessage base) (one_word base) end other (message_stop base first rest end s) (message_stop base first rest other t))

-- no request stands there
no_request : (base : Base) (first : ℕ) (rest : List ℕ) (stop : Option SessionEnd) (m : Message) (more : List ℕ) → Rest base first rest stop → IsAsked base m
    → rest ≡ m.framed ++ more → ⊥
no_request base first rest stop m more (IsOpen unfinished) asked is =
    (one_answer (mode_of base) rest).no_message unfinished m.framed more m.body is asked.is_message.is_framed
no_request base first rest stop m more (Stops end s) asked is =
    no_body (mode_of base) first rest (SaysMessage base) end m.framed more m.body is asked.is_message
    (λ said. not_both m.request said.0 (one_asked base m.body (Ok m.request) (Err said.0) asked.asks said.2)) (message_stop base first rest end s)

-- the messages of two readings, as far as both go
data Pairs (base : Base) (messages : List Message) (rest : List ℕ) (others : List Message) (more : List ℕ) : Type 0 where
  Same : requests_of messages ≡ requests_of others → rest ≡ more → Pairs base messages rest others more
  Behind : (m : Message) (left : List Message) → requests_of others ≡ requests_of messages ++ requests_of (m ∷ left) → IsAsked base m
      → rest ≡ m.framed ++ (stream_of left ++ more) → Pairs base messages rest others more
  Ahead : (m : Message) (left : List Message) → requests_of messages ≡ requests_of others ++ requests_of (m ∷ left) → IsAsked base m
      → more ≡ m.framed ++ (stream_of left ++ rest) → Pairs base messages rest others more

pairs_more : (base : Base) (m o : Message) (ms os : List Message) (rest more : List ℕ) → m.request ≡ o.request → Pairs base ms rest os more → Pairs base (m ∷ ms) rest (o ∷ os) more
pairs_more base m o ms os rest more is (Same same left) = Same (ap (λ r. r ∷ requests_of ms) is ∙ ap (λ rs. o.request ∷ rs) same) left
pairs_more base m o ms os rest more is (Behind n left same asked stands) =
    Behind n left (ap (λ rs. o.request ∷ rs) same ∙ ap (λ r. r ∷ (requests_of ms ++ requests_of (n ∷ left))) (sym is)) asked stands
pairs_more base m o ms os rest more is (Ahead n left same asked stands) =
    Ahead n left (ap (λ rs. m.request ∷ rs) same ∙ ap (λ r. r ∷ (requests_of os ++ requests_of (n ∷ left))) is) asked stands

pairs : (base : Base) (messages others : List Message) (bytes rest more : List ℕ) → bytes ≡ stream_of messages ++ rest → bytes ≡ stream_of others ++ more
    → AllByRecursion (IsAsked base) messages → AllByRecursion (IsAsked base) others → Pairs base messages rest others more
pairs base [] [] bytes rest more e f each all = Same refl (sym e ∙ f)
pairs base [] (o ∷ os) bytes rest more e f each all = Behind o os refl all.0 (sym e ∙ f ∙ append_assoc o.framed (stream_of os) more)
pairs base (m ∷ ms) [] bytes rest more e f each all = Ahead m ms refl each.0 (sym f ∙ e ∙ append_assoc m.framed (stream_of ms) rest)
pairs base (m ∷ ms) (o ∷ os) bytes rest more e f each all =
    let left : bytes ≡ m.framed ++ (stream_of ms ++ rest) = e ∙ append_assoc m.framed (stream_of ms) rest in
    let right : bytes ≡ o.framed ++ (stream_of os ++ more) = f ∙ append_assoc o.framed (stream_of os) more in
    let one = (one_answer (mode_of base) bytes).one_message m.framed (stream_of ms ++ rest) m.body o.framed (stream_of os ++ more) o.body left each.0.is_message.is_framed right all.0.is_message.is_framed in
    let P : List ℕ → Type 0 = λ b. AsksFor base b (Ok m.request) in
    let same : m.request ≡ o.request = same_ok m.request o.request (one_asked base o.body (Ok m.request) (Ok o.request) (subst P one.0 each.0.asks) all.0.asks) in
    pairs_more base m o ms os rest more same (pairs base ms os (stream_of ms ++ rest) rest more refl one.1 each.1 all.1)

-- the hello of a reading, and what is after it
hello_first : {base : Base} {bytes : List ℕ} {given : List Request} (a : AsksFirst base bytes given) → bytes ≡ a.asks.hello ++ (stream_of a.asks.messages ++ a.rest)
hello_first a = a.bytes_are ∙ ap (λ x. x ++ a.rest) a.asks.bytes_are ∙ append_assoc a.asks.hello (stream_of a.asks.messages) a.rest

same_base : (base other : Base) (bytes : List ℕ) (given others : List Request) → AsksFirst base bytes given → AsksFirst other bytes others → other ≡ base
same_base base other bytes given others a b =
    let one =
    (one_answer Marks bytes).one_message b.asks.hello (stream_of b.asks.messages ++ b.rest) b.asks.hello_body a.asks.hello (stream_of a.asks.messages ++ a.rest) a.asks.hello_body
    (hello_first b) b.asks.is_hello.is_framed (hello_first a) a.asks.is_hello.is_framed in
    let P : List ℕ → Type 0 = λ h. Greets h (Ok other) in
    same_ok other base (one_greeting a.asks.hello_body (Ok other) (Ok base) (subst P one.0 b.asks.chooses) a.asks.chooses)

pairs_first : (base : Base) (bytes : List ℕ) (given others : List Request) (a : AsksFirst base bytes given) (b : AsksFirst base bytes others)
    → Pairs base a.asks.messages a.rest b.asks.messages b.rest
pairs_first base bytes given others a b =
    let one =
    (one_answer Marks bytes).one_message a.asks.hello (stream_of a.asks.messages ++ a.rest) a.asks.hello_body b.asks.hello (stream_of b.asks.messages ++ b.rest) b.asks.hello_body
    (hello_first a) a.asks.is_hello.is_framed (hello_first b) b.asks.is_hello.is_framed in
    pairs base a.asks.messages b.asks.messages (stream_of a.asks.messages ++ a.rest) a.rest b.rest refl one.1 a.asks.each b.asks.each

-- two whole readings
module _ (base : Base) (bytes : List ℕ) (requests others : List Request) (stop last : Option SessionEnd) (a : AsksFirst base bytes requests) (r : Rest base (length a.front) a.rest stop) where
  with_same : (b : AsksFirst base bytes others) → Rest base (length b.front) b.rest last → (requests ≡ others) × (stop ≡ last)
  with_same b s = by (pairs_first base bytes requests others a b)
    where
      by : Pairs base a.asks.messages a.rest b.asks.messages b.rest → (requests ≡ others) × (stop ≡ last)
      by (Same same left) =
          let places : length b.front ≡ length a.front = omega (arith, ap length a.bytes_are, ap length b.bytes_are, length-append a.front a.rest, length-append b.front b.rest, ap length left) in
          let P : ℕ → Type 0 = λ n. Rest base n b.rest last in
          let Q : List ℕ → Type 0 = λ x. Rest base (length a.front) x last in (
            a.asks.requests_are ∙ same ∙ sym b.asks.requests_are,
            one_rest base (length a.front) a.rest stop last r (subst Q (sym left) (subst P places s)),
          )
      by (Behind m left same asked is) = absurd (no_request base (length a.front) a.rest stop m (stream_of left ++ b.rest) r asked is)
      by (Ahead m left same asked is) = absurd (no_request base (length b.front) b.rest last m (stream_of left ++ a.rest) s asked is)

  with_other : (other : Base) (b : AsksFirst other bytes others) → Rest other (length b.front) b.rest last → (requests ≡ others) × (stop ≡ last)
  with_other other b s =
      let P : Base → Type 0 = λ x. (f : AsksFirst x bytes others) × Rest x (length f.front) f.rest last in
      let both = subst P (same_base base other bytes requests others a b) (b, s) in
      with_same both.0 both.1

-- a hello that is not whole, or not taken, is none that is
not_met : (base : Base) (bytes : List ℕ) (given : List Request) → IsUnfinished Marks bytes → AsksFirst base bytes given → ⊥
not_met base bytes given unfinished a =
    (one_answer Marks bytes).no_message unfinished a.asks.hello (stream_of a.asks.messages ++ a.rest) a.asks.hello_body (hello_first a) a.asks.is_hello.is_framed

not_taken : (base : Base) (bytes : List ℕ) (given : List Request) (end : SessionEnd) → StopsAtHello bytes end → AsksFirst base bytes given → ⊥
not_taken base bytes given end s a =
    no_body Marks 0 bytes SaysHello end a.asks.hello (stream_of a.asks.messages ++ a.rest) a.asks.hello_body (hello_first a) a.asks.is_hello
    (λ said. not_both base said.0 (one_greeting a.asks.hello_body (Ok base) (Err said.0) a.asks.chooses said.2)) (hello_stop bytes end s)

whole : (base other : Base) (bytes : List ℕ) (requests others : List Request) (stop last : Option SessionEnd) → AsksAll base bytes requests stop → AsksAll other bytes others last
    → (requests ≡ others) × (stop ≡ last)
whole base other bytes requests others stop last (Unmet none unfinished) (Unmet nothing open_too) = (none ∙ sym nothing, refl)
whole base other bytes requests others stop last (Unmet none unfinished) (Spurned end nothing s) = absurd (no_stop Marks 0 bytes SaysHello end unfinished (hello_stop bytes end s))
whole base other bytes requests others stop last (Unmet none unfinished) (Waiting b open_too) = absurd (not_met other bytes others unfinished b)
whole base other bytes requests others stop last (Unmet none unfinished) (Stopped b end s) = absurd (not_met other bytes others unfinished b)
whole base other bytes requests others stop last (Spurned end none s) (Unmet nothing unfinished) = absurd (no_stop Marks 0 bytes SaysHello end unfinished (hello_stop bytes end s))
whole base other bytes requests others stop last (Spurned end none s) (Spurned final nothing t) =
    (none ∙ sym nothing, ap Some (one_stop Marks 0 bytes SaysHello one_hello end final (hello_stop bytes end s) (hello_stop bytes final t)))
whole base other bytes requests others stop last (Spurned end none s) (Waiting b unfinished) = absurd (not_taken other bytes others end s b)
whole base other bytes requests others stop last (Spurned end none s) (Stopped b final t) = absurd (not_taken other bytes others end s b)
whole base other bytes requests others stop last (Waiting a unfinished) (Unmet nothing open_too) = absurd (not_met base bytes requests open_too a)
whole base other bytes requests others stop last (Waiting a unfinished) (Spurned end nothing s) = absurd (not_taken base bytes requests end s a)
whole base other bytes requests others stop last (Waiting a unfinished) (Waiting b open_too) = with_other base bytes requests others stop last a (IsOpen unfinished) other b (IsOpen open_too)
whole base other bytes requests others stop last (Waiting a unfinished) (Stopped b final t) = with_other base bytes requests others stop last a (IsOpen unfinished) other b (Stops final t)
whole base other bytes requests others stop last (Stopped a end s) (Unmet nothing unfinished) = absurd (not_met base bytes requests unfinished a)
whole base other bytes requests others stop last (Stopped a end s) (Spurned final nothing t) = absurd (not_taken base bytes requests final t a)
whole base other bytes requests others stop last (Stopped a end s) (Waiting b unfinished) = with_other base bytes requests others stop last a (Stops end s) other b (IsOpen unfinished)
whole base other bytes requests others stop last (Stopped a end s) (Stopped b final t) = with_other base bytes requests others stop last a (Stops end s) other b (Stops final t)

-- a beginning and the whole
module _ (base : Base) (bytes : List ℕ) (requests others : List Request) (stop : Option SessionEnd) (a : AsksFirst base bytes requests) where
  goes_on : (b : AsksFirst base bytes others) → Rest base (length b.front) b.rest stop → (more : List Request) × (others ≡ requests ++ more)
  goes_on b r = by (pairs_first base bytes requests others a b)
    where
      by : Pairs base a.asks.messages a.rest b.asks.messages b.rest → (more : List Request) × (others ≡ requests ++ more)
      by (Same same left) = ([], b.asks.requests_are ∙ sym same ∙ sym a.asks.requests_are ∙ sym (append-nil requests))
      by (Behind m left same asked is) = (requests_of (m ∷ left), b.asks.requests_are ∙ same ∙ ap (λ r. r ++ requests_of (m ∷ left)) (sym a.asks.requests_are))
      by (Ahead m left same asked is) = absurd (no_request base (length b.front) b.rest stop m (stream_of left ++ a.rest) r asked is)

  goes_on_by : (other : Base) (b : AsksFirst other bytes others) → Rest other (length b.front) b.rest stop → (other ≡ base) × (more : List Request) × (others ≡ requests ++ more)
  goes_on_by other b r =
      let P : Base → Type 0 = λ x. (f : AsksFirst x bytes others) × Rest x (length f.front) f.rest stop in
      let same = same_base base other bytes requests others a b in
      let both = subst P same (b, r) in
      let on = goes_on both.0 both.1 in
      (same, on.0, on.1)

front : (base other : Base) (bytes : List ℕ) (requests others : List Request) (stop : Option SessionEnd) → AsksFirst base bytes requests → AsksAll other bytes others stop
    → (other ≡ base) × (more : List Request) × (others ≡ requests ++ more)
front base other bytes requests others stop a (Unmet none unfinished) = absurd (not_met base bytes requests unfinished a)
front base other bytes requests others stop a (Spurned end none s) = absurd (not_taken base bytes requests end s a)
front base other bytes requests others stop a (Waiting b unfinished) = goes_on_by base bytes requests others stop a other b (IsOpen unfinished)
front base other bytes requests others stop a (Stopped b end s) = goes_on_by base bytes requests others stop a other b (Stops end s)

pub one_reading : OneReading
one_reading = record { whole = whole; front = front }
