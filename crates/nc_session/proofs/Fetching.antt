-- The next request of a session: how its source is read for it, and how far.
use Rattle.std.proofs.Common.{◌≡◌, ◌⊎◌, inl, inr, ℕ, suc, ◌+◌, ◌<◌, ◌≤◌, List, [], ◌∷◌, ◌++◌, length, refl, sym, ap, subst, ◌∙◌, arith, append_assoc, append-nil, length-append, Option, Some, None, Ok, Err}
use Rattle.std.specs.Io.KnownBytes.{prepend_known}
use Rattle.std.specs.List.{AllByRecursion}
use Rattle.nc_names.specs.Counts.{Rose}
use Rattle.nc_names.specs.Mark.{mark}
use Rattle.nc_outside.proofs.Known.{prepend_nothing, prepend_twice}
use Rattle.nc_frames.specs.Framing.{Mode, Marks, Chunks, IsUnfinished}
use Rattle.nc_frames.specs.Laws.{unfinished_limit, session_limit}
use Rattle.nc_frames.proofs.AnswerLemmas.{one_answer}
use Rattle.nc_frames.proofs.BoundLemmas.{bounded}
use Rattle.nc_protocol.specs.declared.request.Request.{Request}
use Rattle.nc_session.specs.declared.base.Base.{Base}
use Rattle.nc_session.specs.declared.end.SessionEnd.{SessionEnd}
use Rattle.nc_session.specs.declared.end.SessionEnd.TheVariants.{Closed, InputEnded, BadHello, BadFrame, TooBig, Malformed, Killed, ReadFault, WriteFault, Full, Spent, Memory}
use Rattle.nc_session.specs.declared.session_core.Phase.TheVariants.{Serving}
use Rattle.nc_session.specs.Asks.{mode_of, Message, IsAsked, stream_of, requests_of, AsksFirst, AsksAll, Unmet, Waiting}
use Rattle.nc_session.specs.Cores.{Core, IsAt, IsChosen}
use Rattle.nc_session.specs.inner.Unseen.{Unseen}
use Rattle.nc_session.specs.inner.Turns.{Intake, SameIntake, ReadsOn, Progress, Fetches, StepsOn, Awaited, Waits}
use Rattle.nc_session.proofs.Ending.{IsStop, all_stop, asks_in, asks_all, these_more}
use Rattle.nc_session.proofs.Reading.{same_chosen, chosen_twice}

module _ (core : Core) (base b : Base) (bytes : List ℕ) (given : List Request) (before : Intake) (chosen : IsChosen given base b) where
  -- nothing more was read
  abbrev here : (now : Intake) → now.left ≡ before.left → Progress given base before now
  here now left = record { now_base = b; chosen = chosen; piece = []; read = sym left ∙ sym (prepend_nothing now.left) }

  abbrev after_piece : (now : Intake) (piece : List ℕ) → before.left ≡ prepend_known piece now.left → Progress given base before now
  after_piece now piece read = record { now_base = b; chosen = chosen; piece = piece; read = read }

  -- a request waits
  pub step_ask : (request : Request) → core.phase ≡ Serving b → IsAt core b bytes (given ++ request ∷ []) → Fetches core base bytes given before before (Ok request)
  step_ask request phase at =
      let P : List ℕ → Type 0 = λ x. IsAt core b x (given ++ request ∷ []) in
      (here before refl, (refl, refl), phase, subst P (sym (append-nil bytes)) at)

  -- the bytes stop
  pub step_over : (end : SessionEnd) → AsksAll b bytes given (Some end) → Fetches core base bytes given before before (Err end)
  step_over end all = by end (all_stop b bytes given end all) (let P : List ℕ → Type 0 = λ x. AsksAll b x given (Some end) in subst P (sym (append-nil bytes)) all)
    where
      by : (e : SessionEnd) → IsStop e → AsksAll b (bytes ++ []) given (Some e) → Fetches core base bytes given before before (Err e)
      by (BadHello why) is stop = (here before refl, (refl, refl), stop)
      by (BadFrame at) is stop = (here before refl, (refl, refl), stop)
      by (TooBig at) is stop = (here before refl, (refl, refl), stop)
      by (Malformed at why) is stop = (here before refl, (refl, refl), stop)
      by Closed is stop = absurd is
      by InputEnded is stop = absurd is
      by Killed is stop = absurd is
      by ReadFault is stop = absurd is
      by WriteFault is stop = absurd is
      by (Full live last) is stop = absurd is
      by (Spent ticket) is stop = absurd is
      by Memory is stop = absurd is

  pub step_memory : (given ≡ []) ⊎ AsksFirst b bytes given → Fetches core base bytes given before before (Err Memory)
  step_memory asks = (here before refl, (refl, refl), these_more b bytes [] given asks)

  -- a piece was read
  pub step_read : (now : Intake) → AsksAll b bytes given None → ReadsOn (λ it. IsAt core b it given) bytes before now (Ok tt)
      → StepsOn core base bytes given before now (Ok None)
  step_read now all read = (after_piece now read.0 read.1, read.4, read.2, read.3, all)

  -- none was
  pub step_end : (At : List ℕ → Type 0) (now : Intake) (end : SessionEnd) → AsksAll b bytes given None → ReadsOn At bytes before now (Err end)
      → Fetches core base bytes given before now (Err end)
  step_end At now InputEnded all read =
      let P : List ℕ → Type 0 = λ x. AsksAll b x given None in
      (here now read.0, read.1, read.2, read.3, subst P (sym (append-nil bytes)) all)
  step_end At now ReadFault all read =
      let P : List ℕ → Type 0 = λ x. AsksAll b x given None in
      (here now read.0, read.1, read.2, subst P (sym (append-nil bytes)) all)
  step_end At now Memory all read = (after_piece now read.0 read.1, read.2, these_more b bytes read.0 given (asks_all b bytes given None all))
  step_end At now (BadHello why) all read = absurd read
  step_end At now (BadFrame at) all read = absurd read
  step_end At now (TooBig at) all read = absurd read
  step_end At now (Malformed at why) all read = absurd read
  step_end At now Closed all read = absurd read
  step_end At now Killed all read = absurd read
  step_end At now WriteFault all read = absurd read
  step_end At now (Full live last) all read = absurd read
  step_end At now (Spent ticket) all read = absurd read

-- one step after others
module _ (core next : Core) (base : Base) (bytes : List ℕ) (given : List Request) (before middle now : Intake) (count : ℕ)
    (w : Waits core base bytes given before middle count) where
  abbrev joined : Progress given w.progress.now_base middle now → Progress given base before now
  joined p = record {
    now_base = p.now_base;
    chosen = chosen_twice given base w.progress.now_base p.now_base w.progress.chosen p.chosen;
    piece = w.progress.piece ++ p.piece;
    read = w.progress.read ∙ ap (prepend_known w.progress.piece) p.read ∙ prepend_twice now.left w.progress.piece p.piece;
  }

  bytes_are : (p : Progress given w.progress.now_base middle now) → (bytes ++ w.progress.piece) ++ p.piece ≡ bytes ++ (w.progress.piece ++ p.piece)
  bytes_are p = append_assoc bytes w.progress.piece p.piece

  same_twice : SameIntake middle now → SameIntake before now
  same_twice same = (same.0 ∙ w.same.0, same.1 ∙ w.same.1)

  pub waits_more : StepsOn next w.progress.now_base (bytes ++ w.progress.piece) given middle now (Ok None) → Waits next base bytes given before now (count + 1)
  waits_more s =
      let P : List ℕ → Type 0 = λ x. IsAt next s.0.now_base x given in
      record {
        progress = joined s.0;
        same = same_twice s.1;
        at = subst P (bytes_are s.0) s.3;
        some = omega (arith, length-append w.progress.piece s.0.piece, w.some, s.2);
        awaited = inr (record {
          now_base = s.0.now_base;
          chosen = chosen_twice given base w.progress.now_base s.0.now_base w.progress.chosen s.0.chosen;
          front = w.progress.piece;
          all = s.4;
          few = omega (arith, w.some);
        });
      }

  pub fetches_ask : (request : Request) → Fetches next w.progress.now_base (bytes ++ w.progress.piece) given middle now (Ok request) → Fetches next base bytes given before now (Ok request)
  fetches_ask request s =
      let P : List ℕ → Type 0 = λ x. IsAt next s.0.now_base x (given ++ request ∷ []) in
      (joined s.0, same_twice s.1, s.2, subst P (bytes_are s.0) s.3)

  stopped : (stop : Option SessionEnd) (p : Progress given w.progress.now_base middle now) → AsksAll p.now_base ((bytes ++ w.progress.piece) ++ p.piece) given stop
      → AsksAll p.now_base (bytes ++ (w.progress.piece ++ p.piece)) given stop
  stopped stop p all = let P : List ℕ → Type 0 = λ x. AsksAll p.now_base x given stop in subst P (bytes_are p) all

  pub fetches_end : (end : SessionEnd) → Fetches next w.progress.now_base (bytes ++ w.progress.piece) given middle now (Err end) → Fetches next base bytes given before now (Err end)
  fetches_end InputEnded s =
      let P : ℕ → Type 0 = λ n. Rose n now.ends in
      (joined s.0, s.1, subst P w.same.0 s.2, s.3 ∙ w.same.1, stopped None s.0 s.4)
  fetches_end ReadFault s =
      let P : ℕ → Type 0 = λ n. Rose n now.failed in
      (joined s.0, s.1 ∙ w.same.0, subst P w.same.1 s.2, stopped None s.0 s.3)
  fetches_end Memory s =
      let P : List ℕ → Type 0 = λ x. (given ≡ []) ⊎ AsksFirst s.0.now_base x given in
      (joined s.0, same_twice s.1, subst P (bytes_are s.0) s.2)
  fetches_end (BadHello why) s = (joined s.0, same_twice s.1, stopped (Some (BadHello why)) s.0 s.2)
  fetches_end (BadFrame at) s = (joined s.0, same_twice s.1, stopped (Some (BadFrame at)) s.0 s.2)
  fetches_end (TooBig at) s = (joined s.0, same_twice s.1, stopped (Some (TooBig at)) s.0 s.2)
  fetches_end (Malformed at why) s = (joined s.0, same_twice s.1, stopped (Some (Malformed at why)) s.0 s.2)
  fetches_end Closed s = (joined s.0, same_twice s.1, stopped (Some Closed) s.0 s.2)
  fetches_end Killed s = (joined s.0, same_twice s.1, stopped (Some Killed) s.0 s.2)
  fetches_end WriteFault s = (joined s.0, same_twice s.1, stopped (Some WriteFault) s.0 s.2)
  fetches_end (Full live last) s = (joined s.0, same_twice s.1, stopped (Some (Full live last)) s.0 s.2)
  fetches_end (Spent ticket) s = (joined s.0, same_twice s.1, stopped (Some (Spent ticket)) s.0 s.2)

-- nothing is read yet
pub waits_none : (core : Core) (base : Base) (bytes : List ℕ) (given : List Request) (before : Intake) → IsAt core base bytes given → Waits core base bytes given before before 0
waits_none core base bytes given before at =
    let P : List ℕ → Type 0 = λ x. IsAt core base x given in
    record {
      progress = record { now_base = base; chosen = same_chosen given base; piece = []; read = sym (prepend_nothing before.left) };
      same = (refl, refl);
      at = subst P (sym (append-nil bytes)) at;
      some = omega arith;
      awaited = inl refl;
    }

-- as many messages at the front of the same bytes leave the same
same_rest : (base : Base) (messages others : List Message) (bytes rest more : List ℕ) → bytes ≡ stream_of messages ++ rest → bytes ≡ stream_of others ++ more
    → AllByRecursion (IsAsked base) messages → AllByRecursion (IsAsked base) others → length messages ≡ length others → rest ≡ more
same_rest base [] [] bytes rest more e f each all same = sym e ∙ f
same_rest base [] (o ∷ os) bytes rest more e f each all same = cc
same_rest base (m ∷ ms) [] bytes rest more e f each all same = cc
same_rest base (m ∷ ms) (o ∷ os) bytes rest more e f each all same =
    let left : bytes ≡ m.framed ++ (stream_of ms ++ rest) = e ∙ append_assoc m.framed (stream_of ms) rest in
    let right : bytes ≡ o.framed ++ (stream_of os ++ more) = f ∙ append_assoc o.framed (stream_of os) more in
    let one = (one_answer (mode_of base) bytes).one_message m.framed (stream_of ms ++ rest) m.body o.framed (stream_of os ++ more) o.body left each.0.is_message.is_framed right all.0.is_message.is_framed in
    same_rest base ms os (stream_of ms ++ rest) rest more refl one.1 each.1 all.1 (omega (arith, same))

length_requests : (messages : List Message) → length (requests_of messages) ≡ length messages
length_requests [] = refl
length_requests (m ∷ ms) = ap suc (length_requests ms)

-- two readings of the same bytes that give as many requests leave the same
pub same_front : (base : Base) (bytes : List ℕ) (given : List Request) (a b : AsksFirst base bytes given) → a.rest ≡ b.rest
same_front base bytes given a b =
    let left : bytes ≡ a.asks.hello ++ (stream_of a.asks.messages ++ a.rest) =
    a.bytes_are ∙ ap (λ x. x ++ a.rest) a.asks.bytes_are ∙ append_assoc a.asks.hello (stream_of a.asks.messages) a.rest in
    let right : bytes ≡ b.asks.hello ++ (stream_of b.asks.messages ++ b.rest) =
    b.bytes_are ∙ ap (λ x. x ++ b.rest) b.asks.bytes_are ∙ append_assoc b.asks.hello (stream_of b.asks.messages) b.rest in
    let one = (one_answer Marks bytes).one_message a.asks.hello (stream_of a.asks.messages ++ a.rest) a.asks.hello_body b.asks.hello (stream_of b.asks.messages ++ b.rest) b.asks.hello_body
    left a.asks.is_hello.is_framed right b.asks.is_hello.is_framed in
    let count : length a.asks.messages ≡ length b.asks.messages =
    sym (length_requests a.asks.messages) ∙ ap length (sym a.asks.requests_are ∙ b.asks.requests_are) ∙ length_requests b.asks.messages in
    same_rest base a.asks.messages b.asks.messages (stream_of a.asks.messages ++ a.rest) a.rest b.rest refl one.1 a.asks.each b.asks.each count

unfinished_is_short : (mode : Mode) (bytes : List ℕ) → IsUnfinished mode bytes → length bytes ≤ unfinished_limit
unfinished_is_short Marks bytes u = omega (arith, bounded.marks bytes u)
unfinished_is_short Chunks bytes u = bounded.chunks bytes u

no_messages : (messages : List Message) → [] ≡ requests_of messages → messages ≡ []
no_messages [] is = refl
no_messages (m ∷ ms) is = cc

-- before the first request
unasked_is_short : (base : Base) (bytes front : List ℕ) → AsksAll base (bytes ++ front) [] None → length front < session_limit
unasked_is_short base bytes front (Unmet none unfinished) = omega (arith, bounded.marks (bytes ++ front) unfinished, length-append bytes front)
unasked_is_short base bytes front (Waiting first unfinished) =
    let none : first.asks.messages ≡ [] = no_messages first.asks.messages first.asks.requests_are in
    let only : first.front ≡ first.asks.hello = first.asks.bytes_are ∙ ap (λ m. first.asks.hello ++ stream_of m) none ∙ append-nil first.asks.hello in
    let hello : length first.asks.hello ≡ length first.asks.hello_body + 6 = ap length first.asks.is_hello.is_framed.0 ∙ length-append first.asks.hello_body mark in
    omega (arith, unfinished_is_short (mode_of base) first.rest unfinished, ap length first.bytes_are, length-append bytes front, length-append first.front first.rest, ap length only, hello, first.asks.is_hello.small)

-- after a request
asked_is_short : (base : Base) (bytes front : List ℕ) (given : List Request) → AsksFirst base bytes given → (none : given ≡ [] → ⊥) → AsksAll base (bytes ++ front) given None → length front < session_limit
asked_is_short base bytes front given first none (Unmet is unfinished) = absurd (none is)
asked_is_short base bytes front given first none (Waiting later unfinished) =
    let longer : AsksFirst base (bytes ++ front) given = record {
      front = first.front;
      rest = first.rest ++ front;
      bytes_are = ap (λ x. x ++ front) first.bytes_are ∙ append_assoc first.front first.rest front;
      asks = first.asks;
    } in
    let same : first.rest ++ front ≡ later.rest = same_front base (bytes ++ front) given longer later in
    omega (arith, unfinished_is_short (mode_of base) later.rest unfinished, ap length same, length-append first.rest front)

-- what is read for one request is short
pub fetch_is_short : (base b : Base) (bytes front : List ℕ) (given : List Request) → (given ≡ []) ⊎ AsksFirst base bytes given → IsChosen given base b
    → AsksAll b (bytes ++ front) given None → length front < session_limit
fetch_is_short base b bytes front [] asks chosen all = unasked_is_short b bytes front all
fetch_is_short base b bytes front (request ∷ more) (inl none) chosen all = cc
fetch_is_short base b bytes front (request ∷ more) (inr first) chosen all =
    let P : Base → Type 0 = λ x. AsksFirst x bytes (request ∷ more) in
    asked_is_short b bytes front (request ∷ more) (subst P (sym chosen) first) (λ is. cc) all

-- so many pieces are never read
pub never_so_long : (old core : Core) (base : Base) (bytes : List ℕ) (given : List Request) (before now : Intake) (count : ℕ) → IsAt old base bytes given
    → Waits core base bytes given before now count → session_limit < count → ⊥
never_so_long old core base bytes given before now count at w long = by w.awaited
  where
    by : (count ≡ 0) ⊎ Awaited base bytes given count → ⊥
    by (inl none) = omega (arith, none, long)
    by (inr a) =
        omega (arith, a.few, long, fetch_is_short base a.now_base bytes a.front given (asks_in (Unseen old.inbox) old.phase base bytes given at) a.chosen a.all)
