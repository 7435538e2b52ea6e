-- Whole runs.
use Rattle.std.proofs.Common.{◌≡◌, ◌≢◌, ◌⊎◌, inl, inr, ℕ, ◌+◌, List, [], ◌∷◌, ◌++◌, length, Option, Result, Some, None, Ok, Err, refl, ap, sym, ◌∙◌, subst, arith}
use Rattle.std.specs.List.{flat_map, concat, AllByRecursion}
use Rattle.std.proofs.lemmas.List.{append_assoc, append-nil, length-append}
use Rattle.nc_frames.specs.declared.fault.FrameFault.{FrameFault}
use Rattle.nc_frames.specs.declared.fault.FrameFault.TheVariants.{BadFrame, TooBig, Memory}
use Rattle.nc_frames.specs.Framing.{Mode, Marks, Chunks, HasNoMark, IsMarked, with_mark, EndOfMessage, Chunked, IsPartialChunks, IsTooBig, IsBad, IsUnfinished, IsMessage, in_chunks, IsChunk, mark}
use Rattle.nc_frames.specs.Writing.{IsCut, written_chunk}
use Rattle.nc_frames.specs.Replies.{Unread, HasFailed, Gives, IsFaultOf, Answers}
use Rattle.nc_frames.specs.Streams.{Event, Fed, Asked, Runs, fed_by, given_by, AreMessages, AreWhole, EndsSo, IsStream, IsSession, Tells}
use Rattle.nc_frames.specs.Laws.{IsGiven, IsFaulty, GivesAllThatIsFed, GivesTheStream, GivesTheSession, IsFramedAsDefined, WritesOneMessage}
use Rattle.nc_frames.specs.inner.Kept.{Kept}

-- a fault stays where more bytes come
IsTooBig-more : (mode : Mode) (bytes more : List ℕ) (place : ℕ) → IsTooBig mode bytes place → IsTooBig mode (bytes ++ more) place
IsTooBig-more Marks bytes more place t = record {
  front = t.front;
  rest = t.rest ++ more;
  bytes_are = ap (λ l. l ++ more) t.bytes_are ∙ append_assoc t.front t.rest more;
  many = t.many;
  unmarked = t.unmarked;
  place_is = t.place_is;
}
IsTooBig-more Chunks bytes more place t = record {
  chunks = t.chunks;
  each = t.each;
  size = t.size;
  is_size = t.is_size;
  rest = t.rest ++ more;
  bytes_are = ap (λ l. l ++ more) t.bytes_are ∙ append_assoc _ (10 ∷ t.rest) more;
  before = t.before;
  after = t.after;
  place_is = t.place_is;
}

IsBad-more : (bytes more : List ℕ) (place : ℕ) → IsBad bytes place → IsBad (bytes ++ more) place
IsBad-more bytes more place b = record {
  before = b.before;
  byte = b.byte;
  rest = b.rest ++ more;
  bytes_are = ap (λ l. l ++ more) b.bytes_are ∙ append_assoc b.before (b.byte ∷ b.rest) more;
  unfinished = b.unfinished;
  wrong = b.wrong;
  place_is = b.place_is;
}

pub IsFaultOf-more : (mode : Mode) (first : ℕ) (bytes more : List ℕ) (fault : FrameFault) → IsFaultOf mode first bytes fault → IsFaultOf mode first (bytes ++ more) fault
IsFaultOf-more Marks first bytes more (TooBig at) f = (f.0, IsTooBig-more Marks bytes more f.0 f.1, f.2)
IsFaultOf-more Chunks first bytes more (TooBig at) f = (f.0, IsTooBig-more Chunks bytes more f.0 f.1, f.2)
IsFaultOf-more Chunks first bytes more (BadFrame at) f = (f.0, IsBad-more bytes more f.0 f.1, f.2)
IsFaultOf-more Marks first bytes more (BadFrame at) f = absurd f
IsFaultOf-more Marks first bytes more Memory f = absurd f
IsFaultOf-more Chunks first bytes more Memory f = absurd f

-- what is given and what is not, or the fault
abbrev IsAt : Kept → Mode → ℕ → List ℕ → List (List ℕ) → Type 0
IsAt kept mode first bytes messages = IsGiven kept mode first bytes messages ⊎ IsFaulty kept mode first bytes messages

-- a message more in front
IsStream-message : (mode : Mode) (first : ℕ) (bytes framed rest message : List ℕ) (messages : List (List ℕ)) (end : Option FrameFault) → bytes ≡ framed ++ rest → IsMessage mode framed message → IsStream mode (first + length framed) rest messages end → IsStream mode first bytes (message ∷ messages) end
IsStream-message mode first bytes framed rest message messages end e is s = record {
  framed = framed ++ s.framed;
  rest = s.rest;
  whole = e ∙ ap (λ l. framed ++ l) s.whole ∙ sym (append_assoc framed s.framed s.rest);
  messages_are = (framed, s.framed, refl, is, s.messages_are);
  ends = subst (λ place. EndsSo mode place s.rest end) (omega (arith, length-append framed s.framed)) s.ends;
}

IsAt-message : (new between : Kept) (mode : Mode) (first : ℕ) (bytes more message : List ℕ) (messages : List (List ℕ)) (g : Gives between mode first bytes message) → IsAt new mode (first + length g.framed) (g.rest ++ more) messages → IsAt new mode first (bytes ++ more) (message ∷ messages)
IsAt-message new between mode first bytes more message messages g at =
    let split : bytes ++ more ≡ g.framed ++ (g.rest ++ more) = ap (λ l. l ++ more) g.bytes_are ∙ append_assoc g.framed g.rest more in
    elim at [
      | inl r ↦ inl (record {
        framed = g.framed ++ r.framed;
        rest = r.rest;
        whole = split ∙ ap (λ l. g.framed ++ l) r.whole ∙ sym (append_assoc g.framed r.framed r.rest);
        messages_are = (g.framed, r.framed, refl, g.is_message, r.messages_are);
        unread = subst (λ place. Unread new mode place r.rest) (omega (arith, length-append g.framed r.framed)) r.unread;
      })
      | inr f ↦ inr (record {
        fault = f.fault;
        failed = f.failed;
        stream = IsStream-message mode first (bytes ++ more) g.framed (g.rest ++ more) message messages (Some f.fault) split g.is_message f.stream;
      })
    ]

bad_is_not_memory : (at : ℕ) → BadFrame at ≢ Memory
bad_is_not_memory at = λ e. cc

big_is_not_memory : (at : ℕ) → TooBig at ≢ Memory
big_is_not_memory at = λ e. cc

-- a fault of the first message
IsStream-fault : (mode : Mode) (first : ℕ) (bytes : List ℕ) (fault : FrameFault) → IsFaultOf mode first bytes fault → IsStream mode first bytes [] (Some fault)
IsStream-fault mode first bytes fault f = record {
  framed = [];
  rest = bytes;
  whole = refl;
  messages_are = refl;
  ends = subst (λ place. IsFaultOf mode place bytes fault) (omega arith) f;
}

IsStream-more : (mode : Mode) (first : ℕ) (bytes more : List ℕ) (messages : List (List ℕ)) (fault : FrameFault) → IsStream mode first bytes messages (Some fault) → IsStream mode first (bytes ++ more) messages (Some fault)
IsStream-more mode first bytes more messages fault s = record {
  framed = s.framed;
  rest = s.rest ++ more;
  whole = ap (λ l. l ++ more) s.whole ∙ append_assoc s.framed s.rest more;
  messages_are = s.messages_are;
  ends = IsFaultOf-more mode (first + length s.framed) s.rest more fault s.ends;
}

-- the events before a fault gave no message after it
failed_run : (events : List Event) (old new : Kept) (fault : FrameFault) → HasFailed old fault → Runs old events new → HasFailed new fault × (given_by events ≡ [])
failed_run [] old new fault h r = (subst (λ kept. HasFailed kept fault) r h, refl)
failed_run (Fed piece result ∷ events) old new fault h r = failed_run events r.0 new fault (r.1.standing fault h).1 r.2
failed_run (Asked (Ok None) ∷ events) old new fault h r = failed_run events r.0 new fault (r.1.standing fault h).1 r.2
failed_run (Asked (Err other) ∷ events) old new fault h r = failed_run events r.0 new fault (r.1.standing fault h).1 r.2
failed_run (Asked (Ok (Some message)) ∷ events) old new fault h r = absurd (let no : Ok (Some message) ≡ Err fault = (r.1.standing fault h).0 in cc)

IsAt-failed : (events : List Event) (old new : Kept) (mode : Mode) (first : ℕ) (bytes : List ℕ) (fault : FrameFault) → HasFailed old fault → IsFaultOf mode first bytes fault → Runs old events new → IsAt new mode first (bytes ++ fed_by events) (given_by events)
IsAt-failed events old new mode first bytes fault h f r =
    let w = failed_run events old new fault h r in
    inr (record {
      fault = fault;
      failed = w.0;
      stream = subst (λ messages. IsStream mode first (bytes ++ fed_by events) messages (Some fault)) (sym w.1) (IsStream-more mode first bytes (fed_by events) [] fault (IsStream-fault mode first bytes fault f));
    })

pub run_gives : GivesAllThatIsFed
run_gives [] old new mode first bytes u r = inl (record {
  framed = [];
  rest = bytes;
  whole = append-nil bytes;
  messages_are = refl;
  unread = subst (λ place. Unread new mode place bytes) (omega arith) (subst (λ kept. Unread kept mode first bytes) r u);
})
run_gives (Fed piece (Ok done) ∷ events) old new mode first bytes u r =
    subst (λ l. IsAt new mode first l (given_by events)) (append_assoc bytes piece (fed_by events)) (run_gives events r.0 new mode first (bytes ++ piece) (r.1.unread mode first bytes u) r.2)
run_gives (Fed piece (Err memory) ∷ events) old new mode first bytes u r =
    run_gives events r.0 new mode first bytes (r.1.unread mode first bytes u) r.2
run_gives (Asked (Ok None) ∷ events) old new mode first bytes u r =
    run_gives events r.0 new mode first bytes (r.1.replies mode first bytes u).0 r.2
run_gives (Asked (Ok (Some message)) ∷ events) old new mode first bytes u r =
    let g = r.1.replies mode first bytes u in
    IsAt-message new r.0 mode first bytes (fed_by events) message (given_by events) g (run_gives events r.0 new mode (first + length g.framed) g.rest g.unread r.2)
run_gives (Asked (Err Memory) ∷ events) old new mode first bytes u r =
    run_gives events r.0 new mode first bytes (r.1.replies mode first bytes u) r.2
run_gives (Asked (Err (BadFrame at)) ∷ events) old new mode first bytes u r =
    IsAt-failed events r.0 new mode first bytes (BadFrame at) (r.1.fault (bad_is_not_memory at)) (r.1.replies mode first bytes u) r.2
run_gives (Asked (Err (TooBig at)) ∷ events) old new mode first bytes u r =
    IsAt-failed events r.0 new mode first bytes (TooBig at) (r.1.fault (big_is_not_memory at)) (r.1.replies mode first bytes u) r.2

-- the last answer
fault_answered : (between new : Kept) (mode : Mode) (first : ℕ) (bytes : List ℕ) (fault : FrameFault) → Unread between mode first bytes → Answers between (Err fault) new → fault ≢ Memory → IsFaultOf mode first bytes fault
fault_answered between new mode first bytes (BadFrame at) u a other = a.replies mode first bytes u
fault_answered between new mode first bytes (TooBig at) u a other = a.replies mode first bytes u
fault_answered between new mode first bytes Memory u a other = absurd (other refl)

told_end : (between new : Kept) (mode : Mode) (first : ℕ) (bytes : List ℕ) (reply : Result (Option (List ℕ)) FrameFault) (end : Option FrameFault) → Unread between mode first bytes → Answers between reply new → Tells reply end → EndsSo mode first bytes end
told_end between new mode first bytes reply None u a t =
    let b : Answers between (Ok None) new = subst (λ x. Answers between x new) t a in
    (b.replies mode first bytes u).1
told_end between new mode first bytes reply (Some fault) u a t =
    fault_answered between new mode first bytes fault u (subst (λ x. Answers between x new) t.0 a) t.1

told_fault : (fault : FrameFault) (reply : Result (Option (List ℕ)) FrameFault) (end : Option FrameFault) → reply ≡ Err fault → Tells reply end → Some fault ≡ end
told_fault fault reply None e t = absurd (let no : Ok None ≡ Err fault = sym t ∙ e in cc)
told_fault fault reply (Some other) e t = (let same : Err fault ≡ Err other = sym e ∙ t.0 in cc)

pub gives_stream : GivesTheStream
gives_stream events old between new mode first bytes reply end u r a t = elim (run_gives events old between mode first bytes u r) [
  | inl g ↦ record {
    framed = g.framed;
    rest = g.rest;
    whole = g.whole;
    messages_are = g.messages_are;
    ends = told_end between new mode (first + length g.framed) g.rest reply end g.unread a t;
  }
  | inr f ↦ subst (λ x. IsStream mode first (bytes ++ fed_by events) (given_by events) x) (told_fault f.fault reply end (a.standing f.fault f.failed).0 t) f.stream
]

-- a session without a switch is a stream with marks
session_of_marks : (bytes : List ℕ) (messages : List (List ℕ)) (end : Option FrameFault) → IsStream Marks 0 bytes messages end → IsSession Marks bytes messages end
session_of_marks bytes [] end s = s
session_of_marks bytes (hello ∷ messages) end s =
    let m = s.messages_are in (
      m.0,
      m.1 ++ s.rest,
      s.whole ∙ ap (λ l. l ++ s.rest) m.2 ∙ append_assoc m.0 m.1 s.rest,
      m.3,
      record {
        framed = m.1;
        rest = s.rest;
        whole = refl;
        messages_are = m.4;
        ends = subst (λ place. EndsSo Marks place s.rest end) (omega (arith, ap length m.2, length-append m.0 m.1)) s.ends;
      },
    )

-- a hello is given where the stream begins with it
GreetsAt : (greeted : Kept) (bytes hello : List ℕ) → Type 0
GreetsAt greeted bytes hello = (framed : List ℕ) × (rest : List ℕ) × (bytes ≡ framed ++ rest) × IsMessage Marks framed hello × Unread greeted Marks (length framed) rest

greets : (events : List Event) (old greeting greeted : Kept) (hello : List ℕ) → Unread old Marks 0 [] → Runs old events greeting → given_by events ≡ [] → Answers greeting (Ok (Some hello)) greeted → GreetsAt greeted (fed_by events) hello
unfolding GreetsAt
greets events old greeting greeted hello u r none a = elim (run_gives events old greeting Marks 0 [] u r) [
  | inr f ↦ absurd (let no : Ok (Some hello) ≡ Err f.fault = (a.standing f.fault f.failed).0 in cc)
  | inl g ↦ (
      let nothing : g.framed ≡ [] = subst (λ messages. AreMessages Marks g.framed messages) none g.messages_are in
      let w = a.replies Marks (0 + length g.framed) g.rest g.unread in
      (w.framed, w.rest, g.whole ∙ ap (λ l. l ++ g.rest) nothing ∙ w.bytes_are, w.is_message, subst (λ place. Unread greeted Marks place w.rest) (omega (arith, ap length nothing)) w.unread)
      )
]

pub gives_session : GivesTheSession
unfolding GreetsAt
gives_session = record {
  marks = λ events old between new reply end u r a t.
      session_of_marks (fed_by events) (given_by events) end (gives_stream events old between new Marks 0 [] reply end u r a t);
  chunks = λ events later old greeting greeted switched between new hello reply end u r none h s q a t.
      let g = greets events old greeting greeted hello u r none h in
      let stream = gives_stream later switched between new Chunks (length g.0) g.1 reply end (s.unread Marks (length g.0) g.1 g.4) q a t in
      (g.0, g.1 ++ fed_by later, ap (λ l. l ++ fed_by later) g.2 ∙ append_assoc g.0 g.1 (fed_by later), g.3, stream);
}

marked_stream : (messages : List (List ℕ)) (framed rest : List ℕ) → AreMessages Marks framed messages → HasNoMark rest → EndOfMessage (framed ++ rest) messages rest
marked_stream [] framed rest f none = record { whole = ap (λ l. l ++ rest) f; each = tt; partial = none }
marked_stream (m ∷ ms) framed rest f none =
    let later = marked_stream ms f.1 rest f.4 none in
    record {
      whole =
          ap (λ l. l ++ rest) (f.2 ∙ ap (λ l. l ++ f.1) f.3.is_framed.0)
          ∙ append_assoc (with_mark m) f.1 rest
          ∙ ap (λ l. with_mark m ++ l) later.whole
          ∙ sym (append_assoc (with_mark m) (flat_map with_mark ms) rest);
      each = (f.3.is_framed.1, later.each);
      partial = none;
    }

pub chunked_stream : (messages : List (List ℕ)) (framed rest : List ℕ) → AreMessages Chunks framed messages → IsPartialChunks rest → Chunked (framed ++ rest) messages rest
chunked_stream [] framed rest f part = record { chunks = []; each = tt; messages_are = refl; whole = ap (λ l. l ++ rest) f; partial = part }
chunked_stream (m ∷ ms) framed rest f part =
    let later = chunked_stream ms f.1 rest f.4 part in
    record {
      chunks = f.3.is_framed.chunks ∷ later.chunks;
      each = (f.3.is_framed.each, later.each);
      messages_are = ap (λ x. x ∷ ms) f.3.is_framed.message_is ∙ ap (λ l. concat f.3.is_framed.chunks ∷ l) later.messages_are;
      whole =
          ap (λ l. l ++ rest) (f.2 ∙ ap (λ l. l ++ f.1) f.3.is_framed.bytes_are)
          ∙ append_assoc (in_chunks f.3.is_framed.chunks) f.1 rest
          ∙ ap (λ l. in_chunks f.3.is_framed.chunks ++ l) later.whole
          ∙ sym (append_assoc (in_chunks f.3.is_framed.chunks) (flat_map in_chunks later.chunks) rest);
      partial = part;
    }

-- what a stream without a fault leaves
are_whole : (mode : Mode) (framed rest : List ℕ) (messages : List (List ℕ)) → AreMessages mode framed messages → IsUnfinished mode rest → AreWhole mode (framed ++ rest) messages rest
are_whole Marks framed rest messages f u = marked_stream messages framed rest f u.partial
are_whole Chunks framed rest messages f u = chunked_stream messages framed rest f u.partial

pub framed_as_defined : IsFramedAsDefined
framed_as_defined mode first bytes messages s =
    (s.rest, subst (λ l. AreWhole mode l messages s.rest) (sym s.whole) (are_whole mode s.framed s.rest messages s.messages_are s.ends), s.ends)

-- no bytes
HasNoMark-nil : HasNoMark []
HasNoMark-nil before after e = omega (arith, ap length e, length-append before (mark ++ after))

IsPartialChunks-nil : IsPartialChunks []
IsPartialChunks-nil = record {
  chunks = (0 ∷ []) ∷ [];
  each = ((λ e. cc), ((omega arith, omega arith), tt));
  more = in_chunks ((0 ∷ []) ∷ []);
  some = λ e. cc;
  whole = refl;
}

marked_alone : (body : List ℕ) → IsMarked body → EndOfMessage (with_mark body) (body ∷ []) []
marked_alone body marked = record { whole = sym (append-nil (with_mark body ++ []) ∙ append-nil (with_mark body)); each = (marked, tt); partial = HasNoMark-nil }

AreChunks-cut : (chunks : List (List ℕ)) → IsCut written_chunk chunks → AllByRecursion IsChunk chunks
AreChunks-cut [] cut = absurd cut
AreChunks-cut (last ∷ []) cut = ((cut.0, omega (arith, cut.1)), tt)
AreChunks-cut (c ∷ d ∷ cs) cut = ((omega (arith, cut.0), omega (arith, cut.0)), AreChunks-cut (d ∷ cs) cut.1)

some_cut : (chunks : List (List ℕ)) → IsCut written_chunk chunks → chunks ≢ []
some_cut [] cut = absurd cut
some_cut (c ∷ cs) cut = λ e. cc

chunked_alone : (chunks : List (List ℕ)) → IsCut written_chunk chunks → Chunked (in_chunks chunks) (concat chunks ∷ []) []
chunked_alone chunks cut = record {
  chunks = chunks ∷ [];
  each = ((some_cut chunks cut, AreChunks-cut chunks cut), tt);
  messages_are = refl;
  whole = sym (append-nil (in_chunks chunks ++ []) ∙ append-nil (in_chunks chunks));
  partial = IsPartialChunks-nil;
}

pub writes_one : WritesOneMessage
writes_one = record { marks = marked_alone; chunks = chunked_alone }
