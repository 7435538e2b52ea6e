-- What the calls of Frames promise, out of what they do to what it keeps.
use Rattle.std.proofs.Common.{◌≡◌, ◌≢◌, ℕ, List, [], ◌++◌, Result, Ok, Err, refl, ap, sym, ◌∙◌, subst, arith}
use Rattle.std.specs.Prelude.{OnOk, OnErr}
use Rattle.std.proofs.lemmas.List.{append_assoc}
use Rattle.nc_names.specs.declared.memory.Memory.{Memory as NoMemory}
use Rattle.nc_frames.specs.declared.fault.FrameFault.{FrameFault}
use Rattle.nc_frames.specs.Framing.{Mode, Marks, Chunks, capped}
use Rattle.nc_frames.specs.Replies.{Unread, HasFailed, Answers, Feeds, Switches}
use Rattle.nc_frames.specs.inner.Steps.{run, start}
use Rattle.nc_frames.specs.inner.Kept.{Kept, Marking, Chunking, Failed, kept_of, reading_of, fed, IsSound}
use Rattle.nc_frames.specs.declared.frames.State.{State}
use Rattle.nc_frames.specs.declared.frames.State.TheVariants.{Marked, Chunked, Faulty}
use Rattle.nc_frames.specs.declared.chunks.Reader.{Reader}

Unread-fed : (kept : Kept) (mode : Mode) (first : ℕ) (bytes piece : List ℕ) → Unread kept mode first bytes → Unread (fed kept piece) mode first (bytes ++ piece)
unfolding Unread
Unread-fed (Marking place waiting) Marks first bytes piece u = (u.0, ap (λ l. l ++ piece) u.1)
Unread-fed (Marking place waiting) Chunks first bytes piece u = absurd u
Unread-fed (Chunking place reading waiting) Marks first bytes piece u = absurd u
Unread-fed (Chunking place reading waiting) Chunks first bytes piece u = record {
  taken = u.taken;
  bytes_are = ap (λ l. l ++ piece) u.bytes_are ∙ append_assoc u.taken waiting piece;
  reads = u.reads;
  place_is = u.place_is;
}
Unread-fed (Failed fault) mode first bytes piece u = absurd u

fed_more : (state : State) (r : Reader) (earlier waiting piece : List ℕ) → ((fault : FrameFault) → state ≢ Faulty fault) → fed (kept_of state r earlier waiting) piece ≡ kept_of state r earlier (waiting ++ piece)
fed_more Marked r earlier waiting piece live = ap (λ l. Marking r.place l) (append_assoc r.message waiting piece)
fed_more Chunked r earlier waiting piece live = ap (λ l. Chunking r.place (reading_of r) l) (append_assoc earlier waiting piece)
fed_more (Faulty fault) r earlier waiting piece live = absurd (live fault refl)

-- a piece was taken, or not
pub Feeds-pushed : (state : State) (r : Reader) (earlier waiting new piece : List ℕ) (old : Kept) (result : Result (Unit {0}) NoMemory) → kept_of state r earlier waiting ≡ old → ((fault : FrameFault) → state ≢ Faulty fault) → OnOk result (new ≡ waiting ++ piece) → OnErr result (new ≡ waiting) → Feeds old piece result (kept_of state r earlier new)
unfolding HasFailed
Feeds-pushed state r earlier waiting new piece old (Ok done) is live ok err =
    let same : fed old piece ≡ kept_of state r earlier new = ap (λ kept. fed kept piece) (sym is) ∙ fed_more state r earlier waiting piece live ∙ ap (λ l. kept_of state r earlier l) (sym ok) in
    record {
      unread = λ mode first bytes u. subst (λ kept. Unread kept mode first (bytes ++ piece)) same (Unread-fed old mode first bytes piece u);
      standing = λ fault f. (refl, sym same ∙ ap (λ kept. fed kept piece) f);
    }
Feeds-pushed state r earlier waiting new piece old (Err memory) is live ok err =
    let same : old ≡ kept_of state r earlier new = sym is ∙ ap (λ l. kept_of state r earlier l) (sym err) in
    record {
      unread = λ mode first bytes u. subst (λ kept. Unread kept mode first bytes) same u;
      standing = λ fault f. absurd (not_failed state r earlier waiting live fault (is ∙ f));
    }
  where
    not_failed : (state : State) (r : Reader) (earlier waiting : List ℕ) → ((fault : FrameFault) → state ≢ Faulty fault) → (fault : FrameFault) → kept_of state r earlier waiting ≡ Failed fault → ⊥
    not_failed Marked r earlier waiting live fault e = cc
    not_failed Chunked r earlier waiting live fault e = cc
    not_failed (Faulty other) r earlier waiting live fault e = live other refl

-- a fault that was answered
failed_is : (state : State) (r : Reader) (earlier waiting : List ℕ) (old : Kept) (fault : FrameFault) → kept_of state r earlier waiting ≡ old → state ≡ Faulty fault → Failed fault ≡ old
failed_is state r earlier waiting old fault is faulty = sym (ap (λ s. kept_of s r earlier waiting) faulty) ∙ is

failed_unread : (fault : FrameFault) (mode : Mode) (first : ℕ) (bytes : List ℕ) → Unread (Failed fault) mode first bytes → ⊥
unfolding Unread
failed_unread fault mode first bytes u = u

Feeds-failed : (fault : FrameFault) (piece : List ℕ) → Feeds (Failed fault) piece (Ok tt) (Failed fault)
Feeds-failed fault piece = record {
  unread = λ mode first bytes u. absurd (failed_unread fault mode first bytes u);
  standing = λ other f. (refl, f);
}

pub Feeds-faulty : (state : State) (r : Reader) (earlier waiting piece : List ℕ) (old : Kept) (fault : FrameFault) → kept_of state r earlier waiting ≡ old → state ≡ Faulty fault → Feeds old piece (Ok tt) old
Feeds-faulty state r earlier waiting piece old fault is faulty =
    subst (λ kept. Feeds kept piece (Ok tt) kept) (failed_is state r earlier waiting old fault is faulty) (Feeds-failed fault piece)

Answers-failed : (fault : FrameFault) → Answers (Failed fault) (Err fault) (Failed fault)
unfolding HasFailed
Answers-failed fault = record {
  replies = λ mode first bytes u. absurd (failed_unread fault mode first bytes u);
  fault = λ other. refl;
  standing = λ other f. ((let same : fault ≡ other = cc in ap Err same), f);
}

pub Answers-faulty : (state : State) (r : Reader) (earlier waiting : List ℕ) (old : Kept) (fault : FrameFault) → kept_of state r earlier waiting ≡ old → state ≡ Faulty fault → Answers old (Err fault) old
Answers-faulty state r earlier waiting old fault is faulty =
    subst (λ kept. Answers kept (Err fault) kept) (failed_is state r earlier waiting old fault is faulty) (Answers-failed fault)

pub marked_is_open : (state : State) (r : Reader) (earlier waiting : List ℕ) (old : Kept) (fault : FrameFault) → kept_of state r earlier waiting ≡ old → state ≡ Marked → HasFailed old fault → ⊥
unfolding HasFailed
marked_is_open state r earlier waiting old fault is marked f =
    let e : Marking r.place (r.message ++ waiting) ≡ Failed fault = sym (ap (λ s. kept_of s r earlier waiting) marked) ∙ is ∙ f in
    cc

pub chunked_is_open : (state : State) (r : Reader) (earlier waiting : List ℕ) (old : Kept) (fault : FrameFault) → kept_of state r earlier waiting ≡ old → state ≡ Chunked → HasFailed old fault → ⊥
unfolding HasFailed
chunked_is_open state r earlier waiting old fault is chunked f =
    let e : Chunking r.place (reading_of r) (earlier ++ waiting) ≡ Failed fault = sym (ap (λ s. kept_of s r earlier waiting) chunked) ∙ is ∙ f in
    cc

-- the switch
marking_read_again : (place : ℕ) (bytes : List ℕ) (mode : Mode) (first : ℕ) (unread : List ℕ) → Unread (Marking place bytes) mode first unread → Unread (Chunking place start bytes) Chunks first unread
unfolding Unread run
marking_read_again place bytes Marks first unread u = record { taken = []; bytes_are = sym u.1; reads = refl; place_is = u.0 ∙ ap capped (omega arith) }
marking_read_again place bytes Chunks first unread u = absurd u

marked_reading : (state : State) (r : Reader) (message : List ℕ) → IsSound state r → state ≡ Marked → message ≡ [] → start ≡ record { header = r.header; left = r.left; message = message }
marked_reading state r message sound marked none =
    let s : IsSound Marked r = subst (λ x. IsSound x r) marked sound in
    rw (s.1, s.2, none) refl

pub Switches-marked : (state : State) (r : Reader) (earlier waiting message again : List ℕ) (old : Kept) → kept_of state r earlier waiting ≡ old → IsSound state r → state ≡ Marked → message ≡ [] → again ≡ r.message → Switches old (Chunking r.place (record { header = r.header; left = r.left; message = message }) (again ++ waiting))
Switches-marked state r earlier waiting message again old is sound marked none same =
    let from : Marking r.place (r.message ++ waiting) ≡ old = sym (ap (λ s. kept_of s r earlier waiting) marked) ∙ is in
    rw (sym (marked_reading state r message sound marked none), same) (record {
      unread = λ mode first bytes u. marking_read_again r.place (r.message ++ waiting) mode first bytes (subst (λ kept. Unread kept mode first bytes) (sym from) u);
      standing = λ fault f. absurd (marked_is_open state r earlier waiting old fault is marked f);
    })

unmarked_is : (state : State) (r : Reader) (earlier waiting : List ℕ) → state ≢ Marked → (mode : Mode) (first : ℕ) (bytes : List ℕ) → Unread (kept_of state r earlier waiting) mode first bytes → Unread (kept_of state r earlier waiting) Chunks first bytes
unfolding Unread
unmarked_is Marked r earlier waiting other mode first bytes u = absurd (other refl)
unmarked_is Chunked r earlier waiting other Marks first bytes u = absurd u
unmarked_is Chunked r earlier waiting other Chunks first bytes u = u
unmarked_is (Faulty fault) r earlier waiting other mode first bytes u = absurd u

pub Switches-unmarked : (state : State) (r : Reader) (earlier waiting : List ℕ) (old : Kept) → kept_of state r earlier waiting ≡ old → state ≢ Marked → Switches old old
Switches-unmarked state r earlier waiting old is other =
    subst (λ kept. Switches kept kept) is (record {
      unread = λ mode first bytes u. unmarked_is state r earlier waiting other mode first bytes u;
      standing = λ fault f. f;
    })
