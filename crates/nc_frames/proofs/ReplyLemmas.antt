-- What is answered, out of what a reader has done.
use Rattle.std.proofs.Common.{◌≡◌, ℕ, ◌+◌, List, [], ◌∷◌, ◌++◌, length, Some, refl, ap, sym, ◌∙◌, subst, arith}
use Rattle.std.proofs.lemmas.List.{append_assoc, append-nil, length-append}
use Rattle.nc_frames.specs.declared.chunks.Reader.{Reader}
use Rattle.nc_frames.specs.declared.header.Stop.TheVariants.{Bad, TooBig}
use Rattle.nc_frames.specs.Framing.{Chunks, AnnouncesTooMuch, IsUnfinished, IsBad}
use Rattle.nc_frames.specs.inner.Steps.{run, start}
use Rattle.nc_frames.specs.Framing.{capped}
use Rattle.nc_frames.specs.Replies.{Gives, Unread}
use Rattle.nc_frames.specs.inner.Kept.{Chunking, IsReadTo, reading_of}
use Rattle.nc_frames.specs.inner.Turns.{Advances, EndsMessage, StopsBefore}
use Rattle.nc_frames.proofs.StepLemmas.{run-append-some}
use Rattle.nc_frames.proofs.ChunkLemmas.{good, whole, big}
use Rattle.nc_frames.proofs.StreamLemmas.{unfinished, bad}

-- what was read before, and what is read now
pub IsReadTo-advances : (a b : Reader) (xs ys : List ℕ) (first : ℕ) (bytes : List ℕ) → Advances a xs b ys → IsReadTo a.place (reading_of a) xs first bytes → IsReadTo b.place (reading_of b) ys first bytes
IsReadTo-advances a b xs ys first bytes p r = record {
  taken = r.taken ++ p.taken;
  bytes_are = r.bytes_are ∙ ap (λ l. r.taken ++ l) p.bytes_are ∙ sym (append_assoc r.taken p.taken ys);
  reads = run-append-some r.taken p.taken start (reading_of a) r.reads ∙ p.reads;
  place_is = p.further (first + length r.taken) r.place_is ∙ ap capped (omega (arith, length-append r.taken p.taken));
}

pub IsReadTo-all : (b : Reader) (ys : List ℕ) (first : ℕ) (bytes : List ℕ) → ys ≡ [] → IsReadTo b.place (reading_of b) ys first bytes → IsUnfinished Chunks bytes
IsReadTo-all b ys first bytes none r =
    let all : bytes ≡ r.taken = r.bytes_are ∙ ap (λ l. r.taken ++ l) none ∙ append-nil r.taken in
    unfinished bytes (reading_of b) (ap (λ l. run l start) all ∙ r.reads)

pub Gives-ended : (a b : Reader) (xs ys : List ℕ) (first : ℕ) (bytes message : List ℕ) → EndsMessage a xs b ys → IsReadTo a.place (reading_of a) xs first bytes → message ≡ b.message → Gives (Chunking b.place (record { header = b.header; left = b.left; message = [] }) ys) Chunks first bytes message
unfolding run Unread
Gives-ended a b xs ys first bytes message p r same =
    let taken : List ℕ = r.taken ++ p.taken in
    let reads : run taken start ≡ Some p.at = run-append-some r.taken p.taken start (reading_of a) r.reads ∙ p.reads in
    let is : message ≡ p.at.message = same ∙ p.message in
    record {
      framed = taken ++ p.byte ∷ [];
      rest = ys;
      bytes_are = r.bytes_are ∙ ap (λ l. r.taken ++ l) p.bytes_are ∙ sym (append_assoc r.taken p.taken (p.byte ∷ ys)) ∙ sym (append_assoc taken (p.byte ∷ []) ys);
      is_message = record {
        is_framed = rw is (whole taken p.at p.byte reads p.stops);
        small = omega (arith, ap length is, (good taken p.at reads).small);
      };
      unread = record {
        taken = [];
        bytes_are = refl;
        reads = rw (p.header, p.none) refl;
        place_is = p.further (first + length r.taken) r.place_is ∙ ap capped (omega (arith, length-append r.taken p.taken, length-append taken (p.byte ∷ [])));
      };
    }

stopped : (bytes taken ys rest : List ℕ) (byte : ℕ) → bytes ≡ taken ++ ys → ys ≡ byte ∷ rest → bytes ≡ taken ++ byte ∷ rest
stopped bytes taken ys rest byte e f = e ∙ ap (λ l. taken ++ l) f

pub IsBad-stopped : (a b : Reader) (xs ys : List ℕ) (first : ℕ) (bytes : List ℕ) → StopsBefore a xs b ys Bad → IsReadTo a.place (reading_of a) xs first bytes → (place : ℕ) × IsBad bytes place × (b.place ≡ capped (first + place))
IsBad-stopped a b xs ys first bytes p r =
    let now = IsReadTo-advances a b xs ys first bytes p.advances r in
    let e = stopped bytes now.taken ys p.rest p.byte now.bytes_are p.left_is in
    (length now.taken, subst (λ l. IsBad l (length now.taken)) (sym e) (bad now.taken (reading_of b) p.byte p.rest now.reads p.stops), now.place_is)

pub AnnouncesTooMuch-stopped : (a b : Reader) (xs ys : List ℕ) (first : ℕ) (bytes : List ℕ) → StopsBefore a xs b ys TooBig → IsReadTo a.place (reading_of a) xs first bytes → (place : ℕ) × AnnouncesTooMuch bytes place × (b.place ≡ capped (first + place))
AnnouncesTooMuch-stopped a b xs ys first bytes p r =
    let now = IsReadTo-advances a b xs ys first bytes p.advances r in
    let e = stopped bytes now.taken ys p.rest p.byte now.bytes_are p.left_is in
    (length now.taken, subst (λ l. AnnouncesTooMuch l (length now.taken)) (sym e) (big now.taken (reading_of b) p.byte p.rest now.reads p.stops), now.place_is)
