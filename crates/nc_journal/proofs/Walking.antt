-- The records of an area, one after another.
use Rattle.std.proofs.Common.{◌≡◌, ◌≢◌, ◌⊎◌, inl, inr, ℕ, ◌+◌, ◌-◌, ◌≤◌, ◌^◌, List, [], ◌∷◌, ◌++◌, length, take, drop, get_or, slice_get, map, All, Option, Some, None, refl, sym, ◌∙◌, ap, subst, arith, length-append, append_assoc}
use Rattle.std.proofs.lemmas.List.{append-nil, get_or_at, map-append}
use Rattle.std.specs.List.{flat_map}
use Rattle.nc_journal.specs.Format.{number, recorded, area, gate_place}
use Rattle.nc_names.specs.Limits.{body_limit}
use Rattle.nc_journal.specs.Files.{At}
use Rattle.nc_journal.proofs.Numbers.{area-push, gate-push}
use Rattle.nc_journal.proofs.Segments.{at_front, at_back, at_join}
use Rattle.nc_journal.specs.Opening.{IsArea, IsSoFar}
use Rattle.nc_journal.specs.inner.Reading.{HasWalked}
use Rattle.nc_journal.proofs.Repairs.{at_get}
use Rattle.std.proofs.lemmas.List.Elements.{All-push as All_push}
use Rattle.nc_journal.proofs.Looking.{record_parts, get_at}

flat_map-split : (done : List (List ℕ)) (body : List ℕ) (rest : List (List ℕ)) → flat_map recorded (done ++ body ∷ rest) ≡ flat_map recorded done ++ (recorded body ++ flat_map recorded rest)
flat_map-split [] body rest = refl
flat_map-split (d ∷ done) body rest =
    ap (λ (l : List ℕ). recorded d ++ l) (flat_map-split done body rest) ∙ sym (append_assoc (recorded d) (flat_map recorded done) (recorded body ++ flat_map recorded rest))

area-split : (header : List ℕ) (done : List (List ℕ)) (body : List ℕ) (rest : List (List ℕ)) → area header (done ++ body ∷ rest) ≡ area header done ++ (recorded body ++ flat_map recorded rest)
area-split header done body rest =
    ap (λ (l : List ℕ). header ++ l) (flat_map-split done body rest) ∙ sym (append_assoc header (flat_map recorded done) (recorded body ++ flat_map recorded rest))

pub walked_start : (header : List ℕ) (place : ℕ) (bodies : List (List ℕ)) (file : List ℕ) (start byte : ℕ) → start ≡ place + length header → slice_get file start ≡ Some byte → HasWalked header place bodies file [] start byte
walked_start header place bodies file start byte is read = record { rest = bodies; whole = refl; there = is ∙ ap (λ (l : List ℕ). place + length l) (sym (append-nil header)); byte_is = read }

-- the next record, where the byte after those that were read opens it
pub record NextRecord (header : List ℕ) (place : ℕ) (bodies : List (List ℕ)) (file : List ℕ) (done : List (List ℕ)) (at : ℕ) : Type 0 where
  pub body : List ℕ
  pub rest : List (List ℕ)
  pub whole : bodies ≡ done ++ body ∷ rest
  pub stands : At at (recorded body) file
  pub small : length body ≤ body_limit

next_of : (header : List ℕ) (place : ℕ) (bodies : List (List ℕ)) (gate : ℕ) (file : List ℕ) (done : List (List ℕ)) (at : ℕ) (body : List ℕ) (rest : List (List ℕ))
    → IsArea header place bodies gate file → bodies ≡ done ++ body ∷ rest → at ≡ gate_place header done place → NextRecord header place bodies file done at
next_of header place bodies gate file done at body rest is whole there =
    let split : At place (area header done ++ (recorded body ++ flat_map recorded rest)) file =
    subst (λ (l : List ℕ). At place l file) (ap (area header) whole ∙ area-split header done body rest) is.area in
    let next : At at (recorded body ++ flat_map recorded rest) file =
    subst (λ k. At k (recorded body ++ flat_map recorded rest) file) (sym there) (at_back place (area header done) (recorded body ++ flat_map recorded rest) file split) in
    let all : All (λ b. length b ≤ body_limit) (done ++ body ∷ rest) = subst (All (λ b. length b ≤ body_limit)) whole is.small in
    record {
      body = body;
      rest = rest;
      whole = whole;
      stands = at_front at (recorded body) (flat_map recorded rest) file next;
      small = subst (λ (b : List ℕ). length b ≤ body_limit) (get_or_at done body rest body (length done) refl) (all (length done) body (omega (arith, length-append done (body ∷ rest))));
    }

ends_at : (header : List ℕ) (place : ℕ) (bodies : List (List ℕ)) (gate : ℕ) (file : List ℕ) (done : List (List ℕ)) (at byte : ℕ) → IsArea header place bodies gate file → bodies ≡ done ++ []
    → at ≡ gate_place header done place → slice_get file at ≡ Some byte → (done ≡ bodies) × (at ≡ gate_place header bodies place) × (byte ≡ gate)
ends_at header place bodies gate file done at byte is whole there read =
    let same : done ≡ bodies = sym (append-nil done) ∙ sym whole in
    let at_is : at ≡ gate_place header bodies place = there ∙ ap (λ (b : List (List ℕ)). gate_place header b place) same in
    let e : Some byte ≡ Some gate = sym read ∙ ap (slice_get file) at_is ∙ at_get (gate_place header bodies place) gate file is.end in
    (same, at_is, cc)

pub walked_next : (header : List ℕ) (place : ℕ) (bodies : List (List ℕ)) (gate : ℕ) (file : List ℕ) (done : List (List ℕ)) (at byte : ℕ) → IsArea header place bodies gate file
    → HasWalked header place bodies file done at byte → byte ≡ 1 → NextRecord header place bodies file done at
walked_next header place bodies gate file done at byte is walked one =
    elim walked.rest as (λ (r : List (List ℕ)). bodies ≡ done ++ r → NextRecord header place bodies file done at) [
      | [] ↦ λ whole. absurd (is.not_open (sym (ends_at header place bodies gate file done at byte is whole walked.there walked.byte_is).2 ∙ one))
      | body ∷ rest ↦ λ whole. next_of header place bodies gate file done at body rest is whole walked.there
    ] walked.whole

pub walked_end : (header : List ℕ) (place : ℕ) (bodies : List (List ℕ)) (gate : ℕ) (file : List ℕ) (done : List (List ℕ)) (at byte : ℕ) → IsArea header place bodies gate file
    → HasWalked header place bodies file done at byte → byte ≢ 1 → (done ≡ bodies) × (at ≡ gate_place header bodies place) × (byte ≡ gate)
walked_end header place bodies gate file done at byte is walked not_one =
    elim walked.rest as (λ (r : List (List ℕ)). bodies ≡ done ++ r → (done ≡ bodies) × (at ≡ gate_place header bodies place) × (byte ≡ gate)) [
      | [] ↦ λ whole. ends_at header place bodies gate file done at byte is whole walked.there walked.byte_is
      | body ∷ rest ↦ λ whole.
          let next = next_of header place bodies gate file done at body rest is whole walked.there in
          let e : Some byte ≡ Some 1 = sym walked.byte_is ∙ (record_parts at next.body file next.stands).gate in
          let one : byte ≡ 1 = cc in
          absurd (not_one one)
    ] walked.whole

pub walked_more : (header : List ℕ) (place : ℕ) (bodies : List (List ℕ)) (file : List ℕ) (done : List (List ℕ)) (at later byte : ℕ) (read : List ℕ) → at ≡ gate_place header done place
    → (next : NextRecord header place bodies file done at) → read ≡ next.body → later ≡ at + 9 + length read → slice_get file later ≡ Some byte
    → HasWalked header place bodies file (done ++ read ∷ []) later byte
walked_more header place bodies file done at later byte read there next same is byte_is = record {
  rest = next.rest;
  whole = next.whole ∙ sym (append_assoc done (next.body ∷ []) next.rest) ∙ ap (λ (b : List ℕ). (done ++ b ∷ []) ++ next.rest) (sym same);
  there = omega (arith, gate-push header done read place);
  byte_is = byte_is;
}

pub so_far_start : (header : List ℕ) (place start : ℕ) (file : List ℕ) → start ≡ place + length header → At place header file → IsSoFar header place [] file start
so_far_start header place start file is stands = record {
  area = subst (λ (l : List ℕ). At place l file) (sym (append-nil header)) stands;
  there = is ∙ ap (λ (l : List ℕ). place + length l) (sym (append-nil header));
  small = λ k d within. absurd (omega arith);
}

pub so_far_more : (header : List ℕ) (place : ℕ) (done : List (List ℕ)) (file : List ℕ) (at later : ℕ) (body : List ℕ) → IsSoFar header place done file at → At at (recorded body) file → length body ≤ body_limit
    → later ≡ at + (9 + length body) → IsSoFar header place (done ++ body ∷ []) file later
so_far_more header place done file at later body so_far stands small is = record {
  area = subst (λ (l : List ℕ). At place l file) (sym (area-push header done body))
      (at_join place (area header done) (recorded body) file so_far.area (subst (λ k. At k (recorded body) file) so_far.there stands));
  there = omega (arith, is, so_far.there, gate-push header done body place);
  small = All_push (λ b. length b ≤ body_limit) done body so_far.small small;
}

pub so_far_end : (header : List ℕ) (place : ℕ) (done : List (List ℕ)) (file : List ℕ) (at byte : ℕ) → IsSoFar header place done file at → slice_get file at ≡ Some byte → byte ≢ 1 → IsArea header place done byte file
so_far_end header place done file at byte so_far read shut = record {
  area = so_far.area;
  end = get_at (gate_place header done place) byte file (ap (slice_get file) (sym so_far.there) ∙ read);
  not_open = shut;
  small = so_far.small;
}
