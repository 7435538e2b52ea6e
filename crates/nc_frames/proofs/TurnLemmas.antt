-- Readings one after the other.
use Rattle.std.proofs.Common.{◌≡◌, ℕ, ◌+◌, ◌≤◌, min, ◌^◌, ◌-◌, List, [], ◌∷◌, ◌++◌, length, take, drop, Option, Some, None, refl, ap, sym, ◌∙◌, subst, arith}
use Rattle.std.proofs.lemmas.List.{append_assoc, length-append, length-take-le, take-append-drop}
use Rattle.nc_frames.specs.declared.chunks.Reader.{Reader}
use Rattle.nc_frames.specs.declared.header.Header.TheVariants.{Start}
use Rattle.nc_frames.specs.declared.header.Step.{Step}
use Rattle.nc_frames.specs.declared.header.Step.TheVariants.{Stop as Stops}
use Rattle.nc_frames.specs.declared.header.Stop.{Stop}
use Rattle.nc_frames.specs.declared.header.Stop.TheVariants.{End, Bad, TooBig}
use Rattle.nc_frames.specs.inner.Steps.{run, stepped, header_step}
use Rattle.nc_frames.specs.Framing.{capped}
use Rattle.nc_frames.specs.inner.Kept.{reading_of}
use Rattle.nc_frames.specs.inner.Turns.{Advances, StopsBefore, EndsMessage, Turned, IsFurther}
use Rattle.nc_frames.proofs.StepLemmas.{run-append-some, run-header, run-octets}

pub Advances-none : (a : Reader) (bytes : List ℕ) → Advances a bytes a bytes
unfolding run
Advances-none a bytes = record { taken = []; bytes_are = refl; reads = refl; further = λ place e. e ∙ ap capped (omega arith) }

pub Advances-then : {a b c : Reader} {xs ys zs : List ℕ} → Advances a xs b ys → Advances b ys c zs → Advances a xs c zs
Advances-then {a} {b} {c} {xs} {ys} {zs} p q = record {
  taken = p.taken ++ q.taken;
  bytes_are = p.bytes_are ∙ ap (λ l. p.taken ++ l) q.bytes_are ∙ sym (append_assoc p.taken q.taken zs);
  reads = run-append-some p.taken q.taken (reading_of a) (reading_of b) p.reads ∙ q.reads;
  further = λ place e.
      let there : c.place ≡ capped (place + length p.taken + length q.taken) = q.further (place + length p.taken) (p.further place e) in
      there ∙ ap capped (omega (arith, length-append p.taken q.taken));
}

pub EndsMessage-then : {a b c : Reader} {xs ys zs : List ℕ} → Advances a xs b ys → EndsMessage b ys c zs → EndsMessage a xs c zs
EndsMessage-then {a} {b} {c} {xs} {ys} {zs} p q = record {
  taken = p.taken ++ q.taken;
  byte = q.byte;
  at = q.at;
  bytes_are = p.bytes_are ∙ ap (λ l. p.taken ++ l) q.bytes_are ∙ sym (append_assoc p.taken q.taken (q.byte ∷ zs));
  reads = run-append-some p.taken q.taken (reading_of a) (reading_of b) p.reads ∙ q.reads;
  stops = q.stops;
  message = q.message;
  header = q.header;
  none = q.none;
  further = λ place e.
      let there : c.place ≡ capped (place + length p.taken + (length q.taken + 1)) = q.further (place + length p.taken) (p.further place e) in
      there ∙ ap capped (omega (arith, length-append p.taken q.taken));
}

pub StopsBefore-then : {a b c : Reader} {xs ys zs : List ℕ} {why : Stop} → Advances a xs b ys → StopsBefore b ys c zs why → StopsBefore a xs c zs why
StopsBefore-then p q = record { advances = Advances-then p q.advances; byte = q.byte; rest = q.rest; left_is = q.left_is; stops = q.stops }

pub Turned-then : (stop : Option Stop) {a b : Reader} (c : Reader) {xs ys : List ℕ} (zs : List ℕ) → Advances a xs b ys → Turned stop b ys c zs → Turned stop a xs c zs
Turned-then None c zs p q = Advances-then p q
Turned-then (Some End) c zs p q = EndsMessage-then p q
Turned-then (Some Bad) c zs p q = StopsBefore-then p q
Turned-then (Some TooBig) c zs p q = StopsBefore-then p q

min_further : (q n most : ℕ) → min (min q most + n) most ≡ min (q + n) most
min_further q n most = omega arith

-- a place that was moved
pub IsFurther-moved : (old new n : ℕ) → new ≡ min (old + n) (2 ^ 64 - 1) → IsFurther old new n
IsFurther-moved old new n e place was = e ∙ ap (λ q. min (q + n) (2 ^ 64 - 1)) was ∙ min_further place n (2 ^ 64 - 1)

-- a byte of a header
pub Advances-one : (a b : Reader) (byte : ℕ) (rest xs : List ℕ) (to : Step) → xs ≡ byte ∷ rest → a.left ≡ 0 → header_step a.header (length a.message) byte ≡ to → stepped to a.message ≡ Some (record { header = b.header; left = b.left; message = a.message }) → b.message ≡ a.message → b.place ≡ min (a.place + 1) (2 ^ 64 - 1) → Advances a xs b (drop 1 xs)
Advances-one a b byte rest xs to e none leads steps same moved = record {
  taken = byte ∷ [];
  bytes_are = rw e refl;
  reads = rw none (run-header byte a.header a.message ∙ ap (λ st. stepped st a.message) leads ∙ steps ∙ ap (λ m. Some (record { header = b.header; left = b.left; message = m })) (sym same));
  further = IsFurther-moved a.place b.place 1 moved;
}

-- the byte that ends a message
pub EndsMessage-one : (a b : Reader) (byte : ℕ) (rest xs : List ℕ) → xs ≡ byte ∷ rest → a.left ≡ 0 → header_step a.header (length a.message) byte ≡ Stops End → b.message ≡ a.message → b.header ≡ Start → b.left ≡ 0 → b.place ≡ min (a.place + 1) (2 ^ 64 - 1) → EndsMessage a xs b (drop 1 xs)
unfolding run
EndsMessage-one a b byte rest xs e none stops message header left moved = record {
  taken = [];
  byte = byte;
  at = reading_of a;
  bytes_are = rw e refl;
  reads = refl;
  stops = record { left = none; stops = stops };
  message = message;
  header = header;
  none = left;
  further = IsFurther-moved a.place b.place 1 moved;
}

-- a byte that leads nowhere
pub StopsBefore-one : (a : Reader) (byte : ℕ) (rest xs : List ℕ) (why : Stop) → xs ≡ byte ∷ rest → a.left ≡ 0 → header_step a.header (length a.message) byte ≡ Stops why → StopsBefore a xs a xs why
StopsBefore-one a byte rest xs why e none stops = record {
  advances = Advances-none a xs;
  byte = byte;
  rest = rest;
  left_is = e;
  stops = record { left = none; stops = stops };
}

-- octets of a chunk
pub Advances-octets : (a b : Reader) (n : ℕ) (xs : List ℕ) → n ≤ length xs → n ≤ a.left → b.header ≡ a.header → b.left ≡ a.left - n → b.message ≡ a.message ++ take n xs → b.place ≡ min (a.place + n) (2 ^ 64 - 1) → Advances a xs b (drop n xs)
Advances-octets a b n xs within some header left message moved =
    let len : length (take n xs) ≡ n = length-take-le n xs within in
    record {
      taken = take n xs;
      bytes_are = sym (take-append-drop n xs);
      reads = run-octets (take n xs) a.header a.left b.left a.message (omega arith) ∙ cc;
      further = subst (IsFurther a.place b.place) (sym len) (IsFurther-moved a.place b.place n moved);
    }

-- bytes after those that are read
pub Advances-more : {a b : Reader} {xs ys : List ℕ} (zs : List ℕ) → Advances a xs b ys → Advances a (xs ++ zs) b (ys ++ zs)
Advances-more {a} {b} {xs} {ys} zs p = record {
  taken = p.taken;
  bytes_are = ap (λ l. l ++ zs) p.bytes_are ∙ append_assoc p.taken ys zs;
  reads = p.reads;
  further = p.further;
}

EndsMessage-more : {a b : Reader} {xs ys : List ℕ} (zs : List ℕ) → EndsMessage a xs b ys → EndsMessage a (xs ++ zs) b (ys ++ zs)
EndsMessage-more {a} {b} {xs} {ys} zs p = record {
  taken = p.taken;
  byte = p.byte;
  at = p.at;
  bytes_are = ap (λ l. l ++ zs) p.bytes_are ∙ append_assoc p.taken (p.byte ∷ ys) zs;
  reads = p.reads;
  stops = p.stops;
  message = p.message;
  header = p.header;
  none = p.none;
  further = p.further;
}

StopsBefore-more : {a b : Reader} {xs ys : List ℕ} {why : Stop} (zs : List ℕ) → StopsBefore a xs b ys why → StopsBefore a (xs ++ zs) b (ys ++ zs) why
StopsBefore-more zs p = record { advances = Advances-more zs p.advances; byte = p.byte; rest = p.rest ++ zs; left_is = ap (λ l. l ++ zs) p.left_is; stops = p.stops }

pub Turned-more : (stop : Option Stop) (a b : Reader) (xs ys zs : List ℕ) → Turned stop a xs b ys → Turned stop a (xs ++ zs) b (ys ++ zs)
Turned-more None a b xs ys zs p = Advances-more zs p
Turned-more (Some End) a b xs ys zs p = EndsMessage-more zs p
Turned-more (Some Bad) a b xs ys zs p = StopsBefore-more zs p
Turned-more (Some TooBig) a b xs ys zs p = StopsBefore-more zs p

-- one source to its end, and then another
pub Turned-both : (stop : Option Stop) (a b c : Reader) (xs left ys zs : List ℕ) → Advances a xs b left → left ≡ [] → Turned stop b ys c zs → Turned stop a (xs ++ ys) c (left ++ zs)
Turned-both stop a b c xs left ys zs p none q =
    let first : Advances a (xs ++ ys) b ys = subst (λ l. Advances a (xs ++ ys) b (l ++ ys)) none (Advances-more ys p) in
    subst (λ l. Turned stop a (xs ++ ys) c (l ++ zs)) (sym none) (Turned-then stop c zs first q)
