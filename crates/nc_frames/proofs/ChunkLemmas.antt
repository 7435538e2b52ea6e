-- What is read byte by byte is in chunks.
use Rattle.std.proofs.Common.{◌≡◌, ◌≢◌, ◌⊎◌, inl, inr, ℕ, zero, suc, ◌+◌, ◌-◌, ◌*◌, ◌/◌, ◌%◌, ◌<◌, ◌≤◌, Bool, true, false, cond, nat_lt, nat_le, ◌==◌, List, [], ◌∷◌, ◌++◌, length, Option, Some, None, refl, ap, sym, ◌∙◌, subst, arith}
use Rattle.std.specs.Prelude.{if◌then◌else◌, ◌&&◌}
use Rattle.std.specs.Option.{option_and_then}
use Rattle.std.specs.List.{flat_map, concat, AllByRecursion}
use Rattle.std.specs.Fmt.{decimal}
use Rattle.std.proofs.lemmas.List.{append_assoc, append-nil, length_push, nil_from_length}
use Rattle.std.proofs.lemmas.Fmt.{decimal_digit, decimal_step}
use Rattle.std.proofs.lemmas.Bool.Decides.{nat_tests}
use Rattle.nc_names.specs.Limits.{message_limit}
use Rattle.nc_frames.specs.declared.header.Header.{Header}
use Rattle.nc_frames.specs.declared.header.Header.TheVariants.{Start, Line, Hash, Size, Close}
use Rattle.nc_frames.specs.declared.header.Step.{Step}
use Rattle.nc_frames.specs.declared.header.Step.TheVariants.{On, Octets, Stop as Stops}
use Rattle.nc_frames.specs.declared.header.Stop.TheVariants.{End, Bad, TooBig}
use Rattle.nc_frames.specs.Framing.{chunk, IsSize, IsChunk, IsInChunks, AnnouncesTooMuch, largest_size}
use Rattle.nc_frames.specs.inner.Steps.{Reading, run, step, step_at, stepped, start, header_step, StopsAt}

pub cond_is : {A : Type 0} (t : Bool) (x y z : A) → cond t x y ≡ z → ((t ≡ true) × (x ≡ z)) ⊎ ((t ≡ false) × (y ≡ z))
cond_is true x y z e = inl (refl, e)
cond_is false x y z e = inr (refl, e)

-- parts of hash_step and size_step
abbrev digit_step : ℕ → Step
digit_step b = if nat_lt 48 b && nat_le b 57 then On (Size (b - 48)) else Stops Bad

abbrev ended_step : ℕ → ℕ → Step
ended_step size n = if nat_lt (message_limit - n) size then Stops TooBig else Octets size

abbrev longer_step : ℕ → ℕ → Step
longer_step size b = if nat_lt largest_size (size * 10 + (b - 48)) then Stops Bad else On (Size (size * 10 + (b - 48)))

abbrev next_step : ℕ → ℕ → Step
next_step size b = if nat_le 48 b && nat_le b 57 then longer_step size b else Stops Bad

-- the bytes of a header that have come
abbrev pub text_of : Header → List ℕ
text_of Start = []
text_of Line = 10 ∷ []
text_of Hash = 10 ∷ 35 ∷ []
text_of (Size size) = 10 ∷ 35 ∷ decimal size
text_of Close = 10 ∷ 35 ∷ 35 ∷ []

-- a size fits, and the end of the chunks stands after a chunk
abbrev pub IsGoodHeader : Header → ℕ → Type 0
IsGoodHeader Start octets = Unit {0}
IsGoodHeader Line octets = Unit {0}
IsGoodHeader Hash octets = Unit {0}
IsGoodHeader (Size size) octets = IsSize size
IsGoodHeader Close octets = 0 < octets

pub record IsGood (s : Reading) : Type 0 where
  pub header : IsGoodHeader s.header (length s.message)
  pub octets : 0 < s.left → s.header ≡ Start
  pub small : length s.message + s.left ≤ message_limit

-- one byte further into a header
abbrev LeadsOn : Header → ℕ → ℕ → Header → Type 0
LeadsOn h n b to = (text_of to ≡ text_of h ++ b ∷ []) × IsGoodHeader to n

start_on : (n b : ℕ) (to : Header) → header_step Start n b ≡ On to → LeadsOn Start n b to
start_on n b to e = elim (cond_is (b == 10) (On Line) (Stops Bad) (On to) e) [
  | inl p ↦ (let is : b ≡ 10 = grind (arith, nat_tests) in
      let same : Line ≡ to = cc in
      subst (LeadsOn Start n b) same (ap (λ x. x ∷ []) (sym is), tt))
  | inr p ↦ absurd (let no : Stops Bad ≡ On to = p.1 in cc)
]

line_on : (n b : ℕ) (to : Header) → header_step Line n b ≡ On to → LeadsOn Line n b to
line_on n b to e = elim (cond_is (b == 35) (On Hash) (Stops Bad) (On to) e) [
  | inl p ↦ (let is : b ≡ 35 = grind (arith, nat_tests) in
      let same : Hash ≡ to = cc in
      subst (LeadsOn Line n b) same (ap (λ x. 10 ∷ x ∷ []) (sym is), tt))
  | inr p ↦ absurd (let no : Stops Bad ≡ On to = p.1 in cc)
]

hash_on : (n b : ℕ) (to : Header) → header_step Hash n b ≡ On to → LeadsOn Hash n b to
hash_on n b to e = elim (cond_is (b == 35 && nat_lt 0 n) (On Close) (digit_step b) (On to) e) [
  | inl p ↦ (let is : b ≡ 35 = grind (arith, nat_tests) in
      let some : 0 < n = grind (arith, nat_tests) in
      let same : Close ≡ to = cc in
      subst (LeadsOn Hash n b) same (ap (λ x. 10 ∷ 35 ∷ x ∷ []) (sym is), some))
  | inr p ↦ elim (cond_is (nat_lt 48 b && nat_le b 57) (On (Size (b - 48))) (Stops Bad) (On to) p.1) [
    | inl q ↦ (let low : 48 < b = grind (arith, nat_tests) in
        let high : b ≤ 57 = grind (arith, nat_tests) in
        let same : Size (b - 48) ≡ to = cc in
        let digit : decimal (b - 48) ≡ b ∷ [] = decimal_digit (b - 48) (omega arith) ∙ ap (λ x. x ∷ []) (omega arith) in
        subst (LeadsOn Hash n b) same (ap (λ l. 10 ∷ 35 ∷ l) digit, (omega arith, omega arith)))
    | inr q ↦ absurd (let no : Stops Bad ≡ On to = q.1 in cc)
  ]
]

-- a digit more
decimal_more : (size d : ℕ) → 0 < size → d < 10 → size * 10 + d ≤ largest_size → decimal (size * 10 + d) ≡ decimal size ++ (48 + d) ∷ []
decimal_more size d some below fits =
    let quotient : (size * 10 + d) / 10 ≡ size = omega arith in
    let rest : (size * 10 + d) % 10 ≡ d = omega arith in
    decimal_step (size * 10 + d) (omega arith) (omega arith) ∙ ap (λ q. decimal q ++ (48 + (size * 10 + d) % 10) ∷ []) quotient ∙ ap (λ r. decimal size ++ (48 + r) ∷ []) rest

size_on : (size n b : ℕ) (to : Header) → IsSize size → header_step (Size size) n b ≡ On to → LeadsOn (Size size) n b to
size_on size n b to good e = elim (cond_is (b == 10) (ended_step size n) (next_step size b) (On to) e) [
  | inl p ↦ elim (cond_is (nat_lt (message_limit - n) size) (Stops TooBig) (Octets size) (On to) p.1) [
    | inl q ↦ absurd (let no : Stops TooBig ≡ On to = q.1 in cc)
    | inr q ↦ absurd (let no : Octets size ≡ On to = q.1 in cc)
  ]
  | inr p ↦ elim (cond_is (nat_le 48 b && nat_le b 57) (longer_step size b) (Stops Bad) (On to) p.1) [
    | inl q ↦ elim (cond_is (nat_lt largest_size (size * 10 + (b - 48))) (Stops Bad) (On (Size (size * 10 + (b - 48)))) (On to) q.1) [
      | inl r ↦ absurd (let no : Stops Bad ≡ On to = r.1 in cc)
      | inr r ↦ (let low : 48 ≤ b = grind (arith, nat_tests) in
          let high : b ≤ 57 = grind (arith, nat_tests) in
          let fits : size * 10 + (b - 48) ≤ largest_size = grind (arith, nat_tests) in
          let same : Size (size * 10 + (b - 48)) ≡ to = cc in
          let digits : decimal (size * 10 + (b - 48)) ≡ decimal size ++ b ∷ [] = decimal_more size (b - 48) good.0 (omega arith) fits ∙ ap (λ x. decimal size ++ x ∷ []) (omega arith) in
          subst (LeadsOn (Size size) n b) same (ap (λ l. 10 ∷ 35 ∷ l) digits, (omega (arith, good.0), fits)))
    ]
    | inr q ↦ absurd (let no : Stops Bad ≡ On to = q.1 in cc)
  ]
]

close_on : (n b : ℕ) (to : Header) → header_step Close n b ≡ On to → LeadsOn Close n b to
close_on n b to e = elim (cond_is (b == 10) (Stops End) (Stops Bad) (On to) e) [
  | inl p ↦ absurd (let no : Stops End ≡ On to = p.1 in cc)
  | inr p ↦ absurd (let no : Stops Bad ≡ On to = p.1 in cc)
]

pub header_on : (h : Header) (n b : ℕ) (to : Header) → IsGoodHeader h n → header_step h n b ≡ On to → LeadsOn h n b to
header_on Start n b to good e = start_on n b to e
header_on Line n b to good e = line_on n b to e
header_on Hash n b to good e = hash_on n b to e
header_on (Size size) n b to good e = size_on size n b to good e
header_on Close n b to good e = close_on n b to e

-- the LF that ends a size
pub record EndsSize (h : Header) (n b size : ℕ) : Type 0 where
  pub header : h ≡ Size size
  pub byte : b ≡ 10
  pub fits : n + size ≤ message_limit

not_on : (t : Bool) (x y : Header) (size : ℕ) → cond t (On x) (Stops Bad) ≡ Octets size → ⊥
not_on true x y size e = cc
not_on false x y size e = cc

header_octets : (h : Header) (n b size : ℕ) → n ≤ message_limit → header_step h n b ≡ Octets size → EndsSize h n b size
header_octets Start n b size small e = absurd (not_on (b == 10) Line Line size e)
header_octets Line n b size small e = absurd (not_on (b == 35) Hash Hash size e)
header_octets Hash n b size small e = elim (cond_is (b == 35 && nat_lt 0 n) (On Close) (digit_step b) (Octets size) e) [
  | inl p ↦ absurd (let no : On Close ≡ Octets size = p.1 in cc)
  | inr p ↦ absurd (not_on (nat_lt 48 b && nat_le b 57) (Size (b - 48)) Line size p.1)
]
header_octets (Size k) n b size small e = elim (cond_is (b == 10) (ended_step k n) (next_step k b) (Octets size) e) [
  | inl p ↦ elim (cond_is (nat_lt (message_limit - n) k) (Stops TooBig) (Octets k) (Octets size) p.1) [
    | inl q ↦ absurd (let no : Stops TooBig ≡ Octets size = q.1 in cc)
    | inr q ↦ (let same : k ≡ size = cc in
        let within : k ≤ message_limit - n = grind (arith, nat_tests) in
        record { header = ap Size same; byte = grind (arith, nat_tests); fits = omega arith })
  ]
  | inr p ↦ elim (cond_is (nat_le 48 b && nat_le b 57) (longer_step k b) (Stops Bad) (Octets size) p.1) [
    | inl q ↦ elim (cond_is (nat_lt largest_size (k * 10 + (b - 48))) (Stops Bad) (On (Size (k * 10 + (b - 48)))) (Octets size) q.1) [
      | inl r ↦ absurd (let no : Stops Bad ≡ Octets size = r.1 in cc)
      | inr r ↦ absurd (let no : On (Size (k * 10 + (b - 48))) ≡ Octets size = r.1 in cc)
    ]
    | inr q ↦ absurd (let no : Stops Bad ≡ Octets size = q.1 in cc)
  ]
]
header_octets Close n b size small e = elim (cond_is (b == 10) (Stops End) (Stops Bad) (Octets size) e) [
  | inl p ↦ absurd (let no : Stops End ≡ Octets size = p.1 in cc)
  | inr p ↦ absurd (let no : Stops Bad ≡ Octets size = p.1 in cc)
]

-- With the octets that are still to come, `more`, the text after s is these chunks and what there is
-- of a header at t. First come the octets that are still to come at s.
pub record Comes (s : Reading) (bytes : List ℕ) (t : Reading) (more : List ℕ) : Type 0 where
  pub octets : List ℕ
  pub chunks : List (List ℕ)
  pub each : AllByRecursion IsChunk chunks
  pub left : length octets ≡ s.left
  pub text : text_of s.header ++ (bytes ++ more) ≡ octets ++ (flat_map chunk chunks ++ text_of t.header)
  pub message : s.message ++ (octets ++ concat chunks) ≡ t.message ++ more

-- what a step leads to
pub record Leads (s : Reading) (b : ℕ) (u : Reading) : Type 0 where
  pub good : IsGood u
  pub back : (bytes : List ℕ) (t : Reading) (more : List ℕ) → Comes u bytes t more → Comes s (b ∷ bytes) t more

leads_octet : (h : Header) (left : ℕ) (m : List ℕ) (b : ℕ) → IsGood (record { header = h; left = suc left; message = m }) → Leads (record { header = h; left = suc left; message = m }) b (record { header = h; left = left; message = m ++ b ∷ [] })
leads_octet h left m b good =
    let start_is : h ≡ Start = good.octets (omega arith) in
    let none : text_of h ≡ [] = ap text_of start_is in
    record {
      good = record {
        header = subst (λ x. IsGoodHeader x (length (m ++ b ∷ []))) (sym start_is) tt;
        octets = λ _. start_is;
        small = omega (arith, length_push m b, good.small);
      };
      back = λ bytes t more w. record {
        octets = b ∷ w.octets;
        chunks = w.chunks;
        each = w.each;
        left = omega (arith, w.left);
        text = rw none (ap (λ l. b ∷ l) (rw none at w.text));
        message = sym (append_assoc m (b ∷ []) (w.octets ++ concat w.chunks)) ∙ w.message;
      };
    }

leads_on : (h to : Header) (m : List ℕ) (b : ℕ) → IsGood (record { header = h; left = 0; message = m }) → header_step h (length m) b ≡ On to → Leads (record { header = h; left = 0; message = m }) b (record { header = to; left = 0; message = m })
leads_on h to m b good e =
    let p = header_on h (length m) b to good.header e in
    record {
      good = record { header = p.1; octets = λ some. absurd (omega (arith, some)); small = good.small };
      back = λ bytes t more w. record {
        octets = w.octets;
        chunks = w.chunks;
        each = w.each;
        left = w.left;
        text = sym (append_assoc (text_of h) (b ∷ []) (bytes ++ more)) ∙ ap (λ l. l ++ (bytes ++ more)) (sym p.0) ∙ w.text;
        message = w.message;
      };
    }

-- a chunk of so many octets
leads_size : (size : ℕ) (m : List ℕ) (b : ℕ) → IsGood (record { header = Size size; left = 0; message = m }) → b ≡ 10 → length m + size ≤ message_limit → Leads (record { header = Size size; left = 0; message = m }) b (record { header = Start; left = size; message = m })
leads_size size m b good lf fits = record {
  good = record { header = tt; octets = λ _. refl; small = fits };
  back = λ bytes t more w.
      let of_chunk : chunk w.octets ≡ (10 ∷ 35 ∷ decimal size) ++ 10 ∷ w.octets = ap (λ n. (10 ∷ 35 ∷ decimal n) ++ 10 ∷ w.octets) w.left in
      record {
        octets = [];
        chunks = w.octets ∷ w.chunks;
        each = (subst IsSize (sym w.left) good.header, w.each);
        left = refl;
        text =
            ap (λ x. (10 ∷ 35 ∷ decimal size) ++ (x ∷ (bytes ++ more))) lf
            ∙ ap (λ l. (10 ∷ 35 ∷ decimal size) ++ (10 ∷ l)) w.text
            ∙ sym (append_assoc (10 ∷ 35 ∷ decimal size) (10 ∷ w.octets) (flat_map chunk w.chunks ++ text_of t.header))
            ∙ ap (λ l. l ++ (flat_map chunk w.chunks ++ text_of t.header)) (sym of_chunk)
            ∙ sym (append_assoc (chunk w.octets) (flat_map chunk w.chunks) (text_of t.header));
        message = w.message;
      };
}

leads_stepped : (to : Step) (h : Header) (m : List ℕ) (b : ℕ) (u : Reading) → IsGood (record { header = h; left = 0; message = m }) → header_step h (length m) b ≡ to → stepped to m ≡ Some u → Leads (record { header = h; left = 0; message = m }) b u
leads_stepped (On to) h m b u good e r =
    let is : record { header = to; left = 0; message = m } ≡ u = cc in
    subst (Leads (record { header = h; left = 0; message = m }) b) is (leads_on h to m b good e)
leads_stepped (Octets size) h m b u good e r =
    let is : record { header = Start; left = size; message = m } ≡ u = cc in
    let w = header_octets h (length m) b size (omega (arith, good.small)) e in
    let from : IsGood (record { header = Size size; left = 0; message = m }) = subst (λ x. IsGood (record { header = x; left = 0; message = m })) w.header good in
    subst (λ x. Leads (record { header = x; left = 0; message = m }) b u) (sym w.header) (subst (Leads (record { header = Size size; left = 0; message = m }) b) is (leads_size size m b from w.byte w.fits))
leads_stepped (Stops why) h m b u good e r = absurd (let no : None ≡ Some u = r in cc)

leads_at : (h : Header) (left : ℕ) (m : List ℕ) (b : ℕ) (u : Reading) → IsGood (record { header = h; left = left; message = m }) → step_at h left m b ≡ Some u → Leads (record { header = h; left = left; message = m }) b u
leads_at h zero m b u good e = leads_stepped (header_step h (length m) b) h m b u good refl e
leads_at h (suc left) m b u good e =
    let is : record { header = h; left = left; message = m ++ b ∷ [] } ≡ u = cc in
    subst (Leads (record { header = h; left = suc left; message = m }) b) is (leads_octet h left m b good)

pub leads : (s : Reading) (b : ℕ) (u : Reading) → IsGood s → step s b ≡ Some u → Leads s b u
unfolding step
leads s b u good e = leads_at s.header s.left s.message b u good e

-- nothing is read
comes_none : (h : Header) (left : ℕ) (m more : List ℕ) → IsGood (record { header = h; left = left; message = m }) → length more ≡ left → Comes (record { header = h; left = left; message = m }) [] (record { header = h; left = left; message = m }) more
comes_none h left m more good len = record {
  octets = more;
  chunks = [];
  each = tt;
  left = len;
  text = swapped h left more good.octets len;
  message = ap (λ l. m ++ l) (append-nil more);
} where
  swapped : (h : Header) (left : ℕ) (more : List ℕ) → (0 < left → h ≡ Start) → length more ≡ left → text_of h ++ more ≡ more ++ text_of h
  swapped h zero more at_start len = rw (nil_from_length more len) (append-nil (text_of h))
  swapped h (suc left) more at_start len = rw (at_start (omega arith)) (sym (append-nil more))

pub record Reaches (s : Reading) (bytes : List ℕ) (t : Reading) : Type 0 where
  pub good : IsGood t
  pub comes : (more : List ℕ) → length more ≡ t.left → Comes s bytes t more

pub some_from_and : {A B : Type 0} (o : Option A) (f : A → Option B) (y : B) → option_and_then f o ≡ Some y → (x : A) × (o ≡ Some x) × (f x ≡ Some y)
some_from_and None f y e = absurd (let no : None ≡ Some y = e in cc)
some_from_and (Some x) f y e = (x, refl, e)

pub reaches : (bytes : List ℕ) (s t : Reading) → IsGood s → run bytes s ≡ Some t → Reaches s bytes t
unfolding run
reaches [] s t good e =
    let same : s ≡ t = cc in
    subst (Reaches s []) same (record { good = good; comes = λ more len. comes_none s.header s.left s.message more good len })
reaches (b ∷ bytes) s t good e =
    let p = some_from_and (step s b) (λ u. run bytes u) t e in
    let w = leads s b p.0 good p.1 in
    let r = reaches bytes p.0 t w.good p.2 in
    record { good = r.good; comes = λ more len. w.back bytes t more (r.comes more len) }

pub good_start : IsGood start
good_start = record { header = tt; octets = λ _. refl; small = omega arith }

-- the bytes that were read, from the start of a message, with the octets that are still to come
pub record Came (bytes : List ℕ) (t : Reading) (more : List ℕ) : Type 0 where
  pub chunks : List (List ℕ)
  pub each : AllByRecursion IsChunk chunks
  pub text : bytes ++ more ≡ flat_map chunk chunks ++ text_of t.header
  pub message : concat chunks ≡ t.message ++ more

pub came : (bytes : List ℕ) (t : Reading) (more : List ℕ) → run bytes start ≡ Some t → length more ≡ t.left → Came bytes t more
came bytes t more e len =
    let w = (reaches bytes start t good_start e).comes more len in
    let none : w.octets ≡ [] = nil_from_length w.octets w.left in
    record {
      chunks = w.chunks;
      each = w.each;
      text = w.text ∙ ap (λ l. l ++ (flat_map chunk w.chunks ++ text_of t.header)) none;
      message = ap (λ l. l ++ concat w.chunks) (sym none) ∙ w.message;
    }

pub good : (bytes : List ℕ) (t : Reading) → run bytes start ≡ Some t → IsGood t
good bytes t e = (reaches bytes start t good_start e).good

not_end : (t : Bool) (x : Header) → cond t (On x) (Stops Bad) ≡ Stops End → ⊥
not_end true x e = cc
not_end false x e = cc

not_big : (t : Bool) (x : Header) → cond t (On x) (Stops Bad) ≡ Stops TooBig → ⊥
not_big true x e = cc
not_big false x e = cc

-- the byte that ends a message
header_end : (h : Header) (n b : ℕ) → header_step h n b ≡ Stops End → (h ≡ Close) × (b ≡ 10)
header_end Start n b e = absurd (not_end (b == 10) Line e)
header_end Line n b e = absurd (not_end (b == 35) Hash e)
header_end Hash n b e = elim (cond_is (b == 35 && nat_lt 0 n) (On Close) (digit_step b) (Stops End) e) [
  | inl p ↦ absurd (let no : On Close ≡ Stops End = p.1 in cc)
  | inr p ↦ absurd (not_end (nat_lt 48 b && nat_le b 57) (Size (b - 48)) p.1)
]
header_end (Size k) n b e = elim (cond_is (b == 10) (ended_step k n) (next_step k b) (Stops End) e) [
  | inl p ↦ elim (cond_is (nat_lt (message_limit - n) k) (Stops TooBig) (Octets k) (Stops End) p.1) [
    | inl q ↦ absurd (let no : Stops TooBig ≡ Stops End = q.1 in cc)
    | inr q ↦ absurd (let no : Octets k ≡ Stops End = q.1 in cc)
  ]
  | inr p ↦ elim (cond_is (nat_le 48 b && nat_le b 57) (longer_step k b) (Stops Bad) (Stops End) p.1) [
    | inl q ↦ elim (cond_is (nat_lt largest_size (k * 10 + (b - 48))) (Stops Bad) (On (Size (k * 10 + (b - 48)))) (Stops End) q.1) [
      | inl r ↦ absurd (let no : Stops Bad ≡ Stops End = r.1 in cc)
      | inr r ↦ absurd (let no : On (Size (k * 10 + (b - 48))) ≡ Stops End = r.1 in cc)
    ]
    | inr q ↦ absurd (let no : Stops Bad ≡ Stops End = q.1 in cc)
  ]
]
header_end Close n b e = elim (cond_is (b == 10) (Stops End) (Stops Bad) (Stops End) e) [
  | inl p ↦ (refl, grind (arith, nat_tests))
  | inr p ↦ absurd (let no : Stops Bad ≡ Stops End = p.1 in cc)
]

-- the LF that ends a size with which the message is too big
pub record EndsBigSize (h : Header) (n b : ℕ) : Type 0 where
  pub size : ℕ
  pub header : h ≡ Size size
  pub byte : b ≡ 10
  pub big : message_limit < n + size

header_big : (h : Header) (n b : ℕ) → n ≤ message_limit → header_step h n b ≡ Stops TooBig → EndsBigSize h n b
header_big Start n b small e = absurd (not_big (b == 10) Line e)
header_big Line n b small e = absurd (not_big (b == 35) Hash e)
header_big Hash n b small e = elim (cond_is (b == 35 && nat_lt 0 n) (On Close) (digit_step b) (Stops TooBig) e) [
  | inl p ↦ absurd (let no : On Close ≡ Stops TooBig = p.1 in cc)
  | inr p ↦ absurd (not_big (nat_lt 48 b && nat_le b 57) (Size (b - 48)) p.1)
]
header_big (Size k) n b small e = elim (cond_is (b == 10) (ended_step k n) (next_step k b) (Stops TooBig) e) [
  | inl p ↦ elim (cond_is (nat_lt (message_limit - n) k) (Stops TooBig) (Octets k) (Stops TooBig) p.1) [
    | inl q ↦ (let past : message_limit - n < k = grind (arith, nat_tests) in
        record { size = k; header = refl; byte = grind (arith, nat_tests); big = omega arith })
    | inr q ↦ absurd (let no : Octets k ≡ Stops TooBig = q.1 in cc)
  ]
  | inr p ↦ elim (cond_is (nat_le 48 b && nat_le b 57) (longer_step k b) (Stops Bad) (Stops TooBig) p.1) [
    | inl q ↦ elim (cond_is (nat_lt largest_size (k * 10 + (b - 48))) (Stops Bad) (On (Size (k * 10 + (b - 48)))) (Stops TooBig) q.1) [
      | inl r ↦ absurd (let no : Stops Bad ≡ Stops TooBig = r.1 in cc)
      | inr r ↦ absurd (let no : On (Size (k * 10 + (b - 48))) ≡ Stops TooBig = r.1 in cc)
    ]
    | inr q ↦ absurd (let no : Stops Bad ≡ Stops TooBig = q.1 in cc)
  ]
]
header_big Close n b small e = elim (cond_is (b == 10) (Stops End) (Stops Bad) (Stops TooBig) e) [
  | inl p ↦ absurd (let no : Stops End ≡ Stops TooBig = p.1 in cc)
  | inr p ↦ absurd (let no : Stops Bad ≡ Stops TooBig = p.1 in cc)
]

-- where octets have come there is a chunk
pub some_chunks : (chunks : List (List ℕ)) (m : List ℕ) → concat chunks ≡ m → 0 < length m → chunks ≢ []
some_chunks [] m e some = absurd (omega (arith, ap length e, some))
some_chunks (c ∷ cs) m e some = λ none. cc

-- what is read up to the byte that ends a message is the message in chunks
pub whole : (bytes : List ℕ) (t : Reading) (b : ℕ) → run bytes start ≡ Some t → StopsAt t b End → IsInChunks (bytes ++ b ∷ []) t.message
whole bytes t b e stop =
    let w = came bytes t [] e (sym stop.left) in
    let g = good bytes t e in
    let p = header_end t.header (length t.message) b stop.stops in
    let some : 0 < length t.message = subst (λ h. IsGoodHeader h (length t.message)) p.0 g.header in
    let text : bytes ≡ flat_map chunk w.chunks ++ (10 ∷ 35 ∷ 35 ∷ []) = sym (append-nil bytes) ∙ w.text ∙ ap (λ h. flat_map chunk w.chunks ++ text_of h) p.0 in
    let message : concat w.chunks ≡ t.message = w.message ∙ append-nil t.message in
    record {
      chunks = w.chunks;
      each = (some_chunks w.chunks t.message message some, w.each);
      bytes_are = ap (λ l. l ++ b ∷ []) text ∙ append_assoc (flat_map chunk w.chunks) (10 ∷ 35 ∷ 35 ∷ []) (b ∷ []) ∙ ap (λ x. flat_map chunk w.chunks ++ (10 ∷ 35 ∷ 35 ∷ x ∷ [])) p.1;
      message_is = sym message;
    }

-- what is read up to the LF of a size that goes past the limit announces too much
pub big : (bytes : List ℕ) (t : Reading) (b : ℕ) (rest : List ℕ) → run bytes start ≡ Some t → StopsAt t b TooBig → AnnouncesTooMuch (bytes ++ b ∷ rest) (length bytes)
big bytes t b rest e stop =
    let w = came bytes t [] e (sym stop.left) in
    let g = good bytes t e in
    let p = header_big t.header (length t.message) b (omega (arith, g.small)) stop.stops in
    let fits : IsSize p.size = subst (λ h. IsGoodHeader h (length t.message)) p.header g.header in
    let text : bytes ≡ flat_map chunk w.chunks ++ (10 ∷ 35 ∷ decimal p.size) = sym (append-nil bytes) ∙ w.text ∙ ap (λ h. flat_map chunk w.chunks ++ text_of h) p.header in
    let message : concat w.chunks ≡ t.message = w.message ∙ append-nil t.message in
    record {
      chunks = w.chunks;
      each = w.each;
      size = p.size;
      is_size = fits;
      rest = rest;
      bytes_are = ap (λ l. l ++ b ∷ rest) text ∙ ap (λ x. (flat_map chunk w.chunks ++ (10 ∷ 35 ∷ decimal p.size)) ++ x ∷ rest) p.byte;
      before = omega (arith, ap length message, g.small);
      after = omega (arith, ap length message, p.big);
      place_is = ap length text;
    }
