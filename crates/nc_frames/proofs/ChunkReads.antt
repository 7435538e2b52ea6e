-- What is in chunks is read byte by byte so.
use Rattle.std.proofs.Common.{◌≡◌, ◌≢◌, inl, inr, ℕ, ◌+◌, ◌-◌, ◌*◌, ◌/◌, ◌%◌, ◌<◌, ◌≤◌, true, false, nat_lt, nat_le, ◌==◌, List, [], ◌∷◌, ◌++◌, length, Some, None, refl, ap, sym, ◌∙◌, subst, arith}
use Rattle.std.specs.Option.{option_and_then}
use Rattle.std.specs.List.{flat_map, concat, AllByRecursion}
use Rattle.std.specs.Fmt.{decimal}
use Rattle.std.proofs.lemmas.List.{append_assoc, append-nil, length-append}
use Rattle.std.proofs.lemmas.Fmt.{decimal_by_steps}
use Rattle.std.proofs.lemmas.Bool.{cases_lt}
use Rattle.std.proofs.lemmas.Bool.Decides.{nat_tests}
use Rattle.nc_names.specs.Limits.{message_limit}
use Rattle.nc_frames.specs.declared.header.Header.{Header}
use Rattle.nc_frames.specs.declared.header.Header.TheVariants.{Start, Hash, Size, Close}
use Rattle.nc_frames.specs.declared.header.Step.TheVariants.{On, Octets, Stop as Stops}
use Rattle.nc_frames.specs.declared.header.Stop.{Stop}
use Rattle.nc_frames.specs.declared.header.Stop.TheVariants.{End, Bad, TooBig}
use Rattle.nc_frames.specs.Framing.{chunk, end_of_chunks, IsSize, IsChunk, largest_size}
use Rattle.nc_frames.specs.inner.Steps.{Reading, run, step, stepped, start_of, hash_step, size_step, StopsAt}
use Rattle.nc_frames.proofs.StepLemmas.{run-append-some, run-octets, run-header}
use Rattle.nc_frames.proofs.ChunkLemmas.{some_from_and}

-- the digits of a size
hash_digit : (n o : ℕ) → 0 < n → n < 10 → hash_step o (48 + n) ≡ On (Size n)
hash_digit n o some small =
    let other : ((48 + n) == 35) ≡ false = grind (arith, nat_tests) in
    let low : nat_lt 48 (48 + n) ≡ true = grind (arith, nat_tests) in
    let high : nat_le (48 + n) 57 ≡ true = grind (arith, nat_tests) in
    rw (other, low, high) (ap (λ k. On (Size k)) (omega arith))

size_digit : (n o : ℕ) → n ≤ largest_size → size_step (n / 10) o (48 + n % 10) ≡ On (Size n)
size_digit n o fits =
    let other : ((48 + n % 10) == 10) ≡ false = grind (arith, nat_tests) in
    let low : nat_le 48 (48 + n % 10) ≡ true = grind (arith, nat_tests) in
    let high : nat_le (48 + n % 10) 57 ≡ true = grind (arith, nat_tests) in
    let is : n / 10 * 10 + (48 + n % 10 - 48) ≡ n = omega arith in
    let within : nat_lt largest_size n ≡ false = grind (arith, nat_tests) in
    rw (other, low, high, is, within) refl

abbrev pub at_header : Header → List ℕ → Reading
at_header h m = record { header = h; left = 0; message = m }

run-decimal : (m : List ℕ) (n : ℕ) → IsSize n → run (decimal n) (at_header Hash m) ≡ Some (at_header (Size n) m)
run-decimal m n size = decimal_by_steps
    (λ k ds. IsSize k → run ds (at_header Hash m) ≡ Some (at_header (Size k) m))
    (λ k small is. run-header (48 + k) Hash m ∙ ap (λ st. stepped st m) (hash_digit k (length m) is.0 small))
    (λ k ds many before is.
    run-append-some ds ((48 + k % 10) ∷ []) (at_header Hash m) (at_header (Size (k / 10)) m) (before (omega (arith, is.0), omega (arith, is.1)))
    ∙ run-header (48 + k % 10) (Size (k / 10)) m
    ∙ ap (λ st. stepped st m) (size_digit k (length m) is.1))
    n (omega (arith, size.1)) size

-- the beginning of a chunk
pub run-size : (m : List ℕ) (n : ℕ) → IsSize n → run (10 ∷ 35 ∷ decimal n) (start_of m) ≡ Some (at_header (Size n) m)
unfolding run step
run-size m n size = run-decimal m n size

small_size : (m : List ℕ) (n : ℕ) → length m + n ≤ message_limit → size_step n (length m) 10 ≡ Octets n
small_size m n fits =
    let within : nat_lt (message_limit - length m) n ≡ false = grind (arith, nat_tests) in
    rw within refl

pub big_size : (m : List ℕ) (n : ℕ) → 0 < n → message_limit < length m + n → size_step n (length m) 10 ≡ Stops TooBig
big_size m n some past =
    let beyond : nat_lt (message_limit - length m) n ≡ true = grind (arith, nat_tests) in
    rw beyond refl

-- a chunk
run-chunk : (m os : List ℕ) → IsChunk os → length m + length os ≤ message_limit → run (chunk os) (start_of m) ≡ Some (start_of (m ++ os))
run-chunk m os is fits =
    run-append-some (10 ∷ 35 ∷ decimal (length os)) (10 ∷ os) (start_of m) (at_header (Size (length os)) m) (run-size m (length os) is)
    ∙ run-append-some (10 ∷ []) os (at_header (Size (length os)) m) (record { header = Start; left = length os; message = m }) (run-header 10 (Size (length os)) m ∙ ap (λ st. stepped st m) (small_size m (length os) fits))
    ∙ run-octets os Start (length os) 0 m (omega arith)

pub run-chunks : (cs : List (List ℕ)) (m : List ℕ) → AllByRecursion IsChunk cs → length m + length (concat cs) ≤ message_limit → run (flat_map chunk cs) (start_of m) ≡ Some (start_of (m ++ concat cs))
unfolding run
run-chunks [] m each fits = ap (λ l. Some (start_of l)) (sym (append-nil m))
run-chunks (c ∷ cs) m each fits =
    run-append-some (chunk c) (flat_map chunk cs) (start_of m) (start_of (m ++ c)) (run-chunk m c each.0 (omega (arith, length-append c (concat cs))))
    ∙ run-chunks cs (m ++ c) each.1 (omega (arith, length-append c (concat cs), length-append m c))
    ∙ ap (λ l. Some (start_of l)) (append_assoc m c (concat cs))

-- the end of the chunks
hash_close : (o : ℕ) → 0 < o → hash_step o 35 ≡ On Close
hash_close o some =
    let more : nat_lt 0 o ≡ true = grind (arith, nat_tests) in
    rw more refl

pub run-close : (m : List ℕ) → 0 < length m → run (10 ∷ 35 ∷ 35 ∷ []) (start_of m) ≡ Some (at_header Close m)
unfolding run step
run-close m some = run-header 35 Hash m ∙ ap (λ st. stepped st m) (hash_close (length m) some)

-- where a message in chunks begins, a byte ends it, or a size that makes it too big
pub record Halts (s : Reading) (bytes : List ℕ) : Type 0 where
  pub front : List ℕ
  pub byte : ℕ
  pub rest : List ℕ
  pub at : Reading
  pub why : Stop
  pub bytes_are : bytes ≡ front ++ byte ∷ rest
  pub reads : run front s ≡ Some at
  pub stops : StopsAt at byte why
  pub not_bad : why ≢ Bad

Halts-after : (xs ys : List ℕ) (s t : Reading) → run xs s ≡ Some t → Halts t ys → Halts s (xs ++ ys)
Halts-after xs ys s t e h = record {
  front = xs ++ h.front;
  byte = h.byte;
  rest = h.rest;
  at = h.at;
  why = h.why;
  bytes_are = ap (λ l. xs ++ l) h.bytes_are ∙ sym (append_assoc xs h.front (h.byte ∷ h.rest));
  reads = run-append-some xs h.front s t e ∙ h.reads;
  stops = h.stops;
  not_bad = h.not_bad;
}

pub halts : (cs : List (List ℕ)) (m : List ℕ) → AllByRecursion IsChunk cs → (cs ≡ [] → 0 < length m) → length m ≤ message_limit → Halts (start_of m) (flat_map chunk cs ++ end_of_chunks)
halts [] m each some small = record {
  front = 10 ∷ 35 ∷ 35 ∷ [];
  byte = 10;
  rest = [];
  at = at_header Close m;
  why = End;
  bytes_are = refl;
  reads = run-close m (some refl);
  stops = record { left = refl; stops = refl };
  not_bad = λ e. cc;
}
halts (c ∷ cs) m each some small = elim (cases_lt message_limit (length m + length c)) [
  | inl past ↦ subst (Halts (start_of m)) (sym (append_assoc (chunk c) (flat_map chunk cs) end_of_chunks)) (subst (Halts (start_of m)) (sym (append_assoc (10 ∷ 35 ∷ decimal (length c)) (10 ∷ c) (flat_map chunk cs ++ end_of_chunks))) (record {
    front = 10 ∷ 35 ∷ decimal (length c);
    byte = 10;
    rest = c ++ (flat_map chunk cs ++ end_of_chunks);
    at = at_header (Size (length c)) m;
    why = TooBig;
    bytes_are = refl;
    reads = run-size m (length c) each.0;
    stops = record { left = refl; stops = big_size m (length c) each.0.0 past };
    not_bad = λ e. cc;
  }))
  | inr fits ↦ subst (Halts (start_of m)) (sym (append_assoc (chunk c) (flat_map chunk cs) end_of_chunks)) (Halts-after (chunk c) (flat_map chunk cs ++ end_of_chunks) (start_of m) (start_of (m ++ c)) (run-chunk m c each.0 fits) (halts cs (m ++ c) each.1 (λ none. omega (arith, length-append m c, each.0.0)) (omega (arith, length-append m c))))
]

-- the byte at which reading stops is one
pub record SameStop (p c : List ℕ) (x b : ℕ) (t u : Reading) (q r : List ℕ) : Type 0 where
  pub front : p ≡ c
  pub byte : x ≡ b
  pub at : t ≡ u
  pub rest : q ≡ r

pub stops_step : (t : Reading) (b : ℕ) (why : Stop) → StopsAt t b why → step t b ≡ None
unfolding step
stops_step t b why stop = rw stop.left (ap (λ st. stepped st t.message) stop.stops)

pub same_stop : (p c : List ℕ) (x b : ℕ) (q r : List ℕ) (s t u : Reading) → p ++ x ∷ q ≡ c ++ b ∷ r → run p s ≡ Some t → step t x ≡ None → run c s ≡ Some u → step u b ≡ None → SameStop p c x b t u q r
unfolding run
same_stop [] [] x b q r s t u e rt st ru su = record { front = refl; byte = cc; at = cc; rest = cc }
same_stop [] (y ∷ c) x b q r s t u e rt st ru su =
    let same : s ≡ t = cc in
    let head : x ≡ y = cc in
    let none : step s y ≡ None = ap (λ z. step z y) same ∙ ap (step t) (sym head) ∙ st in
    absurd (let no : None ≡ Some u = ap (λ o. option_and_then (λ v. run c v) o) (sym none) ∙ ru in cc)
same_stop (y ∷ p) [] x b q r s t u e rt st ru su =
    let same : s ≡ u = cc in
    let head : y ≡ b = cc in
    let none : step s y ≡ None = ap (λ z. step z y) same ∙ ap (step u) head ∙ su in
    absurd (let no : None ≡ Some t = ap (λ o. option_and_then (λ v. run p v) o) (sym none) ∙ rt in cc)
same_stop (y ∷ p) (z ∷ c) x b q r s t u e rt st ru su =
    let head : y ≡ z = cc in
    let tails : p ++ x ∷ q ≡ c ++ b ∷ r = cc in
    let f = some_from_and (step s y) (λ v. run p v) t rt in
    let g = some_from_and (step s z) (λ v. run c v) u ru in
    let mid : f.0 ≡ g.0 = (let both : Some f.0 ≡ Some g.0 = sym f.1 ∙ ap (step s) head ∙ g.1 in cc) in
    let w = same_stop p c x b q r f.0 t u tails f.2 st (ap (run c) mid ∙ g.2) su in
    record { front = cc; byte = w.byte; at = w.at; rest = w.rest }
