-- Things with their numbers in a list.
use Rattle.std.proofs.Common.{◌≡◌, ◌==◌, ◌&&◌, ◌||◌, ◌+◌, ◌<◌, ℕ, zero, suc, Bool, true, false, List, [], ◌∷◌, ◌++◌, None, Some, length, take, get_or, refl, sym, ap, ◌∙◌, arith}
use Rattle.std.specs.Prelude.{Option, slice_get}
use Rattle.std.specs.List.{list_any}
use Rattle.std.specs.Option.{option_map_or}
use Rattle.std.proofs.Math.Dec.{eqb-suc-zero, eqb-zero-suc}
use Rattle.std.proofs.lemmas.Bool.Decides.{Decides-eqb}
use Rattle.std.proofs.lemmas.List.{take_more}
use Rattle.nc_filter.specs.declared.runs.Run.{Run}
use Rattle.nc_filter.specs.inner.Lists.{any_numbered}
use Rattle.nc_filter.specs.inner.Runs.{at_number}
use Rattle.nc_filter.proofs.StepLemmas.{same_test}
use Rattle.nc_filter.proofs.Unions.{and_false, and_swap, any_and, any_nothing, any_or, any_same, or_assoc, or_false, or_turned}

pub turned : (a b : ℕ) → (a == b) ≡ (b == a)
turned a b = same_test (a == b) (b == a) (λ e. (Decides-eqb b a).1 (sym ((Decides-eqb a b).0 e))) (λ e. (Decides-eqb a b).1 (sym ((Decides-eqb b a).0 e)))

same_suc : (a b : ℕ) → (suc a == suc b) ≡ (a == b)
same_suc a b = same_test (suc a == suc b) (a == b)
    (λ e. let is = (Decides-eqb (suc a) (suc b)).0 e in (Decides-eqb a b).1 (omega (arith, is))) (λ e. (Decides-eqb (suc a) (suc b)).1 (ap suc ((Decides-eqb a b).0 e)))

pub count_taken : {X : Type 0} (xs : List X) (i : ℕ) → i < length xs → length (take i xs) ≡ i
count_taken [] i within = absurd (omega (arith, within))
count_taken (x ∷ xs) zero within = refl
count_taken (x ∷ xs) (suc i) within = ap suc (count_taken xs i (omega (arith, within)))

-- ---- one of some things passes a test with its number
pub numbered_push : {X : Type 0} (f : ℕ → X → Bool) (xs : List X) (x : X) → any_numbered f (xs ++ x ∷ []) ≡ (any_numbered f xs || f (length xs) x)
numbered_push f [] x = or_false (f 0 x)
numbered_push f (y ∷ ys) x = ap (λ b. f 0 y || b) (numbered_push (λ n. f (suc n)) ys x) ∙ sym (or_assoc (f 0 y) (any_numbered (λ n. f (suc n)) ys) (f (suc (length ys)) x))

pub numbered_more : {X : Type 0} (f : ℕ → X → Bool) (xs : List X) (i : ℕ) (x : X) → i < length xs → x ≡ get_or xs i x → any_numbered f (take (i + 1) xs) ≡ (any_numbered f (take i xs) || f i x)
numbered_more {X} f xs i x within is =
    ap (any_numbered f) (take_more xs i x within ∙ ap (λ (one : X). take i xs ++ one ∷ []) (sym is))
    ∙ numbered_push f (take i xs) x
    ∙ ap (λ (k : ℕ). any_numbered f (take i xs) || f k x) (count_taken xs i within)

pub numbered_or : {X : Type 0} (f g : ℕ → X → Bool) (xs : List X) → any_numbered (λ n x. f n x || g n x) xs ≡ (any_numbered f xs || any_numbered g xs)
numbered_or f g [] = refl
numbered_or f g (x ∷ xs) =
    ap (λ b. (f 0 x || g 0 x) || b) (numbered_or (λ n. f (suc n)) (λ n. g (suc n)) xs)
    ∙ or_turned (f 0 x) (g 0 x) (any_numbered (λ n. f (suc n)) xs) (any_numbered (λ n. g (suc n)) xs)

-- a test of pairs may begin with either
pub numbered_turned : {X Y : Type 0} (f : ℕ → X → Y → Bool) (xs : List X) (ys : List Y) → any_numbered (λ n x. list_any (f n x) ys) xs ≡ list_any (λ y. any_numbered (λ n x. f n x y) xs) ys
numbered_turned f [] ys = sym (any_nothing ys)
numbered_turned f (x ∷ xs) ys =
    ap (λ b. list_any (f 0 x) ys || b) (numbered_turned (λ n. f (suc n)) xs ys) ∙ sym (any_or (f 0 x) (λ y. any_numbered (λ n x. f (suc n) x y) xs) ys)

-- ---- the instance of a number
pub get_push : (whole : List Run) (run : Run) (p : Run → Bool) (n : ℕ) → at_number (whole ++ run ∷ []) p n ≡ (at_number whole p n || (length whole == n && p run))
get_push [] run p zero = refl
get_push [] run p (suc n) = sym (ap (λ b. b && p run) (eqb-zero-suc n))
get_push (one ∷ whole) run p zero = sym (ap (λ b. p one || (b && p run)) (eqb-suc-zero (length whole)) ∙ or_false (p one))
get_push (one ∷ whole) run p (suc n) = get_push whole run p n ∙ ap (λ b. at_number whole p n || (b && p run)) (sym (same_suc (length whole) n))

pub at_more : (whole : List Run) (run : Run) (p : Run → Bool) (i n : ℕ) → i < length whole → run ≡ get_or whole i run →
    at_number (take (i + 1) whole) p n ≡ (at_number (take i whole) p n || (p run && (i == n)))
at_more whole run p i n within is =
    ap (λ (runs : List Run). at_number runs p n) (take_more whole i run within ∙ ap (λ (one : Run). take i whole ++ one ∷ []) (sym is))
    ∙ get_push (take i whole) run p n
    ∙ ap (λ b. at_number (take i whole) p n || b) (ap (λ (k : ℕ). (k == n) && p run) (count_taken whole i within) ∙ and_swap (i == n) (p run))

pub at_or : (whole : List Run) (p q : Run → Bool) (n : ℕ) → at_number whole (λ run. p run || q run) n ≡ (at_number whole p n || at_number whole q n)
at_or whole p q n = by (slice_get whole n)
  where
    by : (o : Option Run) → option_map_or (λ run. p run || q run) o false ≡ (option_map_or p o false || option_map_or q o false)
    by None = refl
    by (Some run) = refl

pub numbered_at : (whole : List Run) (p g : Run → Bool) → any_numbered (λ n run. at_number whole p n && g run) whole ≡ list_any (λ run. p run && g run) whole
numbered_at [] p g = refl
numbered_at (run ∷ runs) p g = ap (λ b. (p run && g run) || b) (numbered_at runs p g)

-- ---- numbers in a list
pub any_equal : (p : ℕ → Bool) (n : ℕ) (xs : List ℕ) → list_any (λ x. p x && (x == n)) xs ≡ (p n && list_any (λ x. x == n) xs)
any_equal p n xs = any_same (λ x. p x && (x == n)) (λ x. p n && (x == n)) xs (λ x. by x (x == n) refl) ∙ any_and (p n) (λ x. x == n) xs
  where
    by : (x : ℕ) (b : Bool) → (x == n) ≡ b → (p x && b) ≡ (p n && b)
    by x true e = ap (λ (k : ℕ). p k && true) ((Decides-eqb x n).0 e)
    by x false e = and_false (p x) ∙ sym (and_false (p n))
