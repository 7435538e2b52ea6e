-- Numbers that are found, one after another.
use Rattle.std.proofs.Common.{inl, inr, ◌≡◌, ◌<◌, ◌≤◌, ◌+◌, ℕ, zero, suc, List, [], ◌∷◌, ◌++◌, refl, sym, ap, ◌∙◌, subst, arith, take, length, append_assoc}
use Rattle.std.specs.Prelude.{Bool, true, false, fold, replicate, Option, Some, None, slice_get, set, Contains}
use Rattle.std.proofs.lemmas.Bool.{cases_eq}
use Rattle.std.proofs.lemmas.List.{append-nil, length-append, length-replicate, length-set, take-append-le, take_all}
use Rattle.std.proofs.lemmas.List.Elements.{Contains-append_cases, Contains-append_left, Contains-append_right, Contains-push}
use Rattle.std.proofs.lemmas.Option.{slice_get_within}
use Rattle.nc_yang_order.specs.Orders.{EachAfter, targets}
use Rattle.nc_yang_order.proofs.Lists.{contains_at, contains_none, contains_one, either, get_none, get_set_other, get_set_same, take_next, each_push}
use Rattle.nc_yang_order.specs.declared.reach.Reach.{Reach}
use Rattle.nc_yang_order.specs.Reaching.{IsLed, IsMarked, IsReached}
use Rattle.nc_yang_order.specs.inner.Reaching.{IsOnWay, added, added_at}

-- what is kept when numbers are added
pub record Grows (graph : List (List ℕ)) (starts : List ℕ) (numbers : List ℕ) (old new : Reach) : Type 0 where
  pub counted : length new.marks ≡ length old.marks
  pub marks : IsMarked new
  pub led : EachAfter (IsLed graph starts) [] new.found
  pub more : List ℕ
  pub found : new.found ≡ old.found ++ more
  pub has : (number : ℕ) → Contains numbers number → number < length old.marks → Contains new.found number

not_true : (count n : ℕ) → slice_get (replicate count false) n ≡ Some true → ⊥
not_true zero n e = cc
not_true (suc count) zero e = cc
not_true (suc count) (suc n) e = not_true count n e

module _ (graph : List (List ℕ)) (starts : List ℕ) where
  add_new : (reach : Reach) (n : ℕ) → slice_get reach.marks n ≡ Some false → IsMarked reach → EachAfter (IsLed graph starts) [] reach.found → IsLed graph starts reach.found n →
      Grows graph starts (n ∷ []) reach (added_at (Some false) reach n)
  add_new reach n at is placed led =
      record {
        counted = length-set reach.marks n true;
        marks = record { marked = marked; unmarked = unmarked };
        led = each_push (IsLed graph starts) reach.found n placed led;
        more = n ∷ [];
        found = refl;
        has = λ m h less. subst (λ z. Contains (reach.found ++ n ∷ []) z) (contains_one n m h) (Contains-push reach.found n);
      }
    where
      marked : (m : ℕ) → slice_get (set reach.marks n true) m ≡ Some true → Contains (reach.found ++ n ∷ []) m
      marked m e = elim (cases_eq m n) [
        | inl same ↦ subst (λ z. Contains (reach.found ++ n ∷ []) z) (sym same) (Contains-push reach.found n)
        | inr apart ↦ Contains-append_left reach.found (n ∷ []) m (is.marked m (sym (get_set_other reach.marks n m true apart) ∙ e))
      ]

      unmarked : (m : ℕ) → slice_get (set reach.marks n true) m ≡ Some false → Contains (reach.found ++ n ∷ []) m → ⊥
      unmarked m e h = elim (cases_eq m n) [
        | inl same ↦ (let f : Some false ≡ Some true = sym (subst (λ z. slice_get (set reach.marks n true) z ≡ Some false) same e) ∙ get_set_same reach.marks n false true at in cc)
        | inr apart ↦ elim (either reach.found n m h) [
          | inl old ↦ is.unmarked m (sym (get_set_other reach.marks n m true apart) ∙ e) old
          | inr new ↦ apart (sym new)
        ]
      ]

  pub add_one : (reach : Reach) (n : ℕ) → IsMarked reach → EachAfter (IsLed graph starts) [] reach.found → IsLed graph starts reach.found n → Grows graph starts (n ∷ []) reach (added reach n)
  add_one reach n is placed led = by (slice_get reach.marks n) refl
    where
      same : (mark : Option Bool) → ((m : ℕ) → m ≡ n → m < length reach.marks → Contains reach.found m) → Grows graph starts (n ∷ []) reach reach
      same mark has = record {
        counted = refl;
        marks = is;
        led = placed;
        more = [];
        found = sym (append-nil reach.found);
        has = λ m h less. has m (sym (contains_one n m h)) less;
      }

      by : (mark : Option Bool) → slice_get reach.marks n ≡ mark → Grows graph starts (n ∷ []) reach (added_at mark reach n)
      by None e = same None (λ m eq less. absurd (let past = get_none reach.marks n e in omega arith))
      by (Some true) e = same (Some true) (λ m eq less. subst (λ z. Contains reach.found z) (sym eq) (is.marked n e))
      by (Some false) e = add_new reach n e is placed led

  led_more : (before more : List ℕ) (n : ℕ) → IsLed graph starts before n → IsLed graph starts (before ++ more) n
  led_more before more n (inl start) = inl start
  led_more before more n (inr edge) = inr (edge.0, Contains-append_left before more edge.0 edge.1, edge.2)

  joined : (reach : Reach) (x : ℕ) (xs : List ℕ) → Grows graph starts (x ∷ []) reach (added reach x) → Grows graph starts xs (added reach x) (fold added (added reach x) xs) →
      Grows graph starts (x ∷ xs) reach (fold added reach (x ∷ xs))
  joined reach x xs first rest = record {
    counted = rest.counted ∙ first.counted;
    marks = rest.marks;
    led = rest.led;
    more = first.more ++ rest.more;
    found = rest.found ∙ ap (λ z. z ++ rest.more) first.found ∙ append_assoc reach.found first.more rest.more;
    has = λ m h less. elim (Contains-append_cases (x ∷ []) xs m h) [
      | inl here ↦ subst (λ z. Contains z m) (sym rest.found) (Contains-append_left (added reach x).found rest.more m (first.has m here less))
      | inr later ↦ rest.has m later (omega (arith, first.counted))
    ];
  }

  pub add_all : (numbers : List ℕ) (reach : Reach) → IsMarked reach → EachAfter (IsLed graph starts) [] reach.found → ((n : ℕ) → Contains numbers n → IsLed graph starts reach.found n) → Grows graph starts numbers reach (fold added reach numbers)
  add_all [] reach is placed led = record {
    counted = refl;
    marks = is;
    led = placed;
    more = [];
    found = sym (append-nil reach.found);
    has = λ m h less. absurd (contains_none m h);
  }
  add_all (x ∷ xs) reach is placed led =
      let first = add_one reach x is placed (led x (0, omega arith, refl)) in
      let rest = add_all xs (added reach x) first.marks first.led
      (λ n h. subst (λ z. IsLed graph starts z n) (sym first.found) (led_more reach.found first.more n (led n (Contains-append_right (x ∷ []) xs n h)))) in
      joined reach x xs first rest

  -- where it begins
  pub begins : (reach : Reach) → reach ≡ fold added (record { marks = replicate (length graph) false; found = [] }) starts → IsOnWay graph starts 0 reach
  begins reach is = subst (IsOnWay graph starts 0) (sym is) (record {
    counted = grown.counted ∙ length-replicate (length graph) false;
    marks = grown.marks;
    led = grown.led;
    started = λ n h less. grown.has n h (omega (arith, length-replicate (length graph) false));
    followed = λ from n h. absurd (contains_none from h);
    within = omega arith;
  })
    where
      blank : Reach
      blank = record { marks = replicate (length graph) false; found = [] }

      blank_marks : IsMarked (record { marks = replicate (length graph) false; found = [] })
      blank_marks = record {
        marked = λ n e. absurd (not_true (length graph) n e);
        unmarked = λ n e h. contains_none n h;
      }

      grown : Grows graph starts starts (record { marks = replicate (length graph) false; found = [] }) (fold added (record { marks = replicate (length graph) false; found = [] }) starts)
      grown = add_all starts (record { marks = replicate (length graph) false; found = [] }) blank_marks tt (λ n h. inl h)

  -- the edges of the next one are followed
  pub goes_on : (old new : Reach) (at number : ℕ) → IsOnWay graph starts at old → slice_get old.found at ≡ Some number → new ≡ fold added old (targets graph number) → IsOnWay graph starts (at + 1) new
  goes_on old new at number way is made = subst (IsOnWay graph starts (at + 1)) (sym made) (record {
    counted = grown.counted ∙ way.counted;
    marks = grown.marks;
    led = grown.led;
    started = λ n h less. kept n (way.started n h less);
    followed = followed;
    within = let less = slice_get_within old.found at number is in let e = ap length grown.found ∙ length-append old.found grown.more in omega arith;
  })
    where
      after : Reach
      after = fold added old (targets graph number)

      grown : Grows graph starts (targets graph number) old (fold added old (targets graph number))
      grown = add_all (targets graph number) old way.marks way.led (λ n h. inr (number, contains_at old.found at number is, h))

      kept : (n : ℕ) → Contains old.found n → Contains (fold added old (targets graph number)).found n
      kept n h = subst (λ z. Contains z n) (sym grown.found) (Contains-append_left old.found grown.more n h)

      front : take (at + 1) (fold added old (targets graph number)).found ≡ take at old.found ++ number ∷ []
      front = let less : at + 1 ≤ length old.found = (let l = slice_get_within old.found at number is in omega arith) in
          ap (take (at + 1)) grown.found ∙ take-append-le (at + 1) old.found grown.more less ∙ take_next old.found at number is

      followed : (from n : ℕ) → Contains (take (at + 1) (fold added old (targets graph number)).found) from → Contains (targets graph from) n → n < length graph → Contains (fold added old (targets graph number)).found n
      followed from n h edge less = elim (either (take at old.found) number from (subst (λ z. Contains z from) front h)) [
        | inl before ↦ kept n (way.followed from n before edge less)
        | inr now ↦ grown.has n (subst (λ z. Contains (targets graph z) n) (sym now) edge) (omega (arith, way.counted))
      ]

  -- the end
  pub ends : (reach : Reach) (at : ℕ) → IsOnWay graph starts at reach → slice_get reach.found at ≡ None → IsReached graph starts reach
  ends reach at way none = record {
    counted = way.counted;
    marks = way.marks;
    led = way.led;
    started = way.started;
    followed = λ from n h. way.followed from n (subst (λ z. Contains z from) (sym (take_all at reach.found (get_none reach.found at none))) h);
  }
