-- Rows in three parts, of which a test tells nothing in the first and the last.
use Rattle.std.proofs.Common.{◌≡◌, ◌||◌, ◌++◌, Bool, true, false, cond, not, List, [], ◌∷◌, Option, Some, None, refl, sym, ap, ◌∙◌}
use Rattle.std.proofs.lemmas.List.{append_assoc, append-nil}
use Rattle.std.proofs.lemmas.List.Elements.{filter-append}
use Rattle.std.proofs.lemmas.List.Folds.{find-append, list_any-append}
use Rattle.std.specs.List.{filter, find, list_any}
use Rattle.std.specs.Option.{option_or}

pub or_none : (b : Bool) → (b || false) ≡ b
or_none true = refl
or_none false = refl

module _ {X : Type 0} where
  -- each of these answers a test so
  abbrev pub Answer : (X → Bool) → Bool → List X → Type 0
  Answer test b [] = Unit {0}
  Answer test b (x ∷ xs) = (test x ≡ b) × Answer test b xs

  -- two tests say the same of each of these
  abbrev pub Agree : (X → Bool) → (X → Bool) → List X → Type 0
  Agree test other [] = Unit {0}
  Agree test other (x ∷ xs) = (test x ≡ other x) × Agree test other xs

  pub filter_all : (test : X → Bool) (xs : List X) → Answer test true xs → filter test xs ≡ xs
  filter_all test [] all = refl
  filter_all test (x ∷ xs) all = rw (all.0) (ap (λ ys. x ∷ ys) (filter_all test xs all.1))

  pub filter_none : (test : X → Bool) (xs : List X) → Answer test false xs → filter test xs ≡ []
  filter_none test [] all = refl
  filter_none test (x ∷ xs) all = rw (all.0) (filter_none test xs all.1)

  pub filter_rest : (test : X → Bool) (xs : List X) → Answer test false xs → filter (λ x. not (test x)) xs ≡ xs
  filter_rest test [] all = refl
  filter_rest test (x ∷ xs) all = rw (all.0) (ap (λ ys. x ∷ ys) (filter_rest test xs all.1))

  pub filter_gone : (test : X → Bool) (xs : List X) → Answer test true xs → filter (λ x. not (test x)) xs ≡ []
  filter_gone test [] all = refl
  filter_gone test (x ∷ xs) all = rw (all.0) (filter_gone test xs all.1)

  pub filter_agree : (test other : X → Bool) (xs : List X) → Agree test other xs → filter test xs ≡ filter other xs
  filter_agree test other [] same = refl
  filter_agree test other (x ∷ xs) same = λ i. cond (same.0 i) (x ∷ filter_agree test other xs same.1 i) (filter_agree test other xs same.1 i)

  -- what a filter leaves answers it, and other tests as before
  pub answer_kept : (test : X → Bool) (xs : List X) → Answer test true (filter test xs)
  answer_kept test [] = tt
  answer_kept test (x ∷ xs) = by (test x) refl (answer_kept test xs)
    where
      by : (b : Bool) → test x ≡ b → Answer test true (filter test xs) → Answer test true (cond b (x ∷ filter test xs) (filter test xs))
      by true e rest = (e, rest)
      by false e rest = rest

  pub answer_left : (test : X → Bool) (xs : List X) → Answer test false (filter (λ x. not (test x)) xs)
  answer_left test [] = tt
  answer_left test (x ∷ xs) = by (test x) refl (answer_left test xs)
    where
      by : (b : Bool) → test x ≡ b → Answer test false (filter (λ x. not (test x)) xs) → Answer test false (cond (not b) (x ∷ filter (λ x. not (test x)) xs) (filter (λ x. not (test x)) xs))
      by true e rest = rest
      by false e rest = (e, rest)

  pub answer_filter : (test : X → Bool) (b : Bool) (other : X → Bool) (xs : List X) → Answer test b xs → Answer test b (filter other xs)
  answer_filter test b other [] all = tt
  answer_filter test b other (x ∷ xs) all = by (other x) (answer_filter test b other xs all.1)
    where
      by : (c : Bool) → Answer test b (filter other xs) → Answer test b (cond c (x ∷ filter other xs) (filter other xs))
      by true rest = (all.0, rest)
      by false rest = rest

  -- one answer implies another
  pub answer_by : (test : X → Bool) (b : Bool) (other : X → Bool) (c : Bool) (xs : List X) → ((x : X) → test x ≡ b → other x ≡ c) → Answer test b xs → Answer other c xs
  answer_by test b other c [] implies all = tt
  answer_by test b other c (x ∷ xs) implies all = (implies x all.0, answer_by test b other c xs implies all.1)

  pub any_none : (test : X → Bool) (xs : List X) → Answer test false xs → list_any test xs ≡ false
  any_none test [] all = refl
  any_none test (x ∷ xs) all = rw (all.0) (any_none test xs all.1)

  find_none : (test : X → Bool) (xs : List X) → Answer test false xs → find test xs ≡ None
  find_none test [] all = refl
  find_none test (x ∷ xs) all = rw (all.0) (find_none test xs all.1)

  found_none : (o : Option X) → option_or o None ≡ o
  found_none None = refl
  found_none (Some x) = refl

  -- what is asked of the three is asked of the one between
  pub any_between : (test : X → Bool) (front middle back : List X) → Answer test false front → Answer test false back → list_any test (front ++ middle ++ back) ≡ list_any test middle
  any_between test front middle back before after =
      list_any-append test (front ++ middle) back ∙ ap (λ b. list_any test (front ++ middle) || b) (any_none test back after) ∙ or_none (list_any test (front ++ middle))
      ∙ list_any-append test front middle ∙ ap (λ b. b || list_any test middle) (any_none test front before)

  pub filter_between : (test : X → Bool) (front middle back : List X) → Answer test false front → Answer test false back → filter test (front ++ middle ++ back) ≡ filter test middle
  filter_between test front middle back before after =
      filter-append test (front ++ middle) back ∙ ap (λ ys. filter test (front ++ middle) ++ ys) (filter_none test back after) ∙ append-nil (filter test (front ++ middle))
      ∙ filter-append test front middle ∙ ap (λ ys. ys ++ filter test middle) (filter_none test front before)

  pub find_between : (test : X → Bool) (front middle back : List X) → Answer test false front → Answer test false back → find test (front ++ middle ++ back) ≡ find test middle
  find_between test front middle back before after =
      find-append test (front ++ middle) back ∙ ap (λ o. option_or (find test (front ++ middle)) o) (find_none test back after) ∙ found_none (find test (front ++ middle))
      ∙ find-append test front middle ∙ ap (λ o. option_or o (find test middle)) (find_none test front before)

  -- so it is after the first of two
  pub any_behind : (test : X → Bool) (front rest : List X) → Answer test false front → list_any test (front ++ rest) ≡ list_any test rest
  any_behind test front rest before = list_any-append test front rest ∙ ap (λ b. b || list_any test rest) (any_none test front before)

  pub filter_behind : (test : X → Bool) (front rest : List X) → Answer test false front → filter test (front ++ rest) ≡ filter test rest
  filter_behind test front rest before = filter-append test front rest ∙ ap (λ ys. ys ++ filter test rest) (filter_none test front before)

  pub find_behind : (test : X → Bool) (front rest : List X) → Answer test false front → find test (front ++ rest) ≡ find test rest
  find_behind test front rest before = find-append test front rest ∙ ap (λ o. option_or o (find test rest)) (find_none test front before)

  -- a filter that keeps all that pass a test changes no answer
  pub any_filter : (test kept : X → Bool) (xs : List X) → ((x : X) → test x ≡ true → kept x ≡ true) → list_any test (filter kept xs) ≡ list_any test xs
  any_filter test kept [] keeps = refl
  any_filter test kept (x ∷ xs) keeps = by (kept x) (keeps x) (any_filter test kept xs keeps)
    where
      off : (b : Bool) → (b ≡ true → false ≡ true) → list_any test (filter kept xs) ≡ list_any test xs → list_any test (filter kept xs) ≡ (b || list_any test xs)
      off true implies rest = let clash : false ≡ true = implies refl in cc
      off false implies rest = rest

      by : (k : Bool) → (test x ≡ true → k ≡ true) → list_any test (filter kept xs) ≡ list_any test xs → list_any test (cond k (x ∷ filter kept xs) (filter kept xs)) ≡ (test x || list_any test xs)
      by true implies rest = ap (λ b. test x || b) rest
      by false implies rest = off (test x) implies rest

  -- of two parts that a test makes the one or the other passes another
  pub any_parts : (test kept : X → Bool) (xs : List X) → (list_any test (filter kept xs) || list_any test (filter (λ x. not (kept x)) xs)) ≡ list_any test xs
  any_parts test kept [] = refl
  any_parts test kept (x ∷ xs) = by (kept x) (any_parts test kept xs)
    where
      deeper : (a b c d : Bool) → (b || c) ≡ d → ((a || b) || c) ≡ (a || d)
      deeper true b c d e = refl
      deeper false b c d e = e

      aside : (a b c d : Bool) → (b || c) ≡ d → (b || (a || c)) ≡ (a || d)
      aside true true c d e = refl
      aside true false c d e = refl
      aside false b c d e = e

      by : (k : Bool) → (list_any test (filter kept xs) || list_any test (filter (λ x. not (kept x)) xs)) ≡ list_any test xs →
          (list_any test (cond k (x ∷ filter kept xs) (filter kept xs)) || list_any test (cond (not k) (x ∷ filter (λ x. not (kept x)) xs) (filter (λ x. not (kept x)) xs))) ≡ (test x || list_any test xs)
      by true rest = deeper (test x) (list_any test (filter kept xs)) (list_any test (filter (λ x. not (kept x)) xs)) (list_any test xs) rest
      by false rest = aside (test x) (list_any test (filter kept xs)) (list_any test (filter (λ x. not (kept x)) xs)) (list_any test xs) rest

  -- a block that is put in the middle part of four is put in all of them
  pub filters_meet : (stays before : X → Bool) (front own inner back block : List X) →
      Answer stays true front → Answer stays true own → Answer stays true back → Answer before true front → Answer before true own → Answer before false back →
      filter before (filter stays (front ++ (own ++ inner) ++ back)) ++ block ++ filter (λ x. not (before x)) (filter stays (front ++ (own ++ inner) ++ back))
      ≡ front ++ (own ++ (filter before (filter stays inner) ++ block ++ filter (λ x. not (before x)) (filter stays inner))) ++ back
  filters_meet stays before front own inner back block stay_front stay_own stay_back on_front on_own on_back =
      let others = filter stays inner in
      let left : filter stays (front ++ (own ++ inner) ++ back) ≡ front ++ (own ++ others) ++ back =
      filter-append stays (front ++ (own ++ inner)) back
      ∙ (λ i. filter-append stays front (own ++ inner) i ++ filter_all stays back stay_back i)
      ∙ (λ i. (filter_all stays front stay_front i ++ filter-append stays own inner i) ++ back)
      ∙ (λ i. (front ++ (filter_all stays own stay_own i ++ others)) ++ back) in
      let fronts : filter before (front ++ (own ++ others) ++ back) ≡ front ++ (own ++ filter before others) =
      filter-append before (front ++ (own ++ others)) back
      ∙ ap (λ ys. filter before (front ++ (own ++ others)) ++ ys) (filter_none before back on_back)
      ∙ append-nil (filter before (front ++ (own ++ others)))
      ∙ filter-append before front (own ++ others)
      ∙ (λ i. filter_all before front on_front i ++ filter-append before own others i)
      ∙ (λ i. front ++ (filter_all before own on_own i ++ filter before others)) in
      let behind : X → Bool = λ x. not (before x) in
      let backs : filter behind (front ++ (own ++ others) ++ back) ≡ filter behind others ++ back =
      filter-append behind (front ++ (own ++ others)) back
      ∙ (λ i. filter-append behind front (own ++ others) i ++ filter_rest before back on_back i)
      ∙ (λ i. (filter_gone before front on_front i ++ filter-append behind own others i) ++ back)
      ∙ (λ i. (filter_gone before own on_own i ++ filter behind others) ++ back) in
      (λ i. filter before (left i) ++ block ++ filter behind (left i))
      ∙ (λ i. fronts i ++ block ++ backs i)
      ∙ sym (append_assoc (front ++ (own ++ filter before others) ++ block) (filter behind others) back)
      ∙ ap (λ ys. ys ++ filter behind others ++ back) (append_assoc front (own ++ filter before others) block ∙ ap (λ ys. front ++ ys) (append_assoc own (filter before others) block))
      ∙ ap (λ ys. ys ++ back) (append_assoc front (own ++ (filter before others ++ block)) (filter behind others) ∙ ap (λ ys. front ++ ys) (append_assoc own (filter before others ++ block) (filter behind others)))
