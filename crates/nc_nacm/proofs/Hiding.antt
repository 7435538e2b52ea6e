-- What hides a row: a node on its path at which reading is not permitted.
use Rattle.std.proofs.Common.{◌≡◌, ◌+◌, ◌<◌, ◌≤◌, ◌==◌, ◌&&◌, ◌||◌, not, get_or, ℕ, zero, suc, Bool, true, false, cond, List, [], ◌∷◌, ◌++◌, length, take, map, refl, sym, ap, subst, ◌∙◌, arith, Bor}
use Rattle.std.proofs.lemmas.Bool.{eqb-false}
use Rattle.std.proofs.lemmas.List.{get_or-map, length-map, take_all, take_more}
use Rattle.std.proofs.lemmas.List.Folds.{list_all-append, list_any-append}
use Rattle.std.specs.List.{filter, list_all, list_any, starts_with}
use Rattle.nc_names.specs.Same.{is_same_step, is_at_or_below}
use Rattle.nc_names.specs.declared.path.Row.{Row}
use Rattle.nc_names.specs.declared.path.Step.{Step}
use Rattle.nc_names.proofs.SameLemmas.{first_true, second_true, step_decide, step_itself}
use Rattle.nc_model.specs.Sight.{beginnings}
use Rattle.nc_nacm.specs.inner.Hidden.{rows_beside, rows_read}
use Rattle.nc_nacm.specs.inner.Trails.{IsTrail}
use Rattle.nc_nacm.proofs.Trails.{seen_whole}

and_false : (a : Bool) → (a && false) ≡ false
and_false true = refl
and_false false = refl

first_false : (a b : Bool) → (a || b) ≡ false → a ≡ false
first_false true b e = absurd (cc)
first_false false b e = refl

second_false : (a b : Bool) → (a || b) ≡ false → b ≡ false
second_false true b e = absurd (cc)
second_false false b e = e

all_map : {X Y : Type 0} (p : Y → Bool) (f : X → Y) (xs : List X) → list_all p (map f xs) ≡ list_all (λ x. p (f x)) xs
all_map p f [] = refl
all_map p f (x ∷ xs) = ap (λ more. p (f x) && more) (all_map p f xs)

-- no steps, which lead to no node
abbrev pub is_top : List Step → Bool
is_top [] = true
is_top (step ∷ steps) = false

-- ---- a node that is not read, and what stands at it and below it
pub unread_hides : (p : List Step → Bool) (node steps : List Step) → is_top node ≡ false → p node ≡ false →
    starts_with is_same_step steps node ≡ true → list_all p (beginnings steps) ≡ false
unread_hides p [] steps some unread under = absurd (cc)
unread_hides p (step ∷ []) [] some unread under = absurd (cc)
unread_hides p (step ∷ []) (other ∷ rest) some unread under =
    let same : step ≡ other = (step_decide step other).0 (first_true (is_same_step step other) _ under) in
    let here : p (other ∷ []) ≡ false = ap (λ one. p (one ∷ [])) (sym same) ∙ unread in
    ap (λ b. b && list_all p (map (λ above. other ∷ above) (beginnings rest))) here
unread_hides p (step ∷ next ∷ node) [] some unread under = absurd (cc)
unread_hides p (step ∷ next ∷ node) (other ∷ rest) some unread under =
    let same : step ≡ other = (step_decide step other).0 (first_true (is_same_step step other) _ under) in
    let unread_below : p (other ∷ next ∷ node) ≡ false = ap (λ one. p (one ∷ next ∷ node)) (sym same) ∙ unread in
    let below : list_all (λ above. p (other ∷ above)) (beginnings rest) ≡ false =
    unread_hides (λ above. p (other ∷ above)) (next ∷ node) rest refl unread_below (second_true (is_same_step step other) _ under) in
    ap (λ b. p (other ∷ []) && b) (all_map p (λ above. other ∷ above) (beginnings rest) ∙ below) ∙ and_false (p (other ∷ []))

-- a node is read, or there is none
abbrev pub may_show : (List Step → Bool) → List Step → Bool
may_show p node = p node || is_top node

hidden_row : (p : List Step → Bool) (nodes : List (List Step)) (row : Row) → list_any (may_show p) nodes ≡ false →
    list_any (λ node. is_at_or_below node row.path) nodes ≡ true → list_all p (beginnings row.path.steps) ≡ false
hidden_row p [] row unread under = absurd (cc)
hidden_row p (node ∷ nodes) row unread under =
    by (is_at_or_below node row.path) refl (hidden_row p nodes row (second_false (may_show p node) _ unread))
  where
    by : (b : Bool) → is_at_or_below node row.path ≡ b →
        (list_any (λ one. is_at_or_below one row.path) nodes ≡ true → list_all p (beginnings row.path.steps) ≡ false) →
        list_all p (beginnings row.path.steps) ≡ false
    by true e more =
        let hides : may_show p node ≡ false = first_false (may_show p node) _ unread in
        unread_hides p node row.path.steps (second_false (p node) _ hides) (first_false (p node) _ hides) e
    by false e more = more (ap (λ b. b || list_any (λ one. is_at_or_below one row.path) nodes) (sym e) ∙ under)

-- a row is read, or stands at one of some nodes or below it
abbrev pub is_told : (List Step → Bool) → List (List Step) → Row → Bool
is_told p nodes row = list_all p (beginnings row.path.steps) || list_any (λ node. is_at_or_below node row.path) nodes

-- where none of the nodes is read, and each row that is not read stands there, the rows beside them are those that are read
pub beside_read : (p : List Step → Bool) (nodes : List (List Step)) (rows : List Row) → list_any (may_show p) nodes ≡ false →
    list_all (is_told p nodes) rows ≡ true → rows_beside nodes rows ≡ rows_read p rows
beside_read p nodes [] unread told = refl
beside_read p nodes (row ∷ rows) unread told =
    by (list_any (λ node. is_at_or_below node row.path) nodes) (list_all p (beginnings row.path.steps)) refl refl
    (beside_read p nodes rows unread (second_true (is_told p nodes row) _ told))
  where
    here : is_told p nodes row ≡ true
    here = first_true (is_told p nodes row) _ told

    by : (under seen : Bool) → list_any (λ node. is_at_or_below node row.path) nodes ≡ under → list_all p (beginnings row.path.steps) ≡ seen →
        rows_beside nodes rows ≡ rows_read p rows → rows_beside nodes (row ∷ rows) ≡ rows_read p (row ∷ rows)
    by true true e f rest = absurd (let clash : true ≡ false = sym f ∙ hidden_row p nodes row unread e in cc)
    by true false e f rest =
        ap (λ b. cond (not b) (row ∷ rows_beside nodes rows) (rows_beside nodes rows)) e ∙ rest
        ∙ ap (λ b. cond b (row ∷ rows_read p rows) (rows_read p rows)) (sym f)
    by false true e f rest =
        ap (λ b. cond (not b) (row ∷ rows_beside nodes rows) (rows_beside nodes rows)) e ∙ ap (λ more. row ∷ more) rest
        ∙ ap (λ b. cond b (row ∷ rows_read p rows) (rows_read p rows)) (sym f)
    by false false e f rest =
        absurd (let clash : false ≡ true = sym (ap (λ b. b || list_any (λ node. is_at_or_below node row.path) nodes) f ∙ e) ∙ here in cc)

-- ---- one row more
-- the first node on a path at which reading is not permitted
abbrev pub stop_of : List Step → ℕ → List Step
stop_of steps seen = take (seen + 1) steps

some_stop : (steps : List Step) (seen : ℕ) → seen < length steps → is_top (stop_of steps seen) ≡ false
some_stop [] seen within = absurd (omega (arith, within))
some_stop (step ∷ steps) seen within =
    ap is_top (take_more (step ∷ steps) seen step within) ∙ ends (take seen (step ∷ steps)) (get_or (step ∷ steps) seen step)
  where
    ends : (front : List Step) (last : Step) → is_top (front ++ last ∷ []) ≡ false
    ends [] last = refl
    ends (first ∷ front) last = refl

stop_above : (steps : List Step) (n : ℕ) → n ≤ length steps → starts_with is_same_step steps (take n steps) ≡ true
stop_above steps zero within = refl
stop_above [] (suc n) within = absurd (omega (arith, within))
stop_above (step ∷ steps) (suc n) within =
    ap (λ b. b && starts_with is_same_step steps (take n steps)) (step_itself step) ∙ stop_above steps n (omega (arith, within))

-- nodes, with that at which a path stops where it does
abbrev pub HasStop : List (List Step) → List (List Step) → List Step → ℕ → Type 0
HasStop new nodes steps seen =
    (test : List Step → Bool) → list_any test new ≡ (list_any test nodes || not (seen == length steps) && test (stop_of steps seen))

stops_before : (steps : List Step) (seen : ℕ) → seen ≤ length steps → (seen == length steps) ≡ false → seen < length steps
stops_before steps seen within other =
    let differ : seen ≡ length steps → ⊥ = eqb-false seen (length steps) other in
    omega (arith, within, differ)

pub still_unread : (p : List Step → Bool) (steps : List Step) (seen : ℕ) (nodes new : List (List Step)) → IsTrail p steps seen → HasStop new nodes steps seen →
    list_any (may_show p) nodes ≡ false → list_any (may_show p) new ≡ false
still_unread p steps seen nodes new trail has unread =
    has (may_show p) ∙ ap (λ b. b || not (seen == length steps) && may_show p (stop_of steps seen)) unread ∙ by (seen == length steps) refl
  where
    by : (b : Bool) → (seen == length steps) ≡ b → (not (seen == length steps) && may_show p (stop_of steps seen)) ≡ false
    by true e = ap (λ b. not b && may_show p (stop_of steps seen)) e
    by false e =
        let less : seen < length steps = stops_before steps seen trail.within e in
        let unread_here : may_show p (stop_of steps seen) ≡ false =
        ap (λ b. b || is_top (stop_of steps seen)) (trail.there less) ∙ some_stop steps seen less in
        ap (λ b. not (seen == length steps) && b) unread_here ∙ and_false (not (seen == length steps))

all_weaker : {X : Type 0} (p q : X → Bool) (xs : List X) → ((x : X) → p x ≡ true → q x ≡ true) → list_all p xs ≡ true → list_all q xs ≡ true
all_weaker p q [] go all = refl
all_weaker p q (x ∷ xs) go all =
    ap (λ b. b && list_all q xs) (go x (first_true (p x) _ all)) ∙ all_weaker p q xs go (second_true (p x) _ all)

or_more : (a b c d : Bool) → d ≡ (b || c) → (a || b) ≡ true → (a || d) ≡ true
or_more true b c d is e = refl
or_more false true c d is e = is
or_more false false c d is e = absurd (cc)

told_here : (p : List Step → Bool) (row : Row) (seen : ℕ) (nodes new : List (List Step)) → IsTrail p row.path.steps seen → HasStop new nodes row.path.steps seen →
    is_told p new row ≡ true
told_here p row seen nodes new trail has = by (seen == length row.path.steps) refl
  where
    or_true : (a : Bool) → (a || true) ≡ true
    or_true true = refl
    or_true false = refl

    by : (b : Bool) → (seen == length row.path.steps) ≡ b → is_told p new row ≡ true
    by true e =
        ap (λ b. b || list_any (λ node. is_at_or_below node row.path) new) (sym (seen_whole p row.path.steps seen trail) ∙ e)
    by false e =
        let less : seen < length row.path.steps = stops_before row.path.steps seen trail.within e in
        let under : starts_with is_same_step row.path.steps (stop_of row.path.steps seen) ≡ true =
        stop_above row.path.steps (seen + 1) (omega (arith, less)) in
        let found : list_any (λ node. is_at_or_below node row.path) new ≡ true =
        has (λ node. is_at_or_below node row.path)
        ∙ ap (λ b. list_any (λ node. is_at_or_below node row.path) nodes || not b && starts_with is_same_step row.path.steps (stop_of row.path.steps seen)) e
        ∙ ap (λ b. list_any (λ node. is_at_or_below node row.path) nodes || b) under
        ∙ or_true (list_any (λ node. is_at_or_below node row.path) nodes) in
        ap (λ b. list_all p (beginnings row.path.steps) || b) found ∙ or_true (list_all p (beginnings row.path.steps))

-- one element more of what is referred to
pub one_taken : {X : Type 0} (xs : List (Bor X)) (i : ℕ) (x : Bor X) → i < length xs → x ≡ get_or xs i x →
    take (i + 1) (map (λ (one : Bor X). one.now) xs) ≡ take i (map (λ (one : Bor X). one.now) xs) ++ x.now ∷ []
one_taken xs i x within is =
    take_more (map (λ (one : Bor _). one.now) xs) i x.now (omega (arith, length-map xs (λ (one : Bor _). one.now), within))
    ∙ ap (λ one. take i (map (λ (some : Bor _). some.now) xs) ++ one ∷ [])
    (get_or-map (λ (one : Bor _). one.now) xs i x x.now within ∙ ap (λ (one : Bor _). one.now) (sym is))

pub told_more : (p : List Step → Bool) (rows : List (Bor Row)) (i : ℕ) (row : Bor Row) (steps : List Step) (seen : ℕ) (nodes new : List (List Step)) →
    i < length rows → row ≡ get_or rows i row → steps ≡ row.now.path.steps → IsTrail p steps seen → HasStop new nodes steps seen →
    list_all (is_told p nodes) (take i (map (λ (one : Bor Row). one.now) rows)) ≡ true →
    list_all (is_told p new) (take (i + 1) (map (λ (one : Bor Row). one.now) rows)) ≡ true
told_more p rows i row steps seen nodes new within is steps_are trail has all =
    let all_rows : List Row = map (λ (one : Bor Row). one.now) rows in
    let more : take (i + 1) all_rows ≡ take i all_rows ++ row.now ∷ [] = one_taken rows i row within is in
    let trail_here : IsTrail p row.now.path.steps seen = subst (λ some. IsTrail p some seen) steps_are trail in
    let has_here : HasStop new nodes row.now.path.steps seen = subst (λ some. HasStop new nodes some seen) steps_are has in
    let before : list_all (is_told p new) (take i all_rows) ≡ true =
    all_weaker (is_told p nodes) (is_told p new) (take i all_rows)
    (λ one told. or_more (list_all p (beginnings one.path.steps)) _ _ _ (has (λ node. is_at_or_below node one.path)) told) all in
    ap (list_all (is_told p new)) more
    ∙ list_all-append (is_told p new) (take i all_rows) (row.now ∷ [])
    ∙ ap (λ b. b && (is_told p new row.now && true)) before
    ∙ ap (λ b. b && true) (told_here p row.now seen nodes new trail_here has_here)

pub all_told : (p : List Step → Bool) (rows : List (Bor Row)) (i : ℕ) (nodes : List (List Step)) → length rows ≤ i → list_any (may_show p) nodes ≡ false →
    list_all (is_told p nodes) (take i (map (λ (one : Bor Row). one.now) rows)) ≡ true →
    rows_beside nodes (map (λ (one : Bor Row). one.now) rows) ≡ rows_read p (map (λ (one : Bor Row). one.now) rows)
all_told p rows i nodes past unread all =
    let all_rows : List Row = map (λ (one : Bor Row). one.now) rows in
    let whole : take i all_rows ≡ all_rows = take_all i all_rows (omega (arith, length-map rows (λ (one : Bor Row). one.now), past)) in
    beside_read p nodes all_rows unread (ap (list_all (is_told p nodes)) (sym whole) ∙ all)

-- ---- the node that was added last
pub last_found : {X : Type 0} (test : X → Bool) (front : List X) (x y : X) → x ≡ y → test y ≡ true → list_any test (front ++ x ∷ []) ≡ true
last_found test [] x y same e = ap (λ b. b || false) (ap test same ∙ e)
last_found test (z ∷ front) x y same e = ap (λ b. test z || b) (last_found test front x y same e) ∙ by (test z)
  where
    by : (b : Bool) → (b || true) ≡ true
    by true = refl
    by false = refl

-- ---- nodes taken out one after another
filter_and : {X : Type 0} (p q r : X → Bool) (xs : List X) → ((x : X) → r x ≡ (p x && q x)) → filter q (filter p xs) ≡ filter r xs
filter_and p q r [] are = refl
filter_and p q r (x ∷ xs) are = by (p x) (q x) refl refl (filter_and p q r xs are)
  where
    by : (a b : Bool) → p x ≡ a → q x ≡ b → filter q (filter p xs) ≡ filter r xs → filter q (filter p (x ∷ xs)) ≡ filter r (x ∷ xs)
    by false b e f more =
        ap (λ c. filter q (cond c (x ∷ filter p xs) (filter p xs))) e ∙ more
        ∙ ap (λ c. cond c (x ∷ filter r xs) (filter r xs)) (sym (are x ∙ ap (λ c. c && q x) e))
    by true b e f more =
        ap (λ c. filter q (cond c (x ∷ filter p xs) (filter p xs))) e
        ∙ ap (λ some. cond (q x) (x ∷ some) some) more
        ∙ ap (λ c. cond c (x ∷ filter r xs) (filter r xs)) (sym (are x ∙ ap (λ c. c && q x) e))

not_or : (a b : Bool) → not (a || b) ≡ (not a && not b)
not_or true b = refl
not_or false b = refl

or_none : (b : Bool) → (b || false) ≡ b
or_none true = refl
or_none false = refl

pub beside_none : (rows : List Row) → rows ≡ rows_beside [] rows
beside_none [] = refl
beside_none (row ∷ rows) = ap (λ more. row ∷ more) (beside_none rows)

pub beside_more : (nodes : List (Bor (List Step))) (i : ℕ) (node : Bor (List Step)) (steps : List Step) (rows was now : List Row) →
    i < length nodes → node ≡ get_or nodes i node → steps ≡ node.now →
    was ≡ rows_beside (take i (map (λ (one : Bor (List Step)). one.now) nodes)) rows → now ≡ filter (λ row. not (starts_with is_same_step row.path.steps steps)) was →
    now ≡ rows_beside (take (i + 1) (map (λ (one : Bor (List Step)). one.now) nodes)) rows
beside_more nodes i node steps rows was now within is steps_are so put =
    let all_nodes : List (List Step) = map (λ (one : Bor (List Step)). one.now) nodes in
    put ∙ ap (λ some. filter (λ (row : Row). not (starts_with is_same_step row.path.steps some)) was) steps_are
    ∙ ap (filter (λ (row : Row). not (is_at_or_below node.now row.path))) so
    ∙ filter_and _ _ (λ (row : Row). not (list_any (λ one. is_at_or_below one row.path) (take (i + 1) all_nodes))) rows
    (λ row. ap (λ some. not (list_any (λ one. is_at_or_below one row.path) some)) (one_taken nodes i node within is)
    ∙ ap not (list_any-append (λ one. is_at_or_below one row.path) (take i all_nodes) (node.now ∷ []))
    ∙ not_or (list_any (λ one. is_at_or_below one row.path) (take i all_nodes)) (is_at_or_below node.now row.path || false)
    ∙ ap (λ b. not (list_any (λ one. is_at_or_below one row.path) (take i all_nodes)) && not b) (or_none (is_at_or_below node.now row.path)))

pub copied_more : (rows : List (Bor Row)) (i : ℕ) (row : Bor Row) (one : Row) (was now : List Row) → i < length rows → row ≡ get_or rows i row →
    one ≡ row.now → was ≡ take i (map (λ (some : Bor Row). some.now) rows) → now ≡ was ++ one ∷ [] →
    now ≡ take (i + 1) (map (λ (some : Bor Row). some.now) rows)
copied_more rows i row one was now within is same so put =
    put ∙ ap (λ front. front ++ one ∷ []) so ∙ ap (λ last. take i (map (λ (some : Bor Row). some.now) rows) ++ last ∷ []) same
    ∙ sym (one_taken rows i row within is)
