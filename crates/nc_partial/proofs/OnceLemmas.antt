-- Each of several nodes once, where it stands first.
use Rattle.std.proofs.Common.{◌≡◌, ◌<◌, ◌≤◌, ◌+◌, ◌&&◌, ◌++◌, ℕ, Bool, true, false, cond, not, List, [], ◌∷◌, length, drop, get_or, refl, sym, ap, ◌∙◌, append-nil}
use Rattle.std.proofs.lemmas.List.{append_assoc}
use Rattle.std.specs.BTreeSet.{BTreeSet, contains}
use Rattle.std.specs.List.{filter}
use Rattle.std.specs.Ordering.{is_eq}
use Rattle.nc_names.proofs.StepOrder.{order_ties, same_itself, same_path}
use Rattle.nc_names.specs.Same.{is_same_path}
use Rattle.nc_names.specs.declared.path.Path.{Path}
use Rattle.nc_names.specs.declared.path.Step.{Step}
use Rattle.nc_schema.proofs.GivenLemmas.{item_there, nothing_left}
use Rattle.nc_model.specs.Verdict.{each_once}
use Rattle.nc_partial.specs.inner.Entries.{steps_cmp}

-- a node is not among those that were seen
abbrev pub is_new : BTreeSet (List Step) → Path → Bool
is_new seen path = not (contains steps_cmp seen path.steps)

-- what is still to come of the nodes
abbrev pub rest_once : BTreeSet (List Step) → List Path → List Path
rest_once seen paths = filter (is_new seen) (each_once paths)

pulled : {X : Type 0} (f : X → Bool) (x : X) (xs : List X) (taken : Bool) →
    filter f (cond taken (x ∷ xs) xs) ≡ cond taken (cond (f x) (x ∷ filter f xs) (filter f xs)) (filter f xs)
pulled f x xs true = refl
pulled f x xs false = refl

both : {X : Type 0} (x : X) (xs : List X) (taken kept : Bool) →
    cond taken (cond kept (x ∷ xs) xs) xs ≡ cond (taken && kept) (x ∷ xs) xs
both x xs true kept = refl
both x xs false kept = refl

pub filter_twice : {X : Type 0} (f g h : X → Bool) (xs : List X) → ((x : X) → (g x && f x) ≡ h x) → filter f (filter g xs) ≡ filter h xs
filter_twice f g h [] same = refl
filter_twice f g h (x ∷ xs) same =
    pulled f x (filter g xs) (g x) ∙ both x (filter f (filter g xs)) (g x) (f x)
    ∙ (λ i. cond (same x i) (x ∷ filter_twice f g h xs same i) (filter_twice f g h xs same i))

kept_all : {X : Type 0} (test : X → Bool) (xs : List X) → ((x : X) → test x ≡ true) → filter test xs ≡ xs
kept_all test [] each = refl
kept_all test (x ∷ xs) each = (λ i. cond (each x i) (x ∷ kept_all test xs each i) (kept_all test xs each i))

pub same_turned : (a b : List Step) → is_same_path a b ≡ is_same_path b a
same_turned a b = by (is_same_path a b) (is_same_path b a)
    (λ is. same_itself b a (sym (same_path a b is))) (λ is. same_itself a b (sym (same_path b a is)))
  where
    by : (one other : Bool) → (one ≡ true → other ≡ true) → (other ≡ true → one ≡ true) → one ≡ other
    by true other there back = sym (there refl)
    by false true there back = back refl
    by false false there back = refl

-- the node that is looked at, and what comes after it
abbrev pub other_than : Path → Path → Bool
other_than path other = not (is_same_path other.steps path.steps)

was_seen : (seen : BTreeSet (List Step)) (path other : Path) → contains steps_cmp seen path.steps ≡ true →
    (other_than path other && is_new seen other) ≡ is_new seen other
was_seen seen path other has = by (is_same_path other.steps path.steps) refl
  where
    by : (same : Bool) → is_same_path other.steps path.steps ≡ same → (not same && is_new seen other) ≡ is_new seen other
    by true is = sym (ap (λ steps. not (contains steps_cmp seen steps)) (same_path other.steps path.steps is) ∙ ap not has)
    by false is = refl

step_again : (seen : BTreeSet (List Step)) (path : Path) (rest : List Path) → contains steps_cmp seen path.steps ≡ true →
    rest_once seen (path ∷ rest) ≡ rest_once seen rest
step_again seen path rest has =
    let more : List Path = filter (is_new seen) (filter (other_than path) (each_once rest)) in
    ap (λ (is : Bool). cond (not is) (path ∷ more) more) has
    ∙ filter_twice (is_new seen) (other_than path) (is_new seen) (each_once rest) (λ other. was_seen seen path other has)

now_seen : (seen after : BTreeSet (List Step)) (path other : Path) →
    ((key : List Step) → contains steps_cmp after key ≡ cond (is_eq (steps_cmp path.steps key)) true (contains steps_cmp seen key)) →
    (other_than path other && is_new seen other) ≡ is_new after other
now_seen seen after path other put =
    turned (is_same_path other.steps path.steps) (contains steps_cmp seen other.steps)
    ∙ ap (λ is. not (cond is true (contains steps_cmp seen other.steps)))
    (same_turned other.steps path.steps ∙ sym (order_ties path.steps other.steps))
    ∙ ap not (sym (put other.steps))
  where
    turned : (same has : Bool) → (not same && not has) ≡ not (cond same true has)
    turned true has = refl
    turned false has = refl

step_first : (seen after : BTreeSet (List Step)) (path : Path) (rest : List Path) → contains steps_cmp seen path.steps ≡ false →
    ((key : List Step) → contains steps_cmp after key ≡ cond (is_eq (steps_cmp path.steps key)) true (contains steps_cmp seen key)) →
    rest_once seen (path ∷ rest) ≡ path ∷ rest_once after rest
step_first seen after path rest new put =
    let more : List Path = filter (is_new seen) (filter (other_than path) (each_once rest)) in
    ap (λ (is : Bool). cond (not is) (path ∷ more) more) new
    ∙ ap (λ (paths : List Path). path ∷ paths)
    (filter_twice (is_new seen) (other_than path) (is_new after) (each_once rest) (λ other. now_seen seen after path other put))

-- ---- the loop
pub none_seen : (paths : List Path) (seen : BTreeSet (List Step)) (nodes : List Path) → seen.keys ≡ [] → nodes ≡ [] →
    each_once paths ≡ nodes ++ rest_once seen (drop 0 paths)
none_seen paths seen nodes empty none =
    sym (kept_all (is_new seen) (each_once paths)
    (λ path. ap (λ (keys : List (List Step)). not (contains steps_cmp (record { keys = keys }) path.steps)) empty))
    ∙ ap (λ (ns : List Path). ns ++ rest_once seen paths) (sym none)

pub again : (paths : List Path) (i : ℕ) (seen : BTreeSet (List Step)) (path : Path) (nodes : List Path) →
    each_once paths ≡ nodes ++ rest_once seen (drop i paths) → i < length paths → path ≡ get_or paths i path →
    contains steps_cmp seen path.steps ≡ true → each_once paths ≡ nodes ++ rest_once seen (drop (i + 1) paths)
again paths i seen path nodes e less here has =
    e ∙ ap (λ xs. nodes ++ rest_once seen xs) (item_there paths i path less here)
    ∙ ap (λ xs. nodes ++ xs) (step_again seen path (drop (i + 1) paths) has)

pub first : (paths : List Path) (i : ℕ) (seen after : BTreeSet (List Step)) (path : Path) (nodes : List Path) →
    each_once paths ≡ nodes ++ rest_once seen (drop i paths) → i < length paths → path ≡ get_or paths i path →
    contains steps_cmp seen path.steps ≡ false →
    ((key : List Step) → contains steps_cmp after key ≡ cond (is_eq (steps_cmp path.steps key)) true (contains steps_cmp seen key)) →
    each_once paths ≡ (nodes ++ path ∷ []) ++ rest_once after (drop (i + 1) paths)
first paths i seen after path nodes e less here new put =
    e ∙ ap (λ xs. nodes ++ rest_once seen xs) (item_there paths i path less here)
    ∙ ap (λ xs. nodes ++ xs) (step_first seen after path (drop (i + 1) paths) new put)
    ∙ sym (append_assoc nodes (path ∷ []) (rest_once after (drop (i + 1) paths)))

pub all_once : (paths : List Path) (i : ℕ) (seen : BTreeSet (List Step)) (nodes : List Path) →
    each_once paths ≡ nodes ++ rest_once seen (drop i paths) → length paths ≤ i → nodes ≡ each_once paths
all_once paths i seen nodes e past =
    sym (e ∙ ap (λ xs. nodes ++ rest_once seen xs) (nothing_left paths i past) ∙ append-nil nodes)
