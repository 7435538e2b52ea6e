-- Marks of two paths that part are compared at the steps at which they do.
use Rattle.std.proofs.Common.{◌≡◌, ◌≢◌, ◌==◌, ◌&&◌, ◌||◌, ◌<◌, ℕ, Bool, true, false, cond, ltb, List, [], ◌∷◌, ◌++◌, Option, Some, None, refl, sym, ap, ◌∙◌, arith, append_assoc}
use Rattle.std.proofs.lemmas.Bool.{lt-ltb, le-ltb, false_from_ne_true}
use Rattle.std.proofs.lemmas.Bool.Decides.{Decides-eqb}
use Rattle.std.proofs.lemmas.Cmp.{lists_total, nat_cmp_total, nat_list_cmp_total, on_total, ranked, then_total, tied_itself}
use Rattle.std.proofs.lemmas.List.{append-nil}
use Rattle.std.specs.Cmp.{IsTotalOrder}
use Rattle.std.specs.Cmp.Lexicographic.{slice_cmp}
use Rattle.std.specs.FinMap.{slice_cmp-IsAntisymmetric, nat_cmp-IsAntisymmetric}
use Rattle.std.specs.Ordering.{is_lt, nat_cmp, ordering_then, MatchOrdering}
use Rattle.std.specs.declared.cmp.Ordering.{Ordering}
use Rattle.std.specs.declared.cmp.Ordering.TheVariants.{Less, Equal, Greater}
use Rattle.nc_names.specs.declared.path.Step.{Step}
use Rattle.nc_schema.proofs.OrderLemmas.{same_node}
use Rattle.nc_schema.specs.Order.{keys_above, sibling_place}
use Rattle.nc_schema.specs.Standing.{entry_before, is_by_user, is_less, sibling_before, stands_before}
use Rattle.nc_schema.specs.Tables.{Tables}
use Rattle.nc_protocol.proofs.PathViews.{node_after}
use Rattle.nc_payload.specs.contracts.marks.MarkOrd.TheImpl.{ghosts as of_marks}
use Rattle.nc_payload.specs.declared.marks.Mark.{Mark}
use Rattle.nc_payload.specs.inner.Marks.{in_marks, mark, marks, marks_from}

pub mark_total : IsTotalOrder of_marks.cmp
mark_total =
    then_total (on_total (λ (m : Mark). m.place) nat_cmp_total)
    (then_total (on_total (λ (m : Mark). m.turn) nat_cmp_total) (on_total (λ (m : Mark). m.keys) (lists_total nat_list_cmp_total)))

pub marks_total : IsTotalOrder in_marks
marks_total = lists_total mark_total

-- ---- the marks of steps joined
marks_append : (tables : Tables) (turn : List Step → ℕ) (at : Option ℕ) (above xs ys : List Step) →
    marks_from tables turn at above (xs ++ ys) ≡ marks_from tables turn at above xs ++ marks_from tables turn (node_after at xs) (above ++ xs) ys
marks_append tables turn at above [] ys = ap (λ (some : List Step). marks_from tables turn at some ys) (sym (append-nil above))
marks_append tables turn at above (x ∷ xs) ys =
    ap (λ (more : List Mark). mark tables turn at (above ++ x ∷ []) x ∷ more)
    (marks_append tables turn (Some x.node) (above ++ x ∷ []) xs ys
    ∙ ap (λ (some : List Step). marks_from tables turn (Some x.node) (above ++ x ∷ []) xs ++ marks_from tables turn (node_after (Some x.node) xs) some ys) (append_assoc above (x ∷ []) xs))

after_common : (ms xs ys : List Mark) → in_marks (ms ++ xs) (ms ++ ys) ≡ in_marks xs ys
after_common [] xs ys = refl
after_common (m ∷ ms) xs ys = ap (λ o. ordering_then o (in_marks (ms ++ xs) (ms ++ ys))) (tied_itself mark_total m) ∙ after_common ms xs ys

-- two siblings, by their marks
abbrev pub sides : Tables → (List Step → ℕ) → List Step → Step → Step → Ordering
sides tables turn common x y =
    of_marks.cmp (mark tables turn (node_after None common) (common ++ x ∷ []) x) (mark tables turn (node_after None common) (common ++ y ∷ []) y)

decided : (o p : Ordering) → o ≢ Equal → ordering_then o p ≡ o
decided Less p differ = refl
decided Equal p differ = absurd (differ refl)
decided Greater p differ = refl

pub parting_marks : (tables : Tables) (turn : List Step → ℕ) (common : List Step) (x y : Step) (more others : List Step) → sides tables turn common x y ≢ Equal →
    in_marks (marks tables turn (common ++ x ∷ more)) (marks tables turn (common ++ y ∷ others)) ≡ sides tables turn common x y
parting_marks tables turn common x y more others differ =
    (λ i. in_marks (marks_append tables turn None [] common (x ∷ more) i) (marks_append tables turn None [] common (y ∷ others) i))
    ∙ after_common (marks tables turn common) (marks_from tables turn (node_after None common) common (x ∷ more)) (marks_from tables turn (node_after None common) common (y ∷ others))
    ∙ decided (sides tables turn common x y) (in_marks (marks_from tables turn (Some x.node) (common ++ x ∷ []) more) (marks_from tables turn (Some y.node) (common ++ y ∷ []) others)) differ

pub last_marks : (tables : Tables) (turn : List Step → ℕ) (common : List Step) (x y : Step) →
    in_marks (marks tables turn (common ++ x ∷ [])) (marks tables turn (common ++ y ∷ [])) ≡ sides tables turn common x y
last_marks tables turn common x y =
    (λ i. in_marks (marks_append tables turn None [] common (x ∷ []) i) (marks_append tables turn None [] common (y ∷ []) i))
    ∙ after_common (marks tables turn common) (marks_from tables turn (node_after None common) common (x ∷ [])) (marks_from tables turn (node_after None common) common (y ∷ []))
    ∙ then_equal (sides tables turn common x y)
  where
    then_equal : (o : Ordering) → ordering_then o Equal ≡ o
    then_equal Less = refl
    then_equal Equal = refl
    then_equal Greater = refl

shorter : (ms : List Mark) (m : Mark) (more : List Mark) → in_marks ms (ms ++ m ∷ more) ≡ Less
shorter [] m more = refl
shorter (n ∷ ms) m more = ap (λ o. ordering_then o (in_marks ms (ms ++ m ∷ more))) (tied_itself mark_total n) ∙ shorter ms m more

pub higher_marks : (tables : Tables) (turn : List Step → ℕ) (steps : List Step) (next : Step) (rest : List Step) →
    in_marks (marks tables turn steps) (marks tables turn (steps ++ next ∷ rest)) ≡ Less
higher_marks tables turn steps next rest =
    ap (λ (some : List Mark). in_marks (marks tables turn steps) some) (marks_append tables turn None [] steps (next ∷ rest))
    ∙ shorter (marks tables turn steps) (mark tables turn (node_after None steps) (steps ++ next ∷ []) next) (marks_from tables turn (Some next.node) (steps ++ next ∷ []) rest)

-- ---- siblings of one node
abbrev marked : Bool → ℕ → ℕ → List (List ℕ) → Mark
marked user place turn keys = record { place = place; turn = cond user turn 0; keys = cond user [] keys }

less_is_lt : (o : Ordering) → is_less o ≡ is_lt o
less_is_lt Less = refl
less_is_lt Equal = refl
less_is_lt Greater = refl

pub user_sides : (tables : Tables) (turn : List Step → ℕ) (common : List Step) (x y : Step) → x.node ≡ y.node → is_by_user tables x.node ≡ true →
    sides tables turn common x y ≡ nat_cmp (turn (common ++ x ∷ [])) (turn (common ++ y ∷ []))
user_sides tables turn common x y same user =
    (λ i. of_marks.cmp (marked (user i) (place x.node) (turn (common ++ x ∷ [])) x.keys) (marked (other i) (place (sym same i)) (turn (common ++ y ∷ [])) y.keys))
    ∙ ap (λ o. ordering_then o (ordering_then (nat_cmp (turn (common ++ x ∷ [])) (turn (common ++ y ∷ []))) Equal)) (tied_itself nat_cmp_total (place x.node))
    ∙ then_equal (nat_cmp (turn (common ++ x ∷ [])) (turn (common ++ y ∷ [])))
  where
    place : ℕ → ℕ
    place number = sibling_place (keys_above tables (node_after None common)) number

    other : is_by_user tables y.node ≡ true
    other = ap (is_by_user tables) (sym same) ∙ user

    then_equal : (o : Ordering) → ordering_then o Equal ≡ o
    then_equal Less = refl
    then_equal Equal = refl
    then_equal Greater = refl

system_sides : (tables : Tables) (turn : List Step → ℕ) (common : List Step) (x y : Step) → x.node ≡ y.node → is_by_user tables x.node ≡ false →
    sides tables turn common x y ≡ slice_cmp (slice_cmp nat_cmp) x.keys y.keys
system_sides tables turn common x y same user =
    (λ i. of_marks.cmp (marked (user i) (place x.node) (turn (common ++ x ∷ [])) x.keys) (marked (other i) (place (sym same i)) (turn (common ++ y ∷ [])) y.keys))
    ∙ ap (λ o. ordering_then o (slice_cmp (slice_cmp nat_cmp) x.keys y.keys)) (tied_itself nat_cmp_total (place x.node))
  where
    place : ℕ → ℕ
    place number = sibling_place (keys_above tables (node_after None common)) number

    other : is_by_user tables y.node ≡ false
    other = ap (is_by_user tables) (sym same) ∙ user

-- what two siblings are to each other, by the order of the entries beside the second
abbrev pub AreSides : Tables → (List Step → ℕ) → List Step → List (List (List ℕ)) → Step → Step → Type 0
AreSides tables turn common order x y =
    (sibling_before tables (keys_above tables (node_after None common)) order x y ≡ is_lt (sides tables turn common x y)) × (sides tables turn common x y ≢ Equal)

pub are_sides : (tables : Tables) (turn : List Step → ℕ) (common : List Step) (order : List (List (List ℕ))) (x y : Step) → x ≢ y →
    (x.node ≡ y.node → is_by_user tables x.node ≡ true →
    (stands_before order x.keys y.keys ≡ ltb (turn (common ++ x ∷ [])) (turn (common ++ y ∷ []))) × (turn (common ++ x ∷ []) ≢ turn (common ++ y ∷ []))) →
    AreSides tables turn common order x y
are_sides tables turn common order x y differ by_turns = by_place (nat_cmp (place x) (place y)) refl (ranked (place x) (place y) _ refl)
  where
    place : Step → ℕ
    place step = sibling_place (keys_above tables (node_after None common)) step.node

    rest_of : Ordering
    rest_of = ordering_then (nat_cmp (cond (is_by_user tables x.node) (turn (common ++ x ∷ [])) 0) (cond (is_by_user tables y.node) (turn (common ++ y ∷ [])) 0))
        (slice_cmp (slice_cmp nat_cmp) (cond (is_by_user tables x.node) [] x.keys) (cond (is_by_user tables y.node) [] y.keys))

    entry : Bool
    entry = entry_before tables order x y

    by_turn : (o : Ordering) → nat_cmp (turn (common ++ x ∷ [])) (turn (common ++ y ∷ [])) ≡ o →
        MatchOrdering o (turn (common ++ x ∷ []) < turn (common ++ y ∷ [])) (turn (common ++ x ∷ []) ≡ turn (common ++ y ∷ [])) (turn (common ++ y ∷ []) < turn (common ++ x ∷ [])) →
        turn (common ++ x ∷ []) ≢ turn (common ++ y ∷ []) → (ltb (turn (common ++ x ∷ [])) (turn (common ++ y ∷ [])) ≡ is_lt o) × (o ≢ Equal)
    by_turn Less e less apart = (lt-ltb _ _ less, λ clash. cc)
    by_turn Equal e same apart = absurd (apart same)
    by_turn Greater e more apart = (le-ltb _ _ (omega (arith, more)), λ clash. cc)

    of_user : x.node ≡ y.node → is_by_user tables x.node ≡ true → (entry ≡ is_lt (sides tables turn common x y)) × (sides tables turn common x y ≢ Equal)
    of_user same user =
        let turns = by_turns same user in
        let is = user_sides tables turn common x y same user in
        let ordered = by_turn (nat_cmp (turn (common ++ x ∷ [])) (turn (common ++ y ∷ []))) refl (ranked (turn (common ++ x ∷ [])) (turn (common ++ y ∷ [])) (nat_cmp (turn (common ++ x ∷ [])) (turn (common ++ y ∷ []))) refl) turns.1 in (
          (λ i. cond (user i) (stands_before order x.keys y.keys) (is_less (slice_cmp (slice_cmp nat_cmp) x.keys y.keys))) ∙ turns.0 ∙ ordered.0 ∙ ap is_lt (sym is),
          λ tied. ordered.1 (sym is ∙ tied),
        )

    of_system : x.node ≡ y.node → is_by_user tables x.node ≡ false → (entry ≡ is_lt (sides tables turn common x y)) × (sides tables turn common x y ≢ Equal)
    of_system same user =
        let is = system_sides tables turn common x y same user in (
          (λ i. cond (user i) (stands_before order x.keys y.keys) (is_less (slice_cmp (slice_cmp nat_cmp) x.keys y.keys))) ∙ less_is_lt (slice_cmp (slice_cmp nat_cmp) x.keys y.keys) ∙ ap is_lt (sym is),
          λ tied.
              let keys : x.keys ≡ y.keys = slice_cmp-IsAntisymmetric (slice_cmp-IsAntisymmetric nat_cmp-IsAntisymmetric) x.keys y.keys (sym is ∙ tied) in
              differ (λ i. record { node = same i; keys = keys i }),
        )

    of_node : x.node ≡ y.node → (b : Bool) → is_by_user tables x.node ≡ b → (entry ≡ is_lt (sides tables turn common x y)) × (sides tables turn common x y ≢ Equal)
    of_node same true user = of_user same user
    of_node same false user = of_system same user

    by_place : (o : Ordering) → nat_cmp (place x) (place y) ≡ o → MatchOrdering o (place x < place y) (place x ≡ place y) (place y < place x) → AreSides tables turn common order x y
    by_place Less e less =
        let is : sides tables turn common x y ≡ Less = ap (λ o. ordering_then o rest_of) e in
        ((λ i. lt-ltb (place x) (place y) less i || (x.node == y.node && entry)) ∙ ap is_lt (sym is), λ tied. let clash : Less ≡ Equal = sym is ∙ tied in cc)
    by_place Equal e same =
        let node = same_node (keys_above tables (node_after None common)) x.node y.node same in
        let found = of_node node (is_by_user tables x.node) refl in (
          (λ i. le-ltb (place x) (place y) (omega (arith, same)) i || ((Decides-eqb x.node y.node).1 node i && entry)) ∙ found.0,
          found.1,
        )
    by_place Greater e more =
        let is : sides tables turn common x y ≡ Greater = ap (λ o. ordering_then o rest_of) e in
        let apart : (x.node == y.node) ≡ false = false_from_ne_true (x.node == y.node) (λ same. no_less (ap (λ n. sibling_place (keys_above tables (node_after None common)) n) ((Decides-eqb x.node y.node).0 same))) in
        ((λ i. le-ltb (place x) (place y) (omega (arith, more)) i || (apart i && entry)) ∙ ap is_lt (sym is), λ tied. let clash : Greater ≡ Equal = sym is ∙ tied in cc)
      where
        no_less : place x ≡ place y → ⊥
        no_less same = omega (arith, same, more)
