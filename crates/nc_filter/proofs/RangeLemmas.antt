-- Keys that differ from texts by white space at their ends stand in ranges of a list's order, where no row stands.
use Rattle.std.proofs.Common.{◌≡◌, ◌⊎◌, ◌≤◌, ◌<◌, ◌==◌, ◌&&◌, ◌||◌, ◌∙◌, ℕ, Bool, true, false, cond, List, [], ◌∷◌, ◌++◌, Option, Some, None, ltb, suc, length, refl, sym, ap, subst, inl, inr, arith}
use Rattle.std.specs.Prelude.{IfSome, option_map, slice_get, slice_index_or}
use Rattle.std.specs.Cmp.Lexicographic.{slice_cmp}
use Rattle.std.specs.List.{All, AllPairs, Contains, last_or, list_all}
use Rattle.std.specs.Ordering.{MatchOrdering, nat_cmp, ordering_then}
use Rattle.std.specs.declared.cmp.Ordering.{Ordering}
use Rattle.std.specs.declared.cmp.Ordering.TheVariants.{Less, Equal, Greater}
use Rattle.std.proofs.lemmas.Bool.{cases_lt, ltb-true}
use Rattle.std.proofs.lemmas.Bool.Decides.{Decides-eqb}
use Rattle.std.proofs.lemmas.Cmp.{nat_cmp_total, nat_list_cmp_total, ranked, tied_itself}
use Rattle.std.proofs.lemmas.Option.{get_or_from_slice_get, slice_get-get_or, slice_get_within}
use Rattle.std.proofs.lemmas.List.{append_assoc}
use Rattle.nc_names.specs.Ends.{past, trimmed, without_last}
use Rattle.nc_names.specs.Same.{is_same_step}
use Rattle.nc_names.specs.Signs.{is_white}
use Rattle.nc_names.specs.declared.path.Path.{Path}
use Rattle.nc_names.specs.declared.path.Place.TheVariants.{Kept}
use Rattle.nc_names.specs.declared.path.Row.{Row}
use Rattle.nc_names.specs.declared.path.Step.{Step}
use Rattle.nc_names.proofs.SameLemmas.{first_true, second_true, step_decide}
use Rattle.nc_schema.specs.Laws.{IsSystemOrderedPath}
use Rattle.nc_schema.specs.Order.{IsBefore, IsSystemOrdered, KeysBefore, StepBefore, StepsBefore, keys_above, sibling_place}
use Rattle.nc_schema.specs.Standing.{entries, entry_before, is_by_user, is_less, placed, place_at, sibling_before, stands_before, steps_before}
use Rattle.nc_schema.specs.Tables.{Tables}
use Rattle.nc_schema.proofs.OrderLemmas.{order_is_strict}
use Rattle.nc_protocol.proofs.ListLemmas.{all_append, all_one}
use Rattle.nc_protocol.proofs.PlaceLemmas.{last_of, less_is, or_cases, places_are_in_order}
use Rattle.nc_filter.specs.inner.Entries.{AreClear, BeginsAfter, EndsBefore, IsClearAt, IsCutBetween, entry_path}

-- ---- white space at the ends of a text

-- a text is as it is without white space at its ends, or begins with white space, or goes on with it
pub trim_cases : (text : List ℕ) → (trimmed text ≡ text) ⊎ ((w : ℕ) × (rest : List ℕ) × (is_white w ≡ true) × (text ≡ w ∷ rest))
    ⊎ ((w : ℕ) × (rest : List ℕ) × (is_white w ≡ true) × (text ≡ trimmed text ++ w ∷ rest))
trim_cases [] = inl refl
trim_cases (c ∷ cs) = by (is_white c) refl
  where
    -- what goes at the end is white
    ends : (xs : List ℕ) → (without_last is_white xs ≡ xs) ⊎ ((w : ℕ) × (rest : List ℕ) × (is_white w ≡ true) × (xs ≡ without_last is_white xs ++ w ∷ rest))
    ends [] = inl refl
    ends (x ∷ xs) = here (list_all is_white (x ∷ xs)) refl (ends xs)
      where
        first : (a b : Bool) → (a && b) ≡ true → a ≡ true
        first true b e = refl
        first false b e = e

        here : (b : Bool) → list_all is_white (x ∷ xs) ≡ b →
            (without_last is_white xs ≡ xs) ⊎ ((w : ℕ) × (rest : List ℕ) × (is_white w ≡ true) × (xs ≡ without_last is_white xs ++ w ∷ rest)) →
            (cond b [] (x ∷ without_last is_white xs) ≡ x ∷ xs) ⊎ ((w : ℕ) × (rest : List ℕ) × (is_white w ≡ true) × (x ∷ xs ≡ cond b [] (x ∷ without_last is_white xs) ++ w ∷ rest))
        here true e more = inr (x, xs, first (is_white x) (list_all is_white xs) e, refl)
        here false e (inl same) = inl (ap (λ ys. x ∷ ys) same)
        here false e (inr (w, rest, white, split)) = inr (w, rest, white, ap (λ ys. x ∷ ys) split)

    by : (b : Bool) → is_white c ≡ b → (without_last is_white (cond b (past is_white cs) (c ∷ cs)) ≡ c ∷ cs) ⊎ ((w : ℕ) × (rest : List ℕ) × (is_white w ≡ true) × (c ∷ cs ≡ w ∷ rest))
        ⊎ ((w : ℕ) × (rest : List ℕ) × (is_white w ≡ true) × (c ∷ cs ≡ without_last is_white (cond b (past is_white cs) (c ∷ cs)) ++ w ∷ rest))
    by true e = inr (inl (c, cs, e, refl))
    by false e = turn (ends (c ∷ cs))
      where
        turn : (without_last is_white (c ∷ cs) ≡ c ∷ cs) ⊎ ((w : ℕ) × (rest : List ℕ) × (is_white w ≡ true) × (c ∷ cs ≡ without_last is_white (c ∷ cs) ++ w ∷ rest)) →
            (without_last is_white (c ∷ cs) ≡ c ∷ cs) ⊎ ((w : ℕ) × (rest : List ℕ) × (is_white w ≡ true) × (c ∷ cs ≡ w ∷ rest))
            ⊎ ((w : ℕ) × (rest : List ℕ) × (is_white w ≡ true) × (c ∷ cs ≡ without_last is_white (c ∷ cs) ++ w ∷ rest))
        turn (inl same) = inl same
        turn (inr found) = inr (inr found)

-- ---- the order of keys

less_below : (a b : ℕ) → a < b → nat_cmp a b ≡ Less
less_below a b less = by (nat_cmp a b) (ranked a b _ refl)
  where
    by : (o : Ordering) → MatchOrdering o (a < b) (a ≡ b) (b < a) → o ≡ Less
    by Less found = refl
    by Equal same = absurd (omega (arith, less, same))
    by Greater more = absurd (omega (arith, less, more))

-- white space is a number from 9 to 32
white_is : (w : ℕ) → is_white w ≡ true → (1 < w) × (w < 33)
white_is w e = by (w == 32) (w == 9) (w == 10) (w == 13) refl refl refl refl e
  where
    eq : (n : ℕ) → (w == n) ≡ true → w ≡ n
    eq n e = (Decides-eqb w n).0 e

    by : (a b c d : Bool) → (w == 32) ≡ a → (w == 9) ≡ b → (w == 10) ≡ c → (w == 13) ≡ d → (a || b || c || d) ≡ true → (1 < w) × (w < 33)
    by true b c d e f g h some = let is = eq 32 e in (omega (arith, is), omega (arith, is))
    by false true c d e f g h some = let is = eq 9 f in (omega (arith, is), omega (arith, is))
    by false false true d e f g h some = let is = eq 10 g in (omega (arith, is), omega (arith, is))
    by false false false true e f g h some = let is = eq 13 h in (omega (arith, is), omega (arith, is))
    by false false false false e f g h some = absurd (cc some)

-- after what is the same, the first that differ decide
cmp_from : {X : Type 0} (R : X → X → Ordering) → ((x : X) → R x x ≡ Equal) → (front : List X) (xs ys : List X) → slice_cmp R (front ++ xs) (front ++ ys) ≡ slice_cmp R xs ys
cmp_from R itself [] xs ys = refl
cmp_from R itself (x ∷ front) xs ys =
    ap (λ o. ordering_then o (slice_cmp R (front ++ xs) (front ++ ys))) (itself x) ∙ cmp_from R itself front xs ys

cmp_first : {X : Type 0} (R : X → X → Ordering) (x y : X) (xs ys : List X) → R x y ≡ Less → slice_cmp R (x ∷ xs) (y ∷ ys) ≡ Less
cmp_first R x y xs ys less = ap (λ o. ordering_then o (slice_cmp R xs ys)) less

text_before : (text : List ℕ) (a b : ℕ) (rest more : List ℕ) → a < b → slice_cmp nat_cmp (text ++ a ∷ rest) (text ++ b ∷ more) ≡ Less
text_before text a b rest more less =
    cmp_from nat_cmp (tied_itself nat_cmp_total) text (a ∷ rest) (b ∷ more) ∙ cmp_first nat_cmp a b rest more (less_below a b less)

keys_before : (front : List (List ℕ)) (text : List ℕ) (a b : ℕ) (rest more : List ℕ) (keys others : List (List ℕ)) → a < b →
    KeysBefore (front ++ (text ++ a ∷ rest) ∷ keys) (front ++ (text ++ b ∷ more) ∷ others)
keys_before front text a b rest more keys others less =
    cmp_from (slice_cmp nat_cmp) (tied_itself nat_list_cmp_total) front ((text ++ a ∷ rest) ∷ keys) ((text ++ b ∷ more) ∷ others)
    ∙ cmp_first (slice_cmp nat_cmp) (text ++ a ∷ rest) (text ++ b ∷ more) keys others (text_before text a b rest more less)

-- ---- the order of rows

-- one step before another, after the same steps
steps_at : (tables : Tables) (at : Option ℕ) (above : List Step) (x y : Step) (rest more : List Step) → ((over : Option ℕ) → StepBefore tables over x y) →
    StepsBefore tables at (above ++ x ∷ rest) (above ++ y ∷ more)
steps_at tables at [] x y rest more before = inl (before at)
steps_at tables at (step ∷ above) x y rest more before = inr (refl, steps_at tables (Some step.node) above x y rest more before)

-- entries that the system orders are in the order of their keys
less_of : (tables : Tables) (order : List (List (List ℕ))) (step other : Step) → IsSystemOrdered tables step.node → entry_before tables order step other ≡ true → KeysBefore step.keys other.keys
less_of tables order step other system e = go (is_by_user tables step.node) system e
  where
    go : (b : Bool) → b ≡ false → cond b (stands_before order step.keys other.keys) (is_less (slice_cmp (slice_cmp nat_cmp) step.keys other.keys)) ≡ true →
        slice_cmp (slice_cmp nat_cmp) step.keys other.keys ≡ Less
    go true f e = absurd (cc f)
    go false f e = less_is (slice_cmp (slice_cmp nat_cmp) step.keys other.keys) e

-- what the test of siblings says, where the system orders the second
sibling_into : (tables : Tables) (at : Option ℕ) (order : List (List (List ℕ))) (step other : Step) → IsSystemOrdered tables other.node →
    sibling_before tables (keys_above tables at) order step other ≡ true → StepBefore tables at step other
sibling_into tables at order step other system e = by (or_cases _ _ e)
  where
    by : (ltb (sibling_place (keys_above tables at) step.node) (sibling_place (keys_above tables at) other.node) ≡ true)
        ⊎ ((step.node == other.node && entry_before tables order step other) ≡ true) → StepBefore tables at step other
    by (inl less) = inl (ltb-true _ _ less)
    by (inr both) =
        let same : step.node ≡ other.node = (Decides-eqb step.node other.node).0 (first_true (step.node == other.node) (entry_before tables order step other) both) in
        let own : IsSystemOrdered tables step.node = subst (λ (n : ℕ). IsSystemOrdered tables n) (sym same) system in
        inr (same, own, less_of tables order step other own (second_true (step.node == other.node) (entry_before tables order step other) both))

-- what the test of places says, where the system orders the nodes of the second path
steps_to : (tables : Tables) (rows : List Row) (above : List Step) (at : Option ℕ) (steps others : List Step) → option_map (λ over. over.node) (last_or None above) ≡ at →
    All (λ step. IsSystemOrdered tables step.node) others → steps_before tables rows Kept above steps others ≡ true → StepsBefore tables at steps others
steps_to tables rows above at [] [] last system e = absurd (cc e)
steps_to tables rows above at [] (other ∷ others) last system e = tt
steps_to tables rows above at (step ∷ steps) [] last system e = absurd (cc e)
steps_to tables rows above at (step ∷ steps) (other ∷ others) last system e =
    go (is_same_step step other) refl
    (steps_to tables rows (above ++ other ∷ []) (Some other.node) steps others
    (ap (option_map (λ over. over.node)) (last_of None above other)) (λ k d within. system (suc k) d (omega (arith, within)))) e
  where
    order : List (List (List ℕ))
    order = placed (place_at Kept others) other.keys (entries rows above other.node)

    go : (b : Bool) → is_same_step step other ≡ b →
        (steps_before tables rows Kept (above ++ other ∷ []) steps others ≡ true → StepsBefore tables (Some other.node) steps others) →
        cond b (steps_before tables rows Kept (above ++ other ∷ []) steps others)
        (sibling_before tables (keys_above tables (option_map (λ over. over.node) (last_or None above))) order step other) ≡ true →
        StepBefore tables at step other ⊎ ((step ≡ other) × StepsBefore tables (Some step.node) steps others)
    go true e rest f =
        let same = (step_decide step other).0 e in
        inr (same, subst (λ (s : Step). StepsBefore tables (Some s.node) steps others) (sym same) (rest f))
    go false e rest f = inl (sibling_into tables at order step other (system 0 other (omega arith)) (subst (λ (a : Option ℕ). sibling_before tables (keys_above tables a) order step other ≡ true) last f))

-- what stands at the last row before a place, and at the first from there on, holds of all rows
module _ (tables : Tables) (rows : List Row) (low high : Path) (system_low : IsSystemOrderedPath tables low) (system_high : IsSystemOrderedPath tables high)
    (ordered : AllPairs (λ row later. ¬ IsBefore tables later.path row.path) rows) (row : Row) (j : ℕ) (within : j < length rows) (here : slice_index_or rows j row ≡ row)
    (after : IsBefore tables low row.path) (before : IsBefore tables row.path high) where
  in_front : (k : ℕ) (first : Row) → j ≤ k → slice_get rows k ≡ Some first → steps_before tables rows Kept [] first.path.steps low.steps ≡ true → ⊥
  in_front k first less is e = by (cases_lt j k)
    where
      first_before : IsBefore tables first.path row.path
      first_before = order_is_strict.transitive tables first.path low row.path (steps_to tables rows [] None first.path.steps low.steps refl system_low e) after

      first_is : slice_index_or rows k row ≡ first
      first_is = get_or_from_slice_get rows k first row is

      by : (j < k) ⊎ (k ≤ j) → ⊥
      by (inl lower) = ordered j k row lower (slice_get_within rows k first is)
          (subst (λ (one : Row). IsBefore tables one.path (slice_index_or rows j row).path) (sym first_is)
          (subst (λ (one : Row). IsBefore tables first.path one.path) (sym here) first_before))
      by (inr higher) =
          let same : j ≡ k = omega (arith, less, higher) in
          let is_row : first ≡ row = sym first_is ∙ subst (λ (n : ℕ). slice_index_or rows n row ≡ row) same here in
          order_is_strict.irreflexive tables row.path (subst (λ (one : Row). IsBefore tables one.path row.path) is_row first_before)

  at_back : (place : ℕ) → place ≤ j → BeginsAfter tables rows high place → ⊥
  at_back place lower back = by (cases_lt place j)
    where
      inside : place < length rows
      inside = omega (arith, lower, within)

      last : Row
      last = slice_index_or rows place row

      found : steps_before tables rows Kept [] high.steps last.path.steps ≡ true
      found = subst (λ (one : Option Row). IfSome one (λ (it : Row). steps_before tables rows Kept [] high.steps it.path.steps ≡ true)) (slice_get-get_or rows place row inside) back

      row_before : IsBefore tables row.path last.path
      row_before = order_is_strict.transitive tables row.path high last.path before ((places_are_in_order tables rows Kept high last.path system_high).0 found)

      by : (place < j) ⊎ (j ≤ place) → ⊥
      by (inl less) = ordered place j row less within (subst (λ (one : Row). IsBefore tables one.path last.path) (sym here) row_before)
      by (inr more) =
          let same : place ≡ j = omega (arith, lower, more) in
          let is_row : last ≡ row = subst (λ (n : ℕ). slice_index_or rows n row ≡ row) (sym same) here in
          order_is_strict.irreflexive tables row.path (subst (λ (one : Row). IsBefore tables row.path one.path) is_row row_before)

  -- no row stands between the two
  nothing_between : IsCutBetween tables rows low high → ⊥
  nothing_between (place, front, back) = by (cases_lt j place) front
    where
      by : (j < place) ⊎ (place ≤ j) → EndsBefore tables rows low place → ⊥
      by (inr more) front = at_back place more back
      by (inl less) (inl none) = absurd (omega (arith, less, none))
      by (inl less) (inr (k, place_is, found)) = in_front k found.0 (omega (arith, less, place_is)) found.1 found.2

-- ---- the keys of an entry

-- texts are these without white space at their ends
abbrev pub AreTrimmed : List (List ℕ) → List (List ℕ) → Type 0
AreTrimmed [] [] = Unit {0}
AreTrimmed (key ∷ keys) (text ∷ texts) = (trimmed key ≡ text) × AreTrimmed keys texts
AreTrimmed keys texts = ⊥

module _ (tables : Tables) (rows : List Row) (above : List Step) (list : ℕ) (system_above : All (λ step. IsSystemOrdered tables step.node) above) (system : IsSystemOrdered tables list)
    (ordered : AllPairs (λ row later. ¬ IsBefore tables later.path row.path) rows) (row : Row) (has : Contains rows row) (whole : List (List ℕ)) (rest : List Step)
    (steps_are : row.path.steps ≡ above ++ record { node = list; keys = whole } ∷ rest) where
  system_path : (keys : List (List ℕ)) → IsSystemOrderedPath tables (entry_path above list keys)
  system_path keys = all_append (λ step. IsSystemOrdered tables step.node) above (record { node = list; keys = keys } ∷ []) system_above
      (all_one (λ step. IsSystemOrdered tables step.node) (record { node = list; keys = keys }) system)

  abbrev entry : List (List ℕ) → Step
  entry keys = record { node = list; keys = keys }

  -- an entry whose key goes on from a text by white space stands where none does
  in_range : (front : List (List ℕ)) (text : List ℕ) (w : ℕ) (more : List ℕ) (keys : List (List ℕ)) → is_white w ≡ true → whole ≡ front ++ (text ++ w ∷ more) ∷ keys →
      IsClearAt tables rows above list front text → ⊥
  in_range front text w more keys white is clear =
      nothing_between tables rows (entry_path above list lower) (entry_path above list higher) (system_path lower) (system_path higher) ordered row has.0 has.1 has.2 after before clear
    where
      lower : List (List ℕ)
      lower = front ++ (text ++ 1 ∷ []) ∷ []

      higher : List (List ℕ)
      higher = front ++ (text ++ 33 ∷ []) ∷ []

      mine : List (List ℕ)
      mine = front ++ (text ++ w ∷ more) ∷ keys

      path_is : above ++ entry mine ∷ rest ≡ row.path.steps
      path_is = ap (λ (keys : List (List ℕ)). above ++ entry keys ∷ rest) (sym is) ∙ sym steps_are

      after : StepsBefore tables None (above ++ entry lower ∷ []) row.path.steps
      after = subst (λ (steps : List Step). StepsBefore tables None (above ++ entry lower ∷ []) steps) path_is
          (steps_at tables None above (entry lower) (entry mine) [] rest (λ over. inr (refl, system, keys_before front text 1 w [] more [] keys (white_is w white).0)))

      before : StepsBefore tables None row.path.steps (above ++ entry higher ∷ [])
      before = subst (λ (steps : List Step). StepsBefore tables None steps (above ++ entry higher ∷ [])) path_is
          (steps_at tables None above (entry mine) (entry higher) rest [] (λ over. inr (refl, system, keys_before front text w 33 more [] keys [] (white_is w white).1)))

  -- its keys are the texts, where no entry has white space at the ends of a key
  pub keys_are : (front keys texts : List (List ℕ)) → whole ≡ front ++ keys → AreTrimmed keys texts → AreClear tables rows above list front texts → keys ≡ texts
  keys_are front [] [] is trims clear = refl
  keys_are front [] (text ∷ texts) is trims clear = absurd trims
  keys_are front (key ∷ keys) [] is trims clear = absurd trims
  keys_are front (key ∷ keys) (text ∷ texts) is (trim, trims) (first, own, clear) =
      go (trim_cases key)
      (λ (same : key ≡ text). keys_are (front ++ key ∷ []) keys texts (is ∙ sym (append_assoc front (key ∷ []) keys)) trims
      (subst (λ (one : List ℕ). AreClear tables rows above list (front ++ one ∷ []) texts) (sym same) clear))
    where
      go : (trimmed key ≡ key) ⊎ ((w : ℕ) × (rest : List ℕ) × (is_white w ≡ true) × (key ≡ w ∷ rest)) ⊎ ((w : ℕ) × (rest : List ℕ) × (is_white w ≡ true) × (key ≡ trimmed key ++ w ∷ rest)) →
          (key ≡ text → keys ≡ texts) → key ∷ keys ≡ text ∷ texts
      go (inl whole_is) behind = let same : key ≡ text = sym whole_is ∙ trim in (λ i. same i ∷ behind same i)
      go (inr (inl (w, more, white, split))) behind =
          absurd (in_range front [] w more keys white (is ∙ ap (λ (one : List ℕ). front ++ one ∷ keys) split) first)
      go (inr (inr (w, more, white, split))) behind =
          absurd (in_range front text w more keys white (is ∙ ap (λ (one : List ℕ). front ++ one ∷ keys) (split ∙ ap (λ (one : List ℕ). one ++ w ∷ more) trim)) own)
