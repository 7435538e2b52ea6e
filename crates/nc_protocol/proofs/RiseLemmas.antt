-- The rows of a data tree before and behind a place: those that the test finds before it stand first.
use Rattle.std.proofs.Common.{◌≡◌, ◌≢◌, ◌⊎◌, ◌==◌, ◌&&◌, ◌<◌, ℕ, Bool, true, false, cond, not, ltb, List, [], ◌∷◌, ◌++◌, Option, None, refl, sym, ap, subst, ◌∙◌, inl, inr, arith}
use Rattle.std.proofs.lemmas.Bool.{ltb-true, or_right}
use Rattle.std.proofs.lemmas.Bool.Decides.{Decides-eqb}
use Rattle.std.proofs.lemmas.List.{append_assoc, append-nil}
use Rattle.std.specs.Cmp.Lexicographic.{slice_cmp}
use Rattle.std.specs.List.{filter, last_or, Contains}
use Rattle.std.specs.Ordering.{nat_cmp}
use Rattle.std.specs.Prelude.{option_map}
use Rattle.nc_names.specs.declared.path.Place.{Place}
use Rattle.nc_names.specs.declared.path.Place.TheVariants.{Kept}
use Rattle.nc_names.specs.declared.path.Row.{Row}
use Rattle.nc_names.specs.declared.path.Step.{Step}
use Rattle.nc_schema.specs.Configuration.{IsDataTree}
use Rattle.nc_schema.specs.Order.{keys_above, sibling_place, StepBefore, IsBefore}
use Rattle.nc_schema.proofs.ProperLemmas.{HasProperNodes}
use Rattle.nc_schema.specs.Tables.{Tables}
use Rattle.nc_schema.proofs.OrderLemmas.{step_irreflexive, step_transitive}
use Rattle.nc_names.specs.Same.{is_same_step}
use Rattle.nc_schema.specs.Standing.{is_less, is_by_user, stands_before, entry_before, sibling_before, placed, place_at, entries, has_entry, steps_before}
use Rattle.nc_protocol.proofs.BoolLemmas.{is_false}
use Rattle.nc_protocol.proofs.EntryLemmas.{kept_is, placed_keeps, kept_above}
use Rattle.nc_protocol.proofs.KeyLemmas.{filter_none, filter_whole}
use Rattle.nc_protocol.proofs.Parts.{IsPartOf, pair_at, contains_part}
use Rattle.nc_protocol.proofs.PathViews.{node_after, last_is_after, higher_order, IsLower}
use Rattle.nc_protocol.proofs.PlaceLemmas.{sibling_from, less_is, or_cases}
use Rattle.nc_names.proofs.SameLemmas.{first_true, second_true, both_true, step_decide, steps_differ}
use Rattle.nc_protocol.proofs.SiblingLemmas.{GoesBefore, siblings}

-- two entries that the user orders: the one is before the other in that order
pub record InUserOrder (tables : Tables) (order : List (List (List ℕ))) (x y : Step) : Type 0 where
  pub same : x.node ≡ y.node
  pub user : is_by_user tables x.node ≡ true
  pub before : stands_before order x.keys y.keys ≡ true

pub user_true : (tables : Tables) (keys : List ℕ) (order : List (List (List ℕ))) (x y : Step) → InUserOrder tables order x y → sibling_before tables keys order x y ≡ true
user_true tables keys order x y inside = or_right (ltb (sibling_place keys x.node) (sibling_place keys y.node)) (x.node == y.node && entry_before tables order x y)
    (both_true (x.node == y.node) (entry_before tables order x y) ((Decides-eqb x.node y.node).1 inside.same) (go (is_by_user tables x.node) inside.user))
  where
    go : (b : Bool) → b ≡ true → cond b (stands_before order x.keys y.keys) (is_less (slice_cmp (slice_cmp nat_cmp) x.keys y.keys)) ≡ true
    go true e = inside.before
    go false e = cc

pub sibling_cases : (tables : Tables) (at : Option ℕ) (order : List (List (List ℕ))) (x y : Step) → sibling_before tables (keys_above tables at) order x y ≡ true →
    StepBefore tables at x y ⊎ InUserOrder tables order x y
sibling_cases tables at order x y e = go (or_cases _ _ e)
  where
    by_entry : x.node ≡ y.node → (b : Bool) → is_by_user tables x.node ≡ b → cond b (stands_before order x.keys y.keys) (is_less (slice_cmp (slice_cmp nat_cmp) x.keys y.keys)) ≡ true →
        StepBefore tables at x y ⊎ InUserOrder tables order x y
    by_entry same true user before = inr (record { same = same; user = user; before = before })
    by_entry same false system less = inl (inr (same, system, less_is _ less))

    go : ((ltb (sibling_place (keys_above tables at) x.node) (sibling_place (keys_above tables at) y.node) ≡ true)
        ⊎ ((x.node == y.node && entry_before tables order x y) ≡ true)) → StepBefore tables at x y ⊎ InUserOrder tables order x y
    go (inl less) = inl (inl (ltb-true _ _ less))
    go (inr both) =
        by_entry ((Decides-eqb x.node y.node).0 (first_true (x.node == y.node) (entry_before tables order x y) both)) (is_by_user tables x.node) refl
        (second_true (x.node == y.node) (entry_before tables order x y) both)

-- document order says nothing of two entries that the user orders
pub not_user : (tables : Tables) (at : Option ℕ) (x y : Step) → StepBefore tables at x y → x.node ≡ y.node → ¬ (is_by_user tables x.node ≡ true)
not_user tables at x y (inl less) same user = omega (arith, subst (λ (n : ℕ). sibling_place (keys_above tables at) n < sibling_place (keys_above tables at) y.node) same less)
not_user tables at x y (inr (is, system, less)) same user = let clash : true ≡ false = sym user ∙ system in cc

-- siblings in their places: one of them, or both, before a third
place_first : (tables : Tables) (at : Option ℕ) (x z y : Step) → StepBefore tables at x z → z.node ≡ y.node → is_by_user tables z.node ≡ true → StepBefore tables at x y
place_first tables at x z y (inl less) same user = inl (subst (λ (n : ℕ). sibling_place (keys_above tables at) x.node < sibling_place (keys_above tables at) n) same less)
place_first tables at x z y (inr (is, system, less)) same user = let clash : true ≡ false = sym (ap (is_by_user tables) is ∙ user) ∙ system in cc

place_second : (tables : Tables) (at : Option ℕ) (x z y : Step) → x.node ≡ z.node → is_by_user tables x.node ≡ true → StepBefore tables at z y → StepBefore tables at x y
place_second tables at x z y same user (inl less) = inl (subst (λ (n : ℕ). sibling_place (keys_above tables at) n < sibling_place (keys_above tables at) y.node) (sym same) less)
place_second tables at x z y same user (inr (is, system, less)) = let clash : true ≡ false = sym user ∙ ap (is_by_user tables) same ∙ system in cc

keys_differ : (x y : Step) → x.node ≡ y.node → x ≢ y → x.keys ≢ y.keys
keys_differ x y same differ keys = differ (λ i. record { node = same i; keys = keys i })

-- the order of the entries where the place is that of an entry that is there
kept_order : (rows : List Row) (common : List Step) (number : ℕ) (keys : List (List ℕ)) → has_entry keys (entries rows common number) ≡ true →
    placed Kept keys (entries rows common number) ≡ entries rows common number
kept_order rows common number keys there = kept_is keys (entries rows common number) there

-- a sibling's rows stand before those at a place: so the test says
pub goes_first : (tables : Tables) (rows : List Row) (common : List Step) (x y : Step) →
    GoesBefore tables rows common x y →
    sibling_before tables (keys_above tables (node_after None common)) (placed Kept y.keys (entries rows common y.node)) x y ≡ true
goes_first tables rows common x y (inl before) = sibling_from tables (node_after None common) _ x y before
goes_first tables rows common x y (inr u) =
    user_true tables (keys_above tables (node_after None common)) _ x y (record {
      same = u.same;
      user = u.user;
      before = ap (λ order. stands_before order x.keys y.keys) (kept_order rows common y.node y.keys u.has_other) ∙ u.before;
    })

-- a sibling whose rows stand behind those at a place is not before it
pub not_behind : (tables : Tables) (rows : List Row) (common : List Step) (y z : Step) →
    GoesBefore tables rows common y z →
    ¬ (sibling_before tables (keys_above tables (node_after None common)) (placed Kept y.keys (entries rows common y.node)) z y ≡ true)
not_behind tables rows common y z goes e = by goes (sibling_cases tables (node_after None common) _ z y e)
  where
    by : GoesBefore tables rows common y z →
        ¬ (StepBefore tables (node_after None common) z y ⊎ InUserOrder tables (placed Kept y.keys (entries rows common y.node)) z y)
    by (inl before) (inl after) = step_irreflexive tables (node_after None common) y (step_transitive tables (node_after None common) y z y before after)
    by (inl before) (inr u) = not_user tables (node_after None common) y z before (sym u.same) (ap (is_by_user tables) (sym u.same) ∙ u.user)
    by (inr u) (inl after) = not_user tables (node_after None common) z y after (sym u.same) (ap (is_by_user tables) (sym u.same) ∙ u.user)
    by (inr u) (inr v) =
        let there : has_entry y.keys (entries rows common y.node) ≡ true = ap (λ n. has_entry y.keys (entries rows common n)) u.same ∙ u.has_first in
        let here : stands_before (entries rows common y.node) z.keys y.keys ≡ true = ap (λ order. stands_before order z.keys y.keys) (sym (kept_order rows common y.node y.keys there)) ∙ v.before in
        let clash : true ≡ false = sym here ∙ ap (λ n. stands_before (entries rows common n) z.keys y.keys) u.same ∙ u.after in
        cc

-- a sibling whose rows stand before those of one before a place is before that place too
goes_on : (tables : Tables) (rows : List Row) (place : Place) (common : List Step) (x z y : Step) → x ≢ y → z ≢ y →
    GoesBefore tables rows common x z →
    StepBefore tables (node_after None common) z y ⊎ InUserOrder tables (placed place y.keys (entries rows common y.node)) z y →
    sibling_before tables (keys_above tables (node_after None common)) (placed place y.keys (entries rows common y.node)) x y ≡ true
goes_on tables rows place common x z y x_not z_not (inl before) (inl after) = sibling_from tables (node_after None common) _ x y (step_transitive tables (node_after None common) x z y before after)
goes_on tables rows place common x z y x_not z_not (inl before) (inr u) = sibling_from tables (node_after None common) _ x y (place_first tables (node_after None common) x z y before u.same u.user)
goes_on tables rows place common x z y x_not z_not (inr u) (inl after) = sibling_from tables (node_after None common) _ x y (place_second tables (node_after None common) x z y u.same u.user after)
goes_on tables rows place common x z y x_not z_not (inr u) (inr v) =
    user_true tables (keys_above tables (node_after None common)) _ x y (record {
      same = u.same ∙ v.same;
      user = u.user;
      before = placed_keeps place (entries rows common y.node) x.keys z.keys y.keys (keys_differ x y (u.same ∙ v.same) x_not) (keys_differ z y v.same z_not)
          (ap (λ n. stands_before (entries rows common n) x.keys z.keys) (sym v.same) ∙ u.before) v.before;
    })

-- of two rows of a data tree the one that stands first is before a place where the other is
module _ (tables : Tables) (rows : List Row) (place : Place) (proper : HasProperNodes tables) (tree : IsDataTree tables rows) (g f : Row) (part : IsPartOf (g ∷ f ∷ []) rows) where
  rises_from : (common gs fs ps : List Step) → g.path.steps ≡ common ++ gs → f.path.steps ≡ common ++ fs → ¬ IsLower gs ps → ¬ IsLower fs ps →
      steps_before tables rows place common fs ps ≡ true → steps_before tables rows place common gs ps ≡ true
  rises_from common gs fs [] g_is f_is g_not f_not e = absurd (g_not (gs, refl))
  rises_from common [] fs (y ∷ ps) g_is f_is g_not f_not e = refl
  rises_from common (x ∷ gs) [] (y ∷ ps) g_is f_is g_not f_not e =
      absurd (pair_at (λ (row later : Row). ¬ IsBefore tables later.path row.path) rows g f tree.ordered part
      (subst (λ (steps : List Step). IsBefore tables (record { steps = steps }) g.path) (sym (f_is ∙ append-nil common))
      (subst (λ (steps : List Step). IsBefore tables (record { steps = common }) (record { steps = steps })) (sym g_is) (higher_order tables None common x gs))))
  rises_from common (x ∷ gs) (z ∷ fs) (y ∷ ps) g_is f_is g_not f_not e =
      go (is_same_step x y) (is_same_step z y) refl refl e
      (λ same_x same_z. rises_from (common ++ y ∷ []) gs fs ps
      (g_is ∙ (λ i. common ++ same_x i ∷ gs) ∙ sym (append_assoc common (y ∷ []) gs)) (f_is ∙ (λ i. common ++ same_z i ∷ fs) ∙ sym (append_assoc common (y ∷ []) fs))
      (λ lower. g_not (lower.0, (λ i. same_x i ∷ lower.1 i))) (λ lower. f_not (lower.0, (λ i. same_z i ∷ lower.1 i))))
    where
      order : List (List (List ℕ))
      order = placed (place_at place ps) y.keys (entries rows common y.node)

      over : List ℕ
      over = keys_above tables (option_map (λ s. s.node) (last_or None common))

      at : List ℕ
      at = keys_above tables (node_after None common)

      over_is : over ≡ at
      over_is = ap (keys_above tables) (last_is_after common)

      kept : ¬ (ps ≡ []) → order ≡ placed Kept y.keys (entries rows common y.node)
      kept some = ap (λ at. placed at y.keys (entries rows common y.node)) (kept_above place ps some)

      go : (a b : Bool) → is_same_step x y ≡ a → is_same_step z y ≡ b → cond b (steps_before tables rows place (common ++ y ∷ []) fs ps) (sibling_before tables over order z y) ≡ true →
          (x ≡ y → z ≡ y → steps_before tables rows place (common ++ y ∷ []) fs ps ≡ true → steps_before tables rows place (common ++ y ∷ []) gs ps ≡ true) →
          cond a (steps_before tables rows place (common ++ y ∷ []) gs ps) (sibling_before tables over order x y) ≡ true
      go true true is_x is_z before more = more ((step_decide x y).0 is_x) ((step_decide z y).0 is_z) before
      go true false is_x is_z before more =
          let same = (step_decide x y).0 is_x in
          let differ : y ≢ z = λ e. steps_differ z y is_z (sym e) in
          let goes = siblings tables rows g f common y z gs fs proper tree part (g_is ∙ (λ i. common ++ same i ∷ gs)) f_is differ in
          let some : ¬ (ps ≡ []) = λ none. g_not (gs, (λ i. same i ∷ (sym none i ++ gs))) in
          absurd (not_behind tables rows common y z goes (ap (λ o. sibling_before tables at o z y) (sym (kept some)) ∙ ap (λ ks. sibling_before tables ks order z y) (sym over_is) ∙ before))
      go false true is_x is_z before more =
          let same = (step_decide z y).0 is_z in
          let differ = steps_differ x y is_x in
          let goes = siblings tables rows g f common x y gs fs proper tree part g_is (f_is ∙ (λ i. common ++ same i ∷ fs)) differ in
          let some : ¬ (ps ≡ []) = λ none. f_not (fs, (λ i. same i ∷ (sym none i ++ fs))) in
          ap (λ ks. sibling_before tables ks order x y) over_is ∙ ap (λ o. sibling_before tables at o x y) (kept some) ∙ goes_first tables rows common x y goes
      go false false is_x is_z before more = by (is_same_step x z) refl
        where
          by : (b : Bool) → is_same_step x z ≡ b → sibling_before tables over order x y ≡ true
          by true is = ap (λ s. sibling_before tables over order s y) ((step_decide x z).0 is) ∙ before
          by false is =
              let goes = siblings tables rows g f common x z gs fs proper tree part g_is f_is (steps_differ x z is) in
              let z_before = sibling_cases tables (node_after None common) order z y (ap (λ ks. sibling_before tables ks order z y) (sym over_is) ∙ before) in
              ap (λ ks. sibling_before tables ks order x y) over_is ∙ goes_on tables rows (place_at place ps) common x z y (steps_differ x y is_x) (steps_differ z y is_z) goes z_before

pub rises : (tables : Tables) (rows : List Row) (place : Place) (path : List Step) (g f : Row) → HasProperNodes tables → IsDataTree tables rows → IsPartOf (g ∷ f ∷ []) rows →
    ¬ IsLower g.path.steps path → ¬ IsLower f.path.steps path →
    steps_before tables rows place [] f.path.steps path ≡ true → steps_before tables rows place [] g.path.steps path ≡ true
rises tables rows place path g f proper tree part g_not f_not before =
    rises_from tables rows place proper tree g f part [] g.path.steps f.path.steps path refl refl g_not f_not before

-- a list whose elements of a test stand first is cut there
pub filter_cuts : {X : Type 0} (t : X → Bool) (xs : List X) → ((a b : X) → IsPartOf (a ∷ b ∷ []) xs → t b ≡ true → t a ≡ true) →
    filter t xs ++ filter (λ x. not (t x)) xs ≡ xs
filter_cuts t [] first = refl
filter_cuts {X} t (x ∷ xs) first = by (t x) refl (filter_cuts t xs (λ a b part. first a b (inr part)))
  where
    by : (b : Bool) → t x ≡ b → filter t xs ++ filter (λ y. not (t y)) xs ≡ xs →
        cond b (x ∷ filter t xs) (filter t xs) ++ cond (not b) (x ∷ filter (λ y. not (t y)) xs) (filter (λ y. not (t y)) xs) ≡ x ∷ xs
    by true e rest = λ i. x ∷ rest i
    by false e rest = λ i. filter_none t xs fails i ++ x ∷ filter_whole (λ y. not (t y)) xs (λ y has. ap not (fails y has)) i
      where
        fails : (y : X) → Contains xs y → t y ≡ false
        fails y has = is_false (t y) (λ passes. let clash : true ≡ false = sym (first x y (inl (refl, contains_part y xs has)) passes) ∙ e in cc)
