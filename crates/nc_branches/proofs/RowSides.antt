-- Rows that part from a path at a plain step.
use Rattle.std.proofs.Common.{◌≡◌, ◌≢◌, ◌++◌, ◌||◌, ℕ, zero, suc, Bool, true, false, not, List, [], ◌∷◌, Some, None, refl, sym, ap, ◌∙◌, arith, length, drop, take}
use Rattle.std.specs.Prelude.{slice_get}
use Rattle.std.specs.List.{All, list_any}
use Rattle.std.specs.declared.cmp.Ordering.{Ordering}
use Rattle.std.specs.declared.cmp.Ordering.TheVariants.{Less, Equal, Greater}
use Rattle.std.proofs.lemmas.List.{append_assoc, append-nil}
use Rattle.std.proofs.lemmas.List.Elements.{All-head, All-tail}
use Rattle.nc_names.proofs.SameLemmas.{step_decide}
use Rattle.nc_names.specs.Same.{is_at_or_below, is_same_step}
use Rattle.nc_names.specs.declared.path.Row.{Row}
use Rattle.nc_names.specs.declared.path.Step.{Step}
use Rattle.nc_schema.specs.Order.{keys_above}
use Rattle.nc_schema.specs.Standing.{cases_differ, cases_of, excludes}
use Rattle.nc_schema.specs.Tables.{Tables}
use Rattle.nc_branches.specs.inner.Order.{IsSide, IsUnder, step_cmp}
use Rattle.nc_branches.specs.Orders.{before_in, first_order}
use Rattle.nc_branches.specs.inner.Putting.{IsPlain, last_node}
use Rattle.nc_branches.specs.Sides.{is_front, stays}
use Rattle.nc_branches.proofs.Places.{goes_on, is_below, other_step}
use Rattle.nc_branches.proofs.SideOrder.{before_common, before_shorter, differ, excludes_common, excludes_shorter, sibling_less, sibling_more}

-- a list is cut at an element
pub split_get : (n : ℕ) (xs : List Step) (x : Step) → slice_get xs n ≡ Some x → xs ≡ take n xs ++ x ∷ drop (suc n) xs
split_get n [] x e = cc
split_get zero (y ∷ xs) x e = let same : y ≡ x = cc in ap (λ z. z ∷ xs) same
split_get (suc n) (y ∷ xs) x e = ap (λ zs. y ∷ zs) (split_get n xs x e)

pub taken_length : (n : ℕ) (xs : List Step) (x : Step) → slice_get xs n ≡ Some x → length (take n xs) ≡ n
taken_length n [] x e = cc
taken_length zero (y ∷ xs) x e = refl
taken_length (suc n) (y ∷ xs) x e = ap suc (taken_length n xs x e)

pub get_common : (common rest : List Step) → slice_get (common ++ rest) (length common) ≡ slice_get rest 0
get_common [] rest = refl
get_common (c ∷ common) rest = get_common common rest

-- a row goes on from what it has in common with a path by a step on that side
pub record Parts (common : List Step) (p : Step) (side : Ordering) (row : Row) : Type 0 where
  pub step : Step
  pub rest : List Step
  pub steps_are : row.path.steps ≡ common ++ step ∷ rest
  pub side_is : step_cmp step p ≡ side

pub parts : (common : List Step) (p : Step) (side : Ordering) (row : Row) → IsUnder common row → IsSide side (length common) p row → Parts common p side row
parts common p side row under on = by under.0 under.1
  where
    by : (rest : List Step) → row.path.steps ≡ common ++ rest → Parts common p side row
    by [] is = let there : slice_get row.path.steps (length common) ≡ None = ap (λ xs. slice_get xs (length common)) is ∙ get_common common [] in cc
    by (s ∷ ss) is =
        let there : slice_get row.path.steps (length common) ≡ Some s = ap (λ xs. slice_get xs (length common)) is ∙ get_common common (s ∷ ss) in
        record { step = s; rest = ss; steps_are = is; side_is = cc }

pub front_row : (tables : Tables) (orders : List (List (List (List ℕ)))) (steps common ps : List Step) (p : Step) (row : Row) → steps ≡ common ++ p ∷ ps → IsPlain tables (last_node None common) p → Parts common p Less row → is_front tables orders steps row ≡ true
unfolding is_front
front_row tables orders steps common ps p row is plain at =
    ap (λ xs. before_in tables orders None xs steps) at.steps_are ∙ ap (λ xs. before_in tables orders None (common ++ at.step ∷ at.rest) xs) is
    ∙ before_common tables orders None common at.step p at.rest ps (differ at.step p Less at.side_is (λ e. cc))
    ∙ sibling_less tables (keys_above tables (last_node None common)) (first_order (drop (length common) orders)) at.step p plain.keys plain.system at.side_is

pub back_row : (tables : Tables) (orders : List (List (List (List ℕ)))) (steps common ps : List Step) (p : Step) (row : Row) → steps ≡ common ++ p ∷ ps → IsPlain tables (last_node None common) p → Parts common p Greater row → is_front tables orders steps row ≡ false
unfolding is_front
back_row tables orders steps common ps p row is plain at =
    ap (λ xs. before_in tables orders None xs steps) at.steps_are ∙ ap (λ xs. before_in tables orders None (common ++ at.step ∷ at.rest) xs) is
    ∙ before_common tables orders None common at.step p at.rest ps (differ at.step p Greater at.side_is (λ e. cc))
    ∙ sibling_more tables (keys_above tables (last_node None common)) (first_order (drop (length common) orders)) at.step p plain.keys plain.system at.side_is

pub same_back : (a b : Step) → is_same_step b a ≡ false → is_same_step a b ≡ false
same_back a b e = by (is_same_step a b) refl
  where
    by : (t : Bool) → is_same_step a b ≡ t → t ≡ false
    by false f = refl
    by true f = let same : a ≡ b = (step_decide a b).0 f in let back : is_same_step b a ≡ true = (step_decide b a).1 (sym same) in cc

-- no row of a block excludes it
none_excludes : (tables : Tables) (steps common ps : List Step) (p : Step) (side : Ordering) (row : Row) → steps ≡ common ++ p ∷ ps → (at : Parts common p side row) → cases_differ (cases_of tables p.node) (cases_of tables at.step.node) ≡ false → side ≢ Equal →
    (block : List Row) → All (IsUnder steps) block → list_any (λ added. excludes tables added.path.steps row.path.steps) block ≡ false
none_excludes tables steps common ps p side row is at cases other [] all = refl
none_excludes tables steps common ps p side row is at cases other (added ∷ block) all =
    let under : IsUnder steps added = All-head (IsUnder steps) added block all in
    let path : added.path.steps ≡ common ++ p ∷ (ps ++ under.0) = under.1 ∙ ap (λ xs. xs ++ under.0) is ∙ append_assoc common (p ∷ ps) under.0 in
    let turned : is_same_step p at.step ≡ false = same_back p at.step (differ at.step p side at.side_is other) in
    let one : excludes tables added.path.steps row.path.steps ≡ false =
    ap (λ xs. excludes tables xs row.path.steps) path ∙ ap (λ xs. excludes tables (common ++ p ∷ (ps ++ under.0)) xs) at.steps_are
    ∙ excludes_common tables common at.step p at.rest (ps ++ under.0) turned ∙ cases in
    ap (λ b. b || list_any (λ added. excludes tables added.path.steps row.path.steps) block) one
    ∙ none_excludes tables steps common ps p side row is at cases other block (All-tail (IsUnder steps) added block all)

pub stay : (tables : Tables) (steps : List Step) (block : List Row) (row : Row) → is_at_or_below steps row.path ≡ false → list_any (λ added. excludes tables added.path.steps row.path.steps) block ≡ false → stays tables steps block row ≡ true
unfolding stays
stay tables steps block row apart kept = ap (λ b. not (b || list_any (λ added. excludes tables added.path.steps row.path.steps) block)) apart ∙ ap not kept

pub stays_row : (tables : Tables) (steps common ps : List Step) (p : Step) (side : Ordering) (block : List Row) (row : Row) → steps ≡ common ++ p ∷ ps → (at : Parts common p side row) → cases_differ (cases_of tables p.node) (cases_of tables at.step.node) ≡ false → side ≢ Equal → All (IsUnder steps) block → stays tables steps block row ≡ true
stays_row tables steps common ps p side block row is at cases other all =
    stay tables steps block row
    (other_step steps row (length common) p at.step (ap (λ xs. slice_get xs (length common)) is ∙ get_common common (p ∷ ps)) (ap (λ xs. slice_get xs (length common)) at.steps_are ∙ get_common common (at.step ∷ at.rest)) (λ e. other (sym at.side_is ∙ e)))
    (none_excludes tables steps common ps p side row is at cases other block all)

-- a row above the path
pub front_above : (tables : Tables) (orders : List (List (List (List ℕ)))) (steps ps : List Step) (p : Step) (row : Row) → steps ≡ row.path.steps ++ p ∷ ps → is_front tables orders steps row ≡ true
unfolding is_front
front_above tables orders steps ps p row is = ap (λ xs. before_in tables orders None row.path.steps xs) is ∙ before_shorter tables orders None row.path.steps p ps

longer_apart : (steps ps : List Step) (p : Step) (row : Row) → steps ≡ row.path.steps ++ p ∷ ps → is_at_or_below steps row.path ≡ false
longer_apart steps ps p row is = by (is_at_or_below steps row.path) refl
  where
    by : (b : Bool) → is_at_or_below steps row.path ≡ b → b ≡ false
    by false e = refl
    by true e =
        let on : row.path.steps ≡ steps ++ drop (length steps) row.path.steps = goes_on steps row e in
        let long : length row.path.steps ≡ length (steps ++ drop (length steps) row.path.steps) = ap length on in
        let more : length steps ≡ length (row.path.steps ++ p ∷ ps) = ap length is in
        absurd (omega (arith, long, more, Rattle.std.proofs.lemmas.List.length-append steps (drop (length steps) row.path.steps), Rattle.std.proofs.lemmas.List.length-append row.path.steps (p ∷ ps)))

pub stays_above : (tables : Tables) (steps ps : List Step) (p : Step) (block : List Row) (row : Row) → steps ≡ row.path.steps ++ p ∷ ps → All (IsUnder steps) block → stays tables steps block row ≡ true
stays_above tables steps ps p block row is all = stay tables steps block row (longer_apart steps ps p row is) (none block all)
  where
    none : (block : List Row) → All (IsUnder steps) block → list_any (λ added. excludes tables added.path.steps row.path.steps) block ≡ false
    none [] all = refl
    none (added ∷ block) all =
        let under : IsUnder steps added = All-head (IsUnder steps) added block all in
        let path : added.path.steps ≡ row.path.steps ++ (p ∷ ps ++ under.0) = under.1 ∙ ap (λ xs. xs ++ under.0) is ∙ append_assoc row.path.steps (p ∷ ps) under.0 in
        ap (λ b. b || list_any (λ added. excludes tables added.path.steps row.path.steps) block) (ap (λ xs. excludes tables xs row.path.steps) path ∙ excludes_shorter tables row.path.steps (p ∷ ps ++ under.0))
        ∙ none block (All-tail (IsUnder steps) added block all)

-- a row at the path or below it goes
pub gone_row : (tables : Tables) (steps : List Step) (block : List Row) (row : Row) → IsUnder steps row → stays tables steps block row ≡ false
unfolding stays
gone_row tables steps block row under = ap (λ b. not (b || list_any (λ added. excludes tables added.path.steps row.path.steps) block)) (is_below steps under.0 row under.1)
