-- Rows on one side of a path by their numbers, and by where the entries of a list that the user orders stand.
use Rattle.std.proofs.Common.{◌≡◌, ◌++◌, ◌||◌, ◌&&◌, ◌==◌, ◌+◌, ◌<◌, ◌≤◌, ℕ, Bool, true, false, cond, ltb, List, [], Option, Some, None, refl, ap, ◌∙◌, arith, length, drop}
use Rattle.std.specs.Prelude.{slice_get, slice_index_or}
use Rattle.std.specs.List.{All}
use Rattle.std.specs.Option.{option_map_or}
use Rattle.std.specs.Cmp.Lexicographic.{slice_cmp}
use Rattle.std.specs.Ordering.{nat_cmp}
use Rattle.std.proofs.lemmas.Bool.{le-ltb, lt-ltb, ltb-true}
use Rattle.std.proofs.lemmas.Bool.Decides.{Decides-eqb}
use Rattle.std.proofs.lemmas.List.Elements.{All-weaker, filter_map-append}
use Rattle.nc_names.proofs.SameLemmas.{first_true}
use Rattle.nc_names.specs.Same.{is_same_keys, is_same_step}
use Rattle.nc_names.specs.declared.path.Row.{Row}
use Rattle.nc_names.specs.declared.path.Step.{Step}
use Rattle.nc_schema.specs.Order.{keys_above, sibling_place}
use Rattle.nc_schema.specs.Standing.{entries, entry_before, has_row, is_by_user, is_less, keys_in, sibling_before, stands_before}
use Rattle.nc_schema.specs.Tables.{Tables}
use Rattle.nc_branches.specs.Entries.{are_some, is_entry}
use Rattle.nc_branches.specs.Orders.{first_order}
use Rattle.nc_branches.specs.Tallies.{IsTallied}
use Rattle.nc_branches.specs.inner.Free.{AreFree}
use Rattle.nc_branches.specs.inner.Order.{AreUnder}
use Rattle.nc_branches.specs.inner.Putting.{Aiming, AreAside}
use Rattle.nc_branches.specs.inner.Steady.{AreBy, is_high, is_low}
use Rattle.nc_branches.specs.inner.Turning.{IsSided, IsSingle, entry_at}
use Rattle.nc_branches.proofs.Aside.{aside_row}
use Rattle.nc_branches.proofs.EntryOrder.{ahead_split, behind_split, entry_row}
use Rattle.nc_branches.proofs.SideOrder.{place_most, place_of}
use Rattle.nc_branches.proofs.Tallies.{none_first}

-- rows each of which stands on a side
pub aside_sided : (before : Bool) (aim : Aiming) (depth : ℕ) (above : Option ℕ) (asked : Step) (rows : List Row) → slice_get aim.steps depth ≡ Some asked → AreFree aim.tables depth asked rows →
    All (IsSided before aim depth above asked) rows → AreAside before aim depth above rows
unfolding AreAside AreUnder AreFree
aside_sided before aim depth above asked rows asked_is free all = λ block level k d l.
    let row = slice_index_or rows k d in
    let at = all k d l in
    aside_row aim depth above before asked at.own asked_is level.above_is at.differ (free k d l at.own at.own_is) at.side block row at.own_is (level.under k d l)

-- steps of other numbers
nat_other : (n k : ℕ) → (n ≡ k → ⊥) → (n == k) ≡ false
nat_other n k other = by (n == k) refl
  where
    by : (b : Bool) → (n == k) ≡ b → b ≡ false
    by false e = refl
    by true e = absurd (other ((Decides-eqb n k).0 e))

pub step_other : (own asked : Step) → (own.node ≡ asked.node → ⊥) → is_same_step own asked ≡ false
step_other own asked other = ap (λ b. b && is_same_keys own.keys asked.keys) (nat_other own.node asked.node other)

pub side_low : (tables : Tables) (keys : List ℕ) (order : List (List (List ℕ))) (s p : Step) → All (λ key. key < p.node) keys → s.node < p.node → sibling_before tables keys order s p ≡ true
side_low tables keys order s p less before =
    let most : sibling_place keys s.node ≤ s.node + length keys = place_most keys s.node in
    let place : sibling_place keys p.node ≡ p.node + length keys = place_of keys p.node p.node less (omega arith) in
    ap (λ b. b || (s.node == p.node && entry_before tables order s p)) (lt-ltb (sibling_place keys s.node) (sibling_place keys p.node) (omega (arith, before, most, place)))

pub side_high : (tables : Tables) (keys : List ℕ) (order : List (List (List ℕ))) (s p : Step) → All (λ key. key < p.node) keys → p.node < s.node → sibling_before tables keys order s p ≡ false
side_high tables keys order s p less after =
    let own : sibling_place keys s.node ≡ s.node + length keys = place_of keys s.node p.node less (omega (arith, after)) in
    let place : sibling_place keys p.node ≡ p.node + length keys = place_of keys p.node p.node less (omega arith) in
    ap (λ b. b || (s.node == p.node && entry_before tables order s p)) (le-ltb (sibling_place keys s.node) (sibling_place keys p.node) (omega (arith, after, own, place)))
    ∙ ap (λ b. b && entry_before tables order s p) (nat_other s.node p.node (λ e. omega (arith, e, after)))

side_same : (tables : Tables) (keys : List ℕ) (order : List (List (List ℕ))) (s p : Step) → s.node ≡ p.node → is_by_user tables p.node ≡ true → sibling_before tables keys order s p ≡ stands_before order s.keys p.keys
side_same tables keys order s p same user =
    let places : sibling_place keys s.node ≡ sibling_place keys p.node = ap (sibling_place keys) same in
    ap (λ b. b || (s.node == p.node && entry_before tables order s p)) (le-ltb (sibling_place keys s.node) (sibling_place keys p.node) (omega (arith, places)))
    ∙ ap (λ b. b && entry_before tables order s p) ((Decides-eqb s.node p.node).1 same)
    ∙ ap (λ b. cond b (stands_before order s.keys p.keys) (is_less (slice_cmp (slice_cmp nat_cmp) s.keys p.keys))) (ap (is_by_user tables) same ∙ user)

-- a row whose step passes a test has that step
pub record Stepped (test : Step → Bool) (depth : ℕ) (row : Row) : Type 0 where
  pub own : Step
  pub own_is : slice_get row.path.steps depth ≡ Some own
  pub is : test own ≡ true

pub stepped : (test : Step → Bool) (depth : ℕ) (row : Row) → option_map_or test (slice_get row.path.steps depth) false ≡ true → Stepped test depth row
stepped test depth row e = by (slice_get row.path.steps depth) refl e
  where
    by : (o : Option Step) → slice_get row.path.steps depth ≡ o → option_map_or test o false ≡ true → Stepped test depth row
    by None is bad = cc
    by (Some own) is ok = record { own = own; own_is = is; is = ok }

-- rows before a step whose number is lower than the path's
pub low_sided : (aim : Aiming) (depth : ℕ) (above : Option ℕ) (asked step : Step) (rows : List Row) → IsSingle aim.tables above asked → step.node < asked.node → AreBy depth (is_low step) rows → All (IsSided true aim depth above asked) rows
unfolding AreBy
low_sided aim depth above asked step rows single less all =
    All-weaker (λ row. option_map_or (is_low step) (slice_get row.path.steps depth) false ≡ true) (IsSided true aim depth above asked) at rows all
  where
    lower : (own : Step) (b : Bool) → ltb own.node step.node ≡ b → (b || (own.node == step.node && (are_some own.keys && are_some step.keys))) ≡ true → own.node < asked.node
    lower own true e is = let l : own.node < step.node = ltb-true own.node step.node e in omega (arith, l, less)
    lower own false e is = let same : own.node ≡ step.node = (Decides-eqb own.node step.node).0 (first_true (own.node == step.node) (are_some own.keys && are_some step.keys) is) in omega (arith, same, less)

    at : (row : Row) → option_map_or (is_low step) (slice_get row.path.steps depth) false ≡ true → IsSided true aim depth above asked row
    at row e =
        let s = stepped (is_low step) depth row e in
        let l : s.own.node < asked.node = lower s.own (ltb s.own.node step.node) refl s.is in
        record { own = s.own; own_is = s.own_is; differ = step_other s.own asked (λ same. omega (arith, same, l)); side = side_low aim.tables (keys_above aim.tables above) (first_order (drop depth aim.orders)) s.own asked single.keys l }

-- rows after a step whose number is higher
pub high_sided : (aim : Aiming) (depth : ℕ) (above : Option ℕ) (asked step : Step) (rows : List Row) → IsSingle aim.tables above asked → asked.node < step.node → AreBy depth (is_high step) rows → All (IsSided false aim depth above asked) rows
unfolding AreBy
high_sided aim depth above asked step rows single more all =
    All-weaker (λ row. option_map_or (is_high step) (slice_get row.path.steps depth) false ≡ true) (IsSided false aim depth above asked) at rows all
  where
    higher : (own : Step) (b : Bool) → ltb step.node own.node ≡ b → (b || (own.node == step.node && (are_some own.keys && are_some step.keys))) ≡ true → asked.node < own.node
    higher own true e is = let l : step.node < own.node = ltb-true step.node own.node e in omega (arith, l, more)
    higher own false e is = let same : own.node ≡ step.node = (Decides-eqb own.node step.node).0 (first_true (own.node == step.node) (are_some own.keys && are_some step.keys) is) in omega (arith, same, more)

    at : (row : Row) → option_map_or (is_high step) (slice_get row.path.steps depth) false ≡ true → IsSided false aim depth above asked row
    at row e =
        let s = stepped (is_high step) depth row e in
        let l : asked.node < s.own.node = higher s.own (ltb step.node s.own.node) refl s.is in
        record { own = s.own; own_is = s.own_is; differ = step_other s.own asked (λ same. omega (arith, same, l)); side = side_high aim.tables (keys_above aim.tables above) (first_order (drop depth aim.orders)) s.own asked single.keys l }

entries_append : (xs ys : List Row) (above : List Step) (number : ℕ) → entries (xs ++ ys) above number ≡ entries xs above number ++ entries ys above number
entries_append xs ys above number = filter_map-append (λ row. keys_in above number row.path.steps) xs ys

-- of two entries of one list the one whose row is among the first rows stands before the other
pub entry_ahead : (known xs ys : List Row) (above : List Step) (number : ℕ) (k p : List (List ℕ)) → IsTallied known (xs ++ ys) → is_entry (entry_at above number p) ≡ true →
    has_row xs (entry_at above number k) ≡ true → has_row ys (entry_at above number p) ≡ true → stands_before (entries (xs ++ ys) above number) k p ≡ true
entry_ahead known xs ys above number k p all entry first second =
    ap (λ order. stands_before order k p) (entries_append xs ys above number)
    ∙ ahead_split (entries xs above number) (entries ys above number) k p
    (entry_row xs above number k ∙ first)
    (entry_row xs above number p ∙ none_first known xs ys (entry_at above number p) all entry second)

pub entry_behind : (known xs ys : List Row) (above : List Step) (number : ℕ) (k p : List (List ℕ)) → IsTallied known (xs ++ ys) → is_entry (entry_at above number k) ≡ true →
    has_row xs (entry_at above number p) ≡ true → has_row ys (entry_at above number k) ≡ true → stands_before (entries (xs ++ ys) above number) k p ≡ false
entry_behind known xs ys above number k p all entry first second =
    ap (λ order. stands_before order k p) (entries_append xs ys above number)
    ∙ behind_split (entries xs above number) (entries ys above number) k p
    (entry_row xs above number p ∙ first)
    (entry_row xs above number k ∙ none_first known xs ys (entry_at above number k) all entry second)

-- rows of other numbers on their sides, and entries of the list by their order
pub user_sided : (aim : Aiming) (depth : ℕ) (above : Option ℕ) (asked : Step) (before : Bool) (row : Row) (own : Step) → is_by_user aim.tables asked.node ≡ true → own.node ≡ asked.node → slice_get row.path.steps depth ≡ Some own →
    is_same_step own asked ≡ false → stands_before (first_order (drop depth aim.orders)) own.keys asked.keys ≡ before → IsSided before aim depth above asked row
user_sided aim depth above asked before row own user same own_is differ side = record {
  own = own;
  own_is = own_is;
  differ = differ;
  side = side_same aim.tables (keys_above aim.tables above) (first_order (drop depth aim.orders)) own asked same user ∙ side;
}
