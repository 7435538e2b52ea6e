-- Rows beside a path none of which gives way to it, seen by the numbers of siblings.
use Rattle.std.proofs.Common.{◌≡◌, ◌++◌, ◌||◌, ◌&&◌, ◌==◌, ◌<◌, ◌≤◌, ℕ, Bool, true, false, ltb, List, [], Option, Some, None, refl, sym, ap, subst, ◌∙◌, arith, length}
use Rattle.std.specs.Prelude.{slice_get, slice_index_or}
use Rattle.std.specs.List.{All}
use Rattle.std.specs.Option.{option_map_or}
use Rattle.std.proofs.lemmas.Bool.{ltb-true}
use Rattle.std.proofs.lemmas.Bool.Decides.{Decides-eqb}
use Rattle.std.proofs.lemmas.List.Elements.{All-append, All-nil}
use Rattle.nc_names.proofs.SameLemmas.{first_true}
use Rattle.nc_names.specs.declared.path.Row.{Row}
use Rattle.nc_names.specs.declared.path.Step.{Step}
use Rattle.nc_schema.specs.Standing.{cases_differ, cases_of}
use Rattle.nc_schema.specs.Tables.{Tables}
use Rattle.nc_branches.specs.Branches.{Branches}
use Rattle.nc_branches.specs.Entries.{are_some}
use Rattle.nc_branches.specs.inner.Forks.{IsForkOf}
use Rattle.nc_branches.specs.inner.Free.{AreFree, AreIn, FreeAt, IsFreeRow, IsNumberIn, IsOnly, IsRowIn}
use Rattle.nc_branches.specs.inner.Order.{AreUnder, IsUnder}
use Rattle.nc_branches.specs.inner.Putting.{Aiming}
use Rattle.nc_branches.specs.inner.Shoots.{rows_of}
use Rattle.nc_branches.specs.inner.Steady.{AreBy, is_high, is_low}
use Rattle.nc_branches.specs.inner.Ways.{IsOwn}
use Rattle.nc_branches.specs.declared.tree.Fork.{Fork}
use Rattle.nc_branches.proofs.Numbered.{left_by, right_by}
use Rattle.nc_branches.proofs.Placing.{all_first, all_second, own_under, three_free}
use Rattle.nc_branches.proofs.Sides.{get_append}

same_step : (a b : Step) → Some a ≡ Some b → a ≡ b
same_step a b e = cc

-- in a part
pub free_left : (aim : Aiming) (depth : ℕ) (branches : Branches) (fork : Fork) → IsForkOf branches fork → FreeAt aim depth branches.rows → FreeAt aim depth fork.left.rows
unfolding FreeAt
free_left aim depth branches fork is free = λ asked there. (three_free branches fork aim.tables depth asked is (free asked there)).0

pub free_right : (aim : Aiming) (depth : ℕ) (branches : Branches) (fork : Fork) → IsForkOf branches fork → FreeAt aim depth branches.rows → FreeAt aim depth fork.right.rows
unfolding FreeAt
free_right aim depth branches fork is free = λ asked there. (three_free branches fork aim.tables depth asked is (free asked there)).2

-- to a step that is in no case nothing gives way
pub free_plain : (aim : Aiming) (depth : ℕ) (rows : List Row) (asked : Step) → slice_get aim.steps depth ≡ Some asked → cases_of aim.tables asked.node ≡ [] → FreeAt aim depth rows
unfolding FreeAt AreFree
free_plain aim depth rows asked asked_is none = λ other there. λ k d l. λ own own_is.
    let same : asked ≡ other = same_step asked other (sym asked_is ∙ there) in
    ap (λ (s : Step). cases_differ (cases_of aim.tables s.node) (cases_of aim.tables own.node)) (sym same)
    ∙ ap (λ cases. cases_differ cases (cases_of aim.tables own.node)) none

no_bounds : (depth : ℕ) (rows : List Row) → AreIn None None depth rows
unfolding AreIn
no_bounds depth rows = λ k d l. λ own own_is. record { from = λ least e. cc; to = λ most e. cc }

pub free_at : (aim : Aiming) (depth : ℕ) (rows : List Row) (asked : Step) → slice_get aim.steps depth ≡ Some asked → (AreIn None None depth rows → AreFree aim.tables depth asked rows) → FreeAt aim depth rows
unfolding FreeAt
free_at aim depth rows asked asked_is free = λ other there.
    subst (λ (s : Step). AreFree aim.tables depth s rows) (same_step asked other (sym asked_is ∙ there)) (free (no_bounds depth rows))

-- where there are no rows
pub free_none : (tables : Tables) (depth : ℕ) (asked : Step) (rows : List Row) → rows ≡ [] → AreFree tables depth asked rows
unfolding AreFree
free_none tables depth asked rows none = subst (All (IsFreeRow tables depth asked)) (sym none) (All-nil (IsFreeRow tables depth asked))

-- where all are of one number
pub free_only : (tables : Tables) (depth : ℕ) (asked : Step) (low high : Option ℕ) (number : ℕ) (rows : List Row) → IsOnly low high number → cases_differ (cases_of tables asked.node) (cases_of tables number) ≡ false → AreIn low high depth rows → AreFree tables depth asked rows
unfolding AreIn AreFree
free_only tables depth asked low high number rows only free within = λ k d l. λ own own_is.
    let at : IsNumberIn low high own.node = within k d l own own_is in
    let same : own.node ≡ number = omega (arith, at.from number only.from, at.to number only.to) in
    ap (λ n. cases_differ (cases_of tables asked.node) (cases_of tables n)) same ∙ free

-- the numbers on the two sides of a node
low_number : (own s : Step) → is_low own s ≡ true → s.node ≤ own.node
low_number own s e = by (ltb s.node own.node) refl e
  where
    by : (b : Bool) → ltb s.node own.node ≡ b → (b || (s.node == own.node && (are_some s.keys && are_some own.keys))) ≡ true → s.node ≤ own.node
    by true f is = omega (arith, ltb-true s.node own.node f)
    by false f is = omega (arith, (Decides-eqb s.node own.node).0 (first_true (s.node == own.node) (are_some s.keys && are_some own.keys) is))

high_number : (own s : Step) → is_high own s ≡ true → own.node ≤ s.node
high_number own s e = by (ltb own.node s.node) refl e
  where
    by : (b : Bool) → ltb own.node s.node ≡ b → (b || (s.node == own.node && (are_some s.keys && are_some own.keys))) ≡ true → own.node ≤ s.node
    by true f is = omega (arith, ltb-true own.node s.node f)
    by false f is = omega (arith, (Decides-eqb s.node own.node).0 (first_true (s.node == own.node) (are_some s.keys && are_some own.keys) is))

some_same : (a b : ℕ) → Some a ≡ Some b → a ≡ b
some_same a b e = cc

in_parts : (low high : Option ℕ) (depth : ℕ) (branches : Branches) (fork : Fork) → IsForkOf branches fork → AreIn low high depth branches.rows → AreIn low high depth fork.left.rows × AreIn low high depth fork.right.rows
unfolding AreIn
in_parts low high depth branches fork is all =
    let P : Row → Type 0 = IsRowIn low high depth in
    let whole : All P (fork.left.rows ++ rows_of fork.twig ++ fork.right.rows) = subst (All P) is.rows all in
    let front : All P (fork.left.rows ++ rows_of fork.twig) = all_first P (fork.left.rows ++ rows_of fork.twig) fork.right.rows whole in
    (all_first P fork.left.rows (rows_of fork.twig) front, all_second P (fork.left.rows ++ rows_of fork.twig) fork.right.rows whole)

in_left : (low high : Option ℕ) (depth : ℕ) (own : Step) (branches : Branches) (fork : Fork) → IsForkOf branches fork → fork.numbered ≡ true → IsOwn depth own fork.twig → AreIn low high depth branches.rows → AreIn low (Some own.node) depth fork.left.rows
unfolding AreIn AreBy
in_left low high depth own branches fork is numbered at all = λ k d l. λ s s_is.
    let test : is_low own s ≡ true = sym (ap (λ o. option_map_or (is_low own) o false) s_is) ∙ left_by depth own branches fork is numbered at k d l in
    record {
      from = ((in_parts low high depth branches fork is all).0 k d l s s_is).from;
      to = λ most e. let same : own.node ≡ most = some_same own.node most e in omega (arith, low_number own s test, same);
    }

in_right : (low high : Option ℕ) (depth : ℕ) (own : Step) (branches : Branches) (fork : Fork) → IsForkOf branches fork → fork.numbered ≡ true → IsOwn depth own fork.twig → AreIn low high depth branches.rows → AreIn (Some own.node) high depth fork.right.rows
unfolding AreIn AreBy
in_right low high depth own branches fork is numbered at all = λ k d l. λ s s_is.
    let test : is_high own s ≡ true = sym (ap (λ o. option_map_or (is_high own) o false) s_is) ∙ right_by depth own branches fork is numbered at k d l in
    record {
      from = λ least e. let same : own.node ≡ least = some_same own.node least e in omega (arith, high_number own s test, same);
      to = ((in_parts low high depth branches fork is all).1 k d l s s_is).to;
    }

free_twig : (tables : Tables) (depth : ℕ) (asked own : Step) (fork : Fork) → IsOwn depth own fork.twig → cases_differ (cases_of tables asked.node) (cases_of tables own.node) ≡ false → AreFree tables depth asked (rows_of fork.twig)
unfolding AreFree AreUnder
free_twig tables depth asked own fork at free = λ k d l. λ s s_is.
    let row : Row = slice_index_or (rows_of fork.twig) k d in
    let inner : IsUnder fork.twig.row.path.steps row = own_under fork.twig at.under k d l in
    let own_is : slice_get row.path.steps depth ≡ Some own = ap (λ xs. slice_get xs depth) inner.1 ∙ get_append fork.twig.row.path.steps inner.0 depth own at.own_is in
    let same : own ≡ s = same_step own s (sym own_is ∙ s_is) in
    ap (λ (t : Step). cases_differ (cases_of tables asked.node) (cases_of tables t.node)) (sym same) ∙ free

pub free_fork : (tables : Tables) (depth : ℕ) (asked own : Step) (low high : Option ℕ) (branches : Branches) (fork : Fork) → IsForkOf branches fork → fork.numbered ≡ true → IsOwn depth own fork.twig → cases_differ (cases_of tables asked.node) (cases_of tables own.node) ≡ false →
    (AreIn low (Some own.node) depth fork.left.rows → AreFree tables depth asked fork.left.rows) → (AreIn (Some own.node) high depth fork.right.rows → AreFree tables depth asked fork.right.rows) → AreIn low high depth branches.rows → AreFree tables depth asked branches.rows
unfolding AreFree
free_fork tables depth asked own low high branches fork is numbered at free left right all =
    joined (left (in_left low high depth own branches fork is numbered at all)) (free_twig tables depth asked own fork at free) (right (in_right low high depth own branches fork is numbered at all))
  where
    joined : AreFree tables depth asked fork.left.rows → AreFree tables depth asked (rows_of fork.twig) → AreFree tables depth asked fork.right.rows → AreFree tables depth asked branches.rows
    joined l h r =
        let P : Row → Type 0 = IsFreeRow tables depth asked in
        subst (All P) (sym is.rows) (All-append P (fork.left.rows ++ rows_of fork.twig) fork.right.rows (All-append P fork.left.rows (rows_of fork.twig) l h) r)
