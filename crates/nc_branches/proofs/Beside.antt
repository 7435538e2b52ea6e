-- Where a path goes on among the entries of a list that the user orders.
use Rattle.std.proofs.Common.{◌≡◌, ◌++◌, ◌||◌, ◌&&◌, ◌==◌, ◌+◌, ◌-◌, ◌<◌, ℕ, zero, suc, Bool, true, false, ltb, List, [], ◌∷◌, Option, Some, None, refl, sym, ap, subst, ◌∙◌, arith, length, drop, take}
use Rattle.std.specs.Prelude.{IfSome, slice_get, slice_index_or}
use Rattle.std.specs.Option.{option_map_or}
use Rattle.std.proofs.lemmas.Bool.{ltb-true}
use Rattle.std.proofs.lemmas.List.{append_assoc, length-append}
use Rattle.std.proofs.lemmas.List.Folds.{list_any_at}
use Rattle.nc_names.proofs.SameLemmas.{first_true, keys_decide, path_decide, second_true}
use Rattle.nc_names.specs.Same.{is_at_or_below, is_same_keys, is_same_path}
use Rattle.nc_names.specs.declared.path.Row.{Row}
use Rattle.nc_names.specs.declared.path.Step.{Step}
use Rattle.nc_schema.specs.Order.{keys_above}
use Rattle.nc_schema.specs.Standing.{entries, exists, has_row, is_by_user, stands_before}
use Rattle.nc_schema.specs.Tables.{Tables}
use Rattle.nc_branches.specs.Branches.{Branches}
use Rattle.nc_branches.specs.Entries.{are_some, is_entry}
use Rattle.nc_branches.specs.Orders.{first_order}
use Rattle.nc_branches.specs.Tallies.{IsTallied}
use Rattle.nc_branches.specs.inner.Forks.{IsForkOf}
use Rattle.nc_branches.specs.inner.Free.{AreFree, FreeAt}
use Rattle.nc_branches.specs.declared.tree.Fork.{Fork}
use Rattle.nc_branches.specs.inner.Order.{AreUnder, IsUnder}
use Rattle.nc_branches.specs.inner.Putting.{Aiming, AreAside, Laying}
use Rattle.nc_branches.specs.inner.Shoots.{rows_of}
use Rattle.nc_branches.specs.inner.Steady.{AreBy, AreWhole, is_high, is_low}
use Rattle.nc_branches.specs.inner.Turning.{AreEntries, Follows, IsBeside, IsLaid, IsSided, IsTurned, TurnOf, entry_at, entry_by, is_ahead}
use Rattle.nc_branches.specs.inner.Ways.{GoesOn, Goes, IsMet, IsOfNumber, IsUsers, Stands, TurnsOn}
use Rattle.nc_branches.specs.declared.labels.Turn.{Turn}
use Rattle.nc_branches.specs.declared.labels.Turn.TheVariants.{Kept, First, Last, Before, After}
use Rattle.nc_branches.specs.declared.way.Way.{Way}
use Rattle.nc_branches.specs.declared.way.Way.TheVariants.{Left, Here, Right, Unknown}
use Rattle.nc_branches.proofs.Aside.{aside_row, parted}
use Rattle.nc_branches.proofs.Numbered.{left_by, right_by}
use Rattle.nc_branches.proofs.Locating.{own_row}
use Rattle.nc_branches.proofs.Placing.{own_under, three_free}
use Rattle.nc_branches.proofs.Places.{is_below}
use Rattle.nc_branches.proofs.RowSides.{get_common, taken_length}
use Rattle.nc_branches.proofs.Sides.{get_append}
use Rattle.nc_branches.proofs.Tallies.{none_second}
use Rattle.nc_branches.proofs.Turned.{IsIn, entries_in, follows_in, has_first, has_second, here_in, left_in, right_in, turned_left, turned_right}
use Rattle.nc_branches.proofs.Turning.{entry_ahead, entry_behind, side_high, side_low, step_other, user_sided}
use Rattle.nc_branches.proofs.Ways.{seen_here, seen_left, seen_right, unknown}
use Rattle.nc_branches.proofs.Wholes.{some_one}

-- a path of an entry is that of one with keys
pub entry_some : (above : List Step) (number : ℕ) (keys : List (List ℕ)) → is_entry (entry_at above number keys) ≡ are_some keys
entry_some above number keys =
    let last : Step = record { node = number; keys = keys } in
    let len : length (above ++ last ∷ []) - 1 ≡ length above = omega (arith, length-append above (last ∷ [])) in
    ap (λ o. option_map_or (λ (step : Step). are_some step.keys) o false) (ap (slice_get (above ++ last ∷ [])) len ∙ get_common above (last ∷ []))

-- the path of an entry that stands in the path of a row
pub entry_path : (aim : Aiming) (depth : ℕ) (asked own : Step) (row : Row) (rest : List Step) → own.node ≡ asked.node → row.path.steps ≡ take depth aim.steps ++ own ∷ rest → row.path.steps ≡ entry_by aim depth asked own.keys ++ rest
entry_path aim depth asked own row rest same is =
    is ∙ sym (append_assoc (take depth aim.steps) (own ∷ []) rest) ∙ ap (λ (n : ℕ). (take depth aim.steps ++ record { node = n; keys = own.keys } ∷ []) ++ rest) same

-- rows of a part in which entries have rows of their own
pub entry_has : (aim : Aiming) (depth : ℕ) (asked own : Step) (rows : List Row) → AreWhole depth rows → slice_get aim.steps depth ≡ Some asked → (k : ℕ) (d : Row) → k < length rows → IsUnder (take depth aim.steps) (slice_index_or rows k d) →
    slice_get (slice_index_or rows k d).path.steps depth ≡ Some own → own.node ≡ asked.node → are_some own.keys ≡ true → has_row rows (entry_by aim depth asked own.keys) ≡ true
unfolding AreWhole
entry_has aim depth asked own rows whole asked_is k d l under own_is same some =
    let row : Row = slice_index_or rows k d in
    let q : List Step = entry_by aim depth asked own.keys in
    let at = parted aim depth asked own row asked_is own_is under in
    let below : is_at_or_below q row.path ≡ true = is_below q at.rest row (entry_path aim depth asked own row at.rest same at.is) in
    let there : exists rows q ≡ true = list_any_at (λ row. is_at_or_below q row.path) rows k d l below in
    let last : Step = record { node = asked.node; keys = own.keys } in
    let long : depth < length q = omega (arith, length-append (take depth aim.steps) (last ∷ []), taken_length depth aim.steps asked asked_is) in
    whole q long (entry_some (take depth aim.steps) asked.node own.keys ∙ some) there

-- rows each of which stands on a side, where they are below the first steps of the path
pub aside_under : (before : Bool) (aim : Aiming) (depth : ℕ) (above : Option ℕ) (asked : Step) (rows : List Row) → slice_get aim.steps depth ≡ Some asked → AreFree aim.tables depth asked rows →
    ((k : ℕ) (d : Row) → k < length rows → IsUnder (take depth aim.steps) (slice_index_or rows k d) → IsSided before aim depth above asked (slice_index_or rows k d)) → AreAside before aim depth above rows
unfolding AreAside AreUnder AreFree
aside_under before aim depth above asked rows asked_is free all = λ block level k d l.
    let row = slice_index_or rows k d in
    let at = all k d l (level.under k d l) in
    aside_row aim depth above before asked at.own asked_is level.above_is at.differ (free k d l at.own at.own_is) at.side block row at.own_is (level.under k d l)

-- no sibling of the entry gives way
met_free : (turn : Turn) (aim : Aiming) (lay : Laying) (depth : ℕ) (above : Option ℕ) (asked : Step) (branches : Branches) (fork : Fork) → IsMet turn aim lay depth above asked branches fork →
    AreFree aim.tables depth asked fork.left.rows × AreFree aim.tables depth asked (rows_of fork.twig) × AreFree aim.tables depth asked fork.right.rows
unfolding FreeAt
met_free turn aim lay depth above asked branches fork met = three_free branches fork aim.tables depth asked met.is (met.free asked met.asked_is)

-- an entry of the list
and_false : (b : Bool) → (b && false) ≡ false
and_false true = refl
and_false false = refl

entry_sided : (before : Bool) (aim : Aiming) (depth : ℕ) (above : Option ℕ) (asked own : Step) (row : Row) → is_by_user aim.tables asked.node ≡ true → own.node ≡ asked.node → slice_get row.path.steps depth ≡ Some own →
    is_same_keys own.keys asked.keys ≡ false → is_ahead aim depth asked own.keys ≡ before → IsSided before aim depth above asked row
entry_sided before aim depth above asked own row user same own_is differ side =
    user_sided aim depth above asked before row own user same own_is (ap (λ b. own.node == asked.node && b) differ ∙ and_false (own.node == asked.node)) side

-- a row has the step that passes a test
step_at : (test : Step → Bool) (depth : ℕ) (rows : List Row) → AreBy depth test rows → (k : ℕ) (d : Row) → k < length rows → option_map_or test (slice_get (slice_index_or rows k d).path.steps depth) false ≡ true
unfolding AreBy
step_at test depth rows all k d l = all k d l

-- the rows on the left of an entry of the list
pub left_entries : (turn : Turn) (aim : Aiming) (lay : Laying) (depth : ℕ) (above : Option ℕ) (asked : Step) (branches : Branches) (fork : Fork) → IsUsers turn aim lay depth above asked branches fork →
    AreEntries true aim depth asked fork.left.rows → AreAside true aim depth above fork.left.rows
left_entries turn aim lay depth above asked branches fork users all =
    aside_under true aim depth above asked fork.left.rows met.asked_is (met_free turn aim lay depth above asked branches fork met).0
    (λ k d l under. sided k d l under (slice_get (slice_index_or fork.left.rows k d).path.steps depth) refl (step_at (is_low met.own) depth fork.left.rows (left_by depth met.own branches fork met.is met.numbered met.at) k d l))
  where
    met : IsMet turn aim lay depth above asked branches fork
    met = users.met

    whole : AreWhole depth fork.left.rows
    whole = subst (λ d. AreWhole d fork.left.rows) met.at.depth_is (met.is.wholes users.whole).0

    sided : (k : ℕ) (d : Row) → k < length fork.left.rows → IsUnder (take depth aim.steps) (slice_index_or fork.left.rows k d) → (o : Option Step) → slice_get (slice_index_or fork.left.rows k d).path.steps depth ≡ o →
        option_map_or (is_low met.own) o false ≡ true → IsSided true aim depth above asked (slice_index_or fork.left.rows k d)
    sided k d l under None own_is bad = cc
    sided k d l under (Some s) own_is test = by (ltb s.node met.own.node) refl test
      where
        by : (b : Bool) → ltb s.node met.own.node ≡ b → (b || (s.node == met.own.node && (are_some s.keys && are_some met.own.keys))) ≡ true → IsSided true aim depth above asked (slice_index_or fork.left.rows k d)
        by true e is =
            let l : s.node < met.own.node = ltb-true s.node met.own.node e in
            let less : s.node < asked.node = subst (λ n. s.node < n) met.same l in
            record { own = s; own_is = own_is; differ = step_other s asked (λ same. omega (arith, same, less)); side = side_low aim.tables (keys_above aim.tables above) (first_order (drop depth aim.orders)) s asked met.single.keys less }
        by false e is =
            let one : s.node ≡ met.own.node = (Rattle.std.proofs.lemmas.Bool.Decides.Decides-eqb s.node met.own.node).0 (first_true (s.node == met.own.node) (are_some s.keys && are_some met.own.keys) is) in
            let some : are_some s.keys ≡ true = first_true (are_some s.keys) (are_some met.own.keys) (second_true (s.node == met.own.node) (are_some s.keys && are_some met.own.keys) is) in
            let same : s.node ≡ asked.node = one ∙ met.same in
            let has = entry_has aim depth asked s fork.left.rows whole met.asked_is k d l under own_is same some in
            entry_sided true aim depth above asked s (slice_index_or fork.left.rows k d) users.user same own_is (all.other s.keys some has) (all.side s.keys some has)

-- those on its right
pub right_entries : (turn : Turn) (aim : Aiming) (lay : Laying) (depth : ℕ) (above : Option ℕ) (asked : Step) (branches : Branches) (fork : Fork) → IsUsers turn aim lay depth above asked branches fork →
    AreEntries false aim depth asked fork.right.rows → AreAside false aim depth above fork.right.rows
right_entries turn aim lay depth above asked branches fork users all =
    aside_under false aim depth above asked fork.right.rows met.asked_is (met_free turn aim lay depth above asked branches fork met).2
    (λ k d l under. sided k d l under (slice_get (slice_index_or fork.right.rows k d).path.steps depth) refl (step_at (is_high met.own) depth fork.right.rows (right_by depth met.own branches fork met.is met.numbered met.at) k d l))
  where
    met : IsMet turn aim lay depth above asked branches fork
    met = users.met

    whole : AreWhole depth fork.right.rows
    whole = subst (λ d. AreWhole d fork.right.rows) met.at.depth_is (met.is.wholes users.whole).2

    sided : (k : ℕ) (d : Row) → k < length fork.right.rows → IsUnder (take depth aim.steps) (slice_index_or fork.right.rows k d) → (o : Option Step) → slice_get (slice_index_or fork.right.rows k d).path.steps depth ≡ o →
        option_map_or (is_high met.own) o false ≡ true → IsSided false aim depth above asked (slice_index_or fork.right.rows k d)
    sided k d l under None own_is bad = cc
    sided k d l under (Some s) own_is test = by (ltb met.own.node s.node) refl test
      where
        by : (b : Bool) → ltb met.own.node s.node ≡ b → (b || (s.node == met.own.node && (are_some s.keys && are_some met.own.keys))) ≡ true → IsSided false aim depth above asked (slice_index_or fork.right.rows k d)
        by true e is =
            let l : met.own.node < s.node = ltb-true met.own.node s.node e in
            let more : asked.node < s.node = subst (λ n. n < s.node) met.same l in
            record { own = s; own_is = own_is; differ = step_other s asked (λ same. omega (arith, same, more)); side = side_high aim.tables (keys_above aim.tables above) (first_order (drop depth aim.orders)) s asked met.single.keys more }
        by false e is =
            let one : s.node ≡ met.own.node = (Rattle.std.proofs.lemmas.Bool.Decides.Decides-eqb s.node met.own.node).0 (first_true (s.node == met.own.node) (are_some s.keys && are_some met.own.keys) is) in
            let some : are_some s.keys ≡ true = first_true (are_some s.keys) (are_some met.own.keys) (second_true (s.node == met.own.node) (are_some s.keys && are_some met.own.keys) is) in
            let same : s.node ≡ asked.node = one ∙ met.same in
            let has = entry_has aim depth asked s fork.right.rows whole met.asked_is k d l under own_is same some in
            entry_sided false aim depth above asked s (slice_index_or fork.right.rows k d) users.user same own_is (all.other s.keys some has) (all.side s.keys some has)

-- and those of the entry itself
pub twig_entry : (before : Bool) (turn : Turn) (aim : Aiming) (lay : Laying) (depth : ℕ) (above : Option ℕ) (asked : Step) (branches : Branches) (fork : Fork) → (users : IsUsers turn aim lay depth above asked branches fork) →
    (has_row (rows_of fork.twig) (entry_by aim depth asked users.met.own.keys) ≡ true → is_same_keys users.met.own.keys asked.keys ≡ false) →
    (has_row (rows_of fork.twig) (entry_by aim depth asked users.met.own.keys) ≡ true → is_ahead aim depth asked users.met.own.keys ≡ before) → AreAside before aim depth above (rows_of fork.twig)
twig_entry before turn aim lay depth above asked branches fork users other side =
    aside_under before aim depth above asked (rows_of fork.twig) met.asked_is (met_free turn aim lay depth above asked branches fork met).1 sided
  where
    met : IsMet turn aim lay depth above asked branches fork
    met = users.met

    whole : AreWhole depth (rows_of fork.twig)
    whole = subst (λ d. AreWhole d (rows_of fork.twig)) met.at.depth_is (met.is.wholes users.whole).1

    sided : (k : ℕ) (d : Row) → k < length (rows_of fork.twig) → IsUnder (take depth aim.steps) (slice_index_or (rows_of fork.twig) k d) → IsSided before aim depth above asked (slice_index_or (rows_of fork.twig) k d)
    sided k d l under =
        let row : Row = slice_index_or (rows_of fork.twig) k d in
        let inner : IsUnder fork.twig.row.path.steps row = own_under fork.twig met.at.under k d l in
        let own_is : slice_get row.path.steps depth ≡ Some met.own = ap (λ xs. slice_get xs depth) inner.1 ∙ get_append fork.twig.row.path.steps inner.0 depth met.own met.at.own_is in
        let has = entry_has aim depth asked met.own (rows_of fork.twig) whole met.asked_is k d l under own_is met.same met.some in
        entry_sided before aim depth above asked met.own row users.user met.same own_is (other has) (side has)

twig_entries : (before : Bool) (turn : Turn) (aim : Aiming) (lay : Laying) (depth : ℕ) (above : Option ℕ) (asked : Step) (branches : Branches) (fork : Fork) → IsUsers turn aim lay depth above asked branches fork →
    AreEntries before aim depth asked (rows_of fork.twig) → AreAside before aim depth above (rows_of fork.twig)
twig_entries before turn aim lay depth above asked branches fork users all =
    twig_entry before turn aim lay depth above asked branches fork users (all.other users.met.own.keys users.met.some) (all.side users.met.own.keys users.met.some)

-- entries before another one, and after it
other_keys : (known xs ys : List Row) (above : List Step) (number : ℕ) (k p : List (List ℕ)) → IsTallied known (xs ++ ys) → is_entry (entry_at above number p) ≡ true → has_row xs (entry_at above number k) ≡ true → has_row ys (entry_at above number p) ≡ true → is_same_keys k p ≡ false
other_keys known xs ys above number k p all entry first second = by (is_same_keys k p) refl
  where
    by : (b : Bool) → is_same_keys k p ≡ b → b ≡ false
    by false e = refl
    by true e =
        let same : k ≡ p = (keys_decide k p).0 e in
        let there : has_row xs (entry_at above number p) ≡ true = subst (λ (q : List (List ℕ)). has_row xs (entry_at above number q) ≡ true) same first in
        let none : has_row ys (entry_at above number p) ≡ false = none_second known xs ys (entry_at above number p) all entry there in
        cc

other_back : (known xs ys : List Row) (above : List Step) (number : ℕ) (k p : List (List ℕ)) → IsTallied known (xs ++ ys) → is_entry (entry_at above number p) ≡ true → has_row xs (entry_at above number p) ≡ true → has_row ys (entry_at above number k) ≡ true → is_same_keys k p ≡ false
other_back known xs ys above number k p all entry first second = by (is_same_keys k p) refl
  where
    by : (b : Bool) → is_same_keys k p ≡ b → b ≡ false
    by false e = refl
    by true e =
        let same : k ≡ p = (keys_decide k p).0 e in
        let there : has_row ys (entry_at above number p) ≡ true = subst (λ (q : List (List ℕ)). has_row ys (entry_at above number q) ≡ true) same second in
        let none : has_row ys (entry_at above number p) ≡ false = none_second known xs ys (entry_at above number p) all entry first in
        cc

ahead_all : (aim : Aiming) (lay : Laying) (depth : ℕ) (asked : Step) (keys : List (List ℕ)) (xs ys rows : List Row) → lay.laid ≡ xs ++ ys → IsTallied lay.known lay.laid → is_entry (entry_by aim depth asked keys) ≡ true →
    Follows aim lay depth asked keys rows → IsIn rows xs → has_row ys (entry_by aim depth asked keys) ≡ true → AreEntries true aim depth asked rows
ahead_all aim lay depth asked keys xs ys rows laid_are tallied entry follows part there =
    let above : List Step = take depth aim.steps in
    let all : IsTallied lay.known (xs ++ ys) = subst (IsTallied lay.known) laid_are tallied in
    let stands : has_row lay.laid (entry_by aim depth asked keys) ≡ true = ap (λ rows. has_row rows (entry_by aim depth asked keys)) laid_are ∙ has_second xs ys (entry_by aim depth asked keys) there in
    record {
      other = λ k some has. follows.other k some has (other_keys lay.known xs ys above asked.node k keys all entry (part.has _ has) there);
      side = λ k some has.
          follows.side stands k some has (other_keys lay.known xs ys above asked.node k keys all entry (part.has _ has) there)
          ∙ ap (λ rows. stands_before (entries rows above asked.node) k keys) laid_are
          ∙ entry_ahead lay.known xs ys above asked.node k keys all entry (part.has _ has) there;
    }

behind_all : (aim : Aiming) (lay : Laying) (depth : ℕ) (asked : Step) (keys : List (List ℕ)) (xs ys rows : List Row) → lay.laid ≡ xs ++ ys → IsTallied lay.known lay.laid → is_entry (entry_by aim depth asked keys) ≡ true →
    Follows aim lay depth asked keys rows → IsIn rows ys → has_row xs (entry_by aim depth asked keys) ≡ true → AreEntries false aim depth asked rows
behind_all aim lay depth asked keys xs ys rows laid_are tallied entry follows part there =
    let above : List Step = take depth aim.steps in
    let all : IsTallied lay.known (xs ++ ys) = subst (IsTallied lay.known) laid_are tallied in
    let stands : has_row lay.laid (entry_by aim depth asked keys) ≡ true = ap (λ rows. has_row rows (entry_by aim depth asked keys)) laid_are ∙ has_first xs ys (entry_by aim depth asked keys) there in
    record {
      other = λ k some has. follows.other k some has (other_back lay.known xs ys above asked.node k keys all entry there (part.has _ has));
      side = λ k some has.
          follows.side stands k some has (other_back lay.known xs ys above asked.node k keys all entry there (part.has _ has))
          ∙ ap (λ rows. stands_before (entries rows above asked.node) k keys) laid_are
          ∙ entry_behind lay.known xs ys above asked.node k keys all (entry_some above asked.node k ∙ some) there (part.has _ has);
    }

-- the rows into which it is put, cut before a node and after it
first_cut : (before l h r after : List Row) → before ++ (l ++ h ++ r) ++ after ≡ (before ++ l) ++ (h ++ (r ++ after))
first_cut before l h r after = simp append_assoc

second_cut : (before l h r after : List Row) → before ++ (l ++ h ++ r) ++ after ≡ (before ++ (l ++ h)) ++ (r ++ after)
second_cut before l h r after = simp append_assoc

laid_of : (turn : Turn) (aim : Aiming) (lay : Laying) (depth : ℕ) (rows : List Row) → aim.lay ≡ Some lay → IsTurned turn aim depth rows → IsLaid turn aim lay depth rows
unfolding IsTurned
laid_of turn aim lay depth rows is all = subst (λ (o : Option Laying). IfSome o (λ lay. IsLaid turn aim lay depth rows)) is all

-- another entry that has a row says on which side each part stands
module _ (turn : Turn) (aim : Aiming) (lay : Laying) (depth : ℕ) (above : Option ℕ) (asked : Step) (branches : Branches) (fork : Fork) (users : IsUsers turn aim lay depth above asked branches fork) where
  abbrev met : IsMet turn aim lay depth above asked branches fork
  met = users.met

  abbrev laid : IsLaid turn aim lay depth branches.rows
  laid = laid_of turn aim lay depth branches.rows met.lay_is met.turned

  cut_one : lay.laid ≡ (laid.before ++ fork.left.rows) ++ (rows_of fork.twig ++ (fork.right.rows ++ laid.after))
  cut_one = laid.laid_are ∙ ap (λ xs. laid.before ++ xs ++ laid.after) met.is.rows ∙ first_cut laid.before fork.left.rows (rows_of fork.twig) fork.right.rows laid.after

  cut_two : lay.laid ≡ (laid.before ++ (fork.left.rows ++ rows_of fork.twig)) ++ (fork.right.rows ++ laid.after)
  cut_two = laid.laid_are ∙ ap (λ xs. laid.before ++ xs ++ laid.after) met.is.rows ∙ second_cut laid.before fork.left.rows (rows_of fork.twig) fork.right.rows laid.after

  -- parts of what is before a cut or after it
  left_one : IsIn fork.left.rows (laid.before ++ fork.left.rows)
  left_one = record { has = λ q some. has_second laid.before fork.left.rows q some }

  here_one : IsIn (rows_of fork.twig) (rows_of fork.twig ++ (fork.right.rows ++ laid.after))
  here_one = record { has = λ q some. has_first (rows_of fork.twig) (fork.right.rows ++ laid.after) q some }

  right_one : IsIn fork.right.rows (rows_of fork.twig ++ (fork.right.rows ++ laid.after))
  right_one = record { has = λ q some. has_second (rows_of fork.twig) (fork.right.rows ++ laid.after) q (has_first fork.right.rows laid.after q some) }

  left_two : IsIn fork.left.rows (laid.before ++ (fork.left.rows ++ rows_of fork.twig))
  left_two = record { has = λ q some. has_second laid.before (fork.left.rows ++ rows_of fork.twig) q (has_first fork.left.rows (rows_of fork.twig) q some) }

  here_two : IsIn (rows_of fork.twig) (laid.before ++ (fork.left.rows ++ rows_of fork.twig))
  here_two = record { has = λ q some. has_second laid.before (fork.left.rows ++ rows_of fork.twig) q (has_second fork.left.rows (rows_of fork.twig) q some) }

  right_two : IsIn fork.right.rows (fork.right.rows ++ laid.after)
  right_two = record { has = λ q some. has_first fork.right.rows laid.after q some }

  module _ (keys : List (List ℕ)) (entry : is_entry (entry_by aim depth asked keys) ≡ true) (follows : Follows aim lay depth asked keys branches.rows) where
    left_follows : Follows aim lay depth asked keys fork.left.rows
    left_follows = follows_in aim lay depth asked keys fork.left.rows branches.rows (left_in branches fork met.is) follows

    here_follows : Follows aim lay depth asked keys (rows_of fork.twig)
    here_follows = follows_in aim lay depth asked keys (rows_of fork.twig) branches.rows (here_in branches fork met.is) follows

    right_follows : Follows aim lay depth asked keys fork.right.rows
    right_follows = follows_in aim lay depth asked keys fork.right.rows branches.rows (right_in branches fork met.is) follows

    -- it stands on the left
    on_left_here : has_row fork.left.rows (entry_by aim depth asked keys) ≡ true → AreEntries false aim depth asked (rows_of fork.twig)
    on_left_here there = behind_all aim lay depth asked keys (laid.before ++ fork.left.rows) (rows_of fork.twig ++ (fork.right.rows ++ laid.after)) (rows_of fork.twig) cut_one laid.tallied entry here_follows here_one (left_one.has _ there)

    on_left_right : has_row fork.left.rows (entry_by aim depth asked keys) ≡ true → AreEntries false aim depth asked fork.right.rows
    on_left_right there = behind_all aim lay depth asked keys (laid.before ++ fork.left.rows) (rows_of fork.twig ++ (fork.right.rows ++ laid.after)) fork.right.rows cut_one laid.tallied entry right_follows right_one (left_one.has _ there)

    -- it is the node
    here_left : has_row (rows_of fork.twig) (entry_by aim depth asked keys) ≡ true → AreEntries true aim depth asked fork.left.rows
    here_left there = ahead_all aim lay depth asked keys (laid.before ++ fork.left.rows) (rows_of fork.twig ++ (fork.right.rows ++ laid.after)) fork.left.rows cut_one laid.tallied entry left_follows left_one (here_one.has _ there)

    here_right : has_row (rows_of fork.twig) (entry_by aim depth asked keys) ≡ true → AreEntries false aim depth asked fork.right.rows
    here_right there = behind_all aim lay depth asked keys (laid.before ++ (fork.left.rows ++ rows_of fork.twig)) (fork.right.rows ++ laid.after) fork.right.rows cut_two laid.tallied entry right_follows right_two (here_two.has _ there)

    -- it stands on the right
    on_right_left : has_row fork.right.rows (entry_by aim depth asked keys) ≡ true → AreEntries true aim depth asked fork.left.rows
    on_right_left there = ahead_all aim lay depth asked keys (laid.before ++ (fork.left.rows ++ rows_of fork.twig)) (fork.right.rows ++ laid.after) fork.left.rows cut_two laid.tallied entry left_follows left_two (right_two.has _ there)

    on_right_here : has_row fork.right.rows (entry_by aim depth asked keys) ≡ true → AreEntries true aim depth asked (rows_of fork.twig)
    on_right_here there = ahead_all aim lay depth asked keys (laid.before ++ (fork.left.rows ++ rows_of fork.twig)) (fork.right.rows ++ laid.after) (rows_of fork.twig) cut_two laid.tallied entry here_follows here_two (right_two.has _ there)

    goes_left : has_row fork.left.rows (entry_by aim depth asked keys) ≡ true → GoesOn Left aim depth above branches fork
    goes_left there = seen_left aim depth above branches fork met.is (twig_entries false turn aim lay depth above asked branches fork users (on_left_here there)) (right_entries turn aim lay depth above asked branches fork users (on_left_right there))

    goes_right : has_row fork.right.rows (entry_by aim depth asked keys) ≡ true → GoesOn Right aim depth above branches fork
    goes_right there = seen_right aim depth above branches fork met.is (left_entries turn aim lay depth above asked branches fork users (on_right_left there)) (twig_entries true turn aim lay depth above asked branches fork users (on_right_here there))

    goes_here : has_row (rows_of fork.twig) (entry_by aim depth asked keys) ≡ true → GoesOn Here aim depth above branches fork
    goes_here there = seen_here aim depth above branches fork met.is (left_entries turn aim lay depth above asked branches fork users (here_left there)) (right_entries turn aim lay depth above asked branches fork users (here_right there))

    -- the node is that entry
    own_keys : has_row (rows_of fork.twig) (entry_by aim depth asked keys) ≡ true → met.own.keys ≡ keys
    own_keys there = some_one (IsUnder fork.twig.row.path.steps) (λ row. is_same_path row.path.steps (entry_by aim depth asked keys)) (rows_of fork.twig) (own_under fork.twig met.at.under) found there
      where
        found : (row : Row) → IsUnder fork.twig.row.path.steps row → is_same_path row.path.steps (entry_by aim depth asked keys) ≡ true → met.own.keys ≡ keys
        found row under same =
            let last : Step = record { node = asked.node; keys = keys } in
            let path : row.path.steps ≡ entry_by aim depth asked keys = (path_decide row.path.steps (entry_by aim depth asked keys)).0 same in
            let mine : slice_get (entry_by aim depth asked keys) depth ≡ Some met.own = ap (λ xs. slice_get xs depth) (sym path ∙ under.1) ∙ get_append fork.twig.row.path.steps under.0 depth met.own met.at.own_is in
            let his : slice_get (entry_by aim depth asked keys) depth ≡ Some last = ap (slice_get (entry_by aim depth asked keys)) (sym (taken_length depth aim.steps asked met.asked_is)) ∙ get_common (take depth aim.steps) (last ∷ []) in
            let is : met.own ≡ last = cc in
            ap (λ (s : Step). s.keys) is

  turns_left : IsTurned turn aim depth fork.left.rows
  turns_left = turned_left turn aim depth branches fork met.is met.turned

  turns_right : IsTurned turn aim depth fork.right.rows
  turns_right = turned_right turn aim depth branches fork met.is met.turned

  -- the way goes on where that entry stands
  pub pivot_goes : (way : Way) (keys : List (List ℕ)) → Follows aim lay depth asked keys branches.rows → Stands way (entry_by aim depth asked keys) fork → Goes way turn aim depth above branches fork
  unfolding Stands TurnsOn
  pivot_goes Left keys follows stands = record { on = goes_left keys stands.0 follows stands.1; turned = turns_left }
  pivot_goes Here keys follows stands = record { on = goes_here keys stands.0 follows stands.1; turned = tt }
  pivot_goes Right keys follows stands = record { on = goes_right keys stands.0 follows stands.1; turned = turns_right }
  pivot_goes Unknown keys follows stands = record { on = unknown aim depth above branches fork; turned = tt }

  -- it goes before the node, and after all on its left
  pub before_goes : IsBeside false aim lay depth asked branches.rows → Stands Here lay.beside fork → Goes Left Last aim depth above branches fork
  unfolding Stands TurnsOn IsTurned
  before_goes beside stands =
      let entry : is_entry (entry_by aim depth asked beside.keys) ≡ true = ap is_entry (sym beside.beside_is) ∙ stands.0 in
      let there : has_row (rows_of fork.twig) (entry_by aim depth asked beside.keys) ≡ true = ap (has_row (rows_of fork.twig)) (sym beside.beside_is) ∙ stands.1 in
      let own : met.own.keys ≡ beside.keys = own_keys beside.keys entry beside.follows there in
      let all : has_row lay.laid (entry_by aim depth asked beside.keys) ≡ true = ap (λ rows. has_row rows (entry_by aim depth asked beside.keys)) cut_one ∙ has_second (laid.before ++ fork.left.rows) (rows_of fork.twig ++ (fork.right.rows ++ laid.after)) (entry_by aim depth asked beside.keys) (here_one.has _ there) in
      let here = twig_entry false turn aim lay depth above asked branches fork users
      (λ has. ap (λ k. is_same_keys k asked.keys) own ∙ beside.differ)
      (λ has. ap (λ k. is_ahead aim depth asked k) own ∙ beside.side all) in
      record {
        on = seen_left aim depth above branches fork met.is here (right_entries turn aim lay depth above asked branches fork users (here_right beside.keys entry beside.follows there));
        turned = subst (λ (o : Option Laying). IfSome o (λ lay. IsLaid Last aim lay depth fork.left.rows)) (sym met.lay_is)
            (let inner : IsLaid turn aim lay depth fork.left.rows = laid_of turn aim lay depth fork.left.rows met.lay_is turns_left in
            record {
              before = inner.before;
              after = inner.after;
              laid_are = inner.laid_are;
              tallied = inner.tallied;
              turn_is = λ step there_is user. let same : asked ≡ step = one_step asked step (sym met.asked_is ∙ there_is) in subst (λ (s : Step). AreEntries true aim depth s fork.left.rows) same (here_left beside.keys entry beside.follows there);
            });
      }
    where
      one_step : (a b : Step) → Some a ≡ Some b → a ≡ b
      one_step a b e = cc

  pub after_goes : IsBeside true aim lay depth asked branches.rows → Stands Here lay.beside fork → Goes Right First aim depth above branches fork
  unfolding Stands TurnsOn IsTurned
  after_goes beside stands =
      let entry : is_entry (entry_by aim depth asked beside.keys) ≡ true = ap is_entry (sym beside.beside_is) ∙ stands.0 in
      let there : has_row (rows_of fork.twig) (entry_by aim depth asked beside.keys) ≡ true = ap (has_row (rows_of fork.twig)) (sym beside.beside_is) ∙ stands.1 in
      let own : met.own.keys ≡ beside.keys = own_keys beside.keys entry beside.follows there in
      let all : has_row lay.laid (entry_by aim depth asked beside.keys) ≡ true = ap (λ rows. has_row rows (entry_by aim depth asked beside.keys)) cut_one ∙ has_second (laid.before ++ fork.left.rows) (rows_of fork.twig ++ (fork.right.rows ++ laid.after)) (entry_by aim depth asked beside.keys) (here_one.has _ there) in
      let here = twig_entry true turn aim lay depth above asked branches fork users
      (λ has. ap (λ k. is_same_keys k asked.keys) own ∙ beside.differ)
      (λ has. ap (λ k. is_ahead aim depth asked k) own ∙ beside.side all) in
      record {
        on = seen_right aim depth above branches fork met.is (left_entries turn aim lay depth above asked branches fork users (here_left beside.keys entry beside.follows there)) here;
        turned = subst (λ (o : Option Laying). IfSome o (λ lay. IsLaid First aim lay depth fork.right.rows)) (sym met.lay_is)
            (let inner : IsLaid turn aim lay depth fork.right.rows = laid_of turn aim lay depth fork.right.rows met.lay_is turns_right in
            record {
              before = inner.before;
              after = inner.after;
              laid_are = inner.laid_are;
              tallied = inner.tallied;
              turn_is = λ step there_is user. let same : asked ≡ step = one_step asked step (sym met.asked_is ∙ there_is) in subst (λ (s : Step). AreEntries false aim depth s fork.right.rows) same (here_right beside.keys entry beside.follows there);
            });
      }
    where
      one_step : (a b : Step) → Some a ≡ Some b → a ≡ b
      one_step a b e = cc

  -- at an end
  pub first_goes : AreEntries false aim depth asked branches.rows → Goes Left turn aim depth above branches fork
  unfolding TurnsOn
  first_goes all = record {
    on = seen_left aim depth above branches fork met.is
        (twig_entries false turn aim lay depth above asked branches fork users (entries_in false aim depth asked (rows_of fork.twig) branches.rows (here_in branches fork met.is) all))
        (right_entries turn aim lay depth above asked branches fork users (entries_in false aim depth asked fork.right.rows branches.rows (right_in branches fork met.is) all));
    turned = turns_left;
  }

  pub last_goes : AreEntries true aim depth asked branches.rows → Goes Right turn aim depth above branches fork
  unfolding TurnsOn
  last_goes all = record {
    on = seen_right aim depth above branches fork met.is
        (left_entries turn aim lay depth above asked branches fork users (entries_in true aim depth asked fork.left.rows branches.rows (left_in branches fork met.is) all))
        (twig_entries true turn aim lay depth above asked branches fork users (entries_in true aim depth asked (rows_of fork.twig) branches.rows (here_in branches fork met.is) all));
    turned = turns_right;
  }

  -- what is said of the entry of the path there
  pub turn_there : TurnOf turn aim lay depth asked branches.rows
  turn_there = laid.turn_is asked met.asked_is users.user

-- by what is said of the entry of the path
pub taken_more : (n : ℕ) (steps : List Step) (step : Step) → slice_get steps n ≡ Some step → take (suc n) steps ≡ take n steps ++ step ∷ []
taken_more n [] step e = absurd (cc e)
taken_more zero (s ∷ steps) step e = let same : s ≡ step = cc in ap (λ (x : Step). x ∷ []) same
taken_more (suc n) (s ∷ steps) step e = ap (λ xs. s ∷ xs) (taken_more n steps step e)

pub kept_goes : (way : Way) (aim : Aiming) (lay : Laying) (depth : ℕ) (above : Option ℕ) (asked : Step) (path : List Step) (branches : Branches) (fork : Fork) → IsUsers Kept aim lay depth above asked branches fork → path ≡ take (depth + 1) aim.steps → Stands way path fork →
    Goes way Kept aim depth above branches fork
kept_goes way aim lay depth above asked path branches fork users is stands =
    let next : depth + 1 ≡ suc depth = omega arith in
    let same : path ≡ entry_by aim depth asked asked.keys = is ∙ ap (λ n. take n aim.steps) next ∙ taken_more depth aim.steps asked users.met.asked_is in
    pivot_goes Kept aim lay depth above asked branches fork users way asked.keys (turn_there Kept aim lay depth above asked branches fork users) (subst (λ q. Stands way q fork) same stands)

pub ends_first : (aim : Aiming) (lay : Laying) (depth : ℕ) (above : Option ℕ) (asked : Step) (branches : Branches) (fork : Fork) → IsUsers First aim lay depth above asked branches fork → Goes Left First aim depth above branches fork
ends_first aim lay depth above asked branches fork users = first_goes First aim lay depth above asked branches fork users (turn_there First aim lay depth above asked branches fork users)

pub ends_last : (aim : Aiming) (lay : Laying) (depth : ℕ) (above : Option ℕ) (asked : Step) (branches : Branches) (fork : Fork) → IsUsers Last aim lay depth above asked branches fork → Goes Right Last aim depth above branches fork
ends_last aim lay depth above asked branches fork users = last_goes Last aim lay depth above asked branches fork users (turn_there Last aim lay depth above asked branches fork users)

pub before_here : (aim : Aiming) (lay : Laying) (depth : ℕ) (above : Option ℕ) (asked : Step) (branches : Branches) (fork : Fork) → IsUsers Before aim lay depth above asked branches fork → Stands Here lay.beside fork → Goes Left Last aim depth above branches fork
before_here aim lay depth above asked branches fork users stands = before_goes Before aim lay depth above asked branches fork users (turn_there Before aim lay depth above asked branches fork users) stands

pub after_here : (aim : Aiming) (lay : Laying) (depth : ℕ) (above : Option ℕ) (asked : Step) (branches : Branches) (fork : Fork) → IsUsers After aim lay depth above asked branches fork → Stands Here lay.beside fork → Goes Right First aim depth above branches fork
after_here aim lay depth above asked branches fork users stands = after_goes After aim lay depth above asked branches fork users (turn_there After aim lay depth above asked branches fork users) stands

pub before_there : (way : Way) (aim : Aiming) (lay : Laying) (depth : ℕ) (above : Option ℕ) (asked : Step) (branches : Branches) (fork : Fork) → IsUsers Before aim lay depth above asked branches fork → Stands way lay.beside fork → Goes way Before aim depth above branches fork
before_there way aim lay depth above asked branches fork users stands =
    let beside : IsBeside false aim lay depth asked branches.rows = turn_there Before aim lay depth above asked branches fork users in
    pivot_goes Before aim lay depth above asked branches fork users way beside.keys beside.follows (subst (λ q. Stands way q fork) beside.beside_is stands)

pub after_there : (way : Way) (aim : Aiming) (lay : Laying) (depth : ℕ) (above : Option ℕ) (asked : Step) (branches : Branches) (fork : Fork) → IsUsers After aim lay depth above asked branches fork → Stands way lay.beside fork → Goes way After aim depth above branches fork
after_there way aim lay depth above asked branches fork users stands =
    let beside : IsBeside true aim lay depth asked branches.rows = turn_there After aim lay depth above asked branches fork users in
    pivot_goes After aim lay depth above asked branches fork users way beside.keys beside.follows (subst (λ q. Stands way q fork) beside.beside_is stands)

-- where nothing is said of the way
pub unknown_goes : (turn : Turn) (aim : Aiming) (depth : ℕ) (above : Option ℕ) (branches : Branches) (fork : Fork) → Goes Unknown turn aim depth above branches fork
unfolding TurnsOn
unknown_goes turn aim depth above branches fork = record { on = unknown aim depth above branches fork; turned = tt }

-- the turn stays as it is
pub same_turn : (way : Way) (turn : Turn) (aim : Aiming) (depth : ℕ) (above : Option ℕ) (branches : Branches) (fork : Fork) → IsForkOf branches fork → IsTurned turn aim depth branches.rows → GoesOn way aim depth above branches fork → Goes way turn aim depth above branches fork
unfolding TurnsOn
same_turn Left turn aim depth above branches fork is turned on = record { on = on; turned = turned_left turn aim depth branches fork is turned }
same_turn Here turn aim depth above branches fork is turned on = record { on = on; turned = tt }
same_turn Right turn aim depth above branches fork is turned on = record { on = on; turned = turned_right turn aim depth branches fork is turned }
same_turn Unknown turn aim depth above branches fork is turned on = record { on = on; turned = tt }

pub goes_in_left : (turn : Turn) (aim : Aiming) (depth : ℕ) (fork : Fork) → TurnsOn Left turn aim depth fork → IsTurned turn aim depth fork.left.rows
unfolding TurnsOn
goes_in_left turn aim depth fork turned = turned

pub goes_in_right : (turn : Turn) (aim : Aiming) (depth : ℕ) (fork : Fork) → TurnsOn Right turn aim depth fork → IsTurned turn aim depth fork.right.rows
unfolding TurnsOn
goes_in_right turn aim depth fork turned = turned

-- in which part an entry stands
pub stands_left : (path : List Step) (fork : Fork) → is_entry path ≡ true → has_row fork.left.rows path ≡ true → Stands Left path fork
unfolding Stands
stands_left path fork entry there = (entry, there)

pub stands_own : (path : List Step) (fork : Fork) → is_entry path ≡ true → fork.twig.row.path.steps ≡ path → fork.twig.stands ≡ true → Stands Here path fork
unfolding Stands
stands_own path fork entry same stands = (entry, own_row path fork.twig same stands)

pub stands_right : (path : List Step) (fork : Fork) → is_entry path ≡ true → has_row fork.right.rows path ≡ true → Stands Right path fork
unfolding Stands
stands_right path fork entry there = (entry, there)

pub stands_nowhere : (path : List Step) (fork : Fork) → Stands Unknown path fork
unfolding Stands
stands_nowhere path fork = tt

-- a node of the list, where the orders are not listed
pub met_of : (turn : Turn) (aim : Aiming) (lay : Laying) (depth : ℕ) (above : Option ℕ) (asked own : Step) (branches : Branches) (fork : Fork) → IsOfNumber turn aim depth above asked own branches fork → Some lay ≡ aim.lay → are_some own.keys ≡ true → IsMet turn aim lay depth above asked branches fork
met_of turn aim lay depth above asked own branches fork of is some = record {
  is = of.is;
  numbered = of.numbered;
  single = of.single;
  asked_is = of.asked_is;
  lay_is = sym is;
  own = own;
  at = of.at;
  same = of.same;
  some = some;
  turned = of.turned;
  free = of.free;
}

-- the user orders the list
pub users_of : (turn next : Turn) (aim : Aiming) (lay : Laying) (depth : ℕ) (above : Option ℕ) (asked : Step) (branches : Branches) (fork : Fork) (tables : Tables) (found : Bool) → turn ≡ next → IsMet turn aim lay depth above asked branches fork → fork.whole ≡ true →
    tables ≡ aim.tables → found ≡ is_by_user tables asked.node → found ≡ true → IsUsers next aim lay depth above asked branches fork
users_of turn next aim lay depth above asked branches fork tables found is met whole same user some = record {
  met = subst (λ (t : Turn). IsMet t aim lay depth above asked branches fork) is met;
  whole = whole;
  user = ap (λ (t : Tables). is_by_user t asked.node) (sym same) ∙ sym user ∙ some;
}
