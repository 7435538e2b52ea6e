-- An entry that is found in a part of a tree, and what is read of it.
use Rattle.std.proofs.Common.{◌≡◌, ◌++◌, ◌||◌, ◌<◌, ℕ, Bool, true, false, cond, List, [], ◌∷◌, Option, Some, None, refl, sym, ap, subst, ◌∙◌, arith, length, take, drop}
use Rattle.std.specs.List.{All}
use Rattle.std.specs.Option.{option_or}
use Rattle.std.proofs.lemmas.List.{append_assoc, append-nil, length-append, take-append-drop}
use Rattle.std.proofs.lemmas.List.Elements.{All-append, All-cons, All-head, All-nil, All-tail, All-weaker, filter-append}
use Rattle.std.proofs.lemmas.List.Folds.{find-append}
use Rattle.nc_names.proofs.SameLemmas.{path_decide}
use Rattle.nc_names.specs.Same.{is_at_or_below, is_same_path}
use Rattle.nc_names.specs.declared.path.Row.{Row}
use Rattle.nc_names.specs.declared.path.Step.{Step}
use Rattle.nc_schema.specs.Blocks.{row_at}
use Rattle.nc_schema.specs.Standing.{block_at, exists, has_row}
use Rattle.nc_branches.specs.Branches.{Branches}
use Rattle.nc_branches.specs.inner.Forks.{IsForkOf}
use Rattle.nc_branches.specs.declared.tree.Fork.{Fork}
use Rattle.nc_branches.specs.inner.Located.{IsHead, IsLocated, IsWithin, Locates}
use Rattle.nc_branches.specs.inner.Order.{AreUnder, depth_of}
use Rattle.nc_branches.specs.inner.Places.{AreApart}
use Rattle.nc_branches.specs.inner.Shoots.{Shoot, own_rows, rows_of}
use Rattle.nc_branches.specs.Entries.{is_entry}
use Rattle.nc_branches.specs.Tallies.{IsTallied}
use Rattle.nc_branches.specs.inner.Steady.{AreWhole}
use Rattle.nc_branches.proofs.Found.{found_apart}
use Rattle.nc_branches.proofs.Numbers.{or_true}
use Rattle.nc_branches.proofs.Places.{goes_on, is_below}
use Rattle.nc_branches.proofs.Turned.{has_second, here_in, left_in, right_in}
use Rattle.nc_branches.proofs.Tallies.{apart_whole, none_first, none_known, none_second, tallied_first, tallied_second}
use Rattle.nc_branches.proofs.Wholes.{exists_append, has_append, whole_two}

pub apart_two : (steps : List Step) (xs ys : List Row) → AreApart steps xs → AreApart steps ys → AreApart steps (xs ++ ys)
unfolding AreApart
apart_two steps xs ys one two = All-append (λ row. is_at_or_below steps row.path ≡ false) xs ys one two

pub apart_none : (steps : List Step) → AreApart steps []
unfolding AreApart
apart_none steps = All-nil (λ row. is_at_or_below steps row.path ≡ false)

-- a row with a shorter path is not there
pub short_apart : (steps : List Step) (row : Row) → length row.path.steps < length steps → is_at_or_below steps row.path ≡ false
short_apart steps row short = by (is_at_or_below steps row.path) refl
  where
    by : (b : Bool) → is_at_or_below steps row.path ≡ b → b ≡ false
    by false e = refl
    by true e =
        let long : length row.path.steps ≡ length (steps ++ drop (length steps) row.path.steps) = ap length (goes_on steps row e) in
        absurd (omega (arith, short, long, length-append steps (drop (length steps) row.path.steps)))

-- what is apart from some steps is apart from longer ones
pub apart_longer : (n : ℕ) (steps head : List Step) (rows : List Row) → head ≡ take n steps → AreApart head rows → AreApart steps rows
unfolding AreApart
apart_longer n steps head rows is all = All-weaker (λ row. is_at_or_below head row.path ≡ false) (λ row. is_at_or_below steps row.path ≡ false) (λ row e. by row e (is_at_or_below steps row.path) refl) rows all
  where
    by : (row : Row) → is_at_or_below head row.path ≡ false → (b : Bool) → is_at_or_below steps row.path ≡ b → b ≡ false
    by row e false f = refl
    by row e true f =
        let rest : List Step = drop n steps ++ drop (length steps) row.path.steps in
        let path : row.path.steps ≡ head ++ rest =
        goes_on steps row f
        ∙ ap (λ xs. xs ++ drop (length steps) row.path.steps) (sym (take-append-drop n steps) ∙ ap (λ xs. xs ++ drop n steps) (sym is))
        ∙ append_assoc head (drop n steps) (drop (length steps) row.path.steps) in
        let within : is_at_or_below head row.path ≡ true = is_below head rest row path in cc

pub own_row : (steps : List Step) (twig : Shoot) → twig.row.path.steps ≡ steps → twig.stands ≡ true → has_row (rows_of twig) steps ≡ true
own_row steps twig path stands =
    ap (λ s. has_row (own_rows s twig.row ++ twig.below.rows) steps) stands
    ∙ ap (λ b. b || has_row twig.below.rows steps) ((path_decide twig.row.path.steps steps).1 path)

-- an entry that is found has a row
pub located_row : (steps : List Step) (rows : List Row) (twig : Shoot) → IsLocated steps rows twig → has_row rows steps ≡ true
located_row steps rows twig at =
    ap (λ xs. has_row xs steps) at.rows_are ∙ has_append (at.before ++ rows_of twig) at.after steps
    ∙ ap (λ b. b || has_row at.after steps)
    (has_append at.before (rows_of twig) steps ∙ ap (λ b. has_row at.before steps || b) (own_row steps twig at.path_is at.stands) ∙ or_true (has_row at.before steps))

-- the three parts of a tree
pub tallied_left : (known : List Row) (branches : Branches) (fork : Fork) → IsForkOf branches fork → IsTallied known branches.rows → IsTallied known fork.left.rows
tallied_left known branches fork is all =
    tallied_first known fork.left.rows (rows_of fork.twig) (tallied_first known (fork.left.rows ++ rows_of fork.twig) fork.right.rows (subst (IsTallied known) is.rows all))

pub tallied_here : (known : List Row) (branches : Branches) (fork : Fork) → IsForkOf branches fork → IsTallied known branches.rows → IsTallied known (rows_of fork.twig)
tallied_here known branches fork is all =
    tallied_second known fork.left.rows (rows_of fork.twig) (tallied_first known (fork.left.rows ++ rows_of fork.twig) fork.right.rows (subst (IsTallied known) is.rows all))

pub tallied_right : (known : List Row) (branches : Branches) (fork : Fork) → IsForkOf branches fork → IsTallied known branches.rows → IsTallied known fork.right.rows
tallied_right known branches fork is all = tallied_second known (fork.left.rows ++ rows_of fork.twig) fork.right.rows (subst (IsTallied known) is.rows all)

pub tallied_below : (known : List Row) (twig : Shoot) → IsTallied known (rows_of twig) → IsTallied known twig.below.rows
tallied_below known twig all = tallied_second known (own_rows twig.stands twig.row) twig.below.rows all

unfoldable pub located_left : (known : List Row) (steps : List Step) (branches : Branches) (fork : Fork) (twig : Shoot) → IsForkOf branches fork → fork.whole ≡ true → depth_of fork.twig < length steps → is_entry steps ≡ true → IsTallied known branches.rows →
    IsLocated steps fork.left.rows twig → IsLocated steps branches.rows twig
located_left known steps branches fork twig is whole long entry all at =
    let w = is.wholes whole in
    let l : List Row = fork.left.rows in
    let h : List Row = rows_of fork.twig in
    let r : List Row = fork.right.rows in
    let t : IsTallied known (l ++ h ++ r) = subst (IsTallied known) is.rows all in
    let some : has_row l steps ≡ true = located_row steps l twig at in
    let more : has_row (l ++ h) steps ≡ true = has_append l h steps ∙ ap (λ b. b || has_row h steps) some in
    let here : AreApart steps h = apart_whole (depth_of fork.twig) steps h w.1 long entry (none_second known l h steps (tallied_first known (l ++ h) r t) entry some) in
    let right : AreApart steps r = apart_whole (depth_of fork.twig) steps r w.2 long entry (none_second known (l ++ h) r steps t entry more) in
    record {
      before = at.before;
      after = at.after ++ h ++ r;
      rows_are =
          is.rows ∙ ap (λ xs. xs ++ h ++ r) at.rows_are
          ∙ ap (λ xs. xs ++ r) (append_assoc (at.before ++ rows_of twig) at.after h) ∙ append_assoc (at.before ++ rows_of twig) (at.after ++ h) r;
      path_is = at.path_is;
      stands = at.stands;
      under = at.under;
      before_apart = at.before_apart;
      after_apart = apart_two steps (at.after ++ h) r (apart_two steps at.after h at.after_apart here) right;
    }

unfoldable pub located_here : (known : List Row) (steps : List Step) (branches : Branches) (fork : Fork) (twig : Shoot) → IsForkOf branches fork → fork.whole ≡ true → depth_of fork.twig < length steps → is_entry steps ≡ true → IsTallied known branches.rows →
    IsLocated steps (rows_of fork.twig) twig → IsLocated steps branches.rows twig
located_here known steps branches fork twig is whole long entry all at =
    let w = is.wholes whole in
    let l : List Row = fork.left.rows in
    let h : List Row = rows_of fork.twig in
    let r : List Row = fork.right.rows in
    let t : IsTallied known (l ++ h ++ r) = subst (IsTallied known) is.rows all in
    let some : has_row h steps ≡ true = located_row steps h twig at in
    let more : has_row (l ++ h) steps ≡ true = has_append l h steps ∙ ap (λ b. has_row l steps || b) some ∙ or_true (has_row l steps) in
    let left : AreApart steps l = apart_whole (depth_of fork.twig) steps l w.0 long entry (none_first known l h steps (tallied_first known (l ++ h) r t) entry some) in
    let right : AreApart steps r = apart_whole (depth_of fork.twig) steps r w.2 long entry (none_second known (l ++ h) r steps t entry more) in
    record {
      before = l ++ at.before;
      after = at.after ++ r;
      rows_are =
          is.rows ∙ ap (λ xs. l ++ xs ++ r) at.rows_are
          ∙ ap (λ xs. xs ++ r) (sym (append_assoc l (at.before ++ rows_of twig) at.after) ∙ ap (λ xs. xs ++ at.after) (sym (append_assoc l at.before (rows_of twig))))
          ∙ append_assoc (l ++ at.before ++ rows_of twig) at.after r;
      path_is = at.path_is;
      stands = at.stands;
      under = at.under;
      before_apart = apart_two steps l at.before left at.before_apart;
      after_apart = apart_two steps at.after r at.after_apart right;
    }

unfoldable pub located_right : (known : List Row) (steps : List Step) (branches : Branches) (fork : Fork) (twig : Shoot) → IsForkOf branches fork → fork.whole ≡ true → depth_of fork.twig < length steps → is_entry steps ≡ true → IsTallied known branches.rows →
    IsLocated steps fork.right.rows twig → IsLocated steps branches.rows twig
located_right known steps branches fork twig is whole long entry all at =
    let w = is.wholes whole in
    let l : List Row = fork.left.rows in
    let h : List Row = rows_of fork.twig in
    let r : List Row = fork.right.rows in
    let t : IsTallied known (l ++ h ++ r) = subst (IsTallied known) is.rows all in
    let some : has_row r steps ≡ true = located_row steps r twig at in
    let left : AreApart steps (l ++ h) = apart_whole (depth_of fork.twig) steps (l ++ h) (whole_two (depth_of fork.twig) l h w.0 w.1) long entry (none_first known (l ++ h) r steps t entry some) in
    record {
      before = l ++ h ++ at.before;
      after = at.after;
      rows_are =
          is.rows ∙ ap (λ xs. l ++ h ++ xs) at.rows_are
          ∙ sym (append_assoc (l ++ h) (at.before ++ rows_of twig) at.after) ∙ ap (λ xs. xs ++ at.after) (sym (append_assoc (l ++ h) at.before (rows_of twig)));
      path_is = at.path_is;
      stands = at.stands;
      under = at.under;
      before_apart = apart_two steps (l ++ h) at.before left at.before_apart;
      after_apart = at.after_apart;
    }

unfoldable pub located_itself : (steps : List Step) (twig : Shoot) → twig.row.path.steps ≡ steps → twig.stands ≡ true → AreUnder twig.row.path.steps twig.below.rows → IsLocated steps (rows_of twig) twig
located_itself steps twig path stands under = record {
  before = [];
  after = [];
  rows_are = sym (append-nil (rows_of twig));
  path_is = path;
  stands = stands;
  under = under;
  before_apart = apart_none steps;
  after_apart = apart_none steps;
}

unfoldable pub located_below : (steps : List Step) (twig inner : Shoot) → length twig.row.path.steps < length steps → IsLocated steps twig.below.rows inner → IsLocated steps (rows_of twig) inner
unfolding AreApart
located_below steps twig inner long at =
    let own : List Row = own_rows twig.stands twig.row in
    record {
      before = own ++ at.before;
      after = at.after;
      rows_are =
          ap (λ xs. own ++ xs) at.rows_are
          ∙ sym (append_assoc own (at.before ++ rows_of inner) at.after) ∙ ap (λ xs. xs ++ at.after) (sym (append_assoc own at.before (rows_of inner)));
      path_is = at.path_is;
      stands = at.stands;
      under = at.under;
      before_apart = apart_two steps own at.before (apart twig.stands) at.before_apart;
      after_apart = at.after_apart;
    }
  where
    apart : (stands : Bool) → All (λ row. is_at_or_below steps row.path ≡ false) (own_rows stands twig.row)
    apart true = All-cons (λ row. is_at_or_below steps row.path ≡ false) twig.row [] (short_apart steps twig.row long) (All-nil (λ row. is_at_or_below steps row.path ≡ false))
    apart false = All-nil (λ row. is_at_or_below steps row.path ≡ false)

-- what goes on from an entry is of its node
pub within_longer : (n : ℕ) (steps head : List Step) (rows : List Row) (twig : Shoot) → head ≡ take n steps → IsLocated head rows twig → IsWithin steps rows twig
within_longer n steps head rows twig is at = record {
  before = at.before;
  after = at.after;
  rows_are = at.rows_are;
  before_apart = apart_longer n steps head at.before is at.before_apart;
  after_apart = apart_longer n steps head at.after is at.after_apart;
}

-- an entry that is not known has nothing
pub row_none : (rows : List Row) (steps : List Step) → row_at rows steps ≡ None → has_row rows steps ≡ false
row_none [] steps none = refl
row_none (row ∷ rows) steps none = by (is_same_path row.path.steps steps) none (row_none rows steps)
  where
    by : (b : Bool) → cond b (Some row) (row_at rows steps) ≡ None → (row_at rows steps ≡ None → has_row rows steps ≡ false) → (b || has_row rows steps) ≡ false
    by true e more = cc
    by false e more = more e

pub unknown_apart : (known rows : List Row) (steps : List Step) → IsTallied known rows → AreWhole 0 rows → 0 < length steps → is_entry steps ≡ true → row_at known steps ≡ None → AreApart steps rows
unknown_apart known rows steps all whole long entry none = apart_whole 0 steps rows whole long entry (none_known known rows steps all entry (row_none known steps none))

-- what is read of one node is read of all
pub get_within : (steps : List Step) (rows : List Row) (twig : Shoot) → IsWithin steps rows twig → row_at rows steps ≡ row_at (rows_of twig) steps
get_within steps rows twig at =
    ap (λ xs. row_at xs steps) at.rows_are
    ∙ find-append (λ row. is_same_path row.path.steps steps) (at.before ++ rows_of twig) at.after
    ∙ ap (λ o. option_or o (row_at at.after steps)) (find-append (λ row. is_same_path row.path.steps steps) at.before (rows_of twig))
    ∙ (λ i. option_or (option_or (found_apart steps at.before at.before_apart i) (row_at (rows_of twig) steps)) (found_apart steps at.after at.after_apart i))
    ∙ or_none (row_at (rows_of twig) steps)
  where
    or_none : (o : Option Row) → option_or o None ≡ o
    or_none None = refl
    or_none (Some row) = refl

none_block : (steps : List Step) (rows : List Row) → AreApart steps rows → block_at rows steps ≡ []
unfolding AreApart
none_block steps [] apart = refl
none_block steps (row ∷ rows) apart =
    rw (All-head (λ row. is_at_or_below steps row.path ≡ false) row rows apart) (none_block steps rows (All-tail (λ row. is_at_or_below steps row.path ≡ false) row rows apart))

pub block_within : (steps : List Step) (rows : List Row) (twig : Shoot) → IsWithin steps rows twig → block_at rows steps ≡ block_at (rows_of twig) steps
block_within steps rows twig at =
    ap (λ xs. block_at xs steps) at.rows_are
    ∙ filter-append (λ row. is_at_or_below steps row.path) (at.before ++ rows_of twig) at.after
    ∙ (λ i. filter-append (λ row. is_at_or_below steps row.path) at.before (rows_of twig) i ++ none_block steps at.after at.after_apart i)
    ∙ append-nil (block_at at.before steps ++ block_at (rows_of twig) steps)
    ∙ ap (λ xs. xs ++ block_at (rows_of twig) steps) (none_block steps at.before at.before_apart)

-- an entry that is found in a part, where no entry has two rows
pub locates_itself : (known : List Row) (steps : List Step) (twig : Shoot) → twig.row.path.steps ≡ steps → twig.stands ≡ true → AreUnder twig.row.path.steps twig.below.rows → Locates known steps (rows_of twig) twig
unfolding Locates
locates_itself known steps twig path stands under = λ all entry. located_itself steps twig path stands under

pub locates_below : (known : List Row) (steps : List Step) (twig inner : Shoot) → length twig.row.path.steps < length steps → Locates known steps twig.below.rows inner → Locates known steps (rows_of twig) inner
unfolding Locates
locates_below known steps twig inner long at = λ all entry. located_below steps twig inner long (at (tallied_below known twig all) entry)

pub locates_left : (known : List Row) (steps : List Step) (branches : Branches) (fork : Fork) (twig : Shoot) → IsForkOf branches fork → fork.whole ≡ true → depth_of fork.twig < length steps → Locates known steps fork.left.rows twig → Locates known steps branches.rows twig
unfolding Locates
locates_left known steps branches fork twig is whole long at = λ all entry. located_left known steps branches fork twig is whole long entry all (at (tallied_left known branches fork is all) entry)

pub locates_here : (known : List Row) (steps : List Step) (branches : Branches) (fork : Fork) (twig : Shoot) → IsForkOf branches fork → fork.whole ≡ true → depth_of fork.twig < length steps → Locates known steps (rows_of fork.twig) twig → Locates known steps branches.rows twig
unfolding Locates
locates_here known steps branches fork twig is whole long at = λ all entry. located_here known steps branches fork twig is whole long entry all (at (tallied_here known branches fork is all) entry)

pub locates_right : (known : List Row) (steps : List Step) (branches : Branches) (fork : Fork) (twig : Shoot) → IsForkOf branches fork → fork.whole ≡ true → depth_of fork.twig < length steps → Locates known steps fork.right.rows twig → Locates known steps branches.rows twig
unfolding Locates
locates_right known steps branches fork twig is whole long at = λ all entry. located_right known steps branches fork twig is whole long entry all (at (tallied_right known branches fork is all) entry)

-- an entry that has a row in a part
pub holds_below : (steps : List Step) (twig : Shoot) → has_row twig.below.rows steps ≡ true → has_row (rows_of twig) steps ≡ true
holds_below steps twig some = has_second (own_rows twig.stands twig.row) twig.below.rows steps some

pub holds_left : (steps : List Step) (branches : Branches) (fork : Fork) → IsForkOf branches fork → has_row fork.left.rows steps ≡ true → has_row branches.rows steps ≡ true
holds_left steps branches fork is some = (left_in branches fork is).has steps some

pub holds_here : (steps : List Step) (branches : Branches) (fork : Fork) → IsForkOf branches fork → has_row (rows_of fork.twig) steps ≡ true → has_row branches.rows steps ≡ true
holds_here steps branches fork is some = (here_in branches fork is).has steps some

pub holds_right : (steps : List Step) (branches : Branches) (fork : Fork) → IsForkOf branches fork → has_row fork.right.rows steps ≡ true → has_row branches.rows steps ≡ true
holds_right steps branches fork is some = (right_in branches fork is).has steps some

pub within_head : (known : List Row) (steps head : List Step) (rows : List Row) (twig : Shoot) → IsHead head steps → IsTallied known rows → is_entry head ≡ true → Locates known head rows twig → IsWithin steps rows twig
unfolding Locates
within_head known steps head rows twig first all entry at = within_longer first.len steps head rows twig first.is (at all entry)

pub exists_apart : (steps : List Step) (rows : List Row) → AreApart steps rows → exists rows steps ≡ false
unfolding AreApart
exists_apart steps [] apart = refl
exists_apart steps (row ∷ rows) apart =
    let P : Row → Type 0 = λ row. is_at_or_below steps row.path ≡ false in
    rw (All-head P row rows apart) (exists_apart steps rows (All-tail P row rows apart))

pub exists_within : (steps : List Step) (rows : List Row) (twig : Shoot) → IsWithin steps rows twig → exists rows steps ≡ exists (rows_of twig) steps
exists_within steps rows twig at =
    ap (λ xs. exists xs steps) at.rows_are ∙ exists_append (at.before ++ rows_of twig) at.after steps
    ∙ ap (λ b. b || exists at.after steps) (exists_append at.before (rows_of twig) steps)
    ∙ (λ i. (exists_apart steps at.before at.before_apart i || exists (rows_of twig) steps) || exists_apart steps at.after at.after_apart i)
    ∙ or_false (exists (rows_of twig) steps)
  where
    or_false : (b : Bool) → (b || false) ≡ b
    or_false true = refl
    or_false false = refl

pub count_apart : (steps : List Step) (rows : List Row) → AreApart steps rows → 0 ≡ length (block_at rows steps)
count_apart steps rows apart = sym (ap length (none_block steps rows apart))

pub count_within : (steps : List Step) (rows : List Row) (twig : Shoot) → IsWithin steps rows twig → length (block_at rows steps) ≡ length (block_at (rows_of twig) steps)
count_within steps rows twig at = ap length (block_within steps rows twig at)

pub added_apart : (steps : List Step) (rows out : List Row) → AreApart steps rows → out ≡ out ++ block_at rows steps
added_apart steps rows out apart = sym (ap (λ xs. out ++ xs) (none_block steps rows apart) ∙ append-nil out)

pub added_within : (steps : List Step) (rows old new : List Row) (twig : Shoot) → IsWithin steps rows twig → new ≡ old ++ block_at (rows_of twig) steps → new ≡ old ++ block_at rows steps
added_within steps rows old new twig at same = same ∙ ap (λ xs. old ++ xs) (sym (block_within steps rows twig at))
