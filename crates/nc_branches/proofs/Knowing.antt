-- The entries that are known to have a row, with more of them.
use Rattle.std.proofs.Common.{◌≡◌, ◌++◌, ◌||◌, ◌≤◌, Bool, true, false, cond, List, [], ◌∷◌, None, refl, sym, ap, subst, ◌∙◌, arith, length, drop}
use Rattle.std.specs.List.{All}
use Rattle.std.proofs.lemmas.List.{append_assoc, append-nil}
use Rattle.std.proofs.lemmas.List.Elements.{All-append, All-cons, All-nil}
use Rattle.nc_names.proofs.SameLemmas.{path_decide}
use Rattle.nc_names.specs.Same.{is_at_or_below, is_same_path}
use Rattle.nc_names.specs.declared.path.Row.{Row}
use Rattle.nc_names.specs.declared.path.Step.{Step}
use Rattle.nc_schema.specs.Blocks.{row_at}
use Rattle.nc_schema.specs.Standing.{has_row}
use Rattle.nc_branches.specs.Branches.{Branches, no_branches}
use Rattle.nc_branches.specs.Entries.{is_entry}
use Rattle.nc_branches.specs.Tallies.{IsTallied, count_of}
use Rattle.nc_branches.specs.inner.Forks.{IsForkOf}
use Rattle.nc_branches.specs.declared.tree.Fork.{Fork}
use Rattle.nc_branches.specs.inner.Known.{Adds, Knows, KnowsMore}
use Rattle.nc_branches.specs.inner.Order.{AreUnder, IsUnder}
use Rattle.nc_branches.specs.inner.Shoots.{Shoot, own_rows, rows_of}
use Rattle.nc_branches.proofs.Locating.{row_none}
use Rattle.nc_branches.proofs.Places.{goes_on}
use Rattle.nc_branches.proofs.Tallies.{count_append}
use Rattle.nc_branches.proofs.Wholes.{has_append}

-- a row is noted
or_last : (a b c d : Bool) → ((a || d) || b || c) ≡ ((a || b || c) || d)
or_last true b c d = refl
or_last false true c true = refl
or_last false true c false = refl
or_last false false true true = refl
or_last false false true false = refl
or_last false false false true = refl
or_last false false false false = refl

or_middle : (a b c d : Bool) → (a || (b || d) || c) ≡ ((a || b || c) || d)
or_middle true b c d = refl
or_middle false true c d = refl
or_middle false false true true = refl
or_middle false false true false = refl
or_middle false false false true = refl
or_middle false false false false = refl

or_end : (a b c d : Bool) → (a || b || (c || d)) ≡ ((a || b || c) || d)
or_end true b c d = refl
or_end false true c d = refl
or_end false false true d = refl
or_end false false false d = refl

three_has : (l h r : List Row) (steps : List Step) → has_row (l ++ h ++ r) steps ≡ (has_row l steps || has_row h steps || has_row r steps)
three_has l h r steps = has_append (l ++ h) r steps ∙ ap (λ b. b || has_row r steps) (has_append l h steps)

under_parts : (path : List Step) (xs ys : List Row) → AreUnder path (xs ++ ys) → AreUnder path xs × AreUnder path ys
unfolding AreUnder
under_parts path [] ys all = (All-nil (IsUnder path), all)
under_parts path (x ∷ xs) ys all =
    let rest = under_parts path xs ys (Rattle.std.proofs.lemmas.List.Elements.All-tail (IsUnder path) x (xs ++ ys) all) in
    (All-cons (IsUnder path) x xs (Rattle.std.proofs.lemmas.List.Elements.All-head (IsUnder path) x (xs ++ ys) all) rest.0, rest.1)

under_both : (path : List Step) (xs ys : List Row) → AreUnder path xs → AreUnder path ys → AreUnder path (xs ++ ys)
unfolding AreUnder
under_both path xs ys one two = All-append (IsUnder path) xs ys one two

pub adds_none : (row : Row) (rows : List Row) → rows ≡ row ∷ [] → Adds [] row rows
unfolding AreUnder
adds_none row rows is = record {
  has = λ steps. ap (λ xs. has_row xs steps) is ∙ single (is_same_path row.path.steps steps);
  from = λ path none under. subst (All (IsUnder path)) (sym is) (All-cons (IsUnder path) row [] under (All-nil (IsUnder path)));
}
  where
    single : (b : Bool) → (b || false) ≡ b
    single true = refl
    single false = refl

pub adds_left : (branches : Branches) (fork : Fork) (row : Row) (left new : List Row) → IsForkOf branches fork → Adds fork.left.rows row left → new ≡ left ++ rows_of fork.twig ++ fork.right.rows → Adds branches.rows row new
adds_left branches fork row left new is adds same = record {
  has = λ steps.
      ap (λ xs. has_row xs steps) same ∙ three_has left (rows_of fork.twig) fork.right.rows steps
      ∙ ap (λ b. b || has_row (rows_of fork.twig) steps || has_row fork.right.rows steps) (adds.has steps)
      ∙ or_last (has_row fork.left.rows steps) (has_row (rows_of fork.twig) steps) (has_row fork.right.rows steps) (is_same_path row.path.steps steps)
      ∙ ap (λ b. b || is_same_path row.path.steps steps) (sym (ap (λ xs. has_row xs steps) is.rows ∙ three_has fork.left.rows (rows_of fork.twig) fork.right.rows steps));
  from = λ path under one.
      let u = under_parts path (fork.left.rows ++ rows_of fork.twig) fork.right.rows (subst (AreUnder path) is.rows under) in
      let v = under_parts path fork.left.rows (rows_of fork.twig) u.0 in
      subst (AreUnder path) (sym same) (under_both path (left ++ rows_of fork.twig) fork.right.rows (under_both path left (rows_of fork.twig) (adds.from path v.0 one) v.1) u.1);
}

pub adds_here : (branches : Branches) (fork : Fork) (row : Row) (here new : List Row) → IsForkOf branches fork → Adds (rows_of fork.twig) row here → new ≡ fork.left.rows ++ here ++ fork.right.rows → Adds branches.rows row new
adds_here branches fork row here new is adds same = record {
  has = λ steps.
      ap (λ xs. has_row xs steps) same ∙ three_has fork.left.rows here fork.right.rows steps
      ∙ ap (λ b. has_row fork.left.rows steps || b || has_row fork.right.rows steps) (adds.has steps)
      ∙ or_middle (has_row fork.left.rows steps) (has_row (rows_of fork.twig) steps) (has_row fork.right.rows steps) (is_same_path row.path.steps steps)
      ∙ ap (λ b. b || is_same_path row.path.steps steps) (sym (ap (λ xs. has_row xs steps) is.rows ∙ three_has fork.left.rows (rows_of fork.twig) fork.right.rows steps));
  from = λ path under one.
      let u = under_parts path (fork.left.rows ++ rows_of fork.twig) fork.right.rows (subst (AreUnder path) is.rows under) in
      let v = under_parts path fork.left.rows (rows_of fork.twig) u.0 in
      subst (AreUnder path) (sym same) (under_both path (fork.left.rows ++ here) fork.right.rows (under_both path fork.left.rows here v.0 (adds.from path v.1 one)) u.1);
}

pub adds_right : (branches : Branches) (fork : Fork) (row : Row) (right new : List Row) → IsForkOf branches fork → Adds fork.right.rows row right → new ≡ fork.left.rows ++ rows_of fork.twig ++ right → Adds branches.rows row new
adds_right branches fork row right new is adds same = record {
  has = λ steps.
      ap (λ xs. has_row xs steps) same ∙ three_has fork.left.rows (rows_of fork.twig) right steps
      ∙ ap (λ b. has_row fork.left.rows steps || has_row (rows_of fork.twig) steps || b) (adds.has steps)
      ∙ or_end (has_row fork.left.rows steps) (has_row (rows_of fork.twig) steps) (has_row fork.right.rows steps) (is_same_path row.path.steps steps)
      ∙ ap (λ b. b || is_same_path row.path.steps steps) (sym (ap (λ xs. has_row xs steps) is.rows ∙ three_has fork.left.rows (rows_of fork.twig) fork.right.rows steps));
  from = λ path under one.
      let u = under_parts path (fork.left.rows ++ rows_of fork.twig) fork.right.rows (subst (AreUnder path) is.rows under) in
      let v = under_parts path fork.left.rows (rows_of fork.twig) u.0 in
      subst (AreUnder path) (sym same) (under_both path (fork.left.rows ++ rows_of fork.twig) right (under_both path fork.left.rows (rows_of fork.twig) v.0 v.1) (adds.from path u.1 one));
}

-- the node gets the row
pub adds_itself : (twig new : Shoot) (row : Row) → twig.row.path.steps ≡ row.path.steps → new ≡ record { row = row; stands = true; below = twig.below } → Adds (rows_of twig) row (rows_of new)
unfolding AreUnder
adds_itself twig new row path is = record {
  has = λ steps.
      ap (λ t. has_row (rows_of t) steps) is
      ∙ own (is_same_path row.path.steps steps) twig.stands (has_row twig.below.rows steps)
      ∙ ap (λ b. b || is_same_path row.path.steps steps) (sym (has_append (own_rows twig.stands twig.row) twig.below.rows steps ∙ ap (λ b. b || has_row twig.below.rows steps) (row_is steps twig.stands)));
  from = λ p under one.
      let below = (under_parts p (own_rows twig.stands twig.row) twig.below.rows under).1 in
      subst (λ t. All (IsUnder p) (rows_of t)) (sym is) (All-cons (IsUnder p) row twig.below.rows one below);
}
  where
    row_is : (steps : List Step) (stands : Bool) → has_row (own_rows stands twig.row) steps ≡ cond stands (is_same_path row.path.steps steps) false
    row_is steps true = single (is_same_path twig.row.path.steps steps) ∙ ap (λ p. is_same_path p steps) path
      where
        single : (b : Bool) → (b || false) ≡ b
        single true = refl
        single false = refl
    row_is steps false = refl

    own : (s stands b : Bool) → (s || b) ≡ ((cond stands s false || b) || s)
    own true true b = refl
    own true false true = refl
    own true false false = refl
    own false true true = refl
    own false true false = refl
    own false false true = refl
    own false false false = refl

pub adds_below : (twig new : Shoot) (row : Row) (below : Branches) → Adds twig.below.rows row below.rows → new ≡ record { row = twig.row; stands = twig.stands; below = below } → Adds (rows_of twig) row (rows_of new)
adds_below twig new row below adds is = record {
  has = λ steps.
      ap (λ t. has_row (rows_of t) steps) is ∙ has_append (own_rows twig.stands twig.row) below.rows steps
      ∙ ap (λ b. has_row (own_rows twig.stands twig.row) steps || b) (adds.has steps)
      ∙ outer (has_row (own_rows twig.stands twig.row) steps) (has_row twig.below.rows steps) (is_same_path row.path.steps steps)
      ∙ ap (λ b. b || is_same_path row.path.steps steps) (sym (has_append (own_rows twig.stands twig.row) twig.below.rows steps));
  from = λ p under one.
      let u = under_parts p (own_rows twig.stands twig.row) twig.below.rows under in
      subst (λ t. AreUnder p (rows_of t)) (sym is) (under_both p (own_rows twig.stands twig.row) below.rows u.0 (adds.from p u.1 one));
}
  where
    outer : (a b c : Bool) → (a || (b || c)) ≡ ((a || b) || c)
    outer true b c = refl
    outer false b c = refl

-- what is below a node stays below it
pub adds_under : (twig : Shoot) (row : Row) (below : List Row) → AreUnder twig.row.path.steps twig.below.rows → IsUnder twig.row.path.steps row → Adds twig.below.rows row below → AreUnder twig.row.path.steps below
adds_under twig row below under one adds = adds.from twig.row.path.steps under one

-- entries are noted
pub knows_none : (known : List Row) → KnowsMore known known []
knows_none known = record {
  tally = λ done all. subst (IsTallied known) (sym (append-nil done)) all;
  keeps = λ steps has. has;
}

pub knows_two : (known one two xs ys : List Row) → KnowsMore known one xs → KnowsMore one two ys → KnowsMore known two (xs ++ ys)
knows_two known one two xs ys first second = record {
  tally = λ done all. subst (IsTallied two) (append_assoc done xs ys) (second.tally (done ++ xs) (first.tally done all));
  keeps = λ steps has. second.keeps steps (first.keeps steps has);
}

pub knows_fork : (known one two three : List Row) (branches : Branches) (fork : Fork) → IsForkOf branches fork → KnowsMore known one fork.left.rows → KnowsMore one two (rows_of fork.twig) → KnowsMore two three fork.right.rows → KnowsMore known three branches.rows
knows_fork known one two three branches fork is left here right =
    subst (KnowsMore known three) (sym is.rows)
    (knows_two known two three (fork.left.rows ++ rows_of fork.twig) fork.right.rows (knows_two known one two fork.left.rows (rows_of fork.twig) left here) right)

-- a path that is not that of a row is not counted
other_count : (row : Row) (steps : List Step) → is_same_path row.path.steps steps ≡ false → count_of (row ∷ []) steps ≡ 0
other_count row steps other = ap (λ b. length (cond b (row ∷ []) [])) other

-- a row that is of no entry
pub knows_plain : (known : List Row) (row : Row) → is_entry row.path.steps ≡ false → KnowsMore known known (row ∷ [])
unfolding IsTallied
knows_plain known row plain = record {
  tally = λ done all. λ steps entry. let none : count_of (row ∷ []) steps ≡ 0 = other_count row steps (other steps entry (is_same_path row.path.steps steps) refl) in
      omega (arith, all steps entry, count_append done (row ∷ []) steps, none);
  keeps = λ steps has. has;
}
  where
    other : (steps : List Step) → is_entry steps ≡ true → (b : Bool) → is_same_path row.path.steps steps ≡ b → b ≡ false
    other steps entry false e = refl
    other steps entry true e = let same : row.path.steps ≡ steps = (path_decide row.path.steps steps).0 e in let is : is_entry row.path.steps ≡ true = ap is_entry same ∙ entry in cc

-- a row that was not known
pub knows_own : (known more : List Row) (row : Row) → row_at known row.path.steps ≡ None → Adds known row more → KnowsMore known more (row ∷ [])
unfolding IsTallied
knows_own known more row none adds = record {
  tally = λ done all. λ steps entry. by done steps (all steps entry) (is_same_path row.path.steps steps) refl;
  keeps = λ steps has. adds.has steps ∙ ap (λ b. b || is_same_path row.path.steps steps) has;
}
  where
    up : (a b : Bool) → cond a 1 0 ≤ cond (a || b) 1 0
    up true b = omega arith
    up false true = omega arith
    up false false = omega arith

    by : (done : List Row) (steps : List Step) → count_of done steps ≤ cond (has_row known steps) 1 0 → (b : Bool) → is_same_path row.path.steps steps ≡ b → count_of (done ++ row ∷ []) steps ≤ cond (has_row more steps) 1 0
    by done steps most false e =
        let zero : count_of (row ∷ []) steps ≡ 0 = other_count row steps e in
        let more_is : cond (has_row known steps) 1 0 ≤ cond (has_row more steps) 1 0 = subst (λ b. cond (has_row known steps) 1 0 ≤ cond b 1 0) (sym (adds.has steps)) (up (has_row known steps) (is_same_path row.path.steps steps)) in
        omega (arith, most, count_append done (row ∷ []) steps, zero, more_is)
    by done steps most true e =
        let same : row.path.steps ≡ steps = (path_decide row.path.steps steps).0 e in
        let unknown : has_row known steps ≡ false = subst (λ p. has_row known p ≡ false) same (row_none known row.path.steps none) in
        let one : count_of (row ∷ []) steps ≡ 1 = ap (λ b. length (cond b (row ∷ []) [])) e in
        let now : has_row more steps ≡ true = adds.has steps ∙ (λ i. unknown i || e i) in
        let zero : count_of done steps ≤ 0 = subst (λ b. count_of done steps ≤ cond b 1 0) unknown most in
        subst (λ b. count_of (done ++ row ∷ []) steps ≤ cond b 1 0) (sym now) (omega (arith, zero, one, count_append done (row ∷ []) steps))

pub knows_all : (more rows : List Row) → KnowsMore [] more rows → IsTallied more rows
unfolding IsTallied
knows_all more rows knows = knows.tally [] (λ steps entry. omega arith)

-- what is known, and the rows of another tree
pub with_none : (known : List Row) (more : Branches) → more ≡ no_branches → Knows known (known ++ more.rows)
unfolding Knows
with_none known more none = λ q. ap (λ xs. has_row xs q) (sym (ap (λ (b : Branches). known ++ b.rows) none ∙ append-nil known))

with_four : (known l o b r : List Row) (branches : Branches) (fork : Fork) → IsForkOf branches fork → Knows l (known ++ fork.left.rows) → Knows o (l ++ own_rows fork.twig.stands fork.twig.row) → Knows b (o ++ fork.twig.below.rows) → Knows r (b ++ fork.right.rows) →
    (q : List Step) → has_row r q ≡ has_row (known ++ branches.rows) q
unfolding Knows
with_four known l o b r branches fork is first second third fourth q =
    fourth q ∙ has_append b fork.right.rows q
    ∙ ap (λ x. x || has_row fork.right.rows q) (third q ∙ has_append o fork.twig.below.rows q ∙ ap (λ x. x || has_row fork.twig.below.rows q) (second q ∙ has_append l own q ∙ ap (λ x. x || has_row own q) (first q ∙ has_append known fork.left.rows q)))
    ∙ four (has_row known q) (has_row fork.left.rows q) (has_row own q) (has_row fork.twig.below.rows q) (has_row fork.right.rows q)
    ∙ sym (has_append known branches.rows q ∙ ap (λ x. has_row known q || x) (ap (λ xs. has_row xs q) is.rows ∙ three_has fork.left.rows (rows_of fork.twig) fork.right.rows q ∙ ap (λ x. has_row fork.left.rows q || x || has_row fork.right.rows q) (has_append own fork.twig.below.rows q)))
  where
    own : List Row
    own = own_rows fork.twig.stands fork.twig.row

    four : (k l o b r : Bool) → ((((k || l) || o) || b) || r) ≡ (k || ((l || (o || b)) || r))
    four true l o b r = refl
    four false true o b r = refl
    four false false true b r = refl
    four false false false b r = refl

pub with_fork : (known l o b r : List Row) (branches : Branches) (fork : Fork) → IsForkOf branches fork → Knows l (known ++ fork.left.rows) → Knows o (l ++ own_rows fork.twig.stands fork.twig.row) → Knows b (o ++ fork.twig.below.rows) → Knows r (b ++ fork.right.rows) → Knows r (known ++ branches.rows)
unfolding Knows
with_fork known l o b r branches fork is first second third fourth = λ q. with_four known l o b r branches fork is first second third fourth q

pub with_bare : (known : List Row) (stands : Bool) (row : Row) → stands ≡ false → Knows known (known ++ own_rows stands row)
unfolding Knows
with_bare known stands row bare = λ q. ap (λ xs. has_row xs q) (sym (append-nil known) ∙ ap (λ b. known ++ own_rows b row) (sym bare))

pub with_one : (known more : List Row) (stands : Bool) (row : Row) → stands ≡ true → Adds known row more → Knows more (known ++ own_rows stands row)
unfolding Knows
with_one known more stands row has adds = λ q.
    adds.has q ∙ ap (λ b. has_row known q || b) (sym (or_false (is_same_path row.path.steps q)))
    ∙ sym (has_append known (row ∷ []) q) ∙ ap (λ b. has_row (known ++ own_rows b row) q) (sym has)
  where
    or_false : (b : Bool) → (b || false) ≡ b
    or_false true = refl
    or_false false = refl

-- what is below a node stays below it
pub adds_within : (twig : Shoot) (row : Row) (below : List Row) → AreUnder twig.row.path.steps twig.below.rows → is_at_or_below twig.row.path.steps row.path ≡ true → Adds twig.below.rows row below → AreUnder twig.row.path.steps below
adds_within twig row below under within adds = adds.from twig.row.path.steps under (drop (length twig.row.path.steps) row.path.steps, goes_on twig.row.path.steps row within)

pub adds_first : (branches : Branches) (row : Row) (rows : List Row) → branches ≡ no_branches → rows ≡ row ∷ [] → Adds branches.rows row rows
adds_first branches row rows none is = subst (λ (b : Branches). Adds b.rows row rows) (sym none) (adds_none row rows is)

pub knows_nothing : (known : List Row) (branches : Branches) → branches ≡ no_branches → KnowsMore known known branches.rows
knows_nothing known branches none = subst (λ (b : Branches). KnowsMore known known b.rows) (sym none) (knows_none known)

-- the row of a node, and what is below it
pub own_bare : (known : List Row) (stands : Bool) (row : Row) → stands ≡ false → KnowsMore known known (own_rows stands row)
own_bare known stands row bare = subst (λ b. KnowsMore known known (own_rows b row)) (sym bare) (knows_none known)

pub own_plain : (known : List Row) (stands : Bool) (row : Row) → stands ≡ true → is_entry row.path.steps ≡ false → KnowsMore known known (own_rows stands row)
own_plain known stands row has plain = subst (λ b. KnowsMore known known (own_rows b row)) (sym has) (knows_plain known row plain)

pub own_entry : (known more : List Row) (stands : Bool) (row : Row) → stands ≡ true → row_at known row.path.steps ≡ None → Adds known row more → KnowsMore known more (own_rows stands row)
own_entry known more stands row has none adds = subst (λ b. KnowsMore known more (own_rows b row)) (sym has) (knows_own known more row none adds)

pub knows_twig : (known one two : List Row) (twig : Shoot) → KnowsMore known one (own_rows twig.stands twig.row) → KnowsMore one two twig.below.rows → KnowsMore known two (rows_of twig)
knows_twig known one two twig own below = knows_two known one two (own_rows twig.stands twig.row) twig.below.rows own below

pub knows_start : (start : Branches) (more rows : List Row) → start ≡ no_branches → KnowsMore start.rows more rows → IsTallied more rows
knows_start start more rows none knows = knows_all more rows (subst (λ (b : Branches). KnowsMore b.rows more rows) none knows)
