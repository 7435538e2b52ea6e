-- Rows that are put in their place in a tree, from those that are put in a part of it.
use Rattle.std.proofs.Common.{◌≡◌, ◌++◌, ◌+◌, ◌<◌, ℕ, suc, Bool, true, false, List, [], ◌∷◌, Option, Some, None, refl, sym, ap, subst, ◌∙◌, arith, length, drop, take}
use Rattle.std.specs.Prelude.{slice_get}
use Rattle.std.specs.List.{All}
use Rattle.std.specs.Ordering.{ordering_reverse}
use Rattle.std.specs.declared.cmp.Ordering.{Ordering}
use Rattle.std.specs.declared.cmp.Ordering.TheVariants.{Less, Equal, Greater}
use Rattle.std.proofs.lemmas.List.{append-nil, length-append, nil_from_length, take_at}
use Rattle.std.proofs.lemmas.List.Elements.{All-append, All-cons, All-head, All-nil, All-tail, All-weaker}
use Rattle.nc_names.specs.declared.path.Row.{Row}
use Rattle.nc_names.specs.declared.path.Step.{Step}
use Rattle.nc_branches.specs.Branches.{Branches}
use Rattle.nc_branches.specs.inner.Shoots.{Shoot, own_rows, rows_of}
use Rattle.nc_branches.specs.inner.Forks.{IsForkOf, IsParted}
use Rattle.nc_branches.specs.declared.tree.Fork.{Fork}
use Rattle.nc_branches.specs.inner.Order.{AreUnder, AreBefore, AreAfter, IsSide, IsUnder, depth_of, step_cmp}
use Rattle.nc_branches.specs.inner.Places.{IsAsked}
use Rattle.nc_branches.specs.inner.Putting.{Aiming, IsPlain, IsPut, Leads, last_node}
use Rattle.nc_branches.specs.inner.Ready.{IsReady}
use Rattle.nc_branches.specs.inner.Free.{AreFree, FreeAt, IsFreeRow}
use Rattle.nc_schema.specs.Tables.{Tables}
use Rattle.nc_branches.specs.Sides.{among}
use Rattle.nc_branches.proofs.Putting.{IsBack, IsFront, gone_among, here_among, left_among, none_among, own_among, right_among}
use Rattle.nc_branches.proofs.RowSides.{back_row, front_above, front_row, get_common, parts, split_get, stays_above, stays_row, taken_length}
use Rattle.nc_branches.proofs.Sides.{chain_greater, step_total, through, twig_side}

pub all_first : {X : Type 0} (P : X → Type 0) (xs ys : List X) → All P (xs ++ ys) → All P xs
all_first P [] ys all = All-nil P
all_first P (x ∷ xs) ys all = All-cons P x xs (All-head P x (xs ++ ys) all) (all_first P xs ys (All-tail P x (xs ++ ys) all))

pub all_second : {X : Type 0} (P : X → Type 0) (xs ys : List X) → All P (xs ++ ys) → All P ys
all_second P [] ys all = all
all_second P (x ∷ xs) ys all = all_second P xs ys (All-tail P x (xs ++ ys) all)

-- the three parts of a tree
record Three (P : Row → Type 0) (fork : Fork) : Type 0 where
  left : All P fork.left.rows
  here : All P (rows_of fork.twig)
  right : All P fork.right.rows

three : (P : Row → Type 0) (branches : Branches) (fork : Fork) → IsForkOf branches fork → All P branches.rows → Three P fork
three P branches fork is all =
    let whole : All P (fork.left.rows ++ rows_of fork.twig ++ fork.right.rows) = subst (All P) is.rows all in
    let front : All P (fork.left.rows ++ rows_of fork.twig) = all_first P (fork.left.rows ++ rows_of fork.twig) fork.right.rows whole in
    record {
      left = all_first P fork.left.rows (rows_of fork.twig) front;
      here = all_second P fork.left.rows (rows_of fork.twig) front;
      right = all_second P (fork.left.rows ++ rows_of fork.twig) fork.right.rows whole;
    }

-- where all give no way those of each part do not
pub three_free : (branches : Branches) (fork : Fork) (tables : Tables) (depth : ℕ) (asked : Step) → IsForkOf branches fork → AreFree tables depth asked branches.rows → AreFree tables depth asked fork.left.rows × AreFree tables depth asked (rows_of fork.twig) × AreFree tables depth asked fork.right.rows
unfolding AreFree
three_free branches fork tables depth asked is all = let t = three (IsFreeRow tables depth asked) branches fork is all in (t.left, t.here, t.right)

-- the path at a level
record Split (aim : Aiming) (depth : ℕ) (above : Option ℕ) (step : Step) : Type 0 where
  is : aim.steps ≡ take depth aim.steps ++ step ∷ drop (suc depth) aim.steps
  len : length (take depth aim.steps) ≡ depth
  plain : IsPlain aim.tables (last_node None (take depth aim.steps)) step

split : (aim : Aiming) (depth : ℕ) (above : Option ℕ) (fork : Fork) (asked : Step) → IsReady aim depth above fork → above ≡ last_node None (take depth aim.steps) → slice_get aim.steps depth ≡ Some asked → Split aim depth above asked
split aim depth above fork asked ready above_is asked_is =
    let same : ready.step ≡ asked = cc in
    record {
      is = split_get depth aim.steps asked asked_is;
      len = taken_length depth aim.steps asked asked_is;
      plain = subst (λ o. IsPlain aim.tables o asked) above_is (subst (λ s. IsPlain aim.tables above s) same ready.plain);
    }

-- the step with which a row goes on
step_there : (common : List Step) (s : Step) (rest : List Step) (row : Row) (depth : ℕ) → length common ≡ depth → row.path.steps ≡ common ++ s ∷ rest → slice_get row.path.steps depth ≡ Some s
step_there common s rest row depth len is = ap (λ xs. slice_get xs depth) is ∙ ap (slice_get (common ++ s ∷ rest)) (sym len) ∙ get_common common (s ∷ rest)

fronts : (aim : Aiming) (orders : List (List (List (List ℕ)))) (depth : ℕ) (above : Option ℕ) (step : Step) → Split aim depth above step → All (IsUnder aim.steps) aim.block → (rows : List Row) → All (IsUnder (take depth aim.steps)) rows → All (IsSide Less depth step) rows → AreFree aim.tables depth step rows → All (IsFront aim.tables orders aim.steps aim.block) rows
unfolding AreFree
fronts aim orders depth above step at block rows under on free = λ k d l.
    let row = Rattle.std.specs.Prelude.slice_index_or rows k d in
    let part = parts (take depth aim.steps) step Less row (under k d l) (subst (λ n. IsSide Less n step row) (sym at.len) (on k d l)) in (
      stays_row aim.tables aim.steps (take depth aim.steps) (drop (suc depth) aim.steps) step Less aim.block row at.is part (free k d l part.step (step_there (take depth aim.steps) part.step part.rest row depth at.len part.steps_are)) (λ e. cc) block,
      front_row aim.tables orders aim.steps (take depth aim.steps) (drop (suc depth) aim.steps) step row at.is at.plain part,
    )

backs : (aim : Aiming) (orders : List (List (List (List ℕ)))) (depth : ℕ) (above : Option ℕ) (step : Step) → Split aim depth above step → All (IsUnder aim.steps) aim.block → (rows : List Row) → All (IsUnder (take depth aim.steps)) rows → All (IsSide Greater depth step) rows → AreFree aim.tables depth step rows → All (IsBack aim.tables orders aim.steps aim.block) rows
unfolding AreFree
backs aim orders depth above step at block rows under on free = λ k d l.
    let row = Rattle.std.specs.Prelude.slice_index_or rows k d in
    let part = parts (take depth aim.steps) step Greater row (under k d l) (subst (λ n. IsSide Greater n step row) (sym at.len) (on k d l)) in (
      stays_row aim.tables aim.steps (take depth aim.steps) (drop (suc depth) aim.steps) step Greater aim.block row at.is part (free k d l part.step (step_there (take depth aim.steps) part.step part.rest row depth at.len part.steps_are)) (λ e. cc) block,
      back_row aim.tables orders aim.steps (take depth aim.steps) (drop (suc depth) aim.steps) step row at.is at.plain part,
    )

turned : (a b : Step) → step_cmp a b ≡ Less → step_cmp b a ≡ Greater
turned a b e = step_total.antisymm b a ∙ ap ordering_reverse e

turned_back : (a b : Step) → step_cmp a b ≡ Greater → step_cmp b a ≡ Less
turned_back a b e = step_total.antisymm b a ∙ ap ordering_reverse e

-- the steps of a node, at the depth of the path
asked_at : (aim : Aiming) (depth : ℕ) (way : Ordering) (twig : Shoot) → depth_of twig ≡ depth → (at : IsAsked way aim.steps twig) → slice_get aim.steps depth ≡ Some at.asked
asked_at aim depth way twig is at = subst (λ d. slice_get aim.steps d ≡ Some at.asked) is at.asked_is

own_at : (aim : Aiming) (depth : ℕ) (way : Ordering) (twig : Shoot) → depth_of twig ≡ depth → (at : IsAsked way aim.steps twig) → slice_get twig.row.path.steps depth ≡ Some at.own
own_at aim depth way twig is at = subst (λ d. slice_get twig.row.path.steps d ≡ Some at.own) is at.own_is

rows_after : (aim : Aiming) (depth : ℕ) (above : Option ℕ) (way : Ordering) (fork : Fork) → IsParted fork → IsReady aim depth above fork → (at : IsAsked way aim.steps fork.twig) → ((x : Step) → step_cmp x at.own ≡ Greater → step_cmp x at.asked ≡ Greater) → All (IsSide Greater depth at.asked) fork.right.rows
unfolding AreAfter
rows_after aim depth above way fork parted ready at chain =
    let own : All (IsSide Greater depth at.own) fork.right.rows = subst (λ d. All (IsSide Greater d at.own) fork.right.rows) ready.depth_is (parted ready.ordered at.own at.own_is).1 in
    All-weaker (IsSide Greater depth at.own) (IsSide Greater depth at.asked) (λ row e. through Greater at.own at.asked chain (slice_get row.path.steps depth) e) fork.right.rows own

rows_before : (aim : Aiming) (depth : ℕ) (above : Option ℕ) (way : Ordering) (fork : Fork) → IsParted fork → IsReady aim depth above fork → (at : IsAsked way aim.steps fork.twig) → ((x : Step) → step_cmp x at.own ≡ Less → step_cmp x at.asked ≡ Less) → All (IsSide Less depth at.asked) fork.left.rows
unfolding AreBefore
rows_before aim depth above way fork parted ready at chain =
    let own : All (IsSide Less depth at.own) fork.left.rows = subst (λ d. All (IsSide Less d at.own) fork.left.rows) ready.depth_is (parted ready.ordered at.own at.own_is).0 in
    All-weaker (IsSide Less depth at.own) (IsSide Less depth at.asked) (λ row e. through Less at.own at.asked chain (slice_get row.path.steps depth) e) fork.left.rows own

twig_on : (aim : Aiming) (depth : ℕ) (above : Option ℕ) (way side : Ordering) (fork : Fork) → IsReady aim depth above fork → (at : IsAsked way aim.steps fork.twig) → step_cmp at.own at.asked ≡ side → All (IsSide side depth at.asked) (rows_of fork.twig)
twig_on aim depth above way side fork ready at is =
    twig_side side depth at.asked fork.twig (record { depth_is = ready.depth_is; own = at.own; own_is = own_at aim depth way fork.twig ready.depth_is at; side_is = is; under = at.under })

-- what is so of the three parts is so of the whole, and the other way
pub whole_all : (P : Row → Type 0) (left here right : List Row) → All P left → All P here → All P right → All P (left ++ here ++ right)
whole_all P left here right l h r = All-append P (left ++ here) right (All-append P left here l h) r

pub whole_from : (path : List Step) (fork : Fork) (left here right : List Row) → AreUnder path left → AreUnder path here → AreUnder path right → AreUnder path (left ++ here ++ right)
unfolding AreUnder
whole_from path fork left here right l h r = whole_all (IsUnder path) left here right l h r

pub parts_all : (P : Row → Type 0) (branches : Branches) (fork : Fork) → IsForkOf branches fork → All P branches.rows → All P fork.left.rows × All P (rows_of fork.twig) × All P fork.right.rows
parts_all P branches fork is all = let t = three P branches fork is all in (t.left, t.here, t.right)

pub parts_under : (path : List Step) (branches : Branches) (fork : Fork) → IsForkOf branches fork → AreUnder path branches.rows → AreUnder path fork.left.rows × AreUnder path (rows_of fork.twig) × AreUnder path fork.right.rows
unfolding AreUnder
parts_under path branches fork is all = parts_all (IsUnder path) branches fork is all

pub put_none : (aim : Aiming) (depth : ℕ) (above : Option ℕ) (old new : List Row) → old ≡ [] → new ≡ aim.block → IsPut aim depth above old new
put_none aim depth above old new none same = record {
  put = λ block level. let orders = aim.orders in same ∙ sym (none_among aim.tables orders aim.steps aim.block old none);
}

pub put_left : (aim : Aiming) (depth : ℕ) (above : Option ℕ) (branches : Branches) (fork : Fork) (left new : List Row) → IsForkOf branches fork → IsReady aim depth above fork → FreeAt aim depth branches.rows → IsAsked Less aim.steps fork.twig → IsPut aim depth above fork.left.rows left → new ≡ left ++ rows_of fork.twig ++ fork.right.rows → IsPut aim depth above branches.rows new
unfolding AreUnder FreeAt
put_left aim depth above branches fork left new is ready free at inner same = record {
  put = λ block level. let orders = aim.orders in
      let u = parts_under (take depth aim.steps) branches fork is level.under in
      let s = split aim depth above fork at.asked ready level.above_is (asked_at aim depth Less fork.twig ready.depth_is at) in
      let frees = three_free branches fork aim.tables depth at.asked is (free at.asked (asked_at aim depth Less fork.twig ready.depth_is at)) in
      let far = turned at.asked at.own at.way_is in
      let here = backs aim orders depth above at.asked s block (rows_of fork.twig) u.1 (twig_on aim depth above Less Greater fork ready at far) frees.1 in
      let right = backs aim orders depth above at.asked s block fork.right.rows u.2 (rows_after aim depth above Less fork is.parted ready at (λ x e. chain_greater x at.own at.asked e far)) frees.2 in
      let put : left ≡ among aim.tables orders aim.steps aim.block fork.left.rows = inner.put block (record { above_is = level.above_is; under = u.0 }) in
      same ∙ ap (λ xs. xs ++ rows_of fork.twig ++ fork.right.rows) put
      ∙ sym (left_among aim.tables orders aim.steps aim.block fork.left.rows (rows_of fork.twig) fork.right.rows here right)
      ∙ ap (among aim.tables orders aim.steps aim.block) (sym is.rows);
}

pub put_right : (aim : Aiming) (depth : ℕ) (above : Option ℕ) (branches : Branches) (fork : Fork) (right new : List Row) → IsForkOf branches fork → IsReady aim depth above fork → FreeAt aim depth branches.rows → IsAsked Greater aim.steps fork.twig → IsPut aim depth above fork.right.rows right → new ≡ fork.left.rows ++ rows_of fork.twig ++ right → IsPut aim depth above branches.rows new
unfolding AreUnder FreeAt
put_right aim depth above branches fork right new is ready free at inner same = record {
  put = λ block level. let orders = aim.orders in
      let u = parts_under (take depth aim.steps) branches fork is level.under in
      let s = split aim depth above fork at.asked ready level.above_is (asked_at aim depth Greater fork.twig ready.depth_is at) in
      let frees = three_free branches fork aim.tables depth at.asked is (free at.asked (asked_at aim depth Greater fork.twig ready.depth_is at)) in
      let far = turned_back at.asked at.own at.way_is in
      let here = fronts aim orders depth above at.asked s block (rows_of fork.twig) u.1 (twig_on aim depth above Greater Less fork ready at far) frees.1 in
      let left = fronts aim orders depth above at.asked s block fork.left.rows u.0 (rows_before aim depth above Greater fork is.parted ready at (λ x e. step_total.trans x at.own at.asked e far)) frees.0 in
      let put : right ≡ among aim.tables orders aim.steps aim.block fork.right.rows = inner.put block (record { above_is = level.above_is; under = u.2 }) in
      same ∙ ap (λ xs. fork.left.rows ++ rows_of fork.twig ++ xs) put
      ∙ sym (right_among aim.tables orders aim.steps aim.block fork.left.rows (rows_of fork.twig) fork.right.rows left here)
      ∙ ap (among aim.tables orders aim.steps aim.block) (sym is.rows);
}

equal_side : (a b x : Step) (side : Ordering) → step_cmp a b ≡ Equal → step_cmp x b ≡ side → step_cmp x a ≡ side
equal_side a b x side same e = Rattle.std.proofs.lemmas.Cmp.alike_right step_total a b x same ∙ e

pub put_here : (aim : Aiming) (depth : ℕ) (above : Option ℕ) (branches : Branches) (fork : Fork) (here new : List Row) → IsForkOf branches fork → IsReady aim depth above fork → FreeAt aim depth branches.rows → IsAsked Equal aim.steps fork.twig → IsPut aim depth above (rows_of fork.twig) here → new ≡ fork.left.rows ++ here ++ fork.right.rows → IsPut aim depth above branches.rows new
unfolding AreUnder FreeAt
put_here aim depth above branches fork here new is ready free at inner same = record {
  put = λ block level. let orders = aim.orders in
      let u = parts_under (take depth aim.steps) branches fork is level.under in
      let s = split aim depth above fork at.asked ready level.above_is (asked_at aim depth Equal fork.twig ready.depth_is at) in
      let frees = three_free branches fork aim.tables depth at.asked is (free at.asked (asked_at aim depth Equal fork.twig ready.depth_is at)) in
      let left = fronts aim orders depth above at.asked s block fork.left.rows u.0 (rows_before aim depth above Equal fork is.parted ready at (λ x e. equal_side at.asked at.own x Less at.way_is e)) frees.0 in
      let right = backs aim orders depth above at.asked s block fork.right.rows u.2 (rows_after aim depth above Equal fork is.parted ready at (λ x e. equal_side at.asked at.own x Greater at.way_is e)) frees.2 in
      let put : here ≡ among aim.tables orders aim.steps aim.block (rows_of fork.twig) = inner.put block (record { above_is = level.above_is; under = u.1 }) in
      same ∙ ap (λ xs. fork.left.rows ++ xs ++ fork.right.rows) put
      ∙ sym (here_among aim.tables orders aim.steps aim.block fork.left.rows (rows_of fork.twig) fork.right.rows left right)
      ∙ ap (among aim.tables orders aim.steps aim.block) (sym is.rows);
}

pub own_under : (twig : Shoot) → AreUnder twig.row.path.steps twig.below.rows → All (IsUnder twig.row.path.steps) (rows_of twig)
unfolding AreUnder
own_under twig under = All-append (IsUnder twig.row.path.steps) (own_rows twig.stands twig.row) twig.below.rows (own twig.stands) under
  where
    own : (stands : Bool) → All (IsUnder twig.row.path.steps) (own_rows stands twig.row)
    own true = All-cons (IsUnder twig.row.path.steps) twig.row [] ([], sym (append-nil twig.row.path.steps)) (All-nil (IsUnder twig.row.path.steps))
    own false = All-nil (IsUnder twig.row.path.steps)

-- the node at the path gives way
pub put_last : (aim : Aiming) (depth : ℕ) (above : Option ℕ) (twig : Shoot) (new : List Row) → Leads aim depth twig → length aim.steps ≡ depth + 1 → new ≡ aim.block → IsPut aim depth above (rows_of twig) new
put_last aim depth above twig new leads len same =
    let none : leads.rest ≡ [] = nil_from_length leads.rest (shorter twig.row.path.steps leads.rest leads.length_is (ap length (sym leads.steps_are) ∙ len)) in
    let path : aim.steps ≡ twig.row.path.steps = leads.steps_are ∙ ap (λ xs. twig.row.path.steps ++ xs) none ∙ append-nil twig.row.path.steps in
    record {
      put = λ block level. let orders = aim.orders in same ∙ sym (gone_among aim.tables orders aim.steps aim.block (rows_of twig) (subst (λ steps. All (IsUnder steps) (rows_of twig)) (sym path) (own_under twig leads.under)));
    }
  where
    shorter : (path rest : List Step) → length path ≡ depth + 1 → length (path ++ rest) ≡ depth + 1 → length rest ≡ 0
    shorter path rest one all = omega (arith, one, all, length-append path rest)

-- or the path goes on below it
pub put_below : (aim : Aiming) (depth : ℕ) (above : Option ℕ) (node : ℕ) (twig : Shoot) (below new : List Row) → Leads aim depth twig → depth + 1 < length aim.steps → last_node None (take (depth + 1) aim.steps) ≡ Some node → IsPut aim (depth + 1) (Some node) twig.below.rows below → new ≡ own_rows twig.stands twig.row ++ below → IsPut aim depth above (rows_of twig) new
unfolding AreUnder
put_below aim depth above node twig below new leads long node_is inner same = record {
  put = λ block level. let orders = aim.orders in
      let path : take (depth + 1) aim.steps ≡ twig.row.path.steps = ap (take (depth + 1)) leads.steps_are ∙ take_at twig.row.path.steps leads.rest (depth + 1) leads.length_is in
      let put : below ≡ among aim.tables orders aim.steps aim.block twig.below.rows = inner.put block (record { above_is = sym node_is; under = subst (λ steps. AreUnder steps twig.below.rows) (sym path) leads.under }) in
      same ∙ ap (λ xs. own_rows twig.stands twig.row ++ xs) put
      ∙ sym (own_among aim.tables orders aim.steps aim.block (own_rows twig.stands twig.row) twig.below.rows (own block orders twig.stands leads.rest leads.steps_are));
}
  where
    empty : (path rest : List Step) → length path ≡ depth + 1 → depth + 1 < length (path ++ rest) → rest ≡ [] → ⊥
    empty path rest one all none = omega (arith, one, all, length-append path rest, ap length none)

    own : All (IsUnder aim.steps) aim.block → (orders : List (List (List (List ℕ)))) → (stands : Bool) → (rest : List Step) → aim.steps ≡ twig.row.path.steps ++ rest → All (IsFront aim.tables orders aim.steps aim.block) (own_rows stands twig.row)
    own block orders false rest is = All-nil (IsFront aim.tables orders aim.steps aim.block)
    own block orders true [] is = absurd (empty twig.row.path.steps [] leads.length_is (subst (λ n. depth + 1 < n) (ap length is) long) refl)
    own block orders true (p ∷ ps) is = All-cons (IsFront aim.tables orders aim.steps aim.block) twig.row [] (stays_above aim.tables aim.steps ps p aim.block twig.row is block, front_above aim.tables orders aim.steps ps p twig.row is) (All-nil (IsFront aim.tables orders aim.steps aim.block))
