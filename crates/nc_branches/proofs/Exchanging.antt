-- Other rows in the place of those of an entry that is found.
use Rattle.std.proofs.Common.{◌≡◌, ◌++◌, ◌<◌, ℕ, true, not, List, [], Option, Some, None, refl, sym, ap, subst, ◌∙◌, length, drop}
use Rattle.std.specs.List.{All, starts_with}
use Rattle.std.proofs.lemmas.List.{append_assoc, append-nil}
use Rattle.std.proofs.lemmas.List.Elements.{All-filter, filter-append}
use Rattle.std.proofs.lemmas.Slice.Eq.{starts_is}
use Rattle.nc_names.proofs.SameLemmas.{step_decide}
use Rattle.nc_names.specs.Same.{is_at_or_below, is_same_step}
use Rattle.nc_names.specs.declared.path.Row.{Row}
use Rattle.nc_names.specs.declared.path.Step.{Step}
use Rattle.nc_schema.specs.Standing.{block_at}
use Rattle.nc_branches.specs.Branches.{Branches, replaced, without_block}
use Rattle.nc_branches.specs.Entries.{is_entry}
use Rattle.nc_branches.specs.Tallies.{IsTallied}
use Rattle.nc_branches.specs.inner.Forks.{IsForkOf}
use Rattle.nc_branches.specs.declared.tree.Fork.{Fork}
use Rattle.nc_branches.specs.inner.Located.{Exchanges, IsExchanged, IsHead, IsLocated, Locates}
use Rattle.nc_branches.specs.inner.Order.{AreUnder, IsUnder, depth_of}
use Rattle.nc_branches.specs.inner.Places.{AreApart}
use Rattle.nc_branches.specs.inner.Shoots.{Shoot, own_rows, rows_of}
use Rattle.nc_branches.proofs.Found.{found_apart}
use Rattle.nc_branches.proofs.Leading.{shorter_under}
use Rattle.nc_branches.proofs.Locating.{apart_longer, located_below, located_here, located_itself, located_left, located_right, tallied_below, tallied_here, tallied_left, tallied_right}
use Rattle.nc_branches.proofs.Parts.{block_all, block_none, rest_all, within_twig}
use Rattle.nc_branches.proofs.Places.{is_below}
use Rattle.nc_branches.proofs.Placing.{own_under, parts_under, whole_from}
use Rattle.nc_branches.proofs.Replacing.{none_first, none_second, replaced_under}
use Rattle.nc_branches.proofs.Turned.{joined_under, parted_under}

pub exchanges_itself : (known : List Row) (steps : List Step) (twig : Shoot) (node : List Row) → twig.row.path.steps ≡ steps → twig.stands ≡ true → AreUnder twig.row.path.steps twig.below.rows → Exchanges known steps (rows_of twig) node node
unfolding located_itself
exchanges_itself known steps twig node path stands under = record {
  is = λ all entry. record { shoot = twig; at = located_itself steps twig path stands under; new_is = sym (append-nil node) };
  from = λ p old new. new;
}

pub exchanges_below : (known : List Row) (steps : List Step) (twig : Shoot) (node below : List Row) → length twig.row.path.steps < length steps → Exchanges known steps twig.below.rows node below → Exchanges known steps (rows_of twig) node (own_rows twig.stands twig.row ++ below)
unfolding located_below
exchanges_below known steps twig node below long at = record {
  is = λ all entry.
      let inner : IsExchanged steps twig.below.rows node below = at.is (tallied_below known twig all) entry in
      record {
        shoot = inner.shoot;
        at = located_below steps twig inner.shoot long inner.at;
        new_is = ap (λ xs. own_rows twig.stands twig.row ++ xs) inner.new_is ∙ inside (own_rows twig.stands twig.row) inner.at.before node inner.at.after;
      };
  from = λ p old new. let u = parted_under p (own_rows twig.stands twig.row) twig.below.rows old in joined_under p (own_rows twig.stands twig.row) below u.0 (at.from p u.1 new);
}
  where
    inside : (o b n a : List Row) → o ++ (b ++ n ++ a) ≡ (o ++ b) ++ n ++ a
    inside o b n a = simp append_assoc

-- what is below a node stays below it
pub exchanges_under : (known : List Row) (steps : List Step) (twig : Shoot) (node below : List Row) → AreUnder twig.row.path.steps twig.below.rows → starts_with is_same_step steps twig.row.path.steps ≡ true → AreUnder steps node → Exchanges known steps twig.below.rows node below → AreUnder twig.row.path.steps below
exchanges_under known steps twig node below under on new at =
    let path : List Step = twig.row.path.steps in
    let is : steps ≡ path ++ drop (length path) steps = (starts_is step_decide steps path (starts_with is_same_step steps path) refl).0 on in
    at.from path under (shorter_under path (drop (length path) steps) steps node is new)

pub exchanges_left : (known : List Row) (steps : List Step) (branches : Branches) (fork : Fork) (node left new : List Row) → IsForkOf branches fork → fork.whole ≡ true → depth_of fork.twig < length steps → Exchanges known steps fork.left.rows node left → new ≡ left ++ rows_of fork.twig ++ fork.right.rows →
    Exchanges known steps branches.rows node new
unfolding located_left
exchanges_left known steps branches fork node left new is whole long at same = record {
  is = λ all entry.
      let inner : IsExchanged steps fork.left.rows node left = at.is (tallied_left known branches fork is all) entry in
      record {
        shoot = inner.shoot;
        at = located_left known steps branches fork inner.shoot is whole long entry all inner.at;
        new_is = same ∙ ap (λ xs. xs ++ rows_of fork.twig ++ fork.right.rows) inner.new_is ∙ outside inner.at.before node inner.at.after (rows_of fork.twig) fork.right.rows;
      };
  from = λ p old under. let u = parts_under p branches fork is old in subst (AreUnder p) (sym same) (whole_from p fork left (rows_of fork.twig) fork.right.rows (at.from p u.0 under) u.1 u.2);
}
  where
    outside : (b n a h r : List Row) → (b ++ n ++ a) ++ h ++ r ≡ b ++ n ++ (a ++ h ++ r)
    outside b n a h r = simp append_assoc

pub exchanges_here : (known : List Row) (steps : List Step) (branches : Branches) (fork : Fork) (node here new : List Row) → IsForkOf branches fork → fork.whole ≡ true → depth_of fork.twig < length steps → Exchanges known steps (rows_of fork.twig) node here → new ≡ fork.left.rows ++ here ++ fork.right.rows →
    Exchanges known steps branches.rows node new
unfolding located_here
exchanges_here known steps branches fork node here new is whole long at same = record {
  is = λ all entry.
      let inner : IsExchanged steps (rows_of fork.twig) node here = at.is (tallied_here known branches fork is all) entry in
      record {
        shoot = inner.shoot;
        at = located_here known steps branches fork inner.shoot is whole long entry all inner.at;
        new_is = same ∙ ap (λ xs. fork.left.rows ++ xs ++ fork.right.rows) inner.new_is ∙ outside fork.left.rows inner.at.before node inner.at.after fork.right.rows;
      };
  from = λ p old under. let u = parts_under p branches fork is old in subst (AreUnder p) (sym same) (whole_from p fork fork.left.rows here fork.right.rows u.0 (at.from p u.1 under) u.2);
}
  where
    outside : (l b n a r : List Row) → l ++ (b ++ n ++ a) ++ r ≡ (l ++ b) ++ n ++ (a ++ r)
    outside l b n a r = simp append_assoc

pub exchanges_right : (known : List Row) (steps : List Step) (branches : Branches) (fork : Fork) (node right new : List Row) → IsForkOf branches fork → fork.whole ≡ true → depth_of fork.twig < length steps → Exchanges known steps fork.right.rows node right → new ≡ fork.left.rows ++ rows_of fork.twig ++ right →
    Exchanges known steps branches.rows node new
unfolding located_right
exchanges_right known steps branches fork node right new is whole long at same = record {
  is = λ all entry.
      let inner : IsExchanged steps fork.right.rows node right = at.is (tallied_right known branches fork is all) entry in
      record {
        shoot = inner.shoot;
        at = located_right known steps branches fork inner.shoot is whole long entry all inner.at;
        new_is = same ∙ ap (λ xs. fork.left.rows ++ rows_of fork.twig ++ xs) inner.new_is ∙ outside fork.left.rows (rows_of fork.twig) inner.at.before node inner.at.after;
      };
  from = λ p old under. let u = parts_under p branches fork is old in subst (AreUnder p) (sym same) (whole_from p fork fork.left.rows (rows_of fork.twig) right u.0 u.1 (at.from p u.2 under));
}
  where
    outside : (l h b n a : List Row) → l ++ h ++ (b ++ n ++ a) ≡ (l ++ h ++ b) ++ n ++ a
    outside l h b n a = simp append_assoc

-- the rows of an entry are those at its path and below it
located_under : (steps : List Step) (rows : List Row) (twig : Shoot) → IsLocated steps rows twig → AreUnder steps (rows_of twig)
unfolding AreUnder
located_under steps rows twig at = subst (λ p. All (IsUnder p) (rows_of twig)) at.path_is (own_under twig at.under)

located_block : (steps : List Step) (rows : List Row) (twig : Shoot) → IsLocated steps rows twig → block_at rows steps ≡ rows_of twig
located_block steps rows twig at =
    let test : Row → Rattle.std.proofs.Common.Bool = λ row. is_at_or_below steps row.path in
    let own : is_at_or_below steps twig.row.path ≡ true = is_below steps [] twig.row (at.path_is ∙ sym (append-nil steps)) in
    ap (λ xs. block_at xs steps) at.rows_are
    ∙ filter-append test (at.before ++ rows_of twig) at.after
    ∙ ap (λ xs. xs ++ block_at at.after steps) (filter-append test at.before (rows_of twig))
    ∙ (λ i. (block_none steps at.before at.before_apart i ++ block_all steps (rows_of twig) (within_twig steps twig own at.under) i) ++ block_none steps at.after at.after_apart i)
    ∙ append-nil (rows_of twig)

-- an entry is found once
one_block : (steps : List Step) (rows : List Row) (one two : Shoot) → IsLocated steps rows one → IsLocated steps rows two → rows_of one ≡ rows_of two
one_block steps rows one two first second = sym (located_block steps rows one first) ∙ located_block steps rows two second

-- the rows that are neither at some steps nor below them
pub none_gone : (steps : List Step) (rows : List Row) → AreApart steps rows → rows ≡ without_block rows steps
none_gone steps rows apart = sym (rest_all steps rows apart)

filter_under : (path steps : List Step) (rows : List Row) → AreUnder path rows → AreUnder path (without_block rows steps)
unfolding AreUnder
filter_under path steps rows all = All-filter (λ row. not (is_at_or_below steps row.path)) (IsUnder path) rows all

pub gone_under : (known : List Row) (steps path : List Step) (rows node : List Row) (twig : Shoot) → Locates known path rows twig → IsTallied known rows → is_entry path ≡ true → node ≡ without_block (rows_of twig) steps → AreUnder path node
unfolding Locates
gone_under known steps path rows node twig at all entry same = subst (AreUnder path) (sym same) (filter_under path steps (rows_of twig) (located_under path rows twig (at all entry)))

pub gone_exchanged : (known : List Row) (steps path : List Step) (rows node new : List Row) (twig : Shoot) → IsHead path steps → Locates known path rows twig → IsTallied known rows → is_entry path ≡ true → node ≡ without_block (rows_of twig) steps → Exchanges known path rows node new → new ≡ without_block rows steps
unfolding Locates
gone_exchanged known steps path rows node new twig head at all entry same exchanges =
    let e : IsExchanged path rows node new = exchanges.is all entry in
    let test : Row → Rattle.std.proofs.Common.Bool = λ row. not (is_at_or_below steps row.path) in
    let rest : node ≡ without_block (rows_of e.shoot) steps = same ∙ ap (λ xs. without_block xs steps) (one_block path rows twig e.shoot (at all entry) e.at) in
    let before : without_block e.at.before steps ≡ e.at.before = rest_all steps e.at.before (apart_longer head.len steps path e.at.before head.is e.at.before_apart) in
    let after : without_block e.at.after steps ≡ e.at.after = rest_all steps e.at.after (apart_longer head.len steps path e.at.after head.is e.at.after_apart) in
    e.new_is ∙ (λ i. sym before i ++ rest i ++ sym after i)
    ∙ sym (ap (λ xs. without_block xs steps) e.at.rows_are ∙ filter-append test (e.at.before ++ rows_of e.shoot) e.at.after ∙ ap (λ xs. xs ++ without_block e.at.after steps) (filter-append test e.at.before (rows_of e.shoot)))

-- the rows with the first one at a path replaced
pub replaced_below : (known : List Row) (path : List Step) (rows node : List Row) (row : Row) (twig : Shoot) → Locates known path rows twig → IsTallied known rows → is_entry path ≡ true → node ≡ replaced (rows_of twig) row → AreUnder path node
unfolding Locates
replaced_below known path rows node row twig at all entry same = subst (AreUnder path) (sym same) (replaced_under path (rows_of twig) row (located_under path rows twig (at all entry)))

pub replaced_exchanged : (known : List Row) (path : List Step) (rows node new : List Row) (row : Row) (twig : Shoot) → IsHead path row.path.steps → Locates known path rows twig → IsTallied known rows → is_entry path ≡ true → node ≡ replaced (rows_of twig) row → Exchanges known path rows node new → new ≡ replaced rows row
unfolding Locates
replaced_exchanged known path rows node new row twig head at all entry same exchanges =
    let e : IsExchanged path rows node new = exchanges.is all entry in
    let rest : node ≡ replaced (rows_of e.shoot) row = same ∙ ap (λ xs. replaced xs row) (one_block path rows twig e.shoot (at all entry) e.at) in
    let before = found_apart row.path.steps e.at.before (apart_longer head.len row.path.steps path e.at.before head.is e.at.before_apart) in
    let after = found_apart row.path.steps e.at.after (apart_longer head.len row.path.steps path e.at.after head.is e.at.after_apart) in
    e.new_is ∙ ap (λ xs. e.at.before ++ xs ++ e.at.after) rest
    ∙ sym (ap (λ xs. replaced xs row) e.at.rows_are ∙ none_second (e.at.before ++ rows_of e.shoot) e.at.after row after ∙ ap (λ xs. xs ++ e.at.after) (none_first e.at.before (rows_of e.shoot) row before))
