-- The entries that are known after an edit.
use Rattle.std.proofs.Common.{◌≡◌, ◌++◌, ◌||◌, ◌+◌, ◌≤◌, ℕ, Bool, true, false, cond, not, List, [], ◌∷◌, refl, sym, ap, subst, ◌∙◌, arith, length}
use Rattle.std.specs.List.{All, filter, list_any}
use Rattle.std.proofs.lemmas.List.{append-nil}
use Rattle.std.proofs.lemmas.List.Elements.{All-head, All-tail}
use Rattle.nc_names.proofs.SameLemmas.{path_decide}
use Rattle.nc_names.specs.Same.{is_at_or_below, is_same_path}
use Rattle.nc_names.specs.declared.path.Row.{Row}
use Rattle.nc_names.specs.declared.path.Step.{Step}
use Rattle.nc_schema.specs.Standing.{excludes, has_row}
use Rattle.nc_schema.specs.Tables.{Tables}
use Rattle.nc_branches.specs.Branches.{Branches, no_branches, replaced, without_block}
use Rattle.nc_branches.specs.Entries.{is_entry}
use Rattle.nc_branches.specs.Sides.{among, is_front, stays}
use Rattle.nc_branches.specs.Tallies.{IsTallied, KeepsTally, count_of}
use Rattle.nc_branches.specs.inner.Known.{Knows, KnowsMore}
use Rattle.nc_branches.specs.inner.Layings.{KnowsBlock}
use Rattle.nc_branches.specs.inner.Order.{AreUnder, IsUnder}
use Rattle.nc_branches.specs.inner.Putting.{IsNode}
use Rattle.nc_branches.specs.inner.Shoots.{Shoot, rows_of}
use Rattle.nc_branches.proofs.Knowing.{knows_start}
use Rattle.nc_branches.proofs.Places.{is_below}
use Rattle.nc_branches.proofs.Tallies.{count_append, count_none}
use Rattle.nc_branches.proofs.Wholes.{has_append}

-- how many rows of some stand at a path, of those that pass a test and of the others
count_cons : (row : Row) (rows : List Row) (q : List Step) → count_of (row ∷ rows) q ≡ cond (is_same_path row.path.steps q) 1 0 + count_of rows q
count_cons row rows q = by (is_same_path row.path.steps q)
  where
    by : (b : Bool) → length (cond b (row ∷ filter (λ row. is_same_path row.path.steps q) rows) (filter (λ row. is_same_path row.path.steps q) rows)) ≡ cond b 1 0 + count_of rows q
    by true = omega arith
    by false = omega arith

count_filter : (test : Row → Bool) (rows : List Row) (q : List Step) → count_of (filter test rows) q + count_of (filter (λ row. not (test row)) rows) q ≡ count_of rows q
count_filter test [] q = omega arith
count_filter test (row ∷ rows) q = by (test row) (count_filter test rows q)
  where
    by : (b : Bool) → count_of (filter test rows) q + count_of (filter (λ row. not (test row)) rows) q ≡ count_of rows q →
        count_of (cond b (row ∷ filter test rows) (filter test rows)) q + count_of (cond (not b) (row ∷ filter (λ row. not (test row)) rows) (filter (λ row. not (test row)) rows)) q ≡ count_of (row ∷ rows) q
    by true e = omega (arith, e, count_cons row (filter test rows) q, count_cons row rows q)
    by false e = omega (arith, e, count_cons row (filter (λ row. not (test row)) rows) q, count_cons row rows q)

-- a row that stays is neither at some steps nor below them
stays_apart : (tables : Tables) (steps : List Step) (block : List Row) (row : Row) → stays tables steps block row ≡ true → is_at_or_below steps row.path ≡ false
unfolding stays
stays_apart tables steps block row e = by (is_at_or_below steps row.path) e
  where
    by : (b : Bool) → not (b || list_any (λ added. excludes tables added.path.steps row.path.steps) block) ≡ true → b ≡ false
    by true bad = cc
    by false ok = refl

same_below : (steps q : List Step) (row : Row) → is_same_path row.path.steps q ≡ true → is_at_or_below steps row.path ≡ is_at_or_below steps (record { steps = q })
same_below steps q row e = ap (λ (p : List Step). is_at_or_below steps (record { steps = p })) ((path_decide row.path.steps q).0 e)

none_stays : (tables : Tables) (steps : List Step) (block rows : List Row) (q : List Step) → is_at_or_below steps (record { steps = q }) ≡ true → has_row (filter (stays tables steps block) rows) q ≡ false
none_stays tables steps block [] q within = refl
none_stays tables steps block (row ∷ rows) q within = by (stays tables steps block row) refl (none_stays tables steps block rows q within)
  where
    other : stays tables steps block row ≡ true → (b : Bool) → is_same_path row.path.steps q ≡ b → b ≡ false
    other stay false e = refl
    other stay true e = let apart = stays_apart tables steps block row stay in let same = same_below steps q row e in cc

    by : (b : Bool) → stays tables steps block row ≡ b → has_row (filter (stays tables steps block) rows) q ≡ false → has_row (cond b (row ∷ filter (stays tables steps block) rows) (filter (stays tables steps block) rows)) q ≡ false
    by true e none = (λ i. other e (is_same_path row.path.steps q) refl i || none i)
    by false e none = none

none_under : (steps : List Step) (block : List Row) (q : List Step) → All (IsUnder steps) block → is_at_or_below steps (record { steps = q }) ≡ false → has_row block q ≡ false
none_under steps [] q all apart = refl
none_under steps (row ∷ block) q all apart = (λ i. other (is_same_path row.path.steps q) refl i || none_under steps block q (All-tail (IsUnder steps) row block all) apart i)
  where
    other : (b : Bool) → is_same_path row.path.steps q ≡ b → b ≡ false
    other false e = refl
    other true e =
        let under : IsUnder steps row = All-head (IsUnder steps) row block all in
        let within : is_at_or_below steps row.path ≡ true = is_below steps under.0 row under.1 in
        let same = same_below steps q row e in
        cc

up_first : (a b : Bool) → cond a 1 0 ≤ cond (a || b) 1 0
up_first true b = omega arith
up_first false true = omega arith
up_first false false = omega arith

up_second : (a b : Bool) → cond b 1 0 ≤ cond (a || b) 1 0
up_second true true = omega arith
up_second true false = omega arith
up_second false b = omega arith

-- what is not at some steps nor below them stays
has_without : (steps : List Step) (rows : List Row) (q : List Step) → is_at_or_below steps (record { steps = q }) ≡ false → has_row (without_block rows steps) q ≡ has_row rows q
has_without steps [] q apart = refl
has_without steps (row ∷ rows) q apart = by (is_at_or_below steps row.path) refl (has_without steps rows q apart)
  where
    other : is_at_or_below steps row.path ≡ true → (b : Bool) → is_same_path row.path.steps q ≡ b → b ≡ false
    other within false e = refl
    other within true e = let same = same_below steps q row e in cc

    by : (b : Bool) → is_at_or_below steps row.path ≡ b → has_row (without_block rows steps) q ≡ has_row rows q → has_row (cond (not b) (row ∷ without_block rows steps) (without_block rows steps)) q ≡ (is_same_path row.path.steps q || has_row rows q)
    by true e same = same ∙ sym (ap (λ b. b || has_row rows q) (other e (is_same_path row.path.steps q) refl))
    by false e same = ap (λ b. is_same_path row.path.steps q || b) same

-- the block is known, and of the others none is new
pub tallied_among : (tables : Tables) (orders : List (List (List (List ℕ)))) (steps : List Step) (block rows known now : List Row) → IsTallied known rows → AreUnder steps block → KnowsBlock (without_block known steps) block now → IsTallied now (among tables orders steps block rows)
unfolding IsTallied AreUnder Knows
tallied_among tables orders steps block rows known now all under knows = λ q entry. by q entry (is_at_or_below steps (record { steps = q })) refl
  where
    others : List Row
    others = filter (stays tables steps block) rows

    base : List Row
    base = without_block known steps

    total : (q : List Step) → count_of (among tables orders steps block rows) q ≡ count_of others q + count_of block q
    total q =
        let fronts : List Row = filter (is_front tables orders steps) others in
        let backs : List Row = filter (λ row. not (is_front tables orders steps row)) others in
        let one : count_of (fronts ++ block ++ backs) q ≡ count_of (fronts ++ block) q + count_of backs q = count_append (fronts ++ block) backs q in
        let two : count_of (fronts ++ block) q ≡ count_of fronts q + count_of block q = count_append fronts block q in
        let three : count_of fronts q + count_of backs q ≡ count_of others q = count_filter (is_front tables orders steps) others q in
        omega (arith, one, two, three)

    has_now : (q : List Step) → has_row now q ≡ (has_row base q || has_row knows.more q)
    has_now q = knows.knows q ∙ has_append base knows.more q

    by : (q : List Step) → is_entry q ≡ true → (b : Bool) → is_at_or_below steps (record { steps = q }) ≡ b → count_of (among tables orders steps block rows) q ≤ cond (has_row now q) 1 0
    by q entry true e =
        let zero : count_of others q ≡ 0 = count_none others q (none_stays tables steps block rows q e) in
        let most : count_of block q ≤ cond (has_row knows.more q) 1 0 = knows.tallied q entry in
        let more : cond (has_row knows.more q) 1 0 ≤ cond (has_row now q) 1 0 = subst (λ b. cond (has_row knows.more q) 1 0 ≤ cond b 1 0) (sym (has_now q)) (up_second (has_row base q) (has_row knows.more q)) in
        omega (arith, total q, zero, most, more)
    by q entry false e =
        let zero : count_of block q ≡ 0 = count_none block q (none_under steps block q under e) in
        let part : count_of others q + count_of (filter (λ row. not (stays tables steps block row)) rows) q ≡ count_of rows q = count_filter (stays tables steps block) rows q in
        let most : count_of rows q ≤ cond (has_row known q) 1 0 = all q entry in
        let more : cond (has_row base q) 1 0 ≤ cond (has_row now q) 1 0 = subst (λ b. cond (has_row base q) 1 0 ≤ cond b 1 0) (sym (has_now q)) (up_first (has_row base q) (has_row knows.more q)) in
        let kept : count_of rows q ≤ cond (has_row base q) 1 0 = subst (λ b. count_of rows q ≤ cond b 1 0) (sym (has_without steps known q e)) most in
        omega (arith, total q, zero, part, kept, more)

pub keeps_tally : (steps : List Step) (block known now : List Row) → AreUnder steps block → KnowsBlock (without_block known steps) block now → KeepsTally known steps block now
unfolding KeepsTally
keeps_tally steps block known now under knows = λ tables orders rows all. tallied_among tables orders steps block rows known now all under knows

pub after_tally : (tables : Tables) (orders : List (List (List (List ℕ)))) (steps : List Step) (block rows known now : List Row) → KeepsTally known steps block now → IsTallied known rows → IsTallied now (among tables orders steps block rows)
unfolding KeepsTally
after_tally tables orders steps block rows known now keeps all = keeps tables orders rows all

-- where rows are taken away
pub tallied_without : (steps : List Step) (known rows : List Row) → IsTallied known rows → IsTallied (without_block known steps) (without_block rows steps)
unfolding IsTallied
tallied_without steps known rows all = λ q entry. by q entry (is_at_or_below steps (record { steps = q })) refl
  where
    none_left : (rows : List Row) (q : List Step) → is_at_or_below steps (record { steps = q }) ≡ true → has_row (without_block rows steps) q ≡ false
    none_left [] q within = refl
    none_left (row ∷ rows) q within = at (is_at_or_below steps row.path) refl (none_left rows q within)
      where
        other : is_at_or_below steps row.path ≡ false → (b : Bool) → is_same_path row.path.steps q ≡ b → b ≡ false
        other apart false e = refl
        other apart true e = let same = same_below steps q row e in cc

        at : (b : Bool) → is_at_or_below steps row.path ≡ b → has_row (without_block rows steps) q ≡ false → has_row (cond (not b) (row ∷ without_block rows steps) (without_block rows steps)) q ≡ false
        at true e none = none
        at false e none = (λ i. other e (is_same_path row.path.steps q) refl i || none i)

    by : (q : List Step) → is_entry q ≡ true → (b : Bool) → is_at_or_below steps (record { steps = q }) ≡ b → count_of (without_block rows steps) q ≤ cond (has_row (without_block known steps) q) 1 0
    by q entry true e =
        let zero : count_of (without_block rows steps) q ≡ 0 = count_none (without_block rows steps) q (none_left rows q e) in
        omega (arith, zero)
    by q entry false e =
        let part : count_of (filter (λ row. is_at_or_below steps row.path) rows) q + count_of (without_block rows steps) q ≡ count_of rows q = count_filter (λ row. is_at_or_below steps row.path) rows q in
        let most : count_of rows q ≤ cond (has_row (without_block known steps) q) 1 0 = subst (λ b. count_of rows q ≤ cond b 1 0) (sym (has_without steps known q e)) (all q entry) in
        omega (arith, part, most)

-- what is known of more rows is known of what is left of them
pub tallied_rest : (steps : List Step) (known rows rest : List Row) → rest ≡ without_block rows steps → IsTallied known rows → IsTallied known rest
unfolding IsTallied
tallied_rest steps known rows rest same all = λ q entry.
    let part : count_of (filter (λ row. is_at_or_below steps row.path) rows) q + count_of (without_block rows steps) q ≡ count_of rows q = count_filter (λ row. is_at_or_below steps row.path) rows q in
    let less : count_of rows q ≤ cond (has_row known q) 1 0 = all q entry in
    subst (λ (xs : List Row). count_of xs q ≤ cond (has_row known q) 1 0) (sym same) (omega (arith, part, less))

-- where a row is replaced
count_replaced : (rows : List Row) (row : Row) (q : List Step) → count_of (replaced rows row) q ≡ count_of rows q
count_replaced [] row q = refl
count_replaced (x ∷ rows) row q = by (is_same_path x.path.steps row.path.steps) refl (count_replaced rows row q)
  where
    by : (b : Bool) → is_same_path x.path.steps row.path.steps ≡ b → count_of (replaced rows row) q ≡ count_of rows q → count_of (cond b (row ∷ rows) (x ∷ replaced rows row)) q ≡ count_of (x ∷ rows) q
    by true e same =
        let path : x.path.steps ≡ row.path.steps = (path_decide x.path.steps row.path.steps).0 e in
        count_cons row rows q ∙ ap (λ (p : List Step). cond (is_same_path p q) 1 0 + count_of rows q) (sym path) ∙ sym (count_cons x rows q)
    by false e same = count_cons x (replaced rows row) q ∙ ap (λ n. cond (is_same_path x.path.steps q) 1 0 + n) same ∙ sym (count_cons x rows q)

pub tallied_replaced : (known rows : List Row) (row : Row) → IsTallied known rows → IsTallied known (replaced rows row)
unfolding IsTallied
tallied_replaced known rows row all = λ q entry. subst (λ n. n ≤ cond (has_row known q) 1 0) (sym (count_replaced rows row q)) (all q entry)

-- nothing new
pub knows_same : (known : List Row) → KnowsBlock known [] known
unfolding IsTallied Knows
knows_same known = record {
  more = [];
  tallied = λ q entry. omega arith;
  knows = λ q. ap (λ xs. has_row xs q) (sym (append-nil known));
}

pub knows_block : (known now : List Row) (start more : Branches) (twig : Shoot) → start ≡ no_branches → KnowsMore start.rows more.rows (rows_of twig) → Knows now (known ++ more.rows) → KnowsBlock known (rows_of twig) now
knows_block known now start more twig none all knows = record { more = more.rows; tallied = knows_start start more.rows (rows_of twig) none all; knows = knows }

-- of a tree of one node alone
pub node_below : (steps : List Step) (rows : List Row) (twig : Shoot) → IsNode steps rows twig → AreUnder steps (rows_of twig)
node_below steps rows twig is = is.under

pub keeps_node : (steps : List Step) (rows known now : List Row) (twig : Shoot) → IsNode steps rows twig → KeepsTally known steps (rows_of twig) now → KeepsTally known steps rows now
keeps_node steps rows known now twig is keeps = subst (λ (xs : List Row). KeepsTally known steps xs now) is.rows_are keeps
