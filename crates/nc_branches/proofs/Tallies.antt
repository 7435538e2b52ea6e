-- No entry has two rows, and each that has one is known.
use Rattle.std.proofs.Common.{◌≡◌, ◌++◌, ◌||◌, ◌+◌, ◌<◌, ◌≤◌, ℕ, Bool, true, false, cond, List, [], ◌∷◌, refl, sym, ap, subst, ◌∙◌, arith, length}
use Rattle.std.specs.List.{All, filter}
use Rattle.std.proofs.lemmas.List.{length-append}
use Rattle.std.proofs.lemmas.List.Elements.{All-cons, All-nil, filter-append}
use Rattle.nc_names.specs.Same.{is_at_or_below, is_same_path}
use Rattle.nc_names.specs.declared.path.Row.{Row}
use Rattle.nc_names.specs.declared.path.Step.{Step}
use Rattle.nc_schema.specs.Standing.{exists, has_row}
use Rattle.nc_branches.specs.inner.Places.{AreApart}
use Rattle.nc_branches.specs.Entries.{is_entry}
use Rattle.nc_branches.specs.Tallies.{IsTallied, count_of}
use Rattle.nc_branches.specs.inner.Steady.{AreWhole}

pub count_append : (xs ys : List Row) (steps : List Step) → count_of (xs ++ ys) steps ≡ count_of xs steps + count_of ys steps
count_append xs ys steps =
    ap length (filter-append (λ row. is_same_path row.path.steps steps) xs ys)
    ∙ length-append (filter (λ row. is_same_path row.path.steps steps) xs) (filter (λ row. is_same_path row.path.steps steps) ys)

pub tallied_first : (known xs ys : List Row) → IsTallied known (xs ++ ys) → IsTallied known xs
unfolding IsTallied
tallied_first known xs ys all = λ steps entry. omega (arith, all steps entry, count_append xs ys steps)

pub tallied_second : (known xs ys : List Row) → IsTallied known (xs ++ ys) → IsTallied known ys
unfolding IsTallied
tallied_second known xs ys all = λ steps entry. omega (arith, all steps entry, count_append xs ys steps)

-- a row at a path is counted
pub count_some : (rows : List Row) (steps : List Step) → has_row rows steps ≡ true → 1 ≤ count_of rows steps
count_some [] steps some = absurd (cc some)
count_some (row ∷ rows) steps some = by (is_same_path row.path.steps steps) some (count_some rows steps)
  where
    by : (b : Bool) → (b || has_row rows steps) ≡ true → (has_row rows steps ≡ true → 1 ≤ count_of rows steps) →
        1 ≤ length (cond b (row ∷ filter (λ row. is_same_path row.path.steps steps) rows) (filter (λ row. is_same_path row.path.steps steps) rows))
    by true e more = omega arith
    by false e more = more e

most_one : (b : Bool) → cond b 1 0 ≤ 1
most_one true = omega arith
most_one false = omega arith

-- an entry that has a row among some rows has none among the others
pub none_second : (known xs ys : List Row) (steps : List Step) → IsTallied known (xs ++ ys) → is_entry steps ≡ true → has_row xs steps ≡ true → has_row ys steps ≡ false
unfolding IsTallied
none_second known xs ys steps all entry some = by (has_row ys steps) refl
  where
    by : (b : Bool) → has_row ys steps ≡ b → b ≡ false
    by false e = refl
    by true e = absurd (omega (arith, all steps entry, most_one (has_row known steps), count_append xs ys steps, count_some xs steps some, count_some ys steps e))

pub none_first : (known xs ys : List Row) (steps : List Step) → IsTallied known (xs ++ ys) → is_entry steps ≡ true → has_row ys steps ≡ true → has_row xs steps ≡ false
unfolding IsTallied
none_first known xs ys steps all entry some = by (has_row xs steps) refl
  where
    by : (b : Bool) → has_row xs steps ≡ b → b ≡ false
    by false e = refl
    by true e = absurd (omega (arith, all steps entry, most_one (has_row known steps), count_append xs ys steps, count_some xs steps e, count_some ys steps some))

-- one that is not known has no row
pub none_known : (known rows : List Row) (steps : List Step) → IsTallied known rows → is_entry steps ≡ true → has_row known steps ≡ false → has_row rows steps ≡ false
unfolding IsTallied
none_known known rows steps all entry none = by (has_row rows steps) refl
  where
    by : (b : Bool) → has_row rows steps ≡ b → b ≡ false
    by false e = refl
    by true e = absurd (omega (arith, subst (λ b. count_of rows steps ≤ cond b 1 0) none (all steps entry), count_some rows steps e))

-- rows none of which stands at or below some steps
pub apart_exists : (steps : List Step) (rows : List Row) → exists rows steps ≡ false → AreApart steps rows
unfolding AreApart
apart_exists steps [] none = All-nil (λ row. is_at_or_below steps row.path ≡ false)
apart_exists steps (row ∷ rows) none = by (is_at_or_below steps row.path) refl none (apart_exists steps rows)
  where
    by : (b : Bool) → is_at_or_below steps row.path ≡ b → (b || exists rows steps) ≡ false → (exists rows steps ≡ false → All (λ row. is_at_or_below steps row.path ≡ false) rows) →
        All (λ row. is_at_or_below steps row.path ≡ false) (row ∷ rows)
    by true e bad more = absurd (cc bad)
    by false e rest more = All-cons (λ row. is_at_or_below steps row.path ≡ false) row rows e (more rest)

-- where entries have rows, one without a row has nothing below it
pub apart_whole : (depth : ℕ) (steps : List Step) (rows : List Row) → AreWhole depth rows → depth < length steps → is_entry steps ≡ true → has_row rows steps ≡ false → AreApart steps rows
unfolding AreWhole
apart_whole depth steps rows whole long entry none = apart_exists steps rows (by (exists rows steps) refl)
  where
    by : (b : Bool) → exists rows steps ≡ b → b ≡ false
    by false e = refl
    by true e = let some : has_row rows steps ≡ true = whole steps long entry e in cc

-- a path at which no row stands is not counted
pub count_none : (rows : List Row) (steps : List Step) → has_row rows steps ≡ false → count_of rows steps ≡ 0
count_none [] steps none = refl
count_none (row ∷ rows) steps none = by (is_same_path row.path.steps steps) none (count_none rows steps)
  where
    by : (b : Bool) → (b || has_row rows steps) ≡ false → (has_row rows steps ≡ false → count_of rows steps ≡ 0) →
        length (cond b (row ∷ filter (λ row. is_same_path row.path.steps steps) rows) (filter (λ row. is_same_path row.path.steps steps) rows)) ≡ 0
    by true e more = absurd (cc e)
    by false e more = more e

-- with more that is known
pub tallied_weaker : (known more rows : List Row) → IsTallied known rows → ((steps : List Step) → has_row known steps ≡ true → has_row more steps ≡ true) → IsTallied more rows
unfolding IsTallied
tallied_weaker known more rows all keeps = λ steps entry. by steps (all steps entry) (has_row known steps) refl
  where
    by : (steps : List Step) → count_of rows steps ≤ cond (has_row known steps) 1 0 → (b : Bool) → has_row known steps ≡ b → count_of rows steps ≤ cond (has_row more steps) 1 0
    by steps most true e = subst (λ b. count_of rows steps ≤ cond b 1 0) (e ∙ sym (keeps steps e)) most
    by steps most false e = let none : count_of rows steps ≤ 0 = subst (λ b. count_of rows steps ≤ cond b 1 0) e most in omega (arith, none)
