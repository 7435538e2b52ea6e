-- Rows of which no two have one path: where that is so of those at and below a node, and of all others.
use Rattle.std.proofs.Common.{◌≡◌, ◌≢◌, Bool, true, false, cond, not, List, [], ◌∷◌, Some, None, refl, ap, subst}
use Rattle.std.specs.Prelude.{slice_get}
use Rattle.std.specs.List.{All, filter, starts_with}
use Rattle.std.proofs.lemmas.List.Elements.{All-cons, All-head, All-nil, All-tail}
use Rattle.nc_names.specs.Same.{is_at_or_below, is_same_step}
use Rattle.nc_names.specs.declared.path.Row.{Row}
use Rattle.nc_names.specs.declared.path.Step.{Step}
use Rattle.nc_schema.specs.Standing.{block_at}
use Rattle.nc_branches.specs.Branches.{without_block}
use Rattle.nc_branches.specs.Singles.{AreSingle}
use Rattle.nc_changes.specs.Apart.{AreApart}

pub single_apart : (rows : List Row) → AreSingle rows → AreApart rows
unfolding AreSingle
single_apart [] single = tt
single_apart (row ∷ rows) single = (single.0, single_apart rows single.1)

pub none_apart : (rows : List Row) → slice_get rows 0 ≡ None → AreApart rows
none_apart [] none = tt
none_apart (row ∷ rows) none = let clash : Some row ≡ None = none in absurd (cc clash)

-- the other row has another path
abbrev IsOff : Row → (Row → Type 0)
IsOff row = λ (other : Row). row.path.steps ≢ other.path.steps

-- a test passes both of two rows at one path, or neither
abbrev IsOfPath : (Row → Bool) → Type 0
IsOfPath p = (one two : Row) → one.path.steps ≡ two.path.steps → p one ≡ p two

-- ---- beside a row that passes: those that do not pass have other paths anyhow
off_next : (p : Row → Bool) → IsOfPath p → (row first : Row) (rows : List Row) → p row ≡ true →
    (All (IsOff row) (filter p rows) → All (IsOff row) rows) →
    All (IsOff row) (filter p (first ∷ rows)) → All (IsOff row) (first ∷ rows)
off_next p same row first rows passes more others = by (p first) refl
  where
    P : Row → Type 0
    P = IsOff row

    by : (b : Bool) → p first ≡ b → All P (first ∷ rows)
    by true e =
        let now : All P (first ∷ filter p rows) =
        subst (λ b. All P (cond b (first ∷ filter p rows) (filter p rows))) e others in
        All-cons P first rows (All-head P first (filter p rows) now) (more (All-tail P first (filter p rows) now))
    by false e =
        let now : All P (filter p rows) = subst (λ b. All P (cond b (first ∷ filter p rows) (filter p rows))) e others in
        All-cons P first rows
        (λ path. let equal : p row ≡ p first = same row first path in absurd (cc (equal, passes, e))) (more now)

all_off : (p : Row → Bool) → IsOfPath p → (row : Row) (rows : List Row) → p row ≡ true →
    All (IsOff row) (filter p rows) → All (IsOff row) rows
all_off p same row [] passes others = All-nil (IsOff row)
all_off p same row (first ∷ rows) passes others =
    off_next p same row first rows passes (all_off p same row rows passes) others

-- ---- both parts
joined_next : (p : Row → Bool) → IsOfPath p → (row : Row) (rows : List Row) →
    (AreApart (filter p rows) → AreApart (filter (λ (r : Row). not (p r)) rows) → AreApart rows) →
    AreApart (filter p (row ∷ rows)) → AreApart (filter (λ (r : Row). not (p r)) (row ∷ rows)) →
    AreApart (row ∷ rows)
joined_next p same row rows more here rest = by (p row) refl
  where
    q : Row → Bool
    q = λ (r : Row). not (p r)

    by : (b : Bool) → p row ≡ b → AreApart (row ∷ rows)
    by true e =
        let in_it : AreApart (row ∷ filter p rows) =
        subst (λ b. AreApart (cond b (row ∷ filter p rows) (filter p rows))) e here in
        let beside : AreApart (filter q rows) =
        subst (λ b. AreApart (cond (not b) (row ∷ filter q rows) (filter q rows))) e rest in
        (all_off p same row rows e in_it.0, more in_it.1 beside)
    by false e =
        let in_it : AreApart (filter p rows) =
        subst (λ b. AreApart (cond b (row ∷ filter p rows) (filter p rows))) e here in
        let beside : AreApart (row ∷ filter q rows) =
        subst (λ b. AreApart (cond (not b) (row ∷ filter q rows) (filter q rows))) e rest in
        (all_off q (λ one two path. ap not (same one two path)) row rows (ap not e) beside.0, more in_it beside.1)

joined : (p : Row → Bool) → IsOfPath p → (rows : List Row) → AreApart (filter p rows) →
    AreApart (filter (λ (r : Row). not (p r)) rows) → AreApart rows
joined p same [] here rest = tt
joined p same (row ∷ rows) here rest = joined_next p same row rows (joined p same rows) here rest

pub joined_apart : (rows : List Row) (steps : List Step) → AreApart (block_at rows steps) →
    AreApart (without_block rows steps) → AreApart rows
joined_apart rows steps here rest =
    joined (λ (row : Row). is_at_or_below steps row.path)
    (λ one two path. ap (λ (own : List Step). starts_with is_same_step own steps) path) rows here rest
