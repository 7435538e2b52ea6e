-- Rows of which no two have one mark, and what of them is updated.
use Rattle.std.proofs.Common.{◌≡◌, ◌≢◌, ◌&&◌, ◌||◌, ◌==◌, ◌<◌, ◌≤◌, ◌+◌, ◌∙◌, ℕ, Bool, true, false, cond, not, eqb, List, [], ◌∷◌, ◌++◌, Option, Some, None, length, get_or, take, refl, sym, ap, subst, Bor, arith}
use Rattle.std.specs.BTreeSet.{BTreeSet, contains}
use Rattle.std.specs.List.{All, cons_option, filter, filter_map, last_or, list_any}
use Rattle.std.specs.Option.{option_map_or}
use Rattle.std.specs.Ordering.{is_eq, nat_cmp}
use Rattle.std.proofs.lemmas.Bool.Decides.{Decides-eqb, nat_tests}
use Rattle.std.proofs.lemmas.List.{append_assoc, append-nil, take_all}
use Rattle.std.proofs.lemmas.List.Elements.{All-cons, All-head, All-nil, All-push, All-tail, filter-append, filter_map-append}
use Rattle.std.proofs.lemmas.List.Folds.{list_any-append}
use Rattle.nc_names.proofs.SameLemmas.{keys_decide, value_decide}
use Rattle.nc_names.proofs.StepOrder.{same_itself, same_path}
use Rattle.nc_names.specs.Same.{is_same_path, is_same_step, is_same_value}
use Rattle.nc_names.specs.declared.path.Row.{Row}
use Rattle.nc_names.specs.declared.path.Step.{Step}
use Rattle.nc_schema.specs.Blocks.{above_last, entries_beside, row_at}
use Rattle.nc_schema.specs.Standing.{entries, is_by_user, keys_in}
use Rattle.nc_schema.specs.Tables.{Tables}
use Rattle.nc_protocol.specs.Changes.{entries_among, entry_above, has_moved, is_same_entry, is_updated, moves_between}
use Rattle.nc_changes.specs.inner.Asked.{AreAsked, asked_apart, is_ordered, is_placed}
use Rattle.nc_changes.specs.inner.Common.{rows_of}
use Rattle.nc_changes.specs.Apart.{AreApart}
use Rattle.nc_changes.specs.inner.Marks.{HasMarks, mark_of}
use Rattle.nc_changes.proofs.AskedLemmas.{rows_more, unmoved}

-- ---- marks
turned : (a b : Bool) → cond a true b ≡ (b || (a || false))
turned true true = refl
turned true false = refl
turned false true = refl
turned false false = refl

is_equal : (a b : ℕ) → is_eq (nat_cmp a b) ≡ eqb a b
is_equal a b = grind (arith, nat_tests)

pub mark_added : (before now : BTreeSet ℕ) (mark : ℕ) (rows : List Row) (row : Row) →
    ((key : ℕ) → contains nat_cmp now key ≡ cond (is_eq (nat_cmp mark key)) true (contains nat_cmp before key)) →
    mark ≡ mark_of row.path.steps → HasMarks before rows → HasMarks now (rows ++ row ∷ [])
mark_added before now mark rows row put is has key =
    put key ∙ turned (is_eq (nat_cmp mark key)) (contains nat_cmp before key)
    ∙ ap (λ b. b || (is_eq (nat_cmp mark key) || false)) (has key)
    ∙ ap (λ b. list_any (λ (other : Row). mark_of other.path.steps == key) rows || (b || false)) (is_equal mark key ∙ ap (λ n. eqb n key) is)
    ∙ sym (list_any-append (λ (other : Row). mark_of other.path.steps == key) rows (row ∷ []))

-- the row has another path than others
abbrev IsOther : Row → Row → Type 0
IsOther row other = other.path.steps ≢ row.path.steps

other_mark : (mark : ℕ) (row first : Row) → mark ≡ mark_of row.path.steps → (mark_of first.path.steps == mark) ≡ false → IsOther row first
other_mark mark row first is differ same =
    let equal : (mark_of first.path.steps == mark) ≡ true = (Decides-eqb (mark_of first.path.steps) mark).1 (ap mark_of same ∙ sym is) in
    absurd (cc (equal, differ))

first_false : (a b : Bool) → (a || b) ≡ false → a ≡ false
first_false true b e = e
first_false false b e = refl

second_false : (a b : Bool) → (a || b) ≡ false → b ≡ false
second_false true b e = absurd (cc e)
second_false false b e = e

no_mark : (mark : ℕ) (rows : List Row) (row : Row) → mark ≡ mark_of row.path.steps → list_any (λ (other : Row). mark_of other.path.steps == mark) rows ≡ false → All (IsOther row) rows
no_mark mark [] row is none = All-nil (IsOther row)
no_mark mark (first ∷ rows) row is none =
    let more : Bool = list_any (λ (other : Row). mark_of other.path.steps == mark) rows in
    All-cons (IsOther row) first rows (other_mark mark row first is (first_false (mark_of first.path.steps == mark) more none))
    (no_mark mark rows row is (second_false (mark_of first.path.steps == mark) more none))

apart_push : (rows : List Row) (row : Row) → AreApart rows → All (IsOther row) rows → AreApart (rows ++ row ∷ [])
apart_push [] row apart none = (All-nil (λ (other : Row). row.path.steps ≢ other.path.steps), tt)
apart_push (first ∷ rows) row apart none = (
  All-push (λ (other : Row). first.path.steps ≢ other.path.steps) rows row apart.0 (All-head (IsOther row) first rows none),
  apart_push rows row apart.1 (All-tail (IsOther row) first rows none),
)

pub one_more_apart : (rows : List (Bor Row)) (at : ℕ) (row : Bor Row) (mark : ℕ) (before now : BTreeSet ℕ) → at < length rows → row ≡ get_or rows at row →
    mark ≡ mark_of row.now.path.steps → contains nat_cmp before mark ≡ false →
    ((list : List Row) (one : Row) → mark ≡ mark_of one.path.steps → HasMarks before list → HasMarks now (list ++ one ∷ [])) →
    HasMarks before (rows_of (take at rows)) × AreApart (rows_of (take at rows)) →
    HasMarks now (rows_of (take (at + 1) rows)) × AreApart (rows_of (take (at + 1) rows))
one_more_apart rows at row mark before now within is marks fresh grows (has, apart) =
    let next : rows_of (take at rows) ++ row.now ∷ [] ≡ rows_of (take (at + 1) rows) = rows_more rows at row within is in (
      subst (HasMarks now) next (grows (rows_of (take at rows)) row.now marks has),
      subst AreApart next (apart_push (rows_of (take at rows)) row.now apart (no_mark mark (rows_of (take at rows)) row.now marks (sym (has mark) ∙ fresh))),
    )

pub all_apart : (rows : List (Bor Row)) (at : ℕ) → length rows ≤ at → AreApart (rows_of (take at rows)) → AreApart (rows_of rows)
all_apart rows at past = subst (λ (list : List (Bor Row)). AreApart (rows_of list)) (take_all at rows past)

-- ---- a row that stands once
apart_from : (steps : List Step) (before after : List Row) (row : Row) → All (λ (other : Row). steps ≢ other.path.steps) (before ++ row ∷ after) → steps ≢ row.path.steps
apart_from steps [] after row none = All-head (λ (other : Row). steps ≢ other.path.steps) row after none
apart_from steps (first ∷ before) after row none =
    apart_from steps before after row (All-tail (λ (other : Row). steps ≢ other.path.steps) first (before ++ row ∷ after) none)

passed : (first row : Row) (found : Option Row) → first.path.steps ≢ row.path.steps → cond (is_same_path first.path.steps row.path.steps) (Some first) found ≡ found
passed first row found differ = by (is_same_path first.path.steps row.path.steps) refl
  where
    by : (b : Bool) → is_same_path first.path.steps row.path.steps ≡ b → cond b (Some first) found ≡ found
    by true e = absurd (differ (same_path first.path.steps row.path.steps e))
    by false e = refl

pub found_once : (before after : List Row) (row : Row) → AreApart (before ++ row ∷ after) → row_at (before ++ row ∷ after) row.path.steps ≡ Some row
found_once [] after row apart = ap (λ b. cond b (Some row) (row_at after row.path.steps)) (same_itself row.path.steps row.path.steps refl)
found_once (first ∷ before) after row apart =
    passed first row (row_at (before ++ row ∷ after) row.path.steps) (apart_from first.path.steps before after row apart.0) ∙ found_once before after row apart.1

-- it is updated where it has moved alone
updated_once : (tables : Tables) (old new before after : List Row) (row : Row) → old ≡ before ++ row ∷ after → AreApart old →
    is_updated tables old new row ≡ has_moved tables old new row.path.steps
updated_once tables old new before after row cut apart =
    ap (λ (stood : Option Row). option_map_or (λ (one : Row). not (is_same_value one.value row.value) || has_moved tables old new row.path.steps) stood false)
    (ap (λ (rows : List Row). row_at rows row.path.steps) cut ∙ found_once before after row (subst AreApart cut apart))
    ∙ ap (λ b. not b || has_moved tables old new row.path.steps) ((value_decide row.value row.value).1 refl)

-- ---- what is updated of rows that stood
-- only entries that the user orders
one_ordered : (tables : Tables) (old new : List Row) (row : Row) (kept rows : List Row) → (is_placed tables row ≡ false → is_updated tables old new row ≡ false) →
    filter (is_updated tables old new) kept ≡ rows →
    filter (is_updated tables old new) (cond (is_placed tables row) (row ∷ kept) kept) ≡ cond (is_updated tables old new row) (row ∷ rows) rows
one_ordered tables old new row kept rows alone more = by (is_placed tables row) refl
  where
    by : (b : Bool) → is_placed tables row ≡ b → filter (is_updated tables old new) (cond b (row ∷ kept) kept) ≡ cond (is_updated tables old new row) (row ∷ rows) rows
    by true e = ap (λ (list : List Row). cond (is_updated tables old new row) (row ∷ list) list) more
    by false e = more ∙ ap (λ b. cond b (row ∷ rows) rows) (sym (alone e))

kept_ordered : (tables : Tables) (old new before rows after : List Row) → old ≡ before ++ (rows ++ after) → AreApart old →
    filter (is_updated tables old new) (filter (is_placed tables) rows) ≡ filter (is_updated tables old new) rows
kept_ordered tables old new before [] after cut apart = refl
kept_ordered tables old new before (row ∷ rows) after cut apart =
    one_ordered tables old new row (filter (is_placed tables) rows) (filter (is_updated tables old new) rows)
    (λ e. updated_once tables old new before (rows ++ after) row cut apart ∙ unmoved tables old new row.path.steps e)
    (kept_ordered tables old new (before ++ row ∷ []) rows after (cut ∙ sym (append_assoc before (row ∷ []) (rows ++ after))) apart)

-- none, where nothing has moved
kept_none : (tables : Tables) (old new before rows after : List Row) → old ≡ before ++ (rows ++ after) → AreApart old →
    ((steps : List Step) → has_moved tables old new steps ≡ false) → filter (is_updated tables old new) rows ≡ []
kept_none tables old new before [] after cut apart still = refl
kept_none tables old new before (row ∷ rows) after cut apart still =
    ap (λ b. cond b (row ∷ filter (is_updated tables old new) rows) (filter (is_updated tables old new) rows))
    (updated_once tables old new before (rows ++ after) row cut apart ∙ still row.path.steps)
    ∙ kept_none tables old new (before ++ row ∷ []) rows after (cut ∙ sym (append_assoc before (row ∷ []) (rows ++ after))) apart still

-- ---- where no entry that the user orders comes or goes, none has moved
either : (b : Bool) (keys : Option (List (List ℕ))) → keys ≡ None → cond b keys None ≡ None
either true keys none = none
either false keys none = refl

own_keys : (tables : Tables) (number : ℕ) (step : Step) → is_by_user tables number ≡ true → is_by_user tables step.node ≡ false → cond (step.node == number) (Some step.keys) None ≡ None
own_keys tables number step by_user none = by (step.node == number) refl
  where
    by : (b : Bool) → (step.node == number) ≡ b → cond b (Some step.keys) None ≡ None
    by false e = refl
    by true e =
        let user : is_by_user tables step.node ≡ true = ap (is_by_user tables) ((Decides-eqb step.node number).0 e) ∙ by_user in
        absurd (cc (user, none))

no_keys : (tables : Tables) (above : List Step) (number : ℕ) (steps : List Step) → is_by_user tables number ≡ true → is_ordered tables steps ≡ false →
    keys_in above number steps ≡ None
no_keys tables [] number [] by_user none = refl
no_keys tables [] number (step ∷ next ∷ rest) by_user none = refl
no_keys tables [] number (step ∷ []) by_user none = own_keys tables number step by_user none
no_keys tables (over ∷ above) number [] by_user none = refl
no_keys tables (over ∷ []) number (step ∷ []) by_user none = either (is_same_step over step) None refl
no_keys tables (over ∷ one ∷ above) number (step ∷ []) by_user none = either (is_same_step over step) None refl
no_keys tables (over ∷ above) number (step ∷ next ∷ rest) by_user none =
    either (is_same_step over step) (keys_in above number (next ∷ rest)) (no_keys tables above number (next ∷ rest) by_user none)

no_entries : (tables : Tables) (above : List Step) (number : ℕ) (rows : List Row) → is_by_user tables number ≡ true → list_any (is_placed tables) rows ≡ false →
    entries rows above number ≡ []
no_entries tables above number [] by_user none = refl
no_entries tables above number (row ∷ rows) by_user none =
    ap (λ (keys : Option (List (List ℕ))). cons_option keys (entries rows above number))
    (no_keys tables above number row.path.steps by_user (first_false (is_placed tables row) (list_any (is_placed tables) rows) none))
    ∙ no_entries tables above number rows by_user (second_false (is_placed tables row) (list_any (is_placed tables) rows) none)

same_entries : (tables : Tables) (above : List Step) (number : ℕ) (front gone come back : List Row) → is_by_user tables number ≡ true →
    list_any (is_placed tables) gone ≡ false → list_any (is_placed tables) come ≡ false →
    entries (front ++ (gone ++ back)) above number ≡ entries (front ++ (come ++ back)) above number
same_entries tables above number front gone come back by_user one two =
    parted gone one ∙ sym (parted come two)
  where
    h : Row → Option (List (List ℕ))
    h row = keys_in above number row.path.steps

    parted : (rows : List Row) → list_any (is_placed tables) rows ≡ false → entries (front ++ (rows ++ back)) above number ≡ entries front above number ++ entries back above number
    parted rows none =
        filter_map-append h front (rows ++ back)
        ∙ ap (λ list. filter_map h front ++ list) (filter_map-append h rows back ∙ ap (λ list. list ++ filter_map h back) (no_entries tables above number rows by_user none))

same_entry : (entry : Option (List (List ℕ))) → is_same_entry entry entry ≡ true
same_entry None = refl
same_entry (Some keys) = (keys_decide keys keys).1 refl

still_there : (order : List (List (List ℕ))) (keys : List (List ℕ)) → moves_between order order keys ≡ false
still_there order keys = ap not (same_entry (entry_above keys (entries_among order order)))

nothing_moved : (tables : Tables) (front gone come back : List Row) (steps : List Step) → list_any (is_placed tables) gone ≡ false → list_any (is_placed tables) come ≡ false →
    has_moved tables (front ++ (gone ++ back)) (front ++ (come ++ back)) steps ≡ false
nothing_moved tables front gone come back steps one two = by (last_or None steps) refl
  where
    old : List Row
    old = front ++ (gone ++ back)

    new : List Row
    new = front ++ (come ++ back)

    moved : Option Step → Bool
    moved last = option_map_or (λ step. is_by_user tables step.node && moves_between (entries_beside old steps) (entries_beside new steps) step.keys) last false

    by : (last : Option Step) → last_or None steps ≡ last → moved last ≡ false
    by None e = refl
    by (Some step) e = each (is_by_user tables step.node) refl
      where
        each : (b : Bool) → is_by_user tables step.node ≡ b → (b && moves_between (entries_beside old steps) (entries_beside new steps) step.keys) ≡ false
        each false user = refl
        each true user =
            ap (λ (order : List (List (List ℕ))). moves_between order (entries_beside new steps) step.keys)
            (ap (λ (last : Option Step). option_map_or (λ one. entries old (above_last steps) one.node) last []) e
            ∙ same_entries tables (above_last steps) step.node front gone come back user one two
            ∙ ap (λ (last : Option Step). option_map_or (λ one. entries new (above_last steps) one.node) last []) (sym e))
            ∙ still_there (entries_beside new steps) step.keys

-- ---- all that is asked
pub apart_asked : (tables : Tables) (old front gone come back asked : List Row) → old ≡ front ++ (gone ++ back) → AreApart old → asked ≡ asked_apart tables front gone come back →
    AreAsked tables front gone come back asked
apart_asked tables old front gone come back asked cut apart is =
    ap (filter p) is ∙ by (list_any (is_placed tables) gone) (list_any (is_placed tables) come) refl refl
  where
    was : List Row
    was = front ++ (gone ++ back)

    now : List Row
    now = front ++ (come ++ back)

    p : Row → Bool
    p = is_updated tables was now

    once : AreApart was
    once = subst AreApart cut apart

    at_the_end : was ≡ front ++ gone ++ (back ++ [])
    at_the_end = sym (append_assoc front gone back) ∙ ap (λ (list : List Row). front ++ gone ++ list) (sym (append-nil back))

    whole : filter p now ≡ filter p front ++ (filter p come ++ filter p back)
    whole = filter-append p front (come ++ back) ∙ ap (λ (list : List Row). filter p front ++ list) (filter-append p come back)

    ordered : filter p (filter (is_placed tables) front ++ (come ++ filter (is_placed tables) back)) ≡ filter p now
    ordered =
        filter-append p (filter (is_placed tables) front) (come ++ filter (is_placed tables) back)
        ∙ ap (λ (list : List Row). list ++ filter p (come ++ filter (is_placed tables) back)) (kept_ordered tables was now [] front (gone ++ back) refl once)
        ∙ ap (λ (list : List Row). filter p front ++ list)
        (filter-append p come (filter (is_placed tables) back)
        ∙ ap (λ (list : List Row). filter p come ++ list) (kept_ordered tables was now (front ++ gone) back [] at_the_end once))
        ∙ sym whole

    by : (one two : Bool) → list_any (is_placed tables) gone ≡ one → list_any (is_placed tables) come ≡ two →
        filter p (cond (one || two) (filter (is_placed tables) front ++ (come ++ filter (is_placed tables) back)) come) ≡ filter p now
    by true two here there = ordered
    by false true here there = ordered
    by false false here there =
        sym (append-nil (filter p come))
        ∙ ap (λ (list : List Row). filter p come ++ list) (sym (kept_none tables was now (front ++ gone) back [] at_the_end once (λ steps. nothing_moved tables front gone come back steps here there)))
        ∙ ap (λ (list : List Row). list ++ (filter p come ++ filter p back)) (sym (kept_none tables was now [] front (gone ++ back) refl once (λ steps. nothing_moved tables front gone come back steps here there)))
        ∙ sym whole
