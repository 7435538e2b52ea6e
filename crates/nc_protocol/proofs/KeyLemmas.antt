-- Rows of keys behind their entry, and what stays where rows are left out.
use Rattle.std.proofs.Common.{◌≡◌, ◌≢◌, ◌⊎◌, ℕ, suc, Bool, true, false, cond, List, [], ◌∷◌, ◌++◌, refl, sym, ap, subst, ◌∙◌, inl, inr, arith, ◌<◌, ◌+◌, ◌==◌, slice_index_or, ◌≤◌, zero, length}
use Rattle.std.proofs.lemmas.Bool.Decides.{Decides-eqb}
use Rattle.std.proofs.lemmas.List.{append_assoc, append_cancel_left}
use Rattle.std.proofs.lemmas.List.Elements.{filter-append, All-filter}
use Rattle.std.specs.List.{All, AllPairs, Contains, filter}
use Rattle.std.specs.Prelude.{Some, Option}
use Rattle.std.proofs.lemmas.Map.Made.{Contains-tail}
use Rattle.nc_names.specs.declared.path.Row.{Row}
use Rattle.nc_names.specs.declared.path.Step.{Step}
use Rattle.nc_schema.specs.declared.node.Kind.TheVariants.{List as ListKind}
use Rattle.nc_schema.specs.declared.node.Node.{Node}
use Rattle.nc_schema.specs.Configuration.{LeadsTo, IsAtOrBelow, StandTogether, KeysFollow, key_rows}
use Rattle.nc_schema.specs.Order.{sibling_place, StepBefore, StepsBefore}
use Rattle.nc_schema.specs.Paths.{IsStepIn, LeadDown}
use Rattle.nc_schema.specs.Tables.{Tables}
use Rattle.nc_protocol.proofs.ListLemmas.{heads_same, tails_same, no_element, split, contains_behind, all_cons, pairs_cons, contains_here}
use Rattle.nc_protocol.proofs.PathViews.{node_after}
use Rattle.nc_protocol.proofs.Parts.{all_at, all_from, IsPartOf, part_contains, part_of_part, part_without_first, pair_at, pairs_from}
use Rattle.nc_protocol.proofs.PlaceLemmas.{step_irreflexive}

pub filter_takes : {X : Type 0} (t : X → Bool) (x : X) (xs : List X) → t x ≡ true → filter t (x ∷ xs) ≡ x ∷ filter t xs
filter_takes t x xs e = ap (λ b. cond b (x ∷ filter t xs) (filter t xs)) e

pub filter_leaves : {X : Type 0} (t : X → Bool) (x : X) (xs : List X) → t x ≡ false → filter t (x ∷ xs) ≡ filter t xs
filter_leaves t x xs e = ap (λ b. cond b (x ∷ filter t xs) (filter t xs)) e

-- a filter leaves a list whole where each element passes
pub filter_whole : {X : Type 0} (t : X → Bool) (xs : List X) → ((x : X) → Contains xs x → t x ≡ true) → filter t xs ≡ xs
filter_whole t [] passes = refl
filter_whole t (x ∷ xs) passes =
    filter_takes t x xs (passes x (0, omega arith, refl)) ∙ ap (λ ys. x ∷ ys) (filter_whole t xs (λ y has. passes y (contains_behind x xs y has)))

-- it leaves nothing where none passes
pub filter_none : {X : Type 0} (t : X → Bool) (xs : List X) → ((x : X) → Contains xs x → t x ≡ false) → filter t xs ≡ []
filter_none t [] fails = refl
filter_none t (x ∷ xs) fails = filter_leaves t x xs (fails x (0, omega arith, refl)) ∙ filter_none t xs (λ y has. fails y (contains_behind x xs y has))

-- the cut of a list by which what a filter leaves of it is cut
pub record IsCutBefore {X : Type 0} (t : X → Bool) (xs before : List X) (x : X) (behind : List X) : Type 0 where
  pub front : List X
  pub rest : List X
  pub whole : xs ≡ front ++ x ∷ rest
  pub passes : t x ≡ true
  pub in_front : before ≡ filter t front
  pub in_rest : behind ≡ filter t rest

pub filter_cut : {X : Type 0} (t : X → Bool) (xs before behind : List X) (x : X) → filter t xs ≡ before ++ x ∷ behind → IsCutBefore t xs before x behind
filter_cut t [] before behind x is = absurd (no_element before behind x is)
filter_cut {X} t (y ∷ ys) before behind x is = by (t y) refl before is (filter_cut t ys)
  where
    by : (b : Bool) → t y ≡ b → (before : List X) → cond b (y ∷ filter t ys) (filter t ys) ≡ before ++ x ∷ behind →
        ((before behind : List X) (x : X) → filter t ys ≡ before ++ x ∷ behind → IsCutBefore t ys before x behind) → IsCutBefore t (y ∷ ys) before x behind
    by true e [] is more =
        let same = heads_same y x (filter t ys) behind is in
        record { front = []; rest = ys; whole = λ i. same i ∷ ys; passes = sym (ap t same) ∙ e; in_front = refl; in_rest = sym (tails_same y x (filter t ys) behind is) }
    by true e (z ∷ before) is more =
        let cut = more before behind x (tails_same y z (filter t ys) (before ++ x ∷ behind) is) in
        record {
          front = y ∷ cut.front;
          rest = cut.rest;
          whole = λ i. y ∷ cut.whole i;
          passes = cut.passes;
          in_front = (λ i. sym (heads_same y z (filter t ys) (before ++ x ∷ behind) is) i ∷ cut.in_front i) ∙ sym (filter_takes t y cut.front e);
          in_rest = cut.in_rest;
        }
    by false e before is more =
        let cut = more before behind x is in
        record {
          front = y ∷ cut.front;
          rest = cut.rest;
          whole = λ i. y ∷ cut.whole i;
          passes = cut.passes;
          in_front = cut.in_front ∙ sym (filter_leaves t y cut.front e);
          in_rest = cut.in_rest;
        }

-- a filter that keeps the key rows of each entry that it keeps leaves them behind their entry
pub keys_follow_filter : (tables : Tables) (rows : List Row) (test : Row → Bool) →
    KeysFollow tables rows →
    ((row : Row) (above : List Step) (step : Step) (node : Node) (key : Row) → Contains rows row → LeadsTo tables above step node row → node.kind ≡ ListKind →
    Contains (key_rows row.path.steps node.keys step.keys) key → test row ≡ true → test key ≡ true) →
    KeysFollow tables (filter test rows)
keys_follow_filter tables rows test follow keep before after row above step node is leads list =
    by (follow cut.front cut.rest row above step node cut.whole leads list)
  where
    cut : IsCutBefore test rows before row after
    cut = filter_cut test rows before after row is

    has : Contains rows row
    has = subst (λ (all : List Row). Contains all row) (sym cut.whole) (contains_here cut.front cut.rest row)

    keys : List Row
    keys = key_rows row.path.steps node.keys step.keys

    kept : filter test keys ≡ keys
    kept = filter_whole test keys (λ key here. keep row above step node key has leads list here cut.passes)

    by : (rest : List Row) × (cut.rest ≡ keys ++ rest) → (rest : List Row) × (after ≡ keys ++ rest)
    by (rest, behind) =
        (filter test rest, cut.in_rest ∙ ap (filter test) behind ∙ filter-append test keys rest ∙ ap (λ front. front ++ filter test rest) kept)

-- rows behind others
pub keys_follow_append : (tables : Tables) (xs ys : List Row) → KeysFollow tables xs → KeysFollow tables ys → KeysFollow tables (xs ++ ys)
keys_follow_append tables xs ys follow follows before after row above step node is leads list = by (split xs ys before after row is)
  where
    keys : List Row
    keys = key_rows row.path.steps node.keys step.keys

    behind : (more : List Row) → xs ≡ before ++ row ∷ more → after ≡ more ++ ys
    behind more front =
        let whole : before ++ row ∷ after ≡ before ++ (row ∷ (more ++ ys)) = sym is ∙ ap (λ list. list ++ ys) front ∙ append_assoc before (row ∷ more) ys in
        tails_same row row after (more ++ ys) (append_cancel_left before (row ∷ after) (row ∷ (more ++ ys)) whole)

    with_more : (more rest : List Row) → after ≡ more ++ ys → more ≡ keys ++ rest → (left : List Row) × (after ≡ keys ++ left)
    with_more more rest is keys_first = (rest ++ ys, is ∙ ap (λ list. list ++ ys) keys_first ∙ append_assoc keys rest ys)

    by : (((more : List Row) × (xs ≡ before ++ row ∷ more)) ⊎ ((more : List Row) × (before ≡ xs ++ more) × (ys ≡ more ++ row ∷ after)))
        → (rest : List Row) × (after ≡ keys ++ rest)
    by (inl (more, front)) = let found = follow before more row above step node front leads list in with_more more found.0 (behind more front) found.1
    by (inr (more, front, rest)) = follows more after row above step node rest leads list

-- what stands together in a list does so where some rows are left out
pub together_filter : (rows : List Row) (test : Row → Bool) → StandTogether rows → StandTogether (filter test rows)
together_filter rows test together first between last row other steps is below beside =
    let cut = filter_cut test rows (first ++ row ∷ between) last other is in
    let inner = filter_cut test cut.front first between row (sym cut.in_front) in
    let whole : rows ≡ inner.front ++ row ∷ inner.rest ++ other ∷ cut.rest = cut.whole ∙ ap (λ list. list ++ other ∷ cut.rest) inner.whole in
    let all = together inner.front inner.rest cut.rest row other steps whole below beside in
    subst (All (λ (inside : Row). IsAtOrBelow steps inside.path)) (sym inner.in_rest) (All-filter test (λ (inside : Row). IsAtOrBelow steps inside.path) inner.rest all)

-- the row of a key
abbrev pub key_row : List Step → ℕ → List ℕ → Row
key_row entry number value = record { path = record { steps = entry ++ record { node = number; keys = [] } ∷ [] }; value = Some value }

-- what holds of the row of each key holds of the key rows
pub all_keys : (Q : ℕ → Type 0) (P : Row → Type 0) (entry : List Step) (keys : List ℕ) (values : List (List ℕ)) →
    ((number : ℕ) (value : List ℕ) → Q number → P (key_row entry number value)) → All Q keys → All P (key_rows entry keys values)
all_keys Q P entry [] values each all = λ k d within. absurd (omega (arith, within))
all_keys Q P entry (key ∷ keys) [] each all = λ k d within. absurd (omega (arith, within))
all_keys Q P entry (key ∷ keys) (value ∷ values) each all =
    all_cons P (key_row entry key value) (key_rows entry keys values) (each key value (all 0 key (omega arith)))
    (all_keys Q P entry keys values each (λ k d within. all (suc k) d (omega (arith, within))))

pub pairs_keys : (Q : ℕ → ℕ → Type 0) (R : Row → Row → Type 0) (entry : List Step) (keys : List ℕ) (values : List (List ℕ)) →
    ((number later : ℕ) (value other : List ℕ) → Q number later → R (key_row entry number value) (key_row entry later other)) →
    AllPairs Q keys → AllPairs R (key_rows entry keys values)
pairs_keys Q R entry [] values each pairs = λ i j d less within. absurd (omega (arith, within))
pairs_keys Q R entry (key ∷ keys) [] each pairs = λ i j d less within. absurd (omega (arith, within))
pairs_keys Q R entry (key ∷ keys) (value ∷ values) each pairs =
    pairs_cons R (key_row entry key value) (key_rows entry keys values)
    (all_keys (Q key) (R (key_row entry key value)) entry keys values (λ later other q. each key later value other q)
    (λ k d within. pairs 0 (suc k) d (omega arith) (omega (arith, within))))
    (pairs_keys Q R entry keys values each (λ i j d less within. pairs (suc i) (suc j) d (omega (arith, less)) (omega (arith, within))))

-- a key row is that of a key
pub record IsKeyRow (entry : List Step) (keys : List ℕ) (key : Row) : Type 0 where
  pub number : ℕ
  pub value : List ℕ
  pub has : Contains keys number
  pub is : key ≡ key_row entry number value

pub key_row_of : (entry : List Step) (keys : List ℕ) (values : List (List ℕ)) (key : Row) → Contains (key_rows entry keys values) key → IsKeyRow entry keys key
key_row_of entry keys values key has =
    all_at (IsKeyRow entry keys) (key_rows entry keys values) key
    (all_keys (Contains keys) (IsKeyRow entry keys) entry keys values (λ number value here. record { number = number; value = value; has = here; is = refl })
    (all_from (Contains keys) keys (λ number here. here))) has

-- a key row leads from its entry to a key leaf of the list
pub key_row_is : (entry : List Step) (keys : List ℕ) (values : List (List ℕ)) (key : Row) →
    Contains (key_rows entry keys values) key → (number : ℕ) × Contains keys number × (key.path.steps ≡ entry ++ record { node = number; keys = [] } ∷ [])
key_row_is entry keys values key has =
    let found = key_row_of entry keys values key has in (found.number, found.has, (λ i. (found.is i).path.steps))

-- what is below a node that is at or below the steps
pub below_further : (steps path more : List Step) (rest : List Step) → path ≡ steps ++ rest → path ++ more ≡ steps ++ (rest ++ more)
below_further steps path more rest is = ap (λ list. list ++ more) is ∙ append_assoc steps rest more

-- steps lead one step further
pub down_more : (tables : Tables) (top : Option ℕ) (above : List Step) (step : Step) →
    LeadDown tables top above → IsStepIn tables (node_after top above) step → LeadDown tables top (above ++ step ∷ [])
down_more tables top [] step down in_it = (in_it, tt)
down_more tables top (over ∷ above) step down in_it = (down.0, down_more tables (Some over.node) above step down.1 in_it)

-- what is below a node is not before it
pub below_not_before : (tables : Tables) (at : Option ℕ) (steps more : List Step) → ¬ StepsBefore tables at (steps ++ more) steps
below_not_before tables at [] [] before = before
below_not_before tables at [] (next ∷ more) before = before
below_not_before tables at (step ∷ steps) more (inl before) = step_irreflexive tables at step before
below_not_before tables at (step ∷ steps) more (inr (same, before)) = below_not_before tables (Some step.node) steps more before

-- of two paths that differ in the last step
pub last_before : (tables : Tables) (above : List Step) (step one other : Step) (at : Option ℕ) →
    StepsBefore tables at (above ++ step ∷ [] ++ one ∷ []) (above ++ step ∷ [] ++ other ∷ []) → StepBefore tables (Some step.node) one other
last_before tables [] step one other at (inl before) = absurd (step_irreflexive tables at step before)
last_before tables [] step one other at (inr (same, inl before)) = before
last_before tables [] step one other at (inr (same, inr (again, before))) = absurd before
last_before tables (over ∷ above) step one other at (inl before) = absurd (step_irreflexive tables at over before)
last_before tables (over ∷ above) step one other at (inr (same, before)) = last_before tables above step one other (Some over.node) before

place_first : (key : ℕ) (keys : List ℕ) → sibling_place (key ∷ keys) key ≡ 0
place_first key keys = ap (λ b. cond b 0 (sibling_place keys key + 1)) ((Decides-eqb key key).1 refl)

place_later : (key : ℕ) (keys : List ℕ) (number : ℕ) → key ≢ number → sibling_place (key ∷ keys) number ≡ sibling_place keys number + 1
place_later key keys number other = by (number == key) refl
  where
    by : (b : Bool) → (number == key) ≡ b → cond b 0 (sibling_place keys number + 1) ≡ sibling_place keys number + 1
    by true e = absurd (other (sym ((Decides-eqb number key).0 e)))
    by false e = refl

-- keys stand in the order of their places
pub keys_rise : (keys : List ℕ) → AllPairs (λ key later. key ≢ later) keys → AllPairs (λ key later. sibling_place keys key < sibling_place keys later) keys
keys_rise [] apart = λ i j d less within. absurd (omega (arith, within))
keys_rise (key ∷ keys) apart =
    pairs_cons (λ one later. sibling_place (key ∷ keys) one < sibling_place (key ∷ keys) later) key keys
    (λ k d within. omega (arith, place_first key keys, place_later key keys (slice_index_or keys k d) (others k d within)))
    (pairs_from (λ one later. sibling_place (key ∷ keys) one < sibling_place (key ∷ keys) later) keys
    (rest (keys_rise keys (λ i j d smaller within. apart (suc i) (suc j) d (omega (arith, smaller)) (omega (arith, within))))))
  where
    others : All (λ number. key ≢ number) keys
    others k d within = apart 0 (suc k) d (omega arith) (omega (arith, within))

    rest : AllPairs (λ one later. sibling_place keys one < sibling_place keys later) keys →
        (one later : ℕ) → IsPartOf (one ∷ later ∷ []) keys → sibling_place (key ∷ keys) one < sibling_place (key ∷ keys) later
    rest rise one later part =
        let first = part_contains one keys (part_of_part (one ∷ []) (one ∷ later ∷ []) keys (inl (refl, tt)) part) in
        let second = part_contains later keys (part_without_first one (later ∷ []) keys part) in
        let less = pair_at (λ one later. sibling_place keys one < sibling_place keys later) keys one later rise part in
        omega (
          arith,
          less,
          place_later key keys one (all_at (λ number. key ≢ number) keys one others first),
          place_later key keys later (all_at (λ number. key ≢ number) keys later others second),
        )

-- a number is in a list or it is not
pub listed : (number : ℕ) (numbers : List ℕ) → Contains numbers number ⊎ ¬ Contains numbers number
listed number [] = inr (λ has. omega (arith, has.1))
listed number (other ∷ numbers) = by (other == number) refl (listed number numbers)
  where
    by : (b : Bool) → (other == number) ≡ b → Contains numbers number ⊎ ¬ Contains numbers number → Contains (other ∷ numbers) number ⊎ ¬ Contains (other ∷ numbers) number
    by true e rest = inl (0, omega arith, (Decides-eqb other number).0 e)
    by false e (inl has) = inl (contains_behind other numbers number has)
    by false e (inr hasnt) = inr never
      where
        never : ¬ Contains (other ∷ numbers) number
        never (zero, within, here) = let is = (Decides-eqb other number).1 here in let clash : true ≡ false = sym is ∙ e in cc
        never (suc k, within, here) = hasnt (k, omega (arith, within), here)

-- keys stand before what is none
pub place_of_key : (keys : List ℕ) (key : ℕ) → Contains keys key → sibling_place keys key < length keys
place_of_key [] key has = absurd (omega (arith, has.1))
place_of_key (first ∷ keys) key has = by (key == first) refl (place_of_key keys key)
  where
    by : (b : Bool) → (key == first) ≡ b → (Contains keys key → sibling_place keys key < length keys) → cond b 0 (sibling_place keys key + 1) < length (first ∷ keys)
    by true e further = omega arith
    by false e further =
        let differ : ¬ (key ≡ first) = λ same. let is = (Decides-eqb key first).1 same in let clash : true ≡ false = sym is ∙ e in cc in
        omega (arith, further (Contains-tail first keys key (λ same. differ (sym same)) has))

pub place_of_other : (keys : List ℕ) (number : ℕ) → ¬ Contains keys number → length keys ≤ sibling_place keys number
place_of_other [] number hasnt = omega arith
place_of_other (first ∷ keys) number hasnt =
    by (number == first) refl (place_of_other keys number (λ has. hasnt (contains_behind first keys number has)))
  where
    by : (b : Bool) → (number == first) ≡ b → length keys ≤ sibling_place keys number → length (first ∷ keys) ≤ cond b 0 (sibling_place keys number + 1)
    by true e further = absurd (hasnt (0, omega arith, sym ((Decides-eqb number first).0 e)))
    by false e further = omega (arith, further)
