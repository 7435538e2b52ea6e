-- Sets of tuples, and the first entry that agrees with one before it.
use Rattle.std.proofs.Common.{◌≡◌, ◌&&◌, ◌||◌, ◌++◌, ◌+◌, ◌<◌, ◌≤◌, ℕ, Bool, true, false, cond, List, [], ◌∷◌, length, drop, take, get_or, refl, sym, ap, subst, ◌∙◌, arith, Bor, if◌then◌else◌}
use Rattle.std.specs.Prelude.{Option, Some, None, map}
use Rattle.std.specs.BTreeSet.{BTreeSet, contains}
use Rattle.std.specs.List.{list_any}
use Rattle.std.specs.Cmp.Lexicographic.{lists_ties, pointwise, slice_cmp}
use Rattle.std.specs.Ordering.{is_eq, nat_cmp}
use Rattle.std.proofs.lemmas.Map.Text.{is_eq-slice_cmp}
use Rattle.std.proofs.lemmas.Grind.{common_steps}
use Rattle.std.proofs.lemmas.List.{map-append, take_more}
use Rattle.std.proofs.lemmas.List.Folds.{list_any-append}
use Rattle.nc_names.specs.Same.{is_same_keys, is_same_text}
use Rattle.nc_names.specs.declared.cause.CauseKind.TheVariants.{NotUnique}
use Rattle.nc_names.specs.declared.path.Row.{Row}
use Rattle.nc_names.specs.declared.path.Step.{Step}
use Rattle.nc_defaults.specs.Within.{place_here, places_in}
use Rattle.nc_defaults.specs.declared.spots.Spot.{Spot}
use Rattle.nc_schema.specs.Places.{Place}
use Rattle.nc_schema.specs.Tables.{Tables}
use Rattle.nc_schema.specs.Violations.{agree_in, repeated}
use Rattle.nc_schema.specs.declared.violation.Violation.{Violation}
use Rattle.nc_validate.specs.inner.First.{first}
use Rattle.nc_validate.specs.inner.Tuples.{AddsTuple, AddsTuples, HasTuples, is_tuple_in, order, shares, texts, tuples_of}
use Rattle.nc_names.proofs.SameLemmas.{keys_decide}
use Rattle.nc_validate.proofs.TuplesLemmas.{agree_is, any_map, any_same, any_swap}

same_texts : (tuple other : List (Bor (List ℕ))) → pointwise (λ a b. is_same_text a.now b.now) tuple other ≡ is_same_keys (texts tuple) (texts other)
same_texts [] [] = refl
same_texts [] (b ∷ other) = refl
same_texts (a ∷ tuple) [] = refl
same_texts (a ∷ tuple) (b ∷ other) = by (is_same_text a.now b.now) (same_texts tuple other)
  where
    by : (c : Bool) → pointwise (λ a b. is_same_text a.now b.now) tuple other ≡ is_same_keys (texts tuple) (texts other) →
        (c && pointwise (λ a b. is_same_text a.now b.now) tuple other) ≡ (c && is_same_keys (texts tuple) (texts other))
    by true e = e
    by false e = refl

pub order_ties : (tuple other : List (Bor (List ℕ))) → is_eq (order tuple other) ≡ is_same_keys (texts tuple) (texts other)
order_ties tuple other =
    sym (lists_ties (λ (a b : Bor (List ℕ)). slice_cmp nat_cmp a.now b.now) (λ a b. sym (is_eq-slice_cmp a.now b.now)) tuple other) ∙ same_texts tuple other

pub same_turned : (tuple other : List (List ℕ)) → is_same_keys tuple other ≡ is_same_keys other tuple
same_turned tuple other = by (is_same_keys tuple other) (is_same_keys other tuple)
    (λ e. (keys_decide other tuple).1 (sym ((keys_decide tuple other).0 e))) (λ e. (keys_decide tuple other).1 (sym ((keys_decide other tuple).0 e)))
  where
    by : (a b : Bool) → (a ≡ true → b ≡ true) → (b ≡ true → a ≡ true) → a ≡ b
    by true b there back = sym (there refl)
    by false true there back = back refl
    by false false there back = refl

-- ---- sets
pub tuple_added : (before now : BTreeSet (List (Bor (List ℕ)))) (tuple : List (Bor (List ℕ))) →
    ((key : List (Bor (List ℕ))) → contains order now key ≡ cond (is_eq (order tuple key)) true (contains order before key)) → AddsTuple before now (texts tuple)
tuple_added before now tuple put key =
    put key ∙ ap (λ b. cond b true (contains order before key)) (order_ties tuple key ∙ same_turned (texts tuple) (texts key))
    ∙ by (is_same_keys (texts key) (texts tuple)) (contains order before key)
  where
    by : (b c : Bool) → cond b true c ≡ (c || b)
    by true true = refl
    by true false = refl
    by false true = refl
    by false false = refl

or_false : (b : Bool) → (b || false) ≡ b
or_false true = refl
or_false false = refl

or_more : (a b c : Bool) → ((a || b) || c) ≡ (a || (b || c))
or_more true b c = refl
or_more false b c = refl

pub one_more_added : (first before now : BTreeSet (List (Bor (List ℕ)))) (tuples : List (List (Bor (List ℕ)))) (tuple : List (Bor (List ℕ))) →
    AddsTuples first before (map texts tuples) → AddsTuple before now (texts tuple) → AddsTuples first now (map texts (tuples ++ tuple ∷ []))
one_more_added first before now tuples tuple so_far added key =
    added key ∙ ap (λ b. b || is_same_keys (texts key) (texts tuple)) (so_far key)
    ∙ or_more (contains order first key) (is_tuple_in (map texts tuples) (texts key)) (is_same_keys (texts key) (texts tuple))
    ∙ ap (λ b. contains order first key || b)
    (ap (λ b. is_tuple_in (map texts tuples) (texts key) || b) (sym (or_false (is_same_keys (texts key) (texts tuple))))
    ∙ sym (list_any-append (is_same_keys (texts key)) (map texts tuples) (texts tuple ∷ []))
    ∙ ap (λ ts. is_tuple_in ts (texts key)) (sym (map_push tuples tuple)))
  where
    map_push : (tuples : List (List (Bor (List ℕ)))) (tuple : List (Bor (List ℕ))) → map texts (tuples ++ tuple ∷ []) ≡ map texts tuples ++ texts tuple ∷ []
    map_push [] tuple = refl
    map_push (one ∷ tuples) tuple = ap (λ more. texts one ∷ more) (map_push tuples tuple)

-- the set has the tuples of one entry more
pub entry_added : (tables : Tables) (leafs : List ℕ) (entries : List Place) (entry : Place) (before now : BTreeSet (List (Bor (List ℕ)))) (tuples : List (List (Bor (List ℕ)))) →
    HasTuples tables leafs entries before → AddsTuples before now (map texts tuples) → map texts tuples ≡ tuples_of tables leafs entry →
    HasTuples tables leafs (entries ++ entry ∷ []) now
entry_added tables leafs entries entry before now tuples so_far added are key =
    added key
    ∙ (λ i. so_far key i || is_tuple_in (are i) (texts key))
    ∙ ap (λ b. list_any (λ other. is_tuple_in (tuples_of tables leafs other) (texts key)) entries || b) (sym (or_false (is_tuple_in (tuples_of tables leafs entry) (texts key))))
    ∙ sym (list_any-append (λ other. is_tuple_in (tuples_of tables leafs other) (texts key)) entries (entry ∷ []))

-- an entry agrees with one of those whose tuples the set has where the set has one of its tuples
pub agrees_is : (tables : Tables) (leafs : List ℕ) (entries : List Place) (entry : Place) (set : BTreeSet (List (Bor (List ℕ)))) (tuples : List (List (Bor (List ℕ)))) →
    HasTuples tables leafs entries set → map texts tuples ≡ tuples_of tables leafs entry →
    list_any (λ tuple. contains order set tuple) tuples ≡ list_any (agree_in tables leafs entry) entries
agrees_is tables leafs entries entry set tuples has are =
    any_same (λ tuple. contains order set tuple) (λ tuple. list_any (λ other. is_tuple_in (tuples_of tables leafs other) (texts tuple)) entries) tuples has
    ∙ any_swap (λ tuple other. is_tuple_in (tuples_of tables leafs other) (texts tuple)) tuples entries
    ∙ any_same (λ other. list_any (λ tuple. is_tuple_in (tuples_of tables leafs other) (texts tuple)) tuples) (agree_in tables leafs entry) entries
    (λ other. sym (any_map (is_tuple_in (tuples_of tables leafs other)) texts tuples)
    ∙ ap (λ ts. shares ts (tuples_of tables leafs other)) are ∙ agree_is tables leafs entry other)

-- the one of a list
pub only_leaf : (leafs : List ℕ) → length leafs ≡ 1 → get_or leafs 0 0 ∷ [] ≡ leafs
only_leaf [] one = absurd (omega (arith, one))
only_leaf (leaf ∷ []) one = refl
only_leaf (leaf ∷ other ∷ more) one = absurd (omega (arith, one))

-- ---- the walk over the entries
abbrev pub found_in : Tables → List ℕ → List Place → List Place → Option Violation
found_in tables leafs before later =
    first (map (λ entry. record { kind = NotUnique; path = record { steps = entry.steps } }) (repeated (agree_in tables leafs) before later))

cut : {X : Type 0} (xs : List X) (i : ℕ) (x : X) → i < length xs → x ≡ get_or xs i x → drop i xs ≡ x ∷ drop (i + 1) xs
cut xs i x within is = grind (arith, common_steps, is, within)

abbrev pub violation_at : List Step → Violation
violation_at steps = record { kind = NotUnique; path = record { steps = steps } }

abbrev place_of : List Row → Spot → Place
place_of rows spot = place_here rows spot.steps spot.here

taken_more : (rows : List Row) (spots : List Spot) (i : ℕ) (spot : Spot) → i < length spots → spot ≡ get_or spots i spot →
    places_in rows (take (i + 1) spots) ≡ places_in rows (take i spots) ++ place_of rows spot ∷ []
taken_more rows spots i spot within is =
    ap (places_in rows) (take_more spots i spot within ∙ ap (λ (one : Spot). take i spots ++ one ∷ []) (sym is))
    ∙ map-append (place_of rows) (take i spots) (spot ∷ [])

module _ (tables : Tables) (leafs : List ℕ) (rows : List Row) (spots : List Spot) (i : ℕ) (spot : Spot) (within : i < length spots) (is : spot ≡ get_or spots i spot) where
  pub entry_taken : (P : List Place → Type 0) → P (places_in rows (take i spots) ++ place_of rows spot ∷ []) → P (places_in rows (take (i + 1) spots))
  entry_taken P all = subst P (sym (taken_more rows spots i spot within is)) all

  pub walk_found : (whole : Option Violation) (found : Violation) → list_any (agree_in tables leafs (place_of rows spot)) (places_in rows (take i spots)) ≡ true →
      found ≡ record { kind = NotUnique; path = record { steps = spot.steps } } →
      found_in tables leafs (places_in rows (take i spots)) (places_in rows (drop i spots)) ≡ whole → Some found ≡ whole
  walk_found whole found agrees what so_far =
      ap (λ v. Some v) what
      ∙ ap (λ b. first (map (λ (entry : Place). record { kind = NotUnique; path = record { steps = entry.steps } })
      ((if b then place_of rows spot ∷ [] else []) ++ repeated (agree_in tables leafs) (places_in rows (take i spots) ++ place_of rows spot ∷ []) (places_in rows (drop (i + 1) spots))))) (sym agrees)
      ∙ ap (λ (rest : List Spot). found_in tables leafs (places_in rows (take i spots)) (places_in rows rest)) (sym (cut spots i spot within is))
      ∙ so_far

  pub walk_on : (whole : Option Violation) → list_any (agree_in tables leafs (place_of rows spot)) (places_in rows (take i spots)) ≡ false →
      found_in tables leafs (places_in rows (take i spots)) (places_in rows (drop i spots)) ≡ whole →
      found_in tables leafs (places_in rows (take (i + 1) spots)) (places_in rows (drop (i + 1) spots)) ≡ whole
  walk_on whole differs so_far =
      ap (λ before. found_in tables leafs before (places_in rows (drop (i + 1) spots))) (taken_more rows spots i spot within is)
      ∙ ap (λ b. first (map (λ (entry : Place). record { kind = NotUnique; path = record { steps = entry.steps } })
      ((if b then place_of rows spot ∷ [] else []) ++ repeated (agree_in tables leafs) (places_in rows (take i spots) ++ place_of rows spot ∷ []) (places_in rows (drop (i + 1) spots))))) (sym differs)
      ∙ ap (λ (rest : List Spot). found_in tables leafs (places_in rows (take i spots)) (places_in rows rest)) (sym (cut spots i spot within is))
      ∙ so_far

  pub seen_more : (before now : BTreeSet (List (Bor (List ℕ)))) (tuples : List (List (Bor (List ℕ)))) → HasTuples tables leafs (places_in rows (take i spots)) before →
      AddsTuples before now (map texts tuples) → map texts tuples ≡ tuples_of tables leafs (place_of rows spot) → HasTuples tables leafs (places_in rows (take (i + 1) spots)) now
  seen_more before now tuples has added are =
      subst (λ entries. HasTuples tables leafs entries now) (sym (taken_more rows spots i spot within is))
      (entry_added tables leafs (places_in rows (take i spots)) (place_of rows spot) before now tuples has added are)

pub walk_end : (tables : Tables) (leafs : List ℕ) (rows : List Row) (spots : List Spot) (i : ℕ) (whole : Option Violation) → length spots ≤ i →
    found_in tables leafs (places_in rows (take i spots)) (places_in rows (drop i spots)) ≡ whole → None ≡ whole
walk_end tables leafs rows spots i whole past so_far =
    ap (λ (rest : List Spot). found_in tables leafs (places_in rows (take i spots)) (places_in rows rest)) (sym none) ∙ so_far
  where
    none : drop i spots ≡ []
    none = grind (arith, common_steps, past)
