-- Sets of the values of one leaf, and whether an entry agrees with one before it in it.
use Rattle.std.proofs.Common.{◌≡◌, ◌&&◌, ◌||◌, ◌++◌, ◌∙◌, ◌<◌, ℕ, zero, suc, Bool, true, false, cond, List, [], ◌∷◌, get_or, length, refl, sym, ap, arith, Bor}
use Rattle.std.specs.Prelude.{not}
use Rattle.std.specs.BTreeSet.{BTreeSet, contains}
use Rattle.std.specs.List.{list_any}
use Rattle.std.specs.Ordering.{is_eq}
use Rattle.std.proofs.lemmas.Map.Text.{is_eq-slice_cmp}
use Rattle.std.proofs.lemmas.List.Folds.{list_any-append}
use Rattle.nc_names.specs.Same.{is_same_text}
use Rattle.nc_schema.specs.InUse.{values_below}
use Rattle.nc_schema.specs.Places.{Place}
use Rattle.nc_schema.specs.Tables.{Tables}
use Rattle.nc_schema.specs.Violations.{agree_in, has_text}
use Rattle.nc_validate.specs.inner.Alone.{AddsValues, HasValues, has_value, text_order}
use Rattle.nc_validate.specs.inner.Tuples.{texts}
use Rattle.nc_validate.proofs.TuplesLemmas.{any_same, any_swap}
use Rattle.nc_validate.proofs.UniqueLemmas.{same_turned}

and_true : (b : Bool) → (b && true) ≡ b
and_true true = refl
and_true false = refl

pub or_false : (b : Bool) → (b || false) ≡ b
or_false true = refl
or_false false = refl

or_more : (a b c : Bool) → ((a || b) || c) ≡ (a || (b || c))
or_more true b c = refl
or_more false b c = refl

text_turned : (text other : List ℕ) → is_same_text text other ≡ is_same_text other text
text_turned text other = sym (and_true (is_same_text text other)) ∙ same_turned (text ∷ []) (other ∷ []) ∙ and_true (is_same_text other text)

-- ---- one value more
pub value_added : (before now : BTreeSet (Bor (List ℕ))) (value : Bor (List ℕ)) →
    ((key : Bor (List ℕ)) → contains text_order now key ≡ cond (is_eq (text_order value key)) true (contains text_order before key)) → AddsValues before now (value.now ∷ [])
value_added before now value put text =
    put (record { ref_ptr = (0, 0); now = text })
    ∙ ap (λ b. cond b true (has_value before text)) (is_eq-slice_cmp value.now text ∙ text_turned value.now text)
    ∙ by (is_same_text text value.now) (has_value before text)
  where
    by : (b c : Bool) → cond b true c ≡ (c || (b || false))
    by true true = refl
    by true false = refl
    by false true = refl
    by false false = refl

pub had_unless_new : (new there : Bool) → new ≡ not there → not new ≡ there
had_unless_new new true is = ap not is
had_unless_new new false is = ap not is

pub one_more_value : (first before now : BTreeSet (Bor (List ℕ))) (values : List (Bor (List ℕ))) (value : Bor (List ℕ)) →
    AddsValues first before (texts values) → AddsValues before now (value.now ∷ []) → AddsValues first now (texts (values ++ value ∷ []))
one_more_value first before now values value so_far added text =
    added text ∙ ap (λ b. b || has_text text (value.now ∷ [])) (so_far text)
    ∙ or_more (has_value first text) (has_text text (texts values)) (has_text text (value.now ∷ []))
    ∙ ap (λ b. has_value first text || b)
    (sym (list_any-append (is_same_text text) (texts values) (value.now ∷ [])) ∙ ap (has_text text) (sym (map_push values)))
  where
    map_push : (values : List (Bor (List ℕ))) → texts (values ++ value ∷ []) ≡ texts values ++ value.now ∷ []
    map_push [] = refl
    map_push (one ∷ values) = ap (λ more. one.now ∷ more) (map_push values)

-- ---- the one value of an entry
pub one_is : (values : List (Bor (List ℕ))) (value : Bor (List ℕ)) → value ≡ get_or values 0 value → length values ≡ 1 → value.now ∷ [] ≡ texts values
one_is [] value is one = absurd (omega (arith, one))
one_is (other ∷ []) value is one = ap (λ (v : Bor (List ℕ)). v.now ∷ []) is
one_is (other ∷ next ∷ more) value is one = absurd (omega (arith, one))

-- one of some values is there
pub any_at : (there : List ℕ → Bool) (values : List (Bor (List ℕ))) (i : ℕ) (value : Bor (List ℕ)) → i < length values → value ≡ get_or values i value → there value.now ≡ true →
    true ≡ list_any there (texts values)
any_at there [] i value within is found = absurd (omega (arith, within))
any_at there (one ∷ values) zero value within is found =
    ap (λ b. b || list_any there (texts values)) (sym (ap (λ (v : Bor (List ℕ)). there v.now) (sym is) ∙ found))
any_at there (one ∷ values) (suc i) value within is found = by (there one.now) (any_at there values i value (omega (arith, within)) is found)
  where
    by : (b : Bool) → true ≡ list_any there (texts values) → true ≡ (b || list_any there (texts values))
    by true e = refl
    by false e = e

-- ---- the set has the values of one entry more
pub values_added : (tables : Tables) (leaf : ℕ) (entries : List Place) (entry : Place) (before now : BTreeSet (Bor (List ℕ))) (values : List (List ℕ)) →
    HasValues tables leaf entries before → AddsValues before now values → values ≡ values_below tables entry leaf → HasValues tables leaf (entries ++ entry ∷ []) now
values_added tables leaf entries entry before now values so_far added are text =
    added text
    ∙ (λ i. so_far text i || has_text text (are i))
    ∙ ap (λ b. list_any (λ other. has_text text (values_below tables other leaf)) entries || b) (sym (or_false (has_text text (values_below tables entry leaf))))
    ∙ sym (list_any-append (λ other. has_text text (values_below tables other leaf)) entries (entry ∷ []))

-- an entry agrees with one of those whose values the set has where the set has one of its values
pub agrees_alone : (tables : Tables) (leaf : ℕ) (entries : List Place) (entry : Place) (set : BTreeSet (Bor (List ℕ))) (values : List (List ℕ)) →
    HasValues tables leaf entries set → values ≡ values_below tables entry leaf → list_any (has_value set) values ≡ list_any (agree_in tables (leaf ∷ []) entry) entries
agrees_alone tables leaf entries entry set values has are =
    ap (list_any (has_value set)) are
    ∙ any_same (has_value set) (λ value. list_any (λ other. has_text value (values_below tables other leaf)) entries) (values_below tables entry leaf) has
    ∙ any_swap (λ value other. has_text value (values_below tables other leaf)) (values_below tables entry leaf) entries
    ∙ any_same (λ other. list_any (λ value. has_text value (values_below tables other leaf)) (values_below tables entry leaf)) (agree_in tables (leaf ∷ []) entry) entries
    (λ other. sym (and_true (list_any (λ value. has_text value (values_below tables other leaf)) (values_below tables entry leaf))))
