-- Where an edit puts an entry that the user orders.
use Rattle.std.proofs.Common.{◌≡◌, ◌≢◌, ◌||◌, ℕ, zero, suc, Bool, true, false, cond, not, List, [], ◌∷◌, ◌++◌, refl, sym, ap, subst, ◌∙◌, arith}
use Rattle.std.proofs.lemmas.List.{append-nil}
use Rattle.std.specs.List.{AllPairs, Contains}
use Rattle.nc_names.specs.Same.{is_same_keys}
use Rattle.nc_names.specs.declared.path.Place.{Place}
use Rattle.nc_names.specs.declared.path.Place.TheVariants.{Kept, First, Last, Before, After}
use Rattle.nc_names.proofs.SameLemmas.{keys_decide}
use Rattle.nc_schema.specs.Standing.{has_entry, without_entry, kept_or_last, put_before, put_after, placed, stands_before}
use Rattle.nc_protocol.proofs.BoolLemmas.{is_false}
use Rattle.nc_protocol.proofs.KeyLemmas.{filter_takes, filter_leaves}
use Rattle.nc_protocol.proofs.ListLemmas.{contains_behind}

abbrev pub Keys : Type 0
Keys = List (List ℕ)

keys_itself : (keys : Keys) → is_same_keys keys keys ≡ true
keys_itself keys = (keys_decide keys keys).1 refl

-- the entry is none of these
abbrev pub IsNone : Keys → List Keys → Type 0
IsNone keys order = (entry : Keys) → Contains order entry → is_same_keys entry keys ≡ false

none_behind : (keys x : Keys) (order : List Keys) → IsNone keys (x ∷ order) → IsNone keys order
none_behind keys x order none entry has = none entry (contains_behind x order entry has)

-- ---- one entry among the others, at a place
pub record IsCutAt (keys : Keys) (order others : List Keys) : Type 0 where
  pub front : List Keys
  pub back : List Keys
  pub whole : order ≡ front ++ keys ∷ back
  pub rest : others ≡ front ++ back

-- what is left without an entry has it not
pub without_none : (keys : Keys) (order : List Keys) → IsNone keys (without_entry keys order)
without_none keys [] entry has = absurd (omega (arith, has.1))
without_none keys (x ∷ order) entry has = by (is_same_keys x keys) refl (without_none keys order) has
  where
    by : (b : Bool) → is_same_keys x keys ≡ b → IsNone keys (without_entry keys order) → Contains (cond (not b) (x ∷ without_entry keys order) (without_entry keys order)) entry → is_same_keys entry keys ≡ false
    by true e none has = none entry has
    by false e none (zero, within, here) = ap (λ k. is_same_keys k keys) (sym here) ∙ e
    by false e none (suc k, within, here) = none entry (k, omega (arith, within), here)

without_same : (keys : Keys) (order : List Keys) → IsNone keys order → without_entry keys order ≡ order
without_same keys [] none = refl
without_same keys (x ∷ order) none =
    filter_takes (λ e. not (is_same_keys e keys)) x order (ap not (none x (0, omega arith, refl))) ∙ ap (λ xs. x ∷ xs) (without_same keys order (none_behind keys x order none))

none_has : (keys : Keys) (order : List Keys) → has_entry keys order ≡ false → IsNone keys order
none_has keys [] e entry has = absurd (omega (arith, has.1))
none_has keys (x ∷ order) e entry has = by (is_same_keys x keys) refl e (none_has keys order) has
  where
    by : (b : Bool) → is_same_keys x keys ≡ b → (b || has_entry keys order) ≡ false → (has_entry keys order ≡ false → IsNone keys order) → Contains (x ∷ order) entry → is_same_keys entry keys ≡ false
    by true is e rest has = let clash : true ≡ false = e in cc
    by false is e rest (zero, within, here) = ap (λ k. is_same_keys k keys) (sym here) ∙ is
    by false is e rest (suc k, within, here) = rest e entry (k, omega (arith, within), here)

-- entries of which no two are the same
abbrev pub AreApart : List Keys → Type 0
AreApart order = AllPairs (λ one later. one ≢ later) order

pub apart_behind : (x : Keys) (order : List Keys) → AreApart (x ∷ order) → AreApart order
apart_behind x order apart i j d less within = apart (suc i) (suc j) d (omega (arith, less)) (omega (arith, within))

pub first_apart : (x : Keys) (order : List Keys) → AreApart (x ∷ order) → IsNone x order
first_apart x order apart entry (k, within, here) =
    is_false (is_same_keys entry x) (λ same. apart 0 (suc k) entry (omega arith) (omega (arith, within)) (sym ((keys_decide entry x).0 same) ∙ sym here))

-- an entry that is there is cut out
cut_there : (keys : Keys) (order : List Keys) → AreApart order → has_entry keys order ≡ true → IsCutAt keys order (without_entry keys order)
cut_there keys [] apart e = let clash : false ≡ true = e in cc
cut_there keys (x ∷ order) apart e = by (is_same_keys x keys) refl e (cut_there keys order (apart_behind x order apart))
  where
    by : (b : Bool) → is_same_keys x keys ≡ b → (b || has_entry keys order) ≡ true → (has_entry keys order ≡ true → IsCutAt keys order (without_entry keys order)) → IsCutAt keys (x ∷ order) (without_entry keys (x ∷ order))
    by true is e rest =
        let same : x ≡ keys = (keys_decide x keys).0 is in
        record {
          front = [];
          back = order;
          whole = λ i. same i ∷ order;
          rest = filter_leaves (λ e. not (is_same_keys e keys)) x order (ap not is) ∙ without_same keys order (subst (λ (k : Keys). IsNone k order) same (first_apart x order apart));
        }
    by false is e rest =
        let cut = rest e in
        record {
          front = x ∷ cut.front;
          back = cut.back;
          whole = λ i. x ∷ cut.whole i;
          rest = filter_takes (λ e. not (is_same_keys e keys)) x order (ap not is) ∙ (λ i. x ∷ cut.rest i);
        }

-- beside an anchor that is there
beside_before : (anchor keys : Keys) (others : List Keys) → has_entry anchor others ≡ true → IsCutAt keys (put_before anchor keys others) others
beside_before anchor keys [] e = let clash : false ≡ true = e in cc
beside_before anchor keys (x ∷ others) e = by (is_same_keys x anchor) refl e (beside_before anchor keys others)
  where
    by : (b : Bool) → is_same_keys x anchor ≡ b → (b || has_entry anchor others) ≡ true → (has_entry anchor others ≡ true → IsCutAt keys (put_before anchor keys others) others) →
        IsCutAt keys (cond b (keys ∷ x ∷ others) (x ∷ put_before anchor keys others)) (x ∷ others)
    by true is e rest = record { front = []; back = x ∷ others; whole = refl; rest = refl }
    by false is e rest = let cut = rest e in record { front = x ∷ cut.front; back = cut.back; whole = λ i. x ∷ cut.whole i; rest = λ i. x ∷ cut.rest i }

beside_after : (anchor keys : Keys) (others : List Keys) → has_entry anchor others ≡ true → IsCutAt keys (put_after anchor keys others) others
beside_after anchor keys [] e = let clash : false ≡ true = e in cc
beside_after anchor keys (x ∷ others) e = by (is_same_keys x anchor) refl e (beside_after anchor keys others)
  where
    by : (b : Bool) → is_same_keys x anchor ≡ b → (b || has_entry anchor others) ≡ true → (has_entry anchor others ≡ true → IsCutAt keys (put_after anchor keys others) others) →
        IsCutAt keys (cond b (x ∷ keys ∷ others) (x ∷ put_after anchor keys others)) (x ∷ others)
    by true is e rest = record { front = x ∷ []; back = others; whole = refl; rest = refl }
    by false is e rest = let cut = rest e in record { front = x ∷ cut.front; back = cut.back; whole = λ i. x ∷ cut.whole i; rest = λ i. x ∷ cut.rest i }

-- an anchor that is another entry is among the others
anchor_stays : (anchor keys : Keys) (order : List Keys) → is_same_keys anchor keys ≡ false → has_entry anchor order ≡ true → has_entry anchor (without_entry keys order) ≡ true
anchor_stays anchor keys [] other e = e
anchor_stays anchor keys (x ∷ order) other e = by (is_same_keys x keys) refl (is_same_keys x anchor) refl e (anchor_stays anchor keys order other)
  where
    by : (a : Bool) → is_same_keys x keys ≡ a → (b : Bool) → is_same_keys x anchor ≡ b → (b || has_entry anchor order) ≡ true → (has_entry anchor order ≡ true → has_entry anchor (without_entry keys order) ≡ true) →
        has_entry anchor (cond (not a) (x ∷ without_entry keys order) (without_entry keys order)) ≡ true
    by true is false is_anchor e rest = rest e
    by true is true is_anchor e rest =
        let same : anchor ≡ keys = sym ((keys_decide x anchor).0 is_anchor) ∙ (keys_decide x keys).0 is in
        let clash : true ≡ false = sym ((keys_decide anchor keys).1 same) ∙ other in cc
    by false is true is_anchor e rest = ap (λ b. b || has_entry anchor (without_entry keys order)) is_anchor
    by false is false is_anchor e rest = ap (λ b. b || has_entry anchor (without_entry keys order)) is_anchor ∙ rest e

kept_cut : (keys : Keys) (order : List Keys) → AreApart order → IsCutAt keys (kept_or_last keys order) (without_entry keys order)
kept_cut keys order apart = by (has_entry keys order) refl
  where
    by : (b : Bool) → has_entry keys order ≡ b → IsCutAt keys (cond b order (order ++ keys ∷ [])) (without_entry keys order)
    by true e = cut_there keys order apart e
    by false e = record { front = order; back = []; whole = refl; rest = without_same keys order (none_has keys order e) ∙ sym (append-nil order) }

-- the anchor of a place is there
abbrev pub HasAnchor : Place → List Keys → Type 0
HasAnchor (Before anchor) order = has_entry anchor order ≡ true
HasAnchor (After anchor) order = has_entry anchor order ≡ true
HasAnchor place order = Unit {0}

pub placed_cut : (place : Place) (keys : Keys) (order : List Keys) → AreApart order → HasAnchor place order → IsCutAt keys (placed place keys order) (without_entry keys order)
placed_cut Kept keys order apart anchored = kept_cut keys order apart
placed_cut First keys order apart anchored = record { front = []; back = without_entry keys order; whole = refl; rest = refl }
placed_cut Last keys order apart anchored = record { front = without_entry keys order; back = []; whole = refl; rest = sym (append-nil (without_entry keys order)) }
placed_cut (Before anchor) keys order apart anchored = by (is_same_keys anchor keys) refl
  where
    by : (b : Bool) → is_same_keys anchor keys ≡ b → IsCutAt keys (cond b (kept_or_last keys order) (put_before anchor keys (without_entry keys order))) (without_entry keys order)
    by true e = kept_cut keys order apart
    by false e = beside_before anchor keys (without_entry keys order) (anchor_stays anchor keys order e anchored)
placed_cut (After anchor) keys order apart anchored = by (is_same_keys anchor keys) refl
  where
    by : (b : Bool) → is_same_keys anchor keys ≡ b → IsCutAt keys (cond b (kept_or_last keys order) (put_after anchor keys (without_entry keys order))) (without_entry keys order)
    by true e = kept_cut keys order apart
    by false e = beside_after anchor keys (without_entry keys order) (anchor_stays anchor keys order e anchored)

-- ---- the others before and after the entry
pub in_front : (keys : Keys) (front back : List Keys) (entry : Keys) → IsNone keys front → Contains front entry → stands_before (front ++ keys ∷ back) entry keys ≡ true
in_front keys [] back entry none has = absurd (omega (arith, has.1))
in_front keys (x ∷ front) back entry none has =
    by (is_same_keys x keys) (none x (0, omega arith, refl)) (is_same_keys x entry) refl has (in_front keys front back entry (none_behind keys x front none))
  where
    by : (a : Bool) → a ≡ false → (b : Bool) → is_same_keys x entry ≡ b → Contains (x ∷ front) entry → (Contains front entry → stands_before (front ++ keys ∷ back) entry keys ≡ true) →
        cond a false (cond b true (stands_before (front ++ keys ∷ back) entry keys)) ≡ true
    by true e b is has rest = let clash : true ≡ false = e in cc
    by false e true is has rest = refl
    by false e false is (zero, within, here) rest = let clash : true ≡ false = sym ((keys_decide x entry).1 here) ∙ is in cc
    by false e false is (suc k, within, here) rest = rest (k, omega (arith, within), here)

pub behind : (keys : Keys) (front back : List Keys) (entry : Keys) → IsNone entry front → stands_before (front ++ keys ∷ back) entry keys ≡ false
behind keys [] back entry none = ap (λ b. cond b false (cond (is_same_keys keys entry) true (stands_before back entry keys))) (keys_itself keys)
behind keys (x ∷ front) back entry none = by (is_same_keys x keys) (is_same_keys x entry) (none x (0, omega arith, refl)) (behind keys front back entry (none_behind entry x front none))
  where
    by : (a b : Bool) → b ≡ false → stands_before (front ++ keys ∷ back) entry keys ≡ false → cond a false (cond b true (stands_before (front ++ keys ∷ back) entry keys)) ≡ false
    by true b e rest = refl
    by false true e rest = let clash : true ≡ false = e in cc
    by false false e rest = rest
