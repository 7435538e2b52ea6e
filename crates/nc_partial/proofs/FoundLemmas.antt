-- From the lowest lock-id among the entries to the first lock in the list.
use Rattle.std.proofs.Common.{◌≡◌, ◌==◌, ◌&&◌, ◌||◌, ◌<◌, ℕ, suc, Bool, true, false, cond, not, List, [], ◌∷◌, map, refl, sym, ap, ◌∙◌, arith, eqb-true, Option, Some, None}
use Rattle.std.specs.List.{All, AllPairs, find, flat_map, list_any}
use Rattle.std.specs.Prelude.{IfSome, nat_le, option_map}
use Rattle.std.proofs.lemmas.Bool.Decides.{nat_tests}
use Rattle.std.proofs.lemmas.List.Elements.{All-weaker}
use Rattle.std.proofs.lemmas.List.Folds.{list_any-append, list_any_none}
use Rattle.nc_names.proofs.SameLemmas.{first_true, second_true}
use Rattle.nc_model.specs.State.{State, NodeLock}
use Rattle.nc_model.specs.Verdict.{lock_of_other}
use Rattle.nc_partial.specs.Granted.{Granted, covered_of, granted_of}
use Rattle.nc_partial.specs.declared.entry.Covered.{Covered}
use Rattle.nc_partial.specs.declared.entry.Entry.{Entry}
use Rattle.nc_partial.specs.inner.Entries.{all_entries, entries_of, entry_of, of_others}
use Rattle.nc_partial.specs.inner.Indexed.{IsIndexed}
use Rattle.nc_partial.specs.inner.Lowest.{IsLowest, reaches}
use Rattle.nc_partial.proofs.LowestLemmas.{moved_lowest}

-- ---- tests of entries, and of locks
pub any_map : {X Y : Type 0} (f : Y → Bool) (g : X → Y) (xs : List X) → list_any f (map g xs) ≡ list_any (λ x. f (g x)) xs
any_map f g [] = refl
any_map f g (x ∷ xs) = ap (λ b. f (g x) || b) (any_map f g xs)

pub any_flat : {X Y : Type 0} (f : Y → Bool) (h : X → List Y) (xs : List X) → list_any f (flat_map h xs) ≡ list_any (λ x. list_any f (h x)) xs
any_flat f h [] = refl
any_flat f h (x ∷ xs) = list_any-append f (h x) (flat_map h xs) ∙ ap (λ b. list_any f (h x) || b) (any_flat f h xs)

-- what is the same for each element is asked once
pull : {X : Type 0} (p r : Bool) (g : X → Bool) (xs : List X) → list_any (λ x. (p && g x) && r) xs ≡ ((p && list_any g xs) && r)
pull p r g [] = none p r
  where
    none : (p r : Bool) → false ≡ ((p && false) && r)
    none true r = refl
    none false r = refl
pull p r g (x ∷ xs) = ap (λ b. ((p && g x) && r) || b) (pull p r g xs) ∙ by p r (g x) (list_any g xs)
  where
    by : (p r a b : Bool) → (((p && a) && r) || ((p && b) && r)) ≡ ((p && (a || b)) && r)
    by true true true b = refl
    by true true false b = refl
    by true false true true = refl
    by true false true false = refl
    by true false false b = refl
    by false r a b = refl

module _ (session : ℕ) (test : Entry → Bool) (of : ℕ → ℕ → Bool) where
  -- one of the entries of a lock is of another session and passes the test
  pub at_lock : (lock : NodeLock) → list_any (λ e. of_others session test e && of e.id e.session) (entries_of lock)
      ≡ ((not (lock.session == session) && list_any (λ node. test (entry_of lock node)) lock.nodes) && of lock.id lock.session)
  at_lock lock = any_map (λ e. of_others session test e && of e.id e.session) (entry_of lock) lock.nodes
      ∙ pull (not (lock.session == session)) (of lock.id lock.session) (λ node. test (entry_of lock node)) lock.nodes

  pub at_locks : (locks : List NodeLock) → list_any (λ e. of_others session test e && of e.id e.session) (all_entries locks)
      ≡ list_any (λ lock. (not (lock.session == session) && list_any (λ node. test (entry_of lock node)) lock.nodes) && of lock.id lock.session) locks
  at_locks locks = any_flat (λ e. of_others session test e && of e.id e.session) entries_of locks
      ∙ ap (λ f. list_any f locks) (λ i lock. at_lock lock i)

-- ---- the lock-ids rise
pub later_rise : (lock : NodeLock) (locks : List NodeLock) → AllPairs (λ one later. one.id < later.id) (lock ∷ locks) → All (λ later. lock.id < later.id) locks
later_rise lock locks rise k d within = rise 0 (suc k) d (omega arith) (omega (arith, within))

pub rest_rise : (lock : NodeLock) (locks : List NodeLock) → AllPairs (λ one later. one.id < later.id) (lock ∷ locks) → AllPairs (λ one later. one.id < later.id) locks
rest_rise lock locks rise i j d less within = rise (suc i) (suc j) d (omega (arith, less)) (omega (arith, within))

le_itself : (n : ℕ) → nat_le n n ≡ true
le_itself n = grind (arith, nat_tests)

-- a lock-id is not among higher ones
not_later : (P : NodeLock → Bool) (it : Covered) (low : ℕ) (locks : List NodeLock) → nat_le it.lock low ≡ true → All (λ later. low < later.id) locks →
    list_any (λ lock. P lock && (lock.id == it.lock && lock.session == it.session)) locks ≡ false
not_later P it low locks le later =
    list_any_none (λ lock. P lock && (lock.id == it.lock && lock.session == it.session)) locks
    (All-weaker (λ lock. low < lock.id) (λ lock. (P lock && (lock.id == it.lock && lock.session == it.session)) ≡ false)
    (λ lock less. (λ i. P lock && (other it.lock low lock.id le less i && lock.session == it.session)) ∙ left (P lock)) locks later)
  where
    other : (n low k : ℕ) → nat_le n low ≡ true → low < k → (k == n) ≡ false
    other n low k le less = grind (arith, nat_tests)

    left : (b : Bool) → (b && false) ≡ false
    left true = refl
    left false = refl

-- of locks whose lock-ids rise, the first that passes a test is the one with the lowest
pub first_found : (P : NodeLock → Bool) (locks : List NodeLock) (found : Option Covered) → AllPairs (λ one later. one.id < later.id) locks →
    ((most : ℕ) → list_any (λ lock. P lock && nat_le lock.id most) locks ≡ reaches found most) →
    IfSome found (λ it. list_any (λ lock. P lock && (lock.id == it.lock && lock.session == it.session)) locks ≡ true) →
    found ≡ option_map covered_of (find P locks)
first_found P [] None rise reached held = refl
first_found P [] (Some it) rise reached held = let clash : false ≡ true = reached it.lock ∙ le_itself it.lock in absurd (cc)
first_found P (lock ∷ locks) found rise reached held =
    by (P lock) refl found reached held (λ one low has. first_found P locks one (rest_rise lock locks rise) low has)
  where
    more : P lock ≡ false → (f : NodeLock → Bool) → ((P lock && f lock) || list_any (λ one. P one && f one) locks) ≡ list_any (λ one. P one && f one) locks
    more e f = ap (λ c. (c && f lock) || list_any (λ one. P one && f one) locks) e

    here : (it : Covered) → nat_le it.lock lock.id ≡ true → P lock ≡ true → (same : Bool) → (lock.id == it.lock && lock.session == it.session) ≡ same →
        ((P lock && (lock.id == it.lock && lock.session == it.session)) || list_any (λ one. P one && (one.id == it.lock && one.session == it.session)) locks) ≡ true →
        it ≡ covered_of lock
    here it le passes true same held = λ i. record {
      lock = sym (eqb-true lock.id it.lock (first_true (lock.id == it.lock) (lock.session == it.session) same)) i;
      session = sym (eqb-true lock.session it.session (second_true (lock.id == it.lock) (lock.session == it.session) same)) i;
    }
    here it le passes false same held =
        let clash : false ≡ true =
        sym ((λ i. (passes i && same i) || not_later P it lock.id locks le (later_rise lock locks rise) i)) ∙ held in
        absurd (cc)

    by : (b : Bool) → P lock ≡ b → (found : Option Covered) →
        ((most : ℕ) → ((P lock && nat_le lock.id most) || list_any (λ one. P one && nat_le one.id most) locks) ≡ reaches found most) →
        IfSome found (λ it. ((P lock && (lock.id == it.lock && lock.session == it.session)) || list_any (λ one. P one && (one.id == it.lock && one.session == it.session)) locks) ≡ true) →
        ((one : Option Covered) → ((most : ℕ) → list_any (λ one. P one && nat_le one.id most) locks ≡ reaches one most) →
        IfSome one (λ it. list_any (λ one. P one && (one.id == it.lock && one.session == it.session)) locks ≡ true) → one ≡ option_map covered_of (find P locks)) →
        found ≡ option_map covered_of (cond b (Some lock) (find P locks))
    by true e None reached held again =
        let clash : true ≡ false = sym (λ i. (e i && le_itself lock.id i) || list_any (λ one. P one && nat_le one.id lock.id) locks) ∙ reached lock.id in
        absurd (cc)
    by true e (Some it) reached held again =
        let le : nat_le it.lock lock.id ≡ true = sym (reached lock.id) ∙ (λ i. (e i && le_itself lock.id i) || list_any (λ one. P one && nat_le one.id lock.id) locks) in
        ap Some (here it le e (lock.id == it.lock && lock.session == it.session) refl held)
    by false e None reached held again = again None (λ most. sym (more e (λ one. nat_le one.id most)) ∙ reached most) tt
    by false e (Some it) reached held again =
        again (Some it) (λ most. sym (more e (λ one. nat_le one.id most)) ∙ reached most)
        (sym (more e (λ one. one.id == it.lock && one.session == it.session)) ∙ held)

-- what is lowest in the index is the lock that is found in each state with these partial locks
module _ (locks : List NodeLock) (last : ℕ) (index : List Entry) (indexed : IsIndexed locks last index) (session : ℕ) (test : Entry → Bool) where
  in_list : (found : Option Covered) → IsLowest (of_others session test) (all_entries locks) found →
      found ≡ option_map covered_of (find (λ lock. not (lock.session == session) && list_any (λ node. test (entry_of lock node)) lock.nodes) locks)
  in_list None lowest = first_found (λ lock. not (lock.session == session) && list_any (λ node. test (entry_of lock node)) lock.nodes) locks None indexed.rise
      (λ most. sym (at_locks session test (λ id owner. nat_le id most) locks) ∙ lowest.reached most) tt
  in_list (Some it) lowest = first_found (λ lock. not (lock.session == session) && list_any (λ node. test (entry_of lock node)) lock.nodes) locks (Some it) indexed.rise
      (λ most. sym (at_locks session test (λ id owner. nat_le id most) locks) ∙ lowest.reached most)
      (sym (at_locks session test (λ id owner. id == it.lock && owner == it.session) locks) ∙ lowest.held)

  pub found_in_list : (found : Option Covered) → IsLowest (of_others session test) index found →
      found ≡ option_map covered_of (find (λ lock. not (lock.session == session) && list_any (λ node. test (entry_of lock node)) lock.nodes) locks)
  found_in_list found lowest = in_list found (moved_lowest (of_others session test) index (all_entries locks) found indexed.holds lowest)

  pub found_in_states : (granted : Granted) → record { locks = locks; last = last } ≡ granted → (found : Option Covered) → IsLowest (of_others session test) index found →
      (s : State) → granted_of s ≡ granted →
      found ≡ option_map covered_of (lock_of_other s session (λ lock. list_any (λ node. test (entry_of lock node)) lock.nodes))
  found_in_states granted view found lowest s is =
      found_in_list found lowest
      ∙ (λ i. option_map covered_of (find (λ lock. not (lock.session == session) && list_any (λ node. test (entry_of lock node)) lock.nodes) ((view ∙ sym is) i).locks))
