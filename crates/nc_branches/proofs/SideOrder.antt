-- Where a row stands to a path from which it parts at a plain step.
use Rattle.std.proofs.Common.{◌≡◌, ◌≢◌, ◌++◌, ◌||◌, ◌&&◌, ◌==◌, ◌+◌, ◌<◌, ◌≤◌, ℕ, zero, suc, Bool, true, false, cond, ltb, List, [], ◌∷◌, Option, Some, refl, sym, ap, subst, ◌∙◌, arith, length, rules, drop}
use Rattle.std.specs.List.{All}
use Rattle.std.specs.Ordering.{MatchOrdering, nat_cmp, ordering_then}
use Rattle.std.specs.Cmp.Lexicographic.{slice_cmp}
use Rattle.std.specs.declared.cmp.Ordering.{Ordering}
use Rattle.std.specs.declared.cmp.Ordering.TheVariants.{Less, Equal, Greater}
use Rattle.std.proofs.lemmas.Cmp.{ranked, tied_itself}
use Rattle.std.proofs.lemmas.Bool.Decides.{Decides-eqb}
use Rattle.std.proofs.lemmas.List.Elements.{All-head, All-tail}
use Rattle.nc_names.proofs.SameLemmas.{step_decide, step_itself}
use Rattle.nc_names.specs.Same.{is_same_step}
use Rattle.nc_names.specs.declared.path.Step.{Step}
use Rattle.nc_schema.specs.Order.{keys_above, sibling_place}
use Rattle.nc_schema.specs.Standing.{cases_differ, cases_of, entry_before, excludes, is_by_user, is_less, sibling_before, stands_before}
use Rattle.nc_schema.specs.Tables.{Tables}
use Rattle.nc_branches.specs.inner.Order.{step_cmp}
use Rattle.nc_branches.specs.Orders.{before_in, first_order}
use Rattle.nc_branches.specs.inner.Putting.{last_node}
use Rattle.nc_branches.proofs.Sides.{step_total}

nat_refuse : (n k : ℕ) → k < n → (n == k) ≡ false
nat_refuse n k less = by (n == k) refl
  where
    by : (b : Bool) → (n == k) ≡ b → b ≡ false
    by false e = refl
    by true e = let same : n ≡ k = (Decides-eqb n k).0 e in absurd (omega (arith, less, same))

-- a node that is none of the keys comes after them
pub place_of : (keys : List ℕ) (n p : ℕ) → All (λ key. key < p) keys → p ≤ n → sibling_place keys n ≡ n + length keys
place_of [] n p less more = omega arith
place_of (key ∷ keys) n p less more =
    let first : key < p = All-head (λ key. key < p) key keys less in
    let rest : sibling_place keys n ≡ n + length keys = place_of keys n p (All-tail (λ key. key < p) key keys less) more in
    rw (nat_refuse n key (omega (arith, first, more))) (omega (arith, rest))

pub place_most : (keys : List ℕ) (n : ℕ) → sibling_place keys n ≤ n + length keys
place_most [] n = omega arith
place_most (key ∷ keys) n = by (n == key) (place_most keys n)
  where
    by : (b : Bool) → sibling_place keys n ≤ n + length keys → cond b 0 (sibling_place keys n + 1) ≤ n + suc (length keys)
    by true most = omega arith
    by false most = omega (arith, most)

less_true : (a b : ℕ) → a < b → ltb a b ≡ true
less_true a b less = search rules

less_false : (a b : ℕ) → b ≤ a → ltb a b ≡ false
less_false a b more = search rules

or_true : (b : Bool) → (b || true) ≡ true
or_true true = refl
or_true false = refl

-- where the user does not order them, entries stand by their keys
entry_is : (tables : Tables) (order : List (List (List ℕ))) (s p : Step) (side : Ordering) → is_by_user tables p.node ≡ false → s.node ≡ p.node → slice_cmp (slice_cmp nat_cmp) s.keys p.keys ≡ side → entry_before tables order s p ≡ is_less side
entry_is tables order s p side system same keys =
    let own : is_by_user tables s.node ≡ false = ap (is_by_user tables) same ∙ system in
    ap (λ b. cond b (stands_before order s.keys p.keys) (is_less (slice_cmp (slice_cmp nat_cmp) s.keys p.keys))) own ∙ ap is_less keys

pub sibling_less : (tables : Tables) (keys : List ℕ) (order : List (List (List ℕ))) (s p : Step) → All (λ key. key < p.node) keys → is_by_user tables p.node ≡ false → step_cmp s p ≡ Less → sibling_before tables keys order s p ≡ true
sibling_less tables keys order s p less system side = by (nat_cmp s.node p.node) refl (ranked s.node p.node (nat_cmp s.node p.node) refl) side
  where
    by : (o : Ordering) → nat_cmp s.node p.node ≡ o → MatchOrdering o (s.node < p.node) (s.node ≡ p.node) (p.node < s.node) → ordering_then o (slice_cmp (slice_cmp nat_cmp) s.keys p.keys) ≡ Less → sibling_before tables keys order s p ≡ true
    by Less e before is =
        let most : sibling_place keys s.node ≤ s.node + length keys = place_most keys s.node in
        let place : sibling_place keys p.node ≡ p.node + length keys = place_of keys p.node p.node less (omega arith) in
        ap (λ b. b || (s.node == p.node && entry_before tables order s p)) (less_true (sibling_place keys s.node) (sibling_place keys p.node) (omega (arith, before, most, place)))
    by Equal e same is =
        ap (λ b. ltb (sibling_place keys s.node) (sibling_place keys p.node) || (b && entry_before tables order s p)) ((Decides-eqb s.node p.node).1 same)
        ∙ ap (λ b. ltb (sibling_place keys s.node) (sibling_place keys p.node) || b) (entry_is tables order s p Less system same is)
        ∙ or_true (ltb (sibling_place keys s.node) (sibling_place keys p.node))
    by Greater e after is = cc

pub sibling_more : (tables : Tables) (keys : List ℕ) (order : List (List (List ℕ))) (s p : Step) → All (λ key. key < p.node) keys → is_by_user tables p.node ≡ false → step_cmp s p ≡ Greater → sibling_before tables keys order s p ≡ false
sibling_more tables keys order s p less system side = by (nat_cmp s.node p.node) refl (ranked s.node p.node (nat_cmp s.node p.node) refl) side
  where
    by : (o : Ordering) → nat_cmp s.node p.node ≡ o → MatchOrdering o (s.node < p.node) (s.node ≡ p.node) (p.node < s.node) → ordering_then o (slice_cmp (slice_cmp nat_cmp) s.keys p.keys) ≡ Greater → sibling_before tables keys order s p ≡ false
    by Less e before is = cc
    by Equal e same is =
        let places : sibling_place keys s.node ≡ sibling_place keys p.node = ap (sibling_place keys) same in
        ap (λ b. b || (s.node == p.node && entry_before tables order s p)) (less_false (sibling_place keys s.node) (sibling_place keys p.node) (omega (arith, places)))
        ∙ ap (λ b. b && entry_before tables order s p) ((Decides-eqb s.node p.node).1 same)
        ∙ entry_is tables order s p Greater system same is
    by Greater e after is =
        let own : sibling_place keys s.node ≡ s.node + length keys = place_of keys s.node p.node less (omega (arith, after)) in
        let place : sibling_place keys p.node ≡ p.node + length keys = place_of keys p.node p.node less (omega arith) in
        ap (λ b. b || (s.node == p.node && entry_before tables order s p)) (less_false (sibling_place keys s.node) (sibling_place keys p.node) (omega (arith, after, own, place)))
        ∙ ap (λ b. b && entry_before tables order s p) (nat_refuse s.node p.node after)

-- steps on one side of another are not the same
pub differ : (s p : Step) (side : Ordering) → step_cmp s p ≡ side → side ≢ Equal → is_same_step s p ≡ false
differ s p side is other = by (is_same_step s p) refl
  where
    by : (b : Bool) → is_same_step s p ≡ b → b ≡ false
    by false e = refl
    by true e = absurd (other (sym is ∙ subst (λ x. step_cmp x p ≡ Equal) (sym ((step_decide s p).0 e)) (tied_itself step_total p)))

drop_none : {X : Type 0} (n : ℕ) → drop {A = X} n [] ≡ drop (suc n) []
drop_none zero = refl
drop_none (suc n) = refl

-- two paths part after what they have in common
pub before_common : (tables : Tables) (orders : List (List (List (List ℕ)))) (above : Option ℕ) (common : List Step) (s p : Step) (ss ps : List Step) → is_same_step s p ≡ false →
    before_in tables orders above (common ++ s ∷ ss) (common ++ p ∷ ps) ≡ sibling_before tables (keys_above tables (last_node above common)) (first_order (drop (length common) orders)) s p
before_common tables orders above [] s p ss ps other = rw other refl
before_common tables orders above (c ∷ common) s p ss ps other = rw (step_itself c) (before_common tables (drop 1 orders) (Some c.node) common s p ss ps other ∙ ap (λ os. sibling_before tables (keys_above tables (last_node (Some c.node) common)) (first_order os) s p) (dropped orders))
  where
    dropped : (os : List (List (List (List ℕ)))) → drop (length common) (drop 1 os) ≡ drop (suc (length common)) os
    dropped [] = drop_none (length common)
    dropped (o ∷ os) = refl

pub excludes_common : (tables : Tables) (common : List Step) (s p : Step) (ss ps : List Step) → is_same_step p s ≡ false → excludes tables (common ++ p ∷ ps) (common ++ s ∷ ss) ≡ cases_differ (cases_of tables p.node) (cases_of tables s.node)
excludes_common tables [] s p ss ps other = rw other refl
excludes_common tables (c ∷ common) s p ss ps other = rw (step_itself c) (excludes_common tables common s p ss ps other)

-- what stands above a path is before it, and is not of another case
pub before_shorter : (tables : Tables) (orders : List (List (List (List ℕ)))) (above : Option ℕ) (common : List Step) (p : Step) (ps : List Step) → before_in tables orders above common (common ++ p ∷ ps) ≡ true
before_shorter tables orders above [] p ps = refl
before_shorter tables orders above (c ∷ common) p ps = rw (step_itself c) (before_shorter tables (drop 1 orders) (Some c.node) common p ps)

pub excludes_shorter : (tables : Tables) (common rest : List Step) → excludes tables (common ++ rest) common ≡ false
excludes_shorter tables [] [] = refl
excludes_shorter tables [] (r ∷ rest) = refl
excludes_shorter tables (c ∷ common) rest = rw (step_itself c) (excludes_shorter tables common rest)
