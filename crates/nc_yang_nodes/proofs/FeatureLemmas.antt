-- The features that are on.
use Rattle.std.proofs.Common.{◌≡◌, ◌<◌, ◌+◌, ◌&&◌, ◌||◌, not, ℕ, Bool, true, false, cond, List, length, refl, ap, subst, ◌∙◌, arith, Bor}
use Rattle.std.specs.BTreeSet.{contains}
use Rattle.std.specs.Cmp.{unsigned_tied}
use Rattle.std.specs.Cmp.Lexicographic.{slice_cmp}
use Rattle.std.specs.Ordering.{is_eq, nat_cmp, ordering_then}
use Rattle.std.specs.declared.cmp.Ordering.{Ordering}
use Rattle.std.specs.declared.cmp.Ordering.TheVariants.{Less, Equal, Greater}
use Rattle.std.proofs.lemmas.Map.Text.{is_eq-slice_cmp}
use Rattle.nc_yang_nodes.specs.declared.features.Features.{Features}
use Rattle.nc_yang_nodes.specs.FeaturesOn.{is_key, is_on, order, size}

is_eq_then : (a b : Ordering) → is_eq (ordering_then a b) ≡ (is_eq a && is_eq b)
is_eq_then Less b = refl
is_eq_then Equal b = refl
is_eq_then Greater b = refl

key_ties : (text other : ℕ) (word name : List ℕ) → is_eq (ordering_then (nat_cmp text other) (slice_cmp nat_cmp word name)) ≡ is_key text word other name
key_ties text other word name =
    is_eq_then (nat_cmp text other) (slice_cmp nat_cmp word name)
    ∙ (λ i. unsigned_tied text other i && is_eq-slice_cmp word name i)

either : (a b : Bool) → cond a true b ≡ (a || b)
either true b = refl
either false b = refl

pub one_more : (old new : Features) (text : ℕ) (word : Bor (List ℕ)) →
    ((key : ℕ × Bor (List ℕ)) → contains order new.names key ≡ cond (is_eq (order (text, word) key)) true (contains order old.names key)) →
    (other : ℕ) (name : List ℕ) → is_on new other name ≡ (is_key text word.now other name || is_on old other name)
one_more old new text word put other name =
    put (other, record { ref_ptr = (0, 0); now = name }) ∙ ap (λ b. cond b true (is_on old other name)) (key_ties text other word.now name)
    ∙ either (is_key text word.now other name) (is_on old other name)

neither : (a b : Bool) → cond a false b ≡ (not a && b)
neither true b = refl
neither false b = refl

pub one_less : (old new : Features) (text : ℕ) (word : Bor (List ℕ)) →
    ((key : ℕ × Bor (List ℕ)) → contains order new.names key ≡ cond (is_eq (order (text, word) key)) false (contains order old.names key)) →
    (other : ℕ) (name : List ℕ) → is_on new other name ≡ (not (is_key text word.now other name) && is_on old other name)
one_less old new text word put other name =
    put (other, record { ref_ptr = (0, 0); now = name }) ∙ ap (λ b. cond b false (is_on old other name)) (key_ties text other word.now name)
    ∙ neither (is_key text word.now other name) (is_on old other name)

-- how many are left
pub one_fewer : (old new : Features) (found : Bool) → length new.names.keys + cond found 1 0 ≡ length old.names.keys → found ≡ true → size new < size old
one_fewer old new found counted is =
    let e : length new.names.keys + 1 ≡ length old.names.keys = subst (λ b. length new.names.keys + cond b 1 0 ≡ length old.names.keys) is counted in
    omega (arith, e)
