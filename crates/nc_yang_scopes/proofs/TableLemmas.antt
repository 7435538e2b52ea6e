-- Numbers that are found by a block and a word.
use Rattle.std.proofs.Common.{◌≡◌, ◌==◌, ◌&&◌, ℕ, Bool, true, false, cond, List, Option, Some, None, refl, sym, ap, ◌∙◌, Bor}
use Rattle.std.specs.Prelude.{is_some}
use Rattle.std.specs.BTreeMap.{get}
use Rattle.std.specs.Cmp.{unsigned_tied}
use Rattle.std.specs.Cmp.Lexicographic.{bytes_decides, slice_cmp}
use Rattle.std.specs.Ordering.{is_eq, nat_cmp, ordering_then}
use Rattle.std.specs.declared.cmp.Ordering.{Ordering}
use Rattle.std.specs.declared.cmp.Ordering.TheVariants.{Less, Equal, Greater}
use Rattle.std.proofs.lemmas.Bool.{eqb-true}
use Rattle.std.proofs.lemmas.Map.Text.{is_eq-slice_cmp}
use Rattle.nc_names.proofs.SameLemmas.{first_true, second_true}
use Rattle.nc_names.specs.Same.{is_same_text}
use Rattle.nc_yang_scopes.specs.declared.table.Table.{Table}
use Rattle.nc_yang_scopes.specs.Tables.{KeepsOneMore, either, is_key, number_at, order}

is_eq_then : (a b : Ordering) → is_eq (ordering_then a b) ≡ (is_eq a && is_eq b)
is_eq_then Less b = refl
is_eq_then Equal b = refl
is_eq_then Greater b = refl

key_ties : (block other : ℕ) (word text : List ℕ) → is_eq (ordering_then (nat_cmp block other) (slice_cmp nat_cmp word text)) ≡ is_key block word other text
key_ties block other word text =
    is_eq_then (nat_cmp block other) (slice_cmp nat_cmp word text)
    ∙ (λ i. unsigned_tied block other i && is_eq-slice_cmp word text i)

-- equal keys have one number
same_key : (table : Table) (block other : ℕ) (word text : List ℕ) → is_key block word other text ≡ true → number_at table other text ≡ number_at table block word
same_key table block other word text e =
    let blocks : block ≡ other = eqb-true block other (first_true (block == other) (is_same_text word text) e) in
    let words : word ≡ text = (bytes_decides word text).0 (second_true (block == other) (is_same_text word text) e) in
    sym (ap (λ b. number_at table b word) blocks ∙ ap (number_at table other) words)

either_none : (o : Option ℕ) → either o None ≡ o
either_none None = refl
either_none (Some n) = refl

either_some : (o more : Option ℕ) → is_some o ≡ true → either o more ≡ o
either_some None more e = absurd (cc)
either_some (Some n) more e = refl

no_number : (o : Option ℕ) → is_some o ≡ false → o ≡ None
no_number None e = refl
no_number (Some n) e = absurd (cc)

-- one that is there stays
pub one_there : (table : Table) (block : ℕ) (word : List ℕ) (number : ℕ) → is_some (number_at table block word) ≡ true → KeepsOneMore table block word number table
one_there table block word number there other text = by (is_key block word other text) refl
  where
    by : (b : Bool) → is_key block word other text ≡ b → number_at table other text ≡ either (number_at table other text) (cond b (Some number) None)
    by false e = sym (either_none (number_at table other text))
    by true e = sym (either_some (number_at table other text) (Some number) (ap is_some (same_key table block other word text e) ∙ there))

-- one that is not there comes to it
pub one_put : (old new : Table) (block : ℕ) (word : Bor (List ℕ)) (number : ℕ) → is_some (number_at old block word.now) ≡ false →
    ((key : ℕ × Bor (List ℕ)) → get order new.numbers key ≡ cond (is_eq (order (block, word) key)) (Some number) (get order old.numbers key)) →
    KeepsOneMore old block word.now number new
one_put old new block word number none put other text =
    put (other, record { ref_ptr = (0, 0); now = text })
    ∙ ap (λ b. cond b (Some number) (number_at old other text)) (key_ties block other word.now text)
    ∙ by (is_key block word.now other text) refl
  where
    by : (b : Bool) → is_key block word.now other text ≡ b →
        cond b (Some number) (number_at old other text) ≡ either (number_at old other text) (cond b (Some number) None)
    by false e = sym (either_none (number_at old other text))
    by true e = sym (ap (λ o. either o (Some number)) (same_key old block other word.now text e ∙ no_number (number_at old block word.now) none))
