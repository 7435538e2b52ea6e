-- Numbers in a set.
use Rattle.std.proofs.Common.{◌≡◌, ◌||◌, ◌<◌, ◌+◌, ◌++◌, ℕ, Bool, true, false, cond, eqb, List, [], ◌∷◌, length, take, drop, get_or, refl, sym, ap, subst, ◌∙◌, arith}
use Rattle.std.specs.BTreeSet.{BTreeSet, contains}
use Rattle.std.specs.Ordering.{is_eq, nat_cmp}
use Rattle.std.specs.List.{list_any}
use Rattle.std.proofs.lemmas.Bool.Decides.{nat_tests}
use Rattle.std.proofs.lemmas.List.{drop_more, take_more}
use Rattle.std.proofs.lemmas.List.Folds.{list_any-append}
use Rattle.nc_yang_data.specs.Lists.{has_again}
use Rattle.nc_yang_data.specs.inner.Seen.{HasNumbers, HasSeen}

turned : (a b : Bool) → cond a true b ≡ (b || (a || false))
turned true true = refl
turned true false = refl
turned false true = refl
turned false false = refl

is_equal : (a b : ℕ) → is_eq (nat_cmp a b) ≡ eqb a b
is_equal a b = grind (arith, nat_tests)

-- one number more
pub number_added : (before now : BTreeSet ℕ) (number : ℕ) (numbers : List ℕ) →
    ((key : ℕ) → contains nat_cmp now key ≡ cond (is_eq (nat_cmp number key)) true (contains nat_cmp before key)) →
    HasNumbers before numbers → HasNumbers now (numbers ++ number ∷ [])
number_added before now number numbers put has key =
    put key ∙ turned (is_eq (nat_cmp number key)) (contains nat_cmp before key)
    ∙ ap (λ b. b || (is_eq (nat_cmp number key) || false)) (has key)
    ∙ ap (λ b. list_any (λ other. eqb other key) numbers || (b || false)) (is_equal number key)
    ∙ sym (list_any-append (λ other. eqb other key) numbers (number ∷ []))

-- one that is not there yet
pub seen_more : (numbers : List ℕ) (at : ℕ) (before now : BTreeSet ℕ) → at < length numbers →
    contains nat_cmp before (get_or numbers at 0) ≡ false →
    ((list : List ℕ) → HasNumbers before list → HasNumbers now (list ++ get_or numbers at 0 ∷ [])) →
    HasSeen numbers at before → HasSeen numbers (at + 1) now
seen_more numbers at before now within fresh grows seen =
    let number : ℕ = get_or numbers at 0 in
    let next : take (at + 1) numbers ≡ take at numbers ++ number ∷ [] = take_more numbers at 0 within in
    let rest : drop at numbers ≡ number ∷ drop (at + 1) numbers = drop_more numbers at 0 within in
    record {
      set = subst (HasNumbers now) (sym next) (grows (take at numbers) seen.set);
      same = seen.same ∙ ap (has_again (take at numbers)) rest
          ∙ ap (λ b. b || has_again (take at numbers ++ number ∷ []) (drop (at + 1) numbers)) (sym (seen.set number) ∙ fresh)
          ∙ ap (λ ns. has_again ns (drop (at + 1) numbers)) (sym next);
    }

-- one that is there
pub seen_again : (numbers : List ℕ) (at : ℕ) (before : BTreeSet ℕ) → at < length numbers →
    contains nat_cmp before (get_or numbers at 0) ≡ true → HasSeen numbers at before → true ≡ has_again [] numbers
seen_again numbers at before within there seen =
    let number : ℕ = get_or numbers at 0 in
    let rest : drop at numbers ≡ number ∷ drop (at + 1) numbers = drop_more numbers at 0 within in
    sym (seen.same ∙ ap (has_again (take at numbers)) rest
    ∙ ap (λ b. b || has_again (take at numbers ++ number ∷ []) (drop (at + 1) numbers)) (sym (seen.set number) ∙ there))
