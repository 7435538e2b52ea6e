-- The set of a user's groups, with one name more.
use Rattle.std.proofs.Common.{◌≡◌, ◌+◌, ◌<◌, ◌||◌, ℕ, Bool, true, false, List, [], ◌∷◌, ◌++◌, length, take, get_or, refl, sym, ap, ◌∙◌}
use Rattle.std.proofs.lemmas.List.{take_more}
use Rattle.std.proofs.lemmas.Map.Text.{is_eq-slice_cmp}
use Rattle.std.proofs.lemmas.List.Folds.{list_any-append}
use Rattle.std.specs.Cmp.Lexicographic.{slice_cmp}
use Rattle.std.specs.List.{list_any}
use Rattle.std.specs.Ordering.{is_eq, nat_cmp}
use Rattle.std.specs.BTreeSet.{BTreeSet}
use Rattle.nc_names.specs.Same.{is_same_text}
use Rattle.nc_model.specs.Decision.{applies, is_for_all}
use Rattle.nc_protocol.specs.declared.peer.Peer.{Peer}
use Rattle.nc_model.specs.declared.policy.Policy.{Policy}
use Rattle.nc_model.specs.declared.policy.RuleList.{RuleList}
use Rattle.nc_nacm.specs.inner.Own.{HasOwn, has}

pub text_ties : (a b : List ℕ) → is_eq (slice_cmp nat_cmp a b) ≡ is_same_text a b
text_ties a b = is_eq-slice_cmp a b

or_again : (a b : Bool) → (a || (b || false)) ≡ (a || b)
or_again a true = refl
or_again a false = refl

-- one more of a list that a test goes over
pub any_more : {X : Type 0} (test : X → Bool) (xs : List X) (i : ℕ) (x : X) (was now : Bool) → i < length xs → x ≡ get_or xs i x →
    was ≡ list_any test (take i xs) → now ≡ (was || test x) → now ≡ list_any test (take (i + 1) xs)
any_more test xs i x was now within is so put =
    put ∙ ap (λ b. b || test x) so ∙ sym (or_again (list_any test (take i xs)) (test x))
    ∙ sym (ap (list_any test) (take_more xs i x within ∙ ap (λ one. take i xs ++ one ∷ []) (sym is)) ∙ list_any-append test (take i xs) (x ∷ []))

-- the same behind what was there before
or_join : (a b c : Bool) → ((a || b) || c) ≡ (a || (b || c))
or_join true b c = refl
or_join false b c = refl

pub any_more_beside : {X : Type 0} (test : X → Bool) (xs : List X) (i : ℕ) (x : X) (first was now : Bool) → i < length xs → x ≡ get_or xs i x →
    was ≡ (first || list_any test (take i xs)) → now ≡ (was || test x) → now ≡ (first || list_any test (take (i + 1) xs))
any_more_beside test xs i x first was now within is so put =
    put ∙ ap (λ b. b || test x) so ∙ or_join first (list_any test (take i xs)) (test x)
    ∙ ap (λ b. first || b) (any_more test xs i x (list_any test (take i xs)) (list_any test (take i xs) || test x) within is refl refl)

pub own_applies : (own : BTreeSet (List ℕ)) (policy : Policy) (peer : Peer) (list : RuleList) → HasOwn own policy peer →
    list_any (λ name. is_for_all name || has own name) list.groups ≡ applies policy peer list
own_applies own policy peer list so = ap (λ test. list_any test list.groups) (λ i name. is_for_all name || so name i)
