-- Elements that are picked from a list.
use Rattle.std.proofs.Common.{inl, inr, ◌≡◌, ◌≤◌, ◌+◌, ℕ, true, false, cond, List, [], ◌∷◌, ◌++◌, length, take, refl, sym, ◌∙◌, subst, arith}
use Rattle.std.specs.Prelude.{Bool, Some, slice_get, ◌⊎◌}
use Rattle.std.proofs.lemmas.List.{append-nil, take_all}
use Rattle.std.proofs.lemmas.List.Elements.{Contains-append_left, Contains-push}
use Rattle.nc_yang_words.specs.declared.statement.Statement.{Statement}
use Rattle.nc_yang_scopes.specs.Scopes.{Located, Scoping}
use Rattle.nc_yang_nodes.specs.Roles.{FeatureTest, is_supported}
use Rattle.nc_yang_order.proofs.Lists.{contains_none, either, take_next}
use Rattle.nc_yang_scopes.specs.Numbers.{AreNumbers, OnNumber}
use Rattle.nc_yang_nodes.specs.Identities.{identities}
use Rattle.nc_yang_nodes.specs.Picks.{Picks, PicksNumbers, none, passed, picked}
use Rattle.nc_yang_nodes.specs.Values.{AreDerivedNumbers, IsUnder, IsValue}
use Rattle.nc_yang_nodes.specs.inner.Marks.{Narrows, Tells}
use Rattle.nc_yang_nodes.proofs.NumberLemmas.{number_at_place, numbers_length, numbers_push}

module _ {A : Type 0} (P : A → Type 0) where
  pub picks_push : (xs found : List A) (x : A) → Picks P xs found → P x → Picks P (xs ++ x ∷ []) (found ++ x ∷ [])
  picks_push _ _ x none p = picked x [] [] p none
  picks_push _ _ x (picked y ys found q more) p = picked y (ys ++ x ∷ []) (found ++ x ∷ []) q (picks_push ys found x more p)
  picks_push _ _ x (passed y ys found q more) p = passed y (ys ++ x ∷ []) (found ++ x ∷ []) q (picks_push ys found x more p)

  pub picks_pass : (xs found : List A) (x : A) → Picks P xs found → ¬ P x → Picks P (xs ++ x ∷ []) found
  picks_pass _ _ x none p = passed x [] [] p none
  picks_pass _ _ x (picked y ys found q more) p = picked y (ys ++ x ∷ []) found q (picks_pass ys found x more p)
  picks_pass _ _ x (passed y ys found q more) p = passed y (ys ++ x ∷ []) found q (picks_pass ys found x more p)

  -- whether the first is picked
  pub record First (x : A) (xs found : List A) : Type 0 where
    pub rest : List A
    pub is : ((found ≡ x ∷ rest) × P x) ⊎ ((found ≡ rest) × ¬ P x)
    pub more : Picks P xs rest

  pub first_of : (x : A) (xs found : List A) → Picks P (x ∷ xs) found → First x xs found
  first_of x xs _ (picked _ _ found p more) = record { rest = found; is = inl (refl, p); more = more }
  first_of x xs _ (passed _ _ found p more) = record { rest = found; is = inr (refl, p); more = more }

-- of those that are picked some are picked again
pub picks_both : {A : Type 0} (P Q R : A → Type 0) → ((x : A) → P x → Q x → R x) → ((x : A) → R x → P x × Q x) → (xs ys zs : List A) → Picks P xs ys → Picks Q ys zs → Picks R xs zs
picks_both {A = A} P Q R to back _ _ zs none second = by zs second
  where
    by : (zs : List A) → Picks Q [] zs → Picks R [] zs
    by _ none = none
picks_both {A = A} P Q R to back _ _ zs (passed x xs ys not_p more) second = passed x xs zs (λ r. not_p (back x r).0) (picks_both P Q R to back xs ys zs more second)
picks_both {A = A} P Q R to back _ _ zs (picked x xs ys p more) second =
    let f = first_of Q x ys zs second in
    elim f.is [
      | inl here ↦ subst (Picks R (x ∷ xs)) (sym here.0) (picked x xs f.rest (to x p here.1) (picks_both P Q R to back xs ys f.rest more f.more))
      | inr gone ↦ subst (Picks R (x ∷ xs)) (sym gone.0) (passed x xs f.rest (λ r. gone.1 (back x r).1) (picks_both P Q R to back xs ys f.rest more f.more))
    ]

-- one more is looked at
pub numbers_more : (located : List Located) (P : Located → Type 0) (ls : List Located) (i n : ℕ) (l : Located) (kept new : List ℕ) (b : Bool) → slice_get ls i ≡ Some l → slice_get located n ≡ Some l → Tells b (P l) →
    PicksNumbers located P (take i ls) kept → new ≡ kept ++ cond b (n ∷ []) [] → PicksNumbers located P (take (i + 1) ls) new
numbers_more located P ls i n l kept new b at here tells so_far new_is = subst (λ z. PicksNumbers located P z new) (sym (take_next ls i l at)) (by b tells new_is)
  where
    by : (b : Bool) → Tells b (P l) → new ≡ kept ++ cond b (n ∷ []) [] → PicksNumbers located P (take i ls ++ l ∷ []) new
    by true p is = (
      so_far.0 ++ l ∷ [],
      subst (λ z. AreNumbers located z (so_far.0 ++ l ∷ [])) (sym is) (numbers_push located kept so_far.0 n l so_far.1 here),
      picks_push P (take i ls) so_far.0 l so_far.2 p,
    )
    by false p is = (so_far.0, subst (λ z. AreNumbers located z so_far.0) (sym (is ∙ append-nil kept)) so_far.1, picks_pass P (take i ls) so_far.0 l so_far.2 p)

-- what is there without `base` statements
pub supported_tells : (texts : List Statement) (on : FeatureTest) (l : Located) (b : Bool) → b ≡ is_supported texts on l → Tells b (IsValue texts on [] l)
supported_tells texts on l true is = record { supported = sym is; under = λ base h. absurd (contains_none base h) }
supported_tells texts on l false is = λ v. let e : false ≡ true = is ∙ v.supported in cc

-- a value of more `base` statements
pub value_more : (texts : List Statement) (on : FeatureTest) (bases : List Located) (base l : Located) → IsValue texts on bases l → IsUnder texts base l → IsValue texts on (bases ++ base ∷ []) l
value_more texts on bases base l v u = record {
  supported = v.supported;
  under = λ other h. elim (either bases base other h) [ inl old ↦ v.under other old | inr now ↦ subst (λ z. IsUnder texts z l) now u ];
}

pub value_less : (texts : List Statement) (on : FeatureTest) (bases : List Located) (base l : Located) → IsValue texts on (bases ++ base ∷ []) l → IsValue texts on bases l × IsUnder texts base l
value_less texts on bases base l v = (
  record { supported = v.supported; under = λ other h. v.under other (Contains-append_left bases (base ∷ []) other h) },
  v.under base (Contains-push bases base),
)

-- those of one `base` statement more
pub values_more : (located : List Located) (texts : List Statement) (on : FeatureTest) (bases : List Located) (i : ℕ) (base : Located) (old new : List ℕ) → slice_get bases i ≡ Some base →
    PicksNumbers located (IsValue texts on (take i bases)) (identities texts) old → Narrows located (IsUnder texts base) old new → PicksNumbers located (IsValue texts on (take (i + 1) bases)) (identities texts) new
values_more located texts on bases i base old new at so_far narrows =
    let n = narrows so_far.0 so_far.1 in
    subst (λ z. PicksNumbers located (IsValue texts on z) (identities texts) new) (sym (take_next bases i base at))
    (n.0, n.1, picks_both (IsValue texts on (take i bases)) (IsUnder texts base) (IsValue texts on (take i bases ++ base ∷ [])) (value_more texts on (take i bases) base) (value_less texts on (take i bases) base) (identities texts) so_far.0 n.0 so_far.2 n.2)

-- nothing was looked at
pub picks_nothing : (located : List Located) (P : Located → Type 0) → PicksNumbers located P [] []
picks_nothing located P = ([], refl, none)

-- the statement of the next number is looked at
pub looks_at : (located : List Located) (P : Located → Type 0) (ns : List ℕ) (ls : List Located) (i n : ℕ) (b : Bool) (kept new : List ℕ) → AreNumbers located ns ls → slice_get ns i ≡ Some n → ((l : Located) → slice_get located n ≡ Some l → Tells b (P l)) →
    PicksNumbers located P (take i ls) kept → new ≡ kept ++ cond b (n ∷ []) [] → PicksNumbers located P (take (i + 1) ls) new
looks_at located P ns ls i n b kept new are at tells so_far new_is =
    let l = number_at_place located ns ls i n are at in
    numbers_more located P ls i n l.0 kept new b l.1 l.2 (tells l.0 l.2) so_far new_is

-- all were looked at
pub looked_all : (located : List Located) (P : Located → Type 0) (ns : List ℕ) (ls : List Located) (i : ℕ) (kept : List ℕ) → AreNumbers located ns ls → length ns ≤ i → PicksNumbers located P (take i ls) kept → PicksNumbers located P ls kept
looked_all located P ns ls i kept are past so_far = subst (λ z. PicksNumbers located P z kept) (take_all i ls (let e = numbers_length located ns ls are in omega arith)) so_far

-- the `base` statement of the next number
pub values_step : (scoping : Scoping) (on : FeatureTest) (ns : List ℕ) (bases : List Located) (i n : ℕ) (old list new : List ℕ) → AreNumbers scoping.located ns bases → slice_get ns i ≡ Some n → list ≡ old →
    AreDerivedNumbers scoping on (take i bases) old → OnNumber scoping n (λ l. Narrows scoping.located (IsUnder scoping.texts l) list new) → AreDerivedNumbers scoping on (take (i + 1) bases) new
values_step scoping on ns bases i n old list new are at list_is so_far narrows =
    let l = number_at_place scoping.located ns bases i n are at in
    values_more scoping.located scoping.texts on bases i l.0 old new l.1 so_far (subst (λ z. Narrows scoping.located (IsUnder scoping.texts l.0) z new) list_is (narrows l.0 l.2))

-- what is asked of the same texts
pub supported_here : (inside scoping asked : Scoping) → inside ≡ scoping → asked ≡ inside → (on : FeatureTest) (n : ℕ) (b : Bool) → OnNumber asked n (λ l. b ≡ is_supported asked.texts on l) → OnNumber scoping n (λ l. Tells b (IsValue scoping.texts on [] l))
supported_here inside scoping asked same is on n b says =
    subst (λ (s : Scoping). OnNumber s n (λ l. Tells b (IsValue s.texts on [] l))) (is ∙ same) (λ l here. supported_tells asked.texts on l b (says l here))
