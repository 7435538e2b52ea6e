-- Sets of values.
use Rattle.std.proofs.Common.{◌≡◌, ◌||◌, ◌++◌, ℕ, Bool, true, false, cond, List, [], ◌∷◌, refl, sym, ap, ◌∙◌, Bor}
use Rattle.std.specs.BTreeSet.{BTreeSet, contains}
use Rattle.std.specs.Ordering.{is_eq}
use Rattle.std.proofs.lemmas.List.Folds.{list_any-append}
use Rattle.std.proofs.lemmas.Map.Text.{is_eq-slice_cmp}
use Rattle.std.specs.Cmp.Lexicographic.{bytes_decides}
use Rattle.nc_names.specs.Same.{is_same_text}
use Rattle.nc_refs.specs.inner.Referred.{HasValues, text_order}

same_either : (a b : List ℕ) → is_same_text a b ≡ is_same_text b a
same_either a b = by (is_same_text a b) refl (is_same_text b a) refl
  where
    by : (x : Bool) → is_same_text a b ≡ x → (y : Bool) → is_same_text b a ≡ y → x ≡ y
    by true e true f = refl
    by false e false f = refl
    by true e false f = let clash : true ≡ false = sym ((bytes_decides b a).1 (sym ((bytes_decides a b).0 e))) ∙ f in cc
    by false e true f = let clash : true ≡ false = sym ((bytes_decides a b).1 (sym ((bytes_decides b a).0 f))) ∙ e in cc

-- one value more
pub value_added : (before now : BTreeSet (Bor (List ℕ))) (value : Bor (List ℕ)) (values : List (List ℕ)) →
    ((key : Bor (List ℕ)) → contains text_order now key ≡ cond (is_eq (text_order value key)) true (contains text_order before key)) →
    HasValues before values → HasValues now (values ++ value.now ∷ [])
value_added before now value values put has key =
    put key ∙ ap (λ b. cond b true (contains text_order before key)) (is_eq-slice_cmp value.now key.now ∙ same_either value.now key.now)
    ∙ turned (is_same_text key.now value.now) (contains text_order before key)
    ∙ ap (λ b. b || (is_same_text key.now value.now || false)) (has key)
    ∙ sym (list_any-append (is_same_text key.now) values (value.now ∷ []))
  where
    turned : (a b : Bool) → cond a true b ≡ (b || (a || false))
    turned true true = refl
    turned true false = refl
    turned false true = refl
    turned false false = refl
