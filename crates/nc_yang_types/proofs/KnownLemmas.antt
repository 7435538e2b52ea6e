-- Names and numbers in sets.
use Rattle.std.proofs.Common.{◌≡◌, ◌&&◌, ◌||◌, ◌++◌, ℕ, Bool, true, false, cond, List, [], ◌∷◌, refl, sym, ap, ◌∙◌, Bor}
use Rattle.std.specs.Prelude.{ℤ}
use Rattle.std.specs.BTreeSet.{BTreeSet, contains}
use Rattle.std.specs.Ordering.{is_eq, int_cmp, int_eq}
use Rattle.std.proofs.lemmas.List.Folds.{list_any-append}
use Rattle.std.proofs.lemmas.Map.Text.{is_eq-slice_cmp}
use Rattle.nc_names.specs.Same.{is_same_text}
use Rattle.nc_yang_words.specs.declared.statement.Statement.{Statement}
use Rattle.nc_yang_statements.specs.Statements.{name}
use Rattle.nc_yang_types.specs.declared.member.Listed.{Listed}
use Rattle.nc_yang_types.specs.Members.{gives_name, is_member}
use Rattle.nc_yang_types.specs.inner.Known.{HasNames, HasNumbers, text_order}

turned : (a b : Bool) → cond a true b ≡ (b || (a || false))
turned true true = refl
turned true false = refl
turned false true = refl
turned false false = refl

gives : (listed : Listed) (s : Statement) (text : List ℕ) → is_member listed s ≡ true → is_same_text (name s) text ≡ gives_name listed text s
gives listed s text e = ap (λ b. b && is_same_text (name s) text) (sym e)

-- one name more
pub name_added : (listed : Listed) (before now : BTreeSet (Bor (List ℕ))) (text : Bor (List ℕ)) (s : Statement) (ss : List Statement) →
    text.now ≡ name s →
    ((key : Bor (List ℕ)) → contains text_order now key ≡ cond (is_eq (text_order text key)) true (contains text_order before key)) →
    HasNames listed before ss → is_member listed s ≡ true → HasNames listed now (ss ++ s ∷ [])
name_added listed before now text s ss same put has is key =
    put key
    ∙ ap (λ b. cond b true (contains text_order before key)) (is_eq-slice_cmp text.now key.now ∙ ap (λ t. is_same_text t key.now) same ∙ gives listed s key.now is)
    ∙ turned (gives_name listed key.now s) (contains text_order before key)
    ∙ ap (λ b. b || (gives_name listed key.now s || false)) (has key)
    ∙ sym (list_any-append (gives_name listed key.now) ss (s ∷ []))

-- a statement that gives no name
abbrev no_more : Bool → Bool
no_more b = b || (false || false)

ends_same : (b : Bool) → b ≡ (b || (false || false))
ends_same true = refl
ends_same false = refl

-- one number more
pub number_added : (before now : BTreeSet ℤ) (number : ℤ) (numbers : List ℤ) →
    ((key : ℤ) → contains int_cmp now key ≡ cond (is_eq (int_cmp number key)) true (contains int_cmp before key)) →
    HasNumbers before numbers → HasNumbers now (numbers ++ number ∷ [])
number_added before now number numbers put has key =
    put key ∙ turned (int_eq number key) (contains int_cmp before key)
    ∙ ap (λ b. b || (int_eq number key || false)) (has key)
    ∙ sym (list_any-append (λ other. int_eq other key) numbers (number ∷ []))
