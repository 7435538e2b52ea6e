-- Members of a union, and types, one after another.
use Rattle.std.proofs.Common.{◌≡◌, ◌<◌, ◌≤◌, ◌+◌, ◌-◌, ◌&&◌, ℕ, zero, suc, Bool, true, false, cond, eqb, List, [], ◌∷◌, ◌++◌, Option, Some, None, length, take, drop, get_or, slice_get, refl, sym, ap, subst, ◌∙◌, arith}
use Rattle.std.specs.List.{list_all, list_any}
use Rattle.std.specs.Prelude.{Result, Ok, Err, IfOk, IfErr}
use Rattle.std.specs.Option.{is_none}
use Rattle.std.proofs.Math.Seq.{take-suc}
use Rattle.nc_names.specs.Same.{is_same_text}
use Rattle.nc_names.specs.declared.name.Bound.{Bound}
use Rattle.nc_schema.specs.Tables.{Tables}
use Rattle.nc_schema.specs.Values.{Gives, agrees, text_in_type, type_text, union_text}
use Rattle.nc_schema.specs.declared.value_type.ValueType.{ValueType}
use Rattle.nc_schema.proofs.GivenLemmas.{item_there, nothing_left}
use Rattle.nc_schema.specs.Bindings.{module_bounds}
use Rattle.nc_schema.specs.declared.value_type.ValueType.TheVariants.{Union}
use Rattle.nc_types.specs.declared.fault.TypeFault.{TypeFault}
use Rattle.nc_types.specs.declared.fault.TypeFault.TheVariants.{NotInType, Memory}
use Rattle.nc_types.specs.inner.Asked.{givers}
use Rattle.nc_types.specs.inner.Faults.{OnNotInType}
use Rattle.nc_types.specs.inner.Scopes.{under}

-- ---- unions
one_more : (members : List ℕ) (i member : ℕ) → i < length members → member ≡ get_or members i member → take (i + 1) members ≡ take i members ++ member ∷ []
one_more members i member less here =
    let next : i + 1 ≡ suc i = omega arith in
    ap (λ k. take k members) next ∙ take-suc members i member less ∙ ap (λ y. take i members ++ y ∷ []) (sym here)

go : (gives : List Bound → Gives) (names bounds : List Bound) (earlier : List ℕ) (member : ℕ) (members text : List ℕ) → gives bounds member text ≡ None → union_text gives names bounds earlier (member ∷ members) text ≡ union_text gives names bounds (earlier ++ member ∷ []) members text
go gives names bounds earlier member members text e =
    ap (λ o. elim o as (λ _. Option (List ℕ)) [ None ↦ union_text gives names bounds (earlier ++ member ∷ []) members text | Some found ↦ cond (list_all (λ other. agrees found (gives names other found)) earlier) (Some found) None ]) e

find : (gives : List Bound → Gives) (names bounds : List Bound) (earlier : List ℕ) (member : ℕ) (members text found : List ℕ) → gives bounds member text ≡ Some found → union_text gives names bounds earlier (member ∷ members) text ≡ cond (list_all (λ other. agrees found (gives names other found)) earlier) (Some found) None
find gives names bounds earlier member members text found e =
    ap (λ o. elim o as (λ _. Option (List ℕ)) [ None ↦ union_text gives names bounds (earlier ++ member ∷ []) members text | Some one ↦ cond (list_all (λ other. agrees one (gives names other one)) earlier) (Some one) None ]) e

pub union_next : (whole : Option (List ℕ)) (gives : List Bound → Gives) (names bounds : List Bound) (members text : List ℕ) (i member : ℕ) → whole ≡ union_text gives names bounds (take i members) (drop i members) text → i < length members → member ≡ get_or members i member → gives bounds member text ≡ None → whole ≡ union_text gives names bounds (take (i + 1) members) (drop (i + 1) members) text
union_next whole gives names bounds members text i member e less here none =
    e ∙ ap (λ ms. union_text gives names bounds (take i members) ms text) (item_there members i member less here)
    ∙ go gives names bounds (take i members) member (drop (i + 1) members) text none
    ∙ ap (λ ms. union_text gives names bounds ms (drop (i + 1) members) text) (sym (one_more members i member less here))

pub union_found : (whole : Option (List ℕ)) (gives : List Bound → Gives) (names bounds : List Bound) (members text : List ℕ) (i member : ℕ) (found : List ℕ) → whole ≡ union_text gives names bounds (take i members) (drop i members) text → i < length members → member ≡ get_or members i member → gives bounds member text ≡ Some found → list_all (λ other. agrees found (gives names other found)) (take i members) ≡ true → whole ≡ Some found
union_found whole gives names bounds members text i member found e less here is all =
    e ∙ ap (λ ms. union_text gives names bounds (take i members) ms text) (item_there members i member less here)
    ∙ find gives names bounds (take i members) member (drop (i + 1) members) text found is ∙ ap (λ b. cond b (Some found) None) all

pub union_other : (whole : Option (List ℕ)) (gives : List Bound → Gives) (names bounds : List Bound) (members text : List ℕ) (i member : ℕ) (found : List ℕ) → whole ≡ union_text gives names bounds (take i members) (drop i members) text → i < length members → member ≡ get_or members i member → gives bounds member text ≡ Some found → list_all (λ other. agrees found (gives names other found)) (take i members) ≡ false → whole ≡ None
union_other whole gives names bounds members text i member found e less here is all =
    e ∙ ap (λ ms. union_text gives names bounds (take i members) ms text) (item_there members i member less here)
    ∙ find gives names bounds (take i members) member (drop (i + 1) members) text found is ∙ ap (λ b. cond b (Some found) None) all

pub union_none : (whole : Option (List ℕ)) (gives : List Bound → Gives) (names bounds : List Bound) (members text : List ℕ) (i : ℕ) → whole ≡ union_text gives names bounds (take i members) (drop i members) text → length members ≤ i → whole ≡ None
union_none whole gives names bounds members text i e past =
    e ∙ ap (λ ms. union_text gives names bounds (take i members) ms text) (nothing_left members i past)

all_step : (b r s : Bool) → (r ≡ true → s ≡ true) → (b && r) ≡ true → (b && s) ≡ true
all_step true r s go e = go e
all_step false r s go e = e

all_more : (p : ℕ → Bool) (xs : List ℕ) (x : ℕ) → list_all p xs ≡ true → p x ≡ true → list_all p (xs ++ x ∷ []) ≡ true
all_more p [] x e f = ap (λ b. b && true) f
all_more p (y ∷ ys) x e f = all_step (p y) (list_all p ys) (list_all p (ys ++ x ∷ [])) (λ rest. all_more p ys x rest f) e

pub none_more : (gives : Gives) (members text : List ℕ) (i member : ℕ) → list_all (λ one. is_none (gives one text)) (take i members) ≡ true → i < length members → member ≡ get_or members i member → gives member text ≡ None → list_all (λ one. is_none (gives one text)) (take (i + 1) members) ≡ true
none_more gives members text i member e less here none =
    ap (list_all (λ one. is_none (gives one text))) (one_more members i member less here)
    ∙ all_more (λ one. is_none (gives one text)) (take i members) member e (ap is_none none)

agree_step : (text : List ℕ) (o : Option (List ℕ)) (r s : Bool) → (r ≡ true → s ≡ true) → (is_none o && r) ≡ true → (agrees text o && s) ≡ true
agree_step text None r s go e = go e
agree_step text (Some other) r s go e = cc

none_agree : (gives : Gives) (text : List ℕ) (members : List ℕ) → list_all (λ one. is_none (gives one text)) members ≡ true → list_all (λ one. agrees text (gives one text)) members ≡ true
none_agree gives text [] e = refl
none_agree gives text (member ∷ members) e =
    agree_step text (gives member text) (list_all (λ one. is_none (gives one text)) members) (list_all (λ one. agrees text (gives one text)) members)
    (none_agree gives text members) e

pub union_settled : (whole : Option (List ℕ)) (gives : List Bound → Gives) (names given : List Bound) (by_names : Bool) (members text : List ℕ) (i member : ℕ) (found : List ℕ) → by_names ≡ true → found ≡ text → whole ≡ union_text gives names (under by_names names given) (take i members) (drop i members) text → i < length members → member ≡ get_or members i member → gives (under by_names names given) member text ≡ Some found → list_all (λ one. is_none (gives (under by_names names given) one text)) (take i members) ≡ true → whole ≡ Some found
union_settled whole gives names given false members text i member found b same e less here is none = absurd (cc b)
union_settled whole gives names given true members text i member found b same e less here is none =
    union_found whole gives names names members text i member found e less here is
    (subst (λ (x : List ℕ). list_all (λ other. agrees x (gives names other x)) (take i members) ≡ true) (sym same) (none_agree (gives names) text (take i members) none))

-- ---- agreement
pub agree_none : (whole : Bool) (gives : Gives) (found earlier : List ℕ) (i other : ℕ) → whole ≡ list_all (λ one. agrees found (gives one found)) (drop i earlier) → i < length earlier → other ≡ get_or earlier i other → gives other found ≡ None → whole ≡ list_all (λ one. agrees found (gives one found)) (drop (i + 1) earlier)
agree_none whole gives found earlier i other e less here none =
    e ∙ ap (list_all (λ one. agrees found (gives one found))) (item_there earlier i other less here)
    ∙ ap (λ o. agrees found o && list_all (λ one. agrees found (gives one found)) (drop (i + 1) earlier)) none

pub agree_same : (whole : Bool) (gives : Gives) (found earlier text : List ℕ) (i other : ℕ) → whole ≡ list_all (λ one. agrees found (gives one found)) (drop i earlier) → i < length earlier → other ≡ get_or earlier i other → gives other found ≡ Some text → is_same_text found text ≡ true → whole ≡ list_all (λ one. agrees found (gives one found)) (drop (i + 1) earlier)
agree_same whole gives found earlier text i other e less here some same =
    e ∙ ap (list_all (λ one. agrees found (gives one found))) (item_there earlier i other less here)
    ∙ ap (λ o. agrees found o && list_all (λ one. agrees found (gives one found)) (drop (i + 1) earlier)) some
    ∙ ap (λ b. b && list_all (λ one. agrees found (gives one found)) (drop (i + 1) earlier)) same

pub agree_other : (whole : Bool) (gives : Gives) (found earlier text : List ℕ) (i other : ℕ) → whole ≡ list_all (λ one. agrees found (gives one found)) (drop i earlier) → i < length earlier → other ≡ get_or earlier i other → gives other found ≡ Some text → is_same_text found text ≡ false → whole ≡ false
agree_other whole gives found earlier text i other e less here some differs =
    e ∙ ap (list_all (λ one. agrees found (gives one found))) (item_there earlier i other less here)
    ∙ ap (λ o. agrees found o && list_all (λ one. agrees found (gives one found)) (drop (i + 1) earlier)) some
    ∙ ap (λ b. b && list_all (λ one. agrees found (gives one found)) (drop (i + 1) earlier)) differs

pub agree_all : (whole : Bool) (gives : Gives) (found earlier : List ℕ) (i : ℕ) → whole ≡ list_all (λ one. agrees found (gives one found)) (drop i earlier) → length earlier ≤ i → whole ≡ true
agree_all whole gives found earlier i e past =
    e ∙ ap (list_all (λ one. agrees found (gives one found))) (nothing_left earlier i past)

-- ---- a type by its number
pub type_spent : (tables : Tables) (keys : List Bound → Gives) (most : ℕ) (chain : List ℕ) (bounds : List Bound) (number : ℕ) (text : List ℕ) → most ≡ 0 → type_text tables keys most chain bounds number text ≡ None
type_spent tables keys zero chain bounds number text e = refl
type_spent tables keys (suc more) chain bounds number text e = absurd (omega (arith, e))

pub type_again : (tables : Tables) (keys : List Bound → Gives) (most : ℕ) (chain : List ℕ) (bounds : List Bound) (number : ℕ) (text : List ℕ) → list_any (λ asked. eqb asked number) chain ≡ true → type_text tables keys most chain bounds number text ≡ None
type_again tables keys zero chain bounds number text e = refl
type_again tables keys (suc more) chain bounds number text e = rw e refl

pub type_unknown : (tables : Tables) (keys : List Bound → Gives) (most : ℕ) (chain : List ℕ) (bounds : List Bound) (number : ℕ) (text : List ℕ) → slice_get tables.types number ≡ None → type_text tables keys most chain bounds number text ≡ None
type_unknown tables keys zero chain bounds number text e = refl
type_unknown tables keys (suc more) chain bounds number text e = by (list_any (λ asked. eqb asked number) chain)
  where
    by : (b : Bool) → cond b None (elim (slice_get tables.types number) as (λ _. Option (List ℕ)) [ None ↦ None | Some type ↦ text_in_type tables (givers tables keys more (number ∷ chain)) type bounds text ]) ≡ None
    by true = refl
    by false = rw e refl

pub type_known : (tables : Tables) (keys : List Bound → Gives) (most : ℕ) (chain : List ℕ) (bounds : List Bound) (number : ℕ) (text : List ℕ) (type : ValueType) (answer : Option (List ℕ)) → 0 < most → list_any (λ asked. eqb asked number) chain ≡ false → slice_get tables.types number ≡ Some type → text_in_type tables (givers tables keys (most - 1) (number ∷ chain)) type bounds text ≡ answer → type_text tables keys most chain bounds number text ≡ answer
type_known tables keys zero chain bounds number text type answer some fresh there is = absurd (omega (arith, some))
type_known tables keys (suc more) chain bounds number text type answer some fresh there is =
    let less : suc more - 1 ≡ more = omega arith in
    rw (fresh, there) (subst (λ (m : ℕ). text_in_type tables (givers tables keys m (number ∷ chain)) type bounds text ≡ answer) less is)

-- ---- an answer for one text is one for another
pub same_ok : (r : Result (List ℕ) TypeFault) (x y : Option (List ℕ)) → x ≡ y → IfOk r (λ it. x ≡ Some it) → IfOk r (λ it. y ≡ Some it)
same_ok (Ok it) x y e h = sym e ∙ h
same_ok (Err fault) x y e h = h

pub same_refused : (r : Result (List ℕ) TypeFault) (x y : Option (List ℕ)) → x ≡ y → IfErr r (λ fault. OnNotInType fault (x ≡ None)) → IfErr r (λ fault. OnNotInType fault (y ≡ None))
same_refused (Ok it) x y e h = h
same_refused (Err NotInType) x y e h = sym e ∙ h
same_refused (Err Memory) x y e h = h

pub union_is : (tables : Tables) (keys : List Bound → Gives) (most : ℕ) (chain asked members slice text : List ℕ) (bounds : List Bound) (found : ValueType) → asked ≡ chain → slice ≡ members → found ≡ Union members → union_text (type_text tables keys most asked) (module_bounds tables) bounds [] slice text ≡ text_in_type tables (givers tables keys most chain) found bounds text
union_is tables keys most chain asked members slice text bounds found e f is =
    (λ i. union_text (type_text tables keys most (e i)) (module_bounds tables) bounds [] (f i) text) ∙ ap (λ one. text_in_type tables (givers tables keys most chain) one bounds text) (sym is)
