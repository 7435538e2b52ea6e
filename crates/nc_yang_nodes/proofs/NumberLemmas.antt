-- Statements by their numbers, and lists that grow.
use Rattle.std.proofs.Common.{◌≡◌, ◌<◌, ◌+◌, ℕ, zero, suc, List, [], ◌∷◌, ◌++◌, length, map, refl, sym, ap, ◌∙◌, subst, arith}
use Rattle.nc_names.specs.declared.memory.Memory.{Memory}
use Rattle.std.specs.Prelude.{Option, Some, None, Result, Ok, Err, IfOk, slice_get, option_map, Contains}
use Rattle.std.specs.Option.{option_map_or}
use Rattle.std.specs.List.{flat_map, range_with_len}
use Rattle.std.proofs.lemmas.Grind.{flat_map-append}
use Rattle.std.proofs.lemmas.List.{append-nil, length-map, map-append}
use Rattle.std.proofs.lemmas.Option.{slice_get-get_or}
use Rattle.nc_yang_words.specs.declared.statement.Statement.{Statement}
use Rattle.nc_yang_statements.specs.declared.keyword.Keyword.TheVariants.{Identity}
use Rattle.nc_yang_scopes.specs.Scopes.{Located, Scoping, root}
use Rattle.nc_yang_scopes.specs.Numbers.{AreNumbers, OnNumber}
use Rattle.nc_yang_scopes.specs.Parts.{parts_of}
use Rattle.nc_yang_scopes.proofs.Lists.{past_end}
use Rattle.nc_yang_nodes.specs.Identities.{defined_in}

-- where an element stands
pub contained_at : {A : Type 0} (xs : List A) (x : A) → Contains xs x → (i : ℕ) × (slice_get xs i ≡ Some x)
contained_at xs x h = (h.0, slice_get-get_or xs h.0 x h.1 ∙ ap Some h.2)

pub numbers_length : (located : List Located) (ns : List ℕ) (ls : List Located) → AreNumbers located ns ls → length ns ≡ length ls
numbers_length located ns ls are = sym (length-map ns (slice_get located)) ∙ ap length are ∙ length-map ls Some

-- the statement of the number in a place
pub number_at_place : (located : List Located) (ns : List ℕ) (ls : List Located) (i n : ℕ) → AreNumbers located ns ls → slice_get ns i ≡ Some n →
    (l : Located) × (slice_get ls i ≡ Some l) × (slice_get located n ≡ Some l)
number_at_place located [] ls i n are at = absurd (cc)
number_at_place located (m ∷ ns) [] i n are at = absurd (cc)
number_at_place located (m ∷ ns) (l ∷ ls) zero n are at =
    let same : m ≡ n = cc in
    let here : slice_get located m ≡ Some l = cc in
    (l, refl, sym (ap (slice_get located) same) ∙ here)
number_at_place located (m ∷ ns) (l ∷ ls) (suc i) n are at = let rest : map (slice_get located) ns ≡ map Some ls = cc in number_at_place located ns ls i n rest at

pub numbers_append : (located : List Located) (ns ms : List ℕ) (ls ks : List Located) → AreNumbers located ns ls → AreNumbers located ms ks → AreNumbers located (ns ++ ms) (ls ++ ks)
numbers_append located ns ms ls ks a b =
    map-append (slice_get located) ns ms ∙ ap (λ z. z ++ map (slice_get located) ms) a ∙ ap (λ z. map Some ls ++ z) b ∙ sym (map-append Some ls ks)

pub numbers_push : (located : List Located) (ns : List ℕ) (ls : List Located) (n : ℕ) (l : Located) → AreNumbers located ns ls → slice_get located n ≡ Some l → AreNumbers located (ns ++ n ∷ []) (ls ++ l ∷ [])
numbers_push located ns ls n l a at = numbers_append located ns (n ∷ []) ls (l ∷ []) a (ap (λ o. o ∷ []) at)

pub range_more : (a n : ℕ) → range_with_len a (n + 1) ≡ range_with_len a n ++ (a + n) ∷ []
range_more a zero = let e : a ≡ a + 0 = omega arith in ap (λ z. z ∷ []) e
range_more a (suc n) =
    let e : suc n + 1 ≡ suc (n + 1) = omega arith in
    let f : a + 1 + n ≡ a + suc n = omega arith in
    ap (range_with_len a) e ∙ ap (λ zs. a ∷ zs) (range_more (a + 1) n) ∙ ap (λ z. a ∷ (range_with_len (a + 1) n ++ z ∷ [])) f

-- what each of the first numbers gives, with one number more
pub flat_range_more : {A : Type 0} (f : ℕ → List A) (n : ℕ) → flat_map f (range_with_len 0 (n + 1)) ≡ flat_map f (range_with_len 0 n) ++ f n
flat_range_more f n =
    let e : 0 + n ≡ n = omega arith in
    ap (flat_map f) (range_more 0 n) ∙ flat_map-append f (range_with_len 0 n) ((0 + n) ∷ [])
    ∙ ap (λ z. flat_map f (range_with_len 0 n) ++ z) (append-nil (f (0 + n)) ∙ ap f e)

-- the identities of the module of a text
pub defined_there : (scoping : Scoping) (text n : ℕ) → text < length scoping.texts → slice_get scoping.located n ≡ root scoping.texts text → (r : Result (List ℕ) Memory) →
    IfOk r (λ it. OnNumber scoping n (λ l. AreNumbers scoping.located it (parts_of Identity l))) → IfOk r (λ it. AreNumbers scoping.located it (defined_in scoping.texts text))
defined_there scoping text n within at (Err e) h = tt
defined_there scoping text n within at (Ok it) h = by (slice_get scoping.texts text) refl
  where
    by : (o : Option Statement) → slice_get scoping.texts text ≡ o → AreNumbers scoping.located it (defined_in scoping.texts text)
    by None e = absurd (let past = past_end scoping.texts text e in omega arith)
    by (Some s) e =
        let there : root scoping.texts text ≡ Some (record { statement = s; place = record { text = text; blocks = [] } }) = ap (option_map (λ z. record { statement = z; place = record { text = text; blocks = [] } })) e in
        subst (λ o. AreNumbers scoping.located it (option_map_or (parts_of Identity) o [])) (sym there) (h (record { statement = s; place = record { text = text; blocks = [] } }) (at ∙ there))
