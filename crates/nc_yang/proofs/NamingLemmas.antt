-- The names of identities, one after another.
use Rattle.std.proofs.Common.{◌≡◌, ◌<◌, ◌+◌, ℕ, List, [], ◌∷◌, ◌++◌, length, take, map, get_or, refl, sym, ap, subst, ◌∙◌}
use Rattle.std.specs.Prelude.{Option, Some, None, slice_get, option_map, Result, Ok, Err, IfOk}
use Rattle.std.specs.Option.{option_map_or}
use Rattle.std.proofs.lemmas.List.{map-append}
use Rattle.std.proofs.lemmas.Option.{slice_get-get_or, slice_get-map}
use Rattle.nc_names.specs.declared.memory.Memory.{Memory}
use Rattle.nc_names.specs.declared.name.QName.{QName}
use Rattle.nc_yang_words.specs.declared.statement.Statement.{Statement}
use Rattle.nc_yang_statements.specs.Statements.{name as word_of}
use Rattle.nc_yang_scopes.specs.Numbers.{AreNumbers}
use Rattle.nc_yang_scopes.specs.Prefixes.{namespace_at, namespace_in}
use Rattle.nc_yang_scopes.specs.Scopes.{Located, Scoping}
use Rattle.nc_yang_scopes.proofs.Lists.{take_next}
use Rattle.nc_yang_nodes.specs.Roles.{FeatureTest}
use Rattle.nc_yang_nodes.specs.Values.{AreDerivedNumbers}
use Rattle.nc_yang.specs.Schemas.{AreNames, identity_name}
use Rattle.nc_yang.specs.inner.Names.{name_at}

-- the namespace of a text by those of all
space_is : (texts : List Statement) (text : ℕ) (spaces : List (List ℕ)) (space : List ℕ) → spaces ≡ map namespace_in texts → slice_get spaces text ≡ Some space
    → namespace_at texts text ≡ space
space_is texts text spaces space are at = by (slice_get texts text) (sym (slice_get-map namespace_in texts text) ∙ sym (ap (λ z. slice_get z text) are) ∙ at)
  where
    by : (o : Option Statement) → option_map namespace_in o ≡ Some space → option_map_or namespace_in o [] ≡ space
    by None e = absurd (cc)
    by (Some root) e = cc

-- the name of the identity of a number
pub name_is : (scoping : Scoping) (number text : ℕ) (s : Statement) (spaces : List (List ℕ)) (space first second : List ℕ) → spaces ≡ map namespace_in scoping.texts
    → Some text ≡ option_map (λ (l : Located). l.place.text) (slice_get scoping.located number) → Some s ≡ option_map (λ (l : Located). l.statement) (slice_get scoping.located number)
    → slice_get spaces text ≡ Some space → first ≡ space → second ≡ word_of s → Some (record { space = first; name = second }) ≡ name_at scoping number
name_is scoping number text s spaces space first second are of_text of_statement at first_is second_is = by (slice_get scoping.located number) of_text of_statement
  where
    by : (o : Option Located) → Some text ≡ option_map (λ (l : Located). l.place.text) o → Some s ≡ option_map (λ (l : Located). l.statement) o
        → Some (record { space = first; name = second }) ≡ option_map (identity_name scoping.texts) o
    by None e f = absurd (cc)
    by (Some l) e f =
        let same_text : text ≡ l.place.text = cc in
        let same : s ≡ l.statement = cc in
        let left : first ≡ namespace_at scoping.texts l.place.text = first_is ∙ sym (space_is scoping.texts text spaces space are at) ∙ ap (namespace_at scoping.texts) same_text in
        let right : second ≡ word_of l.statement = second_is ∙ ap word_of same in
        let one : record { space = first; name = second } ≡ identity_name scoping.texts l =
        ap (λ z. record { space = z; name = second }) left ∙ ap (λ z. record { space = namespace_at scoping.texts l.place.text; name = z }) right in
        ap Some one

pub named_more : (scoping : Scoping) (numbers : List ℕ) (i n : ℕ) (names new : List QName) (name : QName) → i < length numbers → n ≡ get_or numbers i 0
    → map Some names ≡ map (name_at scoping) (take i numbers) → Some name ≡ name_at scoping n → new ≡ names ++ name ∷ []
    → map Some new ≡ map (name_at scoping) (take (i + 1) numbers)
named_more scoping numbers i n names new name less n_is so_far is new_is =
    let there : slice_get numbers i ≡ Some n = slice_get-get_or numbers i 0 less ∙ ap Some (sym n_is) in
    ap (map Some) new_is ∙ map-append Some names (name ∷ []) ∙ ap (λ z. z ++ Some name ∷ []) so_far
    ∙ ap (λ z. map (name_at scoping) (take i numbers) ++ z ∷ []) is
    ∙ sym (ap (map (name_at scoping)) (take_next numbers i n there) ∙ map-append (name_at scoping) (take i numbers) (n ∷ []))

named : (scoping : Scoping) (numbers : List ℕ) (found : List Located) (names : List QName) → map (slice_get scoping.located) numbers ≡ map Some found
    → map Some names ≡ map (name_at scoping) numbers → names ≡ map (identity_name scoping.texts) found
named scoping [] [] [] e f = refl
named scoping [] [] (x ∷ xs) e f = absurd (cc)
named scoping [] (l ∷ ls) xs e f = absurd (cc)
named scoping (n ∷ ns) [] xs e f = absurd (cc)
named scoping (n ∷ ns) (l ∷ ls) [] e f = absurd (cc)
named scoping (n ∷ ns) (l ∷ ls) (x ∷ xs) e f =
    let here : slice_get scoping.located n ≡ Some l = cc in
    let name : Some x ≡ name_at scoping n = cc in
    let first : Some x ≡ Some (identity_name scoping.texts l) = name ∙ ap (option_map (identity_name scoping.texts)) here in
    let same : x ≡ identity_name scoping.texts l = cc in
    let rest : xs ≡ map (identity_name scoping.texts) ls = named scoping ns ls xs (cc) (cc) in
    ap (λ z. z ∷ xs) same ∙ ap (λ z. identity_name scoping.texts l ∷ z) rest

pub names_are : (scoping : Scoping) (on : FeatureTest) (bases : List Located) (numbers : List ℕ) (names : List QName) → AreDerivedNumbers scoping on bases numbers
    → map Some names ≡ map (name_at scoping) numbers → AreNames scoping on bases names
names_are scoping on bases numbers names derived all = (derived.0, derived.2, named scoping numbers derived.0 names derived.1 all)

-- over identities and texts that are kept
pub are_named : (scoping scopes kept : Scoping) (on : FeatureTest) (bases numbers given : List ℕ) (result : Result (List QName) Memory) → kept ≡ scopes → scopes ≡ scoping
    → ((ls : List Located) → AreNumbers kept.located bases ls → AreDerivedNumbers kept on ls numbers) → given ≡ numbers
    → IfOk result (λ it. map Some it ≡ map (name_at scopes) given)
    → IfOk result (λ it. (ls : List Located) → AreNumbers scoping.located bases ls → AreNames scoping on ls it)
are_named scoping scopes kept on bases numbers given (Err e) kept_is scopes_is derived given_is named_is = tt
are_named scoping scopes kept on bases numbers given (Ok names) kept_is scopes_is derived given_is named_is = λ ls are.
    let all : AreDerivedNumbers scoping on ls numbers = subst (λ (s : Scoping). AreNumbers s.located bases ls → AreDerivedNumbers s on ls numbers) (kept_is ∙ scopes_is) (derived ls) are in
    names_are scoping on ls numbers names all
    (named_is ∙ ap (map (name_at scopes)) given_is ∙ ap (λ (s : Scoping). map (name_at s) numbers) scopes_is)
