-- Modules that keep all rules have names and namespaces, each its own.
use Rattle.std.proofs.Common.{inl, inr, ◌≡◌, ◌≢◌, ◌+◌, ◌<◌, ◌++◌, ◌||◌, ℕ, zero, suc, Bool, true, false, cond, List, [], ◌∷◌, not, refl, sym, ap, subst, ◌∙◌, arith}
use Rattle.std.specs.Prelude.{Option, Some, None, slice_get, option_map, Contains}
use Rattle.std.specs.Cmp.Lexicographic.{bytes_decides}
use Rattle.std.specs.List.{All, AllPairs, list_any}
use Rattle.std.specs.Option.{option_map_or}
use Rattle.std.proofs.lemmas.List.Elements.{All-cons, All-nil, Contains-append_left, Contains-append_right}
use Rattle.std.proofs.lemmas.List.Kept.{AllPairs-cons}
use Rattle.nc_names.proofs.SameLemmas.{first_true}
use Rattle.nc_names.specs.Identifiers.{is_identifier}
use Rattle.nc_names.specs.Same.{is_same_text}
use Rattle.nc_names.specs.declared.name.Module.{Module as SchemaModule}
use Rattle.nc_schema.specs.Proper.{IsProperModule}
use Rattle.nc_yang_words.specs.declared.statement.Statement.{Statement}
use Rattle.nc_yang_statements.specs.declared.fault.Fault.{Fault}
use Rattle.nc_yang_statements.specs.declared.fault.ModuleWhy.{ModuleWhy}
use Rattle.nc_yang_statements.specs.declared.fault.ModuleWhy.TheVariants.{BadArgument, Twice}
use Rattle.nc_yang_statements.specs.declared.keyword.Keyword.{Keyword}
use Rattle.nc_yang_statements.specs.declared.keyword.Keyword.TheVariants.{Module, Namespace}
use Rattle.nc_yang_statements.specs.Arguments.{begins_xml, is_module_name, is_nothing, why_misfit, why_unless}
use Rattle.nc_yang_statements.specs.Keywords.{is_same_keyword, keywords}
use Rattle.nc_yang_statements.specs.Places.{count_of, is_once}
use Rattle.nc_yang_statements.specs.Rules.{at, broken, faulty_below, misfit, why_root}
use Rattle.nc_yang_statements.specs.Statements.{argument, below, kind, line, name, part, text_or_nothing}
use Rattle.nc_yang_statements.proofs.Tags.{same_keyword}
use Rattle.nc_yang_order.proofs.Lists.{contains_none}
use Rattle.nc_yang_scopes.proofs.LinkLists.{contains_cases, contains_first}
use Rattle.nc_yang_scopes.specs.declared.modules.Title.{Title}
use Rattle.nc_yang_scopes.specs.declared.modules.Title.TheVariants.{OfName, OfNamespace}
use Rattle.nc_yang_scopes.specs.declared.naming.TextFault.{TextFault}
use Rattle.nc_yang_scopes.specs.Modules.{has_title, is_second, seconds, title_of, twins}
use Rattle.nc_yang_scopes.specs.Prefixes.{namespace_in}
use Rattle.nc_yang_nodes.specs.Roles.{FeatureTest}
use Rattle.nc_yang.specs.Rules.{KeepsTexts, alone, twin}
use Rattle.nc_yang_data.specs.Modules.{module_of, modules_from}
use Rattle.nc_yang.specs.Laws.{ModulesAreProper}
use Rattle.nc_yang.proofs.Lists.{empty_left, empty_right, find_there, none_there}
use Rattle.nc_yang.proofs.Looked.{Looked, has_needed, has_part, lay, looked_in, module_open, none_broken, put, some_fault, top_looked}

-- ---- arguments that are kept
no_reason : (why : Option ModuleWhy) (s : Statement) → ((fault : Fault) → Contains (at why s) fault → ⊥) → why ≡ None
no_reason None s none = refl
no_reason (Some why) s none = absurd (some_fault (Some why) s refl none)

pub fitting : (s : Statement) → ((fault : Fault) → Contains (broken s) fault → ⊥) → why_misfit (kind s) (argument s) ≡ None
fitting s none =
    no_reason (why_misfit (kind s) (argument s)) s (λ fault h. none fault (Contains-append_left (misfit s) (faulty_below s) fault h))

pub passed : (b : Bool) (why : ModuleWhy) → why_unless b why ≡ None → b ≡ true
passed true why e = refl
passed false why e = absurd (cc)

module_argument : (o : Option (List ℕ)) → why_misfit Module o ≡ None → is_module_name (text_or_nothing o) ≡ true
module_argument None e = absurd (cc)
module_argument (Some text) e = passed (is_module_name text) BadArgument e

space_argument : (o : Option (List ℕ)) → why_misfit Namespace o ≡ None → not (is_nothing (text_or_nothing o)) ≡ true
space_argument None e = absurd (cc)
space_argument (Some text) e = passed (not (is_nothing text)) BadArgument e

not_nothing : (text : List ℕ) → not (is_nothing text) ≡ true → text ≢ []
not_nothing text some none = let empty : false ≡ true = sym (ap (λ z. not (is_nothing z)) none) ∙ some in absurd (cc)

-- a text is of a module
root_is : (s : Statement) (keyword : Keyword) → ((fault : Fault) → Contains (at (why_root keyword) s) fault → ⊥) → Module ≡ keyword
root_is s Module none = refl
root_is s keyword none = absurd (some_fault (why_root keyword) s refl none)

space_key : slice_get keywords 2 ≡ Some Namespace
unfolding keywords
space_key = refl

-- ---- a module
module _ (texts : List Statement) (keeps : KeepsTexts texts) (text : ℕ) (r : Statement) (at_text : slice_get texts text ≡ Some r) where
  is_module : Module ≡ kind r
  is_module = root_is r (kind r) (λ fault h. keeps (record { text = text; fault = fault }) (alone text r fault at_text (inl h)))

  looked : Looked texts (lay text r)
  looked = top_looked texts text r at_text

  pub has_name : is_identifier (name r) ≡ true
  has_name =
      let fits = subst (λ k. why_misfit k (argument r) ≡ None) (sym is_module) (fitting r (none_broken texts keeps (lay text r) looked)) in
      first_true (is_identifier (name r)) (not (begins_xml (name r))) (module_argument (argument r) fits)

  -- its namespace
  pub has_space : (t : Statement) × (part Namespace (below r) ≡ Some t) × (name t ≢ [])
  has_space =
      let is_open = module_open texts keeps text r at_text in
      let asked : is_once (count_of (kind r) Namespace) ≡ true = ap (λ k. is_once (count_of k Namespace)) (sym is_module) in
      let p = has_part Namespace (below r) (has_needed texts keeps (lay text r) Namespace 2 space_key looked is_open asked) in
      let m = find_there (λ t. is_same_keyword Namespace (kind t)) (below r) p.0 p.1 in
      let there = looked_in texts (lay text r) m.0 p.0 looked is_open m.1 in
      let fits = subst (λ k. why_misfit k (argument p.0) ≡ None) (sym (same_keyword Namespace (kind p.0) m.2)) (fitting p.0 (none_broken texts keeps (put (lay text r) p.0) there)) in
      (p.0, p.1, not_nothing (name p.0) (space_argument (argument p.0) fits))

  pub proper : (features : FeatureTest) (number : ℕ) → IsProperModule (module_of features number r)
  proper features number =
      let s = has_space in
      let some : namespace_in r ≢ [] = subst (λ z. z ≢ []) (sym (ap (λ o. option_map_or name o []) s.1)) s.2 in
      record { name = has_name; space = some }

-- ---- modules that have nothing in common
second_off : (b : Bool) (found : TextFault) → cond b (found ∷ []) [] ≡ [] → b ≡ false
second_off true found e = absurd (cc)
second_off false found e = refl

none_passes : {A : Type 0} (test : A → Bool) (xs : List A) (x : A) → list_any test xs ≡ false → Contains xs x → test x ≡ false
none_passes test [] x e h = absurd (contains_none x h)
none_passes {A} test (y ∷ xs) x e h = by (test y) refl e (none_passes test xs x)
  where
    by : (b : Bool) → test y ≡ b → (b || list_any test xs) ≡ false → (list_any test xs ≡ false → Contains xs x → test x ≡ false) → test x ≡ false
    by true is f further = absurd (cc)
    by false is f further = elim (contains_cases y xs x h) [ inl same ↦ subst (λ z. test z ≡ false) same is | inr more ↦ further f more ]

module _ (title : Title) where
  -- one module has not the title of another
  abbrev Apart : Statement → Statement → Type 0
  Apart a s = (w : List ℕ) → title_of title s ≡ Some w → has_title title w a ≡ false

  first_apart : (before : List Statement) (s a : Statement) → is_second title before s ≡ false → Contains before a → Apart a s
  first_apart before s a off h w is =
      none_passes (has_title title w) before a (sym (ap (λ o. option_map_or (λ z. list_any (has_title title z) before) o false) is) ∙ off) h

  abbrev rest_of : ℕ → List Statement → Statement → List Statement → List TextFault
  rest_of number before s ss = seconds title (number + 1) (before ++ s ∷ []) ss

  split_seconds : (number : ℕ) (before : List Statement) (s : Statement) (ss : List Statement) → seconds title number before (s ∷ ss) ≡ [] →
      (is_second title before s ≡ false) × (rest_of number before s ss ≡ [])
  split_seconds number before s ss e =
      let found : TextFault = record { text = number; fault = record { line = line s; why = Twice } } in
      let first_list : List TextFault = cond (is_second title before s) (found ∷ []) [] in (
        second_off (is_second title before s) found (empty_left first_list (rest_of number before s ss) e),
        empty_right first_list (rest_of number before s ss) e,
      )

  behind : (number : ℕ) (before ss : List Statement) → seconds title number before ss ≡ [] → (a : Statement) → Contains before a →
      (j : ℕ) (s : Statement) → slice_get ss j ≡ Some s → Apart a s
  behind number before [] e a h j s is = absurd (cc)
  behind number before (x ∷ ss) e a h zero s is =
      let same : x ≡ s = cc in subst (Apart a) same (first_apart before x a (split_seconds number before x ss e).0 h)
  behind number before (x ∷ ss) e a h (suc j) s is =
      behind (number + 1) (before ++ x ∷ []) ss (split_seconds number before x ss e).1 a (Contains-append_left before (x ∷ []) a h) j s is

  pub apart_by : (number : ℕ) (before ss : List Statement) → seconds title number before ss ≡ [] → (i j : ℕ) (a s : Statement) → i < j →
      slice_get ss i ≡ Some a → slice_get ss j ≡ Some s → Apart a s
  apart_by number before [] e i j a s less first is = absurd (cc)
  apart_by number before (x ∷ ss) e i zero a s less first is = absurd (omega (arith, less))
  apart_by number before (x ∷ ss) e zero (suc j) a s less first is =
      let same : x ≡ a = cc in
      subst (λ z. Apart z s) same
      (behind (number + 1) (before ++ x ∷ []) ss (split_seconds number before x ss e).1 x (Contains-append_right before (x ∷ []) x (contains_first x [])) j s is)
  apart_by number before (x ∷ ss) e (suc i) (suc j) a s less first is =
      apart_by (number + 1) (before ++ x ∷ []) ss (split_seconds number before x ss e).1 i j a s (omega (arith, less)) first is

differ : (a b : List ℕ) → is_same_text a b ≡ false → a ≢ b
differ a b other same = let is = (bytes_decides a b).1 same in let clash : true ≡ false = sym is ∙ other in absurd (cc)

-- two names and two namespaces
abbrev AreTwo : Statement → Statement → Type 0
AreTwo a s = (name a ≢ name s) × (namespace_in a ≢ namespace_in s)

abbrev Differ : SchemaModule → SchemaModule → Type 0
Differ one later = (one.name ≢ later.name) × (one.space ≢ later.space)

module _ (texts : List Statement) (keeps : KeepsTexts texts) where
  no_twins : twins texts ≡ []
  no_twins = none_there (twins texts) (λ found h. keeps found (twin found h))

  two : (i j : ℕ) (a s : Statement) → i < j → slice_get texts i ≡ Some a → slice_get texts j ≡ Some s → AreTwo a s
  two i j a s less first is =
      let of_name = empty_left (seconds OfName 0 [] texts) (seconds OfNamespace 0 [] texts) no_twins in
      let of_space = empty_right (seconds OfName 0 [] texts) (seconds OfNamespace 0 [] texts) no_twins in
      let own = has_space texts keeps i a first in
      let other = has_space texts keeps j s is in
      let own_is : namespace_in a ≡ name own.0 = ap (λ o. option_map_or name o []) own.1 in
      let other_is : namespace_in s ≡ name other.0 = ap (λ o. option_map_or name o []) other.1 in
      let names : is_same_text (name a) (name s) ≡ false = apart_by OfName 0 [] texts of_name i j a s less first is (name s) refl in
      let spaces : has_title OfNamespace (name other.0) a ≡ false = apart_by OfNamespace 0 [] texts of_space i j a s less first is (name other.0) (ap (option_map name) other.1) in
      let texts_differ : is_same_text (name own.0) (name other.0) ≡ false =
      sym (ap (λ o. option_map_or (λ w. is_same_text w (name other.0)) (option_map name o) false) own.1) ∙ spaces in (
        differ (name a) (name s) names,
        (λ same. differ (name own.0) (name other.0) texts_differ (sym own_is ∙ same ∙ other_is)),
      )

-- ---- one module after another
each_proper : (features : FeatureTest) (number : ℕ) (roots : List Statement) → ((i : ℕ) (r : Statement) → slice_get roots i ≡ Some r → (n : ℕ) → IsProperModule (module_of features n r)) →
    All IsProperModule (modules_from features number roots)
each_proper features number [] each = All-nil IsProperModule
each_proper features number (r ∷ roots) each =
    All-cons IsProperModule (module_of features number r) (modules_from features (number + 1) roots) (each 0 r refl number)
    (each_proper features (number + 1) roots (λ i s is. each (suc i) s is))

differs_from : (features : FeatureTest) (one : SchemaModule) (number : ℕ) (roots : List Statement) → ((j : ℕ) (s : Statement) → slice_get roots j ≡ Some s → (n : ℕ) → Differ one (module_of features n s)) →
    All (Differ one) (modules_from features number roots)
differs_from features one number [] each = All-nil (Differ one)
differs_from features one number (r ∷ roots) each =
    All-cons (Differ one) (module_of features number r) (modules_from features (number + 1) roots) (each 0 r refl number)
    (differs_from features one (number + 1) roots (λ j s is. each (suc j) s is))

each_differs : (features : FeatureTest) (number : ℕ) (roots : List Statement) →
    ((i j : ℕ) (a s : Statement) → i < j → slice_get roots i ≡ Some a → slice_get roots j ≡ Some s → AreTwo a s) →
    AllPairs Differ (modules_from features number roots)
each_differs features number [] each = λ i j d less within. absurd (omega (arith, within))
each_differs features number (r ∷ roots) each =
    AllPairs-cons Differ (module_of features number r) (modules_from features (number + 1) roots)
    (differs_from features (module_of features number r) (number + 1) roots (λ j s is n. each 0 (suc j) r s (omega arith) refl is))
    (each_differs features (number + 1) roots (λ i j a s less first is. each (suc i) (suc j) a s (omega (arith, less)) first is))

pub modules_are_proper : ModulesAreProper
modules_are_proper scoping features plan keeps = record {
  modules = each_proper features 0 scoping.texts (λ i r is. proper scoping.texts keeps i r is features);
  modules_apart = each_differs features 0 scoping.texts (two scoping.texts keeps);
}
