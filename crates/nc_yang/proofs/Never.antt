-- Modules that have a schema break no rule.
use Rattle.std.proofs.Common.{inl, inr, ◌≡◌, ◌⊎◌, ◌&&◌, ℕ, Bool, true, false, cond, List, [], ◌∷◌, map, slice_index_or, refl, sym, ap, subst, ◌∙◌}
use Rattle.std.specs.Prelude.{Contains, None, Some, option_map, slice_get}
use Rattle.std.specs.List.{list_all}
use Rattle.std.proofs.lemmas.Option.{slice_get-get_or, slice_get_within}
use Rattle.nc_names.specs.declared.name.Bound.{Bound}
use Rattle.nc_names.specs.declared.name.QName.{QName}
use Rattle.nc_patterns.specs.Admits.{admits, admits_each}
use Rattle.nc_schema.specs.Tables.{Tables}
use Rattle.nc_schema.specs.Values.{canonical, type_of as kind_at}
use Rattle.nc_yang_statements.specs.declared.fault.Fault.{Fault}
use Rattle.nc_yang_statements.specs.Statements.{name}
use Rattle.nc_yang_order.proofs.Lists.{contains_none}
use Rattle.nc_yang_scopes.specs.Scopes.{Located, Scoping}
use Rattle.nc_yang_scopes.specs.declared.naming.TextFault.{TextFault}
use Rattle.nc_yang_scopes.proofs.Scopings.{one_scoping}
use Rattle.nc_yang.specs.Rules.{BreaksText, KeepsTexts}
use Rattle.nc_yang.specs.declared.text.ModuleText.{ModuleText}
use Rattle.nc_yang_nodes.specs.Plans.{IsPlan}
use Rattle.nc_yang_nodes.specs.Roles.{FeatureTest}
use Rattle.nc_yang_nodes.specs.Supported.{AreOn}
use Rattle.nc_yang_nodes.specs.declared.planned.Plan.{Plan}
use Rattle.nc_yang_nodes.specs.Alike.{AreAlike}
use Rattle.nc_yang_nodes.proofs.Alike.{plans_alike}
use Rattle.nc_yang_nodes.proofs.Lawful.{no_fault}
use Rattle.nc_yang_nodes.specs.Picks.{Picks, none, passed, picked}
use Rattle.nc_yang_nodes.specs.Identities.{identities}
use Rattle.nc_yang_nodes.specs.Values.{IsValue}
use Rattle.nc_yang_nodes.proofs.PickLemmas.{first_of}
use Rattle.nc_yang_data.specs.Data.{data_faults, data_tables}
use Rattle.nc_yang_data.proofs.AlikeLemmas.{faults_alike, tables_alike}
use Rattle.nc_yang_types.specs.Faults.{KeepsTypes}
use Rattle.nc_yang_leafs.specs.Bases.{AllMeanWhole, Basis, type_of}
use Rattle.nc_yang_leafs.specs.Conditions.{holds}
use Rattle.nc_yang_leafs.specs.Patterns.{without_patterns}
use Rattle.nc_yang_leafs.specs.Typings.{HasTypings, IsTyped, NameEach}
use Rattle.nc_yang_leafs.proofs.PatternLemmas.{NamesNone, bare_typings}
use Rattle.nc_yang_leafs.specs.Circles.{HasNoCircle}
use Rattle.nc_yang_leafs.specs.Defaults.{BreaksDefault, KeepsDefaults}
use Rattle.nc_yang_leafs.specs.Readings.{value_of}
use Rattle.nc_yang_leafs.proofs.AlikeLemmas.{TakesAlike, canonical_alike, defaults_kept, keep_alike, path_tables, value_alike}
use Rattle.nc_yang.specs.Access.{in_file}
use Rattle.nc_yang.specs.Depths.{BreaksDepth, KeepsDepth, depth_fault, too_many_at}
use Rattle.nc_yang.specs.Features.{is_given}
use Rattle.nc_yang.specs.Laws.{NeverBoth, reference_at}
use Rattle.nc_yang.specs.Schemas.{AreNames, Breaks, BreaksBare, BreaksPlan, BreaksSchema, BreaksTypedefs, Defines, GivesSchema, IsBareOf, IsBegun, IsSchemaOf, KeepsTypedefs, basis, basis_of, by_pattern, by_types, circle, deep, default, identity_name, ill_typed, in_place, in_plan, in_schema, leafref, of_typedef, past, suits_none, text, typedef_basis, unadmitted, unread}
use Rattle.nc_yang.specs.Typedefs.{AreJudged, IsJudged, typedef_plan, typedef_tables, typedefs}
use Rattle.nc_yang.proofs.DataTypes.{data_types_mean}
use Rattle.nc_yang.proofs.Reading.{have_one_way, have_or_faulty}
use Rattle.nc_yang.proofs.LeafTypes.{LeafAt, leaf_at, leaf_there, leafs_end, no_path_lost, nodes_paired, paths_as_given}
use Rattle.nc_yang.proofs.SameDepths.{deep_alike}
use Rattle.nc_yang.proofs.SamePlans.{circle_here, deep_here, default_here, lost_here, typed_here}
use Rattle.nc_yang.proofs.SameTypes.{Both, Kinds, nodes_take, references_alike, whole_alike}
use Rattle.nc_yang.proofs.TypedefLemmas.{tables_same, typedefs_alike, typedefs_mean}

-- ---- identities are picked in one way
picks_one : {A : Type 0} (P : A → Type 0) (xs ys zs : List A) → Picks P xs ys → Picks P xs zs → ys ≡ zs
picks_one {A} P _ _ zs none second = by zs second
  where
    by : (zs : List A) → Picks P [] zs → [] ≡ zs
    by _ none = refl
picks_one P _ _ zs (picked x xs ys p more) second =
    let f = first_of P x xs zs second in
    elim f.is [
      | inl here ↦ ap (λ rest. x ∷ rest) (picks_one P xs ys f.rest more f.more) ∙ sym here.0
      | inr gone ↦ absurd (gone.1 p)
    ]
picks_one P _ _ zs (passed x xs ys not_p more) second =
    let f = first_of P x xs zs second in
    elim f.is [
      | inl here ↦ absurd (not_p here.1)
      | inr gone ↦ picks_one P xs ys f.rest more f.more ∙ sym gone.0
    ]

-- ---- patterns
-- numbers that name the same patterns admit the same
named_admits : (patterns : List (List ℕ)) (ns : List ℕ) (ps : List Located) → NameEach patterns ns ps → (value : List ℕ) →
    admits_each patterns ns value ≡ list_all (λ (p : Located). admits (name p.statement) value) ps
named_admits patterns [] [] e value = refl
named_admits patterns [] (p ∷ ps) e value = absurd (cc)
named_admits patterns (n ∷ ns) [] e value = absurd (cc)
named_admits patterns (n ∷ ns) (p ∷ ps) e value =
    let here : slice_get patterns n ≡ Some (name p.statement) = cc in
    let rest : NameEach patterns ns ps = cc in
    let there = slice_get-get_or patterns n [] (slice_get_within patterns n (name p.statement) here) in
    let first : slice_index_or patterns n [] ≡ name p.statement = cc in
    let more = named_admits patterns ns ps rest value in
    λ i. admits (first i) value && more i

pub each_agree : (one other : List (List ℕ)) (ns ms : List ℕ) (ps : List Located) → NameEach one ns ps → NameEach other ms ps → (value : List ℕ) → admits_each one ns value ≡ admits_each other ms value
each_agree one other ns ms ps a c value = named_admits one ns ps a value ∙ sym (named_admits other ms ps c value)

pub none_agree : (one other : List (List ℕ)) (ns ms : List ℕ) (ps : List Located) → NamesNone ns ps → NamesNone ms ps → (value : List ℕ) → admits_each one ns value ≡ admits_each other ms value
none_agree one other ns ms ps a c value = ap (λ z. admits_each one z value) a ∙ sym (ap (λ z. admits_each other z value) c)

-- ---- features
same_answer : (a b : Bool) → (a ≡ true → b ≡ true) → (b ≡ true → a ≡ true) → a ≡ b
same_answer true b to back = sym (to refl)
same_answer false true to back = back refl
same_answer false false to back = refl

pub one_on : (scoping : Scoping) (given on other : FeatureTest) → AreOn scoping given on → AreOn scoping given other → on ≡ other
one_on scoping given on other a b = λ i number word.
    same_answer (on number word) (other number word) (b.most on a.among a.together number word) (a.most other b.among b.together number word) i

module _ (scoping : Scoping) (on : FeatureTest) where
  names_one : (bases : List Located) (xs ys : List QName) → AreNames scoping on bases xs → AreNames scoping on bases ys → xs ≡ ys
  names_one bases xs ys a b = a.2 ∙ ap (map (identity_name scoping.texts)) (picks_one (IsValue scoping.texts on bases) (identities scoping.texts) a.0 b.0 a.1 b.1) ∙ sym b.2

  abbrev derived : List Located → List QName → Type 0
  derived = AreNames scoping on

  module _ (plan : Plan) (given : Tables) (whole : AllMeanWhole (basis_of scoping on plan given)) where
    abbrev stands_on : Basis
    stands_on = basis_of scoping on plan given

    module _ (t u : Tables) (named other : List ℕ → List Located → Type 0) (one : HasTypings derived named stands_on t) (two : HasTypings derived other stands_on u)
        (agree : (ns ms : List ℕ) (ps : List Located) → named ns ps → other ms ps → (text : List ℕ) → admits_each t.patterns ns text ≡ admits_each u.patterns ms text) where
      abbrev alike : path_tables t ≡ path_tables u
      alike = paths_as_given derived named stands_on t one ∙ sym (paths_as_given derived other stands_on u two)

      kinds : (n : ℕ) → Kinds derived names_one stands_on t u alike named other agree n
      kinds n = by (leaf_at derived named stands_on t one whole n) (leaf_at derived other stands_on u two whole n)
        where
          both : LeafAt derived named stands_on t n → Both derived names_one stands_on t u alike named other agree n
          both a =
              let c = leaf_there derived other stands_on u two n a.node a.there a.valued a.l a.is in
              record { l = a.l; one = a.number; twin = c.number; one_is = a.kind; other_is = c.kind; one_has = a.has; other_has = c.has }

          by : (kind_at t n ≡ None) ⊎ LeafAt derived named stands_on t n → (kind_at u n ≡ None) ⊎ LeafAt derived other stands_on u n →
              Kinds derived names_one stands_on t u alike named other agree n
          by (inl a) (inl c) = inl (a, c)
          by (inr a) c = inr (both a)
          by (inl a) (inr c) = inr (both (leaf_there derived named stands_on t one n c.node c.there c.valued c.l c.is))

      -- no value is read through too many types in the other
      depths_keep : (found : TextFault) → KeepsDepth scoping plan t → BreaksDepth scoping plan u found → ⊥
      depths_keep found good (number, is) =
          let same : depth_fault scoping plan t number ≡ depth_fault scoping plan u number =
          ap (λ b. cond b (option_map too_many_at (type_of scoping plan number)) None) (deep_alike derived names_one stands_on t u alike named other agree kinds number) in
          let gone : None ≡ Some found = sym (good number) ∙ same ∙ is in
          absurd (cc)

      pub references_same : (n : ℕ) → reference_at t n ≡ reference_at u n
      references_same = references_alike derived names_one stands_on t u alike named other agree kinds

      module _ (straight : HasNoCircle stands_on) where
        takes_same : TakesAlike t u alike
        takes_same =
            nodes_take derived names_one stands_on t u alike named other agree kinds (leafs_end derived named stands_on t (leaf_at derived named stands_on t one whole) straight)
            (leafs_end derived other stands_on u (leaf_at derived other stands_on u two whole) straight)

        -- they take the same values
        pub texts_same : (n : ℕ) (text : List ℕ) (bounds : List Bound) → canonical t n text bounds ≡ canonical u n text bounds
        texts_same = canonical_alike t u alike takes_same

        pub values_same : (n : ℕ) → value_of scoping.texts t n ≡ value_of scoping.texts u n
        values_same = value_alike t u alike takes_same (whole_alike derived names_one stands_on t u alike named other agree kinds) scoping.texts

        -- the defaults of one break no rule in the other
        defaults_keep : (fault : TextFault) → KeepsDefaults scoping plan t → BreaksDefault scoping plan u fault → ⊥
        defaults_keep fault good bad = keep_alike scoping plan t u fault values_same (nodes_paired derived named other stands_on t u one two) good bad

    -- data nodes whose types keep all rules break none
    bare_broken : (t : Tables) → IsBareOf scoping on plan given t → (found : TextFault) → BreaksBare scoping on plan given found → ⊥
    bare_broken t good _ (circle found h) = good.straight found h
    bare_broken t good _ (leafref found h) = no_path_lost derived (NameEach t.patterns) stands_on t good.types found h
    bare_broken t good _ (deep found typed straight is h) =
        depths_keep (without_patterns t) (without_patterns typed) NamesNone NamesNone (bare_typings derived (NameEach t.patterns) stands_on t good.types)
        (bare_typings derived (NameEach typed.patterns) stands_on typed is) (none_agree [] []) found good.shallow h
    bare_broken t good _ (default found typed straight is h) =
        defaults_keep (without_patterns t) (without_patterns typed) NamesNone NamesNone (bare_typings derived (NameEach t.patterns) stands_on t good.types)
        (bare_typings derived (NameEach typed.patterns) stands_on typed is) (none_agree [] []) good.straight found good.defaults h

  -- rules that such a plan breaks are broken by one that is like it
  module _ (one other : Plan) (alike : AreAlike scoping one other) (given : Tables) where
    bare_here : HasNoCircle (basis_of scoping on one given) → (found : TextFault) → BreaksBare scoping on other given found → BreaksBare scoping on one given found
    bare_here straight _ (circle found h) = circle found (circle_here scoping one other alike (holds scoping.texts on) given found h)
    bare_here straight _ (leafref found h) = leafref found (lost_here scoping one other alike (holds scoping.texts on) given found h)
    bare_here straight _ (deep found typed also is h) =
        deep found typed straight (typed_here scoping one other alike (holds scoping.texts on) given derived (NameEach typed.patterns) typed is)
        (deep_here scoping one other alike (without_patterns typed) found h)
    bare_here straight _ (default found typed also is h) =
        default found typed straight (typed_here scoping one other alike (holds scoping.texts on) given derived (NameEach typed.patterns) typed is)
        (default_here scoping one other alike (without_patterns typed) found h)

  -- ---- typedefs that are judged
  module _ (keeps : KeepsTexts scoping.texts) (types : KeepsTypes (holds scoping.texts on) scoping.texts) (good : KeepsTypedefs scoping on) where
    same_numbers : (numbers : List ℕ) → AreJudged (holds scoping.texts on) scoping numbers → map (slice_get scoping.located) good.numbers ≡ map (slice_get scoping.located) numbers
    same_numbers numbers are =
        let same : are.0 ≡ good.suited.are.0 = picks_one (IsJudged (holds scoping.texts on) scoping.texts) (typedefs scoping.texts) are.0 good.suited.are.0 are.2 good.suited.are.2 in
        good.suited.are.1 ∙ sym (ap (map Some) same) ∙ sym are.1

    typedefs_whole : AllMeanWhole (typedef_basis scoping on good.numbers)
    typedefs_whole = typedefs_mean (holds scoping.texts on) scoping on keeps types good.numbers good.suited.are

    module _ (numbers : List ℕ) (are : AreJudged (holds scoping.texts on) scoping numbers) where
      abbrev typedefs_same : typedef_tables scoping on good.numbers ≡ typedef_tables scoping on numbers
      typedefs_same = tables_same scoping on good.numbers numbers (same_numbers numbers are)

      abbrev plans_same : AreAlike scoping (typedef_plan good.numbers) (typedef_plan numbers)
      plans_same = typedefs_alike scoping good.numbers numbers (same_numbers numbers are)

      -- types of those leafs are types of these
      types_there : (typed : Tables) → IsTyped derived (typedef_basis scoping on numbers) typed → IsTyped derived (typedef_basis scoping on good.numbers) typed
      types_there typed is =
          typed_here scoping (typedef_plan good.numbers) (typedef_plan numbers) plans_same (holds scoping.texts on) (typedef_tables scoping on good.numbers) derived (NameEach typed.patterns) typed
          (subst (λ g. IsTyped derived (basis_of scoping on (typedef_plan numbers) g) typed) (sym typedefs_same) is)

      bare_typedef : (found : TextFault) → BreaksBare scoping on (typedef_plan numbers) (typedef_tables scoping on numbers) found → ⊥
      bare_typedef found breaks =
          bare_broken (typedef_plan good.numbers) (typedef_tables scoping on good.numbers) typedefs_whole good.typed good.suited.bare found
          (bare_here (typedef_plan good.numbers) (typedef_plan numbers) plans_same (typedef_tables scoping on good.numbers) good.suited.bare.straight found
          (subst (λ g. BreaksBare scoping on (typedef_plan numbers) g found) (sym typedefs_same) breaks))

      default_typedef : (typed : Tables) (found : TextFault) → IsTyped derived (typedef_basis scoping on numbers) typed → BreaksDefault scoping (typedef_plan numbers) typed found → ⊥
      default_typedef typed found is breaks =
          defaults_keep (typedef_plan good.numbers) (typedef_tables scoping on good.numbers) typedefs_whole good.typed typed (NameEach good.typed.patterns) (NameEach typed.patterns) good.suited.bare.types
          (types_there typed is) (each_agree good.typed.patterns typed.patterns) good.suited.bare.straight found good.defaults
          (default_here scoping (typedef_plan good.numbers) (typedef_plan numbers) plans_same typed found breaks)

    typedef_broken : (found : TextFault) → BreaksTypedefs scoping on found → ⊥
    typedef_broken _ (suits_none numbers found are breaks) = bare_typedef numbers are found breaks
    typedef_broken _ (unadmitted numbers typed found suited breaks) = default_typedef numbers suited.are typed found suited.bare.types breaks

  -- ---- a schema of a plan, and rules that another plan of the same modules breaks
  module _ (keeps : KeepsTexts scoping.texts) (types : KeepsTypes (holds scoping.texts on) scoping.texts) (plan : Plan) (planned : IsPlan scoping on plan)
      (tables : Tables) (schema : IsSchemaOf scoping on plan tables) where
    whole : AllMeanWhole (basis scoping on plan)
    whole = data_types_mean (holds scoping.texts on) scoping on plan keeps types planned

    module _ (other : Plan) (also : IsPlan scoping on other) where
      same_tables : data_tables scoping on other ≡ data_tables scoping on plan
      same_tables = tables_alike scoping on other plan (plans_alike scoping on other plan also planned)

      abbrev other_on : Tables → Basis
      other_on given = record { on = holds scoping.texts on; scoping = scoping; plan = other; given = given }

      no_fault_in_place : (found : TextFault) → Contains (data_faults scoping on other) found → ⊥
      no_fault_in_place found h =
          contains_none found
          (subst (λ z. Contains z found) (faults_alike scoping on other plan (plans_alike scoping on other plan also planned) ∙ schema.is.keeps) h)

      -- types of the other plan are types of this one
      here : (typed : Tables) → IsTyped derived (basis scoping on other) typed → IsTyped derived (basis scoping on plan) typed
      here typed is =
          typed_here scoping plan other (plans_alike scoping on plan other planned also) (holds scoping.texts on) (data_tables scoping on plan) derived (NameEach typed.patterns) typed
          (subst (λ z. IsTyped derived (other_on z) typed) same_tables is)

      plan_broken : (found : TextFault) → BreaksPlan scoping on other found → ⊥
      plan_broken _ (in_place found h) = no_fault_in_place found h
      plan_broken _ (by_types found clean h) =
          bare_broken plan (data_tables scoping on plan) whole schema.typed schema.is.bare found
          (bare_here plan other (plans_alike scoping on plan other planned also) (data_tables scoping on plan) schema.is.bare.straight found
          (subst (λ z. BreaksBare scoping on other z found) same_tables h))
      plan_broken _ (by_pattern found typed is h) =
          defaults_keep plan (data_tables scoping on plan) whole schema.typed typed (NameEach schema.typed.patterns) (NameEach typed.patterns) schema.is.bare.types (here typed is.bare.types)
          (each_agree schema.typed.patterns typed.patterns) schema.is.bare.straight found (defaults_kept scoping plan schema.typed tables schema.defaults)
          (default_here scoping plan other (plans_alike scoping on plan other planned also) typed found h)

  schema_broken : (tables : Tables) → KeepsTexts scoping.texts → GivesSchema scoping on tables → (found : TextFault) → BreaksSchema scoping on found → ⊥
  schema_broken tables keeps g _ (ill_typed found h) = g.types found.text found.fault h
  schema_broken tables keeps g _ (of_typedef found types h) = typedef_broken keeps g.types g.typedefs found h
  schema_broken tables keeps g _ (past found h) = no_fault scoping on g.plan found g.planned h
  schema_broken tables keeps g _ (in_plan plan found types planned h) = plan_broken keeps types g.plan g.planned tables g.is plan planned found h

-- ---- modules
module _ (modules : List ModuleText) (lines : List (List ℕ)) (tables : Tables) (d : Defines modules lines tables) where
  begun_broken : (scoping : Scoping) (on : FeatureTest) (found : TextFault) → IsBegun modules lines scoping on → BreaksSchema scoping on found → ⊥
  begun_broken scoping on found begun breaks =
      let same : scoping ≡ d.scoping =
      one_scoping scoping d.scoping begun.numbers d.begun.numbers (have_one_way modules scoping.texts d.scoping.texts begun.read d.begun.read) in
      by scoping same begun breaks
    where
      here : (on : FeatureTest) → IsBegun modules lines d.scoping on → BreaksSchema d.scoping on found → ⊥
      here on begun breaks =
          let same = one_on d.scoping (is_given d.scoping.texts lines) on d.on begun.features d.begun.features in
          schema_broken d.scoping d.on tables d.begun.keeps d.gives found (subst (λ z. BreaksSchema d.scoping z found) same breaks)

      by : (s : Scoping) → s ≡ d.scoping → IsBegun modules lines s on → BreaksSchema s on found → ⊥
      by s same begun breaks =
          here on (subst (λ z. IsBegun modules lines z on) same begun) (subst (λ z. BreaksSchema z on found) same breaks)

  broken : (file : ℕ) (fault : Fault) → Breaks modules lines file fault → ⊥
  broken _ _ (unread file fault h) = have_or_faulty modules d.scoping.texts file fault d.begun.read h
  broken _ _ (text texts file fault read h) =
      d.begun.keeps (in_file file fault) (subst (λ z. BreaksText z (in_file file fault)) (have_one_way modules texts d.scoping.texts read d.begun.read) h)
  broken _ _ (in_schema scoping on file fault begun h) = begun_broken scoping on (in_file file fault) begun h

pub never_both : NeverBoth
never_both modules lines tables file fault d h = broken modules lines tables d file fault h
