-- The type and the defaults of a leaf or leaf-list of whatever schema modules define, by what its `type` statement means.
use Rattle.std.proofs.Common.{◌≡◌, ℕ, true, false, List, [], ◌∷◌, length, refl, sym, ap, subst, ◌∙◌}
use Rattle.std.specs.Prelude.{Bool, Option, Some, None, option_and_then, slice_get}
use Rattle.nc_names.specs.declared.name.QName.{QName}
use Rattle.nc_schema.specs.InstancePaths.{leafref_end}
use Rattle.nc_schema.specs.Kinds.{has_value}
use Rattle.nc_schema.specs.Tables.{Tables}
use Rattle.nc_schema.specs.declared.node.Kind.{Kind}
use Rattle.nc_schema.specs.declared.node.Kind.TheVariants.{Container, Leaf, LeafList, List as ListKind}
use Rattle.nc_schema.specs.declared.node.Node.{Node}
use Rattle.nc_schema.specs.declared.pattern.LeafrefEnd.{LeafrefEnd}
use Rattle.nc_schema.specs.declared.value_type.Between.{Between}
use Rattle.nc_schema.specs.declared.value_type.ValueType.{ValueType}
use Rattle.nc_schema.specs.declared.value_type.ValueType.TheVariants.{Chars as String, Leafref as LeafrefType}
use Rattle.nc_yang_words.specs.declared.statement.Statement.{Statement}
use Rattle.nc_yang_statements.specs.declared.keyword.Keyword.TheVariants.{TypeName}
use Rattle.nc_yang_statements.specs.Statements.{name}
use Rattle.nc_yang_scopes.specs.Parts.{part_of}
use Rattle.nc_yang_scopes.specs.Prefixes.{prefixes_in}
use Rattle.nc_yang_scopes.specs.Scopes.{Located, Scoping}
use Rattle.nc_yang_nodes.specs.Plans.{statement_of}
use Rattle.nc_yang_nodes.specs.Roles.{FeatureTest}
use Rattle.nc_yang_nodes.specs.declared.planned.Plan.{Plan}
use Rattle.nc_yang_types.specs.Defaults.{Brings, further, nearest}
use Rattle.nc_yang_types.specs.Meanings.{Entry, Meaning, Means, Refers}
use Rattle.nc_yang_types.specs.Places.{base_of}
use Rattle.nc_yang_types.proofs.MeaningLemmas.{means_one}
use Rattle.nc_yang_data.specs.Data.{data_tables}
use Rattle.nc_yang_leafs.specs.Bases.{leads}
use Rattle.nc_yang_leafs.specs.Conditions.{holds}
use Rattle.nc_yang_leafs.specs.Defaults.{AreValues}
use Rattle.nc_yang_leafs.specs.Sources.{AreSources, BringsTo, Defined, brought, may_lack, nothing, own, own_of}
use Rattle.nc_yang_leafs.specs.Typings.{HasType, HasTypes, IsEntry, NameEach, one_more}
use Rattle.nc_yang.specs.Access.{HaveStatements}
use Rattle.nc_yang.specs.Schemas.{AreNames, Defines, IsSchemaOf, basis}
use Rattle.nc_yang.specs.declared.text.ModuleText.{ModuleText}
use Rattle.trials_modules.proofs.Given.{Seen, given_in, seen}
use Rattle.trials_modules.proofs.Drawn.{defined_by, statement_is, tables_of}
use Rattle.trials_modules.proofs.Whole.{IsNode, given_is, node_at, seen_is, texts_are}

-- ---- what an entry is by its meaning
no_numbers : (patterns : List (List ℕ)) (numbers : List ℕ) → NameEach patterns numbers [] → numbers ≡ []
no_numbers patterns [] e = refl
no_numbers patterns (n ∷ numbers) e = absurd (cc)

-- a string without patterns
pub string_is : (derived : List Located → List QName → Type 0) (patterns : List (List ℕ)) (leading : Located → Option LeafrefEnd) (lengths : List Between) (entry : ValueType) →
    IsEntry derived (NameEach patterns) leading (Entry (String lengths false []) [] []) entry → entry ≡ String lengths false []
string_is derived patterns leading lengths entry (numbers, named, is) =
    is ∙ ap (String lengths false) (no_numbers patterns numbers named)

-- a leafref leads somewhere
pub leads_nowhere : (derived : List Located → List QName → Type 0) (named : List ℕ → List Located → Type 0) (leading : Located → Option LeafrefEnd) (path : Located) (need : Bool)
    (entry : ValueType) → leading path ≡ None → IsEntry derived named leading (Refers path need) entry → ⊥
leads_nowhere derived named leading path need (LeafrefType target above required) e (leads_there, needs) = absurd (cc)
leads_nowhere derived named leading path need entry e h = h

pub leafref_is : (derived : List Located → List QName → Type 0) (named : List ℕ → List Located → Type 0) (leading : Located → Option LeafrefEnd) (path : Located) (need : Bool)
    (end : LeafrefEnd) (entry : ValueType) → leading path ≡ Some end → IsEntry derived named leading (Refers path need) entry →
    entry ≡ LeafrefType end.target end.above need
leafref_is derived named leading path need end (LeafrefType target above required) e (leads_there, needs) =
    let same : Some (record { target = target; above = above }) ≡ Some end = sym leads_there ∙ e in
    let ends : (let it : LeafrefEnd = record { target = target; above = above } in it) ≡ end = cc in
    λ i. LeafrefType (ends i).target (ends i).above (needs i)
leafref_is derived named leading path need end entry e h = absurd h

-- ---- what a number of the table of types is of
module _ (means : Located → Meaning → Type 0) (entry_is : Meaning → ValueType → Type 0) (types : List ValueType) where
  record IsOne (l : Located) (number : ℕ) : Type 0 where
    meaning : Meaning
    entry : ValueType
    meant : means l meaning
    there : slice_get types number ≡ Some entry
    is : entry_is meaning entry

  one_type : (l : Located) (number : ℕ) → HasTypes means entry_is types (l ∷ []) (number ∷ []) → IsOne l number
  one_type l number (one_more _ _ _ _ m entry meant there is members rest) =
      record { meaning = m; entry = entry; meant = meant; there = there; is = is }

-- ---- types that bring no default
lacks_none : (kind : Kind) (mandatory : Bool) (least : ℕ) → has_value kind ≡ false → may_lack kind mandatory least ≡ true → ⊥
lacks_none (Container presence) mandatory least holder e = absurd (cc)
lacks_none ListKind mandatory least holder e = absurd (cc)
lacks_none Leaf mandatory least holder e = absurd (cc)
lacks_none LeafList mandatory least holder e = absurd (cc)

pub brings_none : (texts : List Statement) (l default : Located) → base_of texts l ≡ None → Brings texts l default → ⊥
brings_none texts _ _ none_is (nearest l base default is has) = absurd (cc)
brings_none texts _ _ none_is (further l base default is lacks brings) = absurd (cc)

-- ---- a leaf or leaf-list of a schema: but for the number of its type it is the node, and that number is of the entry
pub record HasLeaf (tables : Tables) (number : ℕ) (node : Node) (entry : ValueType) : Type 0 where
  pub type : ℕ
  pub there : slice_get tables.nodes number ≡ Some (record node { kind_of_value = type })
  pub is : slice_get tables.types type ≡ Some entry

module _ (scoping : Scoping) (on : FeatureTest) (plan : Plan) (tables : Tables) (is : IsSchemaOf scoping on plan tables)
    (number : ℕ) (old : Node) (l : Located) (there : slice_get (data_tables scoping on plan).nodes number ≡ Some old)
    (defined : statement_of scoping plan number ≡ Some l) where
  abbrev found : IsNode scoping on plan tables is number old l
  found = node_at scoping on plan tables is number old l there defined

  kind_is : found.typed.kind ≡ old.kind
  kind_is = ap (λ (z : Node). z.kind) found.same

  -- no statement gives it a default
  abbrev at : Defined
  at = record { number = number; node = found.typed; statement = l }

  no_values : (sources : List Located) (values : List (List ℕ)) → sources ≡ [] → AreValues scoping.texts is.typed number sources values → values ≡ []
  no_values sources [] e read = refl
  no_values [] (v ∷ values) e read = absurd (let same = read.read in cc)
  no_values (s ∷ sources) (v ∷ values) e read = absurd (cc)

  abbrev NoneBrought : Type 0
  NoneBrought = (default : Located) → BringsTo scoping.texts at default → ⊥

  no_sources : own_of old.kind l ≡ [] → NoneBrought → (sources : List Located) → AreSources scoping.texts at sources → sources ≡ []
  no_sources none_own none_brought _ (own first more e) =
      absurd (let same = ap (λ k. own_of k l) kind_is ∙ none_own in cc)
  no_sources none_own none_brought _ (brought default e brings) = absurd (none_brought default brings)
  no_sources none_own none_brought _ (nothing e none_there) = refl

  -- so it is as it was given, but for the number of its type
  pub as_given : old.defaults ≡ [] → own_of old.kind l ≡ [] → NoneBrought →
      slice_get tables.nodes number ≡ Some (record old { kind_of_value = found.typed.kind_of_value })
  as_given empty none_own none_brought =
      let none_given = no_values found.has.are.sources found.has.values (no_sources none_own none_brought found.has.are.sources found.has.are.are) found.has.are.read in
      found.has.there ∙ (λ i. Some (record (found.same i) { defaults = none_given i }))
      ∙ (λ i. Some (record old { kind_of_value = found.typed.kind_of_value; defaults = sym empty i }))

  -- a container or list, which has neither
  pub holder_is : old.kind_of_value ≡ 0 → old.defaults ≡ [] → has_value old.kind ≡ false → own_of old.kind l ≡ [] → slice_get tables.nodes number ≡ Some old
  holder_is untyped empty holder none_own =
      as_given empty none_own
      (λ default brings. lacks_none old.kind old.mandatory old.least holder
      (subst (λ (z : Node). may_lack z.kind z.mandatory z.least ≡ true) found.same brings.lacks))
      ∙ (λ i. Some (record old { kind_of_value = (found.of_type.other (ap has_value kind_is ∙ holder) ∙ sym untyped) i }))

  -- the entry of the type of a leaf or leaf-list
  pub record EntryOf (m : Meaning) : Type 0 where
    pub entry : ValueType
    pub listed : slice_get tables.types found.typed.kind_of_value ≡ Some entry
    pub entry_is : IsEntry (AreNames scoping on) (NameEach is.typed.patterns) (leads scoping (data_tables scoping on plan) number) m entry

  pub entry_of : (t : Located) (m : Meaning) → has_value old.kind ≡ true → part_of TypeName l ≡ Some t → Means (holds scoping.texts on) scoping.texts t m →
      EntryOf m
  entry_of t m valued part means =
      let typed_at : HasType (AreNames scoping on) (NameEach is.typed.patterns) (basis scoping on plan) is.typed.types number t found.typed.kind_of_value
      = found.of_type.valued (ap has_value kind_is ∙ valued) t (ap (option_and_then (part_of TypeName)) defined ∙ part) in
      let one = one_type (Means (holds scoping.texts on) scoping.texts) (IsEntry (AreNames scoping on) (NameEach is.typed.patterns) (leads scoping (data_tables scoping on plan) number)) is.typed.types t found.typed.kind_of_value typed_at in
      let same : one.meaning ≡ m = means_one (holds scoping.texts on) scoping.texts t one.meaning m one.meant means in
      record {
        entry = one.entry;
        listed = ap (λ (ts : List ValueType). slice_get ts found.typed.kind_of_value) is.defaults.types ∙ one.there;
        entry_is = subst (λ z. IsEntry (AreNames scoping on) (NameEach is.typed.patterns) (leads scoping (data_tables scoping on plan) number) z one.entry) same one.is;
      }

  -- a leaf or leaf-list with a type that brings no default
  pub leaf_is : (t : Located) (m : Meaning) (entry : ValueType) → old.defaults ≡ [] → has_value old.kind ≡ true → own_of old.kind l ≡ [] →
      part_of TypeName l ≡ Some t → base_of scoping.texts t ≡ None → Means (holds scoping.texts on) scoping.texts t m →
      ((e : ValueType) → IsEntry (AreNames scoping on) (NameEach is.typed.patterns) (leads scoping (data_tables scoping on plan) number) m e → e ≡ entry) →
      HasLeaf tables number old entry
  leaf_is t m entry empty valued none_own part based means only =
      let of_it = entry_of t m valued part means in
      record {
        type = found.typed.kind_of_value;
        there =
            as_given empty none_own
            (λ default brings. brings_none scoping.texts t default based
            (subst (λ z. Brings scoping.texts z default) (let e = brings.is_type in let f : brings.of_type ≡ t = cc in f) brings.brings));
        is = of_it.listed ∙ ap Some (only of_it.entry of_it.entry_is);
      }

-- ---- the same of modules that are worked
-- where a `path` leads, by what is seen
abbrev pub leads_in : List Statement → Tables → ℕ → Located → Option LeafrefEnd
leads_in texts given number path = leafref_end given number (name path.statement) (prefixes_in texts path.place.text)

module _ (modules : List ModuleText) (texts : List Statement) (has : HaveStatements modules texts) (steps : ℕ) (s : FeatureTest → Seen)
    (gives : (on : FeatureTest) → given_in texts on steps (length texts) ≡ Some (s on))
    (lines : List (List ℕ)) (tables : Tables) (d : Defines modules lines tables) (number : ℕ) (old : Node) (l : Located)
    (seen_there : slice_get (tables_of texts d.on (s d.on)).nodes number ≡ Some old) (seen_defined : defined_by (s d.on).nodes number ≡ Some l) where
  abbrev same_texts : d.scoping.texts ≡ texts
  same_texts = texts_are modules texts has steps s gives lines tables d

  abbrev same_seen : seen d.scoping d.gives.plan ≡ s d.on
  same_seen = seen_is modules texts has steps s gives lines tables d

  abbrev same_given : data_tables d.scoping d.on d.gives.plan ≡ tables_of texts d.on (s d.on)
  same_given = given_is modules texts has steps s gives lines tables d

  there_given : slice_get (data_tables d.scoping d.on d.gives.plan).nodes number ≡ Some old
  there_given = ap (λ (t : Tables). slice_get t.nodes number) same_given ∙ seen_there

  defined_given : statement_of d.scoping d.gives.plan number ≡ Some l
  defined_given = statement_is d.scoping d.on d.gives.plan number ∙ ap (λ (z : Seen). defined_by z.nodes number) same_seen ∙ seen_defined

  pub holder_worked : old.kind_of_value ≡ 0 → old.defaults ≡ [] → has_value old.kind ≡ false → own_of old.kind l ≡ [] → slice_get tables.nodes number ≡ Some old
  holder_worked = holder_is d.scoping d.on d.gives.plan tables d.gives.is number old l there_given defined_given

  same_leads : leads d.scoping (data_tables d.scoping d.on d.gives.plan) number ≡ leads_in texts (tables_of texts d.on (s d.on)) number
  same_leads = λ i path. leafref_end (same_given i) number (name path.statement) (prefixes_in (same_texts i) path.place.text)

  pub leaf_worked : (t : Located) (m : Meaning) (entry : ValueType) → old.defaults ≡ [] → has_value old.kind ≡ true → own_of old.kind l ≡ [] →
      part_of TypeName l ≡ Some t → base_of texts t ≡ None → Means (holds texts d.on) texts t m →
      ((derived : List Located → List QName → Type 0) (patterns : List (List ℕ)) (e : ValueType) →
      IsEntry derived (NameEach patterns) (leads_in texts (tables_of texts d.on (s d.on)) number) m e → e ≡ entry) →
      HasLeaf tables number old entry
  leaf_worked t m entry empty valued none_own part based means only =
      leaf_is d.scoping d.on d.gives.plan tables d.gives.is number old l there_given defined_given t m entry empty valued none_own part
      (ap (λ ts. base_of ts t) same_texts ∙ based)
      (subst (λ ts. Means (holds ts d.on) ts t m) (sym same_texts) means)
      (λ e h. only (AreNames d.scoping d.on) d.gives.is.typed.patterns e
      (subst (λ leading. IsEntry (AreNames d.scoping d.on) (NameEach d.gives.is.typed.patterns) leading m e) same_leads h))

  -- where its type is a leafref, that leads somewhere
  pub leafref_worked : (t path : Located) (need : Bool) → has_value old.kind ≡ true → part_of TypeName l ≡ Some t → Means (holds texts d.on) texts t (Refers path need) →
      leads_in texts (tables_of texts d.on (s d.on)) number path ≡ None → ⊥
  leafref_worked t path need valued part means nowhere =
      let of_it = entry_of d.scoping d.on d.gives.plan tables d.gives.is number old l there_given defined_given t (Refers path need) valued part
      (subst (λ ts. Means (holds ts d.on) ts t (Refers path need)) (sym same_texts) means) in
      leads_nowhere (AreNames d.scoping d.on) (NameEach d.gives.is.typed.patterns) (leads d.scoping (data_tables d.scoping d.on d.gives.plan) number) path need of_it.entry
      ((λ i. same_leads i path) ∙ nowhere) of_it.entry_is
