-- Schemas that are one but for the numbers of types: where their types take texts alike, they have the same defaults.
use Rattle.std.proofs.Common.{◌≡◌, ◌&&◌, ◌||◌, ◌==◌, not, cond, ℕ, zero, suc, Bool, true, false, List, [], ◌∷◌, length, map, refl, sym, ap, ◌∙◌, subst, arith}
use Rattle.std.specs.Prelude.{◌<◌, pos, Option, Some, None, option_and_then, slice_get}
use Rattle.std.specs.List.{list_any}
use Rattle.std.proofs.lemmas.Option.{slice_get_within}
use Rattle.nc_names.specs.declared.name.Bound.{Bound}
use Rattle.nc_names.specs.declared.name.QName.{QName}
use Rattle.nc_names.specs.Ends.{trimmed}
use Rattle.nc_names.specs.Signs.{asterisk}
use Rattle.nc_patterns.specs.Admits.{admits_each}
use Rattle.nc_schema.specs.InstancePaths.{key_nodes}
use Rattle.nc_schema.specs.NumberTexts.{is_among}
use Rattle.nc_schema.specs.PathWords.{begins_with}
use Rattle.nc_schema.specs.Tables.{Tables}
use Rattle.nc_schema.specs.Values.{Givers, Gives, canonical, character_count, fits_paths, identity_text, instance_text, is_key_above, is_quotable, node_instance_text, node_text, string_text, text_in_type, text_within, type_of, type_text, value_depth}
use Rattle.nc_schema.specs.declared.node.Node.{Node}
use Rattle.nc_schema.specs.declared.value_type.Between.{Between}
use Rattle.nc_schema.specs.declared.value_type.ValueType.{ValueType}
use Rattle.nc_schema.specs.declared.value_type.ValueType.TheVariants.{Whole, Decimal, Chars, Boolean, Enumeration, Bits, Binary, Empty, Union, Identity, Leafref, Instance, NodeInstance}
use Rattle.nc_yang_words.specs.declared.statement.Statement.{Statement}
use Rattle.nc_yang_statements.specs.Statements.{name}
use Rattle.nc_yang_scopes.specs.Prefixes.{prefixes_in}
use Rattle.nc_yang_scopes.specs.Scopes.{Located, Scoping}
use Rattle.nc_yang_scopes.specs.declared.naming.TextFault.{TextFault}
use Rattle.nc_yang_nodes.specs.declared.planned.Plan.{Plan}
use Rattle.nc_yang_leafs.specs.Defaults.{AreDefaultsOf, BreaksAt, BreaksDefault, HasDefaults, IsBroken, KeepsDefaults, StopsAt}
use Rattle.nc_yang_leafs.specs.Readings.{has_whole, is_other_base, value_of}
use Rattle.nc_yang_leafs.specs.Sources.{AreSources, BringsTo, Defined, brought, nothing, own}
use Rattle.nc_yang_leafs.proofs.BareLemmas.{bare_by, identity_same, instance_same, key_above_same, key_nodes_same, node_instance_same}
use Rattle.nc_yang_leafs.specs.Typed.{IsTyped}
use Rattle.nc_yang_leafs.proofs.ListLemmas.{map_some_same}
use Rattle.nc_yang_leafs.proofs.NodeLemmas.{good_not_bad}
use Rattle.nc_yang_leafs.proofs.OutcomeLemmas.{stated}
use Rattle.nc_yang_leafs.proofs.SourceLemmas.{one_sources}

-- a schema without types, patterns and defaults
abbrev pub path_tables : Tables → Tables
path_tables t = record { nodes = map (bare_by (λ n. 0)) t.nodes; choices = t.choices; types = []; modules = t.modules; patterns = [] }

-- the type has others
abbrev pub has_others : ValueType → Bool
has_others (Union members) = true
has_others (Leafref target above required) = true
has_others type = false

-- the type has neither others nor patterns
abbrev pub is_plain : ValueType → Bool
is_plain (Union members) = false
is_plain (Leafref target above required) = false
is_plain (Chars lengths starless numbers) = false
is_plain type = true

then_then : {A B C : Type 0} (f : B → Option C) (g : A → Option B) (o : Option A) → option_and_then (λ x. option_and_then f (g x)) o ≡ option_and_then f (option_and_then g o)
then_then f g None = refl
then_then f g (Some x) = refl

module _ (t u : Tables) (alike : path_tables t ≡ path_tables u) where
  key_nodes_alike : (n : ℕ) → key_nodes t n ≡ key_nodes u n
  key_nodes_alike n = sym (key_nodes_same (λ n. 0) [] [] t n) ∙ ap (λ z. key_nodes z n) alike ∙ key_nodes_same (λ n. 0) [] [] u n

  key_above_alike : (n : ℕ) → is_key_above t n ≡ is_key_above u n
  key_above_alike n = sym (key_above_same (λ n. 0) [] [] t n) ∙ ap (λ z. is_key_above z n) alike ∙ key_above_same (λ n. 0) [] [] u n

  fits_alike : (n : ℕ) (value : List ℕ) → fits_paths t n value ≡ fits_paths u n value
  fits_alike n value = λ i. not (key_above_alike n i || list_any (λ key. key == n) (key_nodes_alike n i)) || is_quotable value

  identity_alike : (bounds : List Bound) (text : List ℕ) → (among : List QName) → identity_text t among bounds text ≡ identity_text u among bounds text
  identity_alike bounds text among =
      sym (identity_same (λ n. 0) [] [] t among bounds text) ∙ ap (λ z. identity_text z among bounds text) alike ∙ identity_same (λ n. 0) [] [] u among bounds text

  instance_alike : (keys other : List Bound → Gives) → keys ≡ other → (bounds : List Bound) (text : List ℕ) → instance_text t keys bounds text ≡ instance_text u other bounds text
  instance_alike keys other same bounds text =
      sym (instance_same (λ n. 0) [] [] t keys keys refl bounds text) ∙ ap (λ z. instance_text z keys bounds text) alike
      ∙ instance_same (λ n. 0) [] [] u keys other same bounds text

  node_instance_alike : (keys other : List Bound → Gives) → keys ≡ other → (bounds : List Bound) (text : List ℕ) →
      node_instance_text t keys bounds text ≡ node_instance_text u other bounds text
  node_instance_alike keys other same bounds text =
      sym (node_instance_same (λ n. 0) [] [] t keys keys refl bounds text) ∙ ap (λ z. node_instance_text z keys bounds text) alike
      ∙ node_instance_same (λ n. 0) [] [] u keys other same bounds text

  -- strings whose patterns admit the same
  pub strings_alike : (g h : Givers) (lengths : List Between) (starless : Bool) (ns ms : List ℕ) (bounds : List Bound) (text : List ℕ) →
      admits_each t.patterns ns text ≡ admits_each u.patterns ms text → text_in_type t g (Chars lengths starless ns) bounds text ≡ text_in_type u h (Chars lengths starless ms) bounds text
  unfolding string_text
  strings_alike g h lengths starless ns ms bounds text same = λ i.
      cond (is_among lengths (pos (character_count text)) && not (starless && begins_with asterisk text) && same i) (Some text) None

  -- a type that has neither others nor patterns takes texts in both alike
  pub alone_alike : (g h : Givers) → g.keys ≡ h.keys → (type : ValueType) → is_plain type ≡ true → (bounds : List Bound) (text : List ℕ) →
      text_in_type t g type bounds text ≡ text_in_type u h type bounds text
  alone_alike g h same (Whole among) e bounds text = refl
  alone_alike g h same (Decimal digits among) e bounds text = refl
  alone_alike g h same (Chars lengths starless numbers) e bounds text = absurd (cc)
  alone_alike g h same Boolean e bounds text = refl
  alone_alike g h same (Enumeration names) e bounds text = refl
  alone_alike g h same (Bits names) e bounds text = refl
  alone_alike g h same (Binary lengths) e bounds text = refl
  alone_alike g h same Empty e bounds text = refl
  alone_alike g h same (Union members) e bounds text = absurd (cc)
  alone_alike g h same (Identity among) e bounds text = identity_alike bounds (trimmed text) among
  alone_alike g h same (Leafref target above required) e bounds text = absurd (cc)
  alone_alike g h same (Instance required) e bounds text = instance_alike g.keys h.keys same bounds (trimmed text)
  alone_alike g h same NodeInstance e bounds text = node_instance_alike g.keys h.keys same bounds (trimmed text)

  -- what the type of a data node takes
  abbrev pub TakesAlike : Type 0
  TakesAlike =
      (keys other : List Bound → Gives) → keys ≡ other → (n : ℕ) (bounds : List Bound) (text : List ℕ) →
      option_and_then (λ type. type_text t keys (length t.types) [] bounds type text) (type_of t n)
      ≡ option_and_then (λ type. type_text u other (length u.types) [] bounds type text) (type_of u n)

  module _ (takes : TakesAlike) where
    node_text_alike : (keys other : List Bound → Gives) → keys ≡ other → (bounds : List Bound) (n : ℕ) (text : List ℕ) → node_text t keys bounds n text ≡ node_text u other bounds n text
    node_text_alike keys other same bounds n text =
        then_then (λ value. cond (fits_paths t n value) (Some value) None) (λ type. type_text t keys (length t.types) [] bounds type text) (type_of t n)
        ∙ (λ i. option_and_then (λ value. cond (fits_alike n value i) (Some value) None) (takes keys other same n bounds text i))
        ∙ sym (then_then (λ value. cond (fits_paths u n value) (Some value) None) (λ type. type_text u other (length u.types) [] bounds type text) (type_of u n))

    within_alike : (depth : ℕ) → text_within t depth ≡ text_within u depth
    within_alike zero = λ i bounds n text. None
    within_alike (suc depth) = λ i bounds n text. node_text_alike (text_within t depth) (text_within u depth) (within_alike depth) bounds n text i

    pub canonical_alike : (n : ℕ) (text : List ℕ) (bounds : List Bound) → canonical t n text bounds ≡ canonical u n text bounds
    unfolding canonical
    canonical_alike n text bounds = λ i. within_alike value_depth i bounds n text

    pub value_alike : ((n : ℕ) → has_whole t n ≡ has_whole u n) → (texts : List Statement) (n : ℕ) → value_of texts t n ≡ value_of texts u n
    value_alike whole texts n = λ i default.
        cond (whole n i && is_other_base (name default.statement)) None
        (canonical_alike n (name default.statement) (prefixes_in texts default.place.text) i)

-- the `default` statements of a data node do not depend on its number of a type
module _ (texts : List Statement) (number kind other : ℕ) (node : Node) (statement : Located) where
  abbrev one : Defined
  one = record { number = number; node = record node { kind_of_value = kind }; statement = statement }

  abbrev two : Defined
  two = record { number = number; node = record node { kind_of_value = other }; statement = statement }

  brings_alike : (default : Located) → BringsTo texts one default → BringsTo texts two default
  brings_alike default b = record { lacks = b.lacks; of_type = b.of_type; is_type = b.is_type; brings = b.brings }

  brings_back : (default : Located) → BringsTo texts two default → BringsTo texts one default
  brings_back default b = record { lacks = b.lacks; of_type = b.of_type; is_type = b.is_type; brings = b.brings }

  sources_alike : (ls : List Located) → AreSources texts one ls → AreSources texts two ls
  sources_alike _ (own first more e) = own first more e
  sources_alike _ (brought default e b) = brought default e (brings_alike default b)
  sources_alike _ (nothing e none) = nothing e (λ default b. none default (brings_back default b))

  -- and neither do its defaults, where values do not
  pub same_values : (t u : Tables) → value_of texts t number ≡ value_of texts u number → (xs ys : List (List ℕ)) → AreDefaultsOf texts t one xs → AreDefaultsOf texts u two ys → xs ≡ ys
  same_values t u same xs ys a b =
      let from : a.sources ≡ b.sources = one_sources texts two a.sources b.sources (sources_alike a.sources a.are) b.are in
      map_some_same xs ys (sym a.read.read ∙ (λ i. map (same i) (from i)) ∙ b.read.read)

stops_alike : (texts : List Statement) (t u : Tables) (n : ℕ) (ls : List Located) (default : Located) → value_of texts t n ≡ value_of texts u n →
    StopsAt texts u n ls default → StopsAt texts t n ls default
stops_alike texts t u n ls default same s = record {
  before = s.before;
  after = s.after;
  cut = s.cut;
  earlier = s.earlier;
  values = record { read = ap (λ f. map f s.before) same ∙ s.values.read; apart = s.values.apart };
  why = s.why;
  broken = subst (λ f. IsBroken s.earlier (f default) s.why) (sym same) s.broken;
}

-- where the defaults of a schema keep their rules, they break none in one that differs in its types alone, which give the
-- same values
pub keep_alike : (scoping : Scoping) (plan : Plan) (t u : Tables) (fault : TextFault) →
    ((n : ℕ) → value_of scoping.texts t n ≡ value_of scoping.texts u n) →
    ((n : ℕ) (node : Node) → slice_get u.nodes n ≡ Some node →
    (old : Node) × (kind : ℕ) × (other : ℕ) × (node ≡ record old { kind_of_value = other }) × (slice_get t.nodes n ≡ Some (record old { kind_of_value = kind }))) →
    KeepsDefaults scoping plan t → BreaksDefault scoping plan u fault → ⊥
keep_alike scoping plan t u fault same nodes good bad =
    let d = bad.at in
    let m = nodes d.number d.node bad.is.0 in
    let here : Defined = record { number = d.number; node = record m.0 { kind_of_value = m.1 }; statement = d.statement } in
    let h = good here (m.4, bad.is.1) in
    let b : BreaksAt scoping.texts u (record { number = d.number; node = record m.0 { kind_of_value = m.2 }; statement = d.statement }) bad.default =
    subst (λ z. BreaksAt scoping.texts u (record { number = d.number; node = z; statement = d.statement }) bad.default) m.3 bad.breaks in
    good_not_bad scoping.texts t here h.0 bad.default h.1 (record {
      sources = b.sources;
      are = sources_alike scoping.texts d.number m.2 m.1 m.0 d.statement b.sources b.are;
      stops = stops_alike scoping.texts t u d.number b.sources bad.default (same d.number) b.stops;
    })

-- those that a schema has keep their rules
pub defaults_kept : (scoping : Scoping) (plan : Plan) (t tables : Tables) → HasDefaults scoping plan t tables → KeepsDefaults scoping plan t
defaults_kept scoping plan t tables good d is = let h = good.nodes d is in (h.values, h.are)

-- a data node of both
abbrev pub IsPair : Tables → Tables → ℕ → Type 0
IsPair t u n =
    (old : Node) × (kind : ℕ) × (other : ℕ) × (slice_get t.nodes n ≡ Some (record old { kind_of_value = kind }))
    × (slice_get u.nodes n ≡ Some (record old { kind_of_value = other }))

abbrev without_type : Node → Node
without_type node = record node { kind_of_value = 0 }

module _ (scoping : Scoping) (plan : Plan) (t u tables others : Tables) (one_ready : IsTyped scoping plan t) (two_ready : IsTyped scoping plan u)
    (good : HasDefaults scoping plan t tables) (well : HasDefaults scoping plan u others)
    (same : (n : ℕ) → value_of scoping.texts t n ≡ value_of scoping.texts u n) (pairs : (n : ℕ) → n < length t.nodes → IsPair t u n) where
  nodes_alike : (n : ℕ) (x y : Node) → slice_get tables.nodes n ≡ Some x → slice_get others.nodes n ≡ Some y → without_type x ≡ without_type y
  nodes_alike n x y at from =
      let less : n < length t.nodes = subst (λ z. n < z) good.counted (slice_get_within tables.nodes n x at) in
      let m = pairs n less in
      let s = stated scoping plan t tables one_ready good n less in
      let d : Defined = record { number = n; node = record m.0 { kind_of_value = m.1 }; statement = s.0 } in
      let e : Defined = record { number = n; node = record m.0 { kind_of_value = m.2 }; statement = s.0 } in
      let h = good.nodes d (m.3, s.1) in
      let k = well.nodes e (m.4, s.1) in
      let values = same_values scoping.texts n m.1 m.2 m.0 s.0 t u (same n) h.values k.values h.are k.are in
      let one : x ≡ record d.node { defaults = h.values } = (let f : Some x ≡ Some (record d.node { defaults = h.values }) = sym at ∙ h.there in cc) in
      let two : y ≡ record e.node { defaults = k.values } = (let f : Some y ≡ Some (record e.node { defaults = k.values }) = sym from ∙ k.there in cc) in
      ap without_type one ∙ (λ i. record m.0 { kind_of_value = 0; defaults = values i }) ∙ sym (ap without_type two)

  all_alike : (xs ys : List Node) → length xs ≡ length ys → ((n : ℕ) (x y : Node) → slice_get xs n ≡ Some x → slice_get ys n ≡ Some y → without_type x ≡ without_type y) →
      map without_type xs ≡ map without_type ys
  all_alike [] [] many alike = refl
  all_alike [] (y ∷ ys) many alike = absurd (omega (arith, many))
  all_alike (x ∷ xs) [] many alike = absurd (omega (arith, many))
  all_alike (x ∷ xs) (y ∷ ys) many alike =
      let rest = all_alike xs ys (omega (arith, many)) (λ n. alike (suc n)) in
      let first = alike 0 x y refl refl in
      λ i. first i ∷ rest i

  -- the data nodes with their defaults are one, but for the numbers of types
  pub outcomes_alike : map without_type tables.nodes ≡ map without_type others.nodes
  outcomes_alike = all_alike tables.nodes others.nodes (good.counted ∙ one_ready.counted ∙ sym two_ready.counted ∙ sym well.counted) nodes_alike
