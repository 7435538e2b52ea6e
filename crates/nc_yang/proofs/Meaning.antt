-- Types of modules that keep all rules mean something, with all members of unions.
use Rattle.std.proofs.Common.{inl, inr, ◌≡◌, ◌⊎◌, ℕ, Bool, true, false, cond, List, [], ◌∷◌, ◌++◌, refl, sym, ap, subst, ◌∙◌, zero, suc}
use Rattle.std.specs.Prelude.{Option, Some, None, IsSome, is_some, slice_get, option_map, option_and_then, not, Contains}
use Rattle.std.specs.List.{filter}
use Rattle.nc_schema.specs.declared.value_type.ValueType.{ValueType}
use Rattle.nc_schema.specs.declared.value_type.ValueType.TheVariants.{Chars as String, Instance}
use Rattle.nc_yang_words.specs.declared.statement.Statement.{Statement}
use Rattle.nc_yang_statements.specs.declared.built_in.BuiltIn.{BuiltIn}
use Rattle.nc_yang_statements.specs.declared.built_in.BuiltIn.TheVariants.{IdentityRef, LeafRef, Union}
use Rattle.nc_yang_statements.specs.declared.fault.Fault.{Fault}
use Rattle.nc_yang_statements.specs.declared.fault.ModuleWhy.TheVariants.{Missing}
use Rattle.nc_yang_statements.specs.declared.keyword.Keyword.{Keyword}
use Rattle.nc_yang_statements.specs.declared.keyword.Keyword.TheVariants.{Base, Path, Pattern, TypeName, Typedef}
use Rattle.nc_yang_statements.specs.BuiltIns.{built_in_of}
use Rattle.nc_yang_statements.specs.Keywords.{is_closed, is_same_keyword}
use Rattle.nc_yang_statements.specs.Rules.{at_if}
use Rattle.nc_yang_statements.specs.Statements.{below, has, kind, name}
use Rattle.nc_yang_statements.proofs.Tags.{same_keyword}
use Rattle.nc_yang_order.proofs.Lists.{contains_none}
use Rattle.nc_yang_scopes.specs.Scopes.{Located, Place, inside as inside_of, resolved}
use Rattle.nc_yang_scopes.specs.Names.{StandsIn, itself}
use Rattle.nc_yang_scopes.specs.declared.kinds.Defined.TheVariants.{Typedefs}
use Rattle.nc_yang_scopes.specs.Loops.{IsDefinition, Names, typedef_of}
use Rattle.nc_yang_scopes.proofs.LinkLists.{contains_cases, contains_filter, contains_get, contains_map}
use Rattle.nc_yang.specs.Rules.{KeepsTexts, looping}
use Rattle.nc_yang_types.specs.declared.member.Named.{Named}
use Rattle.nc_yang_types.specs.Entries.{listing_of, misused, names_left, narrowed, narrowed_faults, own, own_faults, required}
use Rattle.nc_yang_types.specs.Parts.{foreign, lacking, misshapen}
use Rattle.nc_yang_types.specs.Patterns.{ill_patterns}
use Rattle.nc_yang_types.proofs.LawLemmas.{narrowed_gives, own_gives}
use Rattle.nc_yang_types.specs.Faults.{KeepsTypes}
use Rattle.nc_yang_types.specs.Features.{stands}
use Rattle.nc_yang_types.specs.Meanings.{Breaks, DerivedFrom, Entry, Meaning, OneOf, Refers, by_itself, in_itself, in_text, meant, names_of, of_access, over, over_base, said, shape, with_parts}
use Rattle.nc_yang_types.specs.Places.{base_of, built_in, in_it, of_typedef, part_of, parts_of}
use Rattle.nc_yang_types.specs.Wholes.{MeansWhole, members_of, whole}
use Rattle.nc_yang.specs.Laws.{TypesMean}
use Rattle.nc_yang.proofs.Lists.{empty_left, empty_right, find_there, none_there}
use Rattle.nc_yang.proofs.Looked.{Looked, deeper, directly, has_part, looked_deeper, looked_in, named_defined, put, type_named, typedef_type}
use Rattle.nc_yang.proofs.Endings.{of_each}
use Rattle.nc_yang.proofs.Trees.{tree}

there : (b : Bool) (s : Statement) → at_if (not b) s Missing ≡ [] → b ≡ true
there true s e = refl
there false s e = absurd (cc)

abbrev is_type : Statement → Type 0
is_type s = is_same_keyword TypeName (kind s) ≡ true

-- a meaning with no members but those in the statement, or with no others than another
abbrev Gives : Option Meaning → List Located → Type 0
Gives o members = (m : Meaning) × (o ≡ Some m) × ((member : Located) → Contains (members_of m) member → Contains members member)

entry_gives : (patterns : List Located) (names : List Named) (o : Option ValueType) (members : List Located) → IsSome o → Gives (option_map (λ entry. Entry entry patterns names) o) members
entry_gives patterns names None members e = absurd (cc)
entry_gives patterns names (Some entry) members e = (Entry entry patterns names, refl, (λ member h. absurd (contains_none member h)))

-- so it is in the text of ietf-netconf-acm
access_members : (entry : ValueType) (patterns : List Located) (names : List Named) → members_of (of_access entry patterns names) ≡ []
access_members (Instance need) patterns names = refl
access_members (String among starless none) (p ∷ patterns) names = refl
access_members entry patterns names = refl

text_members : (text : ℕ) (m : Meaning) → members_of (in_text text m) ≡ members_of m
text_members zero (Entry entry patterns names) = access_members entry patterns names
text_members zero (OneOf members) = refl
text_members zero (DerivedFrom bases) = refl
text_members zero (Refers path need) = refl
text_members (suc text) m = refl

text_gives : (text : ℕ) (o : Option Meaning) (members : List Located) → Gives o members → Gives (option_map (in_text text) o) members
text_gives text o members g =
    (in_text text g.0, ap (option_map (in_text text)) g.1, (λ member h. g.2 member (subst (λ ls. Contains ls member) (text_members text g.0) h)))

-- what a built-in type means
module _ (on : ℕ → List ℕ → Bool) (l : Located) where
  leafref_gives : own_faults LeafRef l.statement ≡ [] → Gives (said on LeafRef l) (parts_of TypeName l)
  leafref_gives kept =
      let lacks : lacking LeafRef l.statement ≡ [] = empty_right (foreign LeafRef (below l.statement)) (lacking LeafRef l.statement)
      (empty_left (misshapen LeafRef l.statement) (ill_patterns (below l.statement) ++ misused LeafRef (below l.statement)) kept) in
      let p = has_part Path (below l.statement) (there (has Path (below l.statement)) l.statement lacks) in (
        Refers (in_it l p.0) (required true (below l.statement)),
        ap (λ o. option_map (λ path. Refers path (required true (below l.statement))) (option_map (in_it l) o)) p.1,
        (λ member h. absurd (contains_none member h)),
      )

  said_gives : (one : BuiltIn) → own_faults one l.statement ≡ [] → Gives (said on one l) (parts_of TypeName l)
  said_gives Union kept = (OneOf (parts_of TypeName l), refl, (λ member h. h))
  said_gives IdentityRef kept = (DerivedFrom (parts_of Base l), refl, (λ member h. absurd (contains_none member h)))
  said_gives LeafRef kept = leafref_gives kept
  said_gives one kept = entry_gives (parts_of Pattern l) (listing_of one (below l.statement)) (own (stands on l.place.text) one (below l.statement)) (parts_of TypeName l) (own_gives (stands on l.place.text) one l.statement refl kept)

  meant_gives : (one : BuiltIn) → own_faults one l.statement ≡ [] → Gives (meant on one l) (parts_of TypeName l)
  meant_gives one kept = text_gives l.place.text (said on one l) (parts_of TypeName l) (said_gives one kept)

-- what a type over another means
parts_give : (on : ℕ → List ℕ → Bool) (n : Meaning) (l : Located) → narrowed_faults (shape n) (names_of n) (below l.statement) ≡ [] → Gives (with_parts on n l) (members_of n)
parts_give on (Entry entry patterns names) l kept =
    entry_gives (patterns ++ parts_of Pattern l) (names_left entry names (below l.statement)) (narrowed (stands on l.place.text) entry (below l.statement)) []
    (narrowed_gives (stands on l.place.text) entry names (below l.statement) kept)
parts_give on (OneOf members) l kept = (OneOf members, refl, (λ member h. h))
parts_give on (DerivedFrom bases) l kept = (DerivedFrom bases, refl, (λ member h. h))
parts_give on (Refers path need) l kept = (Refers path (required need (below l.statement)), refl, (λ member h. h))

-- a part of a keyword stands in the statement
pub part_there : (l member : Located) (keyword : Keyword) → Contains (parts_of keyword l) member →
    (place : ℕ) × (s : Statement) × (slice_get (below l.statement) place ≡ Some s) × (is_same_keyword keyword (kind s) ≡ true) × (put l s ≡ member)
part_there l member keyword h =
    let m = contains_map (in_it l) (filter (λ s. is_same_keyword keyword (kind s)) (below l.statement)) member h in
    let at = contains_get (below l.statement) m.0 (contains_filter (λ s. is_same_keyword keyword (kind s)) (below l.statement) m.0 m.1.0) in
    (at.0, m.0, at.1, passes (below l.statement) m.0 m.1.0, m.1.1)
  where
    passes : (ss : List Statement) (s : Statement) → Contains (filter (λ s. is_same_keyword keyword (kind s)) ss) s → is_same_keyword keyword (kind s) ≡ true
    passes [] s h = absurd (contains_none s h)
    passes (t ∷ ss) s h = by (is_same_keyword keyword (kind t)) refl h (passes ss s)
      where
        by : (b : Bool) → is_same_keyword keyword (kind t) ≡ b → Contains (cond b (t ∷ filter (λ s. is_same_keyword keyword (kind s)) ss) (filter (λ s. is_same_keyword keyword (kind s)) ss)) s →
            (Contains (filter (λ s. is_same_keyword keyword (kind s)) ss) s → is_same_keyword keyword (kind s) ≡ true) → is_same_keyword keyword (kind s) ≡ true
        by true is k further = first_or (contains_cases t (filter (λ s. is_same_keyword keyword (kind s)) ss) s k)
          where
            first_or : (t ≡ s) ⊎ Contains (filter (λ s. is_same_keyword keyword (kind s)) ss) s → is_same_keyword keyword (kind s) ≡ true
            first_or (inl same) = subst (λ z. is_same_keyword keyword (kind z) ≡ true) same is
            first_or (inr more) = further more
        by false is k further = further k

type_open : (s : Statement) → is_type s → is_closed (kind s) ≡ false
type_open s keyword = ap is_closed (sym (same_keyword TypeName (kind s) keyword))

module _ (on : ℕ → List ℕ → Bool) (texts : List Statement) (keeps : KeepsTexts texts) (types : KeepsTypes on texts) where
  no_breaks : (l : Located) → Looked texts l → (fault : Fault) → Breaks on texts l fault → ⊥
  no_breaks l k fault breaks = types k.text fault (record { top = k.top; is = k.is_top; breaks = record { statement = l; stands = k.stands; breaks = inl breaks } })

  over_built_in : (l : Located) → Looked texts l → is_type l.statement → (one : BuiltIn) → built_in_of (name l.statement) ≡ Some one →
      ((place : ℕ) (s : Statement) → slice_get (below l.statement) place ≡ Some s → is_type s → MeansWhole on texts (put l s)) → MeansWhole on texts l
  over_built_in l k keyword one built members =
      let is : built_in l ≡ Some one = ap (λ b. cond b (built_in_of (name l.statement)) None) keyword ∙ built in
      let kept : own_faults one l.statement ≡ [] = none_there (own_faults one l.statement) (λ fault h. no_breaks l k fault (in_itself l one fault is h)) in
      let m = meant_gives on l one kept in
      whole l m.0 (by_itself l one m.0 is kept m.1) (λ member h.
      let p = part_there l member TypeName (m.2 member h) in
      subst (MeansWhole on texts) p.4 (members p.0 p.1 p.2 p.3))

  over_type : (l base : Located) → Looked texts l → base_of texts l ≡ Some base → MeansWhole on texts base → MeansWhole on texts l
  over_type l base k is (whole b n means members) =
      let kept : narrowed_faults (shape n) (names_of n) (below l.statement) ≡ [] = none_there (narrowed_faults (shape n) (names_of n) (below l.statement)) (λ fault h. no_breaks l k fault (over_base l base n fault is means h)) in
      let w = parts_give on n l kept in
      whole l w.0 (over l base n w.0 is means kept w.1) (λ member h. members member (w.2 member h))

  -- all types in a typedef mean something
  abbrev IsGood : Located → Type 0
  IsGood d = (l : Located) → StandsIn d l → is_type l.statement → MeansWhole on texts l

  -- all typedefs that types in a statement name are such
  abbrev AreGood : Located → Type 0
  AreGood l = (t d : Located) → StandsIn l t → is_type t.statement → typedef_of texts (name t.statement) t.place ≡ Some d → IsGood d

  abbrev MeansThere : Statement → Type 0
  MeansThere s =
      (place : Place) → Looked texts (record { statement = s; place = place }) → is_type s → AreGood (record { statement = s; place = place })
      → MeansWhole on texts (record { statement = s; place = place })

  over_typedef : (l : Located) → Looked texts l → is_type l.statement → AreGood l → built_in_of (name l.statement) ≡ None → MeansWhole on texts l
  over_typedef l k keyword good built =
      let n = type_named texts keeps l k keyword built in
      let named : typedef_of texts (name l.statement) l.place ≡ Some n.0 = ap (λ o. cond (is_some o) None (resolved texts Typedef (name l.statement) l.place)) built ∙ n.1 in
      let defined = named_defined texts keeps l n.0 k named in
      let p = typedef_type texts keeps n.0 defined in
      let m = find_there (λ t. is_same_keyword TypeName (kind t)) (below n.0.statement) p.0 p.1 in
      let base : base_of texts l ≡ Some (put n.0 p.0) =
      ap (λ b. cond b (cond (is_some (built_in_of (name l.statement))) None (of_typedef TypeName texts l)) None) keyword
      ∙ ap (λ o. cond (is_some o) None (of_typedef TypeName texts l)) built
      ∙ ap (option_and_then (part_of TypeName)) n.1
      ∙ ap (option_map (in_it n.0)) p.1 in
      over_type l (put n.0 p.0) k base
      (good l n.0 (itself l) keyword named (put n.0 p.0)
      (directly n.0 m.0 p.0 (ap is_closed (sym (same_keyword Typedef (kind n.0.statement) defined.keyword))) m.1) m.2)

  one_step : (s : Statement) → ((i : ℕ) (t : Statement) → slice_get (below s) i ≡ Some t → MeansThere t) → MeansThere s
  one_step s further place k keyword good = by (built_in_of (name s)) refl
    where
      here : Located
      here = record { statement = s; place = place }

      by : (o : Option BuiltIn) → built_in_of (name s) ≡ o → MeansWhole on texts (record { statement = s; place = place })
      by None built = over_typedef (record { statement = s; place = place }) k keyword good built
      by (Some one) built = over_built_in (record { statement = s; place = place }) k keyword one built (λ i t is type_t.
          let is_open = type_open s keyword in
          further i t is (inside_of (record { statement = s; place = place })) (looked_in texts (record { statement = s; place = place }) i t k is_open is) type_t
          (λ u d among type_u named. good u d (deeper (record { statement = s; place = place }) (put (record { statement = s; place = place }) t) u (directly (record { statement = s; place = place }) i t is_open is) among) type_u named))

  means_there : (s : Statement) → MeansThere s
  means_there = tree MeansThere one_step

  typedef_good : (d : Located) → IsDefinition texts Typedefs d → ((s e : Located) → Names texts Typedefs d s e → IsGood e) → IsGood d
  typedef_good d defined each l stands_in keyword =
      let k : Looked texts d = record { text = defined.text; top = defined.top; is_top = defined.is_top; stands = defined.stands } in
      means_there l.statement l.place (looked_deeper texts d l k stands_in) keyword (λ t e among type_t named.
      let within = deeper d l t stands_in among in
      each t e (record { is_here = defined; stands = within; keyword = type_t; means = named; is_there = named_defined texts keeps t e (looked_deeper texts d t k within) named }))

  pub all_mean : (l : Located) → Looked texts l → is_type l.statement → MeansWhole on texts l
  all_mean l k keyword = means_there l.statement l.place k keyword (λ t d among type_t named.
      of_each texts (λ text fault loops. keeps (record { text = text; fault = fault }) (looping text fault loops)) Typedefs IsGood typedef_good d (named_defined texts keeps t d (looked_deeper texts l t k among) named))

pub types_mean : TypesMean
types_mean on texts text top l keeps types is_top stands_in keyword = all_mean on texts keeps types l (record { text = text; top = top; is_top = is_top; stands = stands_in }) keyword
