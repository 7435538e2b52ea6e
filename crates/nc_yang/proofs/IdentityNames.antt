-- The names of identities are identifiers in the namespaces of modules.
use Rattle.std.proofs.Common.{◌≡◌, ◌+◌, ℕ, zero, suc, true, List, [], ◌∷◌, length, map, refl, sym, ap, subst, ◌∙◌, arith}
use Rattle.std.specs.Prelude.{Option, Some, None, Contains, filter, option_map, slice_get}
use Rattle.std.specs.List.{All, Any, range_with_len}
use Rattle.std.specs.Option.{option_map_or}
use Rattle.std.proofs.lemmas.List.Elements.{All-cons, All-nil}
use Rattle.nc_names.specs.Identifiers.{IsIdentifier, is_identifier}
use Rattle.nc_names.specs.declared.name.Module.{Module as SchemaModule}
use Rattle.nc_names.specs.declared.name.QName.{QName}
use Rattle.nc_schema.specs.Proper.{IsIdentityOf}
use Rattle.nc_schema.specs.Tables.{Tables}
use Rattle.nc_yang_words.specs.declared.statement.Statement.{Statement}
use Rattle.nc_yang_statements.specs.declared.fault.ModuleWhy.TheVariants.{BadArgument}
use Rattle.nc_yang_statements.specs.declared.keyword.Keyword.TheVariants.{Identity}
use Rattle.nc_yang_statements.specs.Arguments.{why_misfit}
use Rattle.nc_yang_statements.specs.Keywords.{is_same_keyword}
use Rattle.nc_yang_statements.specs.Statements.{argument, below, kind, name, text_or_nothing}
use Rattle.nc_yang_statements.proofs.Tags.{same_keyword}
use Rattle.nc_yang_scopes.proofs.LinkLists.{contains_first, contains_filter, contains_get, contains_later, contains_map}
use Rattle.nc_yang_order.proofs.Lists.{contains_none}
use Rattle.nc_yang_scopes.specs.Parts.{in_it, parts_of}
use Rattle.nc_yang_scopes.specs.Prefixes.{namespace_at, namespace_in}
use Rattle.nc_yang_scopes.specs.Scopes.{Located, Scoping}
use Rattle.nc_yang_nodes.specs.Roles.{FeatureTest}
use Rattle.nc_yang.specs.Rules.{KeepsTexts}
use Rattle.nc_yang_nodes.specs.Identities.{defined_in, identities}
use Rattle.nc_yang_nodes.specs.Picks.{Picks, none, passed as left, picked}
use Rattle.nc_yang_nodes.specs.Values.{IsValue}
use Rattle.nc_yang_data.specs.Modules.{module_of, modules_from}
use Rattle.nc_yang.specs.Schemas.{AreNames, identity_name}
use Rattle.nc_yang.proofs.Lists.{contained_passes, flat_origin}
use Rattle.nc_yang.proofs.Looked.{lay, looked_in, module_open, none_broken, put, top_looked}
use Rattle.nc_yang.proofs.Modules.{fitting, passed}

-- what is so of all is so of those that are picked
all_picked : {A B : Type 0} (P : A → Type 0) (Q : B → Type 0) (f : A → B) (xs found : List A) → Picks P xs found → ((x : A) → Contains xs x → Q (f x)) → All Q (map f found)
all_picked P Q f _ _ none each = All-nil Q
all_picked P Q f _ _ (left x xs found q more) each = all_picked P Q f xs found more (λ y h. each y (contains_later x xs y h))
all_picked P Q f _ _ (picked x xs found q more) each =
    All-cons Q (f x) (map f found) (each x (contains_first x xs)) (all_picked P Q f xs found more (λ y h. each y (contains_later x xs y h)))

identity_argument : (o : Option (List ℕ)) → why_misfit Identity o ≡ None → is_identifier (text_or_nothing o) ≡ true
identity_argument None e = absurd (cc)
identity_argument (Some text) e = passed (is_identifier text) BadArgument e

-- the module of a text is among those of all
module_there : (on : FeatureTest) (number : ℕ) (texts : List Statement) (text : ℕ) (r : Statement) → slice_get texts text ≡ Some r →
    Any (λ (found : SchemaModule). found.space ≡ namespace_in r) (modules_from on number texts)
module_there on number [] text r is = absurd (cc)
module_there on number (x ∷ texts) zero r is = let same : x ≡ r = cc in (0, module_of on number x, omega arith, refl, ap namespace_in same)
module_there on number (x ∷ texts) (suc text) r is =
    let m = module_there on (number + 1) texts text r is in (suc m.0, m.1, omega (arith, m.2), m.3, m.4)

module _ (texts : List Statement) (keeps : KeepsTexts texts) where
  -- an identity is defined in a text
  pub record IsOfText (l : Located) : Type 0 where
    pub text : ℕ
    pub root : Statement
    pub there : slice_get texts text ≡ Some root
    pub statement : Statement
    pub place : ℕ
    pub within : slice_get (below root) place ≡ Some statement
    pub keyword : is_same_keyword Identity (kind statement) ≡ true
    pub is : put (lay text root) statement ≡ l

  of_root : (text : ℕ) (r : Statement) (l : Located) → slice_get texts text ≡ Some r → Contains (parts_of Identity (lay text r)) l → IsOfText l
  of_root text r l at h =
      let m = contains_map (in_it (lay text r)) (filter (λ s. is_same_keyword Identity (kind s)) (below r)) l h in
      let p = contains_get (below r) m.0 (contains_filter (λ s. is_same_keyword Identity (kind s)) (below r) m.0 m.1.0) in
      record {
        text = text;
        root = r;
        there = at;
        statement = m.0;
        place = p.0;
        within = p.1;
        keyword = contained_passes (λ s. is_same_keyword Identity (kind s)) (below r) m.0 m.1.0;
        is = m.1.1;
      }

  in_text : (text : ℕ) (l : Located) → Contains (defined_in texts text) l → IsOfText l
  in_text text l h = by (slice_get texts text) refl h
    where
      by : (o : Option Statement) → slice_get texts text ≡ o → Contains (option_map_or (parts_of Identity) (option_map (lay text) o) []) l → IsOfText l
      by None e k = absurd (contains_none l k)
      by (Some r) e k = of_root text r l e k

  of_text : (l : Located) → Contains (identities texts) l → IsOfText l
  of_text l h = let t = flat_origin (defined_in texts) (range_with_len 0 (length texts)) l h in in_text t.0 l t.1

  is_name : (l : Located) → IsOfText l → IsIdentifier (name l.statement)
  is_name l t =
      let top = top_looked texts t.text t.root t.there in
      let looked = looked_in texts (lay t.text t.root) t.place t.statement top (module_open texts keeps t.text t.root t.there) t.within in
      let fits = fitting t.statement (none_broken texts keeps (put (lay t.text t.root) t.statement) looked) in
      let named : IsIdentifier (name t.statement) =
      identity_argument (argument t.statement) (subst (λ k. why_misfit k (argument t.statement) ≡ None) (sym (same_keyword Identity (kind t.statement) t.keyword)) fits) in
      subst (λ (z : Located). IsIdentifier (name z.statement)) t.is named

  module _ (on : FeatureTest) (tables : Tables) (modules : tables.modules ≡ modules_from on 0 texts) where
    is_identity : (l : Located) → Contains (identities texts) l → IsIdentityOf tables (identity_name texts l)
    is_identity l h =
        let t = of_text l h in
        let at : namespace_at texts l.place.text ≡ namespace_in t.root =
        sym (ap (λ (z : Located). namespace_at texts z.place.text) t.is) ∙ ap (λ o. option_map_or namespace_in o []) t.there in (
          is_name l t,
          subst (λ ms. Any (λ (found : SchemaModule). found.space ≡ namespace_at texts l.place.text) ms) (sym modules)
              (subst (λ z. Any (λ (found : SchemaModule). found.space ≡ z) (modules_from on 0 texts)) (sym at) (module_there on 0 texts t.text t.root t.there)),
        )

-- `base` statements give identities of the schema's modules
pub are_identities : (scoping : Scoping) (keeps : KeepsTexts scoping.texts) (on : FeatureTest) (tables : Tables) → tables.modules ≡ modules_from on 0 scoping.texts →
    (bases : List Located) (names : List QName) → AreNames scoping on bases names → All (IsIdentityOf tables) names
are_identities scoping keeps on tables modules bases names are =
    subst (All (IsIdentityOf tables)) (sym are.2)
    (all_picked (IsValue scoping.texts on bases) (IsIdentityOf tables) (identity_name scoping.texts) (identities scoping.texts) are.0 are.1
    (is_identity scoping.texts keeps on tables modules))
