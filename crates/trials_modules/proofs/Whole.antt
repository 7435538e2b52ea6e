-- Whatever schema modules define, its data nodes are those that their statements give, one after another, but for the
-- numbers of types and for defaults; and so are its choices and modules.
use Rattle.std.proofs.Common.{◌≡◌, ◌+◌, ℕ, zero, suc, List, [], ◌∷◌, length, map, refl, sym, ap, ◌∙◌, arith}
use Rattle.std.specs.Prelude.{Option, Some, None, IsSome, IsSomeAnd, option_and_then, option_map, slice_get}
use Rattle.std.specs.List.{All}
use Rattle.std.proofs.lemmas.List.{length-map}
use Rattle.std.proofs.lemmas.List.Elements.{All-head, All-tail}
use Rattle.std.proofs.lemmas.Option.{slice_get-map}
use Rattle.nc_schema.specs.Tables.{Tables}
use Rattle.nc_schema.specs.declared.node.Node.{Node}
use Rattle.nc_yang_words.specs.declared.statement.Statement.{Statement}
use Rattle.nc_yang_scopes.specs.Scopes.{Located, Scoping}
use Rattle.nc_yang_nodes.specs.Plans.{statement_of}
use Rattle.nc_yang_nodes.specs.Roles.{FeatureTest}
use Rattle.nc_yang_nodes.specs.declared.planned.Plan.{Plan}
use Rattle.nc_yang_nodes.specs.declared.planned.Planned.{Planned}
use Rattle.nc_yang_nodes.proofs.Sound.{plan_is_sound}
use Rattle.nc_yang_data.specs.Data.{data_tables, drafts, nodes_from}
use Rattle.nc_yang_data.specs.Leafs.{CaseTest, names_case}
use Rattle.nc_yang_leafs.specs.Defaults.{HasItsDefault}
use Rattle.nc_yang_leafs.specs.Sources.{Defined}
use Rattle.nc_yang_leafs.specs.Typings.{HasItsType, IsSameNode, NameEach}
use Rattle.nc_yang.specs.Access.{HaveStatements}
use Rattle.nc_yang.specs.declared.text.ModuleText.{ModuleText}
use Rattle.nc_yang.proofs.Reading.{have_one_way}
use Rattle.nc_yang.specs.Schemas.{AreNames, Defines, IsSchemaOf, basis}
use Rattle.trials_modules.proofs.Given.{Seen, given_in, seen, texts_seen}
use Rattle.trials_modules.proofs.Drawn.{tables_are, tables_of}

-- a data node but for the number of its type and its defaults
abbrev pub plain : Node → Node
plain node = record node { kind_of_value = 0; defaults = [] }

-- ---- lists
same_lists : {A : Type 0} (xs ys : List A) → length ys ≡ length xs → ((k : ℕ) (x : A) → slice_get xs k ≡ Some x → slice_get ys k ≡ Some x) → ys ≡ xs
same_lists [] [] long same = refl
same_lists [] (y ∷ ys) long same = absurd (omega (arith, long))
same_lists (x ∷ xs) [] long same = absurd (omega (arith, long))
same_lists (x ∷ xs) (y ∷ ys) long same =
    let first : y ≡ x = (let e = same 0 x refl in cc) in
    let rest = same_lists xs ys (omega (arith, long)) (λ k. same (suc k)) in
    λ i. first i ∷ rest i

-- ---- the schema of a plan
module _ (scoping : Scoping) (on : FeatureTest) (plan : Plan) (tables : Tables) (is : IsSchemaOf scoping on plan tables) where
  abbrev given : Tables
  given = data_tables scoping on plan

  -- a data node in it: as it was given, with its type, and with its defaults
  pub record IsNode (number : ℕ) (old : Node) (l : Located) : Type 0 where
    pub typed : Node
    pub there : slice_get is.typed.nodes number ≡ Some typed
    pub same : IsSameNode old typed
    pub of_type : HasItsType (AreNames scoping on) (NameEach is.typed.patterns) (basis scoping on plan) is.typed.types number typed.kind typed.kind_of_value
    pub has : HasItsDefault scoping.texts is.typed tables (record { number = number; node = typed; statement = l })

  abbrev IsTypedNode : ℕ → Node → Node → Type 0
  IsTypedNode number old new =
      IsSameNode old new
      × HasItsType (AreNames scoping on) (NameEach is.typed.patterns) (basis scoping on plan) is.typed.types number new.kind new.kind_of_value

  node_by : (number : ℕ) (old : Node) (l : Located) (o : Option Node) → slice_get is.typed.nodes number ≡ o → statement_of scoping plan number ≡ Some l →
      IsSomeAnd o (IsTypedNode number old) → IsNode number old l
  node_by number old l None e defined h = absurd h
  node_by number old l (Some new) e defined h =
      let d : Defined = record { number = number; node = new; statement = l } in
      record { typed = new; there = e; same = h.0; of_type = h.1; has = is.defaults.nodes d (e, defined) }

  pub node_at : (number : ℕ) (old : Node) (l : Located) → slice_get given.nodes number ≡ Some old → statement_of scoping plan number ≡ Some l → IsNode number old l
  node_at number old l there defined =
      node_by number old l (slice_get is.typed.nodes number) refl defined (is.is.bare.types.nodes number old there)

  -- each data node has a statement
  abbrev HasStatement : Planned → Type 0
  HasStatement p = IsSome (slice_get scoping.located p.statement)

  abbrev statement_at : List Planned → ℕ → Option Located
  statement_at ps number = option_and_then (λ (p : Planned). slice_get scoping.located p.statement) (slice_get ps number)

  each_defined : (tables : Tables) (named : CaseTest) (n : ℕ) (ps : List Planned) → All HasStatement ps → (number : ℕ) (node : Node) →
      slice_get (nodes_from scoping tables named n ps) number ≡ Some node → IsSome (statement_at ps number)
  each_defined tables named n [] all number node e = absurd (cc)
  each_defined tables named n (p ∷ ps) all zero node e = All-head HasStatement p ps all
  each_defined tables named n (p ∷ ps) all (suc number) node e =
      each_defined tables named (n + 1) ps (All-tail HasStatement p ps all) number node e

  module _ (statements : All HasStatement plan.nodes) where
    plain_by : (number : ℕ) (x : Node) (o : Option Node) (m : Option Located) → slice_get given.nodes number ≡ o → statement_of scoping plan number ≡ m →
        option_map plain o ≡ Some x → ((node : Node) → o ≡ Some node → IsSome m) → option_map plain (slice_get tables.nodes number) ≡ Some x
    plain_by number x None m there defined e some = absurd (cc)
    plain_by number x (Some old) None there defined e some = absurd (let none = some old refl in cc)
    plain_by number x (Some old) (Some l) there defined e some =
        let node = node_at number old l there defined in
        ap (option_map plain) node.has.there ∙ ap (λ z. Some (plain z)) node.same ∙ e

    pub nodes_plain : map plain tables.nodes ≡ map plain given.nodes
    nodes_plain =
        same_lists (map plain given.nodes) (map plain tables.nodes)
        (length-map tables.nodes plain ∙ is.defaults.counted ∙ is.is.bare.types.counted ∙ sym (length-map given.nodes plain))
        (λ number x e. slice_get-map plain tables.nodes number
        ∙ plain_by number x (slice_get given.nodes number) (statement_of scoping plan number) refl refl (sym (slice_get-map plain given.nodes number) ∙ e)
        (λ node there. each_defined (drafts scoping plan) (names_case scoping on plan) 0 plan.nodes statements number node there))

-- ---- modules that are worked: what their statements give, with these features
pub record IsWorked (texts : List Statement) (on : FeatureTest) (s : Seen) (tables : Tables) : Type 0 where
  pub nodes : map plain tables.nodes ≡ map plain (tables_of texts on s).nodes
  pub choices : tables.choices ≡ (tables_of texts on s).choices
  pub modules : tables.modules ≡ (tables_of texts on s).modules

module _ (modules : List ModuleText) (texts : List Statement) (has : HaveStatements modules texts) (steps : ℕ) (s : FeatureTest → Seen)
    (gives : (on : FeatureTest) → given_in texts on steps (length texts) ≡ Some (s on))
    (lines : List (List ℕ)) (tables : Tables) (d : Defines modules lines tables) where
  pub texts_are : d.scoping.texts ≡ texts
  texts_are = have_one_way modules d.scoping.texts texts d.begun.read has

  pub seen_is : seen d.scoping d.gives.plan ≡ s d.on
  seen_is =
      texts_seen d.scoping d.on steps (length d.scoping.texts) (length d.scoping.texts) d.gives.plan (s d.on) refl d.gives.planned.gives
      (ap (λ ts. given_in ts d.on steps (length ts)) texts_are ∙ gives d.on)

  pub given_is : data_tables d.scoping d.on d.gives.plan ≡ tables_of texts d.on (s d.on)
  given_is = tables_are d.scoping d.on d.gives.plan ∙ (λ i. tables_of (texts_are i) d.on (seen_is i))

  pub worked : IsWorked texts d.on (s d.on) tables
  worked = record {
    nodes =
        nodes_plain d.scoping d.on d.gives.plan tables d.gives.is (plan_is_sound d.scoping d.on d.gives.plan d.gives.planned).statements
        ∙ ap (λ (t : Tables). map plain t.nodes) given_is;
    choices = d.gives.is.defaults.choices ∙ d.gives.is.is.bare.types.choices ∙ ap (λ (t : Tables). t.choices) given_is;
    modules = d.gives.is.defaults.modules ∙ d.gives.is.is.bare.types.modules ∙ ap (λ (t : Tables). t.modules) given_is;
  }
