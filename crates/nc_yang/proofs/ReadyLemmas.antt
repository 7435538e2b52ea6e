-- A schema with types is ready for defaults.
use Rattle.std.proofs.Common.{◌≡◌, ◌<◌, ◌+◌, ℕ, zero, suc, Bool, true, List, [], ◌∷◌, length, refl, sym, ap, subst, ◌∙◌}
use Rattle.std.specs.Prelude.{Option, Some, None, IsSome, is_some, IsSomeAnd, slice_get, option_and_then}
use Rattle.std.specs.Option.{option_map_or}
use Rattle.std.specs.List.{All}
use Rattle.std.proofs.lemmas.List.Elements.{All-get_or}
use Rattle.std.proofs.lemmas.Option.{get_or_from_slice_get, slice_get_within}
use Rattle.nc_names.specs.declared.name.QName.{QName}
use Rattle.nc_schema.specs.Kinds.{has_value}
use Rattle.nc_schema.specs.Tables.{Tables}
use Rattle.nc_schema.specs.declared.node.Node.{Node}
use Rattle.nc_yang_words.specs.declared.statement.Statement.{Statement}
use Rattle.nc_yang_statements.specs.declared.keyword.Keyword.TheVariants.{TypeName}
use Rattle.nc_yang_scopes.specs.Parts.{part_of}
use Rattle.nc_yang_scopes.specs.Prefixes.{namespace_at}
use Rattle.nc_yang_scopes.specs.Scopes.{Located, Scoping}
use Rattle.nc_yang_nodes.specs.Plans.{IsPlan, statement_of}
use Rattle.nc_yang_nodes.specs.Roles.{FeatureTest}
use Rattle.nc_yang_nodes.specs.declared.planned.Plan.{Plan}
use Rattle.nc_yang_nodes.specs.declared.planned.Planned.{Planned}
use Rattle.nc_yang_nodes.proofs.ListLemmas.{got}
use Rattle.nc_yang_nodes.proofs.Sound.{plan_is_sound}
use Rattle.nc_yang_data.specs.Data.{data_tables, drafts, node_at, nodes_from}
use Rattle.nc_yang_data.specs.Leafs.{CaseTest, names_case}
use Rattle.nc_yang_data.specs.Drafts.{draft_at, draft_in, unknown_in}
use Rattle.nc_yang_types.specs.Meanings.{Meaning, Means}
use Rattle.nc_yang_types.specs.Wholes.{MeansWhole, whole}
use Rattle.nc_yang_leafs.specs.Bases.{AllMeanWhole}
use Rattle.nc_yang_leafs.specs.Conditions.{holds}
use Rattle.nc_yang_leafs.specs.declared.bare.Typed.{Typed}
use Rattle.nc_yang_leafs.specs.Patterns.{AreTypings}
use Rattle.nc_yang_leafs.specs.Typings.{HasItsType, HasTypings, IsSameNode}
use Rattle.nc_yang_scopes.specs.Numbers.{AreNumbers}
use Rattle.nc_yang_leafs.specs.Sources.{Defined, IsDefined}
use Rattle.nc_yang_leafs.specs.Typed.{HasMeaning, IsTyped as IsReady}
use Rattle.nc_yang.specs.Schemas.{basis, basis_of}

-- what is so of all is so of each
all_at : {A : Type 0} (P : A → Type 0) (xs : List A) (n : ℕ) (x : A) → All P xs → slice_get xs n ≡ Some x → P x
all_at P xs n x h is = subst P (get_or_from_slice_get xs n x x is) (All-get_or P xs n x (slice_get_within xs n x is) h)

-- what means something as a whole means something
meaning_of : (on : ℕ → List ℕ → Bool) (texts : List Statement) (l : Located) → MeansWhole on texts l → (m : Meaning) × Means on texts l m
meaning_of on texts _ (whole l m means members) = (m, means)

nodes_long : (scoping : Scoping) (tables : Tables) (named : CaseTest) (k : ℕ) (ps : List Planned) → length (nodes_from scoping tables named k ps) ≡ length ps
nodes_long scoping tables named k [] = refl
nodes_long scoping tables named k (p ∷ ps) = ap suc (nodes_long scoping tables named (k + 1) ps)

-- the data nodes of a plan have no defaults yet
draft_fresh : (scoping : Scoping) (p : Planned) → (draft_at scoping p).defaults ≡ []
draft_fresh scoping p = by (slice_get scoping.located p.statement)
  where
    by : (o : Option Located) → (option_map_or (λ (l : Located). draft_in (namespace_at scoping.texts p.module) p l.statement) o (unknown_in (namespace_at scoping.texts p.module) p)).defaults ≡ []
    by None = refl
    by (Some l) = refl

nodes_fresh : (scoping : Scoping) (tables : Tables) (named : CaseTest) (k n : ℕ) (ps : List Planned) (node : Node) → slice_get (nodes_from scoping tables named k ps) n ≡ Some node → node.defaults ≡ []
nodes_fresh scoping tables named k n [] node e = absurd (cc)
nodes_fresh scoping tables named k zero (p ∷ ps) node e =
    let same : node_at scoping tables named k p ≡ node = cc in sym (ap (λ (z : Node). z.defaults) same) ∙ draft_fresh scoping p
nodes_fresh scoping tables named k (suc n) (p ∷ ps) node e = nodes_fresh scoping tables named (k + 1) n ps node e

-- data nodes of a plan, each of which has a statement and no defaults
pub record AreFresh (scoping : Scoping) (plan : Plan) (given : Tables) : Type 0 where
  pub counted : length given.nodes ≡ length plan.nodes
  pub stated : (number : ℕ) → number < length plan.nodes → IsSome (statement_of scoping plan number)
  pub fresh : (number : ℕ) (node : Node) → slice_get given.nodes number ≡ Some node → node.defaults ≡ []

module _ (scoping : Scoping) (on : FeatureTest) (plan : Plan) (given : Tables) (are_fresh : AreFresh scoping plan given) (derived : List Located → List QName → Type 0)
    (named : List ℕ → List Located → Type 0) (typed : Tables) (is : HasTypings derived named (basis_of scoping on plan given) typed) where
  long : length typed.nodes ≡ length plan.nodes
  long = is.counted ∙ are_fresh.counted

  -- a node as it was
  record Was (d : Defined) : Type 0 where
    old : Node
    at : slice_get given.nodes d.number ≡ Some old
    same : IsSameNode old d.node

  was : (d : Defined) → IsDefined scoping plan typed d → Was d
  was d defined =
      let within : d.number < length typed.nodes = slice_get_within typed.nodes d.number d.node defined.0 in
      let g = got given.nodes d.number (subst (λ n. d.number < n) is.counted within) in
      let new : IsSameNode g.0 d.node × HasItsType derived named (basis_of scoping on plan given) typed.types d.number d.node.kind d.node.kind_of_value = subst (λ o. IsSomeAnd o (λ new. IsSameNode g.0 new × HasItsType derived named (basis_of scoping on plan given) typed.types d.number new.kind new.kind_of_value)) defined.0 (is.nodes d.number g.0 g.1) in
      record { old = g.0; at = g.1; same = new.0 }

  mean : AllMeanWhole (basis_of scoping on plan given) → (d : Defined) → IsDefined scoping plan typed d → has_value d.node.kind ≡ true → HasMeaning scoping.texts d.statement
  mean all d defined has =
      let w = was d defined in
      let t = all d.number w.old w.at (sym (ap (λ (z : Node). has_value z.kind) w.same) ∙ has) in
      let m = meaning_of (holds scoping.texts on) scoping.texts t.0 t.2 in
      record {
        of_type = t.0;
        is_type = sym (ap (option_and_then (part_of TypeName)) defined.1) ∙ t.1;
        on = holds scoping.texts on;
        meaning = m.0;
        means = m.1;
      }

  fresh : (d : Defined) → IsDefined scoping plan typed d → d.node.defaults ≡ []
  fresh d defined =
      let w = was d defined in
      ap (λ (z : Node). z.defaults) w.same ∙ are_fresh.fresh d.number w.old w.at

  pub made_ready : AllMeanWhole (basis_of scoping on plan given) → IsReady scoping plan typed
  made_ready all = record { counted = long; stated = are_fresh.stated; meanings = mean all; fresh = fresh }

-- a schema whose types have no patterns yet is ready for its defaults
pub ready_bare : (scoping : Scoping) (on : FeatureTest) (plan : Plan) (given : Tables) → AreFresh scoping plan given → (derived : List Located → List QName → Type 0) (typed : Typed) →
    AreTypings derived (basis_of scoping on plan given) typed → AllMeanWhole (basis_of scoping on plan given) → IsReady scoping plan typed.schema
ready_bare scoping on plan given are_fresh derived typed are all =
    let ready = made_ready scoping on plan given are_fresh derived (AreNumbers scoping.located) (record typed.schema { types = are.types }) are.is all in
    record { counted = ready.counted; stated = ready.stated; meanings = ready.meanings; fresh = ready.fresh }

-- so it is with the data nodes of modules
module _ (scoping : Scoping) (on : FeatureTest) (plan : Plan) (planned : IsPlan scoping on plan) where
  stated : (number : ℕ) → number < length plan.nodes → IsSome (statement_of scoping plan number)
  stated number less =
      let g = got plan.nodes number less in
      ap (λ o. is_some (option_and_then (λ (n : Planned). slice_get scoping.located n.statement) o)) g.1
      ∙ all_at (λ (n : Planned). IsSome (slice_get scoping.located n.statement)) plan.nodes number g.0 (plan_is_sound scoping on plan planned).statements g.1

  data_fresh : AreFresh scoping plan (data_tables scoping on plan)
  data_fresh = record {
    counted = nodes_long scoping (drafts scoping plan) (names_case scoping on plan) 0 plan.nodes;
    stated = stated;
    fresh = λ number node at. nodes_fresh scoping (drafts scoping plan) (names_case scoping on plan) 0 number plan.nodes node at;
  }

  pub is_ready : (derived : List Located → List QName → Type 0) (named : List ℕ → List Located → Type 0) (typed : Tables) → HasTypings derived named (basis scoping on plan) typed →
      AllMeanWhole (basis scoping on plan) → IsReady scoping plan typed
  is_ready = made_ready scoping on plan (data_tables scoping on plan) data_fresh

pub bare_ready : (scoping : Scoping) (on : FeatureTest) (plan : Plan) → IsPlan scoping on plan → (derived : List Located → List QName → Type 0) (typed : Typed) →
    AreTypings derived (basis scoping on plan) typed → AllMeanWhole (basis scoping on plan) → IsReady scoping plan typed.schema
bare_ready scoping on plan planned = ready_bare scoping on plan (data_tables scoping on plan) (data_fresh scoping on plan planned)
