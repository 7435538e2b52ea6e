-- The statements of planned nodes are looked at, and leafs and leaf-lists among them have a type that means something.
use Rattle.std.proofs.Common.{◌≡◌, ℕ, Bool, true, false, List, refl, sym, ap, subst, ◌∙◌}
use Rattle.std.specs.Prelude.{Some, slice_get, option_map}
use Rattle.std.proofs.lemmas.Option.{slice_get-map}
use Rattle.nc_yang_words.specs.declared.statement.Statement.{Statement}
use Rattle.nc_yang_statements.specs.declared.keyword.Keyword.{Keyword}
use Rattle.nc_yang_statements.specs.declared.keyword.Keyword.TheVariants.{Grouping, Leaf, LeafList, TypeName}
use Rattle.nc_yang_statements.specs.Keywords.{is_closed, is_same_keyword}
use Rattle.nc_yang_statements.specs.Places.{count_of, is_once}
use Rattle.nc_yang_statements.specs.Statements.{below, kind, name}
use Rattle.nc_yang_statements.proofs.Tags.{same_keyword}
use Rattle.nc_yang_scopes.specs.Names.{itself}
use Rattle.nc_yang_scopes.specs.Parts.{part_of}
use Rattle.nc_yang_scopes.specs.Scopes.{Located, Scoping, resolved, root}
use Rattle.nc_yang_nodes.specs.declared.planned.Plan.{Plan}
use Rattle.nc_yang_nodes.specs.Plans.{IsPlan, statement_of}
use Rattle.nc_yang_nodes.specs.Roles.{FeatureTest, children}
use Rattle.nc_yang_nodes.proofs.Followed.{AreAll, planned_are}
use Rattle.nc_yang.specs.Rules.{KeepsTexts}
use Rattle.nc_yang_types.specs.Faults.{KeepsTypes}
use Rattle.nc_yang_types.specs.Wholes.{MeansWhole}
use Rattle.nc_yang.specs.Laws.{PlannedTypesMean, has_type}
use Rattle.nc_yang.proofs.Lists.{find_there, mapped}
use Rattle.nc_yang.proofs.Looked.{Looked, around, has_needed, has_part, looked_in, module_open, put, resolved_looked, root_of, types_key}
use Rattle.nc_yang.proofs.Meaning.{all_mean}

-- a leaf or a leaf-list has to have a type
asks_type : (keyword : Keyword) → has_type keyword ≡ true → (is_once (count_of keyword TypeName) ≡ true) × (is_closed keyword ≡ false)
asks_type Leaf e = (refl, refl)
asks_type LeafList e = (refl, refl)
asks_type keyword e = absurd (cc)

module _ (texts : List Statement) (keeps : KeepsTexts texts) where
  children_looked : (l : Located) → Looked texts l → is_closed (kind l.statement) ≡ false → AreAll (Looked texts) (children l)
  children_looked l k is_open i c at =
      let m = mapped (put l) (slice_get (below l.statement) i) c (sym (slice_get-map (put l) (below l.statement) i) ∙ at) in
      subst (Looked texts) m.2 (looked_in texts l i m.0 k is_open m.1)

  grouped : (l g : Located) → Looked texts l → resolved texts Grouping (name l.statement) l.place ≡ Some g → AreAll (Looked texts) (children g)
  grouped l g k is =
      let there = resolved_looked texts keeps Grouping (name l.statement) l.place g (around texts l k) is in
      children_looked g there.0 (ap is_closed (sym (same_keyword Grouping (kind g.statement) there.1)))

  top_children : (text : ℕ) (top : Located) → root texts text ≡ Some top → AreAll (Looked texts) (children top)
  top_children text top is =
      let r = root_of texts text top is in
      children_looked top (record { text = text; top = top; is_top = is; stands = itself top })
      (subst (λ (z : Located). is_closed (kind z.statement) ≡ false) r.2 (module_open texts keeps text r.0 r.1))

-- the statement of a planned node is looked at
pub planned_looked : (scoping : Scoping) (features : FeatureTest) (plan : Plan) → KeepsTexts scoping.texts → IsPlan scoping features plan → (number : ℕ) (l : Located) →
    statement_of scoping plan number ≡ Some l → Looked scoping.texts l
planned_looked scoping features plan keeps =
    planned_are scoping features (Looked scoping.texts) (top_children scoping.texts keeps) (children_looked scoping.texts keeps) (grouped scoping.texts keeps) plan

-- its type
pub type_means : (on : ℕ → List ℕ → Bool) (texts : List Statement) (l : Located) → KeepsTexts texts → KeepsTypes on texts → Looked texts l →
    has_type (kind l.statement) ≡ true → (t : Located) × (part_of TypeName l ≡ Some t) × MeansWhole on texts t
type_means on texts l keeps types k has =
    let asks = asks_type (kind l.statement) has in
    let p = has_part TypeName (below l.statement) (has_needed texts keeps l TypeName 29 types_key k asks.1 asks.0) in
    let m = find_there (λ t. is_same_keyword TypeName (kind t)) (below l.statement) p.0 p.1 in (
      put l p.0,
      ap (option_map (put l)) p.1,
      all_mean on texts keeps types (put l p.0) (looked_in texts l m.0 p.0 k asks.1 m.1) m.2,
    )

pub planned_types_mean : PlannedTypesMean
planned_types_mean on scoping features plan keeps types planned number l is has =
    type_means on scoping.texts l keeps types (planned_looked scoping features plan keeps planned number l is) has
