-- Schemas that are one but for their types have the same configurations.
use Rattle.std.proofs.Common.{inl, inr, ◌≡◌, ◌⊎◌, ◌<◌, ◌++◌, ℕ, Bool, List, [], ◌∷◌, length, map, slice_index_or, refl, sym, ap, subst, ◌∙◌}
use Rattle.std.specs.Prelude.{false, Option, Some, None, IfSome, IsFalse, IsSomeAnd, option_map, slice_get}
use Rattle.std.specs.Option.{option_map_or}
use Rattle.std.proofs.lemmas.Option.{slice_get-map}
use Rattle.nc_names.specs.declared.name.Bound.{Bound}
use Rattle.nc_names.specs.declared.path.Path.{Path}
use Rattle.nc_names.specs.declared.path.Row.{Row}
use Rattle.nc_names.specs.declared.path.Step.{Step}
use Rattle.nc_schema.specs.Configuration.{HasCanonicalValue, HasItsValue, IsConfiguration, IsDataTree, IsRowValue, LeadsTo, StandsForItself, key_rows}
use Rattle.nc_schema.specs.Order.{StepBefore, StepsBefore, keys_above, sibling_place}
use Rattle.nc_schema.specs.Paths.{HasAllKeys, IsPathOf, IsStepIn, LeadDown}
use Rattle.nc_schema.specs.Tables.{Tables}
use Rattle.nc_schema.specs.Values.{IsCanonical, canonical}
use Rattle.nc_schema.specs.declared.node.Case.{Case}
use Rattle.nc_schema.specs.declared.node.Node.{Node}
use Rattle.std.specs.List.{Contains}
use Rattle.nc_yang.specs.Laws.{SameConfigurations, without_type}
use Rattle.nc_yang.proofs.Lists.{mapped}
use Rattle.nc_yang.proofs.One.{one_schema}

-- ---- data nodes of the same number
module _ (t u : Tables) (same : map without_type t.nodes ≡ map without_type u.nodes) where
  seen : (n : ℕ) → option_map without_type (slice_get t.nodes n) ≡ option_map without_type (slice_get u.nodes n)
  seen n = sym (slice_get-map without_type t.nodes n) ∙ ap (λ ns. slice_get ns n) same ∙ slice_get-map without_type u.nodes n

  some_too : (R : Node → Type 0) (n : ℕ) → IsSomeAnd (slice_get t.nodes n) (λ z. R (without_type z)) → IsSomeAnd (slice_get u.nodes n) (λ z. R (without_type z))
  some_too R n h = by (slice_get t.nodes n) (slice_get u.nodes n) (seen n) h
    where
      by : (a b : Option Node) → option_map without_type a ≡ option_map without_type b → IsSomeAnd a (λ z. R (without_type z)) → IsSomeAnd b (λ z. R (without_type z))
      by None b e h = absurd h
      by (Some x) None e h = absurd (cc)
      by (Some x) (Some y) e h = let s : without_type x ≡ without_type y = cc in subst R s h

  field_same : {A : Type 0} (f : Node → A) (none : A) (n : ℕ) → option_map_or (λ z. f (without_type z)) (slice_get t.nodes n) none ≡ option_map_or (λ z. f (without_type z)) (slice_get u.nodes n) none
  field_same f none n = by (slice_get t.nodes n) (slice_get u.nodes n) (seen n)
    where
      by : (a b : Option Node) → option_map without_type a ≡ option_map without_type b → option_map_or (λ z. f (without_type z)) a none ≡ option_map_or (λ z. f (without_type z)) b none
      by None None e = refl
      by None (Some y) e = absurd (cc)
      by (Some x) None e = absurd (cc)
      by (Some x) (Some y) e = let s : without_type x ≡ without_type y = cc in ap f s

  -- a node of the other is one of the first
  back : (n : ℕ) (node : Node) → slice_get u.nodes n ≡ Some node → (old : Node) × (slice_get t.nodes n ≡ Some old) × (without_type old ≡ without_type node)
  back n node at = mapped without_type (slice_get t.nodes n) (without_type node) (seen n ∙ ap (option_map without_type) at)

  leads_back : (above : List Step) (step : Step) (node : Node) (row : Row) → LeadsTo u above step node row → (old : Node) × LeadsTo t above step old row × (without_type old ≡ without_type node)
  leads_back above step node row l = let b = back step.node node l.node_is in (b.0, record { path = l.path; node_is = b.1 }, b.2)

module _ (t u : Tables) (same : map without_type t.nodes ≡ map without_type u.nodes) where
  -- ---- paths
  step_too : (above : Option ℕ) (step : Step) → IsStepIn t above step → IsStepIn u above step
  step_too above step h = some_too t u same (λ node. (node.parent ≡ above) × (HasAllKeys node step ⊎ (step.keys ≡ []))) step.node h

  down_too : (above : Option ℕ) (steps : List Step) → LeadDown t above steps → LeadDown u above steps
  down_too above [] h = tt
  down_too above (step ∷ steps) h = (step_too above step h.0, down_too (Some step.node) steps h.1)

  path_too : (path : Path) → IsPathOf t path → IsPathOf u path
  path_too path h = record {
    names = record { steps = h.names.steps; down = down_too None path.steps h.names.down };
    instances = λ k d within. some_too t u same (λ node. HasAllKeys node (slice_index_or path.steps k d)) (slice_index_or path.steps k d).node (h.instances k d within);
  }

  -- ---- order
  keys_same : (above : Option ℕ) → keys_above t above ≡ keys_above u above
  keys_same None = refl
  keys_same (Some n) = field_same t u same (λ node. node.keys) [] n

  step_back : (above : Option ℕ) (step other : Step) → StepBefore u above step other → StepBefore t above step other
  step_back above step other h =
      elim h [
        | inl less ↦ inl (subst (λ ks. sibling_place ks step.node < sibling_place ks other.node) (sym (keys_same above)) less)
        | inr b ↦ inr (b.0, subst (λ o. IsFalse o) (sym (field_same t u same (λ node. node.by_user) false step.node)) b.1, b.2)
      ]

  steps_back : (above : Option ℕ) (steps others : List Step) → StepsBefore u above steps others → StepsBefore t above steps others
  steps_back above [] [] h = h
  steps_back above [] (other ∷ others) h = tt
  steps_back above (step ∷ steps) [] h = h
  steps_back above (step ∷ steps) (other ∷ others) h =
      elim h [ inl b ↦ inl (step_back above step other b) | inr b ↦ inr (b.0, steps_back (Some step.node) steps others b.1) ]

  -- ---- values
  pub value_too : (row : Row) → HasItsValue t row → HasItsValue u row
  value_too row h = λ above step node l.
      let b = leads_back t u same above step node row l in
      subst (λ k. IsRowValue k step row.value) (ap (λ (z : Node). z.kind) b.2) (h above step b.0 b.1)

  -- ---- trees
  tree_too : (rows : List Row) → IsDataTree t rows → IsDataTree u rows
  tree_too rows h = record {
    below = h.below;
    paths = λ k d within. path_too (slice_index_or rows k d).path (h.paths k d within);
    distinct = h.distinct;
    ordered = λ i j d less within before.
        h.ordered i j d less within (steps_back None (slice_index_or rows j d).path.steps (slice_index_or rows i d).path.steps before);
    together = h.together;
    values = λ k d within. value_too (slice_index_or rows k d) (h.values k d within);
    keys = λ before after row above step node is l listed.
        let b = leads_back t u same above step node row l in
        let f = h.keys before after row above step b.0 is b.1 (ap (λ (z : Node). z.kind) b.2 ∙ listed) in
        (f.0, f.1 ∙ ap (λ ks. key_rows row.path.steps ks step.keys ++ f.0) (ap (λ (z : Node). z.keys) b.2));
    ancestors = λ before after row above step next rest node is path below at stands.
        let b = back t u same step.node node at in
        h.ancestors before after row above step next rest b.0 is path below b.1 (subst StandsForItself (sym (ap (λ (z : Node). z.kind) b.2)) stands);
    cases = λ row other above rest others step beside choice case another among also one two in_one in_other.
        h.cases row other above rest others step beside choice case another among also one two
        (some_too u t (sym same) (λ node. Contains node.cases (record { choice = choice; case = case })) step.node in_one)
        (some_too u t (sym same) (λ node. Contains node.cases (record { choice = choice; case = another })) beside.node in_other);
  }

  module _ (values : (number : ℕ) (text : List ℕ) (bounds : List Bound) → canonical t number text bounds ≡ canonical u number text bounds) where
    canonical_too : (number : ℕ) (o : Option (List ℕ)) → IfSome o (IsCanonical t number) → IfSome o (IsCanonical u number)
    canonical_too number None h = tt
    canonical_too number (Some text) h = (h.0, h.1, sym (values number h.0 h.1) ∙ h.2)

    pub configuration_too : (rows : List Row) → IsConfiguration t rows → IsConfiguration u rows
    configuration_too rows h = record {
      tree = tree_too rows h.tree;
      canonical = λ k d within. λ above step node l.
          let b = leads_back t u same above step node (slice_index_or rows k d) l in
          canonical_too step.node (slice_index_or rows k d).value (h.canonical k d within above step b.0 b.1);
    }

pub same_configurations : SameConfigurations
same_configurations modules lines one other d e rows h =
    let s = one_schema modules lines one other d e in configuration_too one other s.nodes s.values rows h
