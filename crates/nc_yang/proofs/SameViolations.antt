-- Schemas that are one but for their types have the same violations.
use Rattle.std.proofs.Common.{inl, inr, ◌≡◌, ◌⊎◌, ◌&&◌, ◌++◌, not, cond, ℕ, Bool, true, List, [], ◌∷◌, refl, sym, ap, subst, ◌∙◌}
use Rattle.std.specs.Prelude.{Option, Some, None, option_and_then, slice_get, Contains}
use Rattle.std.specs.List.{All, flat_map, last_or}
use Rattle.std.specs.Option.{option_map_or}
use Rattle.nc_names.specs.declared.cause.CauseKind.TheVariants.{DeadInstance, DeadLeafref}
use Rattle.nc_names.specs.declared.path.Row.{Row}
use Rattle.nc_names.specs.declared.path.Step.{Step}
use Rattle.nc_schema.specs.Configuration.{HasItsValue, IsConfiguration, IsRowValue}
use Rattle.nc_schema.specs.Kinds.{has_value}
use Rattle.nc_schema.specs.Tables.{Tables}
use Rattle.nc_schema.specs.Values.{type_of}
use Rattle.nc_schema.specs.Violations.{has_text, reference_violation, row_violation, structural_violations, turning_steps, type_there, violated, violations}
use Rattle.nc_schema.specs.declared.node.Kind.{Kind}
use Rattle.nc_schema.specs.declared.node.Kind.TheVariants.{Container, Leaf, LeafList, List as ListKind}
use Rattle.nc_schema.specs.declared.node.Node.{Node}
use Rattle.nc_schema.specs.declared.value_type.ValueType.{ValueType}
use Rattle.nc_schema.specs.declared.value_type.ValueType.TheVariants.{Instance, Leafref}
use Rattle.nc_schema.specs.declared.violation.Violation.{Violation}
use Rattle.nc_yang_scopes.proofs.LinkLists.{contains_first, contains_later}
use Rattle.nc_yang.specs.Laws.{AreOneSchema, SameViolations, reference_at, reference_in}
use Rattle.nc_yang.proofs.One.{one_schema}
use Rattle.nc_yang.proofs.SameTrees.{value_too}
use Rattle.nc_yang.proofs.Typeless.{named_same, referred_same, structure_same, typeless}

-- what stands before the last element
last_split : {A : Type 0} (o : Option A) (xs : List A) (x : A) → last_or o xs ≡ Some x → ((xs ≡ []) × (o ≡ Some x)) ⊎ ((above : List A) × (xs ≡ above ++ x ∷ []))
last_split o [] x e = inl (refl, e)
last_split o (y ∷ ys) x e = elim (last_split (Some y) ys x e) [
  | inl none ↦ inr ([], (let same : y ≡ x = (let f = none.1 in cc) in λ i. same i ∷ none.0 i))
  | inr more ↦ inr (y ∷ more.0, ap (λ zs. y ∷ zs) more.1)
]

-- lists of the same
flat_alike : {A B : Type 0} (f g : A → List B) (xs : List A) → ((x : A) → Contains xs x → f x ≡ g x) → flat_map f xs ≡ flat_map g xs
flat_alike f g [] same = refl
flat_alike f g (x ∷ xs) same =
    let first = same x (contains_first x xs) in
    let rest = flat_alike f g xs (λ y later. same y (contains_later x xs y later)) in
    λ i. first i ++ rest i

-- a node whose row has a value is a leaf or an entry of a leaf-list
is_valued : (kind : Kind) (step : Step) (text : List ℕ) → IsRowValue kind step (Some text) → has_value kind ≡ true
is_valued (Container presence) step text h = absurd (let e = h.1 in cc)
is_valued Leaf step text h = refl
is_valued LeafList step text h = refl
is_valued ListKind step text h = absurd (let e = h in cc)

module _ (t : Tables) (rows : List Row) (steps : List Step) (text : List ℕ) where
  abbrev judged : Option ValueType → List Violation
  judged o = option_map_or (reference_violation t rows steps text) o []

  -- a type that refers to nothing has no violation
  referring : (o : Option ValueType) → judged o ≡ judged (option_and_then reference_in o)
  referring None = refl
  referring (Some (Leafref target above required)) = refl
  referring (Some (Instance required)) = refl
  referring (Some type) = refl

  typeless_judged : (type : ValueType) → reference_violation (typeless t) rows steps text type ≡ reference_violation t rows steps text type
  typeless_judged (Leafref target above required) = λ i. violated (required && not (has_text text (referred_same t rows (turning_steps above steps) target i))) DeadLeafref steps
  typeless_judged (Instance required) = λ i. violated (required && not (named_same t rows text i)) DeadInstance steps
  typeless_judged type = refl

-- what the last step leads to refers to
abbrev refers_to : Tables → Option Step → Option ValueType
refers_to t o = option_and_then (λ (step : Step). reference_at t step.node) o

module _ (t : Tables) (rows : List Row) (row : Row) (its : HasItsValue t row) where
  abbrev in_node : Option Node → Option ValueType
  in_node o = option_and_then (λ (node : Node). slice_get t.types node.kind_of_value) o

  abbrev kind_in : Node → Option ℕ
  kind_in node = cond (has_value node.kind) (Some node.kind_of_value) None

  abbrev type_at : Option Step → Option ValueType
  type_at o = option_and_then (λ (step : Step). option_and_then (slice_get t.types) (type_of t step.node)) o

  refers_type : (o : Option Step) → option_and_then reference_in (type_at o) ≡ refers_to t o
  refers_type None = refl
  refers_type (Some step) = refl

  module _ (text : List ℕ) (is : row.value ≡ Some text) where
    node_type : (step : Step) → last_or None row.path.steps ≡ Some step → (o : Option Node) → slice_get t.nodes step.node ≡ o →
        in_node o ≡ option_and_then (slice_get t.types) (option_and_then kind_in o)
    node_type step last None there = refl
    node_type step last (Some node) there = elim (last_split None row.path.steps step last) [
      | inl none ↦ absurd (let e = none.1 in cc)
      | inr split ↦
          (let value = subst (IsRowValue node.kind step) is (its split.0 step node (record { path = split.1; node_is = there })) in
          let has = is_valued node.kind step text value in
          sym (ap (λ b. option_and_then (slice_get t.types) (cond b (Some node.kind_of_value) None)) has))
    ]

    step_type : (o : Option Step) → last_or None row.path.steps ≡ o → in_node (option_and_then (λ (step : Step). slice_get t.nodes step.node) o) ≡ type_at o
    step_type None last = refl
    step_type (Some step) last = node_type step last (slice_get t.nodes step.node) refl

    pub row_judged : row_violation t rows row ≡ option_map_or (reference_violation (typeless t) rows row.path.steps text) (refers_to t (last_or None row.path.steps)) []
    row_judged =
        let last = last_or None row.path.steps in
        ap (λ o. option_map_or (λ (given : List ℕ). judged t rows row.path.steps given (in_node (option_and_then (λ (step : Step). slice_get t.nodes step.node) last))) o []) is
        ∙ ap (judged t rows row.path.steps text) (step_type last refl)
        ∙ referring t rows row.path.steps text (type_at last)
        ∙ ap (judged t rows row.path.steps text) (refers_type last)
        ∙ sym (λ i. option_map_or (λ type. typeless_judged t rows row.path.steps text type i) (refers_to t last) [])

module _ (t u : Tables) (s : AreOneSchema t u) (rows : List Row) where
  alike : typeless t ≡ typeless u
  alike = λ i. record { nodes = s.nodes i; choices = s.choices i; types = []; modules = s.modules i; patterns = [] }

  row_too : (row : Row) → HasItsValue t row → row_violation t rows row ≡ row_violation u rows row
  row_too row its = by row.value refl
    where
      by : (o : Option (List ℕ)) → row.value ≡ o → row_violation t rows row ≡ row_violation u rows row
      by None is =
          ap (λ o. option_map_or (λ text. option_map_or (reference_violation t rows row.path.steps text) (type_there t row.path.steps) []) o []) is
          ∙ sym (ap (λ o. option_map_or (λ text. option_map_or (reference_violation u rows row.path.steps text) (type_there u row.path.steps) []) o []) is)
      by (Some text) is =
          row_judged t rows row its text is
          ∙ (λ i. option_map_or (reference_violation (alike i) rows row.path.steps text) (option_and_then (λ (step : Step). s.references step.node i) (last_or None row.path.steps)) [])
          ∙ sym (row_judged u rows row (value_too t u s.nodes row its) text is)

  pub violations_too : IsConfiguration t rows → violations t rows ≡ violations u rows
  violations_too h =
      let structure : structural_violations t rows ≡ structural_violations u rows =
      sym (structure_same t rows) ∙ ap (λ z. structural_violations z rows) alike ∙ structure_same u rows in
      let references : flat_map (row_violation t rows) rows ≡ flat_map (row_violation u rows) rows =
      flat_alike (row_violation t rows) (row_violation u rows) rows (λ row among. row_too row (subst (HasItsValue t) among.2 (h.tree.values among.0 row among.1))) in
      λ i. structure i ++ references i

pub same_violations : SameViolations
same_violations modules lines one other d e rows h = violations_too one other (one_schema modules lines one other d e) rows h
