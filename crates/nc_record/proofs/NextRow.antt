-- The next row of a data tree is the one that its record, the row before it and those after it tell.
use Rattle.std.proofs.Common.{◌≡◌, ◌⊎◌, ◌∙◌, ◌-◌, ◌++◌, ap, sym, subst, refl, inl, inr, ℕ, zero, suc, Bool, true, false, cond, List, [], ◌∷◌, length, take, map, Option, Some, None, arith}
use Rattle.std.specs.Prelude.{slice_get, unwrap_or, IsSome, IsSomeAnd}
use Rattle.std.specs.List.{All, Contains, last_or}
use Rattle.std.specs.Option.{option_map_or}
use Rattle.std.proofs.lemmas.List.{append_assoc}
use Rattle.std.proofs.lemmas.List.Elements.{All-contains}
use Rattle.nc_names.specs.declared.path.Path.{Path}
use Rattle.nc_names.specs.declared.path.Row.{Row}
use Rattle.nc_names.specs.declared.path.Step.{Step}
use Rattle.nc_schema.specs.Configuration.{HasItsValue, IsDataTree, IsRowValue, key_rows}
use Rattle.nc_schema.specs.Kinds.{has_value}
use Rattle.nc_schema.specs.Paths.{HasAllKeys, key_count}
use Rattle.nc_schema.specs.Proper.{EachNode, StandsIn}
use Rattle.nc_schema.specs.Record.{last_node, value_bytes}
use Rattle.nc_schema.specs.Tables.{Tables}
use Rattle.nc_schema.specs.declared.node.Kind.{Kind}
use Rattle.nc_schema.specs.declared.node.Kind.TheVariants.{Container, Leaf, LeafList, List as ListKind}
use Rattle.nc_schema.specs.declared.node.Node.{Node}
use Rattle.nc_protocol.proofs.ListLemmas.{contains_here, heads_same, tails_same}
use Rattle.nc_record.proofs.Above.{Ends, at_end, ends, has_keys, no_keys, one_step, open_way, row_path, some_is}
use Rattle.nc_record.specs.declared.spelled.Spelled.{Spelled}
use Rattle.nc_record.specs.inner.Given.{spelled_of}
use Rattle.nc_record.specs.inner.Placing.{IsNextIn, IsOpenWay, IsPlaced, has_a_value, keys_by, keys_of, last_steps, value_of}

pub last_is : (above : List Step) (step : Step) (o : Option Step) → last_or o (above ++ step ∷ []) ≡ Some step
last_is [] step o = refl
last_is (s ∷ above) step o = last_is above step (Some s)

one_key : (keys : List (List ℕ)) → length keys ≡ 1 → (key : List ℕ) × (keys ≡ key ∷ [])
one_key [] e = absurd (omega (arith, e))
one_key (k ∷ []) e = (k, refl)
one_key (k ∷ l ∷ keys) e = absurd (omega (arith, e))

some_value : (o : Option (List ℕ)) → IsSome o → Some (unwrap_or o []) ≡ o
some_value None h = absurd (cc)
some_value (Some value) h = refl

-- the values of rows
abbrev values : List Spelled → List (List ℕ)
values rows = map (λ (it : Spelled). it.value) rows

-- those of the rows of keys are the keys
key_values : (entry : List Step) (nodes : List ℕ) (keys : List (List ℕ)) (rest : List Row) → length keys ≡ length nodes →
    values (take (length nodes) (map spelled_of (key_rows entry nodes keys ++ rest))) ≡ keys
key_values entry [] [] rest e = refl
key_values entry [] (k ∷ keys) rest e = absurd (omega (arith, e))
key_values entry (n ∷ nodes) [] rest e = absurd (omega (arith, e))
key_values entry (n ∷ nodes) (k ∷ keys) rest e = ap (λ z. k ∷ z) (key_values entry nodes keys rest (omega (arith, e)))

module _ (tables : Tables) (parents : EachNode tables (λ number node. StandsIn tables number node.parent)) (done rest : List Row) (row : Row) (tree : IsDataTree tables (done ++ row ∷ rest))
    (above : List Step) (step : Step) (steps : row.path.steps ≡ above ++ step ∷ []) where
  node_of : (node : Node) × (slice_get tables.nodes step.node ≡ Some node) × HasAllKeys node step
  node_of = some_is (λ (n : Node). HasAllKeys n step) (slice_get tables.nodes step.node)
      (has_keys tables row.path (row_path tables parents done rest row tree) step (subst (λ z. Contains z step) (sym steps) (contains_here above [] step)))

  value_is : IsRowValue node_of.0.kind step row.value
  value_is = All-contains (HasItsValue tables) (done ++ row ∷ rest) row tree.values (contains_here done rest row) above step node_of.0 (record { path = steps; node_is = node_of.1 })

  number_is : last_node row ≡ step.node
  number_is = ap (λ o. option_map_or (λ (s : Step). s.node) o 0) (ap (last_or None) steps ∙ last_is above step None)

  at : slice_get tables.nodes (last_node row) ≡ Some node_of.0
  at = ap (slice_get tables.nodes) number_is ∙ node_of.1

  keys_at : (kind : Kind) → node_of.0.kind ≡ kind → keys_by kind (length node_of.0.keys) (value_bytes row) (map spelled_of rest) ≡ step.keys
  keys_at (Container presence) e = sym (no_keys step.keys (node_of.2 ∙ ap (λ k. key_count k (length node_of.0.keys)) e))
  keys_at Leaf e = sym (no_keys step.keys (node_of.2 ∙ ap (λ k. key_count k (length node_of.0.keys)) e))
  keys_at LeafList e =
      let k = one_key step.keys (node_of.2 ∙ ap (λ k. key_count k (length node_of.0.keys)) e) in
      let given : row.value ≡ slice_get step.keys 0 = subst (λ k. IsRowValue k step row.value) e value_is in
      let value : row.value ≡ Some k.0 = given ∙ ap (λ z. slice_get z 0) k.1 in
      ap (λ o. unwrap_or o [] ∷ []) value ∙ sym k.1
  keys_at ListKind e =
      let follow = tree.keys done rest row above step node_of.0 refl (record { path = steps; node_is = node_of.1 }) e in
      ap (λ z. values (take (length node_of.0.keys) (map spelled_of z))) follow.1
      ∙ key_values row.path.steps node_of.0.keys step.keys follow.0 (node_of.2 ∙ ap (λ k. key_count k (length node_of.0.keys)) e)

  keys_are : keys_of tables (spelled_of row) (map spelled_of rest) ≡ step.keys
  keys_are = ap (λ o. option_map_or (λ (n : Node). keys_by n.kind (length n.keys) (value_bytes row) (map spelled_of rest)) o []) at ∙ keys_at node_of.0.kind refl

  value_at : (kind : Kind) → node_of.0.kind ≡ kind → cond (has_value kind) (Some (value_bytes row)) None ≡ row.value
  value_at (Container presence) e = let h = subst (λ k. IsRowValue k step row.value) e value_is in sym h.1
  value_at Leaf e = some_value row.value (subst (λ k. IsRowValue k step row.value) e value_is)
  value_at LeafList e =
      let k = one_key step.keys (node_of.2 ∙ ap (λ k. key_count k (length node_of.0.keys)) e) in
      let given : row.value ≡ slice_get step.keys 0 = subst (λ k. IsRowValue k step row.value) e value_is in
      let value : row.value ≡ Some k.0 = given ∙ ap (λ z. slice_get z 0) k.1 in
      ap (λ o. Some (unwrap_or o [])) value ∙ sym value
  value_at ListKind e = sym (subst (λ k. IsRowValue k step row.value) e value_is)

  values_are : value_of tables (spelled_of row) ≡ row.value
  values_are = ap (λ o. cond (has_a_value o) (Some (value_bytes row)) None) at ∙ value_at node_of.0.kind refl

-- what is found of a row
pub record IsRow (tables : Tables) (before : List Step) (spelled : Spelled) (following : List Spelled) (row : Row) : Type 0 where
  pub above : List Step
  pub step : Step
  pub steps : row.path.steps ≡ above ++ step ∷ []
  pub node : step.node ≡ spelled.node
  pub keys : keys_of tables spelled following ≡ step.keys
  pub value : value_of tables spelled ≡ row.value
  pub way : IsOpenWay tables before above step

pub next_row : (tables : Tables) → EachNode tables (λ number node. StandsIn tables number node.parent) → (before : List Step) (spelled : Spelled) (following : List Spelled) (done rest : List Row) (row : Row) →
    IsNextIn tables before spelled following done row rest → IsRow tables before spelled following row
next_row tables parents before spelled following done rest row next = by (ends row.path.steps)
  where
    by : Ends row.path.steps → IsRow tables before spelled following row
    by (inl e) = absurd ((row_path tables parents done rest row next.tree).names.steps e)
    by (inr (above, step, e)) = record {
      above = above;
      step = step;
      steps = e;
      node = sym (number_is tables parents done rest row next.tree above step e) ∙ ap (λ (s : Spelled). s.node) (sym next.spelled_is);
      keys = ap (λ s. keys_of tables s following) next.spelled_is ∙ ap (keys_of tables (spelled_of row)) next.following_is ∙ keys_are tables parents done rest row next.tree above step e;
      value = ap (value_of tables) next.spelled_is ∙ values_are tables parents done rest row next.tree above step e;
      way = subst (λ z. IsOpenWay tables z above step) (sym next.before_is) (open_way tables parents done rest row next.tree above step e);
    }

-- the row that is made
pub row_made : (tables : Tables) (before : List Step) (spelled : Spelled) (following : List Spelled) (row : Row) (it : IsRow tables before spelled following row) (above : List Step) (keys : List (List ℕ)) (value : Option (List ℕ)) →
    above ≡ it.above → keys ≡ keys_of tables spelled following → value ≡ value_of tables spelled →
    record { path = record { steps = above ++ record { node = spelled.node; keys = keys } ∷ [] }; value = value } ≡ row
row_made tables before spelled following row it above keys value e f g =
    let step : record { node = spelled.node; keys = keys } ≡ it.step = one_step (record { node = spelled.node; keys = keys }) it.step (sym it.node) (f ∙ it.keys) in
    let steps : above ++ record { node = spelled.node; keys = keys } ∷ [] ≡ row.path.steps = ap (λ z. z ++ record { node = spelled.node; keys = keys } ∷ []) e ∙ ap (λ s. it.above ++ s ∷ []) step ∙ sym it.steps in
    let values : value ≡ row.value = g ∙ it.value in
    λ i. record { path = record { steps = steps i }; value = values i }

-- one row more is placed
pub placed_more : (tables : Tables) (rows placed : List Row) (left more : List Spelled) (first : Spelled) (made : Row) → IsDataTree tables rows → IsPlaced rows placed left → left ≡ first ∷ more →
    ((done rest : List Row) (row : Row) → IsNextIn tables (last_steps placed) first more done row rest → made ≡ row) → IsPlaced rows (placed ++ made ∷ []) more
placed_more tables rows placed left more first made tree it is given = by it.more it.same it.left_is
  where
    by : (others : List Row) → rows ≡ placed ++ others → left ≡ map spelled_of others → IsPlaced rows (placed ++ made ∷ []) more
    by [] same left_is = absurd (let none : first ∷ more ≡ [] = sym is ∙ left_is in cc)
    by (row ∷ rest) same left_is =
        let next : first ∷ more ≡ spelled_of row ∷ map spelled_of rest = sym is ∙ left_is in
        let one : made ≡ row = given placed rest row (record {
          tree = subst (IsDataTree tables) same tree;
          before_is = refl;
          spelled_is = heads_same first (spelled_of row) more (map spelled_of rest) next;
          following_is = tails_same first (spelled_of row) more (map spelled_of rest) next;
        }) in
        record {
          more = rest;
          same = same ∙ ap (λ r. placed ++ r ∷ rest) (sym one) ∙ sym (append_assoc placed (made ∷ []) rest);
          left_is = tails_same first (spelled_of row) more (map spelled_of rest) next;
        }

-- ---- the data node of a row
pub last_node_is : (row : Row) (step : Step) → slice_get row.path.steps (length row.path.steps - 1) ≡ Some step → step.node ≡ last_node row
last_node_is row step is = by (ends row.path.steps)
  where
    by : Ends row.path.steps → step.node ≡ last_node row
    by (inl e) = absurd (let none : slice_get row.path.steps (length row.path.steps - 1) ≡ None = ap (λ z. slice_get z (length z - 1)) e in cc)
    by (inr (above, last, e)) =
        let at : slice_get row.path.steps (length row.path.steps - 1) ≡ Some last = ap (λ z. slice_get z (length z - 1)) e ∙ at_end above last in
        let same : step ≡ last = (let h : Some step ≡ Some last = sym is ∙ at in cc) in
        ap (λ (s : Step). s.node) same ∙ sym (ap (λ o. option_map_or (λ (s : Step). s.node) o 0) (ap (last_or None) e ∙ last_is above last None))

pub no_last_node : (row : Row) → slice_get row.path.steps (length row.path.steps - 1) ≡ None → 0 ≡ last_node row
no_last_node row is = by (ends row.path.steps)
  where
    by : Ends row.path.steps → 0 ≡ last_node row
    by (inl e) = sym (ap (λ z. option_map_or (λ (s : Step). s.node) (last_or None z) 0) e)
    by (inr (above, last, e)) = absurd (let at : slice_get row.path.steps (length row.path.steps - 1) ≡ Some last = ap (λ z. slice_get z (length z - 1)) e ∙ at_end above last in cc)
