-- The rows of port b are a data tree.
use Rattle.std.proofs.Common.{◌≡◌, ◌≢◌, ◌⊎◌, ◌<◌, ℕ, zero, suc, List, [], ◌∷◌, ◌++◌, length, length-append, Some, None, refl, sym, ap, subst, ◌∙◌, inl, inr, arith}
use Rattle.std.specs.Prelude.{codes, slice_get, slice_index_or}
use Rattle.std.specs.List.{All, AllPairs, Contains, last_or}
use Rattle.std.specs.Option.{IsSomeAnd}
use Rattle.nc_names.specs.declared.path.Row.{Row}
use Rattle.nc_names.specs.declared.path.Step.{Step}
use Rattle.nc_schema.specs.declared.node.Node.{Node}
use Rattle.nc_schema.specs.Configuration.{key_rows, IsAtOrBelow, StandTogether, IsRowValue, HasItsValue, KeysFollow, StandsForItself, AncestorsStand, IsInCase, StandsOneCase, IsDataTree}
use Rattle.nc_schema.specs.Order.{IsBefore}
use Rattle.nc_schema.specs.Paths.{HasAllKeys, IsPathOf}
use Rattle.nc_protocol.proofs.Example.{node, tables, port, name, rows_of_port}
use Rattle.nc_protocol.proofs.ListLemmas.{heads_same, tails_same, no_element, some_same}
use Rattle.nc_protocol.proofs.PlaceLemmas.{last_of, step_irreflexive}

all_two : {X : Type 0} (P : X → Type 0) (x y : X) → P x → P y → All P (x ∷ y ∷ [])
all_two P x y p q zero d within = p
all_two P x y p q (suc zero) d within = q
all_two P x y p q (suc (suc k)) d within = absurd (omega (arith, within))

all_three : {X : Type 0} (P : X → Type 0) (x y z : X) → P x → P y → P z → All P (x ∷ y ∷ z ∷ [])
all_three P x y z p q r zero d within = p
all_three P x y z p q r (suc k) d within = all_two P y z q r k d (omega (arith, within))

pairs_two : {X : Type 0} (R : X → X → Type 0) (x y : X) → R x y → AllPairs R (x ∷ y ∷ [])
pairs_two R x y r zero zero d less within = absurd (omega (arith, less))
pairs_two R x y r zero (suc zero) d less within = r
pairs_two R x y r zero (suc (suc j)) d less within = absurd (omega (arith, within))
pairs_two R x y r (suc i) zero d less within = absurd (omega (arith, less))
pairs_two R x y r (suc i) (suc j) d less within = absurd (omega (arith, less, within))

b : List ℕ
b = codes "b"

entry : Row
entry = record { path = port b; value = None }

key : Row
key = record { path = name b; value = Some b }

top_step : Step
top_step = record { node = 0; keys = [] }

port_step : Step
port_step = record { node = 1; keys = b ∷ [] }

key_step : Step
key_step = record { node = 2; keys = [] }

entry_is_path : IsPathOf tables (port b)
unfolding node tables port b top_step port_step
entry_is_path = record {
  names = record { steps = λ e. cc; down = ((refl, inl refl), ((refl, inl refl), tt)) };
  instances = all_two (λ step. IsSomeAnd (slice_get tables.nodes step.node) (λ found. HasAllKeys found step)) top_step port_step refl refl;
}

entry_is_other : port b ≢ name b
unfolding port name b
entry_is_other e = let sizes : 2 ≡ 3 = ap (λ p. length p.steps) e in omega (arith, sizes)

key_is_later : ¬ IsBefore tables (name b) (port b)
unfolding port name b top_step port_step
key_is_later (inl before) = step_irreflexive tables None top_step before
key_is_later (inr (same, inl before)) = step_irreflexive tables (Some 0) port_step before
key_is_later (inr (same, inr (again, before))) = before

-- two rows have no row between them
none_between : (first between last : List Row) (row other : Row) → rows_of_port b ≡ first ++ row ∷ between ++ other ∷ last → length between ≡ 0
unfolding rows_of_port b
none_between first between last row other is =
    let sizes : 2 ≡ length (first ++ row ∷ between ++ other ∷ last) = ap length is in
    omega (arith, sizes, length-append (first ++ row ∷ between) (other ∷ last), length-append first (row ∷ between))

stand_together : StandTogether (rows_of_port b)
stand_together first between last row other steps is below beyond k d within =
    let none = none_between first between last row other is in absurd (omega (arith, none, within))

-- the last step of a path
last_step : (steps above : List Step) (step : Step) → steps ≡ above ++ step ∷ [] → last_or None steps ≡ Some step
last_step steps above step is = ap (last_or None) is ∙ last_of None above step

node_at : (step other : Step) (node : Node) → step ≡ other → slice_get tables.nodes other.node ≡ Some node → slice_get tables.nodes step.node ≡ Some node
node_at step other node same is = subst (λ (s : Step). slice_get tables.nodes s.node ≡ Some node) (sym same) is

entry_has_no_value : HasItsValue tables entry
unfolding node tables port b entry port_step
entry_has_no_value above step found leads =
    let same = some_same port_step step (last_step _ above step leads.path) in
    let is = some_same _ found (node_at port_step step found same leads.node_is) in
    subst (λ (n : Node). IsRowValue n.kind step None) is refl

key_has_value : HasItsValue tables key
unfolding node tables name b key key_step
key_has_value above step found leads =
    let same = some_same key_step step (last_step _ above step leads.path) in
    let is = some_same _ found (node_at key_step step found same leads.node_is) in
    subst (λ (n : Node). IsRowValue n.kind step (Some b)) is refl

-- what stands at a place of the rows
split_two : {X : Type 0} (x y row : X) (before after : List X) → x ∷ y ∷ [] ≡ before ++ row ∷ after →
    ((before ≡ []) × (x ≡ row) × (after ≡ y ∷ [])) ⊎ ((before ≡ x ∷ []) × (y ≡ row) × (after ≡ []))
split_two x y row [] after is = inl (refl, heads_same _ _ _ _ is, sym (tails_same _ _ _ _ is))
split_two x y row (z ∷ []) after is =
    let rest = tails_same _ _ _ _ is in
    inr ((λ i. sym (heads_same _ _ _ _ is) i ∷ []), heads_same _ _ _ _ rest, sym (tails_same _ _ _ _ rest))
split_two x y row (z ∷ w ∷ before) after is = absurd (no_element before after row (tails_same _ _ _ _ (tails_same _ _ _ _ is)))

keys_follow : KeysFollow tables (rows_of_port b)
unfolding node tables port name rows_of_port b port_step key_step entry key
keys_follow before after row above step found is leads kind = by (split_two _ _ row before after is)
  where
    by : ((before ≡ []) × (entry ≡ row) × (after ≡ key ∷ [])) ⊎ ((before ≡ entry ∷ []) × (key ≡ row) × (after ≡ []))
        → (rest : List Row) × (after ≡ key_rows row.path.steps found.keys step.keys ++ rest)
    by (inl (front, here, behind)) =
        let path : (port b).steps ≡ above ++ step ∷ [] = ap (λ r. r.path.steps) here ∙ leads.path in
        let same = some_same port_step step (last_step _ above step path) in
        let node_is = some_same _ found (node_at port_step step found same leads.node_is) in
        ([], behind ∙ (λ i. key_rows (here i).path.steps (node_is i).keys (same i).keys ++ []))
    by (inr (front, here, behind)) =
        let path : (name b).steps ≡ above ++ step ∷ [] = ap (λ r. r.path.steps) here ∙ leads.path in
        let same = some_same key_step step (last_step _ above step path) in
        let node_is = some_same _ found (node_at key_step step found same leads.node_is) in
        let clash = ap (λ n. n.kind) node_is ∙ kind in
        cc

no_case : (number choice case : ℕ) → ¬ IsInCase tables number choice case
unfolding node tables
no_case zero choice case (k, within, at) = omega (arith, within)
no_case (suc zero) choice case (k, within, at) = omega (arith, within)
no_case (suc (suc zero)) choice case (k, within, at) = omega (arith, within)
no_case (suc (suc (suc n))) choice case none = none

one_case : StandsOneCase tables (rows_of_port b)
one_case row other above rest others step beside choice case another here there path path' in_case in_another =
    absurd (no_case step.node choice case in_case)

key_is_path : IsPathOf tables (name b)
unfolding node tables name b top_step port_step key_step
key_is_path = record {
  names = record { steps = λ e. cc; down = ((refl, inl refl), ((refl, inl refl), ((refl, inl refl), tt))) };
  instances = all_three (λ step. IsSomeAnd (slice_get tables.nodes step.node) (λ found. HasAllKeys found step)) top_step port_step key_step refl refl refl;
}

-- the top container has no row, and only the entry stands above the key
top_stands : (found : Node) (step : Step) → top_step ≡ step → slice_get tables.nodes step.node ≡ Some found → ¬ StandsForItself found.kind
unfolding node tables top_step
top_stands found step same node_is itself =
    let is = some_same _ found (node_at top_step step found same node_is) in
    let none = subst (λ (n : Node). StandsForItself n.kind) (sym is) itself in
    cc

entry_above : (above : List Step) (step next : Step) (rest : List Step) (found : Node) → (port b).steps ≡ above ++ step ∷ next ∷ rest →
    slice_get tables.nodes step.node ≡ Some found → ¬ StandsForItself found.kind
unfolding port b top_step port_step
entry_above [] step next rest found path node_is itself = top_stands found step (heads_same _ _ _ _ path) node_is itself
entry_above (x ∷ []) step next rest found path node_is itself = absurd (no_step (tails_same _ _ _ _ (tails_same _ _ _ _ path)))
  where
    no_step : ¬ ([] ≡ next ∷ rest)
    no_step e = cc
entry_above (x ∷ y ∷ above) step next rest found path node_is itself =
    absurd (no_element above (next ∷ rest) step (tails_same _ _ _ _ (tails_same _ _ _ _ path)))

key_above : (above : List Step) (step next : Step) (rest : List Step) (found : Node) → (name b).steps ≡ above ++ step ∷ next ∷ rest →
    slice_get tables.nodes step.node ≡ Some found → StandsForItself found.kind → (port b).steps ≡ above ++ step ∷ []
unfolding port name b top_step port_step key_step
key_above [] step next rest found path node_is itself = absurd (top_stands found step (heads_same _ _ _ _ path) node_is itself)
key_above (x ∷ []) step next rest found path node_is itself =
    let further = tails_same _ _ _ _ path in
    (λ i. heads_same _ _ _ _ path i ∷ heads_same _ _ _ _ further i ∷ [])
key_above (x ∷ y ∷ []) step next rest found path node_is itself = absurd (no_step (tails_same _ _ _ _ (tails_same _ _ _ _ (tails_same _ _ _ _ path))))
  where
    no_step : ¬ ([] ≡ next ∷ rest)
    no_step e = cc
key_above (x ∷ y ∷ z ∷ above) step next rest found path node_is itself =
    absurd (no_element above (next ∷ rest) step (tails_same _ _ _ _ (tails_same _ _ _ _ (tails_same _ _ _ _ path))))

ancestors_stand : AncestorsStand tables [] (rows_of_port b)
unfolding node tables port name rows_of_port b top_step port_step key_step entry key
ancestors_stand before after row above step next rest found is path below node_is itself = by (split_two _ _ row before after is)
  where
    by : ((before ≡ []) × (entry ≡ row) × (after ≡ key ∷ [])) ⊎ ((before ≡ entry ∷ []) × (key ≡ row) × (after ≡ []))
        → Contains before (record { path = record { steps = above ++ step ∷ [] }; value = None })
    by (inl (front, here, behind)) = absurd (entry_above above step next rest found (ap (λ r. r.path.steps) here ∙ path) node_is itself)
    by (inr (front, here, behind)) =
        let entry_is = key_above above step next rest found (ap (λ r. r.path.steps) here ∙ path) node_is itself in
        (0, subst (λ (rows : List Row). 0 < length rows) (sym front) (omega arith), by_front front entry_is)
      where
        by_front : before ≡ entry ∷ [] → (port b).steps ≡ above ++ step ∷ [] → slice_index_or before 0 (record { path = record { steps = above ++ step ∷ [] }; value = None }) ≡ record { path = record { steps = above ++ step ∷ [] }; value = None }
        by_front front entry_is =
            ap (λ rows. slice_index_or rows 0 (record { path = record { steps = above ++ step ∷ [] }; value = None })) front
            ∙ (λ i. record { path = record { steps = entry_is i }; value = None })

-- the rows of port b are a data tree
port_is_data_tree : IsDataTree tables (rows_of_port b)
unfolding node tables port name rows_of_port b entry key
port_is_data_tree = record {
  below = all_two (λ row. IsAtOrBelow [] row.path) entry key (entry.path.steps, refl) (key.path.steps, refl);
  paths = all_two (λ row. IsPathOf tables row.path) entry key entry_is_path key_is_path;
  distinct = pairs_two (λ row later. row.path ≢ later.path) entry key entry_is_other;
  ordered = pairs_two (λ row later. ¬ IsBefore tables later.path row.path) entry key key_is_later;
  together = stand_together;
  values = all_two (HasItsValue tables) entry key entry_has_no_value key_has_value;
  keys = keys_follow;
  ancestors = ancestors_stand;
  cases = one_case;
}
