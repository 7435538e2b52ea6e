-- The keys of an entry stand first among its rows, and their elements first in its element.
use Rattle.std.proofs.Common.{◌≡◌, ◌≢◌, ◌+◌, cond, ℕ, zero, suc, true, false, List, [], ◌∷◌, ◌++◌, length, Some, None, refl, sym, ap, subst, ◌∙◌, inl, inr, arith}
use Rattle.std.proofs.lemmas.List.{append_assoc, append-nil}
use Rattle.std.proofs.lemmas.List.Elements.{Contains-append_left, Contains-append_right}
use Rattle.std.proofs.lemmas.Option.{none-some}
use Rattle.std.specs.Prelude.{slice_get, option_map}
use Rattle.std.specs.List.{Contains, flat_map}
use Rattle.nc_names.specs.declared.path.Row.{Row}
use Rattle.nc_names.specs.declared.path.Step.{Step}
use Rattle.nc_names.proofs.SameLemmas.{first_true}
use Rattle.nc_message.specs.declared.tree.Part.{Part}
use Rattle.nc_schema.specs.Children.{is_same_number}
use Rattle.nc_schema.specs.Configuration.{IsDataTree, key_rows}
use Rattle.nc_schema.specs.Proper.{IsKeyIn}
use Rattle.nc_schema.specs.Tables.{Tables}
use Rattle.nc_schema.specs.declared.node.Kind.TheVariants.{Leaf}
use Rattle.nc_schema.specs.declared.node.Node.{Node}
use Rattle.nc_schema.proofs.ProperLemmas.{HasProperNodes}
use Rattle.nc_protocol.proofs.ListLemmas.{no_element, heads_same, tails_same, contains_behind, some_same}
use Rattle.nc_protocol.proofs.Parts.{IsPartOf, pair_at}
use Rattle.nc_protocol.proofs.PathViews.{IsLower, node_after}
use Rattle.nc_protocol.proofs.SiblingLemmas.{IsStepAt, path_step, some_and}
use Rattle.nc_protocol.specs.Printed.{goes_on, node_at, own_value, parts_at, run_parts, step_parts}
use Rattle.nc_print.proofs.PartsLemmas.{nothing_below_its_end}
use Rattle.nc_print.specs.Laws.{key_parts}
use Rattle.nc_print.proofs.CutLemmas.{Chain, WellCut, joined}
use Rattle.nc_print.proofs.StepLemmas.{ends_there, node_there, path_of, step_past, step_there, length_there, step_lower}
use Rattle.nc_print.proofs.StartLemmas.{Fresh, none_below, run_alone, run_lower}

-- the element of a key
abbrev key_element : Tables → ℕ → List ℕ → List Part
key_element tables key value = step_parts tables (Some value) [] (Some (record { node = key; keys = [] }))

-- the row of a key
abbrev pub key_row_at : List Step → ℕ → List ℕ → Row
key_row_at entry key value = record { path = record { steps = entry ++ record { node = key; keys = [] } ∷ [] }; value = Some value }

pub key_is_there : (entry : List Step) (keys : List ℕ) (values : List (List ℕ)) (place key : ℕ) (value : List ℕ) →
    slice_get keys place ≡ Some key → slice_get values place ≡ Some value → Contains (key_rows entry keys values) (key_row_at entry key value)
key_is_there entry [] values place key value at there = absurd (none-some key at)
key_is_there entry (k ∷ keys) [] place key value at there = absurd (none-some value there)
key_is_there entry (k ∷ keys) (v ∷ values) zero key value at there =
    (0, omega arith, (λ i. key_row_at entry (some_same k key at i) (some_same v value there i)))
key_is_there entry (k ∷ keys) (v ∷ values) (suc place) key value at there =
    contains_behind (key_row_at entry k v) (key_rows entry keys values) (key_row_at entry key value) (key_is_there entry keys values place key value at there)

pub key_is_lower : (entry : List Step) (keys : List ℕ) (values : List (List ℕ)) (row : Row) → Contains (key_rows entry keys values) row → IsLower row.path.steps entry
key_is_lower entry [] values row (k, within, here) = absurd (omega (arith, within))
key_is_lower entry (key ∷ keys) [] row (k, within, here) = absurd (omega (arith, within))
key_is_lower entry (key ∷ keys) (value ∷ values) row (zero, within, here) = (record { node = key; keys = [] } ∷ [], sym (ap (λ (r : Row). r.path.steps) here))
key_is_lower entry (key ∷ keys) (value ∷ values) row (suc k, within, here) = key_is_lower entry keys values row (k, omega (arith, within), here)

-- rows that stand first and at or below a node are of the first rows where no other row is
pub first_inside : (path : List Step) (some : List Row) (more after rest : List Row) → more ++ after ≡ some ++ rest → ((r : Row) → Contains some r → IsLower r.path.steps path) →
    Fresh path after → (left : List Row) × (more ≡ some ++ left)
first_inside path [] more after rest is below past = (more, refl)
first_inside path (x ∷ some) [] after rest is below past =
    absurd (past x (subst (λ (rs : List Row). Contains rs x) (sym is) (0, omega arith, refl)) (below x (0, omega arith, refl)))
first_inside path (x ∷ some) (y ∷ more) after rest is below past =
    let inner = first_inside path some more after rest (tails_same y x _ _ is) (λ r has. below r (contains_behind x some r has)) past in
    (inner.0, (λ i. heads_same y x _ _ is i ∷ inner.1 i))

module _ (tables : Tables) (proper : HasProperNodes tables) (rows : List Row) (tree : IsDataTree tables rows) where
  -- a row at a node is a run alone among the rows in it
  pub own_alone : (before after : List Row) (row : Row) (more : List Row) (path : List Step) (depth : ℕ) → rows ≡ before ++ row ∷ (more ++ after) → length path ≡ depth →
      row.path.steps ≡ path → ((r : Row) → Contains (row ∷ more) r → IsLower r.path.steps path) → Chain (goes_on depth) row more → more ≡ []
  own_alone before after row [] path depth rows_are same is below chain = refl
  own_alone before after row (next ∷ more) path depth rows_are same is below chain = absurd (by (below next (1, omega arith, refl)))
    where
      part_here : (front : List Row) → IsPartOf (row ∷ next ∷ []) (front ++ row ∷ next ∷ (more ++ after))
      part_here [] = inl (refl, inl (refl, tt))
      part_here (y ∷ front) = inr (part_here front)

      by : IsLower next.path.steps path → ⊥
      by ([], lower) =
          pair_at (λ (one other : Row). one.path ≢ other.path) rows row next tree.distinct
          (subst (λ (rs : List Row). IsPartOf (row ∷ next ∷ []) rs) (sym rows_are) (part_here before))
          (λ i. record { steps = (is ∙ sym (append-nil path) ∙ sym lower) i })
      by (step ∷ rest, lower) =
          let none : node_at depth row ≡ None = ap (λ (ss : List Step). option_map (λ (s : Step). s.node) (slice_get ss depth)) (is ∙ sym (append-nil path)) ∙ ap (option_map (λ (s : Step). s.node)) (step_past path depth same) in
          let some : node_at depth next ≡ Some step.node = node_there path step rest depth same next lower in
          let numbers : is_same_number (node_at depth row) (node_at depth next) ≡ true = first_true _ _ chain.0 in
          let clash : false ≡ true = (λ i. is_same_number (sym none i) (sym some i)) ∙ numbers in
          cc

  module _ (path : List Step) (depth levels : ℕ) (same : length path ≡ depth) (number : ℕ) (node : Node) (last : node_after None path ≡ Some number) (node_is : slice_get tables.nodes number ≡ Some node) where
    abbrev f : List Row → List Part
    f = run_parts tables (parts_at tables levels (depth + 1)) depth

    -- the element of a key row
    key_part : (key : ℕ) (value : List ℕ) → f (key_row_at path key value ∷ []) ≡ step_parts tables (Some value) [] (Some (record { node = key; keys = [] }))
    key_part key value =
        let step : Step = record { node = key; keys = [] } in
        let row : Row = key_row_at path key value in
        let own : own_value depth row ≡ Some value = ap (λ b. cond b (Some value) None) (ends_there path step depth same row refl) in
        let inner : parts_at tables levels (depth + 1) (row ∷ []) ≡ [] = nothing_below_its_end tables levels (depth + 1) row (omega (arith, length_there path step [] depth same)) in
        (λ i. step_parts tables (own i) (inner i) (step_there path step [] depth same i))

    pub keys_walk : (before after : List Row) (runs : List (List Row)) (keys : List ℕ) (values : List (List ℕ)) (rest : List Row) → WellCut (goes_on depth) runs →
        rows ≡ before ++ (joined runs ++ after) → joined runs ≡ key_rows path keys values ++ rest → ((r : Row) → Contains (joined runs) r → IsLower r.path.steps path) →
        ((key : ℕ) → Contains keys key → Contains node.keys key) →
        (more : List Part) × (flat_map f runs ≡ key_parts tables keys values ++ more)
    keys_walk before after runs [] values rest well rows_are is below known = (flat_map f runs, refl)
    keys_walk before after runs (key ∷ keys) [] rest well rows_are is below known = (flat_map f runs, refl)
    keys_walk before after [] (key ∷ keys) (value ∷ values) rest well rows_are is below known = absurd (no_element [] (key_rows path keys values ++ rest) (key_row_at path key value) is)
    keys_walk before after ([] ∷ later) (key ∷ keys) (value ∷ values) rest well rows_are is below known = absurd well
    keys_walk before after ((row ∷ more) ∷ later) (key ∷ keys) (value ∷ values) rest well rows_are is below known =
        let inner : (more : List Part) × (flat_map f later ≡ key_parts tables keys values ++ more) =
        keys_walk (before ++ row ∷ []) after later keys values rest well.2
        (whole ∙ ap (λ rs. before ++ row ∷ (rs ++ (joined later ++ after))) alone ∙ sym (append_assoc before (row ∷ []) (joined later ++ after)))
        (ap (λ rs. rs ++ joined later) (sym alone) ∙ tails_same row (key_row_at path key value) _ _ is)
        (λ r has. below r (Contains-append_right (row ∷ more) (joined later) r has))
        (λ k has. known k (contains_behind key keys k has)) in
        (inner.0, (λ i. f (run_is i) ++ flat_map f later) ∙ (λ i. key_part key value i ++ flat_map f later) ∙ (λ i. key_element tables key value ++ inner.1 i) ∙ sym (append_assoc (key_element tables key value) (key_parts tables keys values) inner.0))
      where
        step : Step
        step = record { node = key; keys = [] }

        row_is : row ≡ key_row_at path key value
        row_is = heads_same row (key_row_at path key value) _ _ is

        steps_are : row.path.steps ≡ path ++ step ∷ []
        steps_are = ap (λ (r : Row). r.path.steps) row_is

        whole : rows ≡ before ++ row ∷ (more ++ (joined later ++ after))
        whole = rows_are ∙ ap (λ rs. before ++ row ∷ rs) (append_assoc more (joined later) after)

        in_run : (r : Row) → Contains (row ∷ more) r → Contains rows r
        in_run r has = subst (λ (rs : List Row). Contains rs r) (sym whole) (Contains-append_right before _ r (Contains-append_left (row ∷ more) (joined later ++ after) r has))

        lower : (r : Row) → Contains (row ∷ more) r → IsLower r.path.steps (path ++ step ∷ [])
        lower = run_lower tables proper rows tree before (joined later ++ after) row more path depth step whole same
            (λ r has. below r (Contains-append_left (row ∷ more) (joined later) r has)) well.0 (step_lower path step [] row.path.steps steps_are)

        at : IsStepAt tables path step
        at = path_step tables row.path path step [] (path_of tables proper rows tree row (in_run row (0, omega arith, refl))) steps_are

        leaf : at.node.kind ≡ Leaf
        leaf =
            let found = some_and (slice_get tables.nodes key) (IsKeyIn number) (proper.keys number key node node_is (known key (0, omega arith, refl))) in
            ap (λ (n : Node). n.kind) (some_same at.node found.0 (sym at.node_is ∙ found.1)) ∙ found.2.kind

        alone : more ≡ []
        alone = run_alone tables proper rows tree before (joined later ++ after) row more (path ++ step ∷ []) whole
            (λ r has. none_below tables proper rows tree r path step Leaf at (in_run r has) leaf (λ none. none) (lower r has))

        run_is : row ∷ more ≡ key_row_at path key value ∷ []
        run_is i = row_is i ∷ alone i
