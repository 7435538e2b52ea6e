-- The rows of one run, as their element is read.
use Rattle.std.proofs.Common.{◌≡◌, ◌||◌, ◌+◌, ◌≤◌, cond, ℕ, zero, suc, Bool, false, List, [], ◌∷◌, ◌++◌, length, Option, Some, None, refl, sym, ap, subst, ◌∙◌, arith}
use Rattle.std.proofs.lemmas.List.{append-nil, nil_from_length}
use Rattle.std.proofs.lemmas.List.Elements.{Contains-append_left, Contains-append_right}
use Rattle.std.proofs.lemmas.List.Folds.{list_any_none}
use Rattle.std.proofs.lemmas.Option.{slice_get_past}
use Rattle.std.specs.Prelude.{Ok, IsSome, IsSomeAnd, IfSome, slice_get, take}
use Rattle.std.specs.List.{Contains}
use Rattle.nc_names.specs.Same.{is_same_step}
use Rattle.nc_names.specs.declared.path.Row.{Row}
use Rattle.nc_names.specs.declared.path.Step.{Step}
use Rattle.nc_names.proofs.SameLemmas.{step_decide}
use Rattle.nc_message.specs.declared.tree.Part.{Part}
use Rattle.nc_schema.specs.Configuration.{HasItsValue, HasValueThat, IsDataTree, IsRowValue, LeadsTo, StandsForItself, key_rows}
use Rattle.nc_schema.specs.Paths.{key_count}
use Rattle.nc_schema.specs.Proper.{IsKeyIn, IsProperSchema}
use Rattle.nc_schema.specs.Standing.{cases_differ, cases_of}
use Rattle.nc_schema.specs.declared.node.Kind.{Kind}
use Rattle.nc_schema.specs.declared.node.Kind.TheVariants.{Container, Leaf, LeafList, List as ListKind}
use Rattle.nc_schema.specs.declared.node.Node.{Node}
use Rattle.nc_schema.proofs.ProperLemmas.{HasProperNodes, HoldsNodes, proper_nodes}
use Rattle.nc_protocol.proofs.BoolLemmas.{is_false}
use Rattle.nc_protocol.proofs.CaseLemmas.{cases_agree, from_cases}
use Rattle.nc_protocol.proofs.ListLemmas.{contains_at, contains_behind}
use Rattle.nc_protocol.proofs.Parts.{all_at, all_from}
use Rattle.nc_protocol.proofs.PathViews.{IsLower, node_after, after_last}
use Rattle.nc_protocol.proofs.SiblingLemmas.{IsStepAt, some_and}
use Rattle.nc_protocol.specs.declared.edit.Edit.{Edit}
use Rattle.nc_protocol.specs.declared.position.Under.TheVariants.{Inline}
use Rattle.nc_protocol.specs.Elements.{Reading, key_values}
use Rattle.nc_protocol.specs.Faults.{clashes}
use Rattle.nc_protocol.specs.Payload.{list_edits}
use Rattle.nc_protocol.specs.Printed.{own_value, parts_at}
use Rattle.nc_print.proofs.KeysBack.{printed_keys_are_read}
use Rattle.nc_print.proofs.PartsLemmas.{nothing_below_its_end, printed_holds_no_text}
use Rattle.nc_print.specs.Laws.{IsKeyReadBack, StandsFree, inline_at}
use Rattle.nc_print.specs.Laws.{merges_at, step_merges}
use Rattle.nc_print.specs.Laws.{AreReadAsThemselves, IsReadAsItself}
use Rattle.nc_print.proofs.ElementsBack.{IsElement, it_is, container_here, entry_here, leaf_here, list_here}
use Rattle.nc_print.proofs.EntryFirst.{entry_parts}
use Rattle.nc_print.proofs.KeysFirst.{first_inside, key_is_lower, key_is_there, key_row_at}
use Rattle.nc_print.proofs.StartLemmas.{Fresh, none_below, run_alone}
use Rattle.nc_print.proofs.StepLemmas.{ends_there, goes_further, length_there, lower_step}

-- a row has no merges below the node where its path ends
pub nothing_merged : (levels depth : ℕ) (row : Row) → length row.path.steps ≤ depth → merges_at levels depth (row ∷ []) ≡ []
nothing_merged zero depth row past = refl
nothing_merged (suc levels) depth row past =
    ap (λ found. step_merges (take depth row.path.steps) (own_value depth row) (merges_at levels (depth + 1) (row ∷ [])) found ++ [])
    (slice_get_past row.path.steps depth past)

-- each element before stands for a row before
abbrev pub AreBefore : List Step → List Step → List Row → Type 0
AreBefore above earlier before = (step : Step) → Contains earlier step → (row : Row) × Contains before row × IsLower row.path.steps (above ++ step ∷ [])

some_value : (o : Option (List ℕ)) → IsSome o → (text : List ℕ) × (o ≡ Some text)
some_value None none = absurd cc
some_value (Some text) some = (text, refl)

one_key : (keys : List (List ℕ)) → length keys ≡ 1 → (text : List ℕ) × (keys ≡ text ∷ [])
one_key [] same = absurd (omega (arith, same))
one_key (text ∷ []) same = (text, refl)
one_key (text ∷ other ∷ more) same = absurd (omega (arith, same))

module _ (reading : Reading) (schema : IsProperSchema reading.tables) (rows : List Row) (tree : IsDataTree reading.tables rows) (read : AreReadAsThemselves reading rows) where
  -- the rows below one node, so many levels deep, are read as their merges
  abbrev pub LevelIsRead : ℕ → Type 0
  LevelIsRead levels =
      (above : List Step) (depth : ℕ) (before some after : List Row) → rows ≡ before ++ (some ++ after) → length above ≡ depth →
      ((r : Row) → Contains some r → IsLower r.path.steps above) → Fresh above before → Fresh above after →
      ((r : Row) → Contains some r → length r.path.steps ≤ depth + levels) →
      list_edits reading (inline_at above (node_after None above)) [] (parts_at reading.tables levels depth some) ≡ Ok (merges_at levels depth some)

  proper : HasProperNodes reading.tables
  proper = proper_nodes reading.tables schema

  module _ (levels depth : ℕ) (above earlier : List Step) (before : List Row) (row : Row) (more rest : List Row) (step : Step) (at : IsStepAt reading.tables above step)
      (same : length above ≡ depth) (rows_are : rows ≡ before ++ row ∷ (more ++ rest)) (lower : (r : Row) → Contains (row ∷ more) r → IsLower r.path.steps (above ++ step ∷ []))
      (fresh : Fresh (above ++ step ∷ []) before) (past : Fresh (above ++ step ∷ []) rest)
      (deep : (r : Row) → Contains (row ∷ more) r → length r.path.steps ≤ depth + suc levels) (stand : AreBefore above earlier before) where
    abbrev below : List Part
    below = parts_at reading.tables levels (depth + 1) (row ∷ more)

    abbrev merged : List Edit
    merged = merges_at levels (depth + 1) (row ∷ more)

    pub in_rows : (r : Row) → Contains (row ∷ more) r → Contains rows r
    in_rows r has = subst (λ (rs : List Row). Contains rs r) (sym rows_are) (Contains-append_right before _ r (Contains-append_left (row ∷ more) rest r has))

    first_there : Contains (row ∷ more) row
    first_there = (0, omega arith, refl)

    before_there : (r : Row) → Contains before r → Contains rows r
    before_there r has = subst (λ (rs : List Row). Contains rs r) (sym rows_are) (Contains-append_left before _ r has)

    -- no element before excludes it (RFC 7950 7.8.5, 7.7.8, 7.9)
    pub free : StandsFree reading.tables earlier at.node step
    free = list_any_none (clashes reading.tables Inline at.node step) earlier (all_from (λ other. clashes reading.tables Inline at.node step other ≡ false) earlier each)
      where
        neither : (a b : Bool) → a ≡ false → b ≡ false → (a || b) ≡ false
        neither a b e f = (λ i. e i || f i)

        each : (other : Step) → Contains earlier other → clashes reading.tables Inline at.node step other ≡ false
        each other has = neither (is_same_step other step) (cases_differ at.node.cases (cases_of reading.tables other.node)) apart agree
          where
            stands : (r : Row) × Contains before r × IsLower r.path.steps (above ++ other ∷ [])
            stands = stand other has

            apart : is_same_step other step ≡ false
            apart = is_false (is_same_step other step) (λ e. fresh stands.0 stands.1 (subst (λ (s : Step). IsLower stands.0.path.steps (above ++ s ∷ [])) ((step_decide other step).0 e) stands.2))

            mine : (rest : List Step) × (row.path.steps ≡ above ++ step ∷ rest)
            mine = lower_step above step row.path.steps (lower row first_there)

            its : (rest : List Step) × (stands.0.path.steps ≡ above ++ other ∷ rest)
            its = lower_step above other stands.0.path.steps stands.2

            agree : cases_differ at.node.cases (cases_of reading.tables other.node) ≡ false
            agree =
                cases_agree at.node.cases (cases_of reading.tables other.node)
                (λ choice case another one two. tree.cases row stands.0 above mine.0 its.0 step other choice case another (in_rows row first_there) (before_there stands.0 stands.1) mine.1 its.1
                (subst (λ (o : Option Node). IsSomeAnd o (λ (n : Node). Contains n.cases (record { choice = choice; case = case }))) (sym at.node_is) one) (from_cases reading.tables other.node choice another two))

    ended : row.path.steps ≡ above ++ step ∷ [] → LeadsTo reading.tables above step at.node row
    ended is = record { path = is; node_is = at.node_is }

    own_is : row.path.steps ≡ above ++ step ∷ [] → own_value depth row ≡ row.value
    own_is is = ap (λ b. cond b row.value None) (ends_there above step depth same row is)

    value_is : (is : row.path.steps ≡ above ++ step ∷ []) → IsRowValue at.node.kind step row.value
    value_is is = all_at (HasItsValue reading.tables) rows row tree.values (in_rows row first_there) above step at.node (ended is)

    read_is : (is : row.path.steps ≡ above ++ step ∷ []) → IfSome row.value (IsReadAsItself reading step.node)
    read_is is = all_at (HasValueThat (IsReadAsItself reading) reading.tables) rows row read (in_rows row first_there) above step at.node (ended is)

    -- a node without a value has none there
    own_none : (kind : Kind) → at.node.kind ≡ kind → ((value : Option (List ℕ)) → IsRowValue kind step value → value ≡ None) → own_value depth row ≡ None
    own_none kind kind_is none = by (lower_step above step row.path.steps (lower row first_there))
      where
        by : (more : List Step) × (row.path.steps ≡ above ++ step ∷ more) → own_value depth row ≡ None
        by ([], is) = own_is is ∙ none row.value (subst (λ (k : Kind). IsRowValue k step row.value) kind_is (value_is is))
        by (next ∷ further, is) = ap (λ b. cond b row.value None) (goes_further above step next further depth same row is)

    no_keys : (kind : Kind) → at.node.kind ≡ kind → key_count kind (length at.node.keys) ≡ 0 → step.keys ≡ []
    no_keys kind kind_is none = nil_from_length step.keys (at.keys ∙ ap (λ k. key_count k (length at.node.keys)) kind_is ∙ none)

    other_parts : (value : Option (List ℕ)) (parts : List Part) (edits : List Edit) → own_value depth row ≡ value → below ≡ parts → merged ≡ edits →
        IsElement reading above earlier step at.node value parts edits → IsElement reading above earlier step at.node (own_value depth row) below merged
    other_parts value parts edits value_same parts_same edits_same is =
        subst (λ (v : Option (List ℕ)). IsElement reading above earlier step at.node v below merged) (sym value_same)
        (subst (λ (ps : List Part). IsElement reading above earlier step at.node value ps merged) (sym parts_same)
        (subst (λ (es : List Edit). IsElement reading above earlier step at.node value parts es) (sym edits_same) is))

    with_keys : (keys : List (List ℕ)) (value : Option (List ℕ)) (parts : List Part) (edits : List Edit) → step.keys ≡ keys →
        (StandsFree reading.tables earlier at.node (record { node = step.node; keys = keys }) →
        IsElement reading above earlier (record { node = step.node; keys = keys }) at.node value parts edits) → IsElement reading above earlier step at.node value parts edits
    with_keys keys value parts edits keys_are make =
        let same_step : record { node = step.node; keys = keys } ≡ step = λ i. record { node = step.node; keys = sym keys_are i } in
        subst (λ (s : Step). IsElement reading above earlier s at.node value parts edits) same_step
        (make (subst (λ (s : Step). StandsFree reading.tables earlier at.node s) (sym same_step) free))

    -- a leaf or a leaf-list entry: the run is its row alone
    module _ (kind : Kind) (kind_is : at.node.kind ≡ kind) (holds : ¬ HoldsNodes kind) where
      ends_here : (r : Row) → Contains (row ∷ more) r → r.path.steps ≡ above ++ step ∷ []
      ends_here r has = none_below reading.tables proper rows tree r above step kind at (in_rows r has) kind_is holds (lower r has)

      alone : more ≡ []
      alone = run_alone reading.tables proper rows tree before rest row more (above ++ step ∷ []) rows_are ends_here

      short : length row.path.steps ≤ depth + 1
      short = let long = length_there above step [] depth same in let here = ap (λ (ss : List Step). length ss) (ends_here row first_there) in omega (arith, long, here)

      no_parts : below ≡ []
      no_parts = ap (λ rs. parts_at reading.tables levels (depth + 1) (row ∷ rs)) alone ∙ nothing_below_its_end reading.tables levels (depth + 1) row short

      no_merges : merged ≡ []
      no_merges = ap (λ rs. merges_at levels (depth + 1) (row ∷ rs)) alone ∙ nothing_merged levels (depth + 1) row short

    leaf_element : at.node.kind ≡ Leaf → IsElement reading above earlier step at.node (own_value depth row) below merged
    leaf_element kind_is =
        let ends = ends_here Leaf kind_is (λ none. none) row first_there in
        let value = some_value row.value (subst (λ (k : Kind). IsRowValue k step row.value) kind_is (value_is ends)) in
        let itself : IsReadAsItself reading step.node value.0 = subst (λ (o : Option (List ℕ)). IfSome o (IsReadAsItself reading step.node)) value.1 (read_is ends) in
        other_parts (Some value.0) [] [] (own_is ends ∙ value.1) (no_parts Leaf kind_is (λ none. none)) (no_merges Leaf kind_is (λ none. none))
        (with_keys [] (Some value.0) [] [] (no_keys Leaf kind_is refl) (leaf_here reading schema above earlier step.node at.node at.node_is value.0 kind_is itself))

    entry_element : at.node.kind ≡ LeafList → IsElement reading above earlier step at.node (own_value depth row) below merged
    entry_element kind_is =
        let ends = ends_here LeafList kind_is (λ none. none) row first_there in
        let key = one_key step.keys (at.keys ∙ ap (λ k. key_count k (length at.node.keys)) kind_is) in
        let value : row.value ≡ Some key.0 = subst (λ (k : Kind). IsRowValue k step row.value) kind_is (value_is ends) ∙ ap (λ (keys : List (List ℕ)). slice_get keys 0) key.1 in
        let itself : IsReadAsItself reading step.node key.0 = subst (λ (o : Option (List ℕ)). IfSome o (IsReadAsItself reading step.node)) value (read_is ends) in
        other_parts (Some key.0) [] [] (own_is ends ∙ value) (no_parts LeafList kind_is (λ none. none)) (no_merges LeafList kind_is (λ none. none))
        (with_keys (key.0 ∷ []) (Some key.0) [] [] key.1 (entry_here reading schema above earlier step.node at.node at.node_is key.0 kind_is itself))

    -- what stands in a container or in an entry is read as its merges
    inner_read : LevelIsRead levels → list_edits reading (inline_at (above ++ step ∷ []) (Some step.node)) [] below ≡ Ok merged
    inner_read inner =
        subst (λ (parent : Option ℕ). list_edits reading (inline_at (above ++ step ∷ []) parent) [] below ≡ Ok merged) (after_last None above step)
        (inner (above ++ step ∷ []) (depth + 1) before (row ∷ more) rest rows_are (let long = length_there above step [] depth same in omega (arith, long)) lower fresh past
        (λ r has. let long = deep r has in omega (arith, long)))

    container_element : LevelIsRead levels → (presence : Bool) → at.node.kind ≡ Container presence → IsElement reading above earlier step at.node (own_value depth row) below merged
    container_element inner presence kind_is =
        let none = no_keys (Container presence) kind_is refl in
        other_parts None below merged (own_none (Container presence) kind_is (λ value is. is.1)) refl refl
        (with_keys [] None below merged none
        (container_here reading schema above earlier step.node at.node at.node_is presence below merged kind_is (printed_holds_no_text reading.tables levels (depth + 1) (row ∷ more))
        (subst (λ (s : Step). list_edits reading (inline_at (above ++ s ∷ []) (Some s.node)) [] below ≡ Ok merged) (λ i. record { node = step.node; keys = none i }) (inner_read inner))))

    -- the row of an entry is the first of its run
    entry_first : at.node.kind ≡ ListKind → row.path.steps ≡ above ++ step ∷ []
    entry_first kind_is = by (lower_step above step row.path.steps (lower row first_there))
      where
        by : (further : List Step) × (row.path.steps ≡ above ++ step ∷ further) → row.path.steps ≡ above ++ step ∷ []
        by ([], is) = is
        by (next ∷ further, is) =
            absurd (fresh (record { path = record { steps = above ++ step ∷ [] }; value = None })
            (tree.ancestors before (more ++ rest) row above step next further at.node rows_are is (above ++ step ∷ [], refl) at.node_is (subst StandsForItself (sym kind_is) tt))
            ([], sym (append-nil (above ++ step ∷ []))))

    -- its keys come next
    keys_next : (kind_is : at.node.kind ≡ ListKind) → (left : List Row) × (more ≡ key_rows (above ++ step ∷ []) at.node.keys step.keys ++ left)
    keys_next kind_is =
        let ends = entry_first kind_is in
        let follow = tree.keys before (more ++ rest) row above step at.node rows_are (ended ends) kind_is in
        let keys_are : more ++ rest ≡ key_rows (above ++ step ∷ []) at.node.keys step.keys ++ follow.0 = follow.1 ∙ ap (λ (ss : List Step). key_rows ss at.node.keys step.keys ++ follow.0) ends in
        first_inside (above ++ step ∷ []) (key_rows (above ++ step ∷ []) at.node.keys step.keys) more rest follow.0 keys_are
        (key_is_lower (above ++ step ∷ []) at.node.keys step.keys) past

    key_read : (kind_is : at.node.kind ≡ ListKind) (place key : ℕ) (value : List ℕ) → slice_get at.node.keys place ≡ Some key → slice_get step.keys place ≡ Some value →
        IsKeyReadBack reading step.node key value
    key_read kind_is place key value key_at value_at =
        let found = some_and (slice_get reading.tables.nodes key) (IsKeyIn step.node) (proper.keys step.node key at.node at.node_is (contains_at at.node.keys place key key_at)) in
        let next = keys_next kind_is in
        let path : List Step = above ++ step ∷ [] in
        let has : Contains rows (key_row_at path key value) =
        in_rows (key_row_at path key value) (subst (λ (rs : List Row). Contains (row ∷ rs) (key_row_at path key value)) (sym next.1)
        (contains_behind row (key_rows path at.node.keys step.keys ++ next.0) (key_row_at path key value)
        (Contains-append_left (key_rows path at.node.keys step.keys) next.0 (key_row_at path key value) (key_is_there path at.node.keys step.keys place key value key_at value_at)))) in
        record {
          node = found.0;
          at = found.1;
          parent = found.2.parent;
          read = all_at (HasValueThat (IsReadAsItself reading) reading.tables) rows (key_row_at path key value) read has path (record { node = key; keys = [] }) found.0 (record { path = refl; node_is = found.1 });
        }

    keyed : (kind_is : at.node.kind ≡ ListKind) → key_values reading (it_is reading step.node at.node None below) at.node.keys ≡ Some step.keys
    keyed kind_is = by levels deep
      where
        lengths : length step.keys ≡ length at.node.keys
        lengths = at.keys ∙ ap (λ k. key_count k (length at.node.keys)) kind_is

        by : (levels : ℕ) → ((r : Row) → Contains (row ∷ more) r → length r.path.steps ≤ depth + suc levels) →
            key_values reading (it_is reading step.node at.node None (parts_at reading.tables levels (depth + 1) (row ∷ more))) at.node.keys ≡ Some step.keys
        by (suc levels) deep =
            let next = keys_next kind_is in
            let first = entry_parts reading.tables proper rows tree (above ++ step ∷ []) (depth + 1) levels (let long = length_there above step [] depth same in omega (arith, long))
            step.node at.node (after_last None above step) at.node_is before rest row more step.keys next.0 rows_are (entry_first kind_is) lower next.1 in
            printed_keys_are_read reading (it_is reading step.node at.node None (parts_at reading.tables (suc levels) (depth + 1) (row ∷ more))) step.keys first.0 schema
            (proper.keys_apart step.node at.node at.node_is) lengths (key_read kind_is) first.1
        by zero deep = none at.node.keys step.keys refl refl lengths
          where
            none : (keys : List ℕ) (values : List (List ℕ)) → at.node.keys ≡ keys → step.keys ≡ values → length step.keys ≡ length at.node.keys →
                key_values reading (it_is reading step.node at.node None (parts_at reading.tables 0 (depth + 1) (row ∷ more))) at.node.keys ≡ Some step.keys
            none [] values is values_are long = absurd ((schema.places.keys step.node at.node at.node_is).some.0 kind_is is)
            none (key ∷ keys) [] is values_are long = absurd (let a = ap (λ (ks : List ℕ). length ks) is in let b = ap (λ (vs : List (List ℕ)). length vs) values_are in omega (arith, a, b, long))
            none (key ∷ keys) (value ∷ values) is values_are long =
                let next = keys_next kind_is in
                let path : List Step = above ++ step ∷ [] in
                let here : Contains (key_rows path at.node.keys step.keys) (key_row_at path key value) =
                key_is_there path at.node.keys step.keys 0 key value (ap (λ (ks : List ℕ). slice_get ks 0) is) (ap (λ (vs : List (List ℕ)). slice_get vs 0) values_are) in
                let has : Contains (row ∷ more) (key_row_at path key value) =
                subst (λ (rs : List Row). Contains (row ∷ rs) (key_row_at path key value)) (sym next.1)
                (contains_behind row (key_rows path at.node.keys step.keys ++ next.0) (key_row_at path key value)
                (Contains-append_left (key_rows path at.node.keys step.keys) next.0 (key_row_at path key value) here)) in
                let small = deep (key_row_at path key value) has in
                let long_path = length_there path (record { node = key; keys = [] }) [] (depth + 1) (let l = length_there above step [] depth same in omega (arith, l)) in
                absurd (omega (arith, small, long_path))

    list_element : LevelIsRead levels → at.node.kind ≡ ListKind → IsElement reading above earlier step at.node (own_value depth row) below merged
    list_element inner kind_is =
        other_parts None below merged (own_none ListKind kind_is (λ value is. is)) refl refl
        (list_here reading schema above earlier step.node at.node at.node_is step.keys below merged kind_is (printed_holds_no_text reading.tables levels (depth + 1) (row ∷ more))
        (keyed kind_is) (inner_read inner) free)

    pub element_is : LevelIsRead levels → IsElement reading above earlier step at.node (own_value depth row) below merged
    element_is inner = by at.node.kind refl
      where
        by : (kind : Kind) → at.node.kind ≡ kind → IsElement reading above earlier step at.node (own_value depth row) below merged
        by (Container presence) is = container_element inner presence is
        by Leaf is = leaf_element is
        by LeafList is = entry_element is
        by ListKind is = list_element inner is
