-- What stands above a node, by the tests of an edit; and whether a node is a key.
use Rattle.std.proofs.Common.{◌≡◌, ◌≢◌, ◌⊎◌, ◌&&◌, ℕ, zero, suc, Bool, true, false, not, List, [], ◌∷◌, ◌++◌, Some, None, refl, sym, ap, subst, ◌∙◌, inl, inr, arith}
use Rattle.std.proofs.lemmas.List.{append_assoc}
use Rattle.std.proofs.lemmas.Option.{slice_get-get_or}
use Rattle.std.specs.Cmp.Lexicographic.{pointwise_decides}
use Rattle.std.specs.List.{Contains, list_any}
use Rattle.std.specs.Option.{option_map_or}
use Rattle.std.specs.Prelude.{map, option_and_then, slice_get}
use Rattle.std.proofs.lemmas.List.Folds.{Any-from_list_any}
use Rattle.nc_names.specs.declared.path.Path.{Path}
use Rattle.nc_names.specs.declared.path.Row.{Row}
use Rattle.nc_names.specs.declared.path.Step.{Step}
use Rattle.nc_schema.specs.declared.node.Kind.{Kind}
use Rattle.nc_schema.specs.declared.node.Kind.TheVariants.{Container, Leaf, LeafList, List as ListKind}
use Rattle.nc_schema.specs.declared.node.Node.{Node}
use Rattle.nc_schema.specs.Configuration.{HasItsValue, StandsForItself, IsDataTree}
use Rattle.nc_schema.specs.Paths.{IsPathOf}
use Rattle.nc_schema.specs.Tables.{Tables}
use Rattle.nc_protocol.specs.ProperEdit.{IsKeyAt, IsNoKey}
use Rattle.nc_names.specs.Same.{is_same_path, is_at_or_below}
use Rattle.nc_schema.specs.Standing.{node_of, has_row, block_at, exists, above_of, lacks_above}
use Rattle.nc_schema.specs.Kinds.{stands_for_itself}
use Rattle.nc_protocol.proofs.KeyLemmas.{listed}
use Rattle.nc_protocol.proofs.ListLemmas.{contains_behind, heads_same, tails_same, no_element, none_passes, some_same, contains_at}
use Rattle.nc_protocol.proofs.OwnLemmas.{HasLast, last_found, no_own_value}
use Rattle.nc_protocol.proofs.Parts.{all_at, kept_contains, kept_true, part_first}
use Rattle.nc_protocol.proofs.PathViews.{IsLower}
use Rattle.nc_protocol.proofs.PlaceLemmas.{below_is_below, last_of}
use Rattle.nc_names.proofs.SameLemmas.{step_decide}
use Rattle.nc_protocol.proofs.SiblingLemmas.{IsStepAt, path_step, ancestor}

-- an element that passes the test
pub some_passes : {X : Type 0} (p : X → Bool) (xs : List X) → list_any p xs ≡ true → (x : X) × Contains xs x × (p x ≡ true)
some_passes p xs e = let found = Any-from_list_any p xs e in (found.1, (found.0, found.2, found.3), found.4)

pub path_decide_to : (a b : List Step) → is_same_path a b ≡ true → a ≡ b
path_decide_to a b e = (pointwise_decides step_decide a b).0 e

-- a node that exists has a row at it or below it
pub row_below : (rows : List Row) (steps : List Step) → exists rows steps ≡ true → (row : Row) × Contains rows row × IsLower row.path.steps steps
row_below rows steps e = by (some_passes _ rows e)
  where
    by : (row : Row) × Contains rows row × (is_at_or_below steps row.path ≡ true) → (row : Row) × Contains rows row × IsLower row.path.steps steps
    by (row, has, is) = (row, has, (below_is_below steps row.path).0 is)

contains_map : {A B : Type 0} (f : A → B) (xs : List A) (x : A) → Contains xs x → Contains (map f xs) (f x)
contains_map f [] x has = absurd (omega (arith, has.1))
contains_map f (y ∷ xs) x (zero, within, here) = (0, omega arith, ap f here)
contains_map f (y ∷ xs) x (suc k, within, here) = contains_behind (f y) (map f xs) (f x) (contains_map f xs x (k, omega (arith, within), here))

-- the nodes above a path
in_above : (above : List Step) (step next : Step) (rest : List Step) → Contains (above_of (above ++ step ∷ next ∷ rest)) (above ++ step ∷ [])
in_above [] step next rest = contains_behind [] (map (λ ss. step ∷ ss) (above_of (next ∷ rest))) (step ∷ []) (contains_map (λ ss. step ∷ ss) (above_of (next ∷ rest)) [] (0, omega arith, refl))
in_above (over ∷ above) step next rest = contains_behind [] (map (λ ss. over ∷ ss) (above_of (above ++ step ∷ next ∷ rest))) (over ∷ (above ++ step ∷ [])) (contains_map (λ ss. over ∷ ss) (above_of (above ++ step ∷ next ∷ rest)) (above ++ step ∷ []) (in_above above step next rest))

itself_is : (kind : Kind) → StandsForItself kind → stands_for_itself kind ≡ true
itself_is (Container true) stands = refl
itself_is (Container false) stands = cc
itself_is Leaf stands = absurd stands
itself_is LeafList stands = absurd stands
itself_is ListKind stands = refl

-- where none is lacked, each node above that stands for itself has its row
pub above_stands : (tables : Tables) (rows : List Row) (path : Path) → IsDataTree tables rows → lacks_above tables rows path.steps ≡ false →
    (above : List Step) (step next : Step) (rest : List Step) (node : Node) → path.steps ≡ above ++ step ∷ next ∷ rest →
    slice_get tables.nodes step.node ≡ Some node → StandsForItself node.kind → Contains rows (record { path = record { steps = above ++ step ∷ [] }; value = None })
above_stands tables rows path tree none above step next rest node path_is node_is itself = by (some_passes _ rows has)
  where
    test : option_map_or (λ n. stands_for_itself n.kind) (node_of tables (above ++ step ∷ [])) false && not (has_row rows (above ++ step ∷ [])) ≡ false
    test =
        none_passes (λ over. option_map_or (λ n. stands_for_itself n.kind) (node_of tables over) false && not (has_row rows over)) (above_of path.steps) (above ++ step ∷ []) none
        (subst (λ (ss : List Step). Contains (above_of ss) (above ++ step ∷ [])) (sym path_is) (in_above above step next rest))

    stands : option_map_or (λ n. stands_for_itself n.kind) (node_of tables (above ++ step ∷ [])) false ≡ true
    stands =
        ap (λ o. option_map_or (λ n. stands_for_itself n.kind) (option_and_then (λ s. slice_get tables.nodes s.node) o) false) (last_of None above step)
        ∙ ap (λ o. option_map_or (λ n. stands_for_itself n.kind) o false) node_is ∙ itself_is node.kind itself

    has : has_row rows (above ++ step ∷ []) ≡ true
    has = go _ _ stands test
      where
        go : (a b : Bool) → a ≡ true → (a && not b) ≡ false → b ≡ true
        go true true e f = refl
        go true false e f = cc
        go false b e f = cc

    by : (row : Row) × Contains rows row × (is_same_path row.path.steps (above ++ step ∷ []) ≡ true) → Contains rows (record { path = record { steps = above ++ step ∷ [] }; value = None })
    by (row, there, same) =
        let is : row.path.steps ≡ above ++ step ∷ [] = path_decide_to row.path.steps (above ++ step ∷ []) same in
        let value : row.value ≡ None = no_own_value node.kind step row.value itself (all_at (HasItsValue tables) rows row tree.values there above step node (record { path = is; node_is = node_is })) in
        subst (Contains rows) (λ i. record { path = record { steps = is i }; value = value i }) there

-- so it is above the rows at and below a node
pub above_block : (tables : Tables) (rows : List Row) (path : Path) → IsDataTree tables rows → (b : Row) →
    (above : List Step) (step next : Step) (rest : List Step) (node : Node) → Contains (block_at rows path.steps) b → path.steps ≡ above ++ step ∷ next ∷ rest →
    slice_get tables.nodes step.node ≡ Some node → StandsForItself node.kind → Contains rows (record { path = record { steps = above ++ step ∷ [] }; value = None })
above_block tables rows path tree b above step next rest node has path_is node_is itself =
    let below = (below_is_below path.steps b.path).0 (kept_true _ b rows has) in
    part_first _ b rows
    (ancestor tables rows b above step next (rest ++ below.0) node tree (kept_contains _ b rows has) (below.1 ∙ ap (λ ss. ss ++ below.0) path_is ∙ joined above) node_is itself)
  where
    joined : (ss : List Step) → (ss ++ step ∷ next ∷ rest) ++ ((below_is_below path.steps b.path).0 (kept_true _ b rows has)).0 ≡ ss ++ step ∷ next ∷ (rest ++ ((below_is_below path.steps b.path).0 (kept_true _ b rows has)).0)
    joined [] = refl
    joined (s ∷ ss) = λ i. s ∷ joined ss i

-- a path is that of a key, or of none
pub key_or_not : (tables : Tables) (path : Path) → IsPathOf tables path → IsNoKey tables path ⊎ ((entry : Step) × (place : ℕ) × IsKeyAt tables path entry place)
key_or_not tables path is_path = by_above end.above end.is
  where
    end : HasLast path.steps
    end = last_found path.steps is_path.names.steps

    one_step : (step : Step) (above : List Step) (entry key : Step) → ¬ (step ∷ [] ≡ above ++ entry ∷ key ∷ [])
    one_step step [] entry key e = no_element [] [] key (tails_same step entry [] (key ∷ []) e)
    one_step step (over ∷ above) entry key e = no_element above (key ∷ []) entry (tails_same step over [] (above ++ entry ∷ key ∷ []) e)

    two_last : (above others : List Step) (entry step over key : Step) → above ++ entry ∷ step ∷ [] ≡ others ++ over ∷ key ∷ [] → (entry ≡ over) × (step ≡ key)
    two_last [] [] entry step over key e = (heads_same entry over (step ∷ []) (key ∷ []) e, heads_same step key [] [] (tails_same entry over (step ∷ []) (key ∷ []) e))
    two_last [] (o ∷ others) entry step over key e = absurd (one_step step others over key (tails_same entry o (step ∷ []) (others ++ over ∷ key ∷ []) e))
    two_last (a ∷ above) [] entry step over key e = absurd (one_step key above entry step (sym (tails_same a over (above ++ entry ∷ step ∷ []) (key ∷ []) e)))
    two_last (a ∷ above) (o ∷ others) entry step over key e = two_last above others entry step over key (tails_same a o _ _ e)

    by_above : (above : List Step) → path.steps ≡ above ++ end.step ∷ [] → IsNoKey tables path ⊎ ((entry : Step) × (place : ℕ) × IsKeyAt tables path entry place)
    by_above [] is = inl (λ entry place key. one_step end.step key.above entry key.key (sym is ∙ key.steps))
    by_above (first ∷ more) is = by_over (last_found (first ∷ more) (λ e. no_element [] more first (sym e)))
      where
        by_over : HasLast (first ∷ more) → IsNoKey tables path ⊎ ((entry : Step) × (place : ℕ) × IsKeyAt tables path entry place)
        by_over over = by_kind at.node.kind refl
          where
            steps : path.steps ≡ over.above ++ over.step ∷ end.step ∷ []
            steps = is ∙ ap (λ ss. ss ++ end.step ∷ []) over.is ∙ append_assoc over.above (over.step ∷ []) (end.step ∷ [])

            at : IsStepAt tables over.above over.step
            at = path_step tables path over.above over.step (end.step ∷ []) is_path steps

            same : (entry : Step) (place : ℕ) (key : IsKeyAt tables path entry place) → (over.step ≡ entry) × (end.step ≡ key.key)
            same entry place key = two_last over.above key.above over.step end.step entry key.key (sym steps ∙ key.steps)

            node_same : (entry : Step) (place : ℕ) (key : IsKeyAt tables path entry place) → at.node ≡ key.node
            node_same entry place key = some_same at.node key.node (sym at.node_is ∙ ap (λ s. slice_get tables.nodes s.node) (same entry place key).0 ∙ key.node_is)

            no_list : at.node.kind ≢ ListKind → IsNoKey tables path
            no_list other entry place key = other (ap (λ n. n.kind) (node_same entry place key) ∙ key.list)

            by_key : at.node.kind ≡ ListKind → Contains at.node.keys end.step.node ⊎ ¬ Contains at.node.keys end.step.node → IsNoKey tables path ⊎ ((entry : Step) × (place : ℕ) × IsKeyAt tables path entry place)
            by_key list (inl (k, within, here)) =
                inr (over.step, k, record { above = over.above; key = end.step; node = at.node; steps = steps; node_is = at.node_is; list = list; key_is = slice_get-get_or at.node.keys k end.step.node within ∙ ap Some here })
            by_key list (inr never) = inl (λ entry place key. never (contains_at at.node.keys place end.step.node (ap (λ n. slice_get n.keys place) (node_same entry place key) ∙ key.key_is ∙ ap (λ s. Some s.node) (sym (same entry place key).1))))

            by_kind : (kind : Kind) → at.node.kind ≡ kind → IsNoKey tables path ⊎ ((entry : Step) × (place : ℕ) × IsKeyAt tables path entry place)
            by_kind (Container presence) is_kind = inl (no_list (λ e. let clash : Container presence ≡ ListKind = sym is_kind ∙ e in cc))
            by_kind Leaf is_kind = inl (no_list (λ e. let clash : Leaf ≡ ListKind = sym is_kind ∙ e in cc))
            by_kind LeafList is_kind = inl (no_list (λ e. let clash : LeafList ≡ ListKind = sym is_kind ∙ e in cc))
            by_kind ListKind is_kind = by_key is_kind (listed end.step.node at.node.keys)
