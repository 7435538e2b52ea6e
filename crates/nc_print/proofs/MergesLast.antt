-- The merges of a configuration, made one after another, leave its rows.
use Rattle.std.proofs.Common.{◌≡◌, ◌≢◌, ◌⊎◌, true, false, List, [], ◌∷◌, ◌++◌, Some, None, refl, sym, ap, subst, ◌∙◌, inl, inr, arith}
use Rattle.std.proofs.lemmas.List.{append_assoc, append-nil, append_cancel_left}
use Rattle.std.specs.Prelude.{slice_get}
use Rattle.std.specs.List.{Contains}
use Rattle.nc_names.specs.declared.path.Path.{Path}
use Rattle.nc_names.specs.declared.path.Place.TheVariants.{Kept}
use Rattle.nc_names.specs.declared.path.Row.{Row}
use Rattle.nc_names.specs.declared.path.Step.{Step}
use Rattle.nc_schema.specs.Blocks.{own_rows, with_block}
use Rattle.nc_schema.specs.Configuration.{HasItsValue, IsDataTree, IsRowValue, KeysFollow, StandsForItself}
use Rattle.nc_schema.specs.Tables.{Tables}
use Rattle.nc_schema.specs.declared.node.Kind.{Kind}
use Rattle.nc_schema.specs.declared.node.Kind.TheVariants.{Container, Leaf, LeafList, List as ListKind}
use Rattle.nc_schema.specs.declared.node.Node.{Node}
use Rattle.nc_schema.proofs.ProperLemmas.{HasProperNodes, HoldsNodes}
use Rattle.nc_protocol.proofs.ListLemmas.{contains_here, heads_same, last_cut}
use Rattle.nc_protocol.proofs.Parts.{all_at}
use Rattle.nc_protocol.proofs.PathViews.{IsLower, after_last}
use Rattle.nc_protocol.proofs.SiblingLemmas.{IsStepAt, path_step}
use Rattle.nc_protocol.proofs.SubtreeLemmas.{own_rows_are}
use Rattle.nc_protocol.specs.Edited.{left_by}
use Rattle.nc_print.specs.Laws.{merge_at}
use Rattle.nc_print.proofs.MergeLast.{IsBuilt, IsKeyOf}
use Rattle.nc_print.proofs.PutLast.{new_there, put_last}
use Rattle.nc_print.proofs.StartLemmas.{Fresh}
use Rattle.nc_print.proofs.StepLemmas.{path_of, step_lower}

module _ (tables : Tables) (proper : HasProperNodes tables) (rows : List Row) (tree : IsDataTree tables rows) where
  -- ---- the merge of a container without presence in which the next row stands
  module _ (before after : List Row) (row : Row) (above : List Step) (step next : Step) (further : List Step) (node : Node) (rows_are : rows ≡ before ++ row ∷ after)
      (row_is : row.path.steps ≡ above ++ step ∷ next ∷ further) (node_is : slice_get tables.nodes step.node ≡ Some node) (fresh : Fresh (above ++ step ∷ []) before) where
    -- a node that stands for itself would have its row before
    pub is_plain : node.kind ≡ Container false
    is_plain = by node.kind refl
      where
        has_row : Contains rows row
        has_row = subst (λ (rs : List Row). Contains rs row) (sym rows_are) (contains_here before after row)

        next_at : IsStepAt tables (above ++ step ∷ []) next
        next_at = path_step tables row.path (above ++ step ∷ []) next further (path_of tables proper rows tree row has_row) (row_is ∙ sym (append_assoc above (step ∷ []) (next ∷ further)))

        holds : HoldsNodes node.kind
        holds = proper.parents next.node step.node next_at.node node next_at.node_is (next_at.parent ∙ after_last None above step) node_is

        none_itself : ¬ StandsForItself node.kind
        none_itself itself =
            fresh (record { path = record { steps = above ++ step ∷ [] }; value = None })
            (tree.ancestors before after row above step next further node rows_are row_is (above ++ step ∷ [], refl) node_is itself) ([], sym (append-nil (above ++ step ∷ [])))

        by : (kind : Kind) → node.kind ≡ kind → node.kind ≡ Container false
        by (Container true) kind = absurd (none_itself (subst StandsForItself (sym kind) refl))
        by (Container false) kind = kind
        by Leaf kind = absurd (subst HoldsNodes kind holds)
        by LeafList kind = absurd (subst HoldsNodes kind holds)
        by ListKind kind = absurd (none_itself (subst StandsForItself (sym kind) tt))

    abbrev path : Path
    path = record { steps = above ++ step ∷ [] }

    -- no row is that of the container
    pub none_own : (r : Row) → Contains rows r → r.path.steps ≢ above ++ step ∷ []
    none_own r has is =
        let value : IsRowValue node.kind step r.value = all_at (HasItsValue tables) rows r tree.values has above step node (record { path = is; node_is = node_is }) in
        let presence : IsRowValue (Container false) step r.value = subst (λ (k : Kind). IsRowValue k step r.value) is_plain value in
        let clash : false ≡ true = presence.0 in
        cc

    pub container_is_merged : (state : List Row) → IsBuilt tables rows before state → left_by tables state (merge_at above step None) ≡ state
    container_is_merged state built = by built.ahead refl
      where
        lower : IsLower row.path.steps path.steps
        lower = step_lower above step (next ∷ further) row.path.steps row_is

        none_ahead : (key : Row) → IsKeyOf tables before key → Contains rows key → ¬ IsLower key.path.steps path.steps
        none_ahead key of has low = go (last_cut of.entry.path.steps path.steps low.0 of.step (sym of.path ∙ low.1))
          where
            go : (low.0 ≡ []) ⊎ ((more : List Step) × (of.entry.path.steps ≡ path.steps ++ more)) → ⊥
            go (inl none) = none_own key has (low.1 ∙ ap (λ ss. (above ++ step ∷ []) ++ ss) none ∙ append-nil (above ++ step ∷ []))
            go (inr (more, is)) = fresh of.entry of.has (more, is)

        none_brought : node.kind ≡ Container false → own_rows node.kind node.keys path step.keys None ≡ []
        none_brought kind = ap (λ k. own_rows k node.keys path step.keys None) kind

        here : before ≡ state → left_by tables state (merge_at above step None) ≡ state
        here same = subst (λ (s : List Row). left_by tables s (merge_at above step None) ≡ s) same
            (ap (λ block. with_block tables before path Kept block)
            (new_there tables proper rows tree before after row path rows_are (subst (KeysFollow tables) (sym same) built.keys) lower fresh None
            ∙ own_rows_are tables path None above step node refl node_is ∙ none_brought is_plain)
            ∙ put_last tables proper rows tree before after row path rows_are (subst (KeysFollow tables) (sym same) built.keys) lower fresh [] (λ r has. absurd (omega (arith, has.1)))
            ∙ append-nil before)

        by : (ahead : List Row) → built.ahead ≡ ahead → left_by tables state (merge_at above step None) ≡ state
        by [] is = here (sym (built.state_is ∙ ap (λ rs. before ++ rs) is ∙ append-nil before))
        by (key ∷ more) is =
            let same_rest : before ++ row ∷ after ≡ before ++ (key ∷ (more ++ built.rest)) = sym rows_are ∙ built.whole ∙ ap (λ rs. before ++ (rs ++ built.rest)) is in
            let heads : row ≡ key = heads_same row key after (more ++ built.rest) (append_cancel_left before (row ∷ after) (key ∷ (more ++ built.rest)) same_rest) in
            absurd (none_ahead row (built.own row (subst (λ (rs : List Row). Contains rs row) (sym (is ∙ ap (λ (r : Row). r ∷ more) (sym heads))) (0, omega arith, refl)))
            (subst (λ (rs : List Row). Contains rs row) (sym rows_are) (contains_here before after row)) lower)
