-- The merge of a row that comes next, and of a container without presence that begins there.
use Rattle.std.proofs.Common.{◌≡◌, ◌≢◌, ◌&&◌, not, cond, ℕ, Bool, true, false, List, [], ◌∷◌, ◌++◌, Option, Some, None, refl, sym, ap, subst, ◌∙◌, arith}
use Rattle.std.proofs.lemmas.List.{append_assoc, append-nil, append_cancel_left}
use Rattle.std.proofs.lemmas.List.Elements.{Contains-append_left, Contains-append_right}
use Rattle.std.specs.Prelude.{slice_get, option_and_then}
use Rattle.std.specs.Option.{option_map_or}
use Rattle.std.specs.List.{Contains}
use Rattle.nc_names.specs.declared.path.Path.{Path}
use Rattle.nc_names.specs.declared.path.Place.TheVariants.{Kept}
use Rattle.nc_names.specs.declared.path.Row.{Row}
use Rattle.nc_names.specs.declared.path.Step.{Step}
use Rattle.nc_schema.specs.Blocks.{at_node, own_rows, rows_of_node, with_block}
use Rattle.nc_schema.specs.Configuration.{HasItsValue, IsDataTree, IsRowValue, KeysFollow, LeadsTo, key_rows}
use Rattle.nc_schema.specs.Kinds.{has_value}
use Rattle.nc_schema.specs.Proper.{IsKeyIn}
use Rattle.nc_schema.specs.Standing.{block_at, exists, node_of}
use Rattle.nc_schema.specs.Tables.{Tables}
use Rattle.nc_schema.specs.declared.node.Kind.{Kind}
use Rattle.nc_schema.specs.declared.node.Kind.TheVariants.{Container, Leaf, LeafList, List as ListKind}
use Rattle.nc_schema.specs.declared.node.Node.{Node}
use Rattle.nc_schema.proofs.ProperLemmas.{HasProperNodes}
use Rattle.nc_protocol.proofs.KeyLemmas.{IsKeyRow, key_row_of, keys_follow_append}
use Rattle.nc_protocol.proofs.KeyPlace.{leaf_is_put}
use Rattle.nc_protocol.proofs.ListLemmas.{contains_behind, contains_here, heads_same, last_same, one_element, some_same, tails_same}
use Rattle.nc_protocol.proofs.Parts.{IsPartOf, all_at, part_at}
use Rattle.nc_protocol.proofs.PathViews.{IsLower}
use Rattle.nc_protocol.proofs.PlaceLemmas.{last_of}
use Rattle.nc_protocol.proofs.SiblingLemmas.{some_and}
use Rattle.nc_protocol.proofs.SubtreeLemmas.{own_rows_are}
use Rattle.nc_protocol.specs.Edited.{left_by, new_block}
use Rattle.nc_protocol.specs.declared.edit.Action.TheVariants.{Merge}
use Rattle.nc_print.specs.Laws.{merge_at}
use Rattle.nc_print.proofs.PutLast.{front_is_tree, new_there, put_last}
use Rattle.nc_print.proofs.StartLemmas.{Fresh}
use Rattle.nc_print.proofs.StepLemmas.{lower_is_later}

-- the row of a key of an entry among the rows
pub record IsKeyOf (tables : Tables) (before : List Row) (row : Row) : Type 0 where
  pub entry : Row
  pub has : Contains before entry
  pub step : Step
  pub node : Node
  pub path : row.path.steps ≡ entry.path.steps ++ step ∷ []
  pub node_is : slice_get tables.nodes step.node ≡ Some node
  pub leaf : node.kind ≡ Leaf

-- the rows up to there stand, and maybe the keys of their last entry, which come next
pub record IsBuilt (tables : Tables) (rows before state : List Row) : Type 0 where
  pub ahead : List Row
  pub rest : List Row
  pub whole : rows ≡ before ++ (ahead ++ rest)
  pub state_is : state ≡ before ++ ahead
  pub keys : KeysFollow tables state
  pub own : (row : Row) → Contains ahead row → IsKeyOf tables before row

kinds_differ : Leaf ≡ ListKind → ⊥
kinds_differ e = let clash : Leaf ≡ ListKind = e in cc

-- the rows that a row brings: itself, and those of the keys of an entry, which come next
pub record IsOwn (tables : Tables) (row : Row) (after own : List Row) : Type 0 where
  pub keys : List Row
  pub rest : List Row
  pub own_is : own ≡ row ∷ keys
  pub next : after ≡ keys ++ rest
  pub follow : KeysFollow tables (row ∷ keys)
  pub each : (key : Row) → Contains keys key → IsKeyOf tables (row ∷ []) key

module _ (tables : Tables) (proper : HasProperNodes tables) (rows : List Row) (tree : IsDataTree tables rows) where
  module _ (before after : List Row) (row : Row) (above : List Step) (step : Step) (node : Node) (rows_are : rows ≡ before ++ row ∷ after) (leads : LeadsTo tables above step node row) where
    has_row : Contains rows row
    has_row = subst (λ (rs : List Row). Contains rs row) (sym rows_are) (contains_here before after row)

    value_is : IsRowValue node.kind step row.value
    value_is = all_at (HasItsValue tables) rows row tree.values has_row above step node leads

    -- a row that is none of a list entry has no keys
    alone : node.kind ≢ ListKind → KeysFollow tables (row ∷ [])
    alone other front behind found over last of is leads_there list =
        let one = one_element row found front behind is in
        let same : step ≡ last = last_same above over step last (sym leads.path ∙ ap (λ (r : Row). r.path.steps) one.1 ∙ leads_there.path) in
        let node_same : node ≡ of = some_same node of (sym leads.node_is ∙ ap (λ (s : Step). slice_get tables.nodes s.node) same ∙ leads_there.node_is) in
        absurd (other (ap (λ (n : Node). n.kind) node_same ∙ list))

    single : (own : List Row) → own ≡ row ∷ [] → node.kind ≢ ListKind → IsOwn tables row after own
    single own is other = record {
      keys = [];
      rest = after;
      own_is = is;
      next = refl;
      follow = alone other;
      each = λ key has. absurd (omega (arith, has.1));
    }

    abbrev path : Path
    path = record { steps = above ++ step ∷ [] }

    row_is : (value : Option (List ℕ)) → row.value ≡ value → record { path = path; value = value } ≡ row
    row_is value is i = record { path = record { steps = sym leads.path i }; value = sym is i }

    own_keys : KeysFollow tables rows → node.kind ≡ ListKind → (own : List Row) → own ≡ row ∷ key_rows row.path.steps node.keys step.keys → IsOwn tables row after own
    own_keys follow list own own_is =
        let next = follow before after row above step node rows_are leads list in
        record {
          keys = key_rows row.path.steps node.keys step.keys;
          rest = next.0;
          own_is = own_is;
          next = next.1;
          follow = keys_follow;
          each = λ key has. key_of key (key_row_of row.path.steps node.keys step.keys key has);
        }
      where
        leaf : (number : ℕ) → Contains node.keys number → (found : Node) × (slice_get tables.nodes number ≡ Some found) × IsKeyIn step.node found
        leaf number has = some_and (slice_get tables.nodes number) (IsKeyIn step.node) (proper.keys step.node number node leads.node_is has)

        key_of : (key : Row) → IsKeyRow row.path.steps node.keys key → IsKeyOf tables (row ∷ []) key
        key_of key is =
            let found = leaf is.number is.has in
            record {
              entry = row;
              has = (0, omega arith, refl);
              step = record { node = is.number; keys = [] };
              node = found.0;
              path = ap (λ (r : Row). r.path.steps) is.is;
              node_is = found.1;
              leaf = found.2.kind;
            }

        keys_follow : KeysFollow tables (row ∷ key_rows row.path.steps node.keys step.keys)
        keys_follow [] behind found over last of is there kind =
            let same_row : row ≡ found = heads_same row found (key_rows row.path.steps node.keys step.keys) behind is in
            let same : step ≡ last = last_same above over step last (sym leads.path ∙ ap (λ (r : Row). r.path.steps) same_row ∙ there.path) in
            let node_same : node ≡ of = some_same node of (sym leads.node_is ∙ ap (λ (s : Step). slice_get tables.nodes s.node) same ∙ there.node_is) in
            ([], sym (tails_same row found (key_rows row.path.steps node.keys step.keys) behind is) ∙ (λ i. key_rows (same_row i).path.steps (node_same i).keys (same i).keys) ∙ sym (append-nil (key_rows found.path.steps of.keys last.keys)))
        keys_follow (x ∷ front) behind found over last of is there kind =
            let rest = tails_same row x (key_rows row.path.steps node.keys step.keys) (front ++ found ∷ behind) is in
            let key = key_of found (key_row_of row.path.steps node.keys step.keys found (subst (λ (rs : List Row). Contains rs found) (sym rest) (contains_here front behind found))) in
            let same : key.step ≡ last = last_same key.entry.path.steps over key.step last (sym key.path ∙ there.path) in
            let node_same : key.node ≡ of = some_same key.node of (sym key.node_is ∙ ap (λ (s : Step). slice_get tables.nodes s.node) same ∙ there.node_is) in
            absurd (kinds_differ (sym key.leaf ∙ ap (λ (n : Node). n.kind) node_same ∙ kind))

    pub own_is : IsOwn tables row after (rows_of_node tables path row.value)
    own_is = subst (IsOwn tables row after) (sym (own_rows_are tables path row.value above step node refl leads.node_is)) (by node.kind refl value_is)
      where
        by : (kind : Kind) → node.kind ≡ kind → IsRowValue kind step row.value → IsOwn tables row after (own_rows node.kind node.keys path step.keys row.value)
        by (Container presence) kind value =
            single (own_rows node.kind node.keys path step.keys row.value)
            (ap (λ k. own_rows k node.keys path step.keys row.value) kind ∙ ap (λ b. cond b (record { path = path; value = None } ∷ []) []) value.0 ∙ ap (λ (r : Row). r ∷ []) (row_is None value.1))
            (λ list. let clash : Container presence ≡ ListKind = sym kind ∙ list in cc)
        by Leaf kind value =
            single (own_rows node.kind node.keys path step.keys row.value) (ap (λ k. own_rows k node.keys path step.keys row.value) kind ∙ ap (λ (r : Row). r ∷ []) (row_is row.value refl))
            (λ list. kinds_differ (sym kind ∙ list))
        by LeafList kind value =
            single (own_rows node.kind node.keys path step.keys row.value) (ap (λ k. own_rows k node.keys path step.keys row.value) kind ∙ ap (λ (r : Row). r ∷ []) (row_is row.value refl))
            (λ list. let clash : LeafList ≡ ListKind = sym kind ∙ list in cc)
        by ListKind kind value =
            own_keys tree.keys kind (own_rows node.kind node.keys path step.keys row.value)
            (ap (λ k. own_rows k node.keys path step.keys row.value) kind ∙ (λ i. row_is None value i ∷ key_rows (sym leads.path i) node.keys step.keys))

    -- ---- the merge of the row that comes next
    pub row_is_merged : (state : List Row) → IsBuilt tables rows before state → IsBuilt tables rows (before ++ row ∷ []) (left_by tables state (merge_at above step row.value))
    row_is_merged state built = by built.ahead refl
      where
        fresh : Fresh path.steps before
        fresh r has low =
            lower_is_later tables proper rows tree r row (subst (λ (rs : List Row). IsPartOf (r ∷ row ∷ []) rs) (sym rows_are) (part_at before after r row has))
            (subst (λ (ss : List Step). IsLower r.path.steps ss) (sym leads.path) low)

        own : IsOwn tables row after (rows_of_node tables path row.value)
        own = own_is

        wider : (key : Row) → IsKeyOf tables (row ∷ []) key → IsKeyOf tables (before ++ row ∷ []) key
        wider key is = record { entry = is.entry; has = Contains-append_right before (row ∷ []) is.entry is.has; step = is.step; node = is.node; path = is.path; node_is = is.node_is; leaf = is.leaf }

        new : before ≡ state → IsBuilt tables rows (before ++ row ∷ []) (left_by tables state (merge_at above step row.value))
        new same = subst (λ (s : List Row). IsBuilt tables rows (before ++ row ∷ []) (left_by tables s (merge_at above step row.value))) same (record {
          ahead = own.keys;
          rest = own.rest;
          whole = rows_are ∙ ap (λ rs. before ++ row ∷ rs) own.next ∙ sym (append_assoc before (row ∷ []) (own.keys ++ own.rest));
          state_is = left ∙ ap (λ rs. before ++ rs) own.own_is ∙ sym (append_assoc before (row ∷ []) own.keys);
          keys = subst (KeysFollow tables) (sym (left ∙ ap (λ rs. before ++ rs) own.own_is)) (keys_follow_append tables before (row ∷ own.keys) before_keys own.follow);
          own = λ key has. wider key (own.each key has);
        })
          where
            before_keys : KeysFollow tables before
            before_keys = subst (KeysFollow tables) (sym same) built.keys

            lower : IsLower row.path.steps path.steps
            lower = ([], leads.path ∙ sym (append-nil path.steps))

            inside : (r : Row) → Contains (rows_of_node tables path row.value) r → Contains rows r
            inside r has =
                subst (λ (rs : List Row). Contains rs r) (sym (rows_are ∙ (λ i. before ++ row ∷ own.next i)))
                (Contains-append_right before (row ∷ (own.keys ++ own.rest)) r (Contains-append_left (row ∷ own.keys) own.rest r (subst (λ (rs : List Row). Contains rs r) own.own_is has)))

            left : left_by tables before (merge_at above step row.value) ≡ before ++ rows_of_node tables path row.value
            left =
                ap (λ block. with_block tables before path Kept block) (new_there tables proper rows tree before after row path rows_are before_keys lower fresh row.value)
                ∙ put_last tables proper rows tree before after row path rows_are before_keys lower fresh (rows_of_node tables path row.value) inside

        key_again : (more : List Row) → built.ahead ≡ row ∷ more → IsBuilt tables rows (before ++ row ∷ []) (left_by tables state (merge_at above step row.value))
        key_again more is = subst (IsBuilt tables rows (before ++ row ∷ [])) (sym same) (record {
          ahead = more;
          rest = built.rest;
          whole = built.whole ∙ ap (λ rs. before ++ (rs ++ built.rest)) is ∙ sym (append_assoc before (row ∷ []) (more ++ built.rest));
          state_is = state_is ∙ sym (append_assoc before (row ∷ []) more);
          keys = built.keys;
          own = λ key has. longer key (built.own key (subst (λ (rs : List Row). Contains rs key) (sym is) (contains_behind row more key has)));
        })
          where
            longer : (key : Row) → IsKeyOf tables before key → IsKeyOf tables (before ++ row ∷ []) key
            longer key of = record { entry = of.entry; has = Contains-append_left before (row ∷ []) of.entry of.has; step = of.step; node = of.node; path = of.path; node_is = of.node_is; leaf = of.leaf }

            state_is : state ≡ before ++ row ∷ more
            state_is = built.state_is ∙ ap (λ rs. before ++ rs) is

            of_key : IsKeyOf tables before row
            of_key = built.own row (subst (λ (rs : List Row). Contains rs row) (sym is) (0, omega arith, refl))

            leaf : node.kind ≡ Leaf
            leaf =
                let same_step : of_key.step ≡ step = last_same of_key.entry.path.steps above of_key.step step (sym of_key.path ∙ leads.path) in
                ap (λ (n : Node). n.kind) (some_same node of_key.node (sym leads.node_is ∙ ap (λ (s : Step). slice_get tables.nodes s.node) (sym same_step) ∙ of_key.node_is)) ∙ of_key.leaf

            state_tree : IsDataTree tables state
            state_tree = front_is_tree tables proper rows tree state built.rest
                (built.whole ∙ sym (append_assoc before built.ahead built.rest) ∙ ap (λ rs. rs ++ built.rest) (sym built.state_is)) built.keys

            node_found : node_of tables path.steps ≡ Some node
            node_found = ap (option_and_then (λ s. slice_get tables.nodes s.node)) (last_of None above step) ∙ leads.node_is

            valued : at_node tables path has_value ≡ true
            valued = ap (λ o. option_map_or (λ n. has_value n.kind) o false) node_found ∙ ap has_value leaf

            and_none : (b : Bool) → (b && false) ≡ false
            and_none true = refl
            and_none false = refl

            block_is : new_block tables state path (Merge row.value) ≡ row ∷ []
            block_is =
                ap (λ b. cond (exists state path.steps && not b) (block_at state path.steps) (rows_of_node tables path row.value)) valued
                ∙ ap (λ b. cond b (block_at state path.steps) (rows_of_node tables path row.value)) (and_none (exists state path.steps))
                ∙ own_rows_are tables path row.value above step node refl leads.node_is
                ∙ ap (λ k. own_rows k node.keys path step.keys row.value) leaf ∙ ap (λ (r : Row). r ∷ []) (row_is row.value refl)

            same : left_by tables state (merge_at above step row.value) ≡ state
            same =
                ap (λ block. with_block tables state path Kept block) block_is
                ∙ ap (λ (p : Path). with_block tables state p Kept (row ∷ [])) (λ i. record { steps = sym leads.path i })
                ∙ leaf_is_put tables state Kept proper state_tree row before more state_is above step node leads.path leads.node_is leaf

        by : (ahead : List Row) → built.ahead ≡ ahead → IsBuilt tables rows (before ++ row ∷ []) (left_by tables state (merge_at above step row.value))
        by [] is = new (sym (built.state_is ∙ ap (λ rs. before ++ rs) is ∙ append-nil before))
        by (key ∷ more) is =
            let same_rest : before ++ row ∷ after ≡ before ++ (key ∷ (more ++ built.rest)) = sym rows_are ∙ built.whole ∙ ap (λ rs. before ++ (rs ++ built.rest)) is in
            let heads : row ≡ key = heads_same row key after (more ++ built.rest) (append_cancel_left before (row ∷ after) (key ∷ (more ++ built.rest)) same_rest) in
            key_again more (is ∙ ap (λ (r : Row). r ∷ more) (sym heads))
