-- What a user sees of a configuration is a configuration.
use Rattle.std.proofs.Common.{◌≡◌, ◌≢◌, ◌==◌, ℕ, Bool, true, false, List, [], ◌∷◌, ◌++◌, map, Some, None, refl, sym, ap, subst, ◌∙◌, if◌then◌else◌}
use Rattle.std.proofs.lemmas.Bool.Decides.{Decides-eqb}
use Rattle.std.proofs.lemmas.List.{append_assoc}
use Rattle.std.proofs.lemmas.List.Elements.{All-filter}
use Rattle.std.proofs.lemmas.List.Folds.{list_all-map}
use Rattle.std.specs.List.{Contains, last_or, list_all, list_any}
use Rattle.std.specs.Option.{option_map_or}
use Rattle.std.specs.Prelude.{Option, IsSomeAnd, option_map, slice_get}
use Rattle.nc_names.proofs.SameLemmas.{first_true, second_true, both_true}
use Rattle.nc_names.specs.declared.path.Right.TheVariants.{Read}
use Rattle.nc_names.specs.declared.path.Row.{Row}
use Rattle.nc_names.specs.declared.path.Step.{Step}
use Rattle.nc_schema.specs.Blocks.{above_last}
use Rattle.nc_schema.specs.Configuration.{LeadsTo, key_rows, HasItsValue, HasCanonicalValue, IsAtOrBelow, IsDataTree, AncestorsStand}
use Rattle.nc_schema.specs.Order.{IsBefore, keys_above}
use Rattle.nc_schema.specs.Paths.{IsPathOf}
use Rattle.nc_schema.specs.Proper.{IsKeyIn, IsProperSchema}
use Rattle.nc_schema.specs.Tables.{Tables}
use Rattle.nc_schema.specs.declared.node.Kind.TheVariants.{List as ListKind}
use Rattle.nc_schema.specs.declared.node.Node.{Node}
use Rattle.nc_protocol.specs.Filter.{is_key_of_entry}
use Rattle.nc_protocol.specs.declared.peer.Peer.{Peer}
use Rattle.nc_protocol.proofs.AboveLemmas.{some_passes}
use Rattle.nc_protocol.proofs.FilterLemmas.{above_of_last}
use Rattle.nc_protocol.proofs.KeyLemmas.{filter_cut, keys_follow_filter, together_filter, key_row_is}
use Rattle.nc_protocol.proofs.ListLemmas.{none_passes, pairs_filter}
use Rattle.nc_protocol.proofs.OwnLemmas.{leaf_is_no_list, some_at}
use Rattle.nc_protocol.proofs.Parts.{all_at, kept_contains, contains_kept}
use Rattle.nc_protocol.proofs.PlaceLemmas.{last_of}
use Rattle.nc_model.specs.Decision.{decision, of_data, subject}
use Rattle.nc_model.specs.Laws.{VisibleIsConfiguration}
use Rattle.nc_model.specs.Sight.{beginnings, may_read, may_see, visible_rows}
use Rattle.nc_model.specs.declared.policy.Policy.{Policy}

passes_any : {X : Type 0} (p : X → Bool) (xs : List X) (x : X) → Contains xs x → p x ≡ true → list_any p xs ≡ true
passes_any p xs x has passes = by (list_any p xs) refl
  where
    by : (b : Bool) → list_any p xs ≡ b → list_any p xs ≡ true
    by true e = e
    by false e = let fails : p x ≡ false = none_passes p xs x e has in let clash : false ≡ true = sym fails ∙ passes in cc

-- ---- keys
key_test : (tables : Tables) (above : List Step) (step : Step) →
    is_key_of_entry tables (above ++ step ∷ []) ≡ list_any (λ key. key == step.node) (keys_above tables (option_map (λ over. over.node) (last_or None above)))
key_test tables above step =
    ap (λ (steps : List Step). option_map_or (λ (one : Step). list_any (λ key. key == one.node)
    (keys_above tables (option_map (λ over. over.node) (last_or None steps)))) (last_or None (above ++ step ∷ [])) false) (above_of_last above step)
    ∙ ap (λ (o : Option Step). option_map_or (λ (one : Step). list_any (λ key. key == one.node)
    (keys_above tables (option_map (λ over. over.node) (last_or None above)))) o false) (last_of None above step)

no_list_is_key : (tables : Tables) (at : Option ℕ) (number : ℕ) (node : Node) → IsProperSchema tables →
    slice_get tables.nodes number ≡ Some node → node.kind ≡ ListKind → list_any (λ key. key == number) (keys_above tables at) ≡ true → ⊥
no_list_is_key tables None number node proper is list e = let clash : false ≡ true = e in cc
no_list_is_key tables (Some over) number node proper is list e = by (slice_get tables.nodes over) refl e
  where
    by : (o : Option Node) → slice_get tables.nodes over ≡ o → list_any (λ key. key == number) (option_map_or (λ node. node.keys) o []) ≡ true → ⊥
    by None above_is found = let clash : false ≡ true = found in cc
    by (Some above) above_is found =
        let key = some_passes (λ key. key == number) above.keys found in
        let same : key.0 ≡ number = (Decides-eqb key.0 number).0 key.2 in
        let leafs = all_at (λ (k : ℕ). IsSomeAnd (slice_get tables.nodes k) (IsKeyIn over)) above.keys key.0 (proper.places.keys over above above_is).leafs key.1 in
        let leaf = some_at (IsKeyIn over) (slice_get tables.nodes key.0) node leafs (ap (slice_get tables.nodes) same ∙ is) in
        leaf_is_no_list (sym leaf.kind ∙ list)

-- an entry is judged as it is, and its keys as it
entry_is_subject : (tables : Tables) (steps above : List Step) (step : Step) (node : Node) → IsProperSchema tables →
    steps ≡ above ++ step ∷ [] → slice_get tables.nodes step.node ≡ Some node → node.kind ≡ ListKind → subject tables steps ≡ steps
entry_is_subject tables steps above step node proper path is list = by (is_key_of_entry tables steps) refl
  where
    by : (b : Bool) → is_key_of_entry tables steps ≡ b → subject tables steps ≡ steps
    by true e =
        absurd (no_list_is_key tables (option_map (λ over. over.node) (last_or None above)) step.node node proper is list
        (sym (key_test tables above step) ∙ ap (is_key_of_entry tables) (sym path) ∙ e))
    by false e = ap (λ (b : Bool). if b then above_last steps else steps) e

key_has_subject : (tables : Tables) (steps entry : List Step) → above_last steps ≡ entry → is_key_of_entry tables steps ≡ true → subject tables steps ≡ entry
key_has_subject tables steps entry above e = ap (λ (b : Bool). if b then above_last steps else steps) e ∙ above

-- ---- what is above a node that is seen
pub seen_above : (p : List Step → Bool) (xs ys : List Step) → list_all p (beginnings (xs ++ ys)) ≡ true → list_all p (beginnings xs) ≡ true
seen_above p [] ys e = refl
seen_above p (x ∷ xs) ys e =
    both_true (p (x ∷ [])) (list_all p (map (λ above. x ∷ above) (beginnings xs))) (first_true (p (x ∷ [])) (list_all p (map (λ above. x ∷ above) (beginnings (xs ++ ys)))) e)
    (list_all-map p (λ above. x ∷ above) (beginnings xs)
    ∙ seen_above (λ above. p (x ∷ above)) xs ys
    (sym (list_all-map p (λ above. x ∷ above) (beginnings (xs ++ ys)))
    ∙ second_true (p (x ∷ [])) (list_all p (map (λ above. x ∷ above) (beginnings (xs ++ ys)))) e))

-- the node to which steps lead that is seen, itself
seen_itself : (p : List Step → Bool) (xs : List Step) (step : Step) → list_all p (beginnings (xs ++ step ∷ [])) ≡ true → p (xs ++ step ∷ []) ≡ true
seen_itself p [] step e = first_true (p (step ∷ [])) true e
seen_itself p (x ∷ xs) step e =
    seen_itself (λ above. p (x ∷ above)) xs step
    (sym (list_all-map p (λ above. x ∷ above) (beginnings (xs ++ step ∷ [])))
    ∙ second_true (p (x ∷ [])) (list_all p (map (λ above. x ∷ above) (beginnings (xs ++ step ∷ [])))) e)

-- one more step
seen_below : (p : List Step → Bool) (xs : List Step) (step : Step) → list_all p (beginnings xs) ≡ true → p (xs ++ step ∷ []) ≡ true → list_all p (beginnings (xs ++ step ∷ [])) ≡ true
seen_below p [] step e passes = both_true (p (step ∷ [])) true passes refl
seen_below p (x ∷ xs) step e passes =
    both_true (p (x ∷ [])) (list_all p (map (λ above. x ∷ above) (beginnings (xs ++ step ∷ [])))) (first_true (p (x ∷ [])) (list_all p (map (λ above. x ∷ above) (beginnings xs))) e)
    (list_all-map p (λ above. x ∷ above) (beginnings (xs ++ step ∷ []))
    ∙ seen_below (λ above. p (x ∷ above)) xs step
    (sym (list_all-map p (λ above. x ∷ above) (beginnings xs)) ∙ second_true (p (x ∷ [])) (list_all p (map (λ above. x ∷ above) (beginnings xs))) e) passes)

-- ---- the rows that are seen
module _ (tables : Tables) (policy : Policy) (peer : Peer) (rows : List Row) (proper : IsProperSchema tables) where
  abbrev seen : Row → Bool
  seen row = may_see tables policy peer row.path.steps

  key_seen : (row : Row) (above : List Step) (step : Step) (node : Node) (key : Row) → Contains rows row → LeadsTo tables above step node row → node.kind ≡ ListKind →
      Contains (key_rows row.path.steps node.keys step.keys) key → may_see tables policy peer row.path.steps ≡ true → may_see tables policy peer key.path.steps ≡ true
  key_seen row above step node key here leads list has passes =
      subst (λ (steps : List Step). may_see tables policy peer steps ≡ true) (sym found.2)
      (seen_below (may_read tables policy peer) row.path.steps last passes (may_key ∙ may_entry))
    where
      found : (number : ℕ) × Contains node.keys number × (key.path.steps ≡ row.path.steps ++ record { node = number; keys = [] } ∷ [])
      found = key_row_is row.path.steps node.keys step.keys key has

      last : Step
      last = record { node = found.0; keys = [] }

      keys_are : keys_above tables (option_map (λ over. over.node) (last_or None row.path.steps)) ≡ node.keys
      keys_are =
          ap (λ (steps : List Step). keys_above tables (option_map (λ over. over.node) (last_or None steps))) leads.path
          ∙ ap (λ (o : Option Step). keys_above tables (option_map (λ over. over.node) o)) (last_of None above step)
          ∙ ap (λ (o : Option Node). option_map_or (λ node. node.keys) o []) leads.node_is

      is_key : is_key_of_entry tables (row.path.steps ++ last ∷ []) ≡ true
      is_key =
          key_test tables row.path.steps last
          ∙ ap (list_any (λ key. key == found.0)) keys_are
          ∙ passes_any (λ key. key == found.0) node.keys found.0 found.1 ((Decides-eqb found.0 found.0).1 refl)

      -- the key and its entry are judged alike
      judged : List Step → Bool
      judged steps = (decision policy peer (of_data tables policy steps Read)).permit

      may_key : may_read tables policy peer (row.path.steps ++ last ∷ []) ≡ judged row.path.steps
      may_key = ap judged (key_has_subject tables (row.path.steps ++ last ∷ []) row.path.steps (above_of_last row.path.steps last) is_key)

      entry_read : may_read tables policy peer row.path.steps ≡ true
      entry_read =
          subst (λ (steps : List Step). may_read tables policy peer steps ≡ true) (sym leads.path)
          (seen_itself (may_read tables policy peer) above step (subst (λ (steps : List Step). may_see tables policy peer steps ≡ true) leads.path passes))

      may_entry : judged row.path.steps ≡ true
      may_entry = sym (ap judged (entry_is_subject tables row.path.steps above step node proper leads.path leads.node_is list)) ∙ entry_read

  ancestors_seen : IsDataTree tables rows → AncestorsStand tables [] (visible_rows tables policy peer rows)
  ancestors_seen tree before after row above step next rest node is path below node_is stands =
      let cut = filter_cut (λ (row : Row). may_see tables policy peer row.path.steps) rows before after row is in
      let has = tree.ancestors cut.front cut.rest row above step next rest node cut.whole path below node_is stands in
      let whole : may_see tables policy peer ((above ++ step ∷ []) ++ next ∷ rest) ≡ true =
      subst (λ (steps : List Step). may_see tables policy peer steps ≡ true) (path ∙ sym (append_assoc above (step ∷ []) (next ∷ rest))) cut.passes in
      subst (λ (front : List Row). Contains front over) (sym cut.in_front)
      (contains_kept (λ (row : Row). may_see tables policy peer row.path.steps) over cut.front has
      (seen_above (may_read tables policy peer) (above ++ step ∷ []) (next ∷ rest) whole))
    where
      over : Row
      over = record { path = record { steps = above ++ step ∷ [] }; value = None }

  pub visible_is_data_tree : IsDataTree tables rows → IsDataTree tables (visible_rows tables policy peer rows)
  visible_is_data_tree tree = record {
    below = All-filter seen (λ (row : Row). IsAtOrBelow [] row.path) rows tree.below;
    paths = All-filter seen (λ (row : Row). IsPathOf tables row.path) rows tree.paths;
    distinct = pairs_filter (λ (row : Row) (later : Row). row.path ≢ later.path) seen rows tree.distinct;
    ordered = pairs_filter (λ (row : Row) (later : Row). ¬ IsBefore tables later.path row.path) seen rows tree.ordered;
    together = together_filter rows seen tree.together;
    values = All-filter seen (HasItsValue tables) rows tree.values;
    keys = keys_follow_filter tables rows seen tree.keys key_seen;
    ancestors = ancestors_seen tree;
    cases = λ row other above rest others step beside choice case another here there. tree.cases row other above rest others step beside choice case another
        (kept_contains seen row rows here) (kept_contains seen other rows there);
  }

pub visible_is_configuration : VisibleIsConfiguration
visible_is_configuration tables policy peer rows proper configuration = record {
  tree = visible_is_data_tree tables policy peer rows proper configuration.tree;
  canonical = All-filter (λ (row : Row). may_see tables policy peer row.path.steps) (HasCanonicalValue tables) rows configuration.canonical;
}
