-- The rows that merges at and below a node leave in nothing are a subtree.
use Rattle.std.proofs.Common.{◌≡◌, ◌≢◌, ◌&&◌, ◌||◌, ◌⊎◌, ℕ, zero, suc, Bool, true, false, cond, not, List, [], ◌∷◌, ◌++◌, Option, Some, None, inl, inr, refl, sym, ap, subst, ◌∙◌, arith, append_assoc}
use Rattle.std.proofs.lemmas.List.{append-nil}
use Rattle.std.proofs.lemmas.List.Elements.{Contains-append_left, Contains-append_cases}
use Rattle.std.proofs.lemmas.Option.{slice_get-get_or}
use Rattle.std.specs.List.{All, Contains, filter, fold}
use Rattle.std.specs.Option.{option_map_or}
use Rattle.std.specs.Prelude.{IsTrue, IsSomeAnd, option_and_then, slice_get}
use Rattle.nc_names.specs.Same.{is_at_or_below}
use Rattle.nc_names.specs.declared.path.Path.{Path}
use Rattle.nc_names.specs.declared.path.Place.{Place}
use Rattle.nc_names.specs.declared.path.Place.TheVariants.{Kept}
use Rattle.nc_names.specs.declared.path.Row.{Row}
use Rattle.nc_names.specs.declared.path.Step.{Step}
use Rattle.nc_schema.specs.Blocks.{at_node, other_rows, own_rows, rows_of_node, with_block}
use Rattle.nc_schema.specs.Configuration.{IsDataTree, IsSubtree, key_rows}
use Rattle.nc_schema.specs.Kinds.{has_value, is_plain_container}
use Rattle.nc_schema.specs.Paths.{HasAllKeys, LeadDown, IsPathOf}
use Rattle.nc_schema.proofs.ProperLemmas.{HoldsNodes, HasProperNodes}
use Rattle.nc_schema.specs.Proper.{IsKeyIn}
use Rattle.nc_schema.specs.Standing.{block_at, exists, has_row, node_of, steps_before}
use Rattle.nc_schema.specs.Tables.{Tables}
use Rattle.nc_schema.specs.declared.node.Kind.{Kind}
use Rattle.nc_schema.specs.declared.node.Kind.TheVariants.{Container, Leaf, LeafList, List as ListKind}
use Rattle.nc_schema.specs.declared.node.Node.{Node}
use Rattle.nc_schema.proofs.TreeLemmas.{empty_is_data_tree}
use Rattle.nc_protocol.specs.Edited.{left_by, new_block, place_by}
use Rattle.nc_protocol.specs.Payload.{rows_merged}
use Rattle.nc_protocol.specs.ProperEdit.{IsKeyAt, IsNoKey, IsNewSubtree, IsProperAction, IsProperEdit}
use Rattle.nc_protocol.specs.declared.edit.Action.{Action}
use Rattle.nc_protocol.specs.declared.edit.Action.TheVariants.{Merge}
use Rattle.nc_protocol.specs.declared.edit.Edit.{Edit}
use Rattle.nc_protocol.proofs.Building.{Stands, IsMergeBelow, IsBuilt, row_is_there, in_left, stays_above, merge_keeps, stands_then}
use Rattle.nc_protocol.proofs.CutLemmas.{merge_cut}
use Rattle.nc_protocol.proofs.KeyLemmas.{filter_none, key_row_is}
use Rattle.nc_protocol.proofs.ListLemmas.{contains_at, contains_behind, heads_same, no_element, same_before, some_same, tails_same, too_long}
use Rattle.nc_protocol.proofs.Parts.{all_at, all_from, kept_contains}
use Rattle.nc_protocol.proofs.PathViews.{IsLower, after_last}
use Rattle.nc_protocol.proofs.PlaceLemmas.{below_is_below, last_of}
use Rattle.nc_protocol.proofs.SiblingLemmas.{IsStepAt, path_step, some_and}
use Rattle.nc_protocol.proofs.SubtreeLemmas.{block_is_subtree, own_rows_are}

-- a front of steps that lead down leads down
lead_front : (tables : Tables) (at : Option ℕ) (xs ys : List Step) → LeadDown tables at (xs ++ ys) → LeadDown tables at xs
lead_front tables at [] ys down = tt
lead_front tables at (x ∷ xs) ys down = (down.0, lead_front tables (Some x.node) xs ys down.1)

front_path : (tables : Tables) (path : Path) (front rest : List Step) → front ≢ [] → IsPathOf tables path → path.steps ≡ front ++ rest → IsPathOf tables (record { steps = front })
front_path tables path front rest some is_path is = record {
  names = record { steps = some; down = lead_front tables None front rest (subst (LeadDown tables None) is is_path.names.down) };
  instances = all_from Has front (λ s has. all_at Has (front ++ rest) s (subst (All Has) is is_path.instances) (Contains-append_left front rest s has));
}
  where
    Has : Step → Type 0
    Has s = IsSomeAnd (slice_get tables.nodes s.node) (λ node. HasAllKeys node s)

-- a path of one step more that is at or below a longer one is that
one_more : (xs more rest : List Step) (k x : Step) → xs ++ k ∷ [] ≡ (xs ++ x ∷ more) ++ rest → (k ≡ x) × (more ≡ [])
one_more [] [] rest k x e = (heads_same k x [] rest e, refl)
one_more [] (m ∷ more) rest k x e = absurd (no_element [] (more ++ rest) m (tails_same k x [] (m ∷ (more ++ rest)) e))
one_more (y ∷ xs) more rest k x e = one_more xs more rest k x (tails_same y y _ _ e)

-- a row is among those that were there, or among the new ones
pub of_left : (tables : Tables) (rows : List Row) (path : Path) (place : Place) (block : List Row) (row : Row) → Contains (with_block tables rows path place block) row → Contains rows row ⊎ Contains block row
of_left tables rows path place block row has = by (Contains-append_cases (filter before others ++ block) (filter (λ r. not (before r)) others) row has)
  where
    before : Row → Bool
    before r = steps_before tables rows place [] r.path.steps path.steps

    others : List Row
    others = other_rows tables rows path.steps block

    front : Contains (filter before others) row ⊎ Contains block row → Contains rows row ⊎ Contains block row
    front (inl here) = inl (kept_contains _ row rows (kept_contains before row others here))
    front (inr here) = inr here

    by : Contains (filter before others ++ block) row ⊎ Contains (filter (λ r. not (before r)) others) row → Contains rows row ⊎ Contains block row
    by (inl here) = front (Contains-append_cases (filter before others) block row here)
    by (inr here) = inl (kept_contains _ row rows (kept_contains (λ r. not (before r)) row others here))

-- ---- a data tree of what stands above a node that is no key
record IsBase (tables : Tables) (path : Path) (front : List Step) (rows : List Row) : Type 0 where
  tree : IsDataTree tables rows
  stands : Stands tables front rows
  empty : (row : Row) → Contains rows row → ¬ IsLower row.path.steps path.steps

module _ (tables : Tables) (path : Path) (proper : HasProperNodes tables) (is_path : IsPathOf tables path) (no_key : IsNoKey tables path) where
  module _ (done : List Step) (step next : Step) (more : List Step) (is : path.steps ≡ done ++ step ∷ next ∷ more) (rows : List Row) (base : IsBase tables path done rows) where
    abbrev front : List Step
    front = done ++ step ∷ []

    abbrev edit : Edit
    edit = record { path = record { steps = front }; action = Merge None; place = Kept }

    cut : path.steps ≡ front ++ next ∷ more
    cut = is ∙ sym (append_assoc done (step ∷ []) (next ∷ more))

    at : IsStepAt tables done step
    at = path_step tables path done step (next ∷ more) is_path is

    holds : HoldsNodes at.node.kind
    holds =
        let under = path_step tables path front next more is_path cut in
        proper.parents next.node step.node under.node at.node under.node_is (under.parent ∙ after_last None done step) at.node_is

    holds_at : (above : List Step) (s : Step) (node : Node) → front ≡ above ++ s ∷ [] → slice_get tables.nodes s.node ≡ Some node → HoldsNodes node.kind
    holds_at above s node ends node_is =
        let same : at.node ≡ node = some_same at.node node (sym at.node_is ∙ ap (λ (x : Step). slice_get tables.nodes x.node) (same_before done above step s ends).1 ∙ node_is) in
        subst (λ (n : Node). HoldsNodes n.kind) same holds

    no_value : (kind : Kind) → HoldsNodes kind → ¬ IsTrue (has_value kind)
    no_value (Container presence) h e = let clash : false ≡ true = e in cc
    no_value Leaf h e = h
    no_value LeafList h e = h
    no_value ListKind h e = let clash : false ≡ true = e in cc

    fits : IsProperEdit tables edit
    fits = record {
      path = front_path tables path front (next ∷ more) (λ none. no_element done [] step (sym none)) is_path cut;
      action = record {
        own = λ above s node ends node_is valued. absurd (no_value node.kind (holds_at above s node ends node_is) valued);
        of_key = λ entry place key. absurd (leaf entry place key (some_and _ _ (proper.keys entry.node key.key.node key.node key.node_is (in_keys key.node.keys place key.key.node key.key_is))));
      };
    }
      where
        in_keys : (keys : List ℕ) (place number : ℕ) → slice_get keys place ≡ Some number → Contains keys number
        in_keys keys place number found = contains_at keys place number found

        leaf : (entry : Step) (place : ℕ) (key : IsKeyAt tables edit.path entry place) → (n : Node) × (slice_get tables.nodes key.key.node ≡ Some n) × IsKeyIn entry.node n → ⊥
        leaf entry place key (n, n_is, key_in) =
            subst HoldsNodes key_in.kind (holds_at (key.above ++ entry ∷ []) key.key n (key.steps ∙ sym (append_assoc key.above (entry ∷ []) (key.key ∷ []))) n_is)

    -- the rows of the node by itself are not those of the node below it
    own_outside : (kind : Kind) → at.node.kind ≡ kind → (row : Row) → Contains (own_rows kind at.node.keys edit.path step.keys None) row → ¬ IsLower row.path.steps path.steps
    own_outside kind kind_is row has (rest, lower) = by kind kind_is has
      where
        here : (r : Row) → Contains (r ∷ []) row → r.path.steps ≡ front → ⊥
        here r (zero, within, same) steps = too_long front next more rest (sym steps ∙ (λ i. (same i).path.steps) ∙ lower ∙ ap (λ ss. ss ++ rest) cut)
        here r (suc k, within, same) steps = omega (arith, within)

        of_key : at.node.kind ≡ ListKind → Contains (key_rows front at.node.keys step.keys) row → ⊥
        of_key list there =
            let key = key_row_is front at.node.keys step.keys row there in
            let ends = one_more front more rest (record { node = key.0; keys = [] }) next (sym key.2 ∙ lower ∙ ap (λ ss. ss ++ rest) cut) in
            no_key step key.1.0 (record {
              above = done;
              key = next;
              node = at.node;
              steps = is ∙ ap (λ ss. done ++ step ∷ next ∷ ss) ends.1;
              node_is = at.node_is;
              list = list;
              key_is = slice_get-get_or at.node.keys key.1.0 key.0 key.1.1 ∙ ap Some key.1.2 ∙ (λ i. Some (ends.0 i).node);
            })

        first_or_key : at.node.kind ≡ ListKind → Contains (record { path = edit.path; value = None } ∷ key_rows front at.node.keys step.keys) row → ⊥
        first_or_key list (zero, within, same) = here (record { path = edit.path; value = None }) (0, omega arith, same) refl
        first_or_key list (suc k, within, same) = of_key list (k, omega (arith, within), same)

        by : (kind : Kind) → at.node.kind ≡ kind → Contains (own_rows kind at.node.keys edit.path step.keys None) row → ⊥
        by (Container true) e there = here (record { path = edit.path; value = None }) there refl
        by (Container false) e there = omega (arith, there.1)
        by Leaf e there = here (record { path = edit.path; value = None }) there refl
        by LeafList e there = here (record { path = edit.path; value = None }) there refl
        by ListKind e there = first_or_key e there

    next_base : IsBase tables path front (left_by tables rows edit)
    next_base = record {
      tree = merge_keeps tables rows done step edit None proper base.tree fits refl refl base.stands;
      stands = stands_then tables rows done step edit None proper base.tree fits refl refl base.stands;
      empty = λ row has. outside row (of_left tables rows edit.path Kept (new_block tables rows edit.path (Merge None)) row has);
    }
      where
        in_block : (row : Row) (b : Bool) → Contains (cond b (block_at rows front) (rows_of_node tables edit.path None)) row → ¬ IsLower row.path.steps path.steps
        in_block row true has = base.empty row (kept_contains _ row rows has)
        in_block row false has =
            own_outside at.node.kind refl row
            (subst (λ (rs : List Row). Contains rs row) (own_rows_are tables edit.path None done step at.node refl at.node_is) has)

        outside : (row : Row) → Contains rows row ⊎ Contains (new_block tables rows edit.path (Merge None)) row → ¬ IsLower row.path.steps path.steps
        outside row (inl has) = base.empty row has
        outside row (inr has) = in_block row (exists rows front && not (at_node tables edit.path has_value)) has

  all_above : (done left : List Step) (last : Step) → path.steps ≡ done ++ (left ++ last ∷ []) → (rows : List Row) → IsBase tables path done rows → (all : List Row) × IsBase tables path (done ++ left) all
  all_above done [] last is rows base = (rows, subst (λ ss. IsBase tables path ss rows) (sym (append-nil done)) base)
  all_above done (step ∷ []) last is rows base =
      (left_by tables rows (edit done step last [] is rows base), next_base done step last [] is rows base)
  all_above done (step ∷ next ∷ left) last is rows base =
      let more : List Step = left ++ last ∷ [] in
      let made = all_above (done ++ step ∷ []) (next ∷ left) last (is ∙ sym (append_assoc done (step ∷ []) (next ∷ more))) (left_by tables rows (edit done step next more is rows base)) (next_base done step next more is rows base) in
      (made.0, subst (λ ss. IsBase tables path ss made.0) (append_assoc done (step ∷ []) (next ∷ left)) made.1)

-- ---- edits at and below a node
left_cut : (tables : Tables) (top : List Step) (rows : List Row) (edit : Edit) (value : Option (List ℕ)) → IsLower edit.path.steps top → IsProperEdit tables edit → edit.action ≡ Merge value →
    block_at (left_by tables rows edit) top ≡ left_by tables (block_at rows top) edit
left_cut tables top rows edit value lower fits merges =
    subst (λ (action : Action). block_at (with_block tables rows edit.path (place_by action edit.place) (new_block tables rows edit.path action)) top
    ≡ with_block tables (block_at rows top) edit.path (place_by action edit.place) (new_block tables (block_at rows top) edit.path action)) (sym merges)
    (merge_cut tables top rows edit.path edit.place value lower (subst (IsProperAction tables edit.path) merges fits.action))

fold_cut : (tables : Tables) (top above : List Step) (rows : List Row) (edits : List Edit) →
    ((e : Edit) → Contains edits e → IsMergeBelow tables above e) → ((e : Edit) → Contains edits e → IsLower e.path.steps top) →
    block_at (fold (left_by tables) rows edits) top ≡ fold (left_by tables) (block_at rows top) edits
fold_cut tables top above rows [] each lower = refl
fold_cut tables top above rows (edit ∷ edits) each lower =
    let own = each edit (0, omega arith, refl) in
    fold_cut tables top above (left_by tables rows edit) edits (λ e has. each e (contains_behind edit edits e has)) (λ e has. lower e (contains_behind edit edits e has))
    ∙ ap (λ rs. fold (left_by tables) rs edits) (left_cut tables top rows edit own.value (lower edit (0, omega arith, refl)) own.fits own.merges)

-- a row above the edits stays
fold_stays : (tables : Tables) (row : Row) (rows : List Row) (edits : List Edit) → ((e : Edit) → Contains edits e → IsMergeBelow tables row.path.steps e) →
    Contains rows row → Contains (fold (left_by tables) rows edits) row
fold_stays tables row rows [] each has = has
fold_stays tables row rows (edit ∷ edits) each has =
    let own = each edit (0, omega arith, refl) in
    fold_stays tables row (left_by tables rows edit) edits (λ e there. each e (contains_behind edit edits e there))
    (stays_above tables rows edit own.fits row own.step own.rest has own.steps)

-- a merge at a node that is no key, and merges below it
module _ (tables : Tables) (above : List Step) (step : Step) (edit : Edit) (value : Option (List ℕ)) (edits : List Edit) (proper : HasProperNodes tables) (fits : IsProperEdit tables edit)
    (merges : edit.action ≡ Merge value) (path_is : edit.path.steps ≡ above ++ step ∷ []) (no_key : IsNoKey tables edit.path) (built : IsBuilt tables above (edit ∷ edits))
    (below : (e : Edit) → Contains edits e → IsMergeBelow tables edit.path.steps e) where
  lower : (e : Edit) → Contains (edit ∷ edits) e → IsLower e.path.steps edit.path.steps
  lower e (zero, within, here) = ([], sym (λ i. (here i).path.steps) ∙ sym (append-nil edit.path.steps))
  lower e (suc k, within, here) =
      let under = below e (k, omega (arith, within), here) in (under.step ∷ under.rest, under.steps)

  base : (all : List Row) × IsBase tables edit.path above all
  base =
      all_above tables edit.path proper fits.path no_key [] above step path_is []
      (record {
        tree = empty_is_data_tree tables;
        stands = λ front s rest node is. absurd (no_element front rest s is);
        empty = λ row has. absurd (omega (arith, has.1));
      })

  pub rows_are : IsSubtree tables edit.path.steps (rows_merged tables (edit ∷ edits))
  rows_are =
      let made = built.keeps base.0 base.1.tree base.1.stands in
      subst (IsSubtree tables edit.path.steps)
      (fold_cut tables edit.path.steps above base.0 (edit ∷ edits) built.each lower
      ∙ ap (λ rs. fold (left_by tables) rs (edit ∷ edits)) (filter_none (λ row. is_at_or_below edit.path.steps row.path) base.0 (λ row has. outside row has (is_at_or_below edit.path.steps row.path) refl)))
      (block_is_subtree tables (fold (left_by tables) base.0 (edit ∷ edits)) edit.path.steps made.0)
    where
      outside : (row : Row) → Contains base.0 row → (b : Bool) → is_at_or_below edit.path.steps row.path ≡ b → is_at_or_below edit.path.steps row.path ≡ false
      outside row has false e = e
      outside row has true e = absurd (base.1.empty row has ((below_is_below edit.path.steps row.path).0 e))

  itself : IsTrue (has_row (rows_merged tables (edit ∷ edits)) edit.path.steps || at_node tables edit.path is_plain_container)
  itself = by at.node.kind refl
    where
      at : IsStepAt tables above step
      at = path_step tables edit.path above step [] fits.path path_is

      kind_at : (test : Kind → Bool) → at_node tables edit.path test ≡ test at.node.kind
      kind_at test =
          ap (λ ss. option_map_or (λ n. test n.kind) (node_of tables ss) false) path_is
          ∙ ap (λ o. option_map_or (λ n. test n.kind) (option_and_then (λ s. slice_get tables.nodes s.node) o) false) (last_of None above step)
          ∙ ap (λ o. option_map_or (λ n. test n.kind) o false) at.node_is

      own : (row : Row) → row.path ≡ edit.path → Contains (own_rows at.node.kind at.node.keys edit.path step.keys value) row → has_row (rows_merged tables (edit ∷ edits)) edit.path.steps ≡ true
      own row same has =
          let steps : row.path.steps ≡ edit.path.steps = λ i. (same i).steps in
          let block : Contains (new_block tables [] edit.path edit.action) row =
          subst (λ (action : Action). Contains (new_block tables [] edit.path action) row) (sym merges)
          (subst (λ (rs : List Row). Contains rs row) (sym (own_rows_are tables edit.path value above step at.node path_is at.node_is)) has) in
          ap (has_row (rows_merged tables (edit ∷ edits))) (sym steps)
          ∙ row_is_there (rows_merged tables (edit ∷ edits)) row
          (fold_stays tables row (left_by tables [] edit) edits (λ e there. subst (λ ss. IsMergeBelow tables ss e) (sym steps) (below e there)) (in_left tables [] edit fits row block))

      or_true : (a b : Bool) → a ≡ true → (a || b) ≡ true
      or_true true b e = refl
      or_true false b e = let clash : false ≡ true = e in cc

      true_or : (a b : Bool) → b ≡ true → (a || b) ≡ true
      true_or true b e = refl
      true_or false b e = e

      by : (kind : Kind) → at.node.kind ≡ kind → (has_row (rows_merged tables (edit ∷ edits)) edit.path.steps || at_node tables edit.path is_plain_container) ≡ true
      by (Container false) e = true_or (has_row (rows_merged tables (edit ∷ edits)) edit.path.steps) (at_node tables edit.path is_plain_container) (kind_at is_plain_container ∙ ap is_plain_container e)
      by (Container true) e = or_true _ _ (own (record { path = edit.path; value = None }) refl (subst (λ (kind : Kind). Contains (own_rows kind at.node.keys edit.path step.keys value) (record { path = edit.path; value = None })) (sym e) (0, omega arith, refl)))
      by Leaf e = or_true _ _ (own (record { path = edit.path; value = value }) refl (subst (λ (kind : Kind). Contains (own_rows kind at.node.keys edit.path step.keys value) (record { path = edit.path; value = value })) (sym e) (0, omega arith, refl)))
      by LeafList e = or_true _ _ (own (record { path = edit.path; value = value }) refl (subst (λ (kind : Kind). Contains (own_rows kind at.node.keys edit.path step.keys value) (record { path = edit.path; value = value })) (sym e) (0, omega arith, refl)))
      by ListKind e = or_true _ _ (own (record { path = edit.path; value = None }) refl (subst (λ (kind : Kind). Contains (own_rows kind at.node.keys edit.path step.keys value) (record { path = edit.path; value = None })) (sym e) (0, omega arith, refl)))

  pub new_subtree : IsNewSubtree tables edit.path (rows_merged tables (edit ∷ edits))
  new_subtree = record { no_key = no_key; rows = rows_are; itself = itself }
