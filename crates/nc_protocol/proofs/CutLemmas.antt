-- The rows at and below a node, and edits there: it is the same to edit all rows, or those alone.
use Rattle.std.proofs.Common.{◌≡◌, ◌&&◌, ◌||◌, ℕ, Bool, true, false, cond, not, List, [], ◌∷◌, ◌++◌, Option, Some, None, refl, sym, ap, subst, ◌∙◌, append_assoc}
use Rattle.std.proofs.lemmas.List.{append-nil}
use Rattle.std.proofs.lemmas.List.Elements.{filter-append}
use Rattle.std.specs.List.{All, Contains, cons_option, filter, last_or, list_any}
use Rattle.std.specs.Prelude.{option_map}
use Rattle.nc_names.specs.Same.{is_at_or_below, is_same_step}
use Rattle.nc_names.specs.declared.path.Path.{Path}
use Rattle.nc_names.specs.declared.path.Place.{Place}
use Rattle.nc_names.specs.declared.path.Row.{Row}
use Rattle.nc_names.specs.declared.path.Step.{Step}
use Rattle.nc_schema.specs.Blocks.{at_node, rows_of_node, with_block}
use Rattle.nc_schema.specs.Configuration.{IsAtOrBelow}
use Rattle.nc_schema.specs.Kinds.{has_value}
use Rattle.nc_schema.specs.Order.{keys_above}
use Rattle.nc_schema.specs.Standing.{block_at, entries, excludes, keys_in, place_at, placed, sibling_before, steps_before}
use Rattle.nc_schema.specs.Tables.{Tables}
use Rattle.nc_protocol.specs.Edited.{new_block}
use Rattle.nc_protocol.specs.ProperEdit.{IsProperAction}
use Rattle.nc_protocol.specs.declared.edit.Action.TheVariants.{Merge}
use Rattle.nc_protocol.proofs.EditedRows.{below_of}
use Rattle.nc_protocol.proofs.EntryLemmas.{keys_back}
use Rattle.nc_protocol.proofs.KeyLemmas.{filter_takes, filter_leaves, filter_whole}
use Rattle.nc_protocol.proofs.Parts.{all_at}
use Rattle.nc_protocol.proofs.PathViews.{IsLower}
use Rattle.nc_protocol.proofs.PlaceLemmas.{below_is_below}
use Rattle.nc_names.proofs.SameLemmas.{step_itself}

-- ---- filters
-- two filters in the other order, where they agree on what the outer one takes
pub filter_swap : {X : Type 0} (inside a b : X → Bool) (xs : List X) → ((x : X) → inside x ≡ true → a x ≡ b x) → filter inside (filter a xs) ≡ filter b (filter inside xs)
filter_swap inside a b [] agree = refl
filter_swap {X} inside a b (x ∷ xs) agree = by (inside x) refl (a x) refl (filter_swap inside a b xs agree)
  where
    by : (p : Bool) → inside x ≡ p → (q : Bool) → a x ≡ q → filter inside (filter a xs) ≡ filter b (filter inside xs) → filter inside (filter a (x ∷ xs)) ≡ filter b (filter inside (x ∷ xs))
    by true is true takes rest =
        ap (filter inside) (filter_takes a x xs takes) ∙ filter_takes inside x (filter a xs) is ∙ ap (λ ys. x ∷ ys) rest
        ∙ sym (ap (filter b) (filter_takes inside x xs is) ∙ filter_takes b x (filter inside xs) (sym (agree x is) ∙ takes))
    by true is false leaves rest =
        ap (filter inside) (filter_leaves a x xs leaves) ∙ rest
        ∙ sym (ap (filter b) (filter_takes inside x xs is) ∙ filter_leaves b x (filter inside xs) (sym (agree x is) ∙ leaves))
    by false is true takes rest =
        ap (filter inside) (filter_takes a x xs takes) ∙ filter_leaves inside x (filter a xs) is ∙ rest ∙ sym (ap (filter b) (filter_leaves inside x xs is))
    by false is false leaves rest =
        ap (filter inside) (filter_leaves a x xs leaves) ∙ rest ∙ sym (ap (filter b) (filter_leaves inside x xs is))

-- a filter that takes only what another takes
pub filter_within : {X : Type 0} (inner outer : X → Bool) (xs : List X) → ((x : X) → inner x ≡ true → outer x ≡ true) → filter inner (filter outer xs) ≡ filter inner xs
filter_within inner outer [] within = refl
filter_within {X} inner outer (x ∷ xs) within = by (inner x) refl (outer x) refl (filter_within inner outer xs within)
  where
    by : (p : Bool) → inner x ≡ p → (q : Bool) → outer x ≡ q → filter inner (filter outer xs) ≡ filter inner xs → filter inner (filter outer (x ∷ xs)) ≡ filter inner (x ∷ xs)
    by true is true takes rest = ap (filter inner) (filter_takes outer x xs takes) ∙ filter_takes inner x (filter outer xs) is ∙ ap (λ ys. x ∷ ys) rest ∙ sym (filter_takes inner x xs is)
    by true is false leaves rest = let clash : true ≡ false = sym (within x is) ∙ leaves in cc
    by false is true takes rest = ap (filter inner) (filter_takes outer x xs takes) ∙ filter_leaves inner x (filter outer xs) is ∙ rest ∙ sym (filter_leaves inner x xs is)
    by false is false leaves rest = ap (filter inner) (filter_leaves outer x xs leaves) ∙ rest ∙ sym (filter_leaves inner x xs is)

any_within : {X : Type 0} (inner outer : X → Bool) (xs : List X) → ((x : X) → inner x ≡ true → outer x ≡ true) → list_any inner (filter outer xs) ≡ list_any inner xs
any_within inner outer [] within = refl
any_within {X} inner outer (x ∷ xs) within = by (inner x) refl (outer x) refl (any_within inner outer xs within)
  where
    by : (p : Bool) → inner x ≡ p → (q : Bool) → outer x ≡ q → list_any inner (filter outer xs) ≡ list_any inner xs → list_any inner (filter outer (x ∷ xs)) ≡ list_any inner (x ∷ xs)
    by p is true takes rest = ap (list_any inner) (filter_takes outer x xs takes) ∙ ap (λ b. inner x || b) rest
    by true is false leaves rest = let clash : true ≡ false = sym (within x is) ∙ leaves in cc
    by false is false leaves rest = ap (list_any inner) (filter_leaves outer x xs leaves) ∙ rest ∙ ap (λ b. b || list_any inner xs) (sym is)

-- ---- the rows at and below a node
module _ (tables : Tables) (top : List Step) where
  -- the entries of a list below the node are among its rows
  entries_cut : (rows : List Row) (more : List Step) (number : ℕ) → entries rows (top ++ more) number ≡ entries (block_at rows top) (top ++ more) number
  entries_cut [] more number = refl
  entries_cut (row ∷ rows) more number = by (is_at_or_below top row.path) refl (entries_cut rows more number)
    where
      outside : is_at_or_below top row.path ≡ false → (o : Option (List (List ℕ))) → keys_in (top ++ more) number row.path.steps ≡ o → o ≡ None
      outside other None e = refl
      outside other (Some keys) e =
          let steps : row.path.steps ≡ (top ++ more) ++ record { node = number; keys = keys } ∷ [] = keys_back (top ++ more) number keys row.path.steps e in
          let lower : is_at_or_below top row.path ≡ true = (below_is_below top row.path).1 (more ++ record { node = number; keys = keys } ∷ [], steps ∙ append_assoc top more (record { node = number; keys = keys } ∷ [])) in
          let clash : true ≡ false = sym lower ∙ other in cc

      by : (b : Bool) → is_at_or_below top row.path ≡ b → entries rows (top ++ more) number ≡ entries (block_at rows top) (top ++ more) number →
          cons_option (keys_in (top ++ more) number row.path.steps) (entries rows (top ++ more) number) ≡ entries (block_at (row ∷ rows) top) (top ++ more) number
      by true is rest =
          ap (cons_option (keys_in (top ++ more) number row.path.steps)) rest
          ∙ sym (ap (λ rs. entries rs (top ++ more) number) (filter_takes (λ r. is_at_or_below top r.path) row rows is))
      by false is rest =
          ap (λ o. cons_option o (entries rows (top ++ more) number)) (outside is (keys_in (top ++ more) number row.path.steps) refl) ∙ rest
          ∙ sym (ap (λ rs. entries rs (top ++ more) number) (filter_leaves (λ r. is_at_or_below top r.path) row rows is))

  -- so two paths below it are in one order
  before_cut : (rows : List Row) (place : Place) (more xs ys : List Step) → steps_before tables rows place (top ++ more) xs ys ≡ steps_before tables (block_at rows top) place (top ++ more) xs ys
  before_cut rows place more [] [] = refl
  before_cut rows place more [] (y ∷ ys) = refl
  before_cut rows place more (x ∷ xs) [] = refl
  before_cut rows place more (x ∷ xs) (y ∷ ys) =
      let rest = before_cut rows place (more ++ y ∷ []) xs ys in
      let on : steps_before tables rows place ((top ++ more) ++ y ∷ []) xs ys ≡ steps_before tables (block_at rows top) place ((top ++ more) ++ y ∷ []) xs ys =
      subst (λ (above : List Step). steps_before tables rows place above xs ys ≡ steps_before tables (block_at rows top) place above xs ys) (sym (append_assoc top more (y ∷ []))) rest in
      let order = entries_cut rows more y.node in
      λ i. cond (is_same_step x y) (on i)
      (sibling_before tables (keys_above tables (option_map (λ over. over.node) (last_or None (top ++ more)))) (placed (place_at place ys) y.keys (order i)) x y)

  walk : (rows : List Row) (place : Place) (above common xs ys : List Step) → steps_before tables rows place above (common ++ xs) (common ++ ys) ≡ steps_before tables rows place (above ++ common) xs ys
  walk rows place above [] xs ys = ap (λ ss. steps_before tables rows place ss xs ys) (sym (append-nil above))
  walk rows place above (step ∷ common) xs ys =
      ap (λ b. cond b (steps_before tables rows place (above ++ step ∷ []) (common ++ xs) (common ++ ys))
      (sibling_before tables (keys_above tables (option_map (λ over. over.node) (last_or None above))) (placed (place_at place (common ++ ys)) step.keys (entries rows above step.node)) step step)) (step_itself step)
      ∙ walk rows place (above ++ step ∷ []) common xs ys ∙ ap (λ ss. steps_before tables rows place ss xs ys) (append_assoc above (step ∷ []) common)

  same_order : (rows : List Row) (place : Place) (one other : List Step) → IsLower one top → IsLower other top →
      steps_before tables rows place [] one other ≡ steps_before tables (block_at rows top) place [] one other
  same_order rows place one other (xs, one_is) (ys, other_is) =
      (λ i. steps_before tables rows place [] (one_is i) (other_is i)) ∙ walk rows place [] top xs ys
      ∙ subst (λ (above : List Step). steps_before tables rows place above xs ys ≡ steps_before tables (block_at rows top) place above xs ys) (append-nil top) (before_cut rows place [] xs ys)
      ∙ sym ((λ i. steps_before tables (block_at rows top) place [] (one_is i) (other_is i)) ∙ walk (block_at rows top) place [] top xs ys)

  -- a block below the node among all rows, and among those of the node
  pub block_cut : (rows : List Row) (path : Path) (place : Place) (block : List Row) → IsLower path.steps top → All (λ row. IsAtOrBelow path.steps row.path) block →
      block_at (with_block tables rows path place block) top ≡ with_block tables (block_at rows top) path place block
  block_cut rows path place block lower below =
      filter-append here (filter before others ++ block) (filter (λ row. not (before row)) others)
      ∙ (λ i. (filter-append here (filter before others) block ∙ (λ j. first j ++ filter_whole here block in_block j)) i ++ last i)
    where
      here : Row → Bool
      here row = is_at_or_below top row.path

      stays : Row → Bool
      stays row = not (is_at_or_below path.steps row.path || list_any (λ added. excludes tables added.path.steps row.path.steps) block)

      others : List Row
      others = filter stays rows

      before : Row → Bool
      before row = steps_before tables rows place [] row.path.steps path.steps

      now_before : Row → Bool
      now_before row = steps_before tables (block_at rows top) place [] row.path.steps path.steps

      in_block : (row : Row) → Contains block row → here row ≡ true
      in_block row has =
          let under = all_at (λ (r : Row). IsAtOrBelow path.steps r.path) block row below has in
          (below_is_below top row.path).1 (lower.0 ++ under.0, under.1 ∙ ap (λ ss. ss ++ under.0) lower.1 ∙ append_assoc top lower.0 under.0)

      agree : (row : Row) → here row ≡ true → before row ≡ now_before row
      agree row is = same_order rows place row.path.steps path.steps ((below_is_below top row.path).0 is) lower

      others_cut : filter here others ≡ filter stays (block_at rows top)
      others_cut = filter_swap here stays stays rows (λ row is. refl)

      first : filter here (filter before others) ≡ filter now_before (filter stays (block_at rows top))
      first = filter_swap here before now_before others agree ∙ ap (filter now_before) others_cut

      last : filter here (filter (λ row. not (before row)) others) ≡ filter (λ row. not (now_before row)) (filter stays (block_at rows top))
      last = filter_swap here (λ row. not (before row)) (λ row. not (now_before row)) others (λ row is. ap not (agree row is)) ∙ ap (filter (λ row. not (now_before row))) others_cut

  -- a merge below the node
  pub merge_cut : (rows : List Row) (path : Path) (place : Place) (value : Option (List ℕ)) → IsLower path.steps top → IsProperAction tables path (Merge value) →
      block_at (with_block tables rows path place (new_block tables rows path (Merge value))) top
      ≡ with_block tables (block_at rows top) path place (new_block tables (block_at rows top) path (Merge value))
  merge_cut rows path place value lower fits =
      block_cut rows path place (new_block tables rows path (Merge value)) lower (below_of tables rows path (Merge value) fits)
      ∙ ap (with_block tables (block_at rows top) path place) same
    where
      within : (row : Row) → is_at_or_below path.steps row.path ≡ true → is_at_or_below top row.path ≡ true
      within row is =
          let under = (below_is_below path.steps row.path).0 is in
          (below_is_below top row.path).1 (lower.0 ++ under.0, under.1 ∙ ap (λ ss. ss ++ under.0) lower.1 ∙ append_assoc top lower.0 under.0)

      same : new_block tables rows path (Merge value) ≡ new_block tables (block_at rows top) path (Merge value)
      same = sym (λ i. cond (any_within (λ row. is_at_or_below path.steps row.path) (λ row. is_at_or_below top row.path) rows within i && not (at_node tables path has_value))
          (filter_within (λ row. is_at_or_below path.steps row.path) (λ row. is_at_or_below top row.path) rows within i) (rows_of_node tables path value))
