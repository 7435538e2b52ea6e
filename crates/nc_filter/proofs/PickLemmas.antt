-- What the definition says of a row is what is asked level by level.
use Rattle.std.proofs.Common.{◌≡◌, ◌&&◌, ◌||◌, ◌+◌, ◌⊎◌, inl, inr, ℕ, zero, suc, Bool, true, false, not, List, [], ◌∷◌, ◌++◌, None, Some, drop, length, take, refl, sym, ap, ◌∙◌, if◌then◌else◌, arith}
use Rattle.std.specs.Prelude.{Option, option_map, slice_get}
use Rattle.std.specs.List.{filter, last_or, list_any}
use Rattle.std.specs.Option.{option_map_or}
use Rattle.std.proofs.lemmas.Bool.Decides.{Decides-eqb}
use Rattle.std.proofs.lemmas.List.{length-append}
use Rattle.std.proofs.lemmas.Option.{same_Some}
use Rattle.nc_message.specs.declared.tree.Elem.{Elem}
use Rattle.nc_names.proofs.StepOrder.{same_path, same_itself}
use Rattle.nc_names.specs.Same.{is_same_path}
use Rattle.nc_names.specs.declared.path.Row.{Row}
use Rattle.nc_names.specs.declared.path.Step.{Step}
use Rattle.nc_schema.specs.Blocks.{above_last, above_from}
use Rattle.nc_schema.specs.Tables.{Tables}
use Rattle.nc_protocol.specs.Elements.{has_child, has_text}
use Rattle.nc_protocol.specs.Filter.{holds, is_containment, is_content_match, is_of_matches, is_of_node, is_of_text, level_of, meets, selects}
use Rattle.nc_protocol.proofs.FilterLemmas.{above_of_last, above_longer}
use Rattle.nc_protocol.proofs.ListLemmas.{too_long}
use Rattle.nc_protocol.proofs.PlaceLemmas.{last_of}
use Rattle.nc_filter.specs.inner.Levels.{fits}
use Rattle.nc_filter.specs.inner.Picks.{ends, has_node, is_matched, is_named, is_number, is_selection, node_at, opens, picked, picks_at, says, within}
use Rattle.nc_filter.proofs.Unions.{or_false, or_true, any_and, any_filter, any_or, any_same}

one_more : (n : ℕ) → n + 1 ≡ suc n
one_more n = omega arith

-- a path ends above a depth, or has a step there
pub record IsCut (depth : ℕ) (steps : List Step) (step : Step) : Type 0 where
  pub at : slice_get steps depth ≡ Some step
  pub rest : drop depth steps ≡ step ∷ drop (suc depth) steps
  pub front : take (suc depth) steps ≡ take depth steps ++ step ∷ []
  pub whole : steps ≡ take depth steps ++ step ∷ drop (suc depth) steps
  pub deep : length (take depth steps) ≡ depth

pub cut_at : (depth : ℕ) (steps : List Step) → ((slice_get steps depth ≡ None) × (drop depth steps ≡ [])) ⊎ ((step : Step) × IsCut depth steps step)
cut_at zero [] = inl (refl, refl)
cut_at (suc depth) [] = inl (refl, refl)
cut_at zero (step ∷ steps) = inr (step, record { at = refl; rest = refl; front = refl; whole = refl; deep = refl })
cut_at (suc depth) (first ∷ steps) = by (cut_at depth steps)
  where
    by : ((slice_get steps depth ≡ None) × (drop depth steps ≡ [])) ⊎ ((step : Step) × IsCut depth steps step) →
        ((slice_get (first ∷ steps) (suc depth) ≡ None) × (drop (suc depth) (first ∷ steps) ≡ [])) ⊎ ((step : Step) × IsCut (suc depth) (first ∷ steps) step)
    by (inl none) = inl none
    by (inr (step, cut)) = inr (
      step,
      record {
        at = cut.at;
        rest = cut.rest;
        front = ap (λ more. first ∷ more) cut.front;
        whole = ap (λ more. first ∷ more) cut.whole;
        deep = ap suc cut.deep;
      },
    )

module _ (tables : Tables) (rows : List Row) (row : Row) where
  -- what the elements of a level say of the row, which is that many steps further down
  abbrev below : List Elem → List Step → List Step → Bool
  below level above [] = false
  below level above (step ∷ steps) = list_any
      (λ elem. is_of_node tables elem step &&
      (if is_content_match elem then meets tables elem above row
      else (if is_containment elem then selects tables rows row (level_of elem) (above ++ step ∷ []) steps else true)))
      level

  selects_is : (level : List Elem) (above steps : List Step) → selects tables rows row level above steps ≡ (holds tables rows above level && (is_of_matches level || below level above steps))
  selects_is level above [] = ap (λ b. holds tables rows above level && b) (sym (or_false (is_of_matches level)))
  selects_is level above (step ∷ steps) = refl

  below_is : (depth : ℕ) (level : List Elem) → below level (take depth row.path.steps) (drop depth row.path.steps) ≡ picked tables rows depth level row
  below_is depth level = by (cut_at depth row.path.steps)
    where
      by : ((slice_get row.path.steps depth ≡ None) × (drop depth row.path.steps ≡ [])) ⊎ ((step : Step) × IsCut depth row.path.steps step) →
          below level (take depth row.path.steps) (drop depth row.path.steps) ≡ picked tables rows depth level row
      by (inl (none, end)) =
          ap (below level (take depth row.path.steps)) end
          ∙ sym (ap (λ (o : Option Step). option_map_or (picks_at tables rows depth level row) (option_map (λ step. step.node) o) false) none)
      by (inr (step, cut)) =
          ap (below level (take depth row.path.steps)) cut.rest
          ∙ (λ i. list_any
          (λ elem. is_of_node tables elem step &&
          (if is_content_match elem then meets tables elem (take depth row.path.steps) row
          else (if is_containment elem then selects tables rows row (level_of elem) (front i) (drop (sym (one_more depth) i) row.path.steps) else true)))
          level)
          ∙ sym (ap (λ (o : Option Step). option_map_or (picks_at tables rows depth level row) (option_map (λ step. step.node) o) false) cut.at)
        where
          front : take depth row.path.steps ++ step ∷ [] ≡ take (depth + 1) row.path.steps
          front = sym (ap (λ n. take n row.path.steps) (one_more depth) ∙ cut.front)

  pub within_is : (depth : ℕ) (elem : Elem) → within tables rows depth row elem ≡ (holds tables rows (take depth row.path.steps) (level_of elem) && opens tables rows depth row elem)
  within_is depth elem =
      selects_is (level_of elem) (take depth row.path.steps) (drop depth row.path.steps)
      ∙ ap (λ b. holds tables rows (take depth row.path.steps) (level_of elem) && (is_of_matches (level_of elem) || b)) (below_is depth (level_of elem))

  -- the whole filter selects the row
  pub whole_is : (elem : Elem) → within tables rows 0 row elem ≡ selects tables rows row (level_of elem) [] row.path.steps
  whole_is elem = refl

  meets_here : (elem : Elem) (above : List Step) (step : Step) → row.path.steps ≡ above ++ step ∷ [] → meets tables elem above row ≡ fits tables elem row
  meets_here elem above step path =
      ap (λ b. b && option_map_or (is_of_node tables elem) (last_or None row.path.steps) false && is_of_text elem row)
      (same_itself (above_last row.path.steps) above (ap above_last path ∙ above_of_last above step))

  meets_lower : (elem : Elem) (above : List Step) (step following : Step) (rest : List Step) → row.path.steps ≡ above ++ step ∷ following ∷ rest → meets tables elem above row ≡ false
  meets_lower elem above step following rest path = by (is_same_path (above_last row.path.steps) above) refl
    where
      longer : above_last row.path.steps ≡ (above ++ step ∷ []) ++ above_from following rest
      longer = ap above_last path ∙ above_longer above step following rest

      by : (b : Bool) → is_same_path (above_last row.path.steps) above ≡ b → meets tables elem above row ≡ false
      by true e = absurd (too_long above step [] (above_from following rest) (sym (same_path (above_last row.path.steps) above e) ∙ longer))
      by false e = ap (λ b. b && option_map_or (is_of_node tables elem) (last_or None row.path.steps) false && is_of_text elem row) e

  -- a row at a node, which is at that depth
  node_of_step : (depth node : ℕ) (step : Step) → slice_get row.path.steps depth ≡ Some step → node_at depth row ≡ Some node → step.node ≡ node
  node_of_step depth node step at is = same_Some step.node node (sym (ap (option_map (λ step. step.node)) at) ∙ is)

  -- the last step of a path that ends there
  ends_is : (depth : ℕ) (step : Step) (rest : List Step) → length (take depth row.path.steps) ≡ depth → row.path.steps ≡ take depth row.path.steps ++ step ∷ rest →
      length row.path.steps ≡ depth + length (step ∷ rest)
  ends_is depth step rest deep path = ap length path ∙ length-append (take depth row.path.steps) (step ∷ rest) ∙ ap (λ n. n + length (step ∷ rest)) deep

  meets_is : (depth node : ℕ) (elem : Elem) → node_at depth row ≡ Some node → is_named tables node elem ≡ true →
      meets tables elem (take depth row.path.steps) row ≡ (ends depth row && is_of_text elem row)
  meets_is depth node elem at_node named = by (cut_at depth row.path.steps)
    where
      ended : (step : Step) (rest : List Step) → slice_get row.path.steps depth ≡ Some step → length (take depth row.path.steps) ≡ depth →
          row.path.steps ≡ take depth row.path.steps ++ step ∷ rest → meets tables elem (take depth row.path.steps) row ≡ (ends depth row && is_of_text elem row)
      ended step [] at deep path =
          meets_here elem (take depth row.path.steps) step path
          ∙ ap (λ (o : Option Step). option_map_or (is_of_node tables elem) o false && is_of_text elem row) (ap (last_or None) path ∙ last_of None (take depth row.path.steps) step)
          ∙ ap (λ n. is_named tables n elem && is_of_text elem row) (node_of_step depth node step at at_node)
          ∙ ap (λ b. b && is_of_text elem row) (named ∙ sym there)
        where
          there : ends depth row ≡ true
          there = (Decides-eqb (length row.path.steps) (depth + 1)).1 (ends_is depth step [] deep path ∙ ap (λ n. depth + n) refl)
      ended step (following ∷ rest) at deep path =
          meets_lower elem (take depth row.path.steps) step following rest path ∙ sym (ap (λ b. b && is_of_text elem row) (not_there (ends depth row) refl))
        where
          not_there : (b : Bool) → ends depth row ≡ b → b ≡ false
          not_there false e = refl
          not_there true e = absurd (longer (length rest) (sym (ends_is depth step (following ∷ rest) deep path) ∙ (Decides-eqb (length row.path.steps) (depth + 1)).0 e))
            where
              longer : (n : ℕ) → ¬ (depth + suc (suc n) ≡ depth + 1)
              longer n e = omega (arith, e)

      by : ((slice_get row.path.steps depth ≡ None) × (drop depth row.path.steps ≡ [])) ⊎ ((step : Step) × IsCut depth row.path.steps step) →
          meets tables elem (take depth row.path.steps) row ≡ (ends depth row && is_of_text elem row)
      by (inl (none, end)) = let clash : None ≡ Some node = sym (ap (option_map (λ step. step.node)) none) ∙ at_node in cc
      by (inr (step, cut)) = ended step (drop (suc depth) row.path.steps) cut.at cut.deep cut.whole

  -- a content match is met where the path ends and the row fits
  pub named_meets : (depth node : ℕ) (elem : Elem) → node_at depth row ≡ Some node →
      (is_named tables node elem && meets tables elem (take depth row.path.steps) row) ≡ (ends depth row && fits tables elem row)
  named_meets depth node elem at_node = by (cut_at depth row.path.steps)
    where
      twice : (n t : Bool) → (n && (n && t)) ≡ (n && t)
      twice true t = refl
      twice false t = refl

      never : (b : Bool) → (b && false) ≡ false
      never true = refl
      never false = refl

      ended : (step : Step) (rest : List Step) → slice_get row.path.steps depth ≡ Some step → length (take depth row.path.steps) ≡ depth →
          row.path.steps ≡ take depth row.path.steps ++ step ∷ rest →
          (is_named tables node elem && meets tables elem (take depth row.path.steps) row) ≡ (ends depth row && fits tables elem row)
      ended step [] at deep path =
          ap (λ b. is_named tables node elem && b) (meets_here elem (take depth row.path.steps) step path ∙ fitting)
          ∙ twice (is_named tables node elem) (is_of_text elem row)
          ∙ sym fitting
          ∙ ap (λ b. b && fits tables elem row) (sym there)
        where
          fitting : fits tables elem row ≡ (is_named tables node elem && is_of_text elem row)
          fitting =
              ap (λ (o : Option Step). option_map_or (is_of_node tables elem) o false && is_of_text elem row) (ap (last_or None) path ∙ last_of None (take depth row.path.steps) step)
              ∙ ap (λ n. is_named tables n elem && is_of_text elem row) (node_of_step depth node step at at_node)

          there : ends depth row ≡ true
          there = (Decides-eqb (length row.path.steps) (depth + 1)).1 (ends_is depth step [] deep path ∙ ap (λ n. depth + n) refl)
      ended step (following ∷ rest) at deep path =
          ap (λ b. is_named tables node elem && b) (meets_lower elem (take depth row.path.steps) step following rest path)
          ∙ never (is_named tables node elem)
          ∙ sym (ap (λ b. b && fits tables elem row) (not_there (ends depth row) refl))
        where
          not_there : (b : Bool) → ends depth row ≡ b → b ≡ false
          not_there false e = refl
          not_there true e = absurd (longer (length rest) (sym (ends_is depth step (following ∷ rest) deep path) ∙ (Decides-eqb (length row.path.steps) (depth + 1)).0 e))
            where
              longer : (n : ℕ) → ¬ (depth + suc (suc n) ≡ depth + 1)
              longer n e = omega (arith, e)

      by : ((slice_get row.path.steps depth ≡ None) × (drop depth row.path.steps ≡ [])) ⊎ ((step : Step) × IsCut depth row.path.steps step) →
          (is_named tables node elem && meets tables elem (take depth row.path.steps) row) ≡ (ends depth row && fits tables elem row)
      by (inl (none, end)) = let clash : None ≡ Some node = sym (ap (option_map (λ step. step.node)) none) ∙ at_node in cc
      by (inr (step, cut)) = ended step (drop (suc depth) row.path.steps) cut.at cut.deep cut.whole

  -- what one element says, by its kind
  abbrev matches_there : ℕ → Elem → Bool
  matches_there depth elem = is_content_match elem && (ends depth row && is_of_text elem row)

  abbrev contains_there : ℕ → Elem → Bool
  contains_there depth elem = is_containment elem && within tables rows (depth + 1) row elem

  says_is : (depth node : ℕ) (elem : Elem) → node_at depth row ≡ Some node →
      (is_named tables node elem && says tables rows depth row elem)
      ≡ (is_named tables node elem && (matches_there depth elem || (contains_there depth elem || is_selection elem)))
  says_is depth node elem at_node = by (is_named tables node elem) refl (has_text elem.parts) (has_child elem.parts) (within tables rows (depth + 1) row elem)
    where
      by : (n : Bool) → is_named tables node elem ≡ n → (m c w : Bool) →
          (n && (if m then meets tables elem (take depth row.path.steps) row else (if c && not m then w else true)))
          ≡ (n && ((m && (ends depth row && is_of_text elem row)) || (((c && not m) && w) || (not m && not (c && not m)))))
      by false named m c w = refl
      by true named true true w = meets_is depth node elem at_node named ∙ sym (or_false (ends depth row && is_of_text elem row))
      by true named true false w = meets_is depth node elem at_node named ∙ sym (or_false (ends depth row && is_of_text elem row))
      by true named false true w = sym (or_false w)
      by true named false false w = refl

  abbrev named_ones : ℕ → List Elem → List Elem
  named_ones node level = filter (is_named tables node) level

  -- what the elements of a level say of the row, by their kinds
  picks_is : (depth node : ℕ) (level : List Elem) → node_at depth row ≡ Some node →
      picks_at tables rows depth level row node
      ≡ (is_matched (named_ones node level) depth row
      || (list_any (contains_there depth) (named_ones node level) || list_any is_selection (named_ones node level)))
  picks_is depth node level at_node =
      any_same (λ elem. is_named tables node elem && says tables rows depth row elem)
      (λ elem. is_named tables node elem && (matches_there depth elem || (contains_there depth elem || is_selection elem))) level
      (λ elem. says_is depth node elem at_node)
      ∙ sym (any_filter (λ elem. matches_there depth elem || (contains_there depth elem || is_selection elem)) (is_named tables node) level)
      ∙ any_or (matches_there depth) (λ elem. contains_there depth elem || is_selection elem) (named_ones node level)
      ∙ (λ i. matched i || any_or (contains_there depth) is_selection (named_ones node level) i)
    where
      turned : (m e t : Bool) → (m && (e && t)) ≡ (e && (m && t))
      turned true e t = refl
      turned false true t = refl
      turned false false t = refl

      matched : list_any (matches_there depth) (named_ones node level) ≡ is_matched (named_ones node level) depth row
      matched =
          any_same (matches_there depth) (λ elem. ends depth row && (is_content_match elem && is_of_text elem row)) (named_ones node level)
          (λ elem. turned (is_content_match elem) (ends depth row) (is_of_text elem row))
          ∙ any_and (ends depth row) (λ elem. is_content_match elem && is_of_text elem row) (named_ones node level)

  -- where a selection node is among the elements, and where none is
  pub picks_whole : (depth node : ℕ) (level : List Elem) → has_node depth node row ≡ true → list_any is_selection (named_ones node level) ≡ true → picks_at tables rows depth level row node ≡ true
  picks_whole depth node level has selection =
      picks_is depth node level (is_at (node_at depth row) has)
      ∙ ap (λ b. is_matched (named_ones node level) depth row || (list_any (contains_there depth) (named_ones node level) || b)) selection
      ∙ ap (λ b. is_matched (named_ones node level) depth row || b) (or_true (list_any (contains_there depth) (named_ones node level)))
      ∙ or_true (is_matched (named_ones node level) depth row)
    where
      is_at : (o : Option ℕ) → is_number o (Some node) ≡ true → o ≡ Some node
      is_at None e = let clash : false ≡ true = e in cc
      is_at (Some n) e = ap Some ((Decides-eqb n node).0 e)

  pub picks_parts : (depth node : ℕ) (level : List Elem) → has_node depth node row ≡ true → list_any is_selection (named_ones node level) ≡ false →
      picks_at tables rows depth level row node ≡ (is_matched (named_ones node level) depth row || list_any (contains_there depth) (named_ones node level))
  picks_parts depth node level has none =
      picks_is depth node level (is_at (node_at depth row) has)
      ∙ ap (λ b. is_matched (named_ones node level) depth row || (list_any (contains_there depth) (named_ones node level) || b)) none
      ∙ ap (λ b. is_matched (named_ones node level) depth row || b) (or_false (list_any (contains_there depth) (named_ones node level)))
    where
      is_at : (o : Option ℕ) → is_number o (Some node) ≡ true → o ≡ Some node
      is_at None e = let clash : false ≡ true = e in cc
      is_at (Some n) e = ap Some ((Decides-eqb n node).0 e)
