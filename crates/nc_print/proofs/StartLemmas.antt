-- Where a run of rows begins, none before it is at or below its node; and the rows of a run are.
use Rattle.std.proofs.Common.{◌≡◌, ◌≢◌, ◌⊎◌, ◌&&◌, not, ℕ, zero, suc, true, false, List, [], ◌∷◌, ◌++◌, length, Some, None, refl, sym, ap, subst, ◌∙◌, inl, inr, arith}
use Rattle.std.proofs.lemmas.Bool.Decides.{Decides-eqb}
use Rattle.std.proofs.lemmas.List.{append_assoc, append-nil}
use Rattle.std.proofs.lemmas.List.Elements.{Contains-push_cases}
use Rattle.std.specs.List.{Contains}
use Rattle.nc_names.specs.declared.path.Row.{Row}
use Rattle.nc_names.specs.declared.path.Step.{Step}
use Rattle.nc_schema.specs.Children.{is_same_number}
use Rattle.nc_schema.specs.Configuration.{IsDataTree}
use Rattle.nc_schema.specs.Tables.{Tables}
use Rattle.nc_schema.specs.declared.node.Kind.{Kind}
use Rattle.nc_schema.proofs.ProperLemmas.{HoldsNodes, HasProperNodes}
use Rattle.nc_protocol.proofs.Parts.{IsPartOf, pair_at, part_at}
use Rattle.nc_protocol.proofs.ListLemmas.{contains_here, contains_behind}
use Rattle.nc_protocol.proofs.PathViews.{IsLower, after_last}
use Rattle.nc_protocol.proofs.SiblingLemmas.{IsStepAt, path_step, together_at}
use Rattle.nc_protocol.specs.Printed.{ends_at, goes_on, node_at}
use Rattle.nc_print.proofs.CutLemmas.{Chain}
use Rattle.nc_print.proofs.StepLemmas.{ends_in, lower_step, node_there, goes_further, lower_is_later, same_step, path_of}

-- the row does not go on from the last of those before it, where that is at or below the same node
abbrev pub Begins : List Step → ℕ → List Row → Row → Type 0
Begins above depth before row =
    (front : List Row) (last : Row) → before ≡ front ++ last ∷ [] → IsLower last.path.steps above → goes_on depth last row ≡ false

-- none of the rows is at or below the node
abbrev pub Fresh : List Step → List Row → Type 0
Fresh path before = (row : Row) → Contains before row → ¬ IsLower row.path.steps path

module _ (tables : Tables) (proper : HasProperNodes tables) (rows : List Row) (tree : IsDataTree tables rows) where
  pub starts_fresh : (before after : List Row) (row : Row) (above : List Step) (depth : ℕ) (step : Step) → rows ≡ before ++ row ∷ after → length above ≡ depth →
      IsLower row.path.steps (above ++ step ∷ []) → Begins above depth before row → Fresh (above ++ step ∷ []) before
  starts_fresh before after row above depth step rows_are same lower begins other has below = by (ends_in before)
    where
      to_row : (last : Row) → Contains before last → IsPartOf (last ∷ row ∷ []) rows
      to_row last there = subst (λ (rs : List Row). IsPartOf (last ∷ row ∷ []) rs) (sym rows_are) (part_at before after last row there)

      no_last : (front : List Row) (last : Row) → before ≡ front ++ last ∷ [] → IsLower last.path.steps (above ++ step ∷ []) → ⊥
      no_last front last before_is (more, is) = go (lower_step above step row.path.steps lower)
        where
          mine : (rest : List Step) × (last.path.steps ≡ above ++ step ∷ rest)
          mine = lower_step above step last.path.steps (more, is)

          goes : goes_on depth last row ≡ false
          goes = begins front last before_is (step ∷ mine.0, mine.1)

          has_last : Contains before last
          has_last = subst (λ (rs : List Row). Contains rs last) (sym before_is) (contains_here front [] last)

          go : (rest : List Step) × (row.path.steps ≡ above ++ step ∷ rest) → ⊥
          go ([], row_is) =
              lower_is_later tables proper rows tree last row (to_row last has_last)
              (mine.0, mine.1 ∙ sym (append_assoc above (step ∷ []) mine.0) ∙ ap (λ (ss : List Step). ss ++ mine.0) (sym row_is))
          go (next ∷ rest, row_is) =
              let one : node_at depth last ≡ Some step.node = node_there above step mine.0 depth same last mine.1 in
              let two : node_at depth row ≡ Some step.node = node_there above step (next ∷ rest) depth same row row_is in
              let three : not (ends_at depth row) ≡ true = ap not (goes_further above step next rest depth same row row_is) in
              let four : is_same_number (Some step.node) (Some step.node) ≡ true = (Decides-eqb step.node step.node).1 refl in
              let clash : true ≡ false = sym ((λ i. is_same_number (one i) (two i) && three i) ∙ ap (λ b. b && true) four) ∙ goes in
              cc

      by : (before ≡ []) ⊎ ((front : List Row) × (last : Row) × (before ≡ front ++ last ∷ [])) → ⊥
      by (inl none) = let gone : Contains [] other = subst (λ (rs : List Row). Contains rs other) none has in omega (arith, gone.1)
      by (inr (front, last, is)) = here (Contains-push_cases front last other (subst (λ (rs : List Row). Contains rs other) is has))
        where
          here : Contains front other ⊎ (last ≡ other) → ⊥
          here (inr same_row) = no_last front last is (subst (λ (r : Row). IsLower r.path.steps (above ++ step ∷ [])) (sym same_row) below)
          here (inl earlier) =
              no_last front last is
              (together_at rows other last row (above ++ step ∷ []) tree.together
              (subst (λ (rs : List Row). IsPartOf (other ∷ last ∷ row ∷ []) rs) (sym (rows_are ∙ ap (λ (rs : List Row). rs ++ row ∷ after) is ∙ append_assoc front (last ∷ []) (row ∷ after)))
              (in_order front earlier))
              below lower)
            where
              part_here : (front : List Row) → IsPartOf (last ∷ row ∷ []) (front ++ last ∷ row ∷ after)
              part_here [] = inl (refl, inl (refl, tt))
              part_here (y ∷ front) = inr (part_here front)

              in_order : (front : List Row) → Contains front other → IsPartOf (other ∷ last ∷ row ∷ []) (front ++ last ∷ row ∷ after)
              in_order [] (k, within, found) = absurd (omega (arith, within))
              in_order (x ∷ front) (zero, within, found) = inl (sym found, part_here front)
              in_order (x ∷ front) (suc k, within, found) = inr (in_order front (k, omega (arith, within), found))

  -- the rows of a run stand at or below the node of the first
  pub run_lower : (before after : List Row) (row : Row) (more : List Row) (above : List Step) (depth : ℕ) (step : Step) → rows ≡ before ++ row ∷ (more ++ after) → length above ≡ depth →
      ((r : Row) → Contains (row ∷ more) r → IsLower r.path.steps above) → Chain (goes_on depth) row more → IsLower row.path.steps (above ++ step ∷ []) →
      (r : Row) → Contains (row ∷ more) r → IsLower r.path.steps (above ++ step ∷ [])
  run_lower before after row [] above depth step rows_are same below chain lower r (zero, within, here) = subst (λ (x : Row). IsLower x.path.steps (above ++ step ∷ [])) here lower
  run_lower before after row [] above depth step rows_are same below chain lower r (suc k, within, here) = absurd (omega (arith, within))
  run_lower before after row (next ∷ more) above depth step rows_are same below chain lower r (zero, within, here) = subst (λ (x : Row). IsLower x.path.steps (above ++ step ∷ [])) here lower
  run_lower before after row (next ∷ more) above depth step rows_are same below chain lower r (suc k, within, here) =
      run_lower (before ++ row ∷ []) after next more above depth step (rows_are ∙ sym (append_assoc before (row ∷ []) (next ∷ (more ++ after)))) same
      (λ x has. below x (contains_behind row (next ∷ more) x has)) chain.1
      (same_step tables proper rows tree before (more ++ after) row next above depth step rows_are same (below next (1, omega arith, refl)) chain.0 lower)
      r (k, omega (arith, within), here)

  -- no row goes on below a leaf or a leaf-list entry
  pub none_below : (row : Row) (above : List Step) (step : Step) (kind : Kind) (at : IsStepAt tables above step) → Contains rows row → at.node.kind ≡ kind → ¬ HoldsNodes kind →
      IsLower row.path.steps (above ++ step ∷ []) → row.path.steps ≡ above ++ step ∷ []
  none_below row above step kind at has kind_is holds_none ([], is) = is ∙ append-nil (above ++ step ∷ [])
  none_below row above step kind at has kind_is holds_none (next ∷ rest, is) =
      let next_at = path_step tables row.path (above ++ step ∷ []) next rest (path_of tables proper rows tree row has) is in
      absurd (holds_none (subst HoldsNodes kind_is (proper.parents next.node step.node next_at.node at.node next_at.node_is (next_at.parent ∙ after_last None above step) at.node_is)))

  -- a run at such a node is that row alone
  pub run_alone : (before after : List Row) (row : Row) (more : List Row) (path : List Step) → rows ≡ before ++ row ∷ (more ++ after) →
      ((r : Row) → Contains (row ∷ more) r → r.path.steps ≡ path) → more ≡ []
  run_alone before after row [] path rows_are each = refl
  run_alone before after row (next ∷ more) path rows_are each =
      absurd (pair_at (λ (one other : Row). one.path ≢ other.path) rows row next tree.distinct
      (subst (λ (rs : List Row). IsPartOf (row ∷ next ∷ []) rs) (sym rows_are) (part_here before))
      (λ i. record { steps = (each row (0, omega arith, refl) ∙ sym (each next (1, omega arith, refl))) i }))
    where
      part_here : (front : List Row) → IsPartOf (row ∷ next ∷ []) (front ++ row ∷ next ∷ (more ++ after))
      part_here [] = inl (refl, inl (refl, tt))
      part_here (y ∷ front) = inr (part_here front)
