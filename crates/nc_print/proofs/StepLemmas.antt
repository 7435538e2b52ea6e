-- The rows of a run stand at or below one node, and none before it does.
use Rattle.std.proofs.Common.{◌≡◌, ◌≢◌, ◌⊎◌, ◌==◌, ◌+◌, not, ℕ, zero, suc, Bool, true, false, List, [], ◌∷◌, ◌++◌, length, Some, None, refl, sym, ap, subst, ◌∙◌, inl, inr, arith}
use Rattle.std.proofs.lemmas.Bool.Decides.{Decides-eqb}
use Rattle.std.proofs.lemmas.List.{append_assoc, append-nil, nil_from_length}
use Rattle.std.proofs.lemmas.List.Elements.{Contains-push_cases}
use Rattle.std.specs.Prelude.{slice_get, option_map}
use Rattle.std.specs.List.{Contains}
use Rattle.nc_names.specs.declared.path.Row.{Row}
use Rattle.nc_names.specs.declared.path.Step.{Step}
use Rattle.nc_names.proofs.SameLemmas.{first_true, second_true}
use Rattle.nc_schema.specs.Children.{is_same_number}
use Rattle.nc_schema.specs.Configuration.{IsDataTree, StandsForItself}
use Rattle.nc_schema.specs.Order.{IsBefore, StepsBefore}
use Rattle.nc_schema.specs.Paths.{IsPathOf, key_count}
use Rattle.nc_schema.specs.Tables.{Tables}
use Rattle.nc_schema.specs.declared.node.Kind.{Kind}
use Rattle.nc_schema.specs.declared.node.Kind.TheVariants.{Container, Leaf, LeafList, List as ListKind}
use Rattle.nc_schema.specs.declared.node.Node.{Node}
use Rattle.nc_schema.proofs.ProperLemmas.{HoldsNodes, HasProperNodes}
use Rattle.nc_protocol.proofs.ListLemmas.{some_same, contains_here}
use Rattle.nc_protocol.proofs.Parts.{IsPartOf, all_at, pair_at}
use Rattle.nc_protocol.proofs.PathViews.{IsLower, after_last, higher_order}
use Rattle.nc_protocol.proofs.SiblingLemmas.{IsStepAt, path_step, together_at}
use Rattle.nc_protocol.specs.Printed.{ends_at, goes_on, node_at}

-- ---- steps of a path by their depth
pub step_there : (above : List Step) (step : Step) (rest : List Step) (depth : ℕ) → length above ≡ depth → slice_get (above ++ step ∷ rest) depth ≡ Some step
step_there [] step rest zero same = refl
step_there [] step rest (suc depth) same = absurd (omega (arith, same))
step_there (x ∷ above) step rest zero same = absurd (omega (arith, same))
step_there (x ∷ above) step rest (suc depth) same = step_there above step rest depth (omega (arith, same))

pub step_past : (above : List Step) (depth : ℕ) → length above ≡ depth → slice_get (above ++ []) depth ≡ None
step_past [] zero same = refl
step_past [] (suc depth) same = absurd (omega (arith, same))
step_past (x ∷ above) zero same = absurd (omega (arith, same))
step_past (x ∷ above) (suc depth) same = step_past above depth (omega (arith, same))

pub length_there : (above : List Step) (step : Step) (rest : List Step) (depth : ℕ) → length above ≡ depth → length (above ++ step ∷ rest) ≡ depth + 1 + length rest
length_there [] step rest depth same = omega (arith, same)
length_there (x ∷ above) step rest zero same = absurd (omega (arith, same))
length_there (x ∷ above) step rest (suc depth) same = let inner = length_there above step rest depth (omega (arith, same)) in omega (arith, inner)

pub ends_there : (above : List Step) (step : Step) (depth : ℕ) → length above ≡ depth → (row : Row) → row.path.steps ≡ above ++ step ∷ [] → ends_at depth row ≡ true
ends_there above step depth same row is =
    (Decides-eqb (length row.path.steps) (depth + 1)).1 (let long = length_there above step [] depth same in let here = ap (λ (ss : List Step). length ss) is in omega (arith, long, here))

differs : (a b : ℕ) → a ≢ b → (a == b) ≡ false
differs a b apart = by (a == b) refl
  where
    by : (t : Bool) → (a == b) ≡ t → (a == b) ≡ false
    by true e = absurd (apart ((Decides-eqb a b).0 e))
    by false e = e

pub goes_further : (above : List Step) (step next : Step) (rest : List Step) (depth : ℕ) → length above ≡ depth → (row : Row) → row.path.steps ≡ above ++ step ∷ next ∷ rest → ends_at depth row ≡ false
goes_further above step next rest depth same row is =
    differs (length row.path.steps) (depth + 1)
    (λ e. let long = length_there above step (next ∷ rest) depth same in let here = ap (λ (ss : List Step). length ss) is in omega (arith, long, here, e))

pub node_there : (above : List Step) (step : Step) (rest : List Step) (depth : ℕ) → length above ≡ depth → (row : Row) → row.path.steps ≡ above ++ step ∷ rest → node_at depth row ≡ Some step.node
node_there above step rest depth same row is = ap (λ (ss : List Step). option_map (λ (s : Step). s.node) (slice_get ss depth)) is ∙ ap (option_map (λ (s : Step). s.node)) (step_there above step rest depth same)

-- ---- lists that end
pub ends_in : {X : Type 0} (xs : List X) → (xs ≡ []) ⊎ ((front : List X) × (x : X) × (xs ≡ front ++ x ∷ []))
ends_in [] = inl refl
ends_in {X} (x ∷ xs) = by (ends_in xs)
  where
    by : (xs ≡ []) ⊎ ((front : List X) × (last : X) × (xs ≡ front ++ last ∷ [])) → (x ∷ xs ≡ []) ⊎ ((front : List X) × (last : X) × (x ∷ xs ≡ front ++ last ∷ []))
    by (inl none) = inr ([], x, ap (λ rest. x ∷ rest) none)
    by (inr (front, last, is)) = inr (x ∷ front, last, ap (λ rest. x ∷ rest) is)

pub lower_step : (above : List Step) (step : Step) (path : List Step) → IsLower path (above ++ step ∷ []) → (rest : List Step) × (path ≡ above ++ step ∷ rest)
lower_step above step path (rest, is) = (rest, is ∙ append_assoc above (step ∷ []) rest)

pub step_lower : (above : List Step) (step : Step) (rest path : List Step) → path ≡ above ++ step ∷ rest → IsLower path (above ++ step ∷ [])
step_lower above step rest path is = (rest, is ∙ sym (append_assoc above (step ∷ []) rest))

module _ (tables : Tables) (proper : HasProperNodes tables) (rows : List Row) (tree : IsDataTree tables rows) where
  pub path_of : (row : Row) → Contains rows row → IsPathOf tables row.path
  path_of row has = all_at (λ (r : Row). IsPathOf tables r.path) rows row tree.paths has

  -- a row is not before one at or above it
  pub lower_is_later : (row later : Row) → IsPartOf (row ∷ later ∷ []) rows → ¬ IsLower row.path.steps later.path.steps
  lower_is_later row later part ([], is) = pair_at (λ (one other : Row). one.path ≢ other.path) rows row later tree.distinct part (λ i. record { steps = (is ∙ append-nil later.path.steps) i })
  lower_is_later row later part (next ∷ rest, is) =
      pair_at (λ (one other : Row). ¬ IsBefore tables other.path one.path) rows row later tree.ordered part
      (subst (λ (ss : List Step). StepsBefore tables None later.path.steps ss) (sym is) (higher_order tables None later.path.steps next rest))

  -- a row goes on through the step of the row before it
  pub same_step : (first last : List Row) (row next : Row) (above : List Step) (depth : ℕ) (step : Step) → rows ≡ first ++ row ∷ next ∷ last → length above ≡ depth →
      IsLower next.path.steps above → goes_on depth row next ≡ true → IsLower row.path.steps (above ++ step ∷ []) → IsLower next.path.steps (above ++ step ∷ [])
  same_step first last row next above depth step rows_are same (rest, below) goes lower = by rest below
    where
      mine : (more : List Step) × (row.path.steps ≡ above ++ step ∷ more)
      mine = lower_step above step row.path.steps lower

      numbers : is_same_number (node_at depth row) (node_at depth next) ≡ true
      numbers = first_true _ _ goes

      has_row : Contains rows row
      has_row = subst (λ (rs : List Row). Contains rs row) (sym rows_are) (contains_here first (next ∷ last) row)

      after : rows ≡ (first ++ row ∷ []) ++ next ∷ last
      after = rows_are ∙ sym (append_assoc first (row ∷ []) (next ∷ last))

      has_next : Contains rows next
      has_next = subst (λ (rs : List Row). Contains rs next) (sym after) (contains_here (first ++ row ∷ []) last next)

      by : (rest : List Step) → next.path.steps ≡ above ++ rest → IsLower next.path.steps (above ++ step ∷ [])
      by [] is =
          let none : node_at depth next ≡ None = ap (λ (ss : List Step). option_map (λ (s : Step). s.node) (slice_get ss depth)) is ∙ ap (option_map (λ (s : Step). s.node)) (step_past above depth same) in
          let some : node_at depth row ≡ Some step.node = node_there above step mine.0 depth same row mine.1 in
          let clash : false ≡ true = (λ i. is_same_number (sym some i) (sym none i)) ∙ numbers in
          cc
      by (other ∷ []) is =
          let ended : not (ends_at depth next) ≡ false = ap not (ends_there above other depth same next is) in
          let clash : false ≡ true = sym ended ∙ second_true (is_same_number (node_at depth row) (node_at depth next)) (not (ends_at depth next)) goes in
          cc
      by (other ∷ over ∷ beyond) is =
          step_lower above step (over ∷ beyond) next.path.steps (is ∙ ap (λ s. above ++ s ∷ over ∷ beyond) (sym (kinds other_at.node.kind refl)))
        where
          same_number : step.node ≡ other.node
          same_number =
              let some : node_at depth row ≡ Some step.node = node_there above step mine.0 depth same row mine.1 in
              let there : node_at depth next ≡ Some other.node = node_there above other (over ∷ beyond) depth same next is in
              (Decides-eqb step.node other.node).0 ((λ i. is_same_number (sym some i) (sym there i)) ∙ numbers)

          step_at : IsStepAt tables above step
          step_at = path_step tables row.path above step mine.0 (path_of row has_row) mine.1

          other_at : IsStepAt tables above other
          other_at = path_step tables next.path above other (over ∷ beyond) (path_of next has_next) is

          over_at : IsStepAt tables (above ++ other ∷ []) over
          over_at = path_step tables next.path (above ++ other ∷ []) over beyond (path_of next has_next) (is ∙ sym (append_assoc above (other ∷ []) (over ∷ beyond)))

          holds : HoldsNodes other_at.node.kind
          holds = proper.parents over.node other.node over_at.node other_at.node over_at.node_is (over_at.parent ∙ after_last None above other) other_at.node_is

          same_node : step_at.node ≡ other_at.node
          same_node = some_same _ _ (sym step_at.node_is ∙ ap (slice_get tables.nodes) same_number ∙ other_at.node_is)

          entry : Row
          entry = record { path = record { steps = above ++ other ∷ [] }; value = None }

          kinds : (kind : Kind) → other_at.node.kind ≡ kind → step ≡ other
          kinds (Container presence) is_kind = λ i. record { node = same_number i; keys = (none step step_at.node (ap (λ (n : Node). n.kind) same_node ∙ is_kind) step_at.keys ∙ sym (none other other_at.node is_kind other_at.keys)) i }
            where
              none : (s : Step) (n : Node) → n.kind ≡ Container presence → length s.keys ≡ key_count n.kind (length n.keys) → s.keys ≡ []
              none s n kind keys = nil_from_length s.keys (keys ∙ ap (λ k. key_count k (length n.keys)) kind)
          kinds Leaf is_kind = absurd (subst HoldsNodes is_kind holds)
          kinds LeafList is_kind = absurd (subst HoldsNodes is_kind holds)
          kinds ListKind is_kind = found (Contains-push_cases first row entry (tree.ancestors (first ++ row ∷ []) last next above other over beyond other_at.node after is (above ++ other ∷ [], refl) other_at.node_is (subst StandsForItself (sym is_kind) tt)))
            where
              heads : IsLower row.path.steps (above ++ other ∷ []) → step ≡ other
              heads low = let there = lower_step above other row.path.steps low in some_same _ _ (sym (step_there above step mine.0 depth same) ∙ ap (λ (ss : List Step). slice_get ss depth) (sym mine.1 ∙ there.1) ∙ step_there above other there.0 depth same)

              next_low : IsLower next.path.steps (above ++ other ∷ [])
              next_low = step_lower above other (over ∷ beyond) next.path.steps is

              found : Contains first entry ⊎ (row ≡ entry) → step ≡ other
              found (inr is_row) = heads ([], ap (λ (r : Row). r.path.steps) is_row ∙ sym (append-nil (above ++ other ∷ [])))
              found (inl has) =
                  heads (together_at rows entry row next (above ++ other ∷ []) tree.together
                  (subst (λ (rs : List Row). IsPartOf (entry ∷ row ∷ next ∷ []) rs) (sym rows_are) (in_order first has))
                  ([], sym (append-nil (above ++ other ∷ []))) next_low)
                where
                  in_order : (front : List Row) → Contains front entry → IsPartOf (entry ∷ row ∷ next ∷ []) (front ++ row ∷ next ∷ last)
                  in_order [] (k, within, here) = absurd (omega (arith, within))
                  in_order (x ∷ front) (zero, within, here) = inl (sym here, part_here front)
                    where
                      part_here : (front : List Row) → IsPartOf (row ∷ next ∷ []) (front ++ row ∷ next ∷ last)
                      part_here [] = inl (refl, inl (refl, tt))
                      part_here (y ∷ front) = inr (part_here front)
                  in_order (x ∷ front) (suc k, within, here) = inr (in_order front (k, omega (arith, within), here))
