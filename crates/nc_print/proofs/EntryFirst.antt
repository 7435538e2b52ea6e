-- In the element of an entry its keys stand first.
use Rattle.std.proofs.Common.{◌≡◌, ◌+◌, ℕ, suc, List, [], ◌∷◌, ◌++◌, length, Some, None, sym, ap, subst, ◌∙◌}
use Rattle.std.proofs.lemmas.List.{append_assoc, append-nil}
use Rattle.std.proofs.lemmas.List.Elements.{Contains-append_left, Contains-append_right}
use Rattle.std.specs.Prelude.{slice_get}
use Rattle.std.specs.List.{Contains, flat_map}
use Rattle.nc_names.specs.declared.path.Row.{Row}
use Rattle.nc_names.specs.declared.path.Step.{Step}
use Rattle.nc_message.specs.declared.tree.Part.{Part}
use Rattle.nc_schema.specs.Configuration.{IsDataTree, key_rows}
use Rattle.nc_schema.specs.Tables.{Tables}
use Rattle.nc_schema.specs.declared.node.Node.{Node}
use Rattle.nc_schema.proofs.ProperLemmas.{HasProperNodes}
use Rattle.nc_protocol.proofs.ListLemmas.{no_element, heads_same, tails_same}
use Rattle.nc_protocol.proofs.PathViews.{IsLower, node_after}
use Rattle.nc_protocol.specs.Printed.{cut, goes_on, own_value, parts_at, run_parts, step_parts}
use Rattle.nc_print.specs.Laws.{key_parts}
use Rattle.nc_print.proofs.CutLemmas.{WellCut, joined, cut_is_well, cut_is_whole}
use Rattle.nc_print.proofs.KeysFirst.{keys_walk, own_alone}
use Rattle.nc_print.proofs.StepLemmas.{step_past}

module _ (tables : Tables) (proper : HasProperNodes tables) (rows : List Row) (tree : IsDataTree tables rows) where
  module _ (path : List Step) (depth levels : ℕ) (same : length path ≡ depth) (number : ℕ) (node : Node) (last : node_after None path ≡ Some number) (node_is : slice_get tables.nodes number ≡ Some node) where
    pub entry_parts : (before rest : List Row) (row : Row) (more : List Row) (values : List (List ℕ)) (left : List Row) → rows ≡ before ++ row ∷ (more ++ rest) → row.path.steps ≡ path →
        ((r : Row) → Contains (row ∷ more) r → IsLower r.path.steps path) → more ≡ key_rows path node.keys values ++ left →
        (others : List Part) × (parts_at tables (suc levels) depth (row ∷ more) ≡ key_parts tables node.keys values ++ others)
    entry_parts before rest row more values left rows_are is below keys_are =
        go (cut (goes_on depth) (row ∷ more)) (cut_is_well (goes_on depth) (row ∷ more)) (cut_is_whole (goes_on depth) (row ∷ more))
      where
        f : List Row → List Part
        f = run_parts tables (parts_at tables levels (depth + 1)) depth

        own : (ns : List Row) → ns ≡ row ∷ [] → run_parts tables (parts_at tables levels (depth + 1)) depth ns ≡ []
        own ns ns_are =
            ap (run_parts tables (parts_at tables levels (depth + 1)) depth) ns_are
            ∙ ap (step_parts tables (own_value depth row) (parts_at tables levels (depth + 1) (row ∷ [])))
            (ap (λ (ss : List Step). slice_get ss depth) (is ∙ sym (append-nil path)) ∙ step_past path depth same)

        go : (runs : List (List Row)) → WellCut (goes_on depth) runs → joined runs ≡ row ∷ more →
            (others : List Part) × (flat_map (run_parts tables (parts_at tables levels (depth + 1)) depth) runs ≡ key_parts tables node.keys values ++ others)
        go [] well whole = absurd (no_element [] more row whole)
        go ([] ∷ later) well whole = absurd well
        go ((first ∷ ns) ∷ later) well whole =
            (walked.0, (λ i. own (first ∷ ns) (λ j. first_is j ∷ alone j) i ++ flat_map (run_parts tables (parts_at tables levels (depth + 1)) depth) later) ∙ walked.1)
          where
            first_is : first ≡ row
            first_is = heads_same first row _ _ whole

            rest_is : ns ++ joined later ≡ more
            rest_is = tails_same first row _ _ whole

            split_is : rows ≡ before ++ first ∷ (ns ++ (joined later ++ rest))
            split_is = rows_are ∙ (λ i. before ++ sym first_is i ∷ (sym rest_is i ++ rest)) ∙ ap (λ rs. before ++ first ∷ rs) (append_assoc ns (joined later) rest)

            lower : (r : Row) → Contains (first ∷ (ns ++ joined later)) r → IsLower r.path.steps path
            lower r has = below r (subst (λ (rs : List Row). Contains rs r) whole has)

            alone : ns ≡ []
            alone = own_alone tables proper rows tree before (joined later ++ rest) first ns path depth split_is same (ap (λ (r : Row). r.path.steps) first_is ∙ is)
                (λ r has. lower r (Contains-append_left (first ∷ ns) (joined later) r has)) well.0

            walked : (others : List Part) × (flat_map (run_parts tables (parts_at tables levels (depth + 1)) depth) later ≡ key_parts tables node.keys values ++ others)
            walked = keys_walk tables proper rows tree path depth levels same number node last node_is (before ++ first ∷ []) rest later node.keys values left well.2
                (split_is ∙ ap (λ rs. before ++ first ∷ (rs ++ (joined later ++ rest))) alone ∙ sym (append_assoc before (first ∷ []) (joined later ++ rest)))
                (ap (λ rs. rs ++ joined later) (sym alone) ∙ rest_is ∙ keys_are)
                (λ r has. lower r (Contains-append_right (first ∷ ns) (joined later) r has))
                (λ key has. has)
