-- In a data tree what is above each row stands, and no two rows are of two cases of a choice.
use Rattle.std.proofs.Common.{◌≡◌, ◌&&◌, zero, suc, Bool, true, false, not, List, [], ◌∷◌, ◌++◌, Option, Some, None, refl, sym, ap, subst, ◌∙◌, arith}
use Rattle.std.proofs.lemmas.List.{append_assoc}
use Rattle.std.proofs.lemmas.List.Folds.{list_any_none}
use Rattle.std.specs.Cmp.Lexicographic.{pointwise_decides}
use Rattle.std.specs.List.{All, Contains, list_any}
use Rattle.std.specs.Option.{option_map_or}
use Rattle.std.specs.Prelude.{map, option_and_then, slice_get, if◌then◌else◌}
use Rattle.nc_names.specs.Same.{is_same_path, is_same_step}
use Rattle.nc_names.specs.declared.path.Row.{Row}
use Rattle.nc_names.specs.declared.path.Step.{Step}
use Rattle.nc_names.proofs.SameLemmas.{step_decide}
use Rattle.nc_schema.specs.Configuration.{IsDataTree, StandsForItself}
use Rattle.nc_schema.specs.Kinds.{stands_for_itself}
use Rattle.nc_schema.specs.Standing.{node_of, has_row, above_of, lacks_above, excludes, cases_differ, cases_of}
use Rattle.nc_schema.specs.Tables.{Tables}
use Rattle.nc_schema.specs.declared.node.Kind.{Kind}
use Rattle.nc_schema.specs.declared.node.Kind.TheVariants.{Container, Leaf, LeafList, List as ListKind}
use Rattle.nc_schema.specs.declared.node.Node.{Node}
use Rattle.nc_protocol.specs.Laws.{RowsStandWhole}
use Rattle.nc_protocol.proofs.CaseLemmas.{cases_agree, from_cases}
use Rattle.nc_protocol.proofs.ListLemmas.{none_passes}
use Rattle.nc_protocol.proofs.OwnLemmas.{HasLast, last_found}
use Rattle.nc_protocol.proofs.Parts.{all_from, part_first}
use Rattle.nc_protocol.proofs.PlaceLemmas.{last_of}
use Rattle.nc_protocol.proofs.SiblingLemmas.{ancestor}

passes : {X : Type 0} (p : X → Bool) (xs : List X) (x : X) → Contains xs x → p x ≡ true → list_any p xs ≡ true
passes p xs x has is = by (list_any p xs) refl
  where
    by : (found : Bool) → list_any p xs ≡ found → found ≡ true
    by true e = refl
    by false e = let clash : false ≡ true = sym (none_passes p xs x e has) ∙ is in cc

-- a node above a path is a beginning of it
abbrev IsBeginning : List Step → List Step → Type 0
IsBeginning steps above = (next : Step) × (rest : List Step) × (steps ≡ above ++ next ∷ rest)

above_begins : (steps above : List Step) → Contains (above_of steps) above → IsBeginning steps above
above_begins [] above (k, within, here) = absurd (omega (arith, within))
above_begins (step ∷ steps) above (zero, within, here) = (step, steps, ap (λ ss. ss ++ step ∷ steps) here)
above_begins (step ∷ steps) above (suc k, within, here) = by (above_begins steps) (mapped (above_of steps) (k, omega (arith, within), here))
  where
    mapped : (found : List (List Step)) → Contains (map (λ ss. step ∷ ss) found) above → (over : List Step) × Contains found over × (step ∷ over ≡ above)
    mapped [] (j, inside, there) = absurd (omega (arith, inside))
    mapped (over ∷ found) (zero, inside, there) = (over, (0, omega arith, refl), there)
    mapped (over ∷ found) (suc j, inside, there) =
        let more = mapped found (j, omega (arith, inside), there) in
        (more.0, (suc more.1.0, omega (arith, more.1.1), more.1.2), more.2)

    by : ((over : List Step) → Contains (above_of steps) over → IsBeginning steps over) →
        (over : List Step) × Contains (above_of steps) over × (step ∷ over ≡ above) → IsBeginning (step ∷ steps) above
    by below (over, has, is) = let begun = below over has in (begun.0, begun.1, ap (λ ss. step ∷ ss) begun.2 ∙ ap (λ ss. ss ++ begun.0 ∷ begun.1) is)

itself_from : (kind : Kind) → stands_for_itself kind ≡ true → StandsForItself kind
itself_from (Container presence) e = e
itself_from Leaf e = cc
itself_from LeafList e = cc
itself_from ListKind e = tt

both : (a b : Bool) → (a ≡ true → b ≡ true) → (a && not b) ≡ false
both false b e = refl
both true true e = refl
both true false e = let clash : false ≡ true = e refl in cc

nothing_lacks : (tables : Tables) (rows : List Row) → IsDataTree tables rows → All (λ row. lacks_above tables rows row.path.steps ≡ false) rows
nothing_lacks tables rows tree = all_from (λ row. lacks_above tables rows row.path.steps ≡ false) rows
    (λ row has. list_any_none (lacks row) (above_of row.path.steps) (all_from (λ above. lacks row above ≡ false) (above_of row.path.steps)
    (λ above is. stands row has above (above_begins row.path.steps above is))))
  where
    lacks : Row → List Step → Bool
    lacks row above = option_map_or (λ node. stands_for_itself node.kind) (node_of tables above) false && not (has_row rows above)

    itself : (row : Row) → Contains rows row → (over : List Step) (step next : Step) (rest : List Step) → row.path.steps ≡ (over ++ step ∷ []) ++ next ∷ rest →
        (found : Option Node) → slice_get tables.nodes step.node ≡ found → option_map_or (λ node. stands_for_itself node.kind) found false ≡ true → has_row rows (over ++ step ∷ []) ≡ true
    itself row has over step next rest is None found e = cc
    itself row has over step next rest is (Some node) found e =
        let part = ancestor tables rows row over step next rest node tree has (is ∙ append_assoc over (step ∷ []) (next ∷ rest)) found (itself_from node.kind e) in
        passes (λ other. is_same_path other.path.steps (over ++ step ∷ [])) rows (record { path = record { steps = over ++ step ∷ [] }; value = None })
        (part_first _ row rows part) ((pointwise_decides step_decide (over ++ step ∷ []) (over ++ step ∷ [])).1 refl)

    stands : (row : Row) → Contains rows row → (above : List Step) → IsBeginning row.path.steps above →
        option_map_or (λ node. stands_for_itself node.kind) (node_of tables above) false && not (has_row rows above) ≡ false
    stands row has [] begun = refl
    stands row has (first ∷ more) (next, rest, is) = by (last_found (first ∷ more) (λ e. cc))
      where
        by : HasLast (first ∷ more) →
            option_map_or (λ node. stands_for_itself node.kind) (node_of tables (first ∷ more)) false && not (has_row rows (first ∷ more)) ≡ false
        by last =
            let goal : List Step → Type 0 = λ above. option_map_or (λ node. stands_for_itself node.kind) (node_of tables above) false && not (has_row rows above) ≡ false in
            subst goal (sym last.is)
            (ap (λ o. option_map_or (λ node. stands_for_itself node.kind) (option_and_then (λ s. slice_get tables.nodes s.node) o) false && not (has_row rows (last.above ++ last.step ∷ []))) (last_of None last.above last.step)
            ∙ both _ _ (itself row has last.above last.step next rest (is ∙ ap (λ ss. ss ++ next ∷ rest) last.is) (slice_get tables.nodes last.step.node) refl))

nothing_excludes : (tables : Tables) (rows : List Row) → IsDataTree tables rows → (row other : Row) → Contains rows row → Contains rows other →
    excludes tables row.path.steps other.path.steps ≡ false
nothing_excludes tables rows tree row other has has_other = go [] row.path.steps other.path.steps refl refl
  where
    go : (above steps others : List Step) → row.path.steps ≡ above ++ steps → other.path.steps ≡ above ++ others → excludes tables steps others ≡ false
    go above [] others one two = refl
    go above (step ∷ steps) [] one two = refl
    go above (step ∷ steps) (beside ∷ others) one two = by (go (above ++ step ∷ []) steps others) (is_same_step step beside) refl
      where
        by : (row.path.steps ≡ (above ++ step ∷ []) ++ steps → other.path.steps ≡ (above ++ step ∷ []) ++ others → excludes tables steps others ≡ false) →
            (same : Bool) → is_same_step step beside ≡ same → (if same then excludes tables steps others else cases_differ (cases_of tables step.node) (cases_of tables beside.node)) ≡ false
        by below true e =
            below (one ∙ sym (append_assoc above (step ∷ []) steps))
            (two ∙ ap (λ (s : Step). above ++ s ∷ others) (sym ((step_decide step beside).0 e)) ∙ sym (append_assoc above (step ∷ []) others))
        by below false e = cases_agree (cases_of tables step.node) (cases_of tables beside.node)
            (λ choice case another there here. tree.cases row other above steps others step beside choice case another has has_other one two
            (from_cases tables step.node choice case there) (from_cases tables beside.node choice another here))

pub rows_stand_whole : RowsStandWhole
rows_stand_whole = record { above = nothing_lacks; cases = nothing_excludes }
