-- What is printed is elements alone, and a row has none below its own.
use Rattle.std.proofs.Common.{◌≡◌, ◌||◌, ◌+◌, ◌++◌, ◌∙◌, not, ℕ, zero, suc, Bool, false, List, [], ◌∷◌, Option, Some, None, refl, ap}
use Rattle.std.specs.Prelude.{slice_get}
use Rattle.std.specs.List.{flat_map, list_any}
use Rattle.std.specs.Option.{option_map_or}
use Rattle.std.proofs.lemmas.List.Folds.{list_any-append}
use Rattle.std.proofs.lemmas.Option.{slice_get_past}
use denote.Hole.Carrier.{hidden}
use Rattle.nc_names.specs.Signs.{is_white}
use Rattle.nc_names.specs.declared.path.Row.{Row}
use Rattle.nc_names.specs.declared.path.Step.{Step}
use Rattle.nc_message.specs.declared.tree.Elem.{Elem}
use Rattle.nc_message.specs.declared.tree.Part.{Part}
use Rattle.nc_message.specs.declared.tree.Part.TheBlock.{hidden-the_row-Part-0, hidden-the_row-Elem-1}
use Rattle.nc_message.specs.declared.tree.Part.TheVariants.{Child}
use Rattle.nc_schema.specs.Tables.{Tables}
use Rattle.nc_schema.specs.declared.node.Node.{Node}
use Rattle.nc_protocol.specs.Elements.{has_text, text_of}
use Rattle.nc_protocol.specs.Printed.{cut, goes_on, node_part, own_value, parts_at, run_parts, step_parts}
use Rattle.nc_print.specs.Laws.{PrintedHoldsNoText, NothingBelowItsEnd, printed_elem}

no_text_in_child : (e : Elem) → text_of (Child e) ≡ []
unfolding hidden-the_row-Part-0 hidden-the_row-Elem-1 hidden
no_text_in_child e = refl

abbrev has_sign : Part → Bool
has_sign part = list_any (λ sign. not (is_white sign)) (text_of part)

child_is_textless : (e : Elem) → has_text (Child e ∷ []) ≡ false
child_is_textless e = ap (λ text. list_any (λ sign. not (is_white sign)) text || false) (no_text_in_child e)

joined_textless : (xs ys : List Part) → has_text xs ≡ false → has_text ys ≡ false → has_text (xs ++ ys) ≡ false
joined_textless xs ys p q = list_any-append has_sign xs ys ∙ ap (λ b. b || list_any has_sign ys) p ∙ q

each_textless : (f : List Row → List Part) → ((run : List Row) → has_text (f run) ≡ false) → (runs : List (List Row)) →
    has_text (flat_map f runs) ≡ false
each_textless f none [] = refl
each_textless f none (run ∷ runs) = joined_textless (f run) (flat_map f runs) (none run) (each_textless f none runs)

node_textless : (tables : Tables) (number : ℕ) (value : Option (List ℕ)) (below : List Part) (found : Option Node) →
    has_text (option_map_or (λ node. node_part tables number value below node ∷ []) found []) ≡ false
node_textless tables number value below None = refl
node_textless tables number value below (Some node) = child_is_textless (printed_elem tables number value below node)

step_textless : (tables : Tables) (value : Option (List ℕ)) (below : List Part) (found : Option Step) →
    has_text (step_parts tables value below found) ≡ false
step_textless tables value below None = refl
step_textless tables value below (Some step) = node_textless tables step.node value below (slice_get tables.nodes step.node)

run_textless : (tables : Tables) (inner : List Row → List Part) (depth : ℕ) (run : List Row) →
    has_text (run_parts tables inner depth run) ≡ false
run_textless tables inner depth [] = refl
run_textless tables inner depth (row ∷ rows) = step_textless tables _ (inner (row ∷ rows)) (slice_get row.path.steps depth)

pub printed_holds_no_text : PrintedHoldsNoText
printed_holds_no_text tables zero depth rows = refl
printed_holds_no_text tables (suc levels) depth rows =
    let f : List Row → List Part = run_parts tables (parts_at tables levels (depth + 1)) depth in
    each_textless f (run_textless tables (parts_at tables levels (depth + 1)) depth) (cut (goes_on depth) rows)

pub nothing_below_its_end : NothingBelowItsEnd
nothing_below_its_end tables zero depth row past = refl
nothing_below_its_end tables (suc levels) depth row past =
    ap (λ found. step_parts tables (own_value depth row) (parts_at tables levels (depth + 1) (row ∷ [])) found ++ [])
    (slice_get_past row.path.steps depth past)
