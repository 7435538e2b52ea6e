-- An edit below a node, made in the configuration, is one made among the rows below the node.
use Rattle.std.proofs.Common.{◌≡◌, ◌||◌, ◌++◌, ℕ, Bool, true, false, not, List, [], ◌∷◌, sym, ap, subst, ◌∙◌}
use Rattle.std.specs.List.{filter, list_any}
use Rattle.nc_names.specs.Same.{is_at_or_below}
use Rattle.nc_names.specs.declared.path.Path.{Path}
use Rattle.nc_names.specs.declared.path.Place.{Place}
use Rattle.nc_names.specs.declared.path.Row.{Row}
use Rattle.nc_names.specs.declared.path.Step.{Step}
use Rattle.nc_schema.specs.Blocks.{with_block}
use Rattle.nc_schema.specs.Standing.{entries, excludes, steps_before}
use Rattle.nc_schema.specs.Tables.{Tables}
use Rattle.nc_edit.specs.inner.Alone.{AreAt, AreFree, AreUnder, IsUnder}
use Rattle.nc_edit.proofs.BelowRows.{ahead, behind, beside, beside_ahead, beside_behind, entries_below, is_ahead, is_under, none_above, none_excluded, own_longer, three_parts, under_append, under_filter, under_longer, under_own, under_with}
use Rattle.nc_edit.proofs.Between.{Agree, Answer, answer_by, answer_kept, answer_left, filter_agree, filters_meet}
use Rattle.nc_edit.proofs.BelowPaths.{aside_before, aside_longer, before_by, goes_on, inner_before, own_before, starts_on}

-- the configuration once a block stands at the node, an edit at a place below the node, and what it puts
module _ (tables : Tables) (rows : List Row) (path : Path) (place : Place) (own inner : List Row) (free : AreFree tables path.steps) (at : AreAt path.steps own) (under : AreUnder path.steps inner) where
  abbrev steps : List Step
  steps = path.steps

  abbrev front : List Row
  front = ahead tables rows place steps

  abbrev back : List Row
  back = behind tables rows place steps

  abbrev pub whole : List Row
  whole = with_block tables rows path place (own ++ inner)

  pub whole_is : whole ≡ front ++ (own ++ inner) ++ back
  whole_is = three_parts tables rows path place (own ++ inner) free (under_append steps own inner (under_own steps own at) under)

  module _ (lower : Path) (next : Step) (more : List Step) (lower_is : lower.steps ≡ steps ++ next ∷ more) (lower_place : Place) (block : List Row) (block_under : AreUnder lower.steps block) where
    abbrev stays : Row → Bool
    stays row = not (is_at_or_below lower.steps row.path || list_any (λ added. excludes tables added.path.steps row.path.steps) block)

    abbrev before : List Row → Row → Bool
    before all row = steps_before tables all lower_place [] row.path.steps lower.steps

    block_in : AreUnder steps block
    block_in = under_longer steps (next ∷ more) block (subst (λ ss. AreUnder ss block) lower_is block_under)

    aside_stays : (row : Row) → is_under steps row ≡ false → stays row ≡ true
    aside_stays row e =
        let off : is_at_or_below lower.steps row.path ≡ false = starts_on row.path.steps lower.steps ∙ ap (λ ss. goes_on ss row.path.steps) lower_is ∙ aside_longer steps (next ∷ more) row.path.steps e in
        λ i. not (off i || none_excluded tables steps row.path.steps block free block_in e i)

    -- the row of a node is above all that is below it
    own_stays : (own : List Row) → AreAt steps own → Answer stays true own
    own_stays [] at = tt
    own_stays (row ∷ own) at =
        let off : is_at_or_below lower.steps row.path ≡ false = starts_on row.path.steps lower.steps ∙ (λ i. goes_on (lower_is i) (at.0 i)) ∙ own_longer steps next more in
        let none : list_any (λ added. excludes tables added.path.steps row.path.steps) block ≡ false = ap (λ ss. list_any (λ added. excludes tables added.path.steps ss) block) at.0 ∙ none_above tables steps block block_in in
        ((λ i. not (off i || none i)), own_stays own at.1)

    own_ahead : (all : List Row) (own : List Row) → AreAt steps own → Answer (before all) true own
    own_ahead all [] at = tt
    own_ahead all (row ∷ own) at = ((λ i. steps_before tables all lower_place [] (at.0 i) (lower_is i)) ∙ own_before tables all lower_place [] steps next more, own_ahead all own at.1)

    -- what is beside the node stands to the edit's place as to the node
    aside_side : (all : List Row) (row : Row) → is_under steps row ≡ false → before all row ≡ is_ahead tables rows place steps row
    aside_side all row e =
        ap (λ ss. steps_before tables all lower_place [] row.path.steps ss) lower_is
        ∙ aside_before tables all rows lower_place place [] row.path.steps steps (next ∷ more) free e

    sides : (all : List Row) (b : Bool) (some : List Row) → Answer (is_under steps) false some → Answer (is_ahead tables rows place steps) b some → Answer (before all) b some
    sides all b [] aside side = tt
    sides all b (row ∷ some) aside side = (aside_side all row aside.0 ∙ side.0, sides all b some aside.1 side.1)

    -- rows below the node stand to it by the entries below the node
    inner_side : (row : Row) → IsUnder steps row → before (front ++ (own ++ inner) ++ back) row ≡ before inner row
    inner_side row u =
        let all = front ++ (own ++ inner) ++ back in
        let same : (rest : List Step) (number : ℕ) → entries all (steps ++ rest) number ≡ entries inner (steps ++ rest) number =
        λ rest number. entries_below steps front own inner back (beside_ahead tables rows place steps) at (beside_behind tables rows place steps) rest number in
        (λ i. steps_before tables all lower_place [] (u.1 i) (lower_is i))
        ∙ inner_before tables all lower_place [] steps u.0 (next ∷ more)
        ∙ before_by tables all inner lower_place steps u.0 (next ∷ more) same
        ∙ sym (inner_before tables inner lower_place [] steps u.0 (next ∷ more))
        ∙ (λ i. steps_before tables inner lower_place [] (sym (u.1) i) (sym lower_is i))

    inner_sides : (some : List Row) → AreUnder steps some → Agree (before (front ++ (own ++ inner) ++ back)) (before inner) some
    inner_sides [] u = tt
    inner_sides (row ∷ some) u = (inner_side row u.0, inner_sides some u.1)

    inner_behind : (some : List Row) → AreUnder steps some → Agree (λ row. not (before (front ++ (own ++ inner) ++ back) row)) (λ row. not (before inner row)) some
    inner_behind [] u = tt
    inner_behind (row ∷ some) u = (ap not (inner_side row u.0), inner_behind some u.1)

    pub made_below : with_block tables whole lower lower_place block ≡ with_block tables rows path place (own ++ with_block tables inner lower lower_place block)
    made_below =
        let all = front ++ (own ++ inner) ++ back in
        let left : AreUnder steps (filter stays inner) = under_filter steps stays inner under in
        let aside_front = beside_ahead tables rows place steps in
        let aside_back = beside_behind tables rows place steps in
        ap (λ some. with_block tables some lower lower_place block) whole_is
        ∙ filters_meet stays (before all) front own inner back block
        (answer_by (is_under steps) false stays true front aside_stays aside_front)
        (own_stays own at)
        (answer_by (is_under steps) false stays true back aside_stays aside_back)
        (sides all true front aside_front (answer_kept (is_ahead tables rows place steps) (beside steps rows)))
        (own_ahead all own at)
        (sides all false back aside_back (answer_left (is_ahead tables rows place steps) (beside steps rows)))
        ∙ (λ i. front ++ (own ++ (filter_agree (before all) (before inner) (filter stays inner) (inner_sides (filter stays inner) left) i ++ block
        ++ filter_agree (λ row. not (before all row)) (λ row. not (before inner row)) (filter stays inner) (inner_behind (filter stays inner) left) i)) ++ back)
        ∙ sym (three_parts tables rows path place (own ++ with_block tables inner lower lower_place block) free
        (under_append steps own (with_block tables inner lower lower_place block) (under_own steps own at) (under_with tables inner lower lower_place block steps under block_in)))
