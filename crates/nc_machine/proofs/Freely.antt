-- Edits under rights that are all given are the edits with every right: nothing is told but what denies.
use Rattle.std.proofs.Common.{◌≡◌, Bool, true, not, cond, List, [], ◌∷◌, fold, refl, sym, ap, ◌∙◌, Option, None, Result}
use Rattle.std.specs.List.{filter, reduce}
use Rattle.nc_names.specs.declared.cause.CauseKind.TheVariants.{MissingInstance}
use Rattle.nc_names.specs.declared.path.Path.{Path}
use Rattle.nc_names.specs.declared.path.Right.{Right}
use Rattle.nc_names.specs.declared.path.Row.{Row}
use Rattle.nc_schema.specs.Tables.{Tables}
use Rattle.nc_protocol.specs.declared.access.Decision.{Decision}
use Rattle.nc_protocol.specs.declared.asked.ErrorOption.{ErrorOption}
use Rattle.nc_protocol.specs.declared.asked.ErrorOption.TheVariants.{Stop, Continue, Rollback}
use Rattle.nc_protocol.specs.declared.edit.Edit.{Edit}
use Rattle.nc_protocol.specs.declared.request.Cause.{Cause}
use Rattle.nc_protocol.specs.Applied.{Applied, applied, is_empty, rolled_back, with_result}
use Rattle.nc_protocol.specs.Edited.{Change, anchor_names, cause_at, cause_where, changes_by, denied_cause, earlier, edited, first_cause, first_denied, lacks_anchor, left_by, missed, unless_refused}
use Rattle.nc_protocol.specs.Unchecked.{every_right}

module _ (tables : Tables) (rights : Path → Right → Decision) (permits : (path : Path) (right : Right) → (rights path right).permit ≡ true) where
  none_denied : (changes : List Change) → filter (λ change. not (rights change.path change.right).permit) changes ≡ []
  none_denied [] = refl
  none_denied (change ∷ changes) =
      let rest : List Change = filter (λ it. not (rights it.path it.right).permit) changes in
      ap (λ (b : Bool). cond (not b) (change ∷ rest) rest) (permits change.path change.right) ∙ none_denied changes

  none_first : (rows : List Row) (edit : Edit) → first_denied tables rights rows edit ≡ None
  none_first rows edit = ap (reduce (earlier tables rows)) (none_denied (changes_by tables rows edit))

  undenied : (rows : List Row) (edit : Edit) → edited tables rights rows edit
      ≡ unless_refused (first_cause (missed tables rows edit.path edit.action
      ∷ cause_where (lacks_anchor rows edit) (cause_at MissingInstance edit.path (anchor_names tables edit.path))
      ∷ None ∷ [])) (left_by tables rows edit)
  undenied rows edit =
      ap (λ (found : Option Change). unless_refused (first_cause (missed tables rows edit.path edit.action
      ∷ cause_where (lacks_anchor rows edit) (cause_at MissingInstance edit.path (anchor_names tables edit.path))
      ∷ denied_cause rights found ∷ [])) (left_by tables rows edit)) (none_first rows edit)

-- all edits, by what each leaves
all_made : (List Row → Edit → Result (List Row) Cause) → ErrorOption → List Row → List Edit → Applied
all_made made Stop rows edits =
    fold (λ so_far edit. cond (is_empty so_far.causes) (with_result so_far (made so_far.rows edit)) so_far)
    (record { rows = rows; causes = [] }) edits
all_made made Continue rows edits =
    fold (λ so_far edit. with_result so_far (made so_far.rows edit)) (record { rows = rows; causes = [] }) edits
all_made made Rollback rows edits = rolled_back rows
    (fold (λ so_far edit. cond (is_empty so_far.causes) (with_result so_far (made so_far.rows edit)) so_far)
    (record { rows = rows; causes = [] }) edits)

as_made : (tables : Tables) (rights : Path → Right → Decision) (on_error : ErrorOption) (rows : List Row) (edits : List Edit) →
    applied tables rights on_error rows edits ≡ all_made (edited tables rights) on_error rows edits
unfolding all_made
as_made tables rights Stop rows edits = refl
as_made tables rights Continue rows edits = refl
as_made tables rights Rollback rows edits = refl

pub freely : (tables : Tables) (rights : Path → Right → Decision) → ((path : Path) (right : Right) → (rights path right).permit ≡ true) →
    (on_error : ErrorOption) (rows : List Row) (edits : List Edit) →
    applied tables every_right on_error rows edits ≡ applied tables rights on_error rows edits
freely tables rights permits on_error rows edits =
    as_made tables every_right on_error rows edits
    ∙ (ap (λ (made : List Row → Edit → Result (List Row) Cause). all_made made on_error rows edits) same
    ∙ sym (as_made tables rights on_error rows edits))
  where
    same : ◌≡◌ {A = List Row → Edit → Result (List Row) Cause} (edited tables every_right) (edited tables rights)
    same = λ i before edit. (undenied tables every_right (λ path right. refl) before edit ∙ sym (undenied tables rights permits before edit)) i
