-- A node is noted before its rows are put: what that leaves.
use Rattle.std.proofs.Common.{◌≡◌, ◌≤◌, ◌∙◌, ℕ, Bool, true, false, not, List, Option, Some, refl, sym, subst}
use Rattle.std.specs.BTreeMap.{insert_entry}
use Rattle.std.specs.BTreeSet.{contains}
use Rattle.std.specs.List.Sorted.{IsStrictlySortedBy}
use Rattle.std.specs.Map.{keys_of}
use Rattle.nc_names.specs.declared.path.Path.{Path}
use Rattle.nc_names.specs.declared.path.Place.TheVariants.{Kept}
use Rattle.nc_names.specs.declared.path.Row.{Row}
use Rattle.nc_names.specs.declared.path.Step.{Step}
use Rattle.nc_schema.specs.Blocks.{rows_of_node}
use Rattle.nc_schema.specs.Standing.{is_by_user}
use Rattle.nc_schema.specs.Tables.{Tables}
use Rattle.nc_protocol.specs.declared.edit.Action.TheVariants.{Merge}
use Rattle.nc_payload.proofs.GatherLemmas.{leaf_stands, place_taken, row_taken}
use Rattle.nc_payload.specs.declared.gather.Gathered.{Gathered}
use Rattle.nc_payload.specs.declared.marks.Turns.{Turns}
use Rattle.nc_payload.specs.inner.Gathered.{Gathers, IsFresh, IsNoted, IsStood, Receives, Stands, TakesPlace, TakesRow, row_marks}
use Rattle.nc_payload.specs.inner.Marks.{in_marks, turn_of}
use Rattle.nc_payload.specs.inner.Places.{order}

pub not_true : (b : Bool) → not b ≡ true → b ≡ false
not_true true is = absurd (let clash : false ≡ true = is in cc)
not_true false is = refl

pub not_false : (b : Bool) → not b ≡ false → b ≡ true
not_false true is = refl
not_false false is = absurd (let clash : true ≡ false = is in cc)

module _ (tables : Tables) (turns : Turns) where
  -- a node that is noted was fresh, where its turn is not over
  abbrev fresh_of : (before noted : Gathered) (steps : List Step) (number : ℕ) → IsNoted tables turns before steps number noted → (is_by_user tables number ≡ true → before.next ≤ turn_of turns steps) → IsFresh tables turns before steps
  fresh_of before noted steps number is turn = record {
    above = is.0.above;
    step = record { node = number; keys = is.0.keys };
    is = is.0.is;
    free = record {
      new = is.1.new;
      parent = is.0.there.parent;
      inner = is.0.there.inner;
      chosen = is.0.there.chosen;
    };
    turn = turn;
  }

  -- the same of its row
  pub row_at : (before noted : Gathered) (row : Row) (steps : List Step) (number : ℕ) → row.path.steps ≡ steps → IsNoted tables turns before steps number noted → IsNoted tables turns before row.path.steps number noted
  row_at before noted row steps number at is = subst (λ (s : List Step). IsNoted tables turns before s number noted) (sym at) is

  -- it has no row
  pub place_noted : (before noted : Gathered) (steps : List Step) (number : ℕ) → IsNoted tables turns before steps number noted → is_by_user tables number ≡ false → TakesPlace tables turns before steps noted
  place_noted before noted steps number is system =
      place_taken tables turns before noted steps
      (fresh_of before noted steps number is (λ user. absurd (let clash : true ≡ false = sym user ∙ system in cc)))
      is.1.base is.1.rows is.1.next is.1.added system

  -- its row is put
  pub row_noted : (before noted after : Gathered) (row : Row) (number : ℕ) → IsNoted tables turns before row.path.steps number noted → after.base ≡ noted.base → after.seen ≡ noted.seen →
      after.rows.entries ≡ insert_entry in_marks noted.rows.entries (row_marks tables turns row) row → IsStrictlySortedBy in_marks (keys_of after.rows.entries) →
      Receives tables turns noted.next row.path.steps number (Some after.next) → TakesRow tables turns before row after
  row_noted before noted after row number is base seen entries sorted receives =
      row_taken tables turns before after row
      (fresh_of before noted row.path.steps number is (λ user. subst (λ (next : ℕ). next ≤ turn_of turns row.path.steps) is.1.next (receives.0 user).0))
      (base ∙ is.1.base)
      (entries ∙ (λ i. insert_entry in_marks (is.1.rows i).entries (row_marks tables turns row) row))
      sorted
      (λ key. (λ i. contains order (seen i) key) ∙ is.1.added key)
      (subst (λ (next : ℕ). next ≤ after.next) is.1.next receives.1)
      (λ user. (receives.0 user).1)

  -- it was merged before
  pub leaf_noted : (before after : Gathered) (path : Path) (value : Option (List ℕ)) (block : List Row) → IsStood before path.steps after → Stands tables turns after path block → block ≡ rows_of_node tables path value →
      Gathers tables turns before (record { path = path; action = Merge value; place = Kept }) after
  leaf_noted before after path value block stood stands is_block =
      subst (λ (so_far : Gathered). Gathers tables turns before (record { path = path; action = Merge value; place = Kept }) so_far) (sym stood.1)
      (leaf_stands tables turns before path value block stood.0 (subst (λ (so_far : Gathered). Stands tables turns so_far path block) stood.1 stands) is_block)
