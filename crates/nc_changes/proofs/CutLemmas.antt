-- What two configurations have in common first, and last, is neither created nor deleted.
use Rattle.std.proofs.Common.{◌≡◌, ◌||◌, ◌∙◌, Bool, true, false, cond, not, List, [], ◌∷◌, ◌++◌, refl, sym, ap}
use Rattle.std.specs.List.{filter}
use Rattle.std.proofs.lemmas.List.{append_assoc, append-nil}
use Rattle.std.proofs.lemmas.List.Elements.{filter-append}
use Rattle.nc_names.proofs.StepOrder.{same_itself}
use Rattle.nc_names.specs.Same.{is_same_path}
use Rattle.nc_names.specs.declared.path.Path.{Path}
use Rattle.nc_names.specs.declared.path.Row.{Row}
use Rattle.nc_schema.specs.Standing.{has_row}
use Rattle.nc_schema.specs.Tables.{Tables}
use Rattle.nc_protocol.specs.Changes.{changes_between, is_missing, is_updated, paths_of}
use Rattle.nc_changes.specs.inner.Asked.{AreAsked}

true_last : (b : Bool) → (b || true) ≡ true
true_last true = refl
true_last false = refl

-- a row is not missing among those where it stands
stands : (before after : List Row) (row : Row) → has_row (before ++ row ∷ after) row.path.steps ≡ true
stands [] after row = ap (λ b. b || has_row after row.path.steps) (same_itself row.path.steps row.path.steps refl)
stands (first ∷ before) after row =
    ap (λ b. is_same_path first.path.steps row.path.steps || b) (stands before after row) ∙ true_last (is_same_path first.path.steps row.path.steps)

none_missing : (all before rows after : List Row) → all ≡ before ++ (rows ++ after) → filter (is_missing all) rows ≡ []
none_missing all before [] after cut = refl
none_missing all before (row ∷ rows) after cut =
    ap (λ b. cond (not b) (row ∷ filter (is_missing all) rows) (filter (is_missing all) rows))
    (ap (λ (list : List Row). has_row list row.path.steps) cut ∙ stands before (rows ++ after) row)
    ∙ none_missing all (before ++ row ∷ []) rows after (cut ∙ sym (append_assoc before (row ∷ []) (rows ++ after)))

-- those that are missing stand in the middle
missing_in : (all front gone come back : List Row) → all ≡ front ++ (gone ++ back) → filter (is_missing all) come ≡ filter (is_missing all) (front ++ (come ++ back))
missing_in all front gone come back cut =
    sym (append-nil (filter p come))
    ∙ ap (λ (list : List Row). filter p come ++ list) (sym (none_missing all (front ++ gone) back [] at_the_end))
    ∙ sym (filter-append p come back)
    ∙ ap (λ (list : List Row). list ++ filter p (come ++ back)) (sym (none_missing all [] front (gone ++ back) cut))
    ∙ sym (filter-append p front (come ++ back))
  where
    p : Row → Bool
    p = is_missing all

    at_the_end : all ≡ front ++ gone ++ (back ++ [])
    at_the_end = cut ∙ sym (append_assoc front gone back) ∙ ap (λ (list : List Row). front ++ gone ++ list) (sym (append-nil back))

pub cut_changes : (tables : Tables) (old new front gone come back asked : List Row) (created updated deleted : List Path) →
    old ≡ front ++ (gone ++ back) → new ≡ front ++ (come ++ back) → AreAsked tables front gone come back asked →
    created ≡ paths_of (filter (is_missing old) come) → updated ≡ paths_of (filter (is_updated tables old new) asked) →
    deleted ≡ paths_of (filter (is_missing new) gone) →
    record { created = created; updated = updated; deleted = deleted } ≡ changes_between tables old new
cut_changes tables old new front gone come back asked created updated deleted was is are one two three = λ i. record {
  created =
      (one ∙ ap paths_of (missing_in old front gone come back was ∙ ap (filter (is_missing old)) (sym is))) i;
  updated =
      (two ∙ ap paths_of ((λ j. filter (is_updated tables (was j) (is j)) asked) ∙ are
      ∙ (λ j. filter (is_updated tables (sym was j) (sym is j)) (sym is j)))) i;
  deleted =
      (three ∙ ap paths_of (missing_in new front come gone back is ∙ ap (filter (is_missing new)) (sym was))) i;
}
