-- The rows with one more, and without some.
use Rattle.std.proofs.Common.{◌≡◌, ◌↔◌, ◌+◌, ◌-◌, ◌<◌, ◌≤◌, ℕ, suc, Bool, true, false, cond, not, List, [], ◌∷◌, Option, Some, None, refl, sym, ap, ◌∙◌, arith, length, rules}
use Rattle.std.proofs.lemmas.Bool.{le-leb, lt-leb}
use Rattle.std.proofs.lemmas.Bool.Decides.{same_from_decides}
use Rattle.std.specs.Prelude.{IsTrue, is_some, nat_le, nat_lt, slice_set}
use Rattle.std.specs.List.{position_or_len}
use Rattle.std.specs.Option.{option_map_or}
use Rattle.std.proofs.lemmas.List.Filters.{length-filter_both}
use Rattle.nc_names.proofs.SameLemmas.{rows_decide}
use Rattle.nc_names.specs.Same.{is_at_or_below, is_same_path, is_same_rows}
use Rattle.nc_names.specs.declared.path.Place.{Place}
use Rattle.nc_names.specs.declared.path.Row.{Row}
use Rattle.nc_names.specs.declared.path.Step.{Step}
use Rattle.nc_schema.specs.Blocks.{row_at, rows_of_node, with_block}
use Rattle.nc_schema.specs.Record.{record_size}
use Rattle.nc_schema.specs.Standing.{block_at, has_row}
use Rattle.nc_schema.specs.Tables.{Tables}
use Rattle.nc_branches.specs.Branches.{replaced, without_block}
use Rattle.nc_branches.specs.Sizes.{Leaves, size_of}
use Rattle.nc_tree.proofs.LookLemmas.{has_is}
use Rattle.nc_tree.specs.Rows.{with_row}

abbrev first : List Row → Row → ℕ
first rows row = position_or_len (λ other. is_same_path other.path.steps row.path.steps) rows

less_is : (a b : ℕ) → a < b → nat_lt a b ≡ true
less_is a b less = search rules

same_not_less : (a b : ℕ) → a ≡ b → nat_lt a b ≡ false
same_not_less a b same = search rules

found_first : (rows : List Row) (row : Row) → is_some (row_at rows row.path.steps) ≡ true → (first rows row < length rows) × (slice_set rows (first rows row) row ≡ replaced rows row)
found_first [] row some = cc
found_first (x ∷ rows) row some = by (is_same_path x.path.steps row.path.steps) some (found_first rows row)
  where
    by : (b : Bool) → is_some (cond b (Some x) (row_at rows row.path.steps)) ≡ true → (is_some (row_at rows row.path.steps) ≡ true → (first rows row < length rows) × (slice_set rows (first rows row) row ≡ replaced rows row)) →
        (cond (not b) (1 + first rows row) 0 < suc (length rows)) × (slice_set (x ∷ rows) (cond (not b) (1 + first rows row) 0) row ≡ cond b (row ∷ rows) (x ∷ replaced rows row))
    by true e more = (omega arith, refl)
    by false e more =
        let rest = more e in
        let next : 1 + first rows row ≡ suc (first rows row) = omega arith in
        (omega (arith, rest.0), ap (λ n. slice_set (x ∷ rows) n row) next ∙ ap (λ xs. x ∷ xs) rest.1)

none_first : (rows : List Row) (row : Row) → is_some (row_at rows row.path.steps) ≡ false → first rows row ≡ length rows
none_first [] row none = refl
none_first (x ∷ rows) row none = by (is_same_path x.path.steps row.path.steps) none (none_first rows row)
  where
    by : (b : Bool) → is_some (cond b (Some x) (row_at rows row.path.steps)) ≡ false → (is_some (row_at rows row.path.steps) ≡ false → first rows row ≡ length rows) → cond (not b) (1 + first rows row) 0 ≡ suc (length rows)
    by true e more = cc
    by false e more = omega (arith, more e)

pub put_there : (tables : Tables) (rows : List Row) (row : Row) (place : Place) → true ≡ has_row rows row.path.steps → replaced rows row ≡ with_row tables rows row place
put_there tables rows row place some =
    let at = found_first rows row (has_is rows row.path.steps ∙ sym some) in
    sym at.1 ∙ ap (λ b. option_map_or (λ n. slice_set rows n row) (cond b (Some (first rows row)) None) (with_block tables rows row.path place (rows_of_node tables row.path row.value))) (sym (less_is (first rows row) (length rows) at.0))

pub put_new : (tables : Tables) (rows : List Row) (row : Row) (place : Place) → false ≡ has_row rows row.path.steps → with_block tables rows row.path place (rows_of_node tables row.path row.value) ≡ with_row tables rows row place
put_new tables rows row place none =
    ap (λ b. option_map_or (λ n. slice_set rows n row) (cond b (Some (first rows row)) None) (with_block tables rows row.path place (rows_of_node tables row.path row.value))) (sym (same_not_less (first rows row) (length rows) (none_first rows row (has_is rows row.path.steps ∙ sym none))))

pub dropped : (rows : List Row) (steps : List Step) → length (block_at rows steps) + length (without_block rows steps) ≡ length rows
dropped rows steps = length-filter_both (λ row. is_at_or_below steps row.path) (λ row. not (is_at_or_below steps row.path)) (λ row. refl) rows

pub within_none : (rows : List Row) (limit : ℕ) → ¬ (5 ≤ limit) → false ≡ nat_le (record_size rows) limit
within_none rows limit less = sym (lt-leb (record_size rows) limit (omega (arith, less)))

pub within_some : (rows : List Row) (limit room : ℕ) (rest : Option ℕ) → 5 ≤ limit → room ≡ limit - 5 → Leaves (size_of rows) room rest → is_some rest ≡ nat_le (record_size rows) limit
within_some rows limit room None enough is full = sym (lt-leb (record_size rows) limit (omega (arith, enough, is, full)))
within_some rows limit room (Some left) enough is fits = sym (le-leb (record_size rows) limit (omega (arith, enough, is, fits)))

pub same_word : (result : Bool) (rows others : List Row) → (IsTrue result ↔ (rows ≡ others)) → result ≡ is_same_rows rows others
same_word result rows others is = same_from_decides result (is_same_rows rows others) is (rows_decide rows others)
