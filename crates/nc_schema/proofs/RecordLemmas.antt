-- What a record of a configuration spells.
use mathlib.Core.Path.{fun_ext}
use Rattle.std.proofs.Common.{◌≡◌, ◌∙◌, ap, sym, ℕ, ◌+◌, List, length, arith}
use Rattle.std.specs.List.{flat_map, sum_by}
use Rattle.std.proofs.lemmas.List.Concat.{length-flat_map}
use Rattle.std.proofs.lemmas.List.Sums.{sum-map}
use Rattle.nc_names.specs.declared.path.Row.{Row}
use Rattle.nc_schema.specs.Record.{record_body, record_size, row_record, value_bytes}

-- the size of a row
abbrev size_of : Row → ℕ
size_of row = 8 + length (value_bytes row)

row_size_is : (row : Row) → size_of row ≡ length (row_record row)
row_size_is row = omega arith

-- the size of a record is the length of its body
pub size_is : (rows : List Row) → record_size rows ≡ length (record_body rows)
size_is rows =
    let sizes : sum_by size_of rows ≡ length (flat_map row_record rows) =
    ap (λ f. sum_by f rows) (fun_ext row_size_is) ∙ sym (length-flat_map row_record rows) in
    let all = sum-map size_of rows ∙ sizes in omega (arith, all)
