-- The elements of one level, one run of rows after another.
use Rattle.std.proofs.Common.{◌≡◌, ◌≢◌, ◌+◌, ◌-◌, ℕ, zero, suc, Bool, List, ◌++◌, take, drop, refl, sym, ap, ◌∙◌, append_assoc, arith}
use Rattle.std.specs.List.{flat_map}
use Rattle.nc_names.specs.declared.path.Row.{Row}
use Rattle.nc_message.specs.declared.tree.Part.{Part}
use Rattle.nc_schema.specs.Tables.{Tables}
use Rattle.nc_protocol.specs.Printed.{cut, goes_on, parts_at, run_parts}
use Rattle.nc_print.specs.inner.Runs.{IsRun}

pub levels_are : (tables : Tables) (levels depth : ℕ) (rows : List Row) → levels ≢ 0 →
    parts_at tables levels depth rows ≡ flat_map (run_parts tables (parts_at tables (levels - 1) (depth + 1)) depth) (cut (goes_on depth) rows)
levels_are tables zero depth rows some = absurd (some refl)
levels_are tables (suc levels) depth rows some =
    let e : suc levels - 1 ≡ levels = omega arith in
    ap (λ n. flat_map (run_parts tables (parts_at tables n (depth + 1)) depth) (cut (goes_on depth) rows)) (sym e)

pub next_run : (f : List Row → List Part) (goes : Row → Row → Bool) (rows : List Row) (count : ℕ) (before : List Part) → IsRun goes rows count →
    (before ++ f (take count rows)) ++ flat_map f (cut goes (drop count rows)) ≡ before ++ flat_map f (cut goes rows)
next_run f goes rows count before run =
    append_assoc before (f (take count rows)) (flat_map f (cut goes (drop count rows))) ∙ ap (λ runs. before ++ flat_map f runs) (sym run.cut_is)
