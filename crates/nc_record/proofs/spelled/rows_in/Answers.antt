use Rattle.std.proofs.Common.{◌≡◌, ◌∙◌, ◌<◌, ◌++◌, ◌∷◌, [], ap, sym, subst, ℕ, List, length, map}
use Rattle.std.specs.List.{flat_map}
use Rattle.std.proofs.lemmas.Result.{err_from_is_err_and}
use Rattle.nc_schema.specs.Record.{row_record}
use Rattle.nc_record.specs.declared.spelled.Spelled.{Spelled}
use Rattle.nc_record.specs.inner.Given.{IsFound, spelled_of}
use Rattle.nc_record.proofs.Found.{IsNextFound, found_all, found_more, gives_err, next_found, none_left, some_left}
use Rattle.nc_record.proofs.spelled.rows_in.Goals as goal

pub returns-in_err-row : goal.returns-in_err-row
returns-in_err-row c = λ rows fits is.
    let some : 0 < length c.loop-rest.rest.now = some_left c.loop-rest.rest.now c.is_empty.result c.is_empty.ensures c.loop-rest-test.true in
    let it : IsNextFound c.args.nodes rows c.loop-rest.found c.loop-rest.rest.now = next_found c.args.nodes rows c.loop-rest.found c.loop-rest.rest.now some (c.loop-rest.invariant rows fits is) in
    let p = err_from_is_err_and c.from_residual.result c.from_residual.ensures.1 in
    rw (p.1, p.2) (gives_err (λ row. row ≡ spelled_of it.row) (λ (all : List Spelled). all ≡ map spelled_of rows) c.in_err-row.field-0.0 (c.in_err-row.ensures.read it.row (flat_map row_record it.more) it.fits it.is))

pub loop-rest-preserved : goal.loop-rest-preserved
loop-rest-preserved c = λ rows fits is.
    let some : 0 < length c.loop-rest.rest.now = some_left c.loop-rest.rest.now c.is_empty.result c.is_empty.ensures c.loop-rest-test.true in
    let it : IsNextFound c.args.nodes rows c.loop-rest.found c.loop-rest.rest.now = next_found c.args.nodes rows c.loop-rest.found c.loop-rest.rest.now some (c.loop-rest.invariant rows fits is) in
    let pushed : c.push.new.self ≡ c.loop-rest.found ++ c.in_ok-row.row ∷ [] = c.in_ok-push.ensures.ok in
    subst (λ (z : List Spelled). IsFound c.args.nodes rows z c.after_row-more.result.now) (sym pushed)
    (found_more c.args.nodes rows c.loop-rest.found c.loop-rest.rest.now c.after_row-more.result.now c.in_ok-row.row it (c.in_ok-row.ensures.read it.row (flat_map row_record it.more) it.fits it.is) c.after_row-more.ensures)

pub returns : goal.returns
returns c = λ rows fits is.
    found_all c.args.nodes rows c.loop-rest.found c.loop-rest.rest.now (none_left c.loop-rest.rest.now c.is_empty.result c.is_empty.ensures c.loop-rest-test.false) (c.loop-rest.invariant rows fits is)
