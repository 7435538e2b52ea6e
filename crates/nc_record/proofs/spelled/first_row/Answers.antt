use Rattle.std.proofs.Common.{◌≡◌, ◌∙◌, ◌<◌, ◌^◌, ◌++◌, ap, sym, subst, ℕ, List, length, take, Some, arith}
use Rattle.std.specs.Prelude.{IsUtf8}
use Rattle.std.proofs.lemmas.Result.{err_from_is_err_and}
use Rattle.nc_schema.specs.Record.{in_four_bytes, last_node, value_bytes}
use Rattle.nc_record.specs.inner.Given.{Gives, spelled_of}
use Rattle.nc_record.proofs.Found.{after_node, after_size, gives_err, value_front, within_bytes}
use Rattle.nc_record.proofs.spelled.first_row.Goals as goal

pub returns-in_err-value-clause-read : goal.returns-in_err-value-clause-read
returns-in_err-value-clause-read c = λ row more fits is.
    let second : c.tail-second.result.now ≡ in_four_bytes (length (value_bytes row)) ++ (value_bytes row ++ more) = c.tail-second.ensures ∙ after_node row c.args.bytes.now more is in
    let size : Some c.in-Some-number.size ≡ Some (length (value_bytes row)) = c.in-Some-number.ensures.read (length (value_bytes row)) (value_bytes row ++ more) fits.short second in
    let same : c.in-Some-number.size ≡ length (value_bytes row) = cc in
    let rest : c.tail-rest.result.now ≡ value_bytes row ++ more = c.tail-rest.ensures ∙ after_size row c.tail-second.result.now more second in
    let value : c.front.result.now ≡ value_bytes row = c.front.ensures ∙ value_front row c.tail-rest.result.now more c.in-Some-number.size rest same in
    let p = err_from_is_err_and c.from_residual.result c.from_residual.ensures.1 in
    rw (p.1, p.2) (gives_err (λ it. it ≡ c.front.result.now) (λ it. it ≡ spelled_of row) c.in_err-value.field-0.0 (c.in_err-value.ensures.text (subst IsUtf8 (sym value) fits.text)))

pub returns-clause-read : goal.returns-clause-read
returns-clause-read c = λ row more fits is.
    let below : last_node row < 2 ^ 32 = (let node = fits.node in let fit = c.ranges.nodes.fits in omega (arith, node, fit)) in
    let node : Some c.in-Some.node ≡ Some (last_node row) = c.in-Some.ensures.read (last_node row) (in_four_bytes (length (value_bytes row)) ++ (value_bytes row ++ more)) below is in
    let node_is : c.in-Some.node ≡ last_node row = cc in
    let second : c.tail-second.result.now ≡ in_four_bytes (length (value_bytes row)) ++ (value_bytes row ++ more) = c.tail-second.ensures ∙ after_node row c.args.bytes.now more is in
    let size : Some c.in-Some-number.size ≡ Some (length (value_bytes row)) = c.in-Some-number.ensures.read (length (value_bytes row)) (value_bytes row ++ more) fits.short second in
    let same : c.in-Some-number.size ≡ length (value_bytes row) = cc in
    let rest : c.tail-rest.result.now ≡ value_bytes row ++ more = c.tail-rest.ensures ∙ after_size row c.tail-second.result.now more second in
    let front : c.front.result.now ≡ value_bytes row = c.front.ensures ∙ value_front row c.tail-rest.result.now more c.in-Some-number.size rest same in
    let value : c.in_ok-value.value ≡ value_bytes row = c.in_ok-value.ensures.is ∙ front in
    λ i. record { node = node_is i; value = value i }

pub returns-clause-within : goal.returns-clause-within
returns-clause-within c =
    within_bytes c.args.bytes.now c.tail-second.result.now c.tail-rest.result.now c.front.result.now c.in_ok-value.value c.in-Some-number.size c.tail-second.ensures c.tail-rest.ensures c.front.ensures c.in_ok-value.ensures.is
    c.in-Some.ensures.long c.in-Some-number.ensures.long (omega arith)
