use Rattle.std.proofs.Common.{rules, ◌≡◌, ◌^◌, ◌<◌, arith, ◌∙◌, Ok}
use Rattle.std.proofs.lemmas.Fmt.{parse-decimal}
use Rattle.std.proofs.lemmas.Slice.Eq.{bytes_eq-Decides}
use Rattle.nc_names.proofs.decimal.parse_decimal.Goals as goal

-- the canonical decimal of a number that fits is read as that number
pub returns-in_default-clause-none : goal.returns-in_default-clause-none
returns-in_default-clause-none c = λ n small e.
    let fits : n < 2 ^ 64 = omega arith in
    c.in_default.not-Ok n (parse-decimal 64 n _ _ fits fits e c.from_str_radix.ensures.value)

pub returns-then-number-most-clause-none : goal.returns-then-number-most-clause-none
returns-then-number-most-clause-none c = λ n small e.
    let fits : n < 2 ^ 64 = omega arith in
    let read : c.from_str_radix.result ≡ Ok n = parse-decimal 64 n _ _ fits fits e c.from_str_radix.ensures.value in
    let same : c.in-Ok.number ≡ n = cc in
    omega arith

pub returns-else-eq-clause-none : goal.returns-else-eq-clause-none
returns-else-eq-clause-none c = λ n small e.
    let fits : n < 2 ^ 64 = omega arith in
    let read : c.from_str_radix.result ≡ Ok n = parse-decimal 64 n _ _ fits fits e c.from_str_radix.ensures.value in
    let same : c.in-Ok.number ≡ n = cc in
    let again : c.format.result.now ≡ c.args.text.now = c.format.ensures.text ∙ cc in
    search (rules, bytes_eq-Decides)
