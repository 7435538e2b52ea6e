use Rattle.std.proofs.Common.{◌≡◌, sym, arith, ◌∙◌, ap}
use Rattle.std.specs.Fmt.{decimal}
use Rattle.std.proofs.lemmas.Fmt.{decimal_injective}
use Rattle.nc_words.proofs.words.read_edits.Goals as goal

pub returns-then-edits-eq0 : goal.returns-then-edits-eq0
returns-then-edits-eq0 c = λ n some few is.
    let zero : decimal 0 ≡ c.args.word.now = ap decimal (sym c.if-edits-eq0.true) ∙ sym c.in_ok-edits.ensures.number.1 in
    some (decimal_injective n 0 (omega (arith, few)) (omega arith) (sym (zero ∙ is)))
