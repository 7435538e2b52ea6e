use Rattle.std.proofs.Common.{ap, sym, ◌∙◌}
use Rattle.nc_yang_words.specs.Pieces.{piece}
use Rattle.nc_yang_words.proofs.Tokens.{gap_step, token_step}
use Rattle.nc_yang_words.proofs.lexer.Lexer.step.Goals as goal

pub returns-in-Gap-clause-step : goal.returns-in-Gap-clause-step
returns-in-Gap-clause-step c =
    let old = c.args.self.now in
    let new = c.pass.new.self in
    let sign = c.in-Some.sign.now in
    let rest = c.in-Some.rest.now in
    let piece_is = ap (λ q. piece q.column sign rest) (sym c.after-width.ensures) ∙ (sym c.in_ok-more.ensures.piece ∙ c.in-Gap.is) in
    let within = rw c.in-Gap.is at c.in_ok-more.ensures.within in
    gap_step c.args.apart old.place new.place old.rest.now new.rest.now sign rest c.in-Gap.more
    c.in-Some.ensures.cases.0 piece_is within c.pass.ensures.rest c.pass.ensures.place

pub returns-in-Whole-clause-step : goal.returns-in-Whole-clause-step
returns-in-Whole-clause-step c =
    let old = c.args.self.now in
    let new = c.pass-in-Whole.new.self in
    let sign = c.in-Some.sign.now in
    let rest = c.in-Some.rest.now in
    let piece_is = ap (λ q. piece q.column sign rest) (sym c.after-width.ensures) ∙ (sym c.in_ok-more.ensures.piece ∙ c.in-Whole.is) in
    let within = rw c.in-Whole.is at c.in_ok-more.ensures.within in
    rw within.1 (token_step c.args.apart old.place new.place old.rest.now new.rest.now sign rest c.in-Whole.kind c.in-Whole.more
    c.in-Some.ensures.cases.0 piece_is within.0 c.pass-in-Whole.ensures.rest c.pass-in-Whole.ensures.place)
