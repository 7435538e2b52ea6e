use Rattle.std.proofs.Common.{rules, ◌≡◌, ◌∷◌}
use Rattle.std.specs.Prelude.{reverse}
use Rattle.nc_yang_words.specs.inner.Lexing.{left}
use Rattle.nc_yang_words.specs.inner.Grammar.{reads, state, risen, word_token, Begins}
use Rattle.nc_yang_words.proofs.Words.{with_word}
use Rattle.nc_yang_words.proofs.parser.Parser.turn.Goals as goal

pub returns-in-Word-clause-turn : goal.returns-in-Word-clause-turn
returns-in-Word-clause-turn c =
    let old = c.args.self.now in
    let t = c.in_ok-line.field-0 in
    let e : left old.lexer ≡ word_token t.line t.apart c.in-Word.keyword ∷ left c.next_token.new.self = search rules in
    with_word c.begin.result (state Begins (reverse old.above)) t.line t.apart c.in-Word.keyword (left old.lexer) (left c.next_token.new.self)
    (λ root. reads (risen root (reverse c.begin.new.self.above)) (left c.begin.new.self.lexer)) e c.begin.ensures.begin
