use Rattle.std.proofs.Common.{◌≡◌}
use Rattle.std.specs.Prelude.{reverse}
use Rattle.nc_yang_words.specs.inner.Lexing.{left, ahead}
use Rattle.nc_yang_words.specs.inner.Grammar.{reads, state, Begins}
use Rattle.nc_yang_words.proofs.parser.Parser.read_root.Given as goal

abbrev pub invariant-loop-root : goal.invariant-loop-root
invariant-loop-root l = reads (state Begins (reverse l.initial.self.above)) (left l.initial.self.lexer) ≡ reads (state Begins (reverse l.self.above)) (left l.self.lexer)

abbrev pub decreases-loop-root : goal.decreases-loop-root
decreases-loop-root l = ahead l.self.lexer
