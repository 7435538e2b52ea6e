use Rattle.std.proofs.Common.{◌≤◌, ℕ, List}
use Rattle.nc_yang_words.specs.inner.Lexing.{left, ahead}
use Rattle.nc_yang_words.specs.inner.Grammar.{Moves, Joins}
use Rattle.nc_yang_words.proofs.parser.read_joined.Given as goal

abbrev pub invariant-loop-opens : goal.invariant-loop-opens
invariant-loop-opens l =
    ((keyword : List ℕ) (line : ℕ) → Moves (Joins keyword l.initial.text line) (left l.initial.lexer) (Joins keyword l.text line) (left l.lexer))
    × (ahead l.lexer ≤ ahead l.initial.lexer)

abbrev pub decreases-loop-opens : goal.decreases-loop-opens
decreases-loop-opens l = ahead l.lexer
