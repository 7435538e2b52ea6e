use Rattle.std.proofs.Common.{◌≡◌, ◌≤◌, false}
use Rattle.nc_yang_words.specs.Tokens.{tokens}
use Rattle.nc_yang_words.specs.inner.Lexing.{ahead}
use Rattle.nc_yang_words.proofs.lexer.Lexer.next_token.Given as goal

abbrev pub invariant-loop-token : goal.invariant-loop-token
invariant-loop-token l =
    (tokens 0 false l.initial.self.place l.initial.self.rest.now ≡ tokens 0 l.apart l.self.place l.self.rest.now)
    × (ahead l.self ≤ ahead l.initial.self)

abbrev pub decreases-loop-token : goal.decreases-loop-token
decreases-loop-token l = ahead l.self
