-- A statement at its keyword.
use Rattle.std.proofs.Common.{◌≡◌, ℕ, Bool, List, ◌∷◌, Option, Result, Ok, Err, MatchResult, ap, sym, subst, ◌∙◌}
use Rattle.nc_yang_words.specs.inner.Grammar.{State, reads, Faults, word_token}
use Rattle.nc_yang_words.specs.declared.fault.WordFault.{WordFault}
use Rattle.nc_yang_words.specs.declared.statement.Statement.{Statement}
use Rattle.nc_yang_words.specs.declared.token.Token.{Token}

-- what is known with a word before the tokens behind is known of the tokens that they are
pub with_word : (r : Result (Option Statement) WordFault) (s : State) (line : ℕ) (apart : Bool) (keyword : List ℕ)
    (before behind : List Token) (after : Option Statement → Result Statement ℕ)
    → before ≡ word_token line apart keyword ∷ behind
    → MatchResult r (λ root. (apart : Bool) → reads s (word_token line apart keyword ∷ behind) ≡ after root) (λ fault. (apart : Bool) → Faults fault (reads s (word_token line apart keyword ∷ behind)))
    → MatchResult r (λ root. reads s before ≡ after root) (λ fault. Faults fault (reads s before))
with_word (Ok root) s line apart keyword before behind after e h = ap (λ ts. reads s ts) e ∙ h apart
with_word (Err fault) s line apart keyword before behind after e h = subst (λ ts. Faults fault (reads s ts)) (sym e) (h apart)
