-- The tokens of a text, one piece after another.
use Rattle.std.proofs.Common.{◌≡◌, ℕ, zero, suc, ◌+◌, ◌≤◌, Bool, true, false, List, [], ◌∷◌, length, take, drop, refl, ap, sym, ◌∙◌, add-one}
use Rattle.nc_yang_words.specs.Places.{after, passed}
use Rattle.nc_yang_words.specs.Pieces.{piece}
use Rattle.nc_yang_words.specs.Tokens.{tokens}
use Rattle.nc_yang_words.specs.declared.place.Place.{Place}
use Rattle.nc_yang_words.specs.declared.piece.Piece.TheVariants.{Gap, Whole}
use Rattle.nc_yang_words.specs.declared.token.Kind.{Kind}

-- characters that belong to the piece before are passed over
pub skipped : (skip : ℕ) (apart : Bool) (p : Place) (cs : List ℕ)
    → tokens skip apart p cs ≡ tokens 0 apart (passed p (take skip cs)) (drop skip cs)
skipped zero apart p [] = refl
skipped zero apart p (c ∷ cs) = refl
skipped (suc n) apart p [] = refl
skipped (suc n) apart p (c ∷ cs) = skipped n apart (after p c) cs

-- behind white space or a comment
pub behind_gap : (apart : Bool) (p : Place) (c : ℕ) (cs : List ℕ) (more : ℕ)
    → piece (after p c).column c cs ≡ Gap more → more ≤ length cs
    → tokens 0 apart p (c ∷ cs) ≡ tokens 0 true (passed p (take (more + 1) (c ∷ cs))) (drop (more + 1) (c ∷ cs))
behind_gap apart p c cs more e h = rw add-one (rw (e, tokens) (skipped more true (after p c) cs))

-- a token and those behind it
pub behind_token : (apart : Bool) (p : Place) (c : ℕ) (cs : List ℕ) (kind : Kind) (more : ℕ)
    → piece (after p c).column c cs ≡ Whole kind more → more ≤ length cs
    → tokens 0 apart p (c ∷ cs) ≡ (record { line = p.line; apart = apart; kind = kind }) ∷ tokens 0 false (passed p (take (more + 1) (c ∷ cs))) (drop (more + 1) (c ∷ cs))
behind_token apart p c cs kind more e h = rw add-one (rw (e, tokens) (ap (λ ts. (record { line = p.line; apart = apart; kind = kind }) ∷ ts) (skipped more false (after p c) cs)))

-- a lexer that has passed white space or a comment
pub gap_step : (apart : Bool) (p q : Place) (s r : List ℕ) (c : ℕ) (cs : List ℕ) (more : ℕ)
    → s ≡ c ∷ cs → piece (after p c).column c cs ≡ Gap more → more ≤ length cs
    → r ≡ drop (more + 1) s → q ≡ passed p (take (more + 1) s)
    → tokens 0 apart p s ≡ tokens 0 true q r
gap_step apart p q s r c cs more e h within rest place =
    ap (λ x. tokens 0 apart p x) e
    ∙ (behind_gap apart p c cs more h within
    ∙ (ap (λ x. tokens 0 true (passed p (take (more + 1) x)) (drop (more + 1) x)) (sym e)
    ∙ (ap (λ x. tokens 0 true x (drop (more + 1) s)) (sym place) ∙ ap (λ x. tokens 0 true q x) (sym rest))))

-- a lexer that has taken a token
pub token_step : (apart : Bool) (p q : Place) (s r : List ℕ) (c : ℕ) (cs : List ℕ) (kind : Kind) (more : ℕ)
    → s ≡ c ∷ cs → piece (after p c).column c cs ≡ Whole kind more → more ≤ length cs
    → r ≡ drop (more + 1) s → q ≡ passed p (take (more + 1) s)
    → tokens 0 apart p s ≡ (record { line = p.line; apart = apart; kind = kind }) ∷ tokens 0 false q r
token_step apart p q s r c cs kind more e h within rest place =
    ap (λ x. tokens 0 apart p x) e
    ∙ (behind_token apart p c cs kind more h within
    ∙ (ap (λ x. (record { line = p.line; apart = apart; kind = kind }) ∷ tokens 0 false (passed p (take (more + 1) x)) (drop (more + 1) x)) (sym e)
    ∙ (ap (λ x. (record { line = p.line; apart = apart; kind = kind }) ∷ tokens 0 false x (drop (more + 1) s)) (sym place)
    ∙ ap (λ x. (record { line = p.line; apart = apart; kind = kind }) ∷ tokens 0 false q x) (sym rest))))
