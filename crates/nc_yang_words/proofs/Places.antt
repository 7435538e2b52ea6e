-- The line after characters, and that of a text's end.
use Rattle.std.proofs.Common.{◌≡◌, ℕ, zero, suc, ◌+◌, ◌^◌, ◌-◌, ◌≤◌, Bool, true, false, ◌==◌, if◌then◌else◌, List, [], ◌∷◌, ◌++◌, refl, ap, sym, subst, ◌∙◌, arith}
use Rattle.std.specs.Prelude.{min}
use Rattle.nc_yang_words.specs.Signs.{columns}
use Rattle.nc_yang_words.specs.Places.{after, passed, start}
use Rattle.nc_yang_words.specs.Pieces.{piece}
use Rattle.nc_yang_words.specs.Tokens.{tokens}
use Rattle.nc_yang_words.specs.Laws.{line_feeds, LinesAreCounted, EndIsCounted}
use Rattle.nc_yang_words.specs.declared.piece.Piece.{Piece}
use Rattle.nc_yang_words.specs.declared.piece.Piece.TheVariants.{Gap, Whole, Torn as NothingWhole}
use Rattle.nc_yang_words.specs.declared.token.Token.{Token}
use Rattle.nc_yang_words.specs.declared.token.Kind.TheVariants.{End, Torn}
use Rattle.nc_yang_words.proofs.Faults.{IsEnded, tokens_ended}
use Rattle.nc_yang_words.specs.declared.place.Place.{Place}

counted_more : (a b k most : ℕ) → min (min (a + b) most + k) most ≡ min (a + (b + k)) most
counted_more a b k most = omega arith

counted_none : (a most : ℕ) → a ≤ most → a ≡ min (a + 0) most
counted_none a most h = omega arith

within : (a most : ℕ) → min a most ≤ most
within a most = omega arith

by_feed : (b : Bool) (p : Place) (c most : ℕ) → p.line ≤ most
    → (let q : Place = if b then record { line = min (p.line + 1) most; column = 0 } else record { line = p.line; column = min (p.column + columns c) (2 ^ 64 - 1) } in q.line)
    ≡ min (p.line + (if b then 1 else 0)) most
by_feed true p c most h = refl
by_feed false p c most h = counted_none p.line most h

line_at : (p : Place) (c : ℕ) → p.line ≤ 2 ^ 32 - 1 → (after p c).line ≡ min (p.line + (if c == 10 then 1 else 0)) (2 ^ 32 - 1)
line_at p c h = by_feed (c == 10) p c (2 ^ 32 - 1) h

lines_from : (p : Place) (cs : List ℕ) → p.line ≤ 2 ^ 32 - 1 → (passed p cs).line ≡ min (p.line + line_feeds cs) (2 ^ 32 - 1)
lines_from p [] h = counted_none p.line (2 ^ 32 - 1) h
lines_from p (c ∷ cs) h =
    let one = if c == 10 then 1 else 0 in
    let here = line_at p c h in
    lines_from (after p c) cs (rw here (within (p.line + one) (2 ^ 32 - 1)))
    ∙ (ap (λ l. min (l + line_feeds cs) (2 ^ 32 - 1)) here ∙ counted_more p.line one (line_feeds cs) (2 ^ 32 - 1))

pub the_lines_are_counted : LinesAreCounted
the_lines_are_counted cs = lines_from start cs (omega arith)

no_token : (t : Token) (ts : List Token) → [] ≡ t ∷ ts → ⊥
no_token t ts e = cc

torn_is_no_end : Torn ≡ End → ⊥
torn_is_no_end e = cc

-- the end is a token of its own, which none follows
abbrev IsLastOf : List Token → Place → List ℕ → Type 0
IsLastOf ts p cs = (before : List Token) (last : Token) → ts ≡ before ++ last ∷ [] → last.kind ≡ End → last.line ≡ (passed p cs).line

alone : (t : Token) (p : Place) (cs : List ℕ) → (t.kind ≡ End → t.line ≡ (passed p cs).line) → IsLastOf (t ∷ []) p cs
alone t p cs h [] last e k =
    let same : t ≡ last = cc in
    ap (λ u. u.line) (sym same) ∙ h (ap (λ u. u.kind) same ∙ k)
alone t p cs h (b ∷ []) last e k = absurd (let x : [] ≡ last ∷ [] = cc in no_token last [] x)
alone t p cs h (b ∷ d ∷ bs) last e k = absurd (let x : [] ≡ d ∷ (bs ++ last ∷ []) = cc in no_token d (bs ++ last ∷ []) x)

not_last : (t : Token) (ts : List Token) (p : Place) (cs : List ℕ) → IsEnded ts → IsLastOf ts p cs → IsLastOf (t ∷ ts) p cs
not_last t ts p cs ended h [] last e k = absurd (subst (λ us. IsEnded us) (let x : ts ≡ [] = cc in x) ended)
not_last t ts p cs ended h (b ∷ bs) last e k = h bs last (let x : ts ≡ bs ++ last ∷ [] = cc in x) k

last_by : (it : Piece) (apart : Bool) (p q : Place) (cs : List ℕ)
    → ((n : ℕ) (a : Bool) → IsEnded (tokens n a q cs)) → ((n : ℕ) (a : Bool) → IsLastOf (tokens n a q cs) q cs)
    → IsLastOf (elim it [
      | Gap more ↦ tokens more true q cs
      | Whole kind more ↦ (record { line = p.line; apart = apart; kind = kind }) ∷ tokens more false q cs
      | NothingWhole ↦ (record { line = p.line; apart = apart; kind = Torn }) ∷ []
    ]) q cs
last_by (Gap more) apart p q cs ended later = later more true
last_by (Whole kind more) apart p q cs ended later =
    not_last (record { line = p.line; apart = apart; kind = kind }) (tokens more false q cs) q cs (ended more false) (later more false)
last_by NothingWhole apart p q cs ended later =
    alone (record { line = p.line; apart = apart; kind = Torn }) q cs (λ k. absurd (torn_is_no_end k))

last_of : (skip : ℕ) (apart : Bool) (p : Place) (cs : List ℕ) → IsLastOf (tokens skip apart p cs) p cs
last_of zero apart p [] = alone (record { line = p.line; apart = apart; kind = End }) p [] (λ k. refl)
last_of (suc skip) apart p [] = alone (record { line = p.line; apart = apart; kind = End }) p [] (λ k. refl)
last_of (suc skip) apart p (c ∷ cs) = last_of skip apart (after p c) cs
last_of zero apart p (c ∷ cs) =
    last_by (piece (after p c).column c cs) apart p (after p c) cs (λ n a. tokens_ended n a (after p c) cs)
    (λ n a. last_of n a (after p c) cs)

pub the_end_is_counted : EndIsCounted
the_end_is_counted text before last e k = last_of 0 false start text before last e k ∙ the_lines_are_counted text
