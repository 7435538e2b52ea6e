-- Words that have neither a space nor a line feed.
use Rattle.std.proofs.Common.{◌≡◌, ◌≢◌, ◌<◌, ◌≤◌, ◌^◌, ℕ, Bool, true, false, List, [], ◌∷◌, ◌++◌, length, refl, sym, ap, subst, ◌∙◌, arith}
use Rattle.std.specs.Prelude.{codes}
use Rattle.std.specs.Char.{digit_value}
use Rattle.std.specs.Fmt.{decimal}
use Rattle.std.specs.List.{All}
use Rattle.std.specs.Str.Parse.{AllDigits}
use Rattle.std.proofs.lemmas.Fmt.{decimal_is_IsNumeral}
use Rattle.std.proofs.lemmas.List.Elements.{All-append, All-cons, All-from_recursion, All-head, All-nil, All-tail, All-weaker}
use Rattle.nc_names.specs.Signs.{blank, line_feed}
use Rattle.nc_script_text.specs.Lines.{IsName, IsNameByte, IsProper, IsWithin, begin_word, spaced, words_of}
use Rattle.nc_script_text.specs.declared.step.ScriptStep.{ScriptStep}
use Rattle.nc_script_text.specs.declared.step.ScriptStep.TheVariants.{Begin, Piece, End, Reading}

digit_named : (c : ℕ) → digit_value c < 10 → IsNameByte c
digit_named c digit =
    (λ is. absurd (no_blank (subst (λ x. digit_value x < 10) is digit)), λ is. absurd (no_feed (subst (λ x. digit_value x < 10) is digit)))
  where
    no_blank : digit_value 32 < 10 → ⊥
    no_blank less = omega (arith, less)

    no_feed : digit_value 10 < 10 → ⊥
    no_feed less = omega (arith, less)

digits_named : (ds : List ℕ) → AllDigits 10 ds → All IsNameByte ds
digits_named [] all = All-nil IsNameByte
digits_named (c ∷ cs) all = All-cons IsNameByte c cs (digit_named c all.0) (digits_named cs all.1)

decimal_named : (n : ℕ) → n < 2 ^ 64 → All IsNameByte (decimal n)
decimal_named n few = digits_named (decimal n) (decimal_is_IsNumeral n few).0.1

-- letters
letter : (c : ℕ) → 97 ≤ c → IsNameByte c
letter c low = (λ is. omega (arith, is, low), λ is. omega (arith, is, low))

abbrev Letters : List ℕ → Type 0
Letters [] = Unit {0}
Letters (c ∷ cs) = (97 ≤ c) × Letters cs

letters_named : (cs : List ℕ) → Letters cs → All IsNameByte cs
letters_named [] all = All-nil IsNameByte
letters_named (c ∷ cs) all = All-cons IsNameByte c cs (letter c all.0) (letters_named cs all.1)

begin_named : (recovery : Bool) → All IsNameByte (begin_word recovery)
begin_named true =
    letters_named (codes "recover") (omega arith, (omega arith, (omega arith, (omega arith, (omega arith, (omega arith, (omega arith, tt)))))))
begin_named false = letters_named (codes "open") (omega arith, (omega arith, (omega arith, (omega arith, tt))))

send_named : All IsNameByte (codes "send")
send_named = letters_named (codes "send") (omega arith, (omega arith, (omega arith, (omega arith, tt))))

end_named : All IsNameByte (codes "end")
end_named = letters_named (codes "end") (omega arith, (omega arith, (omega arith, tt)))

clock_named : All IsNameByte (codes "clock")
clock_named = letters_named (codes "clock") (omega arith, (omega arith, (omega arith, (omega arith, (omega arith, tt)))))

abbrev Named : List (List ℕ) → Type 0
Named words = All (All IsNameByte) words

and_word : (word : List ℕ) (words : List (List ℕ)) → All IsNameByte word → Named words → Named (word ∷ words)
and_word word words named all = All-cons (All IsNameByte) word words named all

-- the words of a step
pub words_named : (step : ScriptStep) → IsWithin step → All (All IsNameByte) (words_of step)
words_named (Begin connection peer) (low, user, groups) =
    and_word (begin_word peer.recovery) (decimal connection ∷ peer.user ∷ peer.groups) (begin_named peer.recovery)
    (and_word (decimal connection) (peer.user ∷ peer.groups) (decimal_named connection (omega (arith, low)))
    (and_word peer.user peer.groups user.bytes (All-weaker IsName (All IsNameByte) (λ name is. is.bytes) peer.groups groups)))
words_named (Piece connection bytes) (low, few) =
    and_word (codes "send") (decimal connection ∷ decimal (length bytes) ∷ []) send_named
    (and_word (decimal connection) (decimal (length bytes) ∷ []) (decimal_named connection (omega (arith, low)))
    (and_word (decimal (length bytes)) [] (decimal_named (length bytes) (omega (arith, few))) (All-nil (All IsNameByte))))
words_named (End connection) low =
    and_word (codes "end") (decimal connection ∷ []) end_named
    (and_word (decimal connection) [] (decimal_named connection (omega (arith, low))) (All-nil (All IsNameByte)))
words_named (Reading at) low =
    and_word (codes "clock") (decimal at ∷ []) clock_named
    (and_word (decimal at) [] (decimal_named at (omega (arith, low))) (All-nil (All IsNameByte)))

-- words with single spaces between them have no line feed
pub spaced_line : (words : List (List ℕ)) → All (All IsNameByte) words → All (λ x. x ≢ line_feed) (spaced words)
spaced_line [] named = All-nil (λ x. x ≢ line_feed)
spaced_line (word ∷ []) named =
    All-weaker IsNameByte (λ x. x ≢ line_feed) (λ x is. is.1) word (All-head (All IsNameByte) word [] named)
spaced_line (word ∷ (next ∷ words)) named =
    All-append (λ x. x ≢ line_feed) word (blank ∷ spaced (next ∷ words))
    (All-weaker IsNameByte (λ x. x ≢ line_feed) (λ x is. is.1) word (All-head (All IsNameByte) word (next ∷ words) named))
    (All-cons (λ x. x ≢ line_feed) blank (spaced (next ∷ words)) (λ is. omega (arith, is))
    (spaced_line (next ∷ words) (All-tail (All IsNameByte) word (next ∷ words) named)))
