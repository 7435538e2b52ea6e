-- The bytes that a step sends.
use Rattle.std.proofs.Common.{◌≡◌, ◌≢◌, ◌<◌, ◌≤◌, ◌+◌, ◌^◌, ℕ, suc, Bool, true, false, List, [], ◌∷◌, ◌++◌, length, take, drop, get_or, Result, Ok, Err, refl, sym, ap, subst, ◌∙◌, arith, append_assoc, length-append}
use Rattle.std.specs.Prelude.{codes}
use Rattle.std.specs.Fmt.{decimal}
use Rattle.std.specs.Str.Parse.{digits_value}
use Rattle.std.proofs.lemmas.Fmt.{decimal_is_IsNumeral}
use Rattle.std.proofs.lemmas.List.{take-append-drop}
use Rattle.std.proofs.Math.Seq.{drop-cons}
use Rattle.nc_names.specs.Signs.{line_feed}
use Rattle.nc_script_text.specs.Lines.{IsWithin, begin_word, body_of, words_of}
use Rattle.nc_script_text.specs.inner.Heads.{Completes, IsBody, IsCompleted, IsHead, head_words, size_of, step_of}
use Rattle.nc_script_text.specs.declared.fault.LineFault.{LineFault}
use Rattle.nc_script_text.specs.declared.fault.LineFault.TheVariants.{Bad, Memory}
use Rattle.nc_script_text.specs.declared.head.Head.{Head}
use Rattle.nc_script_text.specs.declared.head.Head.TheVariants.{Begin as HeadBegin, Send, End as HeadEnd, Clock}
use Rattle.nc_script_text.specs.declared.line.Found.{Found}
use Rattle.nc_script_text.specs.declared.step.ScriptStep.{ScriptStep}
use Rattle.nc_script_text.specs.declared.step.ScriptStep.TheVariants.{Begin, Piece, End, Reading}

pub body_short : (text : List ℕ) (size : ℕ) → length text ≤ size → IsBody text size (Err Bad)
body_short text size short bytes more is e =
    omega (arith, short, is, ap length e, length-append bytes (line_feed ∷ more))

get_after : (bytes more : List ℕ) → get_or (bytes ++ line_feed ∷ more) (length bytes) 0 ≡ line_feed
get_after [] more = refl
get_after (b ∷ bytes) more = get_after bytes more

pub body_other : (text : List ℕ) (size : ℕ) → get_or text size 0 ≢ line_feed → IsBody text size (Err Bad)
body_other text size other bytes more is e =
    other (ap (λ t. get_or t size 0) e ∙ (ap (λ n. get_or (bytes ++ line_feed ∷ more) n 0) (sym is) ∙ get_after bytes more))

pub body_there : (text bytes : List ℕ) (size : ℕ) → size < length text → get_or text size 0 ≡ line_feed → bytes ≡ take size text
    → length bytes ≡ size → IsBody text size (Ok bytes)
body_there text bytes size within feed is long = (
  sym (take-append-drop size text)
      ∙ ((λ i. sym is i ++ drop size text)
      ∙ ap (λ rest. bytes ++ rest)
      (drop-cons text size 0 within ∙ (ap (λ x. x ∷ drop (suc size) text) feed ∙ ap (λ n. line_feed ∷ drop n text) next))),
  long,
)
  where
    next : suc size ≡ size + 1
    next = omega arith

same_number : (m n : ℕ) → m < 2 ^ 64 → n < 2 ^ 64 → decimal m ≡ decimal n → m ≡ n
same_number m n few some e =
    sym (decimal_is_IsNumeral m few).1 ∙ (ap (digits_value 10) e ∙ (decimal_is_IsNumeral n some).1)

abbrev first : List ℕ → ℕ
first [] = 0
first (c ∷ cs) = c

begin_other : (recovery : Bool) → begin_word recovery ≢ codes "send"
begin_other true e = let letters : 114 ≡ 115 = ap first e in omega (arith, letters)
begin_other false e = let letters : 111 ≡ 115 = ap first e in omega (arith, letters)

end_other : codes "end" ≢ codes "send"
end_other e = let letters : 101 ≡ 115 = ap first e in omega (arith, letters)

clock_other : codes "clock" ≢ codes "send"
clock_other e = let letters : 99 ≡ 115 = ap first e in omega (arith, letters)

abbrev word_first : List (List ℕ) → List ℕ
word_first [] = []
word_first (word ∷ words) = word

abbrev word_third : List (List ℕ) → List ℕ
word_third (one ∷ two ∷ three ∷ words) = three
word_third words = []

no_bytes : (connection size : ℕ) (after : List ℕ) → IsBody after size (Err Bad) → (step : ScriptStep) (more : List ℕ)
    → IsHead (Send connection size) → IsWithin step → words_of step ≡ head_words (Send connection size) → after ≢ body_of step ++ more
no_bytes connection size after none (Begin c peer) more head within words e = begin_other peer.recovery (ap word_first words)
no_bytes connection size after none (Piece c bytes) more head within words e =
    none bytes more
    (same_number (length bytes) size (omega (arith, within.1)) (omega (arith, head.1)) (ap word_third words))
    (e ∙ append_assoc bytes (line_feed ∷ []) more)
no_bytes connection size after none (End c) more head within words e = end_other (ap word_first words)
no_bytes connection size after none (Reading at) more head within words e = clock_other (ap word_first words)

pub body_refused : (connection size : ℕ) (after : List ℕ) (fault : LineFault) → IsBody after size (Err fault)
    → Completes (Send connection size) after (Err fault)
body_refused connection size after Bad none = no_bytes connection size after none
body_refused connection size after Memory none = tt

pub body_found : (connection size : ℕ) (after bytes : List ℕ) → IsBody after size (Ok bytes)
    → Completes (Send connection size) after (Ok (record { step = Piece connection bytes; len = size + 1 }))
body_found connection size after bytes (is, long) = record {
  bytes = bytes;
  size_is = long;
  step_is = refl;
  few = omega (arith, long, ap length is, length-append bytes (line_feed ∷ drop (size + 1) after));
  body = is ∙ sym (append_assoc bytes (line_feed ∷ []) (drop (size + 1) after));
}

-- a step of a line alone
pub no_body : (head : Head) (after : List ℕ) (found : Found) → found.step ≡ step_of head [] → body_of found.step ≡ []
    → size_of head ≡ 0 → found.len ≡ 0 → IsCompleted head after found
no_body head after found step none size len = record {
  bytes = [];
  size_is = sym size;
  step_is = step;
  few = omega (arith, len);
  body = sym (ap (λ b. b ++ drop found.len after) none ∙ ap (λ n. drop n after) len);
}
