-- Where a line ends.
use Rattle.std.proofs.Common.{◌≡◌, ◌≢◌, ◌<◌, ◌≤◌, ◌+◌, ℕ, suc, Bool, true, false, List, ◌∷◌, ◌++◌, length, take, drop, get_or, Option, None, Some, refl, sym, ap, subst, ◌∙◌, eq-eqb, length-take, arith}
use Rattle.std.proofs.lemmas.Bool.{eqb-true, false_from_ne_true}
use Rattle.std.specs.List.{All}
use Rattle.std.specs.Str.{IsUtf8, is_utf8}
use Rattle.std.proofs.lemmas.List.{get_or-take, take-append-drop}
use Rattle.std.proofs.lemmas.List.Elements.{All-from_get_or}
use Rattle.std.proofs.lemmas.Str.{IsUtf8-from_is_utf8, is_utf8-from_IsUtf8}
use Rattle.std.proofs.Math.Seq.{drop-cons}
use Rattle.memchr.specs.Find.{IsFirstByte, is_byte}
use Rattle.nc_names.specs.Signs.{line_feed}
use Rattle.nc_script_text.specs.inner.Heads.{EndsAt}

pub utf8_no : (bs : List ℕ) → (IsUtf8 bs → ⊥) → is_utf8 bs ≡ false
utf8_no bs h = false_from_ne_true (is_utf8 bs) (λ e. h (IsUtf8-from_is_utf8 bs e))

pub utf8_yes : (bs : List ℕ) → IsUtf8 bs → is_utf8 bs ≡ true
utf8_yes bs h = is_utf8-from_IsUtf8 bs h

abbrev NotFeed : ℕ → Type 0
NotFeed x = x ≢ line_feed

next : (end : ℕ) → suc end ≡ end + 1
next end = omega arith

no_earlier : (text : List ℕ) (end : ℕ) → end < length text → ((k : ℕ) → 0 ≤ k → k < end → is_byte 10 (get_or text k 0) ≡ true → ⊥)
    → (i : ℕ) → i < length (take end text) → NotFeed (get_or (take end text) i 0)
no_earlier text end there before i within is =
    let low : i < end = omega (arith, within, length-take end text) in
    before i (omega arith) low (eq-eqb (get_or text i 0) 10 (sym (get_or-take end text i 0 low) ∙ is))

pub ends_at : (text : List ℕ) (result : Option ℕ) → IsFirstByte (is_byte 10) text result → EndsAt text result
ends_at text None nowhere =
    All-from_get_or NotFeed text 0 (λ i within is. nowhere i (omega arith) within (eq-eqb (get_or text i 0) 10 is))
ends_at text (Some end) (first, passes) =
    let feed : get_or text end 0 ≡ line_feed = eqb-true (get_or text end 0) 10 passes in (
      first.high,
      All-from_get_or NotFeed (take end text) 0 (no_earlier text end first.high first.before),
      sym (take-append-drop end text)
          ∙ ap (λ rest. take end text ++ rest)
          (drop-cons text end 0 first.high
          ∙ (ap (λ x. x ∷ drop (suc end) text) feed ∙ ap (λ n. line_feed ∷ drop n text) (next end))),
    )
