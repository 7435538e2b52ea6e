-- The pieces of a text, one after another.
use Rattle.std.proofs.Common.{◌≡◌, ◌<◌, ◌≤◌, ◌+◌, ℕ, suc, Bool, true, false, cond, not, List, [], ◌∷◌, length, take, drop, Some, None, refl, sym, ap, subst, ◌∙◌, arith}
use Rattle.std.specs.Prelude.{position}
use Rattle.std.specs.List.{onto_first, position_or_len, slice_split}
use Rattle.std.proofs.lemmas.Bool.{lt-ltb, ltb-true}
use Rattle.std.proofs.lemmas.List.Splits.{slice_split_first}
use Rattle.nc_protocol.specs.ModuleNames.{is_apart}
use Rattle.nc_print.specs.inner.Pieces.{IsOnePiece, EndsAt}

one_case : (p : ℕ → Bool) (c : ℕ) (cs : List ℕ) (b : Bool) → p c ≡ b → suc (length cs) ≤ cond (not (p c)) (1 + position_or_len p cs) 0 →
    (length cs ≤ position_or_len p cs → slice_split p cs ≡ cs ∷ []) → cond (p c) ([] ∷ slice_split p cs) (onto_first c (slice_split p cs)) ≡ (c ∷ cs) ∷ []
one_case p c cs true is small inner =
    let P : Bool → Type 0 = λ b. suc (length cs) ≤ cond (not b) (1 + position_or_len p cs) 0 in
    let far : suc (length cs) ≤ 0 = subst P is small in absurd (omega arith)
one_case p c cs false is small inner =
    let P : Bool → Type 0 = λ b. suc (length cs) ≤ cond (not b) (1 + position_or_len p cs) 0 in
    let near : suc (length cs) ≤ 1 + position_or_len p cs = subst P is small in
    ap (λ b. cond b ([] ∷ slice_split p cs) (onto_first c (slice_split p cs))) is ∙ ap (onto_first c) (inner (omega arith))

one_piece : (p : ℕ → Bool) (text : List ℕ) → length text ≤ position_or_len p text → slice_split p text ≡ text ∷ []
one_piece p [] small = refl
one_piece p (c ∷ cs) small = one_case p c cs (p c) refl small (one_piece p cs)

none_case : (b : Bool) (n : ℕ) → None ≡ cond b (Some n) None → ¬ (b ≡ true)
none_case true n is t = cc
none_case false n is t = cc

at_least : (a b : ℕ) → ¬ (a < b) → b ≤ a
at_least a b never = grind arith

pub is_one : (text : List ℕ) → None ≡ position is_apart text → IsOnePiece text
is_one text is =
    one_piece is_apart text (at_least (position_or_len is_apart text) (length text)
    (λ less. none_case _ (position_or_len is_apart text) is (lt-ltb (position_or_len is_apart text) (length text) less)))

some_case : (b : Bool) (n end : ℕ) → Some end ≡ cond b (Some n) None → (end ≡ n) × (b ≡ true)
some_case true n end is = (cc, refl)
some_case false n end is = absurd (let some : Some end ≡ None = is in cc)

pub ends_at : (text : List ℕ) (end : ℕ) → Some end ≡ position is_apart text → EndsAt text end
ends_at text end is =
    let found = some_case _ (position_or_len is_apart text) end is in
    let within : position_or_len is_apart text < length text = ltb-true (position_or_len is_apart text) (length text) found.1 in
    record {
      within = omega (arith, found.0);
      pieces = slice_split_first is_apart text 0 within ∙ ap (λ n. take n text ∷ slice_split is_apart (drop (n + 1) text)) (sym found.0);
    }
