-- Words with single spaces between them.
use Rattle.std.proofs.Common.{◌≡◌, ◌≢◌, ◌<◌, ℕ, Bool, true, false, cond, eqb, List, [], ◌∷◌, ◌++◌, length, get_or, Option, Some, None, refl, sym, ap, subst, ◌∙◌, eq-eqb, arith}
use Rattle.std.proofs.lemmas.Bool.{eqb-true}
use Rattle.std.specs.List.{All, after_first, before_first, onto_first, position_or_len, slice_split}
use Rattle.std.proofs.lemmas.List.Elements.{All-cons, All-from_get_or, All-head, All-nil, All-tail, All-weaker}
use Rattle.std.proofs.lemmas.List.Splits.{join_with_byte-slice_split, slice_split_at, slice_split_first, slice_split_none}
use Rattle.std.proofs.lemmas.List.Sums.{fails_before_first}
use Rattle.nc_names.specs.Signs.{blank, line_feed}
use Rattle.nc_script_text.specs.Lines.{IsNameByte, spaced}
use Rattle.nc_script_text.specs.inner.Heads.{cut, is_blank, words_in}

pub cut_once : (text word rest : List ℕ) → position_or_len is_blank text < length text → word ≡ before_first is_blank text
    → rest ≡ after_first is_blank text → cut text ≡ word ∷ words_in (Some rest)
cut_once text word rest there before after =
    slice_split_first is_blank text 0 there ∙ (λ i. sym before i ∷ cut (sym after i))

pub cut_last : (text : List ℕ) → position_or_len is_blank text ≡ length text → cut text ≡ text ∷ words_in None
cut_last text e =
    slice_split_none is_blank text
    (All-from_get_or (λ x. is_blank x ≡ false) text 0
    (λ i lt. fails_before_first is_blank text i 0 (subst (λ n. i < n) (sym e) lt)))

false_from : (b : Bool) → (b ≡ true → ⊥) → b ≡ false
false_from true not = absurd (not refl)
false_from false not = refl

not_blank : (x : ℕ) → IsNameByte x → is_blank x ≡ false
not_blank x named = false_from (is_blank x) (λ is. named.0 (eqb-true x blank is))

-- words that have no space are the words of the text that they are with single spaces between them
pub cut_spaced : (word : List ℕ) (more : List (List ℕ)) → All (All IsNameByte) (word ∷ more)
    → cut (spaced (word ∷ more)) ≡ word ∷ more
cut_spaced word [] named =
    slice_split_none is_blank word
    (All-weaker IsNameByte (λ x. is_blank x ≡ false) not_blank word (All-head (All IsNameByte) word [] named))
cut_spaced word (next ∷ more) named =
    slice_split_at is_blank word blank (spaced (next ∷ more))
    (All-weaker IsNameByte (λ x. is_blank x ≡ false) not_blank word (All-head (All IsNameByte) word (next ∷ more) named)) refl
    ∙ ap (λ parts. word ∷ parts) (cut_spaced next more (All-tail (All IsNameByte) word (next ∷ more) named))

-- a text is its words with single spaces between them
pub spaced_cut : (text : List ℕ) → spaced (cut text) ≡ text
spaced_cut text = join_with_byte-slice_split blank text

onto : (x : ℕ) (parts : List (List ℕ)) → IsNameByte x → All (All IsNameByte) parts → All (All IsNameByte) (onto_first x parts)
onto x [] named all =
    All-cons (All IsNameByte) (x ∷ []) [] (All-cons IsNameByte x [] named (All-nil IsNameByte)) (All-nil (All IsNameByte))
onto x (part ∷ parts) named all =
    All-cons (All IsNameByte) (x ∷ part) parts
    (All-cons IsNameByte x part named (All-head (All IsNameByte) part parts all)) (All-tail (All IsNameByte) part parts all)

put : (b : Bool) (x : ℕ) (parts : List (List ℕ)) → (b ≡ false → IsNameByte x) → All (All IsNameByte) parts
    → All (All IsNameByte) (cond b ([] ∷ parts) (onto_first x parts))
put true x parts named all = All-cons (All IsNameByte) [] parts (All-nil IsNameByte) all
put false x parts named all = onto x parts (named refl) all

-- the words of a text without line feeds have neither spaces nor line feeds
pub cut_named : (text : List ℕ) → All (λ x. x ≢ line_feed) text → All (All IsNameByte) (cut text)
cut_named [] none = All-cons (All IsNameByte) [] [] (All-nil IsNameByte) (All-nil (All IsNameByte))
cut_named (x ∷ text) none =
    put (is_blank x) x (cut text)
    (λ is. (λ same. absurd (differ (is_blank x) (eq-eqb x blank same) is), All-head (λ b. b ≢ line_feed) x text none))
    (cut_named text (All-tail (λ b. b ≢ line_feed) x text none))
  where
    differ : (b : Bool) → b ≡ true → b ≡ false → ⊥
    differ b one other = cc (one, other)
