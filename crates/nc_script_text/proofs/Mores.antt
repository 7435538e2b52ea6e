-- Lines with a word too many.
use Rattle.std.proofs.Common.{◌≡◌, ◌≢◌, ◌⊎◌, ℕ, Bool, true, false, cond, List, [], ◌∷◌, refl, sym, ap, ◌∙◌, inl, inr, arith}
use Rattle.std.specs.Prelude.{codes}
use Rattle.std.specs.Fmt.{decimal}
use Rattle.std.specs.List.{onto_first}
use Rattle.nc_script_text.specs.Lines.{begin_word}
use Rattle.nc_script_text.specs.inner.Heads.{IsHead, cut, head_words, is_blank}
use Rattle.nc_script_text.specs.declared.head.Head.{Head}
use Rattle.nc_script_text.specs.declared.head.Head.TheVariants.{Begin, Send, End, Clock}

onto_some : (x : ℕ) (parts : List (List ℕ)) → onto_first x parts ≢ []
onto_some x [] e = cc
onto_some x (part ∷ parts) e = cc

some_by : (b : Bool) (x : ℕ) (parts : List (List ℕ)) → cond b ([] ∷ parts) (onto_first x parts) ≢ []
some_by true x parts e = cc
some_by false x parts e = onto_some x parts e

cut_some : (text : List ℕ) → cut text ≢ []
cut_some [] e = cc
cut_some (x ∷ text) e = some_by (is_blank x) x (cut text) e

abbrev first : List (List ℕ) → ℕ
first [] = 0
first ([] ∷ words) = 0
first ((c ∷ cs) ∷ words) = c

abbrev after_two : List (List ℕ) → List (List ℕ)
after_two (one ∷ two ∷ words) = words
after_two words = []

abbrev after_three : List (List ℕ) → List (List ℕ)
after_three (one ∷ two ∷ three ∷ words) = words
after_three words = []

-- the first letters of the words that begin a line
begin_letter : (recovery : Bool) (words : List (List ℕ)) → (first (begin_word recovery ∷ words) ≡ 114) ⊎ (first (begin_word recovery ∷ words) ≡ 111)
begin_letter true words = inl refl
begin_letter false words = inr refl

not_begin : (n : ℕ) (recovery : Bool) (words others : List (List ℕ)) → n ≢ 114 → n ≢ 111 → first others ≡ n
    → others ≢ begin_word recovery ∷ words
not_begin n recovery words others one two is e = by (begin_letter recovery words)
  where
    by : (first (begin_word recovery ∷ words) ≡ 114) ⊎ (first (begin_word recovery ∷ words) ≡ 111) → ⊥
    by (inl letter) = one (sym is ∙ (ap first e ∙ letter))
    by (inr letter) = two (sym is ∙ (ap first e ∙ letter))

pub end_more : (number text : List ℕ) (head : Head) → IsHead head → codes "end" ∷ number ∷ cut text ≢ head_words head
end_more number text (Begin connection peer) is e =
    not_begin 101 peer.recovery (decimal connection ∷ peer.user ∷ peer.groups) (codes "end" ∷ number ∷ cut text)
    (λ n. omega (arith, n)) (λ n. omega (arith, n)) refl e
end_more number text (Send connection size) is e = let letters : 101 ≡ 115 = ap first e in omega (arith, letters)
end_more number text (End connection) is e = cut_some text (ap after_two e)
end_more number text (Clock at) is e = let letters : 101 ≡ 99 = ap first e in omega (arith, letters)

pub clock_more : (number text : List ℕ) (head : Head) → IsHead head → codes "clock" ∷ number ∷ cut text ≢ head_words head
clock_more number text (Begin connection peer) is e =
    not_begin 99 peer.recovery (decimal connection ∷ peer.user ∷ peer.groups) (codes "clock" ∷ number ∷ cut text)
    (λ n. omega (arith, n)) (λ n. omega (arith, n)) refl e
clock_more number text (Send connection size) is e = let letters : 99 ≡ 115 = ap first e in omega (arith, letters)
clock_more number text (End connection) is e = let letters : 99 ≡ 101 = ap first e in omega (arith, letters)
clock_more number text (Clock at) is e = cut_some text (ap after_two e)

more_than : (number size text : List ℕ) (head : Head) → IsHead head → codes "send" ∷ number ∷ size ∷ cut text ≢ head_words head
more_than number size text (Begin connection peer) is e =
    not_begin 115 peer.recovery (decimal connection ∷ peer.user ∷ peer.groups) (codes "send" ∷ number ∷ size ∷ cut text)
    (λ n. omega (arith, n)) (λ n. omega (arith, n)) refl e
more_than number size text (Send connection n) is e = cut_some text (ap after_three e)
more_than number size text (End connection) is e = let letters : 115 ≡ 101 = ap first e in omega (arith, letters)
more_than number size text (Clock at) is e = let letters : 115 ≡ 99 = ap first e in omega (arith, letters)

pub send_more : (number size text : List ℕ) (words : List (List ℕ)) (head : Head) → words ≡ size ∷ cut text → IsHead head
    → codes "send" ∷ number ∷ words ≢ head_words head
send_more number size text words head two is e =
    more_than number size text head is (ap (λ ws. codes "send" ∷ number ∷ ws) (sym two) ∙ e)
