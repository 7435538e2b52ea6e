-- Texts have numbers for their statements: layer after layer, each of what stands directly in the statements of the one
-- before.
use Rattle.std.proofs.Common.{inl, inr, ◌≡◌, ◌<◌, ◌+◌, ◌-◌, ℕ, zero, suc, List, [], ◌∷◌, ◌++◌, length, take, refl, sym, ap, subst, ◌∙◌, append_assoc, arith}
use Rattle.std.proofs.lemmas.List.{append-nil, length-append}
use Rattle.std.proofs.lemmas.Bool.{cases_lt}
use Rattle.std.proofs.Math.Seq.{take-append-add}
use Rattle.nc_yang_words.specs.declared.statement.Statement.{Statement}
use Rattle.nc_yang_scopes.specs.Numbers.{Entry, IsScoping, children, located, opened, roots}
use Rattle.nc_yang_scopes.specs.Scopes.{Scoping}

-- so many layers more, of which the first has its numbers from that one on
abbrev pub layers : (more : ℕ) → (number : ℕ) → List Entry → List Entry
layers zero number layer = layer
layers (suc more) number layer = layer ++ layers more (number + length layer) (opened number layer)

-- nothing stands in the statements of the last
abbrev pub End : (more : ℕ) → (number : ℕ) → List Entry → Type 0
End zero number layer = opened number layer ≡ []
End (suc more) number layer = End more (number + length layer) (opened number layer)

opened_more : (number : ℕ) (xs ys : List Entry) → opened number (xs ++ ys) ≡ opened number xs ++ opened (number + length xs) ys
opened_more number [] ys = ap (λ n. opened n ys) (omega arith)
opened_more number (x ∷ xs) ys =
    let same : number + 1 + length xs ≡ number + suc (length xs) = omega arith in
    ap (λ zs. children number x ++ zs) (opened_more (number + 1) xs ys ∙ ap (λ n. opened (number + 1) xs ++ opened n ys) same)
    ∙ sym (append_assoc (children number x) (opened (number + 1) xs) (opened (number + suc (length xs)) ys))

-- so a layer with all that follow it is that layer, and what stands in all of them
pub whole : (more number : ℕ) (layer : List Entry) → End more number layer → layers more number layer ≡ layer ++ opened number (layers more number layer)
whole zero number layer ends = sym (ap (λ z. layer ++ z) ends ∙ append-nil layer)
whole (suc more) number layer ends =
    ap (λ z. layer ++ z) (whole more (number + length layer) (opened number layer) ends
    ∙ sym (opened_more number layer (layers more (number + length layer) (opened number layer))))

-- and each stands in one of lower number
past_layer : (number : ℕ) (layer rest : List Entry) (j : ℕ) → j < length (opened number layer) + length (opened (number + length layer) (take j rest)) →
    length layer + j < length layer + length (opened number (take (length layer + j) (layer ++ rest)))
past_layer number layer rest j less =
    let cut : opened number (take (length layer + j) (layer ++ rest)) ≡ opened number layer ++ opened (number + length layer) (take j rest)
    = ap (opened number) (take-append-add layer rest j) ∙ opened_more number layer (take j rest) in
    let long = ap length cut ∙ length-append (opened number layer) (opened (number + length layer) (take j rest)) in
    omega (arith, less, long)

later : (more number : ℕ) (layer : List Entry) (k : ℕ) → k < length (layers more number layer) →
    k < length layer + length (opened number (take k (layers more number layer)))
later zero number layer k less = omega (arith, less)
later (suc more) number layer k less = elim (cases_lt k (length layer)) [
  | inl first ↦ omega (arith, first)
  | inr past ↦
      let total = length-append layer (layers more (number + length layer) (opened number layer)) in
      let is : length layer + (k - length layer) ≡ k = omega (arith, past) in
      subst (λ z. z < length layer + length (opened number (take z (layer ++ layers more (number + length layer) (opened number layer))))) is
      (past_layer number layer (layers more (number + length layer) (opened number layer)) (k - length layer)
      (later more (number + length layer) (opened number layer) (k - length layer) (omega (arith, less, total, past))))
]

roots_length : (number : ℕ) (ss : List Statement) → length (roots number ss) ≡ length ss
roots_length number [] = refl
roots_length number (s ∷ ss) = ap suc (roots_length (number + 1) ss)

-- the statements of texts with their numbers, so many layers deep
abbrev pub numbered : List Statement → (more : ℕ) → Scoping
numbered texts more = record { texts = texts; located = located (layers more 0 (roots 0 texts)) }

pub is_numbered : (texts : List Statement) (more : ℕ) → End more 0 (roots 0 texts) → IsScoping (numbered texts more)
is_numbered texts more ends = record {
  entries = layers more 0 (roots 0 texts);
  whole = whole more 0 (roots 0 texts) ends;
  later = λ number less.
      subst (λ z. number < z + length (opened 0 (take number (layers more 0 (roots 0 texts))))) (roots_length 0 texts)
      (later more 0 (roots 0 texts) number less);
  places = refl;
}
