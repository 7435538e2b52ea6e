-- A double-quoted string, one character after another.
use Rattle.std.proofs.Common.{◌≡◌, ℕ, ◌+◌, List, ◌∷◌, ◌++◌, Option, Some, None, refl, ap, sym, ◌∙◌, append_assoc}
use Rattle.nc_yang_words.specs.inner.Streams.{double, with_front, reads}
use Rattle.nc_yang_words.specs.declared.double.Double.{Double}
use Rattle.nc_yang_words.specs.declared.double.Quoted.{Quoted}

-- bytes before bytes before a string
pub front_twice : (a b : List ℕ) (string : Option Quoted) → with_front a (with_front b string) ≡ with_front (a ++ b) string
front_twice a b None = refl
front_twice a b (Some q) = ap (λ t. Some (record { text = t; count = q.count })) (sym (append_assoc a b q.text))

-- a reader that has put bytes to its text and goes on
pub moved : (d e : Double) (front : List ℕ) (n c : ℕ) (cs : List ℕ)
    → e.text ≡ d.text ++ front
    → double d.width d.room d.held.items d.escaped n (c ∷ cs) ≡ with_front front (double e.width e.room e.held.items e.escaped (n + 1) cs)
    → reads d n (c ∷ cs) ≡ reads e (n + 1) cs
moved d e front n c cs text here =
    ap (with_front d.text) here
    ∙ (front_twice d.text front (double e.width e.room e.held.items e.escaped (n + 1) cs)
    ∙ ap (λ t. with_front t (double e.width e.room e.held.items e.escaped (n + 1) cs)) (sym text))
