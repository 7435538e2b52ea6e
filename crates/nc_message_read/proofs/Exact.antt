-- A message has one reading.
use Rattle.std.proofs.Common.{◌≡◌, ℕ, ◌<◌, List, [], ◌∷◌, ◌++◌, length, None, Some, refl, sym, ap, subst, ◌∙◌, append_assoc, append-nil, arith, inl, inr}
use Rattle.std.specs.Prelude.{◌⊎◌}
use Rattle.nc_message.specs.declared.tree.Elem.{Elem}
use Rattle.nc_message.specs.Tokens.{Token}
use Rattle.nc_message.specs.Pieces.{token}
use Rattle.nc_message_read.specs.inner.Reads.{state, begin}
use Rattle.nc_message_read.specs.inner.Fits.{go}
use Rattle.nc_message.specs.Spells.{Spells}
use Rattle.nc_message.specs.Faults.{IsCut, IsMisfit, IsEarly, Stops}
use Rattle.nc_message_read.specs.Laws.{OneTree, NoTreeAtFault}
use Rattle.nc_message_read.proofs.Spelled.{spelled_go}

-- a cut into all tokens goes on from any other
record Onward (xs ys : List Token) (rest : List ℕ) : Type 0 where
  more : List Token
  whole : xs ≡ ys ++ more
  cut : IsCut rest more []

same_pair : (p q : Token × List ℕ) → Some p ≡ Some q → p ≡ q
same_pair p q e = cc e

same_token : (text a b : List ℕ) (j k : Token) → token text ≡ Some (j, a) → token text ≡ Some (k, b) → (j ≡ k) × (a ≡ b)
same_token text a b j k e h = let p = same_pair (j, a) (k, b) (sym e ∙ h) in (ap (λ (x : Token × List ℕ). x.0) p, ap (λ (x : Token × List ℕ). x.1) p)

onward : (text : List ℕ) (xs ys : List Token) (rest : List ℕ) → IsCut text xs [] → IsCut text ys rest → Onward xs ys rest
onward text xs [] rest c d = record { more = xs; whole = refl; cut = subst (λ t. IsCut t xs []) d c }
onward text [] (k ∷ ks) rest c d = absurd (none text c d.1) where
  none : (text : List ℕ) → text ≡ [] → 0 < length text → ⊥
  none [] e less = omega (arith, less)
  none (x ∷ xs) e less = cc e
onward text (j ∷ js) (k ∷ ks) rest c d =
    let s = same_token text c.0 d.0 j k c.2 d.2 in
    let o = onward c.0 js ks rest c.3 (subst (λ t. IsCut t ks rest) (sym s.1) d.3) in
    record { more = o.more; whole = ap (λ x. x ∷ js) s.0 ∙ ap (λ l. k ∷ l) o.whole; cut = o.cut }

no_bytes : (text : List ℕ) → text ≡ [] → 0 < length text → ⊥
no_bytes [] e less = omega (arith, less)
no_bytes (x ∷ xs) e less = cc e

-- what stands after the longest beginning does not go on to a tree
misfit_ends : (before : List Token) (rest : List ℕ) (root : Elem) (more : List Token) → IsCut rest more [] → 0 < length rest → Spells (before ++ more) root → IsMisfit before rest → ⊥
misfit_ends before rest root [] c some spelled m = no_bytes rest c some
misfit_ends before rest root (k ∷ ks) c some spelled m =
    let same = same_token rest c.0 m.1 k m.0 c.2 m.2 in
    let joined : before ++ k ∷ ks ≡ (before ++ m.0 ∷ []) ++ ks = ap (λ x. before ++ x ∷ ks) same.0 ∙ sym (append_assoc before (m.0 ∷ []) ks) in
    m.3 (record { more = ks; root = root; spells = subst (λ l. Spells l root) joined spelled })

torn_ends : (rest : List ℕ) (more : List Token) → IsCut rest more [] → 0 < length rest → token rest ≡ None → ⊥
torn_ends rest [] c some t = no_bytes rest c some
torn_ends rest (k ∷ ks) c some t = absurd (cc (c.2, t))

early_ends : (before : List Token) (rest : List ℕ) (root : Elem) (more : List Token) → IsCut rest more [] → Spells (before ++ more) root → IsEarly before rest → ⊥
early_ends before rest root [] c spelled e = e.1 root (subst (λ l. Spells l root) (append-nil before) spelled)
early_ends before rest root (k ∷ ks) c spelled e = no_bytes rest e.0 c.1

stop_ends : (before : List Token) (rest : List ℕ) (root : Elem) (more : List Token) → IsCut rest more [] → 0 < length rest → Spells (before ++ more) root
    → IsMisfit before rest ⊎ (token rest ≡ None) → ⊥
stop_ends before rest root more c some spelled (inl m) = misfit_ends before rest root more c some spelled m
stop_ends before rest root more c some spelled (inr t) = torn_ends rest more c some t

ends : (before : List Token) (rest : List ℕ) (root : Elem) (more : List Token) → IsCut rest more [] → Spells (before ++ more) root
    → Stops before rest ⊎ IsEarly before rest → ⊥
ends before rest root more c spelled (inl s) = stop_ends before rest root more c s.0 spelled s.1
ends before rest root more c spelled (inr e) = early_ends before rest root more c spelled e

pub no_tree_at_fault : NoTreeAtFault
no_tree_at_fault bytes at why tree s t =
    let o = onward bytes t.tokens s.before s.rest t.cut s.cut in
    ends s.before s.rest tree.root o.more o.cut (subst (λ l. Spells l tree.root) o.whole t.spells) s.ends

pub one_tree : OneTree
one_tree bytes a b s t =
    let o = onward bytes s.tokens t.tokens [] s.cut t.cut in
    ap (λ r. record { root = r }) (same_at s.tokens t.tokens o.more a.root b.root o.whole o.cut (spelled_go s.tokens a.root s.spells) (spelled_go t.tokens b.root t.spells)) where
      same_root : (a b : Elem) → Some (state [] (Some a)) ≡ Some (state [] (Some b)) → a ≡ b
      same_root a b e = let h : state [] (Some a) ≡ state [] (Some b) = cc e in let r : Some a ≡ Some b = ap (λ t. t.root) h in cc r

      same_at : (xs ys more : List Token) (a b : Elem) → xs ≡ ys ++ more → IsCut [] more [] → go begin xs ≡ Some (state [] (Some a)) → go begin ys ≡ Some (state [] (Some b)) → a ≡ b
      same_at xs ys [] a b e c g h = same_root a b (sym g ∙ ap (go begin) (e ∙ append-nil ys) ∙ h)
      same_at xs ys (k ∷ ks) a b e c g h = absurd (no_bytes [] refl c.1)
