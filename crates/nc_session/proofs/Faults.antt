-- A message has one reading: one tree, or one fault.
use Rattle.std.proofs.Common.{◌≡◌, ◌⊎◌, inl, inr, ℕ, List, [], ◌∷◌, ◌++◌, length, refl, sym, ap, subst, ◌∙◌, ◌-◌, append_assoc, arith, Option, Some, None, Result, Ok, Err}
use Rattle.std.specs.Str.{is_utf8}
use Rattle.std.proofs.lemmas.Option.{same_Some}
use Rattle.nc_message.specs.declared.tree.Tree.{Tree}
use Rattle.nc_message.specs.declared.tree.Why.{Why}
use Rattle.nc_message.specs.Faults.{IsCut, Fits, Stops, IsEarly, IsFault, open_in, why_at}
use Rattle.nc_message.specs.Spells.{Spells}
use Rattle.nc_message.specs.Tokens.{Token}
use Rattle.nc_message_read.proofs.Exact.{one_tree, no_tree_at_fault}
use Rattle.nc_session.specs.declared.end.BadMessage.{BadMessage}
use Rattle.nc_session.specs.Requests.{IsReading}

-- two beginnings of whole tokens: the same, or one goes on after the other
data Cuts (ks : List Token) (rest : List ℕ) (ls : List Token) (other : List ℕ) : Type 0 where
  Same : ks ≡ ls → rest ≡ other → Cuts ks rest ls other
  Shorter : (l : Token) (more : List Token) → ls ≡ ks ++ l ∷ more → IsCut rest (l ∷ more) other → Cuts ks rest ls other
  Longer : (k : Token) (more : List Token) → ks ≡ ls ++ k ∷ more → IsCut other (k ∷ more) rest → Cuts ks rest ls other

one_next : {k l : Token} {next after : List ℕ} → ◌≡◌ {A = Option (Token × List ℕ)} (Some (k, next)) (Some (l, after)) → (k ≡ l) × (next ≡ after)
one_next {k} {l} {next} {after} is =
    let same : ◌≡◌ {A = Token × List ℕ} (k, next) (l, after) = same_Some {A = Token × List ℕ} (k, next) (l, after) is in
    (ap (λ (p : Token × List ℕ). p.0) same, ap (λ (p : Token × List ℕ). p.1) same)

both_cut : (ks ls : List Token) (text rest other : List ℕ) → IsCut text ks rest → IsCut text ls other → Cuts ks rest ls other
both_cut [] [] text rest other c d = Same refl (sym c ∙ d)
both_cut [] (l ∷ ls) text rest other c d = Shorter l ls refl (subst (λ (t : List ℕ). IsCut t (l ∷ ls) other) c d)
both_cut (k ∷ ks) [] text rest other c d = Longer k ks refl (subst (λ (t : List ℕ). IsCut t (k ∷ ks) rest) d c)
both_cut (k ∷ ks) (l ∷ ls) text rest other c d =
    let one = one_next (sym c.2 ∙ d.2) in
    by one.0 (both_cut ks ls c.0 rest other c.3 (subst (λ (t : List ℕ). IsCut t ls other) (sym one.1) d.3))
  where
    by : k ≡ l → Cuts ks rest ls other → Cuts (k ∷ ks) rest (l ∷ ls) other
    by is (Same tokens left) = Same (ap (λ x. x ∷ ks) is ∙ ap (λ x. l ∷ x) tokens) left
    by is (Shorter m more tokens cut) = Shorter m more (ap (λ x. l ∷ x) tokens ∙ ap (λ x. x ∷ (ks ++ m ∷ more)) (sym is)) cut
    by is (Longer m more tokens cut) = Longer m more (ap (λ x. k ∷ x) tokens ∙ ap (λ x. x ∷ (ls ++ m ∷ more)) is) cut

front_fits : (before : List Token) (l : Token) (more : List Token) → Fits (before ++ l ∷ more) → Fits (before ++ l ∷ [])
front_fits before l more f =
    let P : List Token → Type 0 = λ ts. Spells ts f.root in
    record {
      more = more ++ f.more;
      root = f.root;
      spells = subst P (append_assoc before (l ∷ more) f.more ∙ sym (append_assoc before (l ∷ []) (more ++ f.more))) f.spells;
    }

-- no whole token that fits stands after the longest beginning
no_longer : (before : List Token) (rest other : List ℕ) (l : Token) (more : List Token) → Stops before rest ⊎ IsEarly before rest → IsCut rest (l ∷ more) other
    → Fits (before ++ l ∷ more) → ⊥
no_longer before rest other l more (inl (some, inl (next, after, is, unfit))) cut fits =
    let one = one_next (sym is ∙ cut.2) in
    let P : Token → Type 0 = λ t. Fits (before ++ t ∷ []) in
    unfit (subst P (sym one.0) (front_fits before l more fits))
no_longer before rest other l more (inl (some, inr none)) cut fits = absurd (no_some (sym none ∙ cut.2))
  where
    no_some : {x : Token × List ℕ} → None ≡ Some x → ⊥
    no_some {x} is = cc
no_longer before rest other l more (inr (empty, early)) cut fits = omega (arith, ap length empty, cut.1)

pub one_fault : (bytes : List ℕ) (at place : ℕ) (why other : Why) → IsFault bytes at why → IsFault bytes place other → (at ≡ place) × (why ≡ other)
one_fault bytes at place why other f g = by (both_cut f.before g.before bytes f.rest g.rest f.cut g.cut)
  where
    by : Cuts f.before f.rest g.before g.rest → (at ≡ place) × (why ≡ other)
    by (Same tokens left) = (
      f.place ∙ ap (λ r. length bytes - length r) left ∙ sym g.place,
      f.why_is ∙ ap (λ ts. why_at (is_utf8 bytes) (open_in ts) f.rest) tokens ∙ ap (λ r. why_at (is_utf8 bytes) (open_in g.before) r) left ∙ sym g.why_is,
    )
    by (Shorter l more tokens cut) = absurd (no_longer f.before f.rest g.rest l more f.ends cut (subst Fits tokens g.fits))
    by (Longer k more tokens cut) = absurd (no_longer g.before g.rest f.rest k more g.ends cut (subst Fits tokens f.fits))

pub one_spelling : (bytes : List ℕ) (a b : Result Tree BadMessage) → IsReading bytes a → IsReading bytes b → a ≡ b
one_spelling bytes (Ok a) (Ok b) is other = ap Ok (one_tree bytes a b is other)
one_spelling bytes (Ok a) (Err b) is other = absurd (no_tree_at_fault bytes b.at b.why a other is)
one_spelling bytes (Err a) (Ok b) is other = absurd (no_tree_at_fault bytes a.at a.why b is other)
one_spelling bytes (Err a) (Err b) is other =
    let one = one_fault bytes a.at b.at a.why b.why is other in
    ap (λ n. Err (record { at = n; why = a.why })) one.0 ∙ ap (λ w. Err (record { at = b.at; why = w })) one.1
