-- All statements that stand in others.
use Rattle.std.proofs.Common.{inl, inr, ◌≡◌, ◌<◌, ◌≤◌, ◌+◌, ℕ, zero, suc, List, [], ◌∷◌, ◌++◌, sym, subst, take, ap, ◌∙◌}
use Rattle.std.specs.Prelude.{Contains, length, get_or, Option, Some, None, MatchOption, slice_get, ◌⊎◌, false}
use Rattle.std.proofs.lemmas.Option.{slice_get-get_or}
use Rattle.std.proofs.lemmas.List.{take_more, take_all}
use Rattle.nc_yang_words.specs.declared.statement.Statement.{Statement}
use Rattle.nc_yang_statements.specs.declared.fault.Fault.{Fault}
use Rattle.nc_yang_statements.specs.Keywords.{is_closed}
use Rattle.nc_yang_statements.specs.Statements.{below, kind, Stands, itself, inside, later}
use Rattle.nc_yang_statements.specs.Rules.{broken, Faulty, first, at, why_root, BreaksRule, KeepsRules}
use Rattle.nc_yang_statements.specs.inner.Judging.{Judges}
use Rattle.nc_yang_statements.proofs.Firsts.{first_contains, first_lacks}

stands_more : (xs ys : List Statement) (u : Statement) → Stands xs u → Stands (xs ++ ys) u
stands_more [] ys u d = elim d [ ]
stands_more (x ∷ xs) ys u (itself s ss) = itself x (xs ++ ys)
stands_more (x ∷ xs) ys u (inside s t ss c d) = inside x u (xs ++ ys) c d
stands_more (x ∷ xs) ys u (later s t ss d) = later x u (xs ++ ys) (stands_more xs ys u d)

stands_cases : (xs ys : List Statement) (u : Statement) → Stands (xs ++ ys) u → Stands xs u ⊎ Stands ys u
stands_cases [] ys u d = inr d
stands_cases (x ∷ xs) ys u (itself s ss) = inl (itself x xs)
stands_cases (x ∷ xs) ys u (inside s t ss c d) = inl (inside x u xs c d)
stands_cases (x ∷ xs) ys u (later s t ss d) = elim (stands_cases xs ys u d) [ inl e ↦ inl (later x u xs e) | inr e ↦ inr e ]

stands_in : (ss : List Statement) (i : ℕ) (t u : Statement) → slice_get ss i ≡ Some t → Stands (t ∷ []) u → Stands ss u
stands_in [] i t u e d = absurd (cc)
stands_in (x ∷ xs) zero t u e d = let same : t ≡ x = cc in subst (λ z. Stands (z ∷ xs) u) same (stands_more (t ∷ []) xs u d)
stands_in (x ∷ xs) (suc i) t u e d = later x u xs (stands_in xs i t u e d)

-- the item of a loop
item_at : {A : Type 0} (xs : List A) (i : ℕ) (x : A) → i < length xs → x ≡ get_or xs i x → slice_get xs i ≡ Some x
item_at xs i x lt is = slice_get-get_or xs i x lt ∙ ap Some (sym is)

take_next : {A : Type 0} (xs : List A) (i : ℕ) (x : A) → i < length xs → x ≡ get_or xs i x → take (i + 1) xs ≡ take i xs ++ x ∷ []
take_next xs i x lt is = take_more xs i x lt ∙ ap (λ z. take i xs ++ z ∷ []) (sym is)

pub faulty_here : (s : Statement) (fault : Fault) → Some fault ≡ first (broken s) → Faulty (s ∷ []) fault
faulty_here s fault e = record { statement = s; stands = itself s []; breaks = first_contains (broken s) fault (sym e) }

pub faulty_inside : (xs : List Statement) (s t : Statement) (i : ℕ) (fault : Fault) → is_closed (kind s) ≡ false → xs ≡ below s → i < length xs
    → t ≡ get_or xs i t → Faulty (t ∷ []) fault → Faulty (s ∷ []) fault
faulty_inside xs s t i fault is_open same lt is h = record {
  statement = h.statement;
  stands = inside s h.statement [] is_open (subst (λ z. Stands z h.statement) same (stands_in xs i t h.statement (item_at xs i t lt is) h.stands));
  breaks = h.breaks;
}

pub faultless_step : (xs : List Statement) (t : Statement) (i : ℕ) (fault : Fault) → i < length xs → t ≡ get_or xs i t
    → (Faulty (take i xs) fault → ⊥) → (Faulty (t ∷ []) fault → ⊥) → Faulty (take (i + 1) xs) fault → ⊥
faultless_step xs t i fault lt is a b h =
    elim (stands_cases (take i xs) (t ∷ []) h.statement (subst (λ z. Stands z h.statement) (take_next xs i t lt is) h.stands)) [
      | inl d ↦ a (record { statement = h.statement; stands = d; breaks = h.breaks })
      | inr d ↦ b (record { statement = h.statement; stands = d; breaks = h.breaks })
    ]

-- a statement by itself and those below it
either_faulty : (s u : Statement) (fault : Fault) → None ≡ first (broken s) → (is_closed (kind s) ≡ false → Stands (below s) u → ⊥)
    → Stands (s ∷ []) u → Contains (broken u) fault → ⊥
either_faulty s u fault e a (itself x xs) b = first_lacks (broken s) fault (sym e) b
either_faulty s u fault e a (inside x t xs is_open d) b = a is_open d
either_faulty s u fault e a (later x t xs d) b = elim d [ ]

pub faultless_closed : (s : Statement) (fault : Fault) → None ≡ first (broken s) → (is_closed (kind s) ≡ false → ⊥) → Faulty (s ∷ []) fault → ⊥
faultless_closed s fault e closed h = either_faulty s h.statement fault e (λ is_open d. closed is_open) h.stands h.breaks

pub faultless_all : (xs : List Statement) (s : Statement) (i : ℕ) (fault : Fault) → None ≡ first (broken s) → xs ≡ below s → length xs ≤ i
    → (Faulty (take i xs) fault → ⊥) → Faulty (s ∷ []) fault → ⊥
faultless_all xs s i fault e same le a h =
    either_faulty s h.statement fault e
    (λ is_open d. a (record { statement = h.statement; stands = subst (λ z. Stands z h.statement) (sym same ∙ sym (take_all i xs le)) d; breaks = h.breaks }))
    h.stands h.breaks

pub none_faulty : (fault : Fault) → Faulty [] fault → ⊥
none_faulty fault h = elim h.stands [ ]

pub root_keeps : (root : Statement) → None ≡ first (at (why_root (kind root)) root) → ((fault : Fault) → Faulty (root ∷ []) fault → ⊥) → KeepsRules root
root_keeps root e a fault h = elim h [
  | inl b ↦ first_lacks (at (why_root (kind root)) root) fault (sym e) b
  | inr b ↦ a fault b
]

pub judged_root : (root : Statement) (r : Option Fault) → None ≡ first (at (why_root (kind root)) root) → Judges r (root ∷ [])
    → MatchOption r (KeepsRules root) (BreaksRule root)
judged_root root None e h = root_keeps root e h
judged_root root (Some fault) e h = inr h
