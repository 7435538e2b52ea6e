-- Lists of entries, and lists of views.
use Rattle.std.proofs.Common.{◌≡◌, ◌≢◌, ◌⊎◌, ℕ, zero, suc, ◌+◌, ◌<◌, ◌≤◌, List, [], ◌∷◌, ◌++◌, length, set, refl, sym, ap, subst, ◌∙◌, inl, inr, ⊎_elim, arith, append_assoc, length-append}
use mathlib.Core.Logic.{dite}
use mathlib.Core.List.{append-nil}
use mathlib.Core.Option.{some, some-injective, some-ne-none}
use native.Mathlib.Decide.{ℕ_discrete, dec_le}
use lib.ListN.{get_elem?}
use borrow.Author.Tests.{ltb-true, ltb-false}
use Rattle.atomic_table.proofs.Lists.{set_else}
use Rattle.std.specs.Prelude.{if◌then◌else◌, ltb, Bool, true, false}
use Rattle.nc_model.specs.declared.entry.Entry.{Entry}
use Rattle.nc_model.specs.History.{IsLegal, IsMineIn}
use Rattle.nc_model.specs.State.{State}
use Rattle.std.specs.List.{Contains, All, AllPairs}
use Rattle.std.proofs.Common.{get_or}
use Rattle.std.proofs.lemmas.List.Elements.{Contains-append_left, Contains-push, Contains-push_cases, Contains-get_or, All-push, filter-append}
use Rattle.std.proofs.lemmas.List.Quantifiers.{all_pairs_push}
use Rattle.nc_model.specs.Desks.{is_own, own_of}
use Rattle.nc_turn.specs.declared.view.View.{View}
use Rattle.nc_turn.specs.inner.Turning.{parts_of, Seats}
use Rattle.nc_turn.specs.Views.{Begins, longer, shorter}

pub begins_none : (h : List Entry) → Begins [] h
begins_none h = (h, refl)

pub begins_same : (h : List Entry) → Begins h h
begins_same h = ([], sym (append-nil h))

pub begins_more : (a h more : List Entry) → Begins a h → Begins a (h ++ more)
begins_more a h more b = (b.0 ++ more, ap (λ (x : List Entry). x ++ more) b.1 ∙ append_assoc a b.0 more)

pub begins_length : (a h : List Entry) → Begins a h → length a ≤ length h
begins_length a h b = omega (arith, ap length b.1, length-append a b.0)

both_begin : (a b p q : List Entry) → a ++ p ≡ b ++ q → length a ≤ length b → Begins a b
both_begin [] b p q is le = (b, refl)
both_begin (x ∷ xs) [] p q is le = absurd (omega arith)
both_begin (x ∷ xs) (y ∷ ys) p q is le =
    let first : y ≡ x = cc in
    let rest : xs ++ p ≡ ys ++ q = cc in
    let more = both_begin xs ys p q rest (omega arith) in
    (more.0, (λ i. first i ∷ more.1 i))

-- of two beginnings of one history the shorter begins the longer
pub begins_both : (a b h : List Entry) → Begins a h → Begins b h → length a ≤ length b → Begins a b
begins_both a b h one other = both_begin a b one.0 other.0 (sym one.1 ∙ other.1)

-- a beginning of a history that is no shorter is all of it
pub begins_whole : (a h : List Entry) → Begins a h → length h ≤ length a → a ≡ h
begins_whole a h b le = sym (b.1 ∙ ap (λ (x : List Entry). a ++ x) (nothing b.0 (omega (arith, ap length b.1, length-append a b.0))) ∙ append-nil a)
  where
    nothing : (x : List Entry) → length x ≡ 0 → x ≡ []
    nothing [] e = refl
    nothing (y ∷ ys) e = absurd (omega arith)

-- what is so of the shorter and of the longer of two beginnings of one history
pub of_both : (a b h : List Entry) → Begins a h → Begins b h →
    Begins (longer a b) h × Begins (shorter a b) (longer a b) × (a ≡ h → longer a b ≡ h) × (b ≡ h → longer a b ≡ h) × Begins a (longer a b) × Begins b (longer a b)
of_both a b h one other = by (ltb (length a) (length b)) refl
  where
    by : (t : Bool) → ltb (length a) (length b) ≡ t →
        Begins (if t then b else a) h × Begins (if t then a else b) (if t then b else a) × (a ≡ h → (if t then b else a) ≡ h) × (b ≡ h → (if t then b else a) ≡ h) × Begins a (if t then b else a) × Begins b (if t then b else a)
    by true e =
        let less : length a < length b = ltb-true (length a) (length b) e in
        let front = begins_both a b h one other (omega arith) in
        (other, front, (λ (s : a ≡ h). absurd (omega (arith, ap length s, begins_length b h other))), (λ (s : b ≡ h). s), front, begins_same b)
    by false e =
        let less : length b ≤ length a = ltb-false (length a) (length b) e in
        let front = begins_both b a h other one less in
        (one, front, (λ (s : a ≡ h). s), (λ (s : b ≡ h). begins_whole a h one (omega (arith, ap length s))), begins_same a, front)

module _ {T : Type 0} where
  pub within : (vs : List (View T)) (i : ℕ) (v : View T) → get_elem? vs i ≡ some v → i < length vs
  within [] i v e = absurd (some-ne-none v (sym e))
  within (x ∷ xs) zero v e = omega arith
  within (x ∷ xs) (suc i) v e = omega (arith, within xs i v e)

  pub set_there : (vs : List (View T)) (i : ℕ) (v w : View T) → get_elem? vs i ≡ some v → get_elem? (set vs i w) i ≡ some w
  set_there [] i v w e = absurd (some-ne-none v (sym e))
  set_there (x ∷ xs) zero v w e = refl
  set_there (x ∷ xs) (suc i) v w e = set_there xs i v w e

  pub parts_set : (vs : List (View T)) (i : ℕ) (v w : View T) → get_elem? vs i ≡ some v → parts_of (set vs i w) + v.parts ≡ parts_of vs + w.parts
  parts_set [] i v w e = absurd (some-ne-none v (sym e))
  parts_set (x ∷ xs) zero v w e = omega (arith, ap (λ (u : View T). u.parts) (some-injective x v e))
  parts_set (x ∷ xs) (suc i) v w e = omega (arith, parts_set xs i v w e)

  pub parts_more : (vs : List (View T)) (w : View T) → parts_of (vs ++ w ∷ []) ≡ parts_of vs + w.parts
  parts_more [] w = omega arith
  parts_more (x ∷ xs) w = omega (arith, parts_more xs w)

  parts_one : (vs : List (View T)) (i : ℕ) (v : View T) → get_elem? vs i ≡ some v → v.parts ≤ parts_of vs
  parts_one [] i v e = absurd (some-ne-none v (sym e))
  parts_one (x ∷ xs) zero v e = omega (arith, ap (λ (u : View T). u.parts) (some-injective x v e))
  parts_one (x ∷ xs) (suc i) v e = omega (arith, parts_one xs i v e)

  pub parts_two : (vs : List (View T)) (i j : ℕ) (v w : View T) → i ≢ j → get_elem? vs i ≡ some v → get_elem? vs j ≡ some w → v.parts + w.parts ≤ parts_of vs
  parts_two [] i j v w apart e f = absurd (some-ne-none v (sym e))
  parts_two (x ∷ xs) zero zero v w apart e f = absurd (apart refl)
  parts_two (x ∷ xs) zero (suc j) v w apart e f = omega (arith, ap (λ (u : View T). u.parts) (some-injective x v e), parts_one xs j w f)
  parts_two (x ∷ xs) (suc i) zero v w apart e f = omega (arith, ap (λ (u : View T). u.parts) (some-injective x w f), parts_one xs i v e)
  parts_two (x ∷ xs) (suc i) (suc j) v w apart e f = omega (arith, parts_two xs i j v w (λ (s : i ≡ j). apart (ap suc s)) e f)

  -- one seat has a view after a step of the seat id, as one did before
  pub keeps_seat : (vs : List (View T)) (id : ℕ) (v w : View T) (P Q : ℕ → View T → Type 0) → get_elem? vs id ≡ some v
      → (P id v → Q id w) → ((j : ℕ) (u : View T) → P j u → Q j u) → Seats vs P → Seats (set vs id w) Q
  keeps_seat vs id v w P Q at own others it = dite (ℕ_discrete it.seat id)
      (λ here. record {
        seat = id;
        view = w;
        there = set_there vs id v w at;
        so = own (subst (λ (z : ℕ × View T). P z.0 z.1) (λ i. (here i, some-injective it.view v (sym it.there ∙ (ap (get_elem? vs) here ∙ at)) i)) it.so);
      })
      (λ apart. record { seat = it.seat; view = it.view; there = set_else vs id it.seat w apart ∙ it.there; so = others it.seat it.view it.so })

-- entries of a history are entries of a longer one
pub mine_in_longer : (mine a h : List Entry) → Begins a h → IsMineIn mine a → IsMineIn mine h
mine_in_longer mine a h b own = record {
  rise = own.rise;
  there = λ k d low. subst (λ (x : List Entry). Contains x (get_or mine k d)) (sym b.1) (Contains-append_left a b.0 (get_or mine k d) (own.there k d low));
}

-- an entry written by a seat is its own unless it is a reading of the clock
pub contains_own : (mine : List Entry) (e f : Entry) → Contains (mine ++ own_of (e ∷ [])) f → Contains mine f ⊎ (e ≡ f)
contains_own mine e f = by (is_own e.event)
  where
    by : (t : Bool) → Contains (mine ++ (if t then e ∷ [] else [])) f → Contains mine f ⊎ (e ≡ f)
    by true there = Contains-push_cases mine e f there
    by false there = inl (subst (λ (x : List Entry). Contains x f) (append-nil mine) there)

pub mine_and_one : (mine seen : List Entry) (e : Entry) → IsMineIn mine seen → ((f : Entry) → Contains mine f → f.number < e.number) → IsMineIn (mine ++ own_of (e ∷ [])) (seen ++ e ∷ [])
mine_and_one mine seen e own low = by (is_own e.event)
  where
    before : IsMineIn mine (seen ++ e ∷ [])
    before = mine_in_longer mine seen (seen ++ e ∷ []) (e ∷ [], refl) own

    by : (t : Bool) → IsMineIn (mine ++ (if t then e ∷ [] else [])) (seen ++ e ∷ [])
    by true = record {
      rise = all_pairs_push (λ (x : Entry) (later : Entry). x.number < later.number) mine e own.rise (λ k d there. low (get_or mine k d) (Contains-get_or mine k d there));
      there = All-push (Contains (seen ++ e ∷ [])) mine e before.there (Contains-push seen e);
    }
    by false = subst (λ (x : List Entry). IsMineIn x (seen ++ e ∷ [])) (sym (append-nil mine)) before

-- what is written is gathered, unless it is a reading of the clock
pub gathers : (h gathered : List Entry) (e f : Entry) → Contains (own_of (h ++ e ∷ [])) f
    → Contains (own_of h) f ⊎ Contains (gathered ++ own_of (e ∷ [])) f
gathers h gathered e f there =
    by (is_own e.event) (subst (λ (x : List Entry). Contains x f) (filter-append (λ (x : Entry). is_own x.event) h (e ∷ [])) there)
  where
    by : (t : Bool) → Contains (own_of h ++ (if t then e ∷ [] else [])) f
        → Contains (own_of h) f ⊎ Contains (gathered ++ (if t then e ∷ [] else [])) f
    by true has = ⊎_elim (λ (old : Contains (own_of h) f). inl old)
        (λ (same : e ≡ f). inr (subst (Contains (gathered ++ e ∷ [])) same (Contains-push gathered e))) (Contains-push_cases (own_of h) e f has)
    by false has = inl (subst (λ (x : List Entry). Contains x f) (append-nil (own_of h)) has)

pub none_in : (h : List Entry) → IsMineIn [] h
none_in h = record { rise = λ i j d low high. absurd (omega arith); there = λ k d low. absurd (omega arith) }

-- where the shorter of two begins the longer, both do
pub of_known : (a b : List Entry) → Begins (shorter a b) (longer a b) → Begins a (longer a b) × Begins b (longer a b)
of_known a b = by (ltb (length a) (length b))
  where
    by : (t : Bool) → Begins (if t then a else b) (if t then b else a) → Begins a (if t then b else a) × Begins b (if t then b else a)
    by true known = (known, begins_same b)
    by false known = (begins_same a, known)

pub none_legal : (s : State) → IsLegal 0 s []
none_legal s before behind e is = absurd (omega (arith, ap length is, length-append before (e ∷ behind)))

-- what is so of both is so of the longer
pub of_longer : (P : List Entry → Type 0) (a b : List Entry) → P a → P b → P (longer a b)
of_longer P a b one other = by (ltb (length a) (length b))
  where
    by : (t : Bool) → P (if t then b else a)
    by true = other
    by false = one
