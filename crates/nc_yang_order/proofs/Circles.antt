-- A graph that has an order has no circle.
use Rattle.std.proofs.Common.{inl, inr, ◌≡◌, ◌<◌, ◌+◌, ℕ, zero, suc, List, [], ◌∷◌, ◌++◌, sym, subst, arith, length}
use Rattle.std.specs.Prelude.{Contains, ◌⊎◌}
use Rattle.std.proofs.lemmas.List.Elements.{Contains-append_left, Contains-append_cases}
use Rattle.nc_yang_order.specs.Orders.{targets, Reaches, here, further, EachAfter, IsInPlace, IsOrder, IsCircle}
use Rattle.nc_yang_order.specs.Laws.{OrderHasNoCircle}
use Rattle.nc_yang_order.proofs.Lists.{contains_one, contains_none, contains_at, either}

-- no edge leads out of these numbers
abbrev IsClosed : List (List ℕ) → List ℕ → Type 0
IsClosed graph front = (number target : ℕ) → Contains front number → Contains (targets graph number) target → Contains front target

none_closed : (graph : List (List ℕ)) → IsClosed graph []
none_closed graph number target has edge = absurd (contains_none number has)

closed_more : (graph : List (List ℕ)) (front : List ℕ) (x : ℕ) → IsClosed graph front → IsInPlace graph front x → IsClosed graph (front ++ x ∷ [])
closed_more graph front x closed place number target has edge = elim (either front x number has) [
  | inl a ↦ Contains-append_left front (x ∷ []) target (closed number target a edge)
  | inr b ↦ Contains-append_left front (x ∷ []) target (place.after target (subst (λ z. Contains (targets graph z) target) (sym b) edge))
]

-- a number of an order, with those before it
place_of : (graph : List (List ℕ)) (before xs : List ℕ) (number : ℕ) → EachAfter (IsInPlace graph) before xs → IsClosed graph before → Contains xs number
    → (front : List ℕ) × IsClosed graph front × IsInPlace graph front number
place_of graph before [] number e closed has = absurd (contains_none number has)
place_of graph before (x ∷ xs) number e closed has = elim (Contains-append_cases (x ∷ []) xs number has) [
  | inl a ↦ (before, closed, subst (λ z. IsInPlace graph before z) (contains_one x number a) e.0)
  | inr b ↦ place_of graph (before ++ x ∷ []) xs number e.1 (closed_more graph before x closed e.0) b
]

stays : (graph : List (List ℕ)) (front : List ℕ) (number last : ℕ) → IsClosed graph front → Contains front number → Reaches graph number last → Contains front last
stays graph front number last closed has (here n) = has
stays graph front number last closed has (further n target l edge rest) = stays graph front target last closed (closed number target has edge) rest

pub has_targets : (graph : List (List ℕ)) (number target : ℕ) → Contains (targets graph number) target → number < length graph
has_targets [] number target h = absurd (omega (arith, h.1))
has_targets (x ∷ graph) zero target h = omega arith
has_targets (x ∷ graph) (suc number) target h = let k = has_targets graph number target h in omega (arith, k)

pub order_has_no_circle : OrderHasNoCircle
order_has_no_circle graph order number place o c =
    let edge : Contains (targets graph number) c.target = contains_at (targets graph number) place c.target c.edge in
    let at = place_of graph [] order number o.placed (none_closed graph) (o.all number (has_targets graph number c.target edge)) in
    at.2.fresh (stays graph at.0 c.target number at.1 (at.2.after c.target edge) c.back)
