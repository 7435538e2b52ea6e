-- Edges that are added to a graph.
use Rattle.std.proofs.Common.{inl, inr, ◌≡◌, ◌<◌, ◌≤◌, ◌+◌, ℕ, zero, suc, List, [], ◌∷◌, ◌++◌, length, take, refl, sym, ap, ◌∙◌, subst, arith}
use Rattle.nc_names.specs.declared.memory.Memory.{Memory}
use Rattle.std.specs.Prelude.{Some, Result, Ok, Err, IfOk, replicate, slice_get, set, Contains}
use Rattle.std.proofs.lemmas.List.{length-replicate, length-set, take_all}
use Rattle.std.proofs.lemmas.List.Elements.{Contains-append_left, Contains-push}
use Rattle.nc_yang_words.specs.declared.statement.Statement.{Statement}
use Rattle.nc_yang_statements.specs.declared.keyword.Keyword.TheVariants.{Base}
use Rattle.nc_yang_scopes.specs.Numbers.{AreNumbers, OnNumber}
use Rattle.nc_yang_scopes.specs.Scopes.{Located, Scoping}
use Rattle.nc_yang_order.specs.Orders.{targets}
use Rattle.nc_yang_order.proofs.Lists.{contains_none, either, take_next}
use Rattle.nc_yang_scopes.specs.Parts.{parts_of}
use Rattle.nc_yang_order.proofs.EdgeLemmas.{edge_cases, edge_kept, edge_new}
use Rattle.nc_yang_nodes.specs.Identities.{identities}
use Rattle.nc_yang_nodes.specs.inner.Edges.{Adds, AnyOf, FromNamed, IsGraph, ToIdentity}
use Rattle.nc_yang_nodes.specs.inner.Places.{place_named, place_of}
use Rattle.nc_yang_nodes.proofs.NumberLemmas.{number_at_place, numbers_length}

-- the edges of one more
pub adds_next : (edges : Located → ℕ → ℕ → Type 0) (ls : List Located) (i : ℕ) (l : Located) (first old new : List (List ℕ)) → slice_get ls i ≡ Some l →
    Adds (AnyOf (take i ls) edges) first old → Adds (edges l) old new → Adds (AnyOf (take (i + 1) ls) edges) first new
adds_next edges ls i l first old new at a b = subst (λ z. Adds (AnyOf z edges) first new) (sym (take_next ls i l at)) (record {
  counted = b.counted ∙ a.counted;
  kept = λ from to h. b.kept from to (a.kept from to h);
  only = λ from to h. elim (b.only from to h) [
    | inl before ↦ elim (a.only from to before) [
      | inl start ↦ inl start
      | inr e ↦ inr (record { one = e.one; stands = Contains-append_left (take i ls) (l ∷ []) e.one e.stands; is = e.is })
    ]
    | inr e ↦ inr (record { one = l; stands = Contains-push (take i ls) l; is = e })
  ];
  all = λ from to less e. elim (either (take i ls) l e.one e.stands) [
    | inl before ↦ b.kept from to (a.all from to less (record { one = e.one; stands = before; is = e.is }))
    | inr now ↦ b.all from to (omega (arith, a.counted)) (subst (λ z. edges z from to) (sym now) e.is)
  ];
})

-- from the identity that a `base` statement names
pub adds_edge : (texts : List Statement) (to : ℕ) (base : Located) (from : ℕ) (graph : List (List ℕ)) → place_named texts base ≡ Some from → from < length graph →
    Adds (FromNamed texts to base) graph (set graph from (targets graph from ++ to ∷ []))
adds_edge texts to base from graph named within = record {
  counted = length-set graph from (targets graph from ++ to ∷ []);
  kept = edge_kept graph from to within;
  only = λ f t h. elim (edge_cases graph from to within f t h) [
    | inl old ↦ inl old
    | inr new ↦ inr (named ∙ sym (ap Some new.0), new.1)
  ];
  all = λ f t less e.
      let o : Some from ≡ Some f = sym named ∙ e.0 in
      let same : from ≡ f = cc in
      subst (λ z. Contains (targets (set graph from (targets graph from ++ to ∷ [])) f) z) e.1
      (subst (λ z. Contains (targets (set graph from (targets graph from ++ to ∷ [])) z) to) same (edge_new graph from to within));
}

-- to an identity from its bases
pub adds_identity : (texts : List Statement) (l : Located) (to : ℕ) (old new : List (List ℕ)) → place_of texts l ≡ Some to → Adds (AnyOf (parts_of Base l) (FromNamed texts to)) old new → Adds (ToIdentity texts l) old new
adds_identity texts l to old new is a = record {
  counted = a.counted;
  kept = a.kept;
  only = λ f t h. elim (a.only f t h) [ inl start ↦ inl start | inr e ↦ inr (record { place = to; is = is; base = e }) ];
  all = λ f t less e.
      let o : Some e.place ≡ Some to = sym e.is ∙ is in
      let same : e.place ≡ to = cc in
      a.all f t less (subst (λ z. AnyOf (parts_of Base l) (FromNamed texts z) f t) same e.base);
}

blank_row : (count from : ℕ) → targets (replicate count []) from ≡ []
blank_row zero from = refl
blank_row (suc count) zero = refl
blank_row (suc count) (suc from) = blank_row count from

pub is_graph : (texts : List Statement) (count : ℕ) (graph : List (List ℕ)) → count ≡ length (identities texts) → Adds (AnyOf (identities texts) (ToIdentity texts)) (replicate count []) graph → IsGraph texts graph
is_graph texts count graph count_is a = record {
  counted = a.counted ∙ length-replicate count [] ∙ count_is;
  only = λ from to h. elim (a.only from to h) [
    | inl blank ↦ absurd (contains_none to (subst (λ z. Contains z to) (blank_row count from) blank))
    | inr e ↦ e
  ];
  all = λ from to less e. a.all from to (omega (arith, a.counted)) e;
}

-- the edges of the statement of the next number
pub adds_at : (located : List Located) (edges : Located → ℕ → ℕ → Type 0) (ns : List ℕ) (ls : List Located) (i n : ℕ) (first old new : List (List ℕ)) → AreNumbers located ns ls → slice_get ns i ≡ Some n →
    Adds (AnyOf (take i ls) edges) first old → ((l : Located) → slice_get located n ≡ Some l → Adds (edges l) old new) → Adds (AnyOf (take (i + 1) ls) edges) first new
adds_at located edges ns ls i n first old new are at a b =
    let l = number_at_place located ns ls i n are at in
    adds_next edges ls i l.0 first old new l.1 a (b l.0 l.2)

-- those of all
pub adds_all : (located : List Located) (edges : Located → ℕ → ℕ → Type 0) (ns : List ℕ) (ls : List Located) (i : ℕ) (first new : List (List ℕ)) → AreNumbers located ns ls → length ns ≤ i → Adds (AnyOf (take i ls) edges) first new → Adds (AnyOf ls edges) first new
adds_all located edges ns ls i first new are past a = subst (λ z. Adds (AnyOf z edges) first new) (take_all i ls (let e = numbers_length located ns ls are in omega arith)) a

pub edge_made : (scoping : Scoping) (base to from : ℕ) (graph : List (List ℕ)) → OnNumber scoping base (λ l. Some from ≡ place_named scoping.texts l) → from < length graph → (r : Result (List (List ℕ)) Memory) →
    IfOk r (λ it. it ≡ set graph from (targets graph from ++ to ∷ [])) → IfOk r (λ it. OnNumber scoping base (λ l. Adds (FromNamed scoping.texts to l) graph it))
edge_made scoping base to from graph named within (Err e) h = tt
edge_made scoping base to from graph named within (Ok it) h = λ l here. subst (Adds (FromNamed scoping.texts to l) graph) (sym h) (adds_edge scoping.texts to l from graph (sym (named l here)) within)

pub identity_made : (scoping : Scoping) (number to : ℕ) (bases list : List ℕ) (graph : List (List ℕ)) → OnNumber scoping number (λ l. Some to ≡ place_of scoping.texts l) → OnNumber scoping number (λ l. AreNumbers scoping.located bases (parts_of Base l)) → list ≡ bases →
    (r : Result (List (List ℕ)) Memory) → IfOk r (λ it. (ls : List Located) → AreNumbers scoping.located list ls → Adds (AnyOf ls (FromNamed scoping.texts to)) graph it) → IfOk r (λ it. OnNumber scoping number (λ l. Adds (ToIdentity scoping.texts l) graph it))
identity_made scoping number to bases list graph placed has list_is (Err e) h = tt
identity_made scoping number to bases list graph placed has list_is (Ok it) h = λ l here.
    adds_identity scoping.texts l to graph it (sym (placed l here)) (h (parts_of Base l) (subst (λ z. AreNumbers scoping.located z (parts_of Base l)) (sym list_is) (has l here)))
