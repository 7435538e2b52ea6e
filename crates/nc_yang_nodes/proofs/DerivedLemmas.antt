-- What edges lead to is derived.
use Rattle.std.proofs.Common.{inl, inr, ◌≡◌, ◌<◌, ◌+◌, ℕ, List, [], ◌∷◌, ◌++◌, length, refl, sym, ap, ◌∙◌, subst, arith}
use Rattle.std.specs.Prelude.{Bool, true, false, Option, Some, None, slice_get, unwrap_or, option_and_then, Contains}
use Rattle.std.proofs.lemmas.List.Elements.{Contains-append_cases}
use Rattle.std.proofs.lemmas.Option.{slice_get_within}
use Rattle.nc_yang_words.specs.declared.statement.Statement.{Statement}
use Rattle.nc_yang_statements.specs.declared.keyword.Keyword.TheVariants.{Identity}
use Rattle.nc_yang_statements.specs.Statements.{name}
use Rattle.nc_yang_scopes.specs.Numbers.{OnNumber}
use Rattle.nc_yang_scopes.specs.Scopes.{Located, Scoping, resolved}
use Rattle.nc_yang_order.specs.Orders.{EachAfter, targets}
use Rattle.nc_yang_order.specs.Reaching.{IsLed, IsReached}
use Rattle.nc_yang_order.specs.declared.reach.Reach.{Reach}
use Rattle.nc_yang_order.proofs.Lists.{contains_at, contains_none, contains_one, either, get_none}
use Rattle.nc_yang_nodes.specs.Identities.{HasBase, IsDerived, directly, further, identities}
use Rattle.nc_yang_nodes.specs.Values.{IsUnder}
use Rattle.nc_yang_nodes.specs.inner.Edges.{AnyOf, IsGraph, ToIdentity}
use Rattle.nc_yang_nodes.specs.inner.Marks.{AreMarks, Tells}
use Rattle.nc_yang_nodes.specs.inner.Places.{place_named, place_of}
use Rattle.nc_yang_nodes.proofs.PlaceLemmas.{at_place, has_place, named_place, place_names, place_same, same_place}

-- an edge is a base
edge_base : (texts : List Statement) (from to : ℕ) → AnyOf (identities texts) (ToIdentity texts) from to → (l other : Located) → place_of texts l ≡ Some to → place_of texts other ≡ Some from → HasBase texts l other
edge_base texts from to e l other l_is other_is =
    let b = e.is.base in
    let to_is : place_of texts e.one ≡ Some to = e.is.is ∙ ap Some b.is.1 in
    record {
      statement = e.one;
      stands = e.stands;
      is = place_same (identities texts) e.one l to to_is l_is;
      base = b.one;
      within = b.stands;
      named = place_names texts b.one other from b.is.0 other_is;
    }

-- and a base is an edge
base_edge : (texts : List Statement) (l other : Located) (from to : ℕ) → HasBase texts l other → place_of texts l ≡ Some to → place_of texts other ≡ Some from → AnyOf (identities texts) (ToIdentity texts) from to
base_edge texts l other from to h l_is other_is = record {
  one = h.statement;
  stands = h.stands;
  is = record {
    place = to;
    is = same_place (identities texts) h.statement l h.is ∙ l_is;
    base = record { one = h.base; stands = h.within; is = (named_place texts h.base other h.named ∙ other_is, refl) };
  };
}

-- an identity with a base has a place
base_place : (texts : List Statement) (l other : Located) → HasBase texts l other → (p : ℕ) × (place_of texts l ≡ Some p)
base_place texts l other h = let p = has_place (identities texts) h.statement h.stands in (p.0, sym (same_place (identities texts) h.statement l h.is) ∙ p.1)

derived_place : (texts : List Statement) (from l : Located) → IsDerived texts from l → (p : ℕ) × (place_of texts l ≡ Some p)
derived_place texts from _ (directly l h) = base_place texts l from h
derived_place texts from _ (further l between h more) = base_place texts l between h

-- an edge leads from an identity
from_place : (texts : List Statement) (from to : ℕ) → AnyOf (identities texts) (ToIdentity texts) from to → (x : Located) × (place_of texts x ≡ Some from)
from_place texts from to e = by (resolved texts Identity (name e.is.base.one.statement) e.is.base.one.place) e.is.base.is.0
  where
    by : (o : Option Located) → option_and_then (place_of texts) o ≡ Some from → (x : Located) × (place_of texts x ≡ Some from)
    by None is = absurd (cc)
    by (Some x) is = (x, is)

module _ (texts : List Statement) (graph : List (List ℕ)) (is : IsGraph texts graph) (k : ℕ) (from : Located) (from_is : place_of texts from ≡ Some k) (reach : Reach) (reached : IsReached graph (targets graph k) reach) where
  in_graph : (l : Located) (p : ℕ) → place_of texts l ≡ Some p → p < length graph
  in_graph l p l_is = let x = at_place (identities texts) l p l_is in let less = slice_get_within (identities texts) p x.0 x.1 in omega (arith, is.counted)

  abbrev DerivedAt : ℕ → Type 0
  DerivedAt p = (l : Located) → place_of texts l ≡ Some p → IsDerived texts from l

  led_derived : (before : List ℕ) → ((p : ℕ) → Contains before p → DerivedAt p) → (p : ℕ) → IsLed graph (targets graph k) before p → DerivedAt p
  led_derived before known p (inl start) = λ l l_is. directly l (edge_base texts k p (is.only k p start) l from l_is from_is)
  led_derived before known p (inr (m, h, edge)) = λ l l_is.
      let e = is.only m p edge in
      let x = from_place texts m p e in
      further l x.0 (edge_base texts m p e l x.0 l_is x.1) (known m h x.0 x.1)

  all_derived : (before found : List ℕ) → ((p : ℕ) → Contains before p → DerivedAt p) → EachAfter (IsLed graph (targets graph k)) before found → (p : ℕ) → Contains found p → DerivedAt p
  all_derived before [] known led p h = absurd (contains_none p h)
  all_derived before (x ∷ xs) known led p h = elim (Contains-append_cases (x ∷ []) xs p h) [
    | inl here ↦ subst DerivedAt (contains_one x p here) (led_derived before known x led.0)
    | inr later ↦
        all_derived (before ++ x ∷ []) xs
        (λ q g. elim (either before x q g) [ inl old ↦ known q old | inr now ↦ subst DerivedAt now (led_derived before known x led.0) ])
        led.1 p later
  ]

  derived_found : (other l : Located) (p : ℕ) → place_of texts other ≡ Some k → IsDerived texts other l → place_of texts l ≡ Some p → Contains reach.found p
  derived_found other _ p other_is (directly l h) l_is = reached.started p (is.all k p (in_graph other k other_is) (base_edge texts l other k p h l_is other_is)) (in_graph l p l_is)
  derived_found other _ p other_is (further l between h more) l_is =
      let m = derived_place texts other between more in
      reached.followed m.0 p (derived_found other between m.0 other_is more m.1) (is.all m.0 p (in_graph between m.0 m.1) (base_edge texts l between m.0 p h l_is m.1)) (in_graph l p l_is)

  found_marks : (base : Located) → place_named texts base ≡ Some k → Contains (identities texts) from → AreMarks texts base reach.marks
  found_marks base named stands l p l_is = by (slice_get reach.marks p) refl
    where
      by : (o : Option Bool) → slice_get reach.marks p ≡ o → Tells (unwrap_or o false) (IsUnder texts base l)
      by None e = absurd (let past = get_none reach.marks p e in let less = in_graph l p l_is in let c = reached.counted in omega arith)
      by (Some true) e = record {
        from = from;
        stands = stands;
        named = place_names texts base from k named from_is;
        derived = all_derived [] reach.found (λ q g. absurd (contains_none q g)) reached.led p (reached.marks.marked p e) l l_is;
      }
      by (Some false) e = λ u. reached.marks.unmarked p e (derived_found u.from l p (sym (named_place texts base u.from u.named) ∙ named) u.derived l_is)

-- the marks of what edges lead to from the identity that a `base` statement names
pub marks_from : (texts : List Statement) (graph : List (List ℕ)) → IsGraph texts graph → (base : Located) (k : ℕ) → place_named texts base ≡ Some k → (reach : Reach) → IsReached graph (targets graph k) reach → AreMarks texts base reach.marks
marks_from texts graph is base k named reach reached = by (resolved texts Identity (name base.statement) base.place) named
  where
    by : (o : Option Located) → option_and_then (place_of texts) o ≡ Some k → AreMarks texts base reach.marks
    by None e = absurd (cc)
    by (Some f) e =
        let x = at_place (identities texts) f k e in
        found_marks texts graph is k x.0 (same_place (identities texts) x.0 f x.2 ∙ e) reach reached base named (contains_at (identities texts) k x.0 x.1)

-- nothing is derived from what is no identity of the texts
pub marks_none : (texts : List Statement) (base : Located) → place_named texts base ≡ None → AreMarks texts base []
marks_none texts base none l p l_is u =
    let at = has_place (identities texts) u.from u.stands in
    let e : None ≡ Some at.0 = sym none ∙ named_place texts base u.from u.named ∙ at.1 in
    cc

-- what has no place is derived from nothing
pub not_under : (texts : List Statement) (base l : Located) → place_of texts l ≡ None → IsUnder texts base l → ⊥
not_under texts base l none u = let at = derived_place texts u.from l u.derived in let e : None ≡ Some at.0 = sym none ∙ at.1 in cc

-- the same of the `base` statement of a number
pub marks_made : (inside scoping : Scoping) → inside ≡ scoping → (graph : List (List ℕ)) → IsGraph inside.texts graph → (base k : ℕ) → OnNumber inside base (λ l. Some k ≡ place_named inside.texts l) → (rows : List (List ℕ)) → rows ≡ graph → (starts : List ℕ) → starts ≡ targets rows k →
    (reach : Reach) → IsReached rows starts reach → (marks : List Bool) → marks ≡ reach.marks → OnNumber scoping base (λ l. AreMarks scoping.texts l marks)
marks_made inside scoping same graph is base k named rows rows_is starts starts_is reach reached marks marks_is =
    subst (λ (s : Scoping). OnNumber s base (λ l. AreMarks s.texts l marks)) same (λ l here.
    subst (AreMarks inside.texts l) (sym marks_is)
    (marks_from inside.texts graph is l k (sym (named l here)) reach
    (subst (λ g. IsReached g (targets g k) reach) rows_is (subst (λ z. IsReached rows z reach) starts_is reached))))

pub marks_lost : (inside scoping : Scoping) → inside ≡ scoping → (base : ℕ) → OnNumber inside base (λ l. None ≡ place_named inside.texts l) → (marks : List Bool) → marks ≡ [] → OnNumber scoping base (λ l. AreMarks scoping.texts l marks)
marks_lost inside scoping same base named marks marks_is =
    subst (λ (s : Scoping). OnNumber s base (λ l. AreMarks s.texts l marks)) same (λ l here.
    subst (AreMarks inside.texts l) (sym marks_is) (marks_none inside.texts l (sym (named l here))))

pub unplaced : (inside scoping : Scoping) → inside ≡ scoping → (n : ℕ) → OnNumber inside n (λ l. None ≡ place_of inside.texts l) → OnNumber scoping n (λ l. (base : Located) → IsUnder scoping.texts base l → ⊥)
unplaced inside scoping same n none =
    subst (λ (s : Scoping). OnNumber s n (λ l. (base : Located) → IsUnder s.texts base l → ⊥)) same (λ l here base. not_under inside.texts base l (sym (none l here)))
