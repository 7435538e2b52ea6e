-- What is so of the statements of planned nodes.
use Rattle.std.proofs.Common.{◌≡◌, ◌++◌, ◌&&◌, inl, inr, not, ℕ, suc, Bool, true, false, cond, List, [], ◌∷◌, length, refl, ap, subst, ◌∙◌}
use Rattle.std.specs.Prelude.{Option, Some, None, slice_get, option_and_then}
use Rattle.std.specs.Option.{option_map_or}
use Rattle.nc_schema.specs.declared.node.Deny.{Deny}
use Rattle.nc_yang_statements.specs.declared.keyword.Keyword.{Keyword}
use Rattle.nc_yang_statements.specs.declared.keyword.Keyword.TheVariants.{Case as CaseWord, Choice as ChoiceWord, Container, Grouping, Leaf, LeafList, List as ListWord, Uses as UsesWord}
use Rattle.nc_yang_statements.specs.Keywords.{is_closed}
use Rattle.nc_yang_statements.specs.Statements.{kind, name}
use Rattle.nc_yang_scopes.specs.Scopes.{Located, Scoping, resolved, root}
use Rattle.nc_yang_scopes.specs.States.{is_state}
use Rattle.nc_yang_nodes.specs.declared.context.Context.{Context}
use Rattle.nc_yang_nodes.specs.declared.planned.Plan.{Plan}
use Rattle.nc_yang_nodes.specs.declared.planned.Planned.{Planned}
use Rattle.nc_yang_nodes.specs.declared.role.Role.{Role}
use Rattle.nc_yang_nodes.specs.declared.role.Role.TheVariants.{Node, Choice, Case, Uses}
use Rattle.nc_yang_nodes.specs.Expansion.{Gives, added, after, at_top, given, inner, node_of, none, passed}
use Rattle.nc_yang_nodes.specs.Plans.{GivesTexts, IsPlan, no_text, one_more, statement_of}
use Rattle.nc_yang_nodes.specs.Denials.{denial}
use Rattle.nc_yang_nodes.specs.Roles.{FeatureTest, block, children, is_supported, role, role_of}
use Rattle.nc_yang_nodes.proofs.ListLemmas.{get_push}

-- so it is with each of these statements
abbrev pub AreAll : (Located → Type 0) → List Located → Type 0
AreAll Good ls = (i : ℕ) (l : Located) → slice_get ls i ≡ Some l → Good l

-- what gives something is not passed over
giving_open : (deny : Deny) (keyword : Keyword) (r : Role) → role_of deny keyword ≡ Some r → is_closed keyword ≡ false
giving_open deny Container r e = refl
giving_open deny Leaf r e = refl
giving_open deny LeafList r e = refl
giving_open deny ListWord r e = refl
giving_open deny ChoiceWord r e = refl
giving_open deny CaseWord r e = refl
giving_open deny UsesWord r e = refl
giving_open deny keyword r e = absurd (cc)

-- what is so of the statements in each module, of those in an open statement of which it is so, and of those in each grouping
-- that it names, is so of the statement of each planned node
module _ (scoping : Scoping) (on : FeatureTest) (Good : Located → Type 0)
    (tops : (text : ℕ) (top : Located) → root scoping.texts text ≡ Some top → AreAll Good (children top))
    (inward : (l : Located) → Good l → is_closed (kind l.statement) ≡ false → AreAll Good (children l))
    (grouped : (l g : Located) → Good l → resolved scoping.texts Grouping (name l.statement) l.place ≡ Some g → AreAll Good (children g)) where
  role_open : (l : Located) (r : Role) → role scoping.texts on l ≡ Some r → is_closed (kind l.statement) ≡ false
  role_open l r e = by (is_supported scoping.texts on l && not (is_state l.statement)) e
    where
      by : (b : Bool) → cond b (role_of (denial scoping.texts l) (kind l.statement)) None ≡ Some r → is_closed (kind l.statement) ≡ false
      by true f = giving_open (denial scoping.texts l) (kind l.statement) r f
      by false f = absurd (cc)

  uses_are : (l : Located) → Good l → AreAll Good (option_map_or children (resolved scoping.texts Grouping (name l.statement) l.place) [])
  uses_are l good = by (resolved scoping.texts Grouping (name l.statement) l.place) refl
    where
      by : (o : Option Located) → resolved scoping.texts Grouping (name l.statement) l.place ≡ o → AreAll Good (option_map_or children o [])
      by None e = λ i c at. absurd (cc)
      by (Some g) e = grouped l g good e

  blocks : (l : Located) (r : Role) → Good l → role scoping.texts on l ≡ Some r → AreAll Good (block scoping.texts l r)
  blocks l (Uses deny) good is = uses_are l good
  blocks l (Node deny) good is = inward l good (role_open l (Node deny) is)
  blocks l (Choice deny) good is = inward l good (role_open l (Choice deny) is)
  blocks l (Case deny) good is = inward l good (role_open l (Case deny) is)

  abbrev NodesAre : Plan → Type 0
  NodesAre plan =
      (number : ℕ) (n : Planned) (l : Located) → slice_get plan.nodes number ≡ Some n → slice_get scoping.located n.statement ≡ Some l → Good l

  more_nodes : (number : ℕ) (c : Context) (deny : Deny) (plan : Plan) (l : Located) → slice_get scoping.located number ≡ Some l → Good l → NodesAre plan →
      NodesAre (record plan { nodes = plan.nodes ++ node_of number c deny ∷ [] })
  more_nodes number c deny plan l at good are other n m is there =
      elim (get_push plan.nodes (node_of number c deny) n other is) [
        | inl old ↦ are other n m old there
        | inr new ↦
            let here : slice_get scoping.located number ≡ Some m = ap (λ (z : Planned). slice_get scoping.located z.statement) new.1 ∙ there in
            let same : l ≡ m = cc in
            subst Good same good
      ]

  added_are : (number : ℕ) (c : Context) (r : Role) (plan : Plan) (l : Located) → slice_get scoping.located number ≡ Some l → Good l → NodesAre plan →
      NodesAre (added number c r plan)
  added_are number c (Node deny) plan l at good are = more_nodes number c deny plan l at good are
  added_are number c (Choice deny) plan l at good are = are
  added_are number c (Case deny) plan l at good are = are
  added_are number c (Uses deny) plan l at good are = are

  gives_are : (c : Context) (p q : Plan) (ls : List Located) → Gives scoping on c p ls q → AreAll Good ls → NodesAre p → NodesAre q
  gives_are c p q [] (none _ _) all are = are
  gives_are c p q (l ∷ rest) (passed _ _ _ _ _ w g) all are = gives_are c p q rest g (λ i m at. all (suc i) m at) are
  gives_are c p q (l ∷ rest) (given _ _ m _ _ _ n r at is g f) all are =
      gives_are (after c) m q rest f (λ i z there. all (suc i) z there)
      (gives_are (inner c p r) (added n c r p) m (block scoping.texts l r) g (blocks l r (all 0 l refl) is) (added_are n c r p l at (all 0 l refl) are))

  texts_are : (count : ℕ) (plan : Plan) → GivesTexts scoping on count plan → NodesAre plan
  texts_are _ _ no_text = λ number n l is there. absurd (cc)
  texts_are _ plan (one_more count before _ top g is h) =
      gives_are (at_top count) before plan (children top) h (tops count top is) (texts_are count before g)

  pub planned_are : (plan : Plan) → IsPlan scoping on plan → (number : ℕ) (l : Located) → statement_of scoping plan number ≡ Some l → Good l
  planned_are plan planned number l is = by (slice_get plan.nodes number) refl is
    where
      by : (o : Option Planned) → slice_get plan.nodes number ≡ o → option_and_then (λ (n : Planned). slice_get scoping.located n.statement) o ≡ Some l → Good l
      by None e f = absurd (cc)
      by (Some n) e f = texts_are (length scoping.texts) plan planned.gives number n l e f
