-- Defaults put into a schema.
use Rattle.std.proofs.Common.{inl, inr, ◌≡◌, ◌≢◌, ◌<◌, ◌≤◌, ◌+◌, ◌⊎◌, ℕ, List, [], ◌∷◌, ◌++◌, length, refl, sym, ap, ◌∙◌, subst, arith, append_assoc}
use Rattle.std.specs.Prelude.{Some, IfSome, slice_get, slice_set}
use Rattle.std.proofs.lemmas.Bool.{cases_eq}
use Rattle.std.proofs.lemmas.List.{append-nil, length-append}
use Rattle.nc_schema.specs.Children.{HasLowerParents, IsAbove}
use Rattle.nc_schema.specs.declared.node.Node.{Node}
use Rattle.nc_schema.specs.Tables.{Tables}
use Rattle.nc_yang_scopes.specs.Scopes.{Scoping}
use Rattle.nc_yang_scopes.proofs.Lists.{get_right, get_within}
use Rattle.nc_yang_nodes.specs.declared.planned.Plan.{Plan}
use Rattle.nc_yang_leafs.specs.Defaults.{HasDefaults, KeepsDefaults}
use Rattle.nc_yang_leafs.specs.Typed.{IsTyped}
use Rattle.nc_yang_leafs.specs.inner.Putting.{ArePut, IsPut, KeepsRest}
use Rattle.nc_yang_leafs.specs.inner.Reading.{AreFound}
use Rattle.nc_yang_leafs.proofs.ListLemmas.{set_length, set_other, set_same}

abbrev pub with_values : Node → List (List ℕ) → Node
with_values node values = record node { defaults = values }

keeps_itself : (tables : Tables) → KeepsRest tables tables
keeps_itself tables = record { counted = refl; choices = refl; types = refl; modules = refl; patterns = refl }

pub put_there : (tables new : Tables) (number : ℕ) (values : List (List ℕ)) (node : Node) (with : Node) → slice_get tables.nodes number ≡ Some node → with ≡ with_values node values →
    new ≡ record tables { nodes = slice_set tables.nodes number with } → IsPut number values tables new
put_there tables new number values node with at with_is same = subst (IsPut number values tables) (sym same) (record {
  rest = record { counted = set_length tables.nodes number with; choices = refl; types = refl; modules = refl; patterns = refl };
  here = λ other there fresh.
      let e : node ≡ other = let f : Some node ≡ Some other = sym at ∙ there in cc in
      set_same tables.nodes number node with at ∙ ap Some (with_is ∙ ap (λ z. with_values z values) e);
  others = λ other apart. set_other tables.nodes number other with apart;
})

pub stays_above : (nodes : List Node) (number : ℕ) (node : Node) (with : Node) (values : List (List ℕ)) → HasLowerParents nodes → slice_get nodes number ≡ Some node → with ≡ with_values node values → IsAbove with.parent number
stays_above nodes number node with values lower at with_is =
    subst (λ z. IsAbove z.parent number) (sym with_is) (subst (λ o. IfSome o (λ n. IsAbove n.parent number)) at (lower number))

-- those that are left, and those that were put
pub record Underway (all left : List (List (List ℕ))) (old new : Tables) : Type 0 where
  pub rest : KeepsRest old new
  pub more : List (List (List ℕ))
  pub cut : all ≡ left ++ more
  pub done : (number : ℕ) (node : Node) (values : List (List ℕ)) → slice_get old.nodes number ≡ Some node → node.defaults ≡ [] → length left ≤ number
      → slice_get all number ≡ Some values → slice_get new.nodes number ≡ Some (with_values node values)
  pub before : (number : ℕ) → number < length left → slice_get new.nodes number ≡ slice_get old.nodes number

append_none : {A : Type 0} (xs : List A) → xs ≡ xs ++ []
append_none xs = sym (append-nil xs)

pub underway_first : (all left : List (List (List ℕ))) (old new : Tables) → left ≡ all → new ≡ old → Underway all left old new
underway_first all left old new left_is same = subst (λ z. Underway all z old new) (sym left_is) (subst (Underway all all old) (sym same) (record {
  rest = keeps_itself old;
  more = [];
  cut = append_none all;
  done = λ number node values at fresh past there. absurd (let less = get_within all number values there in omega arith);
  before = λ number less. refl;
}))

module _ (all left : List (List (List ℕ))) (values : List (List ℕ)) (old mid new : Tables) (number : ℕ) (counted : length left ≡ number) where
  pub underway_more : (before : List (List (List ℕ))) → before ≡ left ++ values ∷ [] → Underway all before old mid → IsPut number values mid new → Underway all left old new
  underway_more before before_is u p =
      let long = length-append left (values ∷ []) in
      let longer : length before ≡ length left + 1 = ap length before_is ∙ omega (arith, long) in
      let cut : all ≡ left ++ values ∷ u.more = u.cut ∙ ap (λ z. z ++ u.more) before_is ∙ append_assoc left (values ∷ []) u.more in
      record {
        rest = record {
          counted = p.rest.counted ∙ u.rest.counted;
          choices = p.rest.choices ∙ u.rest.choices;
          types = p.rest.types ∙ u.rest.types;
          modules = p.rest.modules ∙ u.rest.modules;
          patterns = p.rest.patterns ∙ u.rest.patterns;
        };
        more = values ∷ u.more;
        cut = cut;
        done = λ other node vs at fresh past there. by other node vs at fresh past there cut longer (u.done other node vs at fresh) u.before (cases_eq other number);
        before = λ other less. p.others other (λ e. omega (arith, e, counted)) ∙ u.before other (omega (arith, longer));
      }
    where
      by : (other : ℕ) (node : Node) (vs : List (List ℕ)) → slice_get old.nodes other ≡ Some node → node.defaults ≡ [] → length left ≤ other → slice_get all other ≡ Some vs → all ≡ left ++ values ∷ u.more →
          length before ≡ length left + 1 → (length before ≤ other → slice_get all other ≡ Some vs → slice_get mid.nodes other ≡ Some (with_values node vs)) →
          ((k : ℕ) → k < length before → slice_get mid.nodes k ≡ slice_get old.nodes k) → (other ≡ number) ⊎ (other ≢ number) → slice_get new.nodes other ≡ Some (with_values node vs)
      by other node vs at fresh past there cut longer done early (inl same) =
          let within : other < length before = omega (arith, same, counted, longer) in
          let at_mid : slice_get mid.nodes number ≡ Some node = ap (slice_get mid.nodes) (sym same) ∙ early other within ∙ at in
          let place : other ≡ number + 0 = omega (arith, same) in
          let here : slice_get all other ≡ Some values = ap (λ z. slice_get z other) cut ∙ ap (slice_get (left ++ values ∷ u.more)) place ∙ get_right left (values ∷ u.more) number 0 counted in
          let vs_is : values ≡ vs = let e : Some values ≡ Some vs = sym here ∙ there in cc in
          ap (slice_get new.nodes) same ∙ p.here node at_mid fresh ∙ ap (λ z. Some (with_values node z)) vs_is
      by other node vs at fresh past there cut longer done early (inr apart) =
          p.others other apart ∙ done (let far : other ≢ length left = λ e. apart (e ∙ counted) in omega (arith, longer, far)) there

pub underway_last : (all left : List (List (List ℕ))) (old new : Tables) → left ≡ [] → Underway all left old new → ArePut all old new
underway_last all left old new none u = record {
  rest = u.rest;
  each = λ number node values at fresh there. u.done number node values at fresh (let e : length left ≡ 0 = ap length none in omega (arith, e)) there;
}

-- what is found of each keeps the rules
pub keep_rules : (scoping : Scoping) (plan : Plan) (tables : Tables) (found : List (List (List ℕ))) → AreFound scoping plan tables (length tables.nodes) found → KeepsDefaults scoping plan tables
keep_rules scoping plan tables found are d def = let h = are.each d def (get_within tables.nodes d.number d.node def.0) in (h.0, h.2)

-- the whole
pub have_defaults : (scoping : Scoping) (plan : Plan) (typed tables : Tables) (found : List (List (List ℕ))) → IsTyped scoping plan typed → AreFound scoping plan typed (length typed.nodes) found → ArePut found typed tables → HasDefaults scoping plan typed tables
have_defaults scoping plan typed tables found is are put = record {
  counted = put.rest.counted;
  nodes = λ d def.
      let h = are.each d def (get_within typed.nodes d.number d.node def.0) in
      record { values = h.0; are = h.2; there = put.each d.number d.node h.0 def.0 (is.fresh d def) h.1 };
  choices = put.rest.choices;
  types = put.rest.types;
  modules = put.rest.modules;
  patterns = put.rest.patterns;
}
