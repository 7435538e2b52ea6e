-- The paths of `type` statements.
use Rattle.std.proofs.Common.{◌≡◌, ℕ, Bool, true, false, List, [], refl, sym, ap, ◌∙◌, subst}
use Rattle.std.specs.Prelude.{Option, Some, None, slice_get, IsSomeAnd, Contains}
use Rattle.std.proofs.lemmas.Option.{slice_get-get_or}
use Rattle.nc_schema.specs.declared.node.Node.{Node}
use Rattle.nc_schema.specs.Kinds.{has_value}
use Rattle.nc_schema.specs.Tables.{Tables}
use Rattle.nc_yang_order.proofs.Lists.{contains_at, contains_none}
use Rattle.nc_yang_scopes.specs.Scopes.{Located, Scoping}
use Rattle.nc_yang_scopes.specs.Numbers.{IsNumber}
use Rattle.nc_yang_types.specs.declared.planned.Finding.{Finding}
use Rattle.nc_yang_types.specs.declared.planned.Finding.TheVariants.{Broken, Nothing, Plan}
use Rattle.nc_yang_types.specs.declared.planned.Meanings.{Meanings}
use Rattle.nc_yang_types.specs.declared.planned.Planned.{Planned}
use Rattle.nc_yang_types.specs.declared.planned.Planned.TheVariants.{Bases, Finished, Leafref, Members}
use Rattle.nc_yang_types.specs.Meanings.{DerivedFrom, Entry, Meaning, Means, OneOf, Refers}
use Rattle.nc_yang_types.specs.Plans.{AreMeanings, HasPlan, IsFinding, IsPlan}
use Rattle.nc_yang_types.specs.Wholes.{UsesPath, itself, member}
use Rattle.nc_yang_types.proofs.MeaningLemmas.{means_one}
use Rattle.nc_yang_leafs.specs.Bases.{Basis, type_of}
use Rattle.nc_yang_leafs.specs.Marks.{plan_at}
use Rattle.nc_yang_leafs.proofs.StepLemmas.{has_plan_at, number_in_place}
use Rattle.nc_yang_leafs.specs.Circles.{HasPath}
use Rattle.nc_yang_leafs.specs.inner.Plans.{ArePaths, ArePlanPaths, AreTypePaths, UsesNumber, inner, is_valued, own}
use Rattle.nc_yang_leafs.proofs.Lists.{number_of_one}

-- the paths of a `type` statement by its plan
pub typed : (meanings : Meanings) (statement plan : ℕ) (paths : List ℕ) → plan_at meanings.findings statement ≡ Some plan → ArePlanPaths meanings plan paths → AreTypePaths meanings statement paths
typed meanings statement plan paths e h = record {
  only = λ path c. (plan, e, h.only path c);
  all = λ q path f uses. (let same : q ≡ plan = cc in h.all path (subst (λ z. UsesNumber meanings z path) same uses));
}

pub untyped : (meanings : Meanings) (statement : ℕ) → plan_at meanings.findings statement ≡ None → AreTypePaths meanings statement []
untyped meanings statement e = record { only = λ path c. absurd (contains_none path c); all = λ q path f uses. absurd (cc) }

module _ (on : ℕ → List ℕ → Bool) (scoping : Scoping) (meanings : Meanings) (are : AreMeanings on scoping meanings) where
  -- a path of a plan is one of the statements that have this plan
  pub uses_path : (plan number : ℕ) → UsesNumber meanings plan number → (l : Located) → HasPlan on scoping meanings.plans l plan → (path : Located) × (slice_get scoping.located number ≡ Some path) × UsesPath on scoping.texts l path
  uses_path _ _ (own plan number p) l h =
      let same : h.plan ≡ Leafref number p.0 = (let e = h.there in let f = p.1 in cc) in
      by h.meaning (subst (λ z. IsPlan scoping.located z h.meaning) same h.is) h.means
    where
      by : (m : Meaning) → IsPlan scoping.located (Leafref number p.0) m → Means on scoping.texts l m → (path : Located) × (slice_get scoping.located number ≡ Some path) × UsesPath on scoping.texts l path
      by (Refers path need) is means = (path, is.0, itself l path need means)
      by (Entry entry patterns names) is means = absurd is
      by (OneOf ls) is means = absurd is
      by (DerivedFrom ls) is means = absurd is
  uses_path _ _ (inner plan next number m uses) l h =
      let same : h.plan ≡ Members m.0 = (let e = h.there in let f = m.1 in cc) in
      by h.meaning (subst (λ z. IsPlan scoping.located z h.meaning) same h.is) h.means (uses_path next number uses)
    where
      by : (k : Meaning) → IsPlan scoping.located (Members m.0) k → Means on scoping.texts l k →
          ((one : Located) → HasPlan on scoping meanings.plans one next → (path : Located) × (slice_get scoping.located number ≡ Some path) × UsesPath on scoping.texts one path) →
          (path : Located) × (slice_get scoping.located number ≡ Some path) × UsesPath on scoping.texts l path
      by (Refers path need) is means rest = absurd is
      by (Entry entry patterns names) is means rest = absurd is
      by (DerivedFrom ls) is means rest = absurd is
      by (OneOf ls) is means rest =
          let a = m.2 in
          let found = number_in_place (slice_get scoping.located) m.0 ls is a.1.0 a.0 (slice_get-get_or m.0 a.1.0 a.0 a.1.1 ∙ ap Some a.1.2) in
          let r = rest found.0 (has_plan_at on scoping meanings are a.0 found.0 next found.2 a.2) in
          (r.0, r.1, member l r.0 found.0 ls means (contains_at ls a.1.0 found.0 found.1) r.2)

  -- the plan of a statement that means something
  pub record IsPlanned (l : Located) (number : ℕ) : Type 0 where
    pub plan : ℕ
    pub at : plan_at meanings.findings number ≡ Some plan
    pub has : HasPlan on scoping meanings.plans l plan

  planned : (l : Located) (m : Meaning) → Means on scoping.texts l m → (number : ℕ) → slice_get scoping.located number ≡ Some l → IsPlanned l number
  planned l m means number here = by (slice_get meanings.findings number) refl (are number l here)
    where
      by : (o : Option Finding) → slice_get meanings.findings number ≡ o → IsSomeAnd o (IsFinding on scoping meanings.plans l) → IsPlanned l number
      by None e h = absurd h
      by (Some (Plan plan)) e h = record { plan = plan; at = rw e refl; has = h }
      by (Some (Broken fault)) e h = absurd (h.1 m means)
      by (Some Nothing) e h = absurd (h.1 m means)

  -- a path of a statement is one of its plan
  pub record IsNumbered (number : ℕ) (path : Located) : Type 0 where
    pub plan : ℕ
    pub at : plan_at meanings.findings number ≡ Some plan
    pub place : ℕ
    pub uses : UsesNumber meanings plan place
    pub is : slice_get scoping.located place ≡ Some path

  pub numbered : (l path : Located) → UsesPath on scoping.texts l path → (number : ℕ) → slice_get scoping.located number ≡ Some l → IsNumbered number path
  numbered _ _ (itself l path need means) number here =
      let p = planned l (Refers path need) means number here in
      let h = p.has in
      by p h.plan h.there (subst (IsPlan scoping.located h.plan) (means_one on scoping.texts l h.meaning (Refers path need) h.means means) h.is)
    where
      by : (p : IsPlanned l number) (one : Planned) → slice_get meanings.plans p.plan ≡ Some one → IsPlan scoping.located one (Refers path need) → IsNumbered number path
      by p (Leafref place other) there is = record { plan = p.plan; at = p.at; place = place; uses = own p.plan place (other, there); is = is.0 }
      by p (Finished entry patterns names) there is = absurd is
      by p (Members members) there is = absurd is
      by p (Bases bases) there is = absurd is
  numbered _ _ (member l path one ls means c uses) number here =
      let p = planned l (OneOf ls) means number here in
      let h = p.has in
      by p h.plan h.there (subst (IsPlan scoping.located h.plan) (means_one on scoping.texts l h.meaning (OneOf ls) h.means means) h.is) (numbered one path uses)
    where
      by : (p : IsPlanned l number) (q : Planned) → slice_get meanings.plans p.plan ≡ Some q → IsPlan scoping.located q (OneOf ls) →
          ((other : ℕ) → slice_get scoping.located other ≡ Some one → IsNumbered other path) → IsNumbered number path
      by p (Members members) there is rest =
          let found = number_of_one (slice_get scoping.located) members ls is c.0 one (slice_get-get_or ls c.0 one c.1 ∙ ap Some c.2) in
          let r = rest found.0 found.2 in
          record { plan = p.plan; at = p.at; place = r.place; uses = inner p.plan r.plan r.place (members, there, (found.0, found.1, r.at)) r.uses; is = r.is }
      by p (Finished entry patterns names) there is rest = absurd is
      by p (Leafref place other) there is rest = absurd is
      by p (Bases bases) there is rest = absurd is

-- the data node of a number has a value
pub record IsValued (given : Tables) (leaf : ℕ) : Type 0 where
  pub node : Node
  pub there : slice_get given.nodes leaf ≡ Some node
  pub valued : has_value node.kind ≡ true

pub is_valued_node : (given : Tables) (leaf : ℕ) → is_valued given leaf ≡ true → IsValued given leaf
is_valued_node given leaf e = by (slice_get given.nodes leaf) refl
  where
    by : (o : Option Node) → slice_get given.nodes leaf ≡ o → IsValued given leaf
    by None is = absurd (let f : is_valued given leaf ≡ false = rw is refl in cc)
    by (Some node) is = record { node = node; there = is; valued = (let f : is_valued given leaf ≡ has_value node.kind = rw is refl in sym f ∙ e) }

-- the statement of a number
pub is_statement : (located : List Located) (number : ℕ) (o : Option Located) → IsNumber located (Some number) o → (l : Located) × (o ≡ Some l) × (slice_get located number ≡ Some l)
is_statement located number None e = absurd (cc)
is_statement located number (Some l) e = (l, refl, cc)

module _ (b : Basis) (leaf : ℕ) where
  pub no_value : is_valued b.given leaf ≡ false → ArePaths b leaf []
  no_value e = record {
    only = λ path c. absurd (contains_none path c);
    all = λ l h. absurd (let there = h.there in let valued = h.valued in let f : is_valued b.given leaf ≡ has_value h.node.kind = rw there refl in cc);
  }

  pub no_type : type_of b.scoping b.plan leaf ≡ None → ArePaths b leaf []
  no_type e = record { only = λ path c. absurd (contains_none path c); all = λ l h. absurd (let f = h.is in cc) }

  pub paths_are : (meanings : Meanings) → AreMeanings b.on b.scoping meanings → is_valued b.given leaf ≡ true → (statement : ℕ) → IsNumber b.scoping.located (Some statement) (type_of b.scoping b.plan leaf) →
      (paths : List ℕ) → AreTypePaths meanings statement paths → ArePaths b leaf paths
  paths_are meanings are valued statement is paths h = record { only = only; all = all }
    where
      node : IsValued b.given leaf
      node = is_valued_node b.given leaf valued

      of_type : (l : Located) × (type_of b.scoping b.plan leaf ≡ Some l) × (slice_get b.scoping.located statement ≡ Some l)
      of_type = is_statement b.scoping.located statement (type_of b.scoping b.plan leaf) is

      only : (path : ℕ) → Contains paths path → (l : Located) × (slice_get b.scoping.located path ≡ Some l) × HasPath b leaf l
      only path c =
          let one = h.only path c in
          let r = uses_path b.on b.scoping meanings are one.0 path one.2 of_type.0 (has_plan_at b.on b.scoping meanings are statement of_type.0 one.0 of_type.2 one.1) in
          (r.0, r.1, record { node = node.node; there = node.there; valued = node.valued; of_type = of_type.0; is = of_type.1; uses = r.2 })

      all : (l : Located) → HasPath b leaf l → (path : ℕ) × Contains paths path × (slice_get b.scoping.located path ≡ Some l)
      all l p =
          let same : p.of_type ≡ of_type.0 = (let e = p.is in let f = of_type.1 in cc) in
          let r = numbered b.on b.scoping meanings are of_type.0 l (subst (λ z. UsesPath b.on b.scoping.texts z l) same p.uses) statement of_type.2 in
          (r.place, h.all r.plan r.place r.at r.uses, r.is)
