-- The data nodes of a plan: parents come before them, modules are there, and cases are of choices in their place.
use Rattle.std.proofs.Common.{◌≡◌, ◌<◌, ◌≤◌, inl, inr, ℕ, zero, suc, List, [], ◌∷◌, ◌++◌, length, refl, sym, ap, subst, ◌∙◌, append_assoc, arith}
use Rattle.std.specs.Prelude.{Option, Some, None, IsSome, slice_get, option_map}
use Rattle.std.specs.List.{All}
use Rattle.std.proofs.lemmas.List.{append-nil, length-append}
use Rattle.std.proofs.lemmas.List.Elements.{All-cons, All-head, All-nil, All-push, All-tail}
use Rattle.nc_schema.specs.Children.{IsAbove}
use Rattle.nc_schema.specs.declared.node.Case.{Case as CaseNumber}
use Rattle.nc_schema.specs.declared.node.Deny.{Deny}
use Rattle.nc_yang_scopes.specs.Scopes.{Located, Scoping}
use Rattle.nc_yang_nodes.specs.declared.context.Context.{Context}
use Rattle.nc_yang_nodes.specs.declared.planned.Plan.{Plan}
use Rattle.nc_yang_nodes.specs.declared.planned.Planned.{Planned}
use Rattle.nc_yang_nodes.specs.declared.planned.PlannedChoice.{PlannedChoice}
use Rattle.nc_yang_nodes.specs.declared.role.Role.{Role}
use Rattle.nc_yang_nodes.specs.declared.role.Role.TheVariants.{Node, Choice, Case, Uses}
use Rattle.nc_yang_nodes.specs.Roles.{FeatureTest, block, children}
use Rattle.nc_yang_nodes.specs.Expansion.{Gives, added, after, at_top, case_after, choice_of, given, inner, list_of, node_of, none, passed, within}
use Rattle.nc_yang_nodes.specs.Plans.{AreCasesOf, GivesTexts, IsCaseOf, IsPlan, IsSoundPlan, no_text, one_more}
use Rattle.nc_yang_nodes.proofs.ListLemmas.{get_push}

-- ---- cases of choices in a place
get_first : {A : Type 0} (xs ys : List A) (k : ℕ) (x : A) → slice_get xs k ≡ Some x → slice_get (xs ++ ys) k ≡ Some x
get_first [] ys k x e = absurd (cc)
get_first (y ∷ xs) ys zero x e = e
get_first (y ∷ xs) ys (suc k) x e = get_first xs ys k x e

get_last : {A : Type 0} (xs : List A) (x : A) → slice_get (xs ++ x ∷ []) (length xs) ≡ Some x
get_last [] x = refl
get_last (y ∷ xs) x = get_last xs x

case_grown : (choices more : List PlannedChoice) (parent : Option ℕ) (before : List CaseNumber) (one : CaseNumber) →
    IsCaseOf choices parent before one → IsCaseOf (choices ++ more) parent before one
case_grown choices more parent before one h = record {
  choice = h.choice;
  is = get_first choices more one.choice h.choice h.is;
  stands = h.stands;
  after = h.after;
}

cases_grown : (choices more : List PlannedChoice) (parent : Option ℕ) (before cases : List CaseNumber) →
    AreCasesOf choices parent before cases → AreCasesOf (choices ++ more) parent before cases
cases_grown choices more parent before [] h = h
cases_grown choices more parent before (one ∷ rest) h =
    (case_grown choices more parent before one h.0, cases_grown choices more parent (before ++ one ∷ []) rest h.1)

-- one more
cases_more : (choices : List PlannedChoice) (parent : Option ℕ) (before cases whole : List CaseNumber) (one : CaseNumber) →
    before ++ cases ≡ whole → AreCasesOf choices parent before cases → IsCaseOf choices parent whole one →
    AreCasesOf choices parent before (cases ++ one ∷ [])
cases_more choices parent before [] whole one e h new =
    (subst (λ z. IsCaseOf choices parent z one) (sym (sym (append-nil before) ∙ e)) new, _)
cases_more choices parent before (k ∷ cases) whole one e h new =
    (h.0, cases_more choices parent (before ++ k ∷ []) cases whole one (append_step before k cases ∙ e) h.1 new)
  where
    append_step : (xs : List CaseNumber) (x : CaseNumber) (ys : List CaseNumber) → (xs ++ x ∷ []) ++ ys ≡ xs ++ x ∷ ys
    append_step [] x ys = refl
    append_step (y ∷ xs) x ys = ap (λ zs. y ∷ zs) (append_step xs x ys)

-- another case of the last choice
cases_next : (choices : List PlannedChoice) (parent : Option ℕ) (before cases : List CaseNumber) (one : CaseNumber) →
    AreCasesOf choices parent before (cases ++ one ∷ []) → AreCasesOf choices parent before (cases ++ case_after one ∷ [])
cases_next choices parent before [] one h =
    (record { choice = h.0.choice; is = h.0.is; stands = h.0.stands; after = h.0.after }, _)
cases_next choices parent before (k ∷ cases) one h = (h.0, cases_next choices parent (before ++ k ∷ []) cases one h.1)

after_cases : (choices : List PlannedChoice) (c : Context) → AreCasesOf choices c.parent [] (within c) →
    AreCasesOf choices c.parent [] (within (after c))
after_cases choices c h = by c.next h
  where
    by : (next : Option CaseNumber) → AreCasesOf choices c.parent [] (c.cases ++ list_of next) →
        AreCasesOf choices c.parent [] (c.cases ++ list_of (option_map case_after next))
    by None h = h
    by (Some k) h = cases_next choices c.parent [] c.cases k h

some_is : {A : Type 0} (o : Option A) (x : A) → o ≡ Some x → IsSome o
some_is o x e = rw e refl

-- ---- what is kept while statements are expanded, with so many texts
record Keeps (scoping : Scoping) (plan : Plan) : Type 0 where
  modules : All (λ (n : Planned). n.module < length scoping.texts) plan.nodes
  statements : All (λ (n : Planned). IsSome (slice_get scoping.located n.statement)) plan.nodes
  of_choices : All (λ (c : PlannedChoice). IsSome (slice_get scoping.located c.statement)) plan.choices
  parents : (number : ℕ) (n : Planned) → slice_get plan.nodes number ≡ Some n → IsAbove n.parent number
  cases : All (λ (n : Planned). AreCasesOf plan.choices n.parent [] n.cases) plan.nodes
  outer_cases : All (λ (c : PlannedChoice). AreCasesOf plan.choices c.parent [] c.within) plan.choices

-- a context in which what is planned next may stand
record Fits (scoping : Scoping) (c : Context) (plan : Plan) : Type 0 where
  in_module : c.module < length scoping.texts
  in_parent : IsAbove c.parent (length plan.nodes)
  in_cases : AreCasesOf plan.choices c.parent [] (within c)

-- the plan goes on
record Goes (scoping : Scoping) (before plan : Plan) : Type 0 where
  keeps : Keeps scoping plan
  longer : length before.nodes ≤ length plan.nodes
  more : List PlannedChoice
  choices : before.choices ++ more ≡ plan.choices

above_on : (o : Option ℕ) (n m : ℕ) → n ≤ m → IsAbove o n → IsAbove o m
above_on None n m le h = h
above_on (Some k) n m le h = let low : k < n = h in omega (arith, low, le)

parent_pushed : (scoping : Scoping) (number : ℕ) (c : Context) (deny : Deny) (plan : Plan) → Fits scoping c plan → Keeps scoping plan →
    (k : ℕ) (n : Planned) → slice_get (plan.nodes ++ node_of number c deny ∷ []) k ≡ Some n → IsAbove n.parent k
parent_pushed scoping number c deny plan fits keeps k n e =
    elim (get_push plan.nodes (node_of number c deny) n k e) [
      | inl old ↦ keeps.parents k n old
      | inr new ↦ subst (IsAbove n.parent) (sym new.0) (subst (λ (z : Planned). IsAbove z.parent (length plan.nodes)) new.1 fits.in_parent)
    ]

nodes_grown : (choices more : List PlannedChoice) (ns : List Planned) → All (λ (n : Planned). AreCasesOf choices n.parent [] n.cases) ns →
    All (λ (n : Planned). AreCasesOf (choices ++ more) n.parent [] n.cases) ns
nodes_grown choices more [] h = All-nil (λ (n : Planned). AreCasesOf (choices ++ more) n.parent [] n.cases)
nodes_grown choices more (n ∷ ns) h =
    All-cons (λ (n : Planned). AreCasesOf (choices ++ more) n.parent [] n.cases) n ns
    (cases_grown choices more n.parent [] n.cases (All-head (λ (n : Planned). AreCasesOf choices n.parent [] n.cases) n ns h))
    (nodes_grown choices more ns (All-tail (λ (n : Planned). AreCasesOf choices n.parent [] n.cases) n ns h))

choices_grown : (choices more : List PlannedChoice) (cs : List PlannedChoice) → All (λ (c : PlannedChoice). AreCasesOf choices c.parent [] c.within) cs →
    All (λ (c : PlannedChoice). AreCasesOf (choices ++ more) c.parent [] c.within) cs
choices_grown choices more [] h = All-nil (λ (c : PlannedChoice). AreCasesOf (choices ++ more) c.parent [] c.within)
choices_grown choices more (c ∷ cs) h =
    All-cons (λ (c : PlannedChoice). AreCasesOf (choices ++ more) c.parent [] c.within) c cs
    (cases_grown choices more c.parent [] c.within (All-head (λ (c : PlannedChoice). AreCasesOf choices c.parent [] c.within) c cs h))
    (choices_grown choices more cs (All-tail (λ (c : PlannedChoice). AreCasesOf choices c.parent [] c.within) c cs h))

added_keeps : (scoping : Scoping) (number : ℕ) (c : Context) (r : Role) (plan : Plan) → IsSome (slice_get scoping.located number) → Fits scoping c plan → Keeps scoping plan → Goes scoping plan (added number c r plan)
added_keeps scoping number c (Node deny) plan there fits keeps = record {
  keeps = record {
    modules = All-push (λ (n : Planned). n.module < length scoping.texts) plan.nodes (node_of number c deny) keeps.modules fits.in_module;
    statements = All-push (λ (n : Planned). IsSome (slice_get scoping.located n.statement)) plan.nodes (node_of number c deny) keeps.statements there;
    of_choices = keeps.of_choices;
    parents = parent_pushed scoping number c deny plan fits keeps;
    cases = All-push (λ (n : Planned). AreCasesOf plan.choices n.parent [] n.cases) plan.nodes (node_of number c deny) keeps.cases fits.in_cases;
    outer_cases = keeps.outer_cases;
  };
  longer = simp length-append (omega arith);
  more = [];
  choices = append-nil plan.choices;
}
added_keeps scoping number c (Choice deny) plan there fits keeps = record {
  keeps = record {
    modules = keeps.modules;
    statements = keeps.statements;
    of_choices = All-push (λ (c : PlannedChoice). IsSome (slice_get scoping.located c.statement)) plan.choices (choice_of number c (length plan.nodes)) keeps.of_choices there;
    parents = keeps.parents;
    cases = nodes_grown plan.choices (choice_of number c (length plan.nodes) ∷ []) plan.nodes keeps.cases;
    outer_cases =
        All-push (λ (x : PlannedChoice). AreCasesOf (plan.choices ++ choice_of number c (length plan.nodes) ∷ []) x.parent [] x.within) plan.choices (choice_of number c (length plan.nodes))
        (choices_grown plan.choices (choice_of number c (length plan.nodes) ∷ []) plan.choices keeps.outer_cases)
        (cases_grown plan.choices (choice_of number c (length plan.nodes) ∷ []) c.parent [] (within c) fits.in_cases);
  };
  longer = omega arith;
  more = choice_of number c (length plan.nodes) ∷ [];
  choices = refl;
}
added_keeps scoping number c (Case deny) plan there fits keeps = record { keeps = keeps; longer = omega arith; more = []; choices = append-nil plan.choices }
added_keeps scoping number c (Uses deny) plan there fits keeps = record { keeps = keeps; longer = omega arith; more = []; choices = append-nil plan.choices }

inner_fits : (scoping : Scoping) (number : ℕ) (c : Context) (r : Role) (plan : Plan) → Fits scoping c plan → Fits scoping (inner c plan r) (added number c r plan)
inner_fits scoping number c (Node deny) plan fits = record { in_module = fits.in_module; in_parent = simp length-append (omega arith); in_cases = _ }
inner_fits scoping number c (Choice deny) plan fits =
    let new : CaseNumber = record { choice = length plan.choices; case = 0 } in
    record {
      in_module = fits.in_module;
      in_parent = fits.in_parent;
      in_cases =
          cases_more (plan.choices ++ choice_of number c (length plan.nodes) ∷ []) c.parent [] (within c) (within c) new refl
          (cases_grown plan.choices (choice_of number c (length plan.nodes) ∷ []) c.parent [] (within c) fits.in_cases)
          (record { choice = choice_of number c (length plan.nodes); is = get_last plan.choices (choice_of number c (length plan.nodes)); stands = refl; after = refl });
    }
inner_fits scoping number c (Case deny) plan fits = record {
  in_module = fits.in_module;
  in_parent = fits.in_parent;
  in_cases = subst (AreCasesOf plan.choices c.parent []) (sym (append-nil (within c))) fits.in_cases;
}
inner_fits scoping number c (Uses deny) plan fits = record {
  in_module = fits.in_module;
  in_parent = fits.in_parent;
  in_cases = subst (AreCasesOf plan.choices c.parent []) (sym (append-nil (within c))) fits.in_cases;
}

after_fits : (scoping : Scoping) (c : Context) (before plan : Plan) (more : List PlannedChoice) → Fits scoping c before → length before.nodes ≤ length plan.nodes →
    before.choices ++ more ≡ plan.choices → Fits scoping (after c) plan
after_fits scoping c before plan more fits le grown = record {
  in_module = fits.in_module;
  in_parent = above_on c.parent (length before.nodes) (length plan.nodes) le fits.in_parent;
  in_cases =
      after_cases plan.choices c
      (subst (λ z. AreCasesOf z c.parent [] (within c)) grown (cases_grown before.choices more c.parent [] (within c) fits.in_cases));
}

goes_on : (scoping : Scoping) (p q r : Plan) → Goes scoping p q → Goes scoping q r → Goes scoping p r
goes_on scoping p q r one two =
    let a = one.longer in
    let b = two.longer in
    record {
      keeps = two.keeps;
      longer = omega (arith, a, b);
      more = one.more ++ two.more;
      choices = sym (append_assoc p.choices one.more two.more) ∙ ap (λ z. z ++ two.more) one.choices ∙ two.choices;
    }

module _ (scoping : Scoping) (on : FeatureTest) where
  gives_keeps : (c : Context) (p q : Plan) (ls : List Located) → Gives scoping on c p ls q → Fits scoping c p → Keeps scoping p → Goes scoping p q
  gives_keeps c p q [] (none _ _) fits keeps = record { keeps = keeps; longer = omega arith; more = []; choices = append-nil p.choices }
  gives_keeps c p q (l ∷ rest) (passed _ _ _ _ _ w g) fits keeps = gives_keeps c p q rest g fits keeps
  gives_keeps c p q (l ∷ rest) (given _ _ m _ _ _ n r at is g f) fits keeps =
      let one = added_keeps scoping n c r p (some_is (slice_get scoping.located n) l at) fits keeps in
      let two = gives_keeps (inner c p r) (added n c r p) m (block scoping.texts l r) g (inner_fits scoping n c r p fits) one.keeps in
      let mid = goes_on scoping p (added n c r p) m one two in
      let three = gives_keeps (after c) m q rest f (after_fits scoping c p m mid.more fits mid.longer mid.choices) mid.keeps in
      goes_on scoping p m q mid three

  texts_keep : (n : ℕ) (plan : Plan) → n ≤ length scoping.texts → GivesTexts scoping on n plan → Keeps scoping plan
  texts_keep _ _ le no_text = record {
    modules = All-nil (λ (n : Planned). n.module < length scoping.texts);
    statements = All-nil (λ (n : Planned). IsSome (slice_get scoping.located n.statement));
    of_choices = All-nil (λ (c : PlannedChoice). IsSome (slice_get scoping.located c.statement));
    parents = λ k n e. absurd (cc);
    cases = All-nil (λ (n : Planned). AreCasesOf [] n.parent [] n.cases);
    outer_cases = All-nil (λ (c : PlannedChoice). AreCasesOf [] c.parent [] c.within);
  }
  texts_keep _ plan le (one_more n before _ top g r h) =
      (gives_keeps (at_top n) before plan (children top) h (record { in_module = omega (arith, le); in_parent = _; in_cases = _ })
      (texts_keep n before (omega (arith, le)) g)).keeps

pub plan_is_sound : (scoping : Scoping) (on : FeatureTest) (plan : Plan) → IsPlan scoping on plan → IsSoundPlan scoping plan
plan_is_sound scoping on plan whole =
    let keeps = texts_keep scoping on (length scoping.texts) plan (omega arith) whole.gives in
    record {
      few = whole.room.few;
      modules = keeps.modules;
      statements = keeps.statements;
      of_choices = keeps.of_choices;
      parents = keeps.parents;
      cases = keeps.cases;
      outer_cases = keeps.outer_cases;
    }
