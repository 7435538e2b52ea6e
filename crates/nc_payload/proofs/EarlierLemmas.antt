-- Steps that were put into a set, and numbers beside them; the first few steps, and those after them.
use Rattle.std.proofs.Common.{◌≡◌, ◌==◌, ◌||◌, ◌&&◌, ℕ, Bool, true, false, cond, List, [], ◌∷◌, ◌++◌, refl, sym, ap, ◌∙◌}
use Rattle.std.proofs.lemmas.Bool.{eqb-true}
use Rattle.std.proofs.lemmas.List.{append-nil, append_assoc}
use Rattle.std.proofs.lemmas.List.Folds.{list_any-append}
use Rattle.std.specs.List.{list_any}
use Rattle.std.specs.BTreeSet.{BTreeSet, contains}
use Rattle.std.specs.Ordering.{is_eq}
use Rattle.nc_names.proofs.StepOrder.{step_ties}
use Rattle.nc_names.specs.contracts.path.StepOrd.TheImpl.{ghosts}
use Rattle.nc_names.specs.Same.{is_same_keys, is_same_step}
use Rattle.nc_names.specs.declared.path.Step.{Step}
use Rattle.nc_schema.specs.Standing.{cases_differ, cases_of}
use Rattle.nc_schema.specs.Tables.{Tables}
use Rattle.nc_schema.specs.declared.node.Case.{Case}
use Rattle.nc_schema.specs.declared.node.Node.{Node}
use Rattle.nc_protocol.specs.Faults.{clashes, stands_once}
use Rattle.nc_protocol.specs.declared.position.Under.{Under}
use Rattle.nc_payload.specs.inner.Earlier.{AddsNumber, AddsSought, AddsStep, AreNumbersOf, AreSought, has_no_keys, is_sought}

turned : (s b : Bool) → cond s true b ≡ (b || s)
turned true true = refl
turned true false = refl
turned false true = refl
turned false false = refl

pub step_added : (before after : BTreeSet Step) (step : Step) → ((other : Step) → contains ghosts.cmp after other ≡ cond (is_eq (ghosts.cmp step other)) true (contains ghosts.cmp before other)) →
    AddsStep before after step
step_added before after step put other =
    put other ∙ ap (λ b. cond b true (contains ghosts.cmp before other)) (step_ties step other) ∙ turned (is_same_step step other) (contains ghosts.cmp before other)

or_false : (b : Bool) → (b || false) ≡ b
or_false true = refl
or_false false = refl

and_false : (b : Bool) → (b && false) ≡ false
and_false true = refl
and_false false = refl

-- a step that is not looked up is none that is
not_sought : (each : Bool) (step other : Step) → is_sought each step ≡ false → is_sought each other ≡ true → is_same_step step other ≡ false
not_sought true step other is_not sought = absurd (let clash : true ≡ false = is_not in cc)
not_sought false step other is_not sought = apart (step.node == other.node) step.keys other.keys is_not sought
  where
    apart : (b : Bool) (some others : List (List ℕ)) → has_no_keys some ≡ false → has_no_keys others ≡ true → (b && is_same_keys some others) ≡ false
    apart b [] others is_not bare = absurd (let clash : true ≡ false = is_not in cc)
    apart b (key ∷ some) [] is_not bare = and_false b
    apart b (key ∷ some) (other ∷ others) is_not bare = absurd (let clash : false ≡ true = bare in cc)

pub none_sought : (each : Bool) (set : BTreeSet Step) (step : Step) → is_sought each step ≡ false → AddsSought each set set step
none_sought each set step is_not other sought =
    sym (ap (λ b. contains ghosts.cmp set other || b) (not_sought each step other is_not sought) ∙ or_false (contains ghosts.cmp set other))

-- one step more, in the list and beside it
pub sought_more : (each : Bool) (list : List Step) (before after : BTreeSet Step) (step : Step) → AreSought each list before → AddsSought each before after step → AreSought each (list ++ step ∷ []) after
sought_more each list before after step are added other sought =
    added other sought ∙ ap (λ b. b || is_same_step step other) (are other sought)
    ∙ ap (λ b. list_any (λ one. is_same_step one other) list || b) (sym (or_false (is_same_step step other)))
    ∙ sym (list_any-append (λ one. is_same_step one other) list (step ∷ []))

pub numbers_more : (list : List Step) (before after : List ℕ) (step : Step) → AreNumbersOf list before → AddsNumber before after step.node → AreNumbersOf (list ++ step ∷ []) after
numbers_more list before after step are added test =
    added test ∙ ap (λ b. b || test step.node) (are test)
    ∙ ap (λ b. list_any (λ (one : Step). test one.node) list || b) (sym (or_false (test step.node)))
    ∙ sym (list_any-append (λ (one : Step). test one.node) list (step ∷ []))

-- a number that is there already adds nothing
pub number_there : (number : ℕ) (numbers : List ℕ) → list_any (λ other. other == number) numbers ≡ true → AddsNumber numbers numbers number
number_there number [] e test = absurd (let clash : false ≡ true = e in cc)
number_there number (other ∷ numbers) e test = by (other == number) refl e (λ rest. number_there number numbers rest test)
  where
    twice : (t x : Bool) → (t || x) ≡ ((t || x) || t)
    twice true x = refl
    twice false true = refl
    twice false false = refl

    behind : (t x n : Bool) → x ≡ (x || n) → (t || x) ≡ ((t || x) || n)
    behind true x n e = refl
    behind false x n e = e

    by : (b : Bool) → (other == number) ≡ b → (b || list_any (λ one. one == number) numbers) ≡ true →
        (list_any (λ one. one == number) numbers ≡ true → list_any test numbers ≡ (list_any test numbers || test number)) →
        (test other || list_any test numbers) ≡ ((test other || list_any test numbers) || test number)
    by true is e rest = twice (test other) (list_any test numbers) ∙ ap (λ n. (test other || list_any test numbers) || test n) (eqb-true other number is)
    by false is e rest = behind (test other) (list_any test numbers) (test number) (rest e)

pub number_pushed : (number : ℕ) (numbers : List ℕ) → AddsNumber numbers (numbers ++ number ∷ []) number
number_pushed number numbers test = list_any-append test numbers (number ∷ []) ∙ ap (λ b. list_any test numbers || b) (or_false (test number))

-- a step clashes where it is among those that stand once, or is of another case
pub any_clash : (tables : Tables) (under : Under) (node : Node) (step : Step) (list : List Step) →
    list_any (clashes tables under node step) list
    ≡ ((stands_once under node.kind && list_any (λ other. is_same_step other step) list) || list_any (λ other. cases_differ node.cases (cases_of tables other.node)) list)
any_clash tables under node step [] = none (stands_once under node.kind)
  where
    none : (b : Bool) → false ≡ ((b && false) || false)
    none true = refl
    none false = refl
any_clash tables under node step (other ∷ list) =
    ap (λ b. clashes tables under node step other || b) (any_clash tables under node step list)
    ∙ mixed (stands_once under node.kind) (is_same_step other step) (cases_differ node.cases (cases_of tables other.node))
    (list_any (λ one. is_same_step one step) list) (list_any (λ one. cases_differ node.cases (cases_of tables one.node)) list)
  where
    mixed : (once same differ sames differs : Bool) → (((once && same) || differ) || ((once && sames) || differs)) ≡ ((once && (same || sames)) || (differ || differs))
    mixed true true differ sames differs = refl
    mixed true false true true differs = refl
    mixed true false true false differs = refl
    mixed true false false true differs = refl
    mixed true false false false differs = refl
    mixed false same true sames differs = refl
    mixed false same false sames differs = refl

-- a node without cases is of no other case than another
pub no_cases : (tables : Tables) (cases : List Case) (list : List Step) → cases ≡ [] → list_any (λ other. cases_differ cases (cases_of tables other.node)) list ≡ false
no_cases tables cases [] none = refl
no_cases tables cases (step ∷ list) none =
    (λ i. cases_differ (none i) (cases_of tables step.node) || list_any (λ other. cases_differ cases (cases_of tables other.node)) list) ∙ no_cases tables cases list none

-- one step more, among the first few or after them
pub few_more : (few more : List Step) (step : Step) → more ≡ [] → ((few ++ step ∷ []) ++ more) ≡ ((few ++ more) ++ step ∷ [])
few_more few more step none =
    (λ i. (few ++ step ∷ []) ++ none i) ∙ append-nil (few ++ step ∷ []) ∙ ap (λ (steps : List Step). steps ++ step ∷ []) (sym (append-nil few))
    ∙ (λ i. (few ++ sym none i) ++ step ∷ [])

pub many_more : (few more : List Step) (step : Step) → (few ++ (more ++ step ∷ [])) ≡ ((few ++ more) ++ step ∷ [])
many_more few more step = sym (append_assoc few more (step ∷ []))

-- a step is among the first few or after them, and so is one of another case
pub among_both : (step : Step) (few more : List Step) →
    list_any (λ other. is_same_step other step) (few ++ more) ≡ (list_any (λ other. is_same_step other step) few || list_any (λ other. is_same_step other step) more)
among_both step few more = list_any-append (λ other. is_same_step other step) few more

pub case_of_both : (tables : Tables) (cases : List Case) (few more : List Step) →
    list_any (λ other. cases_differ cases (cases_of tables other.node)) (few ++ more)
    ≡ (list_any (λ other. cases_differ cases (cases_of tables other.node)) few || list_any (λ other. cases_differ cases (cases_of tables other.node)) more)
case_of_both tables cases few more = list_any-append (λ (other : Step). cases_differ cases (cases_of tables other.node)) few more
