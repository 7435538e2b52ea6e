-- Cases of a choice: when those of two nodes agree, and that a node is in one of them.
use Rattle.std.proofs.Common.{◌≡◌, ◌≢◌, ◌==◌, ◌&&◌, ℕ, zero, suc, Bool, true, false, not, List, [], ◌∷◌, Option, Some, None, refl, sym, ap, subst, ◌∙◌, arith}
use Rattle.std.proofs.lemmas.Bool.Decides.{Decides-eqb}
use Rattle.std.proofs.lemmas.List.Folds.{list_any_none}
use Rattle.std.specs.List.{AllPairs, Contains, list_any}
use Rattle.std.specs.Option.{IsSomeAnd, option_map_or}
use Rattle.std.specs.Prelude.{slice_get}
use Rattle.nc_schema.specs.declared.node.Case.{Case}
use Rattle.nc_schema.specs.declared.node.Node.{Node}
use Rattle.nc_schema.specs.Configuration.{IsInCase}
use Rattle.nc_schema.proofs.ProperLemmas.{HasProperNodes}
use Rattle.nc_schema.specs.Tables.{Tables}
use Rattle.nc_schema.specs.Standing.{cases_differ, cases_of}
use Rattle.nc_protocol.proofs.ListLemmas.{none_passes}
use Rattle.nc_protocol.proofs.Parts.{all_from}

-- cases that do not differ
pub cases_same : (some others : List Case) (choice case another : ℕ) → cases_differ some others ≡ false →
    Contains some (record { choice = choice; case = case }) → Contains others (record { choice = choice; case = another }) → case ≡ another
cases_same some others choice case another e has has_other =
    let inner = none_passes _ some _ e has in
    let outer = none_passes _ others _ inner has_other in
    by (choice == choice) ((Decides-eqb choice choice).1 refl) (case == another) refl outer
  where
    by : (a : Bool) → a ≡ true → (b : Bool) → (case == another) ≡ b → (a && not b) ≡ false → case ≡ another
    by true is true same e = (Decides-eqb case another).0 same
    by true is false same e = cc
    by false is b same e = cc

abbrev pub cases_in : Option Node → List Case
cases_in o = option_map_or (λ node. node.cases) o []

pub in_case : (tables : Tables) (number choice case : ℕ) → IsInCase tables number choice case → Contains (cases_of tables number) (record { choice = choice; case = case })
in_case tables number choice case is = by (slice_get tables.nodes number) is
  where
    by : (o : Option Node) → IsSomeAnd o (λ node. Contains node.cases (record { choice = choice; case = case })) → Contains (cases_in o) (record { choice = choice; case = case })
    by None none = absurd none
    by (Some node) has = has

pub from_cases : (tables : Tables) (number choice case : ℕ) → Contains (cases_of tables number) (record { choice = choice; case = case }) → IsInCase tables number choice case
from_cases tables number choice case has = by (slice_get tables.nodes number) has
  where
    by : (o : Option Node) → Contains (cases_in o) (record { choice = choice; case = case }) → IsSomeAnd o (λ node. Contains node.cases (record { choice = choice; case = case }))
    by None none = absurd (omega (arith, none.1))
    by (Some node) here = here

-- cases that agree do not differ
pub cases_agree : (some others : List Case) → ((choice case another : ℕ) → Contains some (record { choice = choice; case = case }) → Contains others (record { choice = choice; case = another }) → case ≡ another) →
    cases_differ some others ≡ false
cases_agree some others agree =
    list_any_none (λ one. list_any (differ one) others) some (all_from (λ one. list_any (differ one) others ≡ false) some (λ one has.
    list_any_none (differ one) others (all_from (λ other. differ one other ≡ false) others (λ other has_other. by one other has has_other (one.choice == other.choice) refl))))
  where
    differ : Case → Case → Bool
    differ one other = one.choice == other.choice && not (one.case == other.case)

    by : (one other : Case) → Contains some one → Contains others other → (b : Bool) → (one.choice == other.choice) ≡ b → (b && not (one.case == other.case)) ≡ false
    by one other has has_other false e = refl
    by one other has has_other true e =
        ap not ((Decides-eqb one.case other.case).1
        (agree one.choice one.case other.case has
        (subst (λ (c : ℕ). Contains others (record { choice = c; case = other.case })) (sym ((Decides-eqb one.choice other.choice).0 e)) has_other)))

pub none_differ : (some : List Case) → cases_differ some [] ≡ false
none_differ [] = refl
none_differ (one ∷ some) = none_differ some

-- elements that differ in a part are the same where that part is
apart_same : {X Y : Type 0} (f : X → Y) (xs : List X) (a b : X) → AllPairs (λ x later. f x ≢ f later) xs → Contains xs a → Contains xs b → f a ≡ f b → a ≡ b
apart_same f [] a b apart (k, within, here) there same = absurd (omega (arith, within))
apart_same f (x ∷ xs) a b apart (zero, within, here) (zero, inside, there) same = sym here ∙ there
apart_same f (x ∷ xs) a b apart (zero, within, here) (suc j, inside, there) same = absurd (apart 0 (suc j) b (omega arith) inside (ap f here ∙ same ∙ ap f (sym there)))
apart_same f (x ∷ xs) a b apart (suc i, within, here) (zero, inside, there) same = absurd (apart 0 (suc i) a (omega arith) within (ap f there ∙ sym same ∙ ap f (sym here)))
apart_same f (x ∷ xs) a b apart (suc i, within, here) (suc j, inside, there) same =
    apart_same f xs a b (λ k l d less short. apart (suc k) (suc l) d (omega (arith, less)) (omega (arith, short))) (i, omega (arith, within), here) (j, omega (arith, inside), there) same

-- a node is in one case of a choice
pub one_case : (tables : Tables) → HasProperNodes tables → (number choice case another : ℕ) → IsInCase tables number choice case → IsInCase tables number choice another → case ≡ another
one_case tables proper number choice case another = by (slice_get tables.nodes number) refl
  where
    one : Case
    one = record { choice = choice; case = case }

    other : Case
    other = record { choice = choice; case = another }

    by : (o : Option Node) → slice_get tables.nodes number ≡ o → IsSomeAnd o (λ node. Contains node.cases one) → IsSomeAnd o (λ node. Contains node.cases other) → case ≡ another
    by None none has there = absurd has
    by (Some node) is has there = ap (λ (at : Case). at.case) (apart_same (λ (at : Case). at.choice) node.cases one other (proper.cases_apart number node is) has there refl)
