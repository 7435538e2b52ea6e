-- The first data node of each choice, and the choices without data nodes.
use Rattle.std.proofs.Common.{◌≡◌, ◌≢◌, ◌==◌, ◌&&◌, ◌||◌, ◌++◌, ◌+◌, ◌<◌, ◌≤◌, ℕ, zero, suc, Bool, true, false, cond, not, List, [], ◌∷◌, length, drop, take, get_or, set, refl, sym, ap, subst, ◌∙◌, arith, append_assoc, if◌then◌else◌, Bor, map}
use Rattle.std.specs.Prelude.{Option, Some, None, slice_get, is_none, is_some, ltb, replicate, unwrap_or}
use Rattle.std.specs.List.{enumerate_from, flat_map, list_any, position_from}
use Rattle.std.specs.Option.{option_map_or}
use Rattle.std.proofs.lemmas.Bool.Decides.{Decides-eqb, nat_tests}
use Rattle.std.proofs.lemmas.List.{append-nil, drop_all, drop_more, map-append, get_or-set_other, get_or-set_same, length-replicate, length-set, take_all, take_more}
use Rattle.std.proofs.lemmas.List.Folds.{flat_map-map, list_any-append}
use Rattle.std.proofs.lemmas.Option.{slice_get_within, unwrap_or-slice_get}
use Rattle.nc_names.specs.declared.cause.CauseKind.TheVariants.{MandatoryChoice}
use Rattle.nc_names.specs.declared.path.Step.{Step}
use Rattle.nc_schema.specs.Children.{is_same_number}
use Rattle.nc_schema.specs.InUse.{stands_in}
use Rattle.nc_schema.specs.Places.{Part, Place, is_made, node_there, parts_there}
use Rattle.nc_schema.specs.Standing.{cases_of}
use Rattle.nc_schema.specs.Tables.{Tables}
use Rattle.nc_schema.specs.Violations.{child_violations, choice_violations, is_choice_before, is_required, violated}
use Rattle.nc_schema.specs.declared.node.Case.{Case}
use Rattle.nc_schema.specs.declared.node.Choice.{Choice}
use Rattle.nc_schema.specs.declared.node.Node.{Node}
use Rattle.nc_schema.specs.declared.violation.Violation.{Violation}
use Rattle.nc_defaults.specs.Children.{children_among, children_of}
use Rattle.nc_defaults.proofs.ListLemmas.{among_next, here_of, later_of, none_dropped}
use Rattle.nc_validate.specs.inner.Children.{bare_at, bare_from, child_at, choice_lacks, node_at, nodes_from}
use Rattle.nc_validate.specs.inner.Choices.{AreFirstsFrom, HasFirsts, bare_of, bares_from, first_at, first_from, is_below, is_in}
use Rattle.nc_validate.specs.inner.First.{first}
use Rattle.nc_validate.proofs.ChildrenLemmas.{cut_at, none_later, none_left}

-- ---- no data node was looked at
no_first : (count choice : ℕ) → first_at (replicate count None) choice ≡ None
no_first zero choice = refl
no_first (suc count) zero = refl
no_first (suc count) (suc choice) = no_first count choice

pub firsts_start : (tables : Tables) (count last : ℕ) (firsts : List (Option ℕ)) → firsts ≡ replicate count None → count ≡ length tables.choices → last ≡ length tables.nodes →
    AreFirstsFrom tables last firsts
firsts_start tables count last firsts is many end = record {
  long = ap length is ∙ length-replicate count (let none : Option ℕ = None in none) ∙ many;
  exact = λ choice less.
      ap (λ (fs : List (Option ℕ)). first_at fs choice) is ∙ no_first count choice
      ∙ sym (ap (position_from (λ (node : Node). is_in choice node.cases) last) (drop_all last tables.nodes (omega (arith, end))));
}

-- ---- one data node more
first_next : (tables : Tables) (choice number : ℕ) (node : Node) → slice_get tables.nodes number ≡ Some node →
    first_from tables.nodes choice number ≡ (if is_in choice node.cases then Some number else first_from tables.nodes choice (number + 1))
first_next tables choice number node found = ap (position_from (λ (one : Node). is_in choice one.cases) number) (cut_at tables.nodes number node found)

pub firsts_more : (tables : Tables) (number : ℕ) (node : Node) (before now : List (Option ℕ)) → slice_get tables.nodes number ≡ Some node →
    HasFirsts node.cases number before now → AreFirstsFrom tables (number + 1) before → AreFirstsFrom tables number now
firsts_more tables number node before now found has are = record {
  long = has.long ∙ are.long;
  exact = λ choice less.
      has.exact choice (omega (arith, less, are.long))
      ∙ ap (λ o. if is_in choice node.cases then Some number else o) (are.exact choice less)
      ∙ sym (first_next tables choice number node found);
}

pub firsts_past : (tables : Tables) (number : ℕ) (firsts : List (Option ℕ)) → slice_get tables.nodes number ≡ None → AreFirstsFrom tables (number + 1) firsts → AreFirstsFrom tables number firsts
firsts_past tables number firsts none are = record {
  long = are.long;
  exact = λ choice less.
      are.exact choice less
      ∙ ap (position_from (λ (node : Node). is_in choice node.cases) (number + 1)) (none_later tables.nodes number none)
      ∙ sym (ap (position_from (λ (node : Node). is_in choice node.cases) number) (none_left tables.nodes number none));
}

-- ---- one case more
pub cases_start : (cases : List Case) (number : ℕ) (firsts : List (Option ℕ)) → HasFirsts (take 0 cases) number firsts firsts
cases_start [] number firsts = record { long = refl; exact = λ choice less. refl }
cases_start (case ∷ cases) number firsts = record { long = refl; exact = λ choice less. refl }

at_set : (firsts : List (Option ℕ)) (choice : ℕ) (o : Option ℕ) → choice < length firsts → first_at (set firsts choice o) choice ≡ o
at_set firsts choice o within = unwrap_or-slice_get (set firsts choice o) choice None ∙ get_or-set_same firsts choice o None within

at_other : (firsts : List (Option ℕ)) (choice other : ℕ) (o : Option ℕ) → other ≢ choice → first_at (set firsts choice o) other ≡ first_at firsts other
at_other firsts choice other o apart =
    unwrap_or-slice_get (set firsts choice o) other None ∙ get_or-set_other firsts choice other o None apart ∙ sym (unwrap_or-slice_get firsts other None)

or_true : (b : Bool) → (b || (true || false)) ≡ true
or_true true = refl
or_true false = refl

or_none : (b : Bool) → (b || (false || false)) ≡ b
or_none true = refl
or_none false = refl

pub cases_more : (cases : List Case) (i : ℕ) (d : Case) (number : ℕ) (before now later : List (Option ℕ)) → i < length cases →
    later ≡ set now (get_or cases i d).choice (Some number) → HasFirsts (take i cases) number before now → HasFirsts (take (i + 1) cases) number before later
cases_more cases i d number before now later within is has = record {
  long = ap length is ∙ length-set now (get_or cases i d).choice (Some number) ∙ has.long;
  exact = λ choice less. ap (λ (fs : List (Option ℕ)). first_at fs choice) is ∙ by choice less ((get_or cases i d).choice == choice) refl;
}
  where
    own : ℕ
    own = (get_or cases i d).choice

    more : (choice : ℕ) → is_in choice (take (i + 1) cases) ≡ (is_in choice (take i cases) || ((get_or cases i d).choice == choice || false))
    more choice = ap (is_in choice) (take_more cases i d within) ∙ list_any-append (λ (one : Case). one.choice == choice) (take i cases) (get_or cases i d ∷ [])

    by : (choice : ℕ) → choice < length before → (b : Bool) → ((get_or cases i d).choice == choice) ≡ b →
        first_at (set now (get_or cases i d).choice (Some number)) choice ≡ (if is_in choice (take (i + 1) cases) then Some number else first_at before choice)
    by choice less true same =
        let it : own ≡ choice = (Decides-eqb own choice).0 same in
        ap (λ k. first_at (set now k (Some number)) choice) it
        ∙ at_set now choice (Some number) (omega (arith, less, has.long))
        ∙ sym (ap (λ b. if b then Some number else first_at before choice) (more choice ∙ ap (λ b. is_in choice (take i cases) || (b || false)) same ∙ or_true (is_in choice (take i cases))))
    by choice less false differs =
        let apart : choice ≢ own = (λ e. (let clash : true ≡ false = sym ((Decides-eqb own choice).1 (sym e)) ∙ differs in cc)) in
        at_other now own choice (Some number) apart
        ∙ has.exact choice less
        ∙ sym (ap (λ b. if b then Some number else first_at before choice) (more choice ∙ ap (λ b. is_in choice (take i cases) || (b || false)) differs ∙ or_none (is_in choice (take i cases))))

pub cases_all : (cases : List Case) (i number : ℕ) (before now : List (Option ℕ)) → length cases ≤ i → HasFirsts (take i cases) number before now → HasFirsts cases number before now
cases_all cases i number before now past has = subst (λ (cs : List Case). HasFirsts cs number before now) (take_all i cases past) has

-- ---- a data node of the choice is among the first so many where the first one is
early : {X : Type 0} (t : X → Bool) (xs : List X) (from bound : ℕ) → bound ≤ from → is_below (position_from t from xs) bound ≡ false
early t [] from bound least = refl
early t (x ∷ xs) from bound least = by (t x) (early t xs (from + 1) bound (omega (arith, least)))
  where
    by : (b : Bool) → is_below (position_from t (from + 1) xs) bound ≡ false → is_below (cond b (Some from) (position_from t (from + 1) xs)) bound ≡ false
    by true rest = let is : ltb from bound ≡ false = grind (arith, nat_tests) in is
    by false rest = rest

none_taken : {X : Type 0} (t : X → Bool) (xs : List X) → list_any t (take 0 xs) ≡ false
none_taken t [] = refl
none_taken t (x ∷ xs) = refl

nothing_taken : {X : Type 0} (t : X → Bool) (count : ℕ) → list_any t (take count []) ≡ false
nothing_taken t zero = refl
nothing_taken t (suc count) = refl

below_is : {X : Type 0} (t : X → Bool) (xs : List X) (from count bound : ℕ) → from + count ≡ bound → list_any t (take count xs) ≡ is_below (position_from t from xs) bound
below_is t [] from count bound is = nothing_taken t count
below_is t (x ∷ xs) from zero bound is = none_taken t (x ∷ xs) ∙ sym (early t (x ∷ xs) from bound (omega (arith, is)))
below_is t (x ∷ xs) from (suc count) bound is = by (t x) (below_is t xs (from + 1) count bound (omega (arith, is)))
  where
    by : (b : Bool) → list_any t (take count xs) ≡ is_below (position_from t (from + 1) xs) bound →
        (b || list_any t (take count xs)) ≡ is_below (cond b (Some from) (position_from t (from + 1) xs)) bound
    by true rest = let less : ltb from bound ≡ true = grind (arith, nat_tests) in sym less
    by false rest = rest

before_is : (tables : Tables) (number choice : ℕ) → is_below (first_from tables.nodes choice 0) number ≡ is_choice_before tables number choice
before_is tables number choice =
    ap (λ (ns : List Node). is_below (position_from (λ (node : Node). is_in choice node.cases) 0 ns) number) (none_dropped tables.nodes)
    ∙ sym (below_is (λ (node : Node). is_in choice node.cases) tables.nodes 0 number number (omega arith))

pub choice_before : (tables : Tables) (firsts : List (Option ℕ)) (number choice : ℕ) (found : Option (Option ℕ)) → found ≡ slice_get firsts choice →
    AreFirstsFrom tables 0 firsts → choice < length tables.choices → is_below (unwrap_or found None) number ≡ is_choice_before tables number choice
choice_before tables firsts number choice found is are known =
    ap (λ o. is_below (unwrap_or o None) number) is
    ∙ ap (λ o. is_below o number) (are.exact choice known)
    ∙ before_is tables number choice

-- a choice that is known
known_at : {X : Type 0} (f : X → Bool) (xs : List X) (i : ℕ) → option_map_or f (slice_get xs i) false ≡ true → i < length xs
known_at f [] i e = absurd (let clash : false ≡ true = e in cc)
known_at f (x ∷ xs) zero e = omega arith
known_at f (x ∷ xs) (suc i) e = omega (arith, known_at f xs i e)

pub lacks_known : (tables : Tables) (place : Place) (choice : ℕ) → choice_lacks tables place choice ≡ true → choice < length tables.choices
lacks_known tables place choice lacks =
    known_at (λ (one : Choice). one.mandatory && not (is_made tables place choice) && is_required tables place one.within) tables.choices choice lacks

-- ---- the choices without data nodes
-- one more is gathered, or passed
bare_next : (firsts : List (Option ℕ)) (choices : List Choice) (i : ℕ) (choice : Choice) → i < length choices → choice ≡ get_or choices i choice →
    bares_from firsts i (drop i choices) ≡ (if is_none (first_at firsts i) then choice ∷ [] else []) ++ bares_from firsts (i + 1) (drop (i + 1) choices)
bare_next firsts choices i choice within at =
    ap (bares_from firsts i) (drop_more choices i choice within ∙ ap (λ (one : Choice). one ∷ drop (i + 1) choices) (sym at))

none_if : (o : Option ℕ) → is_some o ≡ false → is_none o ≡ true
none_if None e = refl
none_if (Some other) e = absurd (let clash : true ≡ false = e in cc)

some_if : (o : Option ℕ) → is_some o ≡ true → is_none o ≡ false
some_if None e = absurd (let clash : false ≡ true = e in cc)
some_if (Some other) e = refl

pub bare_more : (firsts : List (Option ℕ)) (choices : List Choice) (i : ℕ) (choice : Bor Choice) (before now : List (Bor Choice)) (whole : List Choice) → i < length choices →
    choice.now ≡ get_or choices i choice.now → is_some (first_at firsts i) ≡ false → now ≡ before ++ choice ∷ [] →
    map (λ one. one.now) before ++ bares_from firsts i (drop i choices) ≡ whole → map (λ one. one.now) now ++ bares_from firsts (i + 1) (drop (i + 1) choices) ≡ whole
bare_more firsts choices i choice before now whole within at none is so_far =
    let rest : List Choice = bares_from firsts (i + 1) (drop (i + 1) choices) in
    let old : List Choice = map (λ one. one.now) before in
    ap (λ (cs : List (Bor Choice)). map (λ one. one.now) cs ++ rest) is
    ∙ ap (λ (cs : List Choice). cs ++ rest) (map-append (λ (one : Bor Choice). one.now) before (choice ∷ []))
    ∙ append_assoc old (choice.now ∷ []) rest
    ∙ ap (λ (cs : List Choice). old ++ cs) (sym (bare_next firsts choices i choice.now within at ∙ ap (λ b. (if b then choice.now ∷ [] else []) ++ rest) (none_if (first_at firsts i) none)))
    ∙ so_far

pub bare_passed : (firsts : List (Option ℕ)) (choices : List Choice) (i : ℕ) (choice : Choice) (before : List (Bor Choice)) (whole : List Choice) → i < length choices →
    choice ≡ get_or choices i choice → is_some (first_at firsts i) ≡ true →
    map (λ one. one.now) before ++ bares_from firsts i (drop i choices) ≡ whole → map (λ one. one.now) before ++ bares_from firsts (i + 1) (drop (i + 1) choices) ≡ whole
bare_passed firsts choices i choice before whole within at some so_far =
    let rest : List Choice = bares_from firsts (i + 1) (drop (i + 1) choices) in
    ap (λ (cs : List Choice). map (λ one. one.now) before ++ cs)
    (sym (bare_next firsts choices i choice within at ∙ ap (λ b. (if b then choice ∷ [] else []) ++ rest) (some_if (first_at firsts i) some)))
    ∙ so_far

pub bares_end : (firsts : List (Option ℕ)) (choices : List Choice) (i : ℕ) (before : List (Bor Choice)) (whole : List Choice) → length choices ≤ i →
    map (λ one. one.now) before ++ bares_from firsts i (drop i choices) ≡ whole → map (λ one. one.now) before ≡ whole
bares_end firsts choices i before whole past so_far =
    sym (append-nil (map (λ one. one.now) before))
    ∙ ap (λ (cs : List Choice). map (λ one. one.now) before ++ cs) (sym (ap (bares_from firsts i) (drop_all i choices past)))
    ∙ so_far

-- ---- what is broken in a place
-- the data nodes of a place are the children of its data node
children_on : (tables : Tables) (place : Place) (at : ℕ) (later : List Node) → drop at tables.nodes ≡ later →
    flat_map (child_at tables place) (children_among (node_there place) at later) ≡ flat_map (node_at tables place) (enumerate_from at later)
children_on tables place at [] is = refl
children_on tables place at (node ∷ later) is =
    let rest = children_on tables place (at + 1) later (later_of tables.nodes at node later is) in
    ap (flat_map (child_at tables place)) (among_next (node_there place) at node later)
    ∙ by (is_same_number node.parent (node_there place)) rest
  where
    these : child_at tables place at ≡ child_violations tables place at node
    these = ap (λ (o : Option Node). option_map_or (child_violations tables place at) o []) (here_of tables.nodes at node later is)

    by : (b : Bool) →
        flat_map (child_at tables place) (children_among (node_there place) (at + 1) later) ≡ flat_map (node_at tables place) (enumerate_from (at + 1) later) →
        flat_map (child_at tables place) ((if b then at ∷ [] else []) ++ children_among (node_there place) (at + 1) later)
        ≡ (if b then child_violations tables place at node else []) ++ flat_map (node_at tables place) (enumerate_from (at + 1) later)
    by true rest = λ i. these i ++ rest i
    by false rest = rest

pub children_listed : (tables : Tables) (place : Place) → flat_map (child_at tables place) (children_of tables.nodes (node_there place)) ≡ nodes_from tables place 0
children_listed tables place =
    children_on tables place 0 tables.nodes (none_dropped tables.nodes)
    ∙ ap (λ (ns : List Node). flat_map (node_at tables place) (enumerate_from 0 ns)) (sym (none_dropped tables.nodes))

-- a choice with a first data node is begun there
with_nodes : {X : Type 0} (t : X → Bool) (xs : List X) (from : ℕ) → list_any t (take (length xs) xs) ≡ is_some (position_from t from xs)
with_nodes t [] from = refl
with_nodes t (x ∷ xs) from = by (t x) (with_nodes t xs (from + 1))
  where
    by : (b : Bool) → list_any t (take (length xs) xs) ≡ is_some (position_from t (from + 1) xs) →
        (b || list_any t (take (length xs) xs)) ≡ is_some (cond b (Some from) (position_from t (from + 1) xs))
    by true rest = refl
    by false rest = rest

has_nodes : (tables : Tables) (choice : ℕ) → is_choice_before tables (length tables.nodes) choice ≡ is_some (first_from tables.nodes choice 0)
has_nodes tables choice =
    with_nodes (λ (node : Node). is_in choice node.cases) tables.nodes 0
    ∙ ap (λ (ns : List Node). is_some (position_from (λ (node : Node). is_in choice node.cases) 0 ns)) (sym (none_dropped tables.nodes))

not_bare : (tables : Tables) (place : Place) (number lowest : ℕ) (choice : Choice) → first_from tables.nodes number 0 ≡ Some lowest → bare_at tables place (number, choice) ≡ []
not_bare tables place number lowest choice is =
    let before : is_choice_before tables (length tables.nodes) number ≡ true = has_nodes tables number ∙ ap is_some is in
    ap (λ b. if stands_in choice.parent place then (if b then [] else choice_violations tables place number) else []) before
    ∙ by (stands_in choice.parent place)
  where
    by : (b : Bool) → (if b then (let none : List Violation = [] in none) else []) ≡ []
    by true = refl
    by false = refl

-- no node of a choice without data nodes is anywhere
none_in : {X : Type 0} (t : X → Bool) (xs : List X) (from at : ℕ) → position_from t from xs ≡ None → option_map_or t (slice_get xs at) false ≡ false
none_in t [] from zero none = refl
none_in t [] from (suc at) none = refl
none_in t (x ∷ xs) from at none = by (t x) refl none (λ k rest. none_in t xs (from + 1) k rest) at
  where
    by : (b : Bool) → t x ≡ b → cond b (Some from) (position_from t (from + 1) xs) ≡ None →
        ((k : ℕ) → position_from t (from + 1) xs ≡ None → option_map_or t (slice_get xs k) false ≡ false) →
        (k : ℕ) → option_map_or t (slice_get (x ∷ xs) k) false ≡ false
    by true is some further k = absurd (let clash = some in cc)
    by false is rest further zero = is
    by false is rest further (suc k) = further k rest

not_of : (tables : Tables) (choice number : ℕ) → first_from tables.nodes choice 0 ≡ None → is_in choice (cases_of tables number) ≡ false
not_of tables choice number none =
    by (slice_get tables.nodes number)
    (none_in (λ (node : Node). is_in choice node.cases) tables.nodes 0 number
    (ap (position_from (λ (node : Node). is_in choice node.cases) 0) (sym (none_dropped tables.nodes)) ∙ none))
  where
    by : (o : Option Node) → option_map_or (λ (node : Node). is_in choice node.cases) o false ≡ false → is_in choice (option_map_or (λ (node : Node). node.cases) o []) ≡ false
    by None e = refl
    by (Some node) e = e

never_made : (tables : Tables) (place : Place) (choice : ℕ) → first_from tables.nodes choice 0 ≡ None → is_made tables place choice ≡ false
never_made tables place choice none = all (parts_there place)
  where
    cases_at : Part → List Case
    cases_at part = option_map_or (λ (step : Step). cases_of tables step.node) part.step []

    each : (o : Option Step) → is_in choice (option_map_or (λ (step : Step). cases_of tables step.node) o []) ≡ false
    each None = refl
    each (Some step) = not_of tables choice step.node none

    all : (ps : List Part) → is_in choice (flat_map cases_at ps) ≡ false
    all [] = refl
    all (p ∷ ps) = list_any-append (λ (one : Case). one.choice == choice) (cases_at p) (flat_map cases_at ps) ∙ (λ i. each p.step i || all ps i)

-- what is broken of it is what is broken of a choice without data nodes
bare_is : (tables : Tables) (place : Place) (at : ℕ) (choice : Choice) → slice_get tables.choices at ≡ Some choice → first_from tables.nodes at 0 ≡ None →
    bare_of tables place choice ≡ bare_at tables place (at, choice)
bare_is tables place at choice here none =
    by (stands_in choice.parent place) choice.mandatory
    ∙ ap (λ made. wanted (choice.mandatory && not made && is_required tables place choice.within)) (sym (never_made tables place at none))
    ∙ ap (λ (o : Option Choice). wanted (option_map_or (λ (one : Choice). one.mandatory && not (is_made tables place at) && is_required tables place one.within) o false)) (sym here)
    ∙ ap (λ b. if stands_in choice.parent place then (if b then [] else choice_violations tables place at) else []) (sym (has_nodes tables at ∙ ap is_some none))
  where
    wanted : Bool → List Violation
    wanted b = if stands_in choice.parent place then violated b MandatoryChoice place.steps else []

    by : (s m : Bool) → violated (s && m && is_required tables place choice.within) MandatoryChoice place.steps
        ≡ (if s then violated (m && not false && is_required tables place choice.within) MandatoryChoice place.steps else [])
    by true true = refl
    by true false = refl
    by false true = refl
    by false false = refl

bares_on : (tables : Tables) (place : Place) (firsts : List (Option ℕ)) (at : ℕ) (cs : List Choice) → AreFirstsFrom tables 0 firsts → drop at tables.choices ≡ cs →
    flat_map (bare_of tables place) (bares_from firsts at cs) ≡ flat_map (bare_at tables place) (enumerate_from at cs)
bares_on tables place firsts at [] are is = refl
bares_on tables place firsts at (c ∷ cs) are is =
    by (first_at firsts at) (sym (are.exact at (slice_get_within tables.choices at c here))) (bares_on tables place firsts (at + 1) cs are (later_of tables.choices at c cs is))
  where
    here : slice_get tables.choices at ≡ Some c
    here = here_of tables.choices at c cs is

    by : (o : Option ℕ) → first_from tables.nodes at 0 ≡ o →
        flat_map (bare_of tables place) (bares_from firsts (at + 1) cs) ≡ flat_map (bare_at tables place) (enumerate_from (at + 1) cs) →
        flat_map (bare_of tables place) ((if is_none o then c ∷ [] else []) ++ bares_from firsts (at + 1) cs) ≡ bare_at tables place (at, c) ++ flat_map (bare_at tables place) (enumerate_from (at + 1) cs)
    by None e rest = λ i. bare_is tables place at c here e i ++ rest i
    by (Some lowest) e rest = rest ∙ ap (λ vs. vs ++ flat_map (bare_at tables place) (enumerate_from (at + 1) cs)) (sym (not_bare tables place at lowest c e))

pub bares_listed : (tables : Tables) (place : Place) (firsts : List (Option ℕ)) (bares : List (Bor Choice)) → AreFirstsFrom tables 0 firsts →
    map (λ one. one.now) bares ≡ bares_from firsts 0 tables.choices → flat_map (λ one. bare_of tables place one.now) bares ≡ bare_from tables place 0
bares_listed tables place firsts bares are is =
    sym (flat_map-map (bare_of tables place) (λ (one : Bor Choice). one.now) bares)
    ∙ ap (flat_map (bare_of tables place)) is
    ∙ bares_on tables place firsts 0 tables.choices are (none_dropped tables.choices)
    ∙ ap (λ (cs : List Choice). flat_map (bare_at tables place) (enumerate_from 0 cs)) (sym (none_dropped tables.choices))

-- ---- one data node, one choice
pub child_found : (tables : Tables) (place : Place) (number : ℕ) (node : Node) (o : Option Violation) → slice_get tables.nodes number ≡ Some node →
    o ≡ first (child_violations tables place number node) → o ≡ first (child_at tables place number)
child_found tables place number node o found is =
    is ∙ ap (λ (n : Option Node). first (option_map_or (child_violations tables place number) n [])) (sym found)

pub no_child : (tables : Tables) (place : Place) (number : ℕ) → slice_get tables.nodes number ≡ None → None ≡ first (child_at tables place number)
no_child tables place number none =
    ap (λ (n : Option Node). first (option_map_or (child_violations tables place number) n [])) (sym none)
