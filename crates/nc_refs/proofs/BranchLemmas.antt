-- The first part of each step, found in a table.
use Rattle.std.proofs.Common.{◌≡◌, ℕ, Bool, true, false, cond, List, [], ◌∷◌, Option, Some, None, refl, sym, ap, subst, ◌∙◌, Bor}
use Rattle.std.specs.Prelude.{is_some, IfSome, option_map, if◌then◌else◌}
use Rattle.std.specs.List.{filter}
use Rattle.std.specs.BTreeMap.{get, get_by}
use Rattle.std.specs.Option.{option_or}
use Rattle.std.specs.Ordering.{is_eq}
use Rattle.std.proofs.lemmas.Bool.Decides.{Decides-eqb}
use Rattle.nc_names.proofs.StepOrder.{step_ties}
use Rattle.nc_names.proofs.SameLemmas.{step_decide}
use Rattle.nc_names.specs.Same.{is_same_step}
use Rattle.nc_names.specs.contracts.path.StepOrd.TheImpl.{ghosts}
use Rattle.nc_names.specs.declared.path.Row.{Row}
use Rattle.nc_names.specs.declared.path.Step.{Step}
use Rattle.nc_schema.specs.Children.{is_same_number}
use Rattle.nc_schema.specs.Kinds.{holds_nodes}
use Rattle.nc_schema.specs.Places.{Part, Place, is_of, is_same_next, or_empty, parts_of, parts_there, place_parts}
use Rattle.nc_schema.specs.declared.node.Kind.{Kind}
use Rattle.nc_schema.specs.declared.node.Kind.TheVariants.{Container, Leaf, LeafList, List as ListKind}
use Rattle.nc_defaults.specs.Within.{rows_between}
use Rattle.nc_refs.specs.inner.Branches.{AddsFirst, IsSpan, Spans, first_part, part_at, step_order}

or_none : {X : Type 0} (o : Option X) → option_or o None ≡ o
or_none None = refl
or_none (Some x) = refl

-- a step that is there keeps its part
pub there_stays : (table : Spans) (step : Bor Step) (span : ℕ × ℕ) → is_some (get step_order table step) ≡ true → AddsFirst table table step.now span
there_stays table step span there key = by (is_same_step step.now key.now) refl
  where
    found : Step → Option (ℕ × ℕ)
    found own = get_by (λ other. ghosts.cmp own other.now) table

    stays : (o : Option (ℕ × ℕ)) → is_some o ≡ true → o ≡ option_or o (Some span)
    stays (Some x) is = refl
    stays None is = cc

    by : (same : Bool) → is_same_step step.now key.now ≡ same → get step_order table key ≡ option_or (get step_order table key) (if same then Some span else None)
    by true e = stays (get step_order table key) (subst (λ (own : Step). is_some (get_by (λ other. ghosts.cmp own other.now) table) ≡ true) ((step_decide step.now key.now).0 e) there)
    by false e = sym (or_none (get step_order table key))

-- a step that is not there gets one
pub one_more : (table now : Spans) (step : Bor Step) (span : ℕ × ℕ) → is_some (get step_order table step) ≡ false →
    ((key : Bor Step) → get step_order now key ≡ cond (is_eq (step_order step key)) (Some span) (get step_order table key)) → AddsFirst table now step.now span
one_more table now step span lacks put key = by (is_same_step step.now key.now) refl
  where
    absent : (o : Option (ℕ × ℕ)) → is_some o ≡ false → o ≡ None
    absent None is = refl
    absent (Some x) is = cc

    none : get step_order table step ≡ None
    none = absent (get step_order table step) lacks

    by : (same : Bool) → is_same_step step.now key.now ≡ same → get step_order now key ≡ option_or (get step_order table key) (if same then Some span else None)
    by true e =
        put key ∙ ap (λ b. cond b (Some span) (get step_order table key)) (step_ties step.now key.now ∙ e)
        ∙ ap (λ o. option_or o (Some span)) (sym (subst (λ (own : Step). get_by (λ other. ghosts.cmp own other.now) table ≡ None) ((step_decide step.now key.now).0 e) none))
    by false e =
        put key ∙ ap (λ b. cond b (Some span) (get step_order table key)) (step_ties step.now key.now ∙ e) ∙ sym (or_none (get step_order table key))

-- one run of rows further: its part stands first of those that are left
pub part_more : (rows : List Row) (span : ℕ × ℕ) (before now : Spans) (step : Step) (next : Option Step) (all rest : List Part) → next ≡ Some step →
    AddsFirst before now step span → all ≡ record { step = next; rows = rows_between rows span.0 span.1 } ∷ rest → (key : Bor Step) →
    option_or (option_map (part_at rows key.now) (get step_order now key)) (first_part key.now rest)
    ≡ option_or (option_map (part_at rows key.now) (get step_order before key)) (first_part key.now all)
part_more rows span before now step next all rest is adds run key =
    ap (λ o. option_or (option_map (part_at rows key.now) o) (first_part key.now rest)) (adds key)
    ∙ by (get step_order before key) (is_same_step step key.now) refl
    ∙ ap (λ ps. option_or (option_map (part_at rows key.now) (get step_order before key)) (first_part key.now ps))
    (sym (run ∙ ap (λ n. record { step = n; rows = rows_between rows span.0 span.1 } ∷ rest) is))
  where
    here : Part
    here = record { step = Some step; rows = rows_between rows span.0 span.1 }

    by : (found : Option (ℕ × ℕ)) (same : Bool) → is_same_step step key.now ≡ same →
        option_or (option_map (part_at rows key.now) (option_or found (if same then Some span else None))) (first_part key.now rest)
        ≡ option_or (option_map (part_at rows key.now) found) (first_part key.now (here ∷ rest))
    by (Some other) same e = refl
    by None true e =
        ap (λ (own : Step). Some (part_at rows own span)) (sym ((step_decide step key.now).0 e))
        ∙ sym (ap (λ b. if b then Some here else first_part key.now rest) e)
    by None false e = sym (ap (λ b. if b then Some here else first_part key.now rest) e)

pub span_more : (rows : List Row) (span : ℕ × ℕ) (before now : Spans) (step : Step) → AddsFirst before now step span → IsSpan rows span →
    ((key : Bor Step) → IfSome (get step_order before key) (IsSpan rows)) → (key : Bor Step) → IfSome (get step_order now key) (IsSpan rows)
span_more rows span before now step adds within each key =
    subst (λ o. IfSome o (IsSpan rows)) (sym (adds key)) (by (get step_order before key) (is_same_step step key.now) (each key))
  where
    by : (found : Option (ℕ × ℕ)) (same : Bool) → IfSome found (IsSpan rows) → IfSome (option_or found (if same then Some span else None)) (IsSpan rows)
    by (Some other) same is = is
    by None true is = within
    by None false is = tt

-- the first node to which a step leads is the first among those of its data node
first_of_node : (step : Step) (part : Part) (found : List Part) → first_part step found ≡ Some part → first_part step (filter (is_of step.node) found) ≡ Some part
first_of_node step part [] is = cc
first_of_node step part (one ∷ more) is = by (is_same_next one.step (Some step)) refl (is_of step.node one) refl is (first_of_node step part more)
  where
    kept : (o : Option Step) → is_same_next o (Some step) ≡ true → is_same_number (option_map (λ s. s.node) o) (Some step.node) ≡ true
    kept None same = cc
    kept (Some other) same =
        subst (λ (own : Step). is_same_number (Some own.node) (Some step.node) ≡ true) (sym ((step_decide other step).0 same)) ((Decides-eqb step.node step.node).1 refl)

    by : (same : Bool) → is_same_next one.step (Some step) ≡ same → (of : Bool) → is_of step.node one ≡ of →
        first_part step (one ∷ more) ≡ Some part → (first_part step more ≡ Some part → first_part step (filter (is_of step.node) more) ≡ Some part) →
        first_part step (filter (is_of step.node) (one ∷ more)) ≡ Some part
    by true same of e first later =
        ap (λ b. first_part step (if b then one ∷ filter (is_of step.node) more else filter (is_of step.node) more)) (kept one.step same)
        ∙ ap (λ b. if b then Some one else first_part step (filter (is_of step.node) more)) same
        ∙ sym (ap (λ b. if b then Some one else first_part step more) same) ∙ first
    by false same true e first later =
        ap (λ b. first_part step (if b then one ∷ filter (is_of step.node) more else filter (is_of step.node) more)) e
        ∙ ap (λ b. if b then Some one else first_part step (filter (is_of step.node) more)) same
        ∙ later (sym (ap (λ b. if b then Some one else first_part step more) same) ∙ first)
    by false same false e first later =
        ap (λ b. first_part step (if b then one ∷ filter (is_of step.node) more else filter (is_of step.node) more)) e
        ∙ later (sym (ap (λ b. if b then Some one else first_part step more) same) ∙ first)

-- so it is the instance to which the step leads
pub found_part : (place : Place) (step : Step) (kind : Kind) (part : Part) → holds_nodes kind ≡ true → first_part step (parts_there place) ≡ Some part →
    first_part step (place_parts place step.node kind) ≡ Some part
found_part place step (Container presence) part holds is = by (parts_of place step.node) (first_of_node step part (parts_there place) is)
  where
    by : (found : List Part) → first_part step found ≡ Some part → first_part step (or_empty presence step.node found) ≡ Some part
    by [] e = cc
    by (one ∷ more) e = e
found_part place step Leaf part holds is = cc
found_part place step LeafList part holds is = cc
found_part place step ListKind part holds is = first_of_node step part (parts_there place) is
