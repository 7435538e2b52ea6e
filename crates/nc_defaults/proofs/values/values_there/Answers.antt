use Rattle.std.proofs.Common.{◌≡◌, ◌++◌, ◌∙◌, ℕ, List, ap, map, sym, true, false, length, arith}
use Rattle.std.specs.Prelude.{None, Some}
use Rattle.nc_schema.specs.InUse.{first_value}
use Rattle.nc_schema.specs.Places.{Part, is_of, parts}
use Rattle.std.specs.List.{filter, filter_map}
use Rattle.nc_defaults.specs.Within.{rows_between}
use Rattle.nc_defaults.specs.inner.Runs.{next_at}
use Rattle.nc_defaults.proofs.PartsLemmas.{first_between, map_push, values_skip, values_with}
use Rattle.nc_defaults.proofs.values.values_there.Goals as goal

pub part-preserved-in_ok-push : goal.part-preserved-in_ok-push
part-preserved-in_ok-push c =
    let args = c.args in
    let run = c.run_end-end.ensures in
    let kept = c.part.invariant in
    let rows = rows_between args.config.now c.part.at c.run_end-end.result in
    let part : Part = record { step = next_at (length args.steps.now) args.config.now c.part.at; rows = rows } in
    let here = c.next_of.ensures in
    let test = c.if-is_of.ensures rows in
    let passes : is_of args.number part ≡ true = cc in
    let is : first_value rows ≡ Some c.in-Some.value.now = first_between c.part.at c.run_end-end.result args.config.now run.later ∙ sym c.in-Some.ensures in
    let more : List (List ℕ) = filter_map (λ one. first_value one.rows) (filter (is_of args.number) (parts (length args.steps.now) (rows_between args.config.now c.run_end-end.result args.here.to))) in
    record {
      after = omega (arith, kept.after, run.later);
      within = run.within;
      rest = rw c.in_ok-push.ensures.ok
          (map_push (λ text. text.now) c.part.out c.in-Some.value more
          ∙ ap (λ vs. map (λ text. text.now) c.part.out ++ vs) (sym (values_with args.number part _ _ (Some c.in-Some.value.now) run.run passes is))
          ∙ kept.rest);
    }

pub part-preserved-in_default : goal.part-preserved-in_default
part-preserved-in_default c =
    let args = c.args in
    let run = c.run_end-end.ensures in
    let kept = c.part.invariant in
    let rows = rows_between args.config.now c.part.at c.run_end-end.result in
    let part : Part = record { step = next_at (length args.steps.now) args.config.now c.part.at; rows = rows } in
    let here = c.next_of.ensures in
    let test = c.if-is_of.ensures rows in
    let passes : is_of args.number part ≡ true = cc in
    let is : first_value rows ≡ None = first_between c.part.at c.run_end-end.result args.config.now run.later ∙ sym c.in_default.ensures in
    record {
      after = omega (arith, kept.after, run.later);
      within = run.within;
      rest = ap (λ vs. map (λ text. text.now) c.part.out ++ vs) (sym (values_with args.number part _ _ None run.run passes is)) ∙ kept.rest;
    }

pub part-preserved : goal.part-preserved
part-preserved c =
    let args = c.args in
    let run = c.run_end-end.ensures in
    let kept = c.part.invariant in
    let rows = rows_between args.config.now c.part.at c.run_end-end.result in
    let part : Part = record { step = next_at (length args.steps.now) args.config.now c.part.at; rows = rows } in
    let here = c.next_of.ensures in
    let test = c.if-is_of.ensures rows in
    let fails : is_of args.number part ≡ false = cc in
    record {
      after = omega (arith, kept.after, run.later);
      within = run.within;
      rest = ap (λ vs. map (λ text. text.now) c.part.out ++ vs) (sym (values_skip args.number part _ _ run.run fails)) ∙ kept.rest;
    }
