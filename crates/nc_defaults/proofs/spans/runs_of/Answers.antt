use Rattle.std.specs.Prelude.{option_map}
use Rattle.nc_names.specs.declared.path.Step.{Step}
use Rattle.std.proofs.Common.{◌≡◌, ◌++◌, ◌∙◌, List, ap, map, subst, sym, arith}
use Rattle.std.specs.List.{All}
use Rattle.std.proofs.lemmas.List.Elements.{All-nil, All-push}
use Rattle.nc_schema.specs.Places.{parts}
use Rattle.nc_defaults.specs.declared.spans.Run.{Run}
use Rattle.nc_defaults.specs.Within.{rows_between}
use Rattle.nc_defaults.specs.inner.Spans.{IsRun, part_at}
use Rattle.nc_defaults.proofs.SpanLemmas.{no_rows_left, one_run_more}
use Rattle.nc_defaults.proofs.spans.runs_of.Goals as goal

pub part-init : goal.part-init
part-init c =
    let args = c.args in
    let rows = args.config.now in
    record {
      after = omega arith;
      within = c.requires.order;
      all = ap (λ (rs : List Run). map (part_at args.depth rows) rs ++ parts args.depth (rows_between rows args.from args.to)) c.new-runs.ensures;
      each = subst (All (IsRun args.depth rows)) (sym c.new-runs.ensures) (All-nil (IsRun args.depth rows));
    }

pub part-preserved : goal.part-preserved
part-preserved c =
    let args = c.args in
    let rows = args.config.now in
    let kept = c.part.invariant in
    let end = c.run_end-end.result in
    let cut = c.run_end-end.ensures in
    let run : Run = record { node = c.node_of.result; from = c.part.at; to = end } in
    record {
      after = omega (arith, kept.after, cut.later);
      within = cut.within;
      all = one_run_more args.depth c.part.at end args.to rows run c.part.runs c.push.new.self _ c.in_ok-push.ensures.ok cut.run kept.all;
      each = subst (All (IsRun args.depth rows)) (sym c.in_ok-push.ensures.ok)
          (All-push (IsRun args.depth rows) c.part.runs run kept.each (record {
            node = c.node_of.ensures ∙ ap (option_map (λ (step : Step). step.node)) c.next_of.ensures;
            order = omega (arith, cut.later);
            end = omega (arith, cut.within, c.requires.end);
          }));
    }

pub returns : goal.returns
returns c =
    let args = c.args in
    let rows = args.config.now in
    let kept = c.part.invariant in
    let last : c.part.at ≡ args.to = omega (arith, kept.within, c.part-test.false) in
    record {
      all = no_rows_left args.depth c.part.at args.to rows c.part.runs _ last kept.all;
      each = kept.each;
    }
