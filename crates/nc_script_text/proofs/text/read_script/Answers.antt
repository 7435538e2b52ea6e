-- One step more.
use Rattle.std.proofs.Common.{◌≡◌, ◌∷◌, [], sym, subst, length-append, length-drop, ap, length, arith}
use Rattle.std.specs.List.{All}
use Rattle.std.proofs.lemmas.List.Elements.{All-push}
use Rattle.nc_script_text.specs.Lines.{IsProper}
use Rattle.nc_script_text.proofs.Ahead.{one_line_more}
use Rattle.nc_script_text.proofs.text.read_script.Goals as goal

pub loop-rest-preserved : goal.loop-rest-preserved
loop-rest-preserved c =
    let found = c.in-Ok.ensures in
    let push = c.in_ok-push-in-Ok.ensures.ok in
    let left = c.tail-rest.ensures in
    let one = length-append c.loop-rest.steps (c.in-Ok.found.step ∷ []) in
    let long = ap length push in
    let short = ap length left in
    let dropped = length-drop c.in-Ok.found.len c.loop-rest.rest.now in
    record {
      text_is = one_line_more c.args.text.now c.loop-rest.rest.now c.tail-rest.result.now c.loop-rest.steps c.push.new.self c.in-Ok.found
          c.loop-rest.invariant.text_is found push left;
      proper = subst (All IsProper) (sym push)
          (All-push IsProper c.loop-rest.steps c.in-Ok.found.step c.loop-rest.invariant.proper found.proper);
      line_is = omega (arith, c.loop-rest.invariant.line_is, long, one);
      few = omega (arith, c.loop-rest.invariant.few, long, one, short, dropped, found.some, found.few);
    }
