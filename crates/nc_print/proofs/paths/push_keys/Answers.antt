use Rattle.std.proofs.Common.{◌≡◌, ◌<◌, ◌≤◌, ◌+◌, ◌++◌, ◌∷◌, [], ℕ, List, fold, length, take, ap, sym, ◌∙◌, arith, rules}
use Rattle.std.specs.List.{zip}
use Rattle.std.proofs.lemmas.List.{take_all, length_push}
use Rattle.std.proofs.lemmas.List.Sums.{fold_more}
use Rattle.std.proofs.lemmas.Slice.Zip.{zip_turn, zip_end, length-zip}
use Rattle.nc_schema.proofs.PlaceLemmas.{pair_at}
use Rattle.nc_protocol.specs.ModuleNames as names
use Rattle.nc_print.proofs.paths.push_keys.Goals as goal

pub loop-key-preserved : goal.loop-key-preserved
loop-key-preserved c =
    let f = names.with_key c.args.schema.now in
    let keys = c.args.keys.now in
    let values = c.args.values.now in
    let place : ℕ = length c.loop-key.yielded in
    let turn = zip_turn keys values c.loop-key.yielded _ c.loop-key.key-iterator c.next.new.self c.next.result (search rules) (search rules) c.loop-key.yielded_by (c.in-Some.key, c.in-Some.value) c.in-Some.is c.next.ensures.steps in
    let pair : ℕ × List ℕ = (c.in-Some.key.now, c.in-Some.value.now) in
    let here = pair_at keys values place c.in-Some.key.now c.in-Some.value.now turn.0 turn.1 (turn.2 _) (turn.3 _) in
    let within : place < length (zip keys values) = omega (arith, length-zip keys values, turn.0, turn.1) in
    let more = fold_more f c.args.bounds.now (zip keys values) place pair within in
    let count : length (c.loop-key.yielded ++ (c.in-Some.key, c.in-Some.value) ∷ []) ≡ place + 1 = length_push c.loop-key.yielded (c.in-Some.key, c.in-Some.value) in
    rw count (c.in_ok-push_key.ensures ∙ ap (λ bounds. f bounds pair) c.loop-key.invariant
    ∙ ap (f (fold f c.args.bounds.now (take place (zip keys values)))) here ∙ sym more)

pub returns : goal.returns
returns c =
    let pairs = zip c.args.keys.now c.args.values.now in
    let end = zip_end c.args.keys.now c.args.values.now c.loop-key.yielded _ c.loop-key.key-iterator c.next.new.self c.next.result (search rules) (search rules) c.loop-key.yielded_by c.in-None.is c.next.ensures.steps in
    let all : length pairs ≤ length c.loop-key.yielded = omega (arith, length-zip c.args.keys.now c.args.values.now, end) in
    c.loop-key.invariant ∙ ap (λ ps. fold (names.with_key c.args.schema.now) c.args.bounds.now ps) (take_all (length c.loop-key.yielded) pairs all)
