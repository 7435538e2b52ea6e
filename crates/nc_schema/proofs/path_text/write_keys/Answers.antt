use Rattle.std.proofs.Common.{◌≡◌, ◌<◌, ◌≤◌, ◌++◌, ◌∷◌, [], ℕ, suc, List, length, take, ap, sym, ◌∙◌, add-one, append_assoc, arith, rules}
use Rattle.std.specs.List.{flat_map, zip}
use Rattle.std.proofs.lemmas.List.{take_all, length_push}
use Rattle.std.proofs.lemmas.Slice.Zip.{zip_turn, zip_end, length-zip}
use Rattle.nc_schema.specs.PathTexts.{key_predicate}
use Rattle.nc_schema.proofs.PlaceLemmas.{written_more, pair_at}
use Rattle.nc_schema.proofs.path_text.write_keys.Goals as goal

pub loop-key-preserved : goal.loop-key-preserved
loop-key-preserved c =
    let f = λ (pair : ℕ × List ℕ). key_predicate c.args.schema.now pair.0 pair.1 in
    let keys = c.args.keys.now in
    let values = c.args.values.now in
    let place : ℕ = length c.loop-key.yielded in
    let turn = zip_turn keys values c.loop-key.yielded _ c.loop-key.key-iterator c.next.new.self c.next.result (search rules) (search rules) c.loop-key.yielded_by (c.in-Some.key, c.in-Some.value) c.in-Some.is c.next.ensures.steps in
    let pair : ℕ × List ℕ = (c.in-Some.key.now, c.in-Some.value.now) in
    let here = pair_at keys values place c.in-Some.key.now c.in-Some.value.now turn.0 turn.1 (turn.2 _) (turn.3 _) in
    let within : place < length (zip keys values) = omega (arith, length-zip keys values, turn.0, turn.1) in
    let more = written_more f (zip keys values) place pair within here in
    let count : length (c.loop-key.yielded ++ (c.in-Some.key, c.in-Some.value) ∷ []) ≡ suc place = length_push c.loop-key.yielded (c.in-Some.key, c.in-Some.value) ∙ add-one place in
    rw count (c.in_ok-write_key.ensures ∙ ap (λ x. x ++ f pair) c.loop-key.invariant ∙ append_assoc c.args.out.now (flat_map f (take place (zip keys values))) (f pair) ∙ ap (λ x. c.args.out.now ++ x) (sym more))

pub returns : goal.returns
returns c =
    let f = λ (pair : ℕ × List ℕ). key_predicate c.args.schema.now pair.0 pair.1 in
    let pairs = zip c.args.keys.now c.args.values.now in
    let end = zip_end c.args.keys.now c.args.values.now c.loop-key.yielded _ c.loop-key.key-iterator c.next.new.self c.next.result (search rules) (search rules) c.loop-key.yielded_by c.in-None.is c.next.ensures.steps in
    let all : length pairs ≤ length c.loop-key.yielded = omega (arith, length-zip c.args.keys.now c.args.values.now, end) in
    c.loop-key.invariant ∙ ap (λ ps. c.args.out.now ++ flat_map f ps) (take_all (length c.loop-key.yielded) pairs all)
