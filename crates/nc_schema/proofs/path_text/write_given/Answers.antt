-- All keys are written.
use Rattle.std.proofs.Common.{ℕ, List, ◌++◌, arith}
use Rattle.std.specs.List.{flat_map, zip}
use Rattle.std.specs.Prelude.{Option}
use Rattle.nc_schema.specs.Values.{given_predicate}
use Rattle.nc_schema.proofs.GivenLemmas.{given_all}
use Rattle.nc_schema.proofs.path_text.write_given.Goals as goal

pub returns : goal.returns
returns c =
    let f : ℕ × Option (List ℕ) → List ℕ = λ pair. given_predicate c.args.schema.now c.args.number pair.0 pair.1 in
    given_all f c.args.keys.now c.args.values.now c.loop-place.place c.loop-place.out (c.args.out.now ++ flat_map f (zip c.args.keys.now c.args.values.now)) c.loop-place.invariant (omega arith)
