-- How many types may still be asked, and how far the members are looked at.
use Rattle.std.proofs.Common.{◌≡◌, ◌+◌, ◌*◌, ℕ, true, [], take, drop}
use Rattle.std.specs.Option.{is_none}
use Rattle.std.specs.List.{list_all}
use Rattle.nc_schema.specs.Bindings.{module_bounds}
use Rattle.nc_schema.specs.Values.{agrees, union_text}
use Rattle.nc_types.specs.inner.Readings.{in_force, types_of}
use Rattle.nc_types.proofs.reading.Reading.+types.Given as goal

abbrev pub decreases-type_text : goal.decreases-type_text
decreases-type_text g l = 4 * l.most

abbrev pub decreases-text_in_type : goal.decreases-text_in_type
decreases-text_in_type g l = 4 * l.most + 3

abbrev pub decreases-union_text : goal.decreases-union_text
decreases-union_text g l = 4 * l.most + 2

abbrev pub decreases-agree : goal.decreases-agree
decreases-agree g l = 4 * l.most + 1

abbrev pub invariant-agree-loop-other : goal.invariant-agree-loop-other
invariant-agree-loop-other g l =
    let names = module_bounds l.self.schema.now in
    list_all (λ (one : ℕ). agrees l.found (types_of (g.K.Gives.gives) l.self l.most l.chain names one l.found)) l.earlier
    ≡ list_all (λ (one : ℕ). agrees l.found (types_of (g.K.Gives.gives) l.self l.most l.chain names one l.found)) (drop l.other-index l.earlier)

abbrev pub invariant-union_text-loop-place : goal.invariant-union_text-loop-place
invariant-union_text-loop-place g l =
    let gives = types_of (g.K.Gives.gives) l.self l.most l.chain in
    let names = module_bounds l.self.schema.now in
    let bounds = in_force (g.B.Binds.bound) l.self in
    record {
      same : union_text gives names bounds [] l.members l.text ≡ union_text gives names bounds (take l.place l.members) (drop l.place l.members) l.text;
      none : list_all (λ (one : ℕ). is_none (gives bounds one l.text)) (take l.place l.members) ≡ true;
    }
