-- Unions, and types by their numbers.
use Rattle.std.proofs.Common.{◌≡◌, ◌-◌, [], ◌∷◌, get_or, sym, ap, ◌∙◌, refl, arith}
use Rattle.std.proofs.lemmas.Grind.{common_steps}
use Rattle.std.specs.Option.{option_copied}
use Rattle.nc_schema.specs.Bindings.{module_bounds}
use Rattle.nc_schema.specs.Values.{text_in_type, union_text}
use Rattle.nc_types.specs.inner.Asked.{givers}
use Rattle.nc_types.specs.inner.Readings.{in_force, types_of}
use Rattle.nc_types.specs.inner.Scopes.{under}
use Rattle.nc_types.proofs.UnionLemmas.{same_ok, same_refused, type_known, union_is, union_settled}
use Rattle.nc_types.proofs.reading.Reading.+types.Goals as goal

pub text_in_type-returns-in_ok-asked-in-Union-clause-ok : goal.text_in_type-returns-in_ok-asked-in-Union-clause-ok
text_in_type-returns-in_ok-asked-in-Union-clause-ok g t c =
    same_ok c.union_text.result _ _
    (union_is c.args.self.now.schema.now (g.K.Gives.gives c.args.self.now.schema.now) c.args.most (c.args.number ∷ c.args.chain.now) c.as_slice.result.now c.in-Union.members c.as_slice-in-Union.result.now c.args.text.now (in_force (g.B.Binds.bound) c.args.self.now) c.args.found.now (c.as_slice.ensures ∙ c.in_ok-asked-in-Union.ensures) c.as_slice-in-Union.ensures c.in-Union.is) c.union_text.ensures.ok

pub text_in_type-returns-in_ok-asked-in-Union-clause-refused : goal.text_in_type-returns-in_ok-asked-in-Union-clause-refused
text_in_type-returns-in_ok-asked-in-Union-clause-refused g t c =
    same_refused c.union_text.result _ _
    (union_is c.args.self.now.schema.now (g.K.Gives.gives c.args.self.now.schema.now) c.args.most (c.args.number ∷ c.args.chain.now) c.as_slice.result.now c.in-Union.members c.as_slice-in-Union.result.now c.args.text.now (in_force (g.B.Binds.bound) c.args.self.now) c.args.found.now (c.as_slice.ensures ∙ c.in_ok-asked-in-Union.ensures) c.as_slice-in-Union.ensures c.in-Union.is) c.union_text.ensures.refused

pub type_text-returns-clause-ok : goal.type_text-returns-clause-ok
type_text-returns-clause-ok g t c =
    let tables = c.args.self.now.schema.now in
    let keys = g.K.Gives.gives tables in
    same_ok c.text_in_type.result _ _
    (sym (type_known tables keys c.args.most c.args.chain.now (in_force (g.B.Binds.bound) c.args.self.now) c.args.number c.args.text.now c.in-Some.found.now
    (text_in_type tables (givers tables keys (c.args.most - 1) (c.args.number ∷ c.args.chain.now)) c.in-Some.found.now (in_force (g.B.Binds.bound) c.args.self.now) c.args.text.now)
    (omega arith) (sym c.contains.ensures.value ∙ c.if-contains.false) (sym c.value_type.ensures.found ∙ ap option_copied c.in-Some.is) refl)) c.text_in_type.ensures.ok

pub type_text-returns-clause-refused : goal.type_text-returns-clause-refused
type_text-returns-clause-refused g t c =
    let tables = c.args.self.now.schema.now in
    let keys = g.K.Gives.gives tables in
    same_refused c.text_in_type.result _ _
    (sym (type_known tables keys c.args.most c.args.chain.now (in_force (g.B.Binds.bound) c.args.self.now) c.args.number c.args.text.now c.in-Some.found.now
    (text_in_type tables (givers tables keys (c.args.most - 1) (c.args.number ∷ c.args.chain.now)) c.in-Some.found.now (in_force (g.B.Binds.bound) c.args.self.now) c.args.text.now)
    (omega arith) (sym c.contains.ensures.value ∙ c.if-contains.false) (sym c.value_type.ensures.found ∙ ap option_copied c.in-Some.is) refl)) c.text_in_type.ensures.refused

pub union_text-returns-then-is_settled-clause-ok : goal.union_text-returns-then-is_settled-clause-ok
union_text-returns-then-is_settled-clause-ok g t c =
    let self = c.args.self.now in
    let gives = types_of (g.K.Gives.gives) self c.args.most c.args.chain.now in
    let names = module_bounds self.schema.now in
    let given = g.B.Binds.bound self.bounds.now in
    let members = c.args.members.now in
    let i = c.loop-place.place in
    let here : get_or members i 0 ≡ get_or members i (get_or members i 0) = grind (arith, common_steps) in
    union_settled (union_text gives names (under self.by_names names given) [] members c.args.text.now) gives names given self.by_names members
    c.args.text.now i (get_or members i 0) c.in-Ok.found (c.is_settled.ensures.names c.if-is_settled.true) (c.is_settled.ensures.same c.if-is_settled.true)
    c.loop-place.invariant.same (omega arith) here c.in-Ok.ensures.ok c.loop-place.invariant.none
