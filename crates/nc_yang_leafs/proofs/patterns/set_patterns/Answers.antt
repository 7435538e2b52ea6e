use Rattle.std.proofs.Common.{sym, subst, length}
use Rattle.nc_schema.specs.Tables.{NamesPatterns, Tables}
use Rattle.nc_yang_leafs.specs.inner.Adding.{AreKnown}
use Rattle.nc_yang_leafs.proofs.AddingLemmas.{all_within, sets_none, sets_type}
use Rattle.nc_yang_leafs.proofs.PatternLemmas.{named_with}
use Rattle.nc_yang_leafs.proofs.patterns.set_patterns.Goals as goal

pub set_type-requires-clause-patterns : goal.set_type-requires-clause-patterns
set_type-requires-clause-patterns g c =
    let adds = c.in_ok-numbers.ensures.ok in
    subst (NamesPatterns (length c.add_all.new.schema.patterns)) (sym c.in_ok-with.ensures)
    (named_with (length c.add_all.new.schema.patterns) c.in_ok-numbers.numbers c.in-Some.bare.now (all_within c.add_all.new.schema.patterns c.in_ok-numbers.numbers adds.texts adds.named))

pub returns-clause-ok : goal.returns-clause-ok
returns-clause-ok g c =
    sets_type c.args.scopes.now.located c.args.place c.args.statements.now c.args.schema.now c.add_all.new.schema c.set_type.new.self c.in_ok-numbers.numbers c.in-Some.bare.now c.in_ok-with.with
    c.in_ok-numbers.ensures.ok (sym c.in-Some.ensures.found) c.in_ok-with.ensures c.set_type.ensures

pub returns-clause-known : goal.returns-clause-known
returns-clause-known g c =
    subst (λ (z : Tables). AreKnown c.args.scopes.now.located z.patterns c.add_all.new.known) (sym c.set_type.ensures) c.in_ok-numbers.ensures.known

pub returns-in_default-clause-ok : goal.returns-in_default-clause-ok
returns-in_default-clause-ok g c =
    sets_none c.args.scopes.now.located c.args.place c.args.statements.now c.args.schema.now c.add_all.new.schema c.in_ok-numbers.numbers c.in_ok-numbers.ensures.ok
    (sym c.in_default.ensures.found)
