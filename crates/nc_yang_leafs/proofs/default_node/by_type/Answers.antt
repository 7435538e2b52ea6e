use Rattle.std.proofs.Common.{◌∙◌, sym, subst}
use Rattle.nc_yang_scopes.specs.Numbers.{AreNumbers}
use Rattle.nc_yang_statements.specs.Stops.{OnBroken}
use Rattle.nc_yang_leafs.specs.inner.Reading.{IsStop, defined}
use Rattle.nc_yang_leafs.proofs.NodeLemmas.{brought_bad, brought_good, brought_sources}
use Rattle.nc_yang_leafs.proofs.default_node.by_type.Goals as goal

pub returns-in-Ok : goal.returns-in-Ok
returns-in-Ok c = λ are l here none means.
    let d = defined c.args.number c.args.node.now l in
    let b = c.brought.ensures l here none means in
    let s = brought_sources c.args.scopes.now c.args.schema.now d none c.brought.result b in
    brought_good c.args.scopes.now c.args.schema.now d none c.brought.result b c.in-Ok.values
    (c.in-Ok.ensures are s.sources (subst (λ z. AreNumbers c.args.scopes.now.located z s.sources) (sym (c.as_slice.ensures ∙ c.in_ok-found.ensures)) s.numbers))

pub returns-in-Err-Broken : goal.returns-in-Err-Broken
returns-in-Err-Broken c = λ are l here none means.
    let d = defined c.args.number c.args.node.now l in
    let b = c.brought.ensures l here none means in
    let s = brought_sources c.args.scopes.now c.args.schema.now d none c.brought.result b in
    brought_bad c.args.scopes.now c.args.schema.now d none c.brought.result b c.in-Err-Broken.stop c.bad_default.result
    (subst (OnBroken (IsStop c.args.scopes.now c.args.schema.now c.args.number s.sources)) c.in-Err-Broken.field-0-is
    (c.in-Err-Broken.ensures are s.sources (subst (λ z. AreNumbers c.args.scopes.now.located z s.sources) (sym (c.as_slice.ensures ∙ c.in_ok-found.ensures)) s.numbers)))
    (c.bad_default.ensures l here)
