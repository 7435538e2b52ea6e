use Rattle.std.proofs.Common.{sym, subst}
use Rattle.std.proofs.lemmas.Result.{err_from_is_err_and}
use Rattle.nc_yang_leafs.specs.Patterns.{refusing}
use Rattle.nc_yang_nodes.specs.FeaturesOn.{is_on}
use Rattle.nc_yang.specs.Rules.{KeepsTexts}
use Rattle.nc_yang.specs.Access.{HaveStatements}
use Rattle.nc_yang.proofs.Outcomes.{begins, begun_stops, text_stops}
use Rattle.nc_yang.proofs.UnknownLemmas.{known}
use Rattle.nc_yang.proofs.texts.of_roots.Goals as goal

pub compiled-requires : goal.compiled-requires
compiled-requires g c = subst KeepsTexts (sym c.in_ok-scopes.ensures.texts) c.in_ok-keep_texts.ensures

pub returns-in_err-keep_texts : goal.returns-in_err-keep_texts
returns-in_err-keep_texts g c = λ modules read.
    let p = err_from_is_err_and c.from_residual-in_err-keep_texts.result c.from_residual-in_err-keep_texts.ensures.1 in
    rw (p.1, p.2) (text_stops modules c.args.lines.now
    (refusing (g.M.Maker.refusals c.args.maker.now) (g.M.Maker.refusals c.args.maker.now) (g.M.Maker.last_refused c.args.maker.now)) c.args.roots.now read c.in_err-keep_texts.field-0.0 c.in_err-keep_texts.ensures)

pub returns-in_err-schema : goal.returns-in_err-schema
returns-in_err-schema g c = λ modules read.
    let p = err_from_is_err_and c.from_residual-in_err-schema.result c.from_residual-in_err-schema.ensures.1 in
    let on = is_on c.in_ok-features.features in
    rw (p.1, p.2) (begun_stops modules c.args.lines.now
    (refusing (g.M.Maker.refusals c.args.maker.now) (g.M.Maker.refusals c.compiled.new.maker) (g.M.Maker.last_refused c.compiled.new.maker)) c.in_ok-scopes.scopes on
    (begins modules c.args.lines.now c.in_ok-scopes.scopes on c.args.roots.now c.in_ok-scopes.ensures.texts read c.in_ok-keep_texts.ensures c.in_ok-scopes.ensures.numbers c.in_ok-features.ensures)
    c.in_err-schema.field-0.0 c.in_err-schema.ensures)

pub returns : goal.returns
returns g c = λ modules read.
    let on = is_on c.in_ok-features.features in
    record {
      defines =
          record {
            scoping = c.in_ok-scopes.scopes;
            on = on;
            begun =
                begins modules c.args.lines.now c.in_ok-scopes.scopes on c.args.roots.now c.in_ok-scopes.ensures.texts read c.in_ok-keep_texts.ensures c.in_ok-scopes.ensures.numbers
                c.in_ok-features.ensures;
            gives = c.in_ok-schema.ensures;
          };
      unknown =
          known modules c.args.lines.now c.in_ok-scopes.scopes.texts c.first_unknown.result (subst (HaveStatements modules) (sym c.in_ok-scopes.ensures.texts) read)
          c.first_unknown.ensures;
    }
