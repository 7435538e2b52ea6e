use Rattle.std.proofs.Common.{sym, ap, ◌∙◌}
use Rattle.nc_yang_statements.specs.declared.keyword.Keyword.TheVariants.{TypeName}
use Rattle.nc_yang_statements.specs.Keywords.{is_same_keyword}
use Rattle.nc_yang_statements.specs.BuiltIns.{built_in_of}
use Rattle.nc_yang_types.proofs.FootingLemmas.{on_type}
use Rattle.nc_yang_types.proofs.footing.rests_on.Goals as goal

pub returns-in-Some-of_typedef : goal.returns-in-Some-of_typedef
returns-in-Some-of_typedef c =
    on_type c.args.scopes.now c.args.number c.in-Some.statement.now (sym c.in-Some.ensures) (sym (ap (is_same_keyword TypeName) c.kind.ensures) ∙ sym c.is_same_keyword.ensures ∙ c.if-not-is_same_keyword.false)
    (sym (ap built_in_of c.name.ensures) ∙ sym c.built_in_of.ensures ∙ c.in_default-built_in_of.is) c.in-Some-of_typedef.base c.in-Some-of_typedef.ensures
