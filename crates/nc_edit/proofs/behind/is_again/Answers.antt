use Rattle.std.proofs.Common.{◌∙◌, ◌∷◌, [], List, ap, sym}
use Rattle.nc_names.specs.declared.path.Row.{Row}
use Rattle.nc_edit.proofs.behind.is_again.Goals as goal

pub returns : goal.returns
returns c = λ is. record {
  own = c.in-Some.own.now;
  other = c.in-Some-only.other.now;
  rows_are = c.in-Some.ensures.cases.0 ∙ ap (λ (rest : List Row). c.in-Some.own.now ∷ rest) c.in-Some-only.ensures;
  more_is = c.in-Some-only-2.ensures ∙ ap (λ (row : Row). row ∷ []) (sym (c.is_same_row.ensures.0 c.if-not-is_same_row.false));
  own_is = c.is_at.ensures.0 is;
}
