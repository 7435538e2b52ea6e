use Rattle.std.proofs.Common.{◌∙◌, ◌∷◌, List, ap, length, sym}
use Rattle.std.proofs.lemmas.Bool.Decides.{Decides-eqb}
use Rattle.std.proofs.lemmas.List.{nil_from_length}
use Rattle.nc_names.specs.declared.path.Row.{Row}
use Rattle.nc_edit.proofs.behind.only.Goals as goal

pub returns-then-is_empty : goal.returns-then-is_empty
returns-then-is_empty c =
    let none = (Decides-eqb (length c.in-Some.more.now) 0).0 (sym c.is_empty.ensures ∙ c.if-is_empty.true) in
    c.in-Some.ensures.cases.0 ∙ ap (λ (rest : List Row). c.in-Some.row.now ∷ rest) (nil_from_length c.in-Some.more.now none)
