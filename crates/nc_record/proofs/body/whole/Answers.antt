use Rattle.std.proofs.Common.{◌∙◌, ap, subst, map, List, Bor}
use Rattle.nc_names.specs.declared.path.Row.{Row}
use Rattle.nc_record.specs.Reading.{AreTexts}
use Rattle.nc_record.proofs.body.whole.Goals as goal

pub returns-clause-texts : goal.returns-clause-texts
returns-clause-texts c = subst AreTexts (ap (λ (rows : List (Bor Row)). map (λ (r : Bor Row). r.now) rows) c.as_slice-rows.ensures ∙ c.in_ok-all.ensures) c.in_ok-push_rows.ensures.texts
