use Rattle.std.proofs.Common.{◌∙◌, ◌==◌, ◌∷◌, ◌++◌, [], List, ℕ, ap, refl}
use Rattle.std.specs.Prelude.{map}
use Rattle.std.specs.List.{list_any}
use Rattle.nc_filter.proofs.SpotLemmas.{first_want}
use Rattle.nc_filter.proofs.wants.first_wants.Goals as goal

pub returns : goal.returns
returns c =
    first_want (map (λ elem. elem.now) c.args.elems.now) c.in_ok-copy.copy c.of_list-members.result (record { members = c.of_list-members.result; labels = c.new-labels.result; elems = c.in_ok-copy.copy }) c.push-2.new.self
    refl refl c.in_ok-copy.ensures
    (c.of_list-members.ensures 0 ∙ ap (list_any (λ one. one == 0)) (c.in_ok-push.ensures.ok ∙ ap (λ (few : List ℕ). few ++ 0 ∷ []) c.new-few.ensures))
    (c.in_ok-push-2.ensures.ok ∙ ap (λ out. out ++ record { members = c.of_list-members.result; labels = c.new-labels.result; elems = c.in_ok-copy.copy } ∷ []) c.new-out.ensures)
