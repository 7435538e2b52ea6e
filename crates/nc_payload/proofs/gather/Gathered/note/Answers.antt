use Rattle.std.proofs.Common.{◌≡◌, ◌||◌, ◌∙◌, Bool, true, false, List, refl, sym, ap, not, subst}
use Rattle.std.specs.Bool.{OnFalse}
use Rattle.nc_names.specs.Same.{is_same_path}
use Rattle.nc_names.specs.declared.path.Step.{Step}
use Rattle.nc_payload.specs.declared.gather.Gathered.{Gathered}
use Rattle.nc_payload.specs.inner.Gathered.{has_seen}
use Rattle.nc_payload.proofs.NotedLemmas.{not_false, not_true}
use Rattle.nc_payload.proofs.PlacesLemmas.{items_added}
use Rattle.nc_payload.proofs.gather.Gathered.note.Goals as goal

pub returns-clause-noted : goal.returns-clause-noted
returns-clause-noted c =
    let before = c.args.self.now in
    let after : Gathered = record { base = before.base; rows = before.rows; seen = c.insert.new.self; next = before.next } in
    λ is. record {
      new = not_true (has_seen before c.args.steps.now) (ap (λ (key : List Step). not (has_seen before key)) (sym c.in_ok-copy.ensures) ∙ sym c.in_ok-added.ensures.added ∙ is);
      added = subst (λ (steps : List Step). (key : List Step) → has_seen after key ≡ (has_seen before key || is_same_path steps key)) c.in_ok-copy.ensures
          (items_added before.seen c.insert.new.self c.in_ok-copy.field-0 c.in_ok-added.ensures.updates.0);
      base = refl;
      rows = refl;
      next = refl;
    }

pub returns-clause-stood : goal.returns-clause-stood
returns-clause-stood c =
    let before = c.args.self.now in
    λ is. (
      not_false (has_seen before c.args.steps.now) (ap (λ (key : List Step). not (has_seen before key)) (sym c.in_ok-copy.ensures) ∙ sym c.in_ok-added.ensures.added ∙ is),
      let same : c.insert.new.self.keys ≡ before.seen.keys = subst (λ (b : Bool). OnFalse b (c.insert.new.self.keys ≡ before.seen.keys)) is c.in_ok-added.ensures.unchanged in
          λ i. record { base = before.base; rows = before.rows; seen = record { keys = same i }; next = before.next },
    )
