use Rattle.std.proofs.Common.{◌∙◌, ap, subst, List, ℕ, true, cond}
use Rattle.std.proofs.lemmas.Map.Text.{is_eq-slice_cmp}
use Rattle.nc_message.specs.inner.Declaring.{IsAdded, has}
use Rattle.nc_message.proofs.prefixes.Prefixes.add.Goals as goal

pub returns : goal.returns
returns c =
    let P : List ℕ → Type 0 = λ p. IsAdded c.args.self.now.seen c.insert.new.self p c.in_ok-added.added in
    subst P c.in_ok-copy.ensures (
      c.in_ok-added.ensures.added,
      λ other.
          c.in_ok-added.ensures.updates.0 other
          ∙ ap (λ t. cond t true (has c.args.self.now.seen other)) (is_eq-slice_cmp c.in_ok-copy.field-0 other),
    )
