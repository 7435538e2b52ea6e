use Rattle.std.proofs.Common.{◌++◌, ◌∷◌, [], sym, ap, ◌∙◌, append_assoc}
use Rattle.nc_message.proofs.Declaring.{declares_more}
use Rattle.nc_message.proofs.start.push_bound_uses.Goals as goal

pub loop-bound-preserved : goal.loop-bound-preserved
loop-bound-preserved c =
    let front = c.loop-bound.invariant.0 in (
      front ++ c.in-Some.bound.now ∷ [],
      c.loop-bound.invariant.1 ∙ ap (λ r. front ++ r) c.in-Some.ensures
          ∙ sym (append_assoc front (c.in-Some.bound.now ∷ []) c.next.new.self),
      declares_more front (c.in-Some.bound.now ∷ []) c.loop-bound.invariant.2 c.in_ok-push_use.ensures.ok,
    )
