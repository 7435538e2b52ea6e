-- An output that only grows.
use Rattle.std.proofs.Common.{◌≡◌, ℕ, List, [], ◌++◌, sym, ap, ◌∙◌, append-nil, append_assoc}
use Rattle.nc_names.specs.Appending.{Extends}

pub extends_self : (old new : List ℕ) → new ≡ old → Extends old new
extends_self old new e = record { more = []; is = e ∙ sym (append-nil old) }

pub extends_more : {mid new : List ℕ} (old more : List ℕ) → mid ≡ old ++ more → Extends mid new → Extends old new
extends_more old more e grown =
    record { more = more ++ grown.more; is = grown.is ∙ ap (λ x. x ++ grown.more) e ∙ append_assoc old more grown.more }

pub extends_twice : {old mid new : List ℕ} → Extends old mid → Extends mid new → Extends old new
extends_twice {old} first second =
    record {
      more = first.more ++ second.more;
      is = second.is ∙ ap (λ x. x ++ second.more) first.is ∙ append_assoc old first.more second.more;
    }
