-- One token after another.
use Rattle.std.proofs.Common.{◌≡◌, ℕ, ◌<◌, List, [], ◌∷◌, ◌++◌, length, Some, refl, sym, ap, ◌∙◌, subst}
use Rattle.nc_message.specs.Tokens.{Token}
use Rattle.nc_message.specs.Pieces.{token}
use Rattle.nc_message_read.specs.inner.State.{State}
use Rattle.nc_message.specs.Faults.{IsCut}
use Rattle.nc_message_read.specs.inner.Turn.{Takes, Went}
use Rattle.nc_message_read.proofs.Spelled.{go_append, go_one}

-- one token more at the end of a cut
pub cut_more : (bytes : List ℕ) (ts : List Token) (text next : List ℕ) (k : Token) → IsCut bytes ts text → 0 < length text → token text ≡ Some (k, next) → IsCut bytes (ts ++ k ∷ []) next
cut_more bytes [] text next k cut some e = (next, subst (λ l. 0 < length l) (sym cut) some, ap token cut ∙ e, refl)
cut_more bytes (x ∷ xs) text next k cut some e = (cut.0, cut.1, cut.2, cut_more cut.0 xs text next k cut.3 some e)

pub went_more : (from s t : State) (bytes text next : List ℕ) → Went from bytes s text → 0 < length text → Takes s text t next → Went from bytes t next
went_more from s t bytes text next w some k =
    record {
      tokens = w.tokens ++ k.0 ∷ [];
      cut = cut_more bytes w.tokens text next k.0 w.cut some k.1;
      leads = go_append from s w.tokens (k.0 ∷ []) w.leads ∙ go_one s t k.0 k.2;
    }
