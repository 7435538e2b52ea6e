use Rattle.std.proofs.Common.{◌≡◌, ◌==◌, ◌∙◌, ◌∷◌, [], List, ℕ, zero, suc, Bool, true, false, refl, ap, length, take, drop, Option, Some, None}
use Rattle.std.specs.Option.{option_or}
use Rattle.std.specs.Prelude.{option_map}
use Rattle.nc_names.specs.declared.cause.CauseKind.TheVariants.{LockPartial, Limit}
use Rattle.nc_protocol.specs.Asking.{plain_cause}
use Rattle.nc_protocol.specs.Edited.{cause_where, first_cause}
use Rattle.nc_protocol.specs.declared.request.Cause.{Cause}
use Rattle.nc_model.specs.State.{NodeLock, last_lock_id, locks_of, locks_some, most_locks}
use Rattle.nc_model.specs.Verdict.{lock_of_other, nodes_selected, partial_lock_cause, partial_lock_checks}
use Rattle.nc_model.specs.Words.{partial_locks_word, lock_ids_word}
use Rattle.nc_partial.specs.Granted.{refusal}
use Rattle.nc_partial.specs.Laws.{checks_before}
use Rattle.nc_partial.specs.inner.Given.{told_of}
use Rattle.nc_partial.proofs.laws.refusal_as_stated.Goals as goal

-- the first of the checks up to a place, or else of those from there on
cut : (n : ℕ) (checks : List (Option Cause)) → first_cause checks ≡ option_or (first_cause (take n checks)) (first_cause (drop n checks))
cut zero checks = refl
cut (suc n) [] = refl
cut (suc n) (None ∷ checks) = cut n checks
cut (suc n) (Some cause ∷ checks) = refl

-- the checks of the partial locks
last_three : (found : Option NodeLock) (many spent : Bool) (last : ℕ) →
    first_cause (option_map (partial_lock_cause LockPartial) found ∷ cause_where many (plain_cause Limit (partial_locks_word ∷ [])) ∷ cause_where spent (plain_cause Limit (lock_ids_word ∷ [])) ∷ [])
    ≡ refusal (told_of found many spent last)
last_three (Some lock) many spent last = refl
last_three None true spent last = refl
last_three None false true last = refl
last_three None false false last = refl

pub returns : goal.returns
returns c = λ s session selects.
    cut checks_before (partial_lock_checks s session selects)
    ∙ ap (option_or (first_cause (take checks_before (partial_lock_checks s session selects))))
    (last_three (lock_of_other s session (locks_some (nodes_selected s session selects))) (length (locks_of session s.partial) == most_locks)
    (s.last_lock == last_lock_id) s.last_lock)
