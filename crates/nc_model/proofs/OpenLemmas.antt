-- Where access control is off, and in a recovery session, nothing is denied.
use Rattle.std.proofs.Common.{◌≡◌, ◌&&◌, ◌||◌, ℕ, Bool, true, false, not, List, [], ◌∷◌, refl, ap, ◌∙◌}
use Rattle.std.specs.Prelude.{option_map}
use Rattle.std.specs.List.{find, list_all}
use Rattle.nc_names.specs.declared.path.Right.TheVariants.{Read}
use Rattle.nc_names.specs.declared.path.Row.{Row}
use Rattle.nc_names.specs.declared.path.Step.{Step}
use Rattle.nc_schema.specs.Tables.{Tables}
use Rattle.nc_protocol.specs.declared.access.By.TheVariants.{Off, Recovery}
use Rattle.nc_protocol.specs.declared.peer.Peer.{Peer}
use Rattle.nc_protocol.proofs.KeyLemmas.{filter_whole}
use Rattle.nc_model.specs.Decision.{Question, by_default, by_rule, decision, denied_by, first_made, made_if, of_data, of_operation, permitted_by, rules_for, subject}
use Rattle.nc_model.specs.Laws.{NothingIsDenied}
use Rattle.nc_model.specs.Sight.{beginnings, is_open, may_read, may_see}
use Rattle.nc_model.specs.declared.policy.Policy.{Policy}

-- whatever is asked
open_permits : (policy : Policy) (peer : Peer) (asked : Question) → is_open policy peer ≡ true → (decision policy peer asked).permit ≡ true
open_permits policy peer asked open_is = by policy.on peer.recovery open_is
  where
    by : (on recovery : Bool) → (not on || recovery) ≡ true →
        (first_made (made_if (not on) (permitted_by Off) ∷ made_if recovery (permitted_by Recovery) ∷ option_map permitted_by asked.always
        ∷ option_map by_rule (find asked.matches (rules_for policy peer)) ∷ option_map denied_by asked.denial ∷ []) (by_default asked.default)).permit ≡ true
    by false recovery e = refl
    by true true e = refl
    by true false e = cc

all_pass : {X : Type 0} (p : X → Bool) (xs : List X) → ((x : X) → p x ≡ true) → list_all p xs ≡ true
all_pass p [] each = refl
all_pass p (x ∷ xs) each = ap (λ b. b && list_all p xs) (each x) ∙ all_pass p xs each

open_sees : (tables : Tables) (policy : Policy) (peer : Peer) (steps : List Step) → is_open policy peer ≡ true → may_see tables policy peer steps ≡ true
open_sees tables policy peer steps open_is =
    all_pass (may_read tables policy peer) (beginnings steps) (λ above. open_permits policy peer (of_data tables policy (subject tables above) Read) open_is)

pub nothing_is_denied : NothingIsDenied
nothing_is_denied = record {
  operations = λ policy peer operation open_is. open_permits policy peer (of_operation policy operation) open_is;
  rights = λ tables policy peer steps right open_is. open_permits policy peer (of_data tables policy (subject tables steps) right) open_is;
  nodes = open_sees;
  rows = λ tables policy peer rows open_is. filter_whole (λ row. may_see tables policy peer row.path.steps) rows (λ row has. open_sees tables policy peer row.path.steps open_is);
}
