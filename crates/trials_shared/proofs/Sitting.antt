-- What a pass has after a session at its desk.
use Rattle.std.proofs.Common.{◌≡◌, ℕ, List, [], sym, ap, ◌∙◌, subst, Option}
use Rattle.std.specs.Coded.{Coded}
use Rattle.nc_schema.specs.Tables.{Tables}
use Rattle.nc_model.specs.declared.entry.Entry.{Entry}
use Rattle.nc_model.specs.Desks.{Home, last_ticket}
use Rattle.nc_turn.specs.Passes.{Pass, view}
use Rattle.nc_turn.specs.Views.{Begins}
use Rattle.nc_turn.proofs.Histories.{mine_in_longer}
use Rattle.nc_session.specs.Serves.{Serves, called}
use Rattle.nc_shared.specs.declared.held.Held.{Held}
use Rattle.nc_shared.specs.declared.shared.Shared.{Shared}
use Rattle.nc_shared.specs.Chairs.{Chair, ChairStands, ChairSpent, chair_of, desk_home, home_of, IsLeft, IsPassOf}
use Rattle.nc_shared.specs.Holding.{held_home}
use Rattle.nc_shared.proofs.SameDesks.{same_desk, sits}
use Rattle.trials_shared.specs.Together.{IsSessionIn, Sitting, WasServed}
use Rattle.trials_shared.proofs.Widening.{stood_by, widened}

module _ {K C A : Type 0} (coded : Coded K) (given : C → Option (List ℕ)) (shared : Shared (Held K C A)) where
  abbrev Passed : Type 0
  Passed = Pass (Held K C A)

  abbrev at : Held K C A → Home
  at = held_home coded given

  -- the desk of a pass that has seen nothing, and a session at it
  sat_at : (schema : Tables) (sat : Sitting) (pass : Passed) (old new : Chair) → IsPassOf at shared pass →
      (view pass).seen ≡ [] → (view pass).mine ≡ [] → (view pass).gathered ≡ [] → old ≡ chair_of at shared pass →
      WasServed ChairStands ChairSpent schema sat old new →
      Serves schema (called sat.peer (desk_home (chair_of at shared pass)) [] [] sat.before)
      (ChairStands new (desk_home (chair_of at shared pass))) (ChairSpent new) sat.now sat.end
  sat_at schema sat pass old new it none no_own no_more is was =
      was (desk_home (chair_of at shared pass)) [] []
      (subst (λ (z : List Entry × List Entry). ChairStands old (desk_home (chair_of at shared pass)) z.0 z.1)
      (λ i. (none i, no_own i)) (sits at shared pass old it (no_more ∙ sym no_own) is))

  -- what a pass has once it left its desk
  pub rose : (schema : Tables) (sat : Sitting) (pass : Passed) (old new : Chair) (left : Passed) →
      IsPassOf at shared pass → (view pass).seen ≡ [] → (view pass).mine ≡ [] → (view pass).gathered ≡ [] → old ≡ chair_of at shared pass →
      WasServed ChairStands ChairSpent schema sat old new → IsLeft at new left →
      IsPassOf at shared left × ((view left).parts ≡ (view pass).parts)
  rose schema sat pass old new left it none no_own no_more is was gone =
      let stood = stood_by (sat_at schema sat pass old new it none no_own no_more is was) in
      same_desk at shared pass new left stood.2.home_is it gone

  -- its session, in a history that goes on from what it has seen
  pub sat_in : (schema : Tables) (sat : Sitting) (pass : Passed) (old new : Chair) (left : Passed) (history : List Entry) →
      IsPassOf at shared pass → (view pass).seen ≡ [] → (view pass).mine ≡ [] → (view pass).gathered ≡ [] → old ≡ chair_of at shared pass →
      WasServed ChairStands ChairSpent schema sat old new → IsLeft at new left → Begins (view left).seen history →
      IsSessionIn schema (home_of given shared) sat history (view left).mine
  sat_in schema sat pass old new left history it none no_own no_more is was gone begins =
      let served = sat_at schema sat pass old new it none no_own no_more is was in
      let seen : new.seen ≡ (view left).seen = ap (λ (c : Chair). c.seen) gone.chair_is in
      let mine : new.mine ≡ (view left).mine = ap (λ (c : Chair). c.mine) gone.chair_is in record {
        place = (desk_home (chair_of at shared pass)).place;
        own = mine_in_longer (view left).mine (view left).seen history begins gone.of.of.own;
        serves = widened schema (called sat.peer (desk_home (chair_of at shared pass)) [] [] sat.before)
            (ChairStands new (desk_home (chair_of at shared pass)))
            (λ s entries. Begins s history × (entries ≡ (view left).mine)) (ChairSpent new) (λ ticket. ticket ≡ last_ticket)
            (λ s entries stood.
            (subst (λ (h : List Entry). Begins h history) (sym (stood.seen_is ∙ seen)) begins, stood.mine_is ∙ mine))
            (λ ticket spent. spent.0) sat.now sat.end served;
      }
