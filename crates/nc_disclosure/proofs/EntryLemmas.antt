-- What is so of verdicts and replies is so of entries that fit a state.
use Rattle.std.proofs.Common.{◌≡◌, ◌⊎◌, ◌∙◌, ℕ, Bool, true, false, refl, sym, ap, subst, inl, inr}
use Rattle.std.specs.Prelude.{if◌then◌else◌, List, Some}
use Rattle.nc_message.specs.declared.tree.Tree.{Tree}
use Rattle.nc_protocol.specs.Proper.{IsProper}
use Rattle.nc_protocol.specs.declared.request.Request.{Request}
use Rattle.nc_model.specs.Access.{sees_of}
use Rattle.nc_model.specs.Alike.{AreAlike, has_unseen, is_reading, reply_to}
use Rattle.nc_model.specs.ProperEvents.{IsProperEvent}
use Rattle.nc_model.specs.State.{State, expired, is_among, is_live}
use Rattle.nc_model.specs.Step.{Fits, answer_to, has_failed, outcome_of}
use Rattle.nc_model.specs.Verdict.{verdict}
use Rattle.nc_model.specs.declared.entry.Entry.{Entry}
use Rattle.nc_model.specs.declared.event.Event.{Event}
use Rattle.nc_model.specs.declared.event.Event.TheVariants.{Request as Requested}
use Rattle.nc_model.specs.declared.event.Outcome.{Outcome}
use Rattle.nc_model.specs.declared.event.Outcome.TheVariants.{NotLive}
use Rattle.nc_model.specs.declared.session.Session.{Session}
use Rattle.nc_disclosure.specs.Laws.{AreAlikeEntries, EntriesDiscloseLeast, IsAnswerTold, is_unseen_in, reply_in}
use Rattle.nc_disclosure.proofs.AlikeReplies.{reads_disclose, requests_disclose}
use Rattle.nc_disclosure.proofs.NameLemmas.{refusals_name_no_data}
use Rattle.nc_disclosure.proofs.ToldLemmas.{reply_again, verdicts_tell_seen}

-- what comes of a request where its session is live, or is not
given : State → ℕ → Request → Bool → Bool → Outcome
given s n request failed live = if live then answer_to s n request failed else NotLive

outcome_is : (s : State) (e : Entry) (n : ℕ) (request : Request) → Fits s e → e.event ≡ Requested n request →
    e.outcome ≡ given (expired s e.at) n request (has_failed e.outcome) (is_live (expired s e.at) n)
unfolding given
outcome_is s e n request fits is = fits.outcome ∙ ap (λ (event : Event). outcome_of (expired s e.at) event (has_failed e.outcome)) is

proper_is : (s : State) (e : Entry) (n : ℕ) (request : Request) → Fits s e → e.event ≡ Requested n request → IsProper request
proper_is s e n request fits is = subst (λ (event : Event). IsProperEvent event) is fits.proper

-- ---- what is told
given_is_told : (s : State) (n : ℕ) (request : Request) (failed live : Bool) → IsProper request → IsAnswerTold s n request (given s n request failed live)
unfolding given
given_is_told s n request failed true proper = (
  reply_again s.schema (sees_of s n) request (verdict s n request failed),
  verdicts_tell_seen s n request failed proper,
  refusals_name_no_data s n request failed,
)
given_is_told s n request failed false proper = tt

entry_is_told : (s : State) (e : Entry) (n : ℕ) (request : Request) → Fits s e → e.event ≡ Requested n request →
    IsAnswerTold (expired s e.at) n request e.outcome
entry_is_told s e n request fits is =
    subst (λ (outcome : Outcome). IsAnswerTold (expired s e.at) n request outcome) (sym (outcome_is s e n request fits is))
    (given_is_told (expired s e.at) n request (has_failed e.outcome) (is_live (expired s e.at) n) (proper_is s e n request fits is))

-- ---- states that are alike
abbrev Discloses : Outcome → Outcome → Type 0
Discloses outcome other = (reply_in outcome ≡ reply_in other) ⊎ ((is_unseen_in outcome ≡ true) ⊎ (is_unseen_in other ≡ true))

module _ (u v : State) (n : ℕ) (request : Request) (alike : AreAlike u v n) where
  live_same : is_live u n ≡ is_live v n
  live_same = ap (λ (sessions : List Session). is_among sessions n) alike.sessions

  given_discloses : (failed failing live : Bool) → Discloses (given u n request failed live) (given v n request failing live)
  unfolding given
  given_discloses failed failing false = inl refl
  given_discloses failed failing true = by (requests_disclose u v n alike request failed failing)
    where
      by : (reply_to u n request failed ≡ reply_to v n request failing) ⊎ ((has_unseen (verdict u n request failed) ≡ true) ⊎ (has_unseen (verdict v n request failing) ≡ true)) →
          Discloses (answer_to u n request failed) (answer_to v n request failing)
      by (inl same) = inl (ap (λ (reply : Tree). Some reply) same)
      by (inr unseen) = inr unseen

  given_reads : (failed failing live : Bool) → IsProper request → is_reading request.operation ≡ true →
      reply_in (given u n request failed live) ≡ reply_in (given v n request failing live)
  unfolding given
  given_reads failed failing false proper reading = refl
  given_reads failed failing true proper reading = ap (λ (reply : Tree). Some reply) (reads_disclose u v n alike request failed failing proper reading)

other_is : (s t : State) (e other : Entry) (n : ℕ) (request : Request) → AreAlikeEntries s t e other n request →
    other.outcome ≡ given (expired t other.at) n request (has_failed other.outcome) (is_live (expired s e.at) n)
other_is s t e other n request both =
    outcome_is t other n request both.fits_other both.event_other
    ∙ ap (given (expired t other.at) n request (has_failed other.outcome)) (sym (live_same (expired s e.at) (expired t other.at) n request both.alike))

entries_agree : (s t : State) (e other : Entry) (n : ℕ) (request : Request) → AreAlikeEntries s t e other n request → Discloses e.outcome other.outcome
entries_agree s t e other n request both =
    subst (λ (outcome : Outcome). Discloses outcome other.outcome) (sym (outcome_is s e n request both.fits both.event))
    (subst (λ (outcome : Outcome). Discloses (given (expired s e.at) n request (has_failed e.outcome) (is_live (expired s e.at) n)) outcome)
    (sym (other_is s t e other n request both))
    (given_discloses (expired s e.at) (expired t other.at) n request both.alike (has_failed e.outcome) (has_failed other.outcome) (is_live (expired s e.at) n)))

entries_read : (s t : State) (e other : Entry) (n : ℕ) (request : Request) → AreAlikeEntries s t e other n request → is_reading request.operation ≡ true →
    reply_in e.outcome ≡ reply_in other.outcome
entries_read s t e other n request both reading =
    ap reply_in (outcome_is s e n request both.fits both.event)
    ∙ given_reads (expired s e.at) (expired t other.at) n request both.alike (has_failed e.outcome) (has_failed other.outcome) (is_live (expired s e.at) n)
    (proper_is s e n request both.fits both.event) reading
    ∙ sym (ap reply_in (other_is s t e other n request both))

pub entries_disclose_least : EntriesDiscloseLeast
entries_disclose_least = record { told = entry_is_told; requests = entries_agree; reads = entries_read }
