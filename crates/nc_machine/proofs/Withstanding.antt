-- What of a keeper lasts over a call.
use Rattle.std.proofs.Common.{◌≡◌, ◌⊎◌, inl, inr, ℕ, Bool, true, false, if◌then◌else◌, List, [], ◌∷◌, ◌++◌, Contains, Option, Some, None, Result, Ok, Err, refl, sym, ◌∙◌, ap, subst, arith}
use Rattle.std.specs.Prelude.{IfSome}
use Rattle.std.specs.Result.{IsErr}
use Rattle.std.proofs.lemmas.List.Elements.{Contains-append_left}
use Rattle.nc_names.specs.declared.cause.CauseKind.TheVariants.{DiskFault}
use Rattle.nc_names.specs.declared.memory.Memory.{Memory}
use Rattle.nc_names.specs.declared.path.Row.{Row}
use Rattle.nc_model.specs.declared.event.Event.{Event}
use Rattle.nc_model.specs.declared.event.Outcome.{Outcome}
use Rattle.nc_model.specs.State.{State, candidate_in_force}
use Rattle.nc_model.specs.Step.{has_failed, reaches_disk}
use Rattle.nc_protocol.specs.Refusals.{refused_for}
use Rattle.nc_protocol.specs.declared.request.Request.{Request}
use Rattle.nc_protocol.specs.declared.verdict.Verdict.TheVariants.{Done}
use Rattle.nc_tree.specs.Keeping.{Adds, Keeping, Keeps, doubted, standing}
use Rattle.nc_tree.specs.declared.keeper.Doubt.{Doubt}
use Rattle.nc_tree.specs.declared.keeper.Doubt.TheVariants.{Nothing, Earlier, This}
use Rattle.nc_tree.specs.declared.keeper.Kept.TheVariants.{Kept as IsKept, Failed}
use Rattle.nc_machine.specs.Lasting.{DoubtAfter, Lasting, Withstands, WithstandsEvent, base_after}
use Rattle.nc_machine.specs.inner.Turns.{answered_by, failed_in}

-- the laws of a keeper
pub record IsLasting {K : Type 0} (words : Lasting K) : Type 0 where
  pub fewer : (k : K) (t : ℕ) (these those : List (List Row)) →
      ((rows : List Row) → Contains these rows → Contains those rows) → words.leaves k t these → words.leaves k t those
  pub on : (k : K) → words.continues k k
  pub further : (one two three : K) → words.continues one two → words.continues two three → words.continues one three

-- ---- a keeper that is not called
same_base : (reaches : Bool) (failed : Option Bool) (rows base : List Row) → IfSome failed (λ f. reaches ≡ false) →
    IfSome failed (λ f. base ≡ base_after reaches f rows base)
same_base reaches None rows base none = tt
same_base reaches (Some f) rows base none = subst (λ r. base ≡ base_after r f rows base) (sym none) refl

same_doubt : (reaches : Bool) (failed : Option Bool) (rows : List Row) (doubt : Option (List Row)) →
    IfSome failed (λ f. reaches ≡ false) → IfSome failed (λ f. DoubtAfter reaches f rows doubt doubt)
same_doubt reaches None rows doubt none = tt
same_doubt reaches (Some f) rows doubt none = subst (λ r. DoubtAfter r f rows doubt doubt) (sym none) refl

module _ {K : Type 0} (base : K → List Row) (words : Lasting K) (laws : IsLasting words) where
  adds_none : (k : K) (among : List (List Row)) → Adds words.moment words.leaves k k among
  adds_none k among = record {
    later = omega arith;
    since = λ t earlier le left. laws.fewer k t earlier (earlier ++ among)
        (λ rows has. Contains-append_left earlier among rows has) left;
  }

  pub idle : (reaches : Bool) (rows : List Row) (k : K) (failed : Option Bool) → IfSome failed (λ f. reaches ≡ false) →
      Withstands base words reaches rows k k failed
  idle reaches rows k failed none = record {
    moments = adds_none k ((if reaches then rows ∷ [] else []) ++ standing (base k) (words.doubt k));
    continues = laws.on k;
    base_is = same_base reaches failed rows (base k) none;
    doubt_is = same_doubt reaches failed rows (words.doubt k) none;
  }

  -- whatever the answer is, of what does not reach the disk
  pub idle_for : (reaches : Bool) (rows : List Row) (k : K) (failed : Option Bool) → reaches ≡ false →
      Withstands base words reaches rows k k failed
  idle_for reaches rows k None none = idle reaches rows k None tt
  idle_for reaches rows k (Some f) none = idle reaches rows k (Some f) none

  -- nor is it for want of memory
  pub idle_wanted : (reaches : Bool) (rows : List Row) (k : K) (result : Result Outcome Memory) → IsErr result →
      Withstands base words reaches rows k k (failed_in result)
  idle_wanted reaches rows k (Ok outcome) err = absurd (cc)
  idle_wanted reaches rows k (Err memory) err = idle reaches rows k None tt

  pub idle_as : (reaches : Bool) (rows : List Row) (before now : K) (failed : Option Bool) → now ≡ before →
      IfSome failed (λ f. reaches ≡ false) → Withstands base words reaches rows before now failed
  idle_as reaches rows before now failed same none =
      subst (λ k. Withstands base words reaches rows before k failed) (sym same) (idle reaches rows before failed none)

-- ---- a keeper that is called
doubted_is : (doubt : Doubt) (rows : List Row) (before now : Option (List Row)) → now ≡ doubted before rows doubt →
    DoubtAfter true true rows before now
doubted_is Nothing rows before now is = inl is
doubted_is Earlier rows before now is = inr (inl is)
doubted_is This rows before now is = inr (inr is)

-- ---- what came of a commit
well : (s : State) (session : ℕ) (request : Request) → has_failed (answered_by s session request Done) ≡ false
unfolding answered_by
well s session request = refl

ill : (s : State) (session : ℕ) (request : Request) → has_failed (answered_by s session request (refused_for DiskFault [])) ≡ true
unfolding answered_by
ill s session request = refl

module _ {K : Type 0} (base : K → List Row) (failures : K → ℕ) (words : Lasting K) (rows : List Row) (before now : K)
    (moments : Adds words.moment words.leaves before now (rows ∷ standing (base before) (words.doubt before)))
    (continues : words.continues before now) where
  abbrev as_was : Keeping
  as_was = record { base = base before; doubt = words.doubt before; failures = failures before }

  abbrev as_is : Keeping
  as_is = record { base = base now; doubt = words.doubt now; failures = failures now }

  -- the rows are kept
  pub kept_withstands : (s : State) (session : ℕ) (request : Request) (outcome : Outcome) →
      outcome ≡ answered_by s session request Done → Keeps rows as_was as_is IsKept →
      Withstands base words true rows before now (Some (has_failed outcome))
  kept_withstands s session request outcome told keeps =
      subst (λ (f : Bool). Withstands base words true rows before now (Some f))
      (sym (ap has_failed told ∙ well s session request))
      (record {
        moments = moments;
        continues = continues;
        base_is = ap (λ (k : Keeping). k.base) keeps;
        doubt_is = ap (λ (k : Keeping). k.doubt) keeps;
      })

  -- the disk failed
  pub failed_withstands : (s : State) (session : ℕ) (request : Request) (outcome : Outcome) (doubt : Doubt) →
      outcome ≡ answered_by s session request (refused_for DiskFault []) → Keeps rows as_was as_is (Failed doubt) →
      Withstands base words true rows before now (Some (has_failed outcome))
  failed_withstands s session request outcome doubt told keeps =
      subst (λ (f : Bool). Withstands base words true rows before now (Some f))
      (sym (ap has_failed told ∙ ill s session request))
      (record {
        moments = moments;
        continues = continues;
        base_is = keeps.0;
        doubt_is = doubted_is doubt rows (words.doubt before) (words.doubt now) keeps.1;
      })

-- a commit reaches the disk
pub over_commit : {K : Type 0} (base : K → List Row) (words : Lasting K) (s : State) (event : Event) (before now : K)
    (failed : Option Bool) → reaches_disk s event ≡ true →
    Withstands base words true (candidate_in_force s) before now failed →
    WithstandsEvent base words s event before now failed
over_commit base words s event before now failed reaches over =
    subst (λ (r : Bool). Withstands base words r (candidate_in_force s) before now failed) (sym reaches) over

-- the state is that after the reading
pub over_read : {K : Type 0} (base : K → List Row) (words : Lasting K) (read s : State) (event : Event) (before now : K)
    (failed : Option Bool) → read ≡ s → WithstandsEvent base words read event before now failed →
    WithstandsEvent base words s event before now failed
over_read base words read s event before now failed is over =
    subst (λ (x : State). WithstandsEvent base words x event before now failed) is over
