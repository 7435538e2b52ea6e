-- A reply is that to the verdict without what the session does not see, and what is left then is seen, or named by the
-- request.
use Rattle.std.proofs.Common.{◌≡◌, ◌++◌, ◌||◌, ◌∙◌, ℕ, Bool, true, false, List, [], ◌∷◌, map, refl, sym, ap, subst, inl, inr, Option, Some, None, Result, Ok, Err, zero, suc, arith}
use Rattle.std.specs.Prelude.{if◌then◌else◌, IfSome}
use Rattle.std.specs.List.{All}
use Rattle.nc_names.specs.declared.cause.CauseKind.{CauseKind}
use Rattle.nc_names.specs.declared.cause.CauseKind.TheVariants.{ExecDenied, DataDenied}
use Rattle.nc_names.specs.declared.path.Path.{Path}
use Rattle.nc_names.specs.declared.path.Row.{Row}
use Rattle.nc_message.specs.declared.tree.Part.{Part}
use Rattle.nc_schema.specs.Tables.{Tables}
use Rattle.nc_protocol.specs.Content.{base_name}
use Rattle.nc_protocol.specs.ErrorRows.{error_of}
use Rattle.nc_protocol.specs.Reply.{cause_part, error_part, error_path, info_parts, named_by, names_shown, path_part, reply_of, reply_tree, rule_path, seen_names}
use Rattle.nc_protocol.specs.RequestLaws.{CausesAre}
use Rattle.nc_protocol.specs.Words.{error_path_word, rule_word}
use Rattle.nc_protocol.specs.declared.asked.Asked.{Asked}
use Rattle.nc_protocol.specs.declared.asked.Operation.{Operation}
use Rattle.nc_protocol.specs.declared.request.Cause.{Cause}
use Rattle.nc_protocol.specs.declared.request.Request.{Request}
use Rattle.nc_protocol.specs.declared.verdict.Verdict.{Verdict}
use Rattle.nc_protocol.specs.declared.verdict.Verdict.TheVariants.{Done, Selected, Locked, Refused}
use Rattle.nc_protocol.proofs.ListLemmas.{some_same}
use Rattle.nc_model.specs.Access.{sees_of}
use Rattle.nc_model.specs.State.{State}
use Rattle.nc_model.specs.Verdict.{verdict}
use Rattle.nc_model.specs.VerdictLaws.{IsDecided, NamesDecision, is_denial}
use Rattle.nc_model.proofs.DecidedCauses.{denials_are_named}
use Rattle.nc_disclosure.specs.Laws.{RepliesLeaveOut, VerdictsTellSeen}
use Rattle.nc_disclosure.specs.Told.{AreNamesTold, IsCauseTold, IsTold, MayBeTold, cause_told, path_told, verdict_told}
use Rattle.nc_disclosure.proofs.ShownLemmas.{GivesOf, shown_are_seen, verdict_gives}

-- ---- the names of a cause
-- those of a denial are looked at, and those of another cause are all shown
shown_names : (sees : Path → Bool) (kind : CauseKind) (path : Option Path) (names : List (List ℕ)) →
    names_shown sees (record { kind = kind; path = path; names = names }) ≡ (if is_denial kind then seen_names sees names else names)
shown_names sees ExecDenied path names = refl
shown_names sees DataDenied path names = refl
shown_names sees kind path names = refl

-- what is shown of names is all of what is shown of it
shown_again : (sees : Path → Bool) (names : List (List ℕ)) → seen_names sees (seen_names sees names) ≡ seen_names sees names
shown_again sees [] = refl
shown_again sees (one ∷ []) = refl
shown_again sees (one ∷ two ∷ []) = refl
shown_again sees (word ∷ list ∷ rule ∷ []) = by (sees (rule_path list rule)) refl
  where
    by : (b : Bool) → sees (rule_path list rule) ≡ b →
        seen_names sees (if b then word ∷ list ∷ rule ∷ [] else word ∷ []) ≡ (if b then word ∷ list ∷ rule ∷ [] else word ∷ [])
    by true e = ap (λ (b : Bool). if b then word ∷ list ∷ rule ∷ [] else word ∷ []) e
    by false e = refl
shown_again sees (one ∷ two ∷ three ∷ four ∷ more) = refl

denial_again : (sees : Path → Bool) (denial : Bool) (names : List (List ℕ)) →
    (if denial then seen_names sees (if denial then seen_names sees names else names) else (if denial then seen_names sees names else names))
    ≡ (if denial then seen_names sees names else names)
denial_again sees true names = shown_again sees names
denial_again sees false names = refl

-- ---- the reply
module _ (tables : Tables) (sees named : Path → Bool) where
  abbrev shown : Path → Bool
  shown path = sees path || named path

  names_again : (cause : Cause) → names_shown sees (cause_told sees named cause) ≡ names_shown sees cause
  names_again cause =
      shown_names sees cause.kind (path_told shown cause.path) (names_shown sees cause)
      ∙ ap (λ (names : List (List ℕ)). if is_denial cause.kind then seen_names sees names else names) (shown_names sees cause.kind cause.path cause.names)
      ∙ denial_again sees (is_denial cause.kind) cause.names
      ∙ sym (shown_names sees cause.kind cause.path cause.names)

  path_again : (path : Option Path) → error_path tables shown path ≡ error_path tables shown (path_told shown path)
  path_again None = refl
  path_again (Some path) = by (shown path) refl
    where
      by : (b : Bool) → shown path ≡ b → error_path tables shown (Some path) ≡ error_path tables shown (if b then Some path else None)
      by true e = refl
      by false e = ap (λ (b : Bool). if b then path_part tables (base_name error_path_word) path ∷ [] else []) e

  cause_again : (operation : Option Operation) (cause : Cause) → cause_part tables sees named operation cause ≡ cause_part tables sees named operation (cause_told sees named cause)
  cause_again operation cause =
      ap (λ (path : List Part). error_part (error_of operation cause.kind) (path ++ info_parts cause.kind (names_shown sees cause))) (path_again cause.path)
      ∙ ap (λ (names : List (List ℕ)). error_part (error_of operation cause.kind) (error_path tables shown (path_told shown cause.path) ++ info_parts cause.kind names))
      (sym (names_again cause))

  causes_again : (operation : Option Operation) (causes : List Cause) →
      map (cause_part tables sees named operation) causes ≡ map (cause_part tables sees named operation) (map (cause_told sees named) causes)
  causes_again operation [] = refl
  causes_again operation (cause ∷ causes) =
      ap (λ (part : Part). part ∷ map (cause_part tables sees named operation) causes) (cause_again operation cause)
      ∙ ap (λ (parts : List Part). cause_part tables sees named operation (cause_told sees named cause) ∷ parts) (causes_again operation causes)

  -- ---- what is left of a cause
  may_be_told : (path : Path) → shown path ≡ true → MayBeTold sees named path
  may_be_told path e = by (sees path) refl e
    where
      by : (b : Bool) → sees path ≡ b → b || named path ≡ true → MayBeTold sees named path
      by true seen either = inl seen
      by false unseen either = inr either

  path_may_be : (path : Option Path) → IfSome (path_told shown path) (MayBeTold sees named)
  path_may_be None = tt
  path_may_be (Some path) = by (shown path) refl
    where
      by : (b : Bool) → shown path ≡ b → IfSome (if b then Some path else None) (MayBeTold sees named)
      by true e = may_be_told path e
      by false e = tt

  names_may_be : (names : List (List ℕ)) → NamesDecision names → AreNamesTold sees (seen_names sees names)
  names_may_be [] (inl two) = cc
  names_may_be [] (inr three) = absurd (omega (arith, three.0))
  names_may_be (one ∷ []) (inl two) = cc
  names_may_be (one ∷ []) (inr three) = absurd (omega (arith, three.0))
  names_may_be (one ∷ two ∷ []) decision = inr (inl refl)
  names_may_be (word ∷ list ∷ rule ∷ []) (inl two) = absurd (omega (arith, two))
  names_may_be (word ∷ list ∷ rule ∷ []) (inr three) = by (sees (rule_path list rule)) refl
    where
      is_rule : word ≡ rule_word
      is_rule = some_same word rule_word three.1

      by : (b : Bool) → sees (rule_path list rule) ≡ b → AreNamesTold sees (if b then word ∷ list ∷ rule ∷ [] else word ∷ [])
      by true e = inr (inr (record { list = list; rule = rule; are = ap (λ (first : List ℕ). first ∷ list ∷ rule ∷ []) is_rule; seen = e }))
      by false e = inl (ap (λ (first : List ℕ). first ∷ []) is_rule)
  names_may_be (one ∷ two ∷ three ∷ four ∷ more) (inl count) = absurd (omega (arith, count))
  names_may_be (one ∷ two ∷ three ∷ four ∷ more) (inr count) = absurd (omega (arith, count.0))

  cause_is_told : (cause : Cause) → IsDecided cause → IsCauseTold sees named (cause_told sees named cause)
  cause_is_told cause decided = record {
    path = path_may_be cause.path;
    names = λ denial.
        let shown : names_shown sees cause ≡ seen_names sees cause.names =
        shown_names sees cause.kind cause.path cause.names ∙ ap (λ (b : Bool). if b then seen_names sees cause.names else cause.names) denial in
        subst (AreNamesTold sees) (sym shown) (names_may_be cause.names (decided denial));
  }

  causes_are_told : (causes : List Cause) → All IsDecided causes → All (IsCauseTold sees named) (map (cause_told sees named) causes)
  causes_are_told [] each k d within = absurd (omega (arith, within))
  causes_are_told (cause ∷ causes) each zero d within = cause_is_told cause (each 0 cause (omega arith))
  causes_are_told (cause ∷ causes) each (suc k) d within =
      causes_are_told causes (λ i other less. each (suc i) other (omega (arith, less))) k d (omega (arith, within))

pub reply_again : (tables : Tables) (sees : Path → Bool) (request : Request) (decided : Verdict) →
    reply_of tables sees request decided ≡ reply_of tables sees request (verdict_told sees (named_by tables request.asked) decided)
reply_again tables sees request Done = refl
reply_again tables sees request (Selected rows) = refl
reply_again tables sees request (Locked lock nodes) = refl
reply_again tables sees request (Refused causes) =
    ap (λ (parts : List Part). reply_tree parts request) (causes_again tables sees (named_by tables request.asked) request.operation causes)

pub replies_leave_out : RepliesLeaveOut
replies_leave_out = record {
  told = reply_again;
  same = λ tables sees request decided other e.
      reply_again tables sees request decided
      ∙ ap (λ (it : Verdict). reply_of tables sees request it) e
      ∙ sym (reply_again tables sees request other);
}

-- ---- the verdict on a request
verdict_is_told : (s : State) (n : ℕ) (named : Path → Bool) (read : Result Asked Cause) (decided : Verdict) →
    GivesOf s n read decided → CausesAre IsDecided decided → IsTold (sees_of s n) named (verdict_told (sees_of s n) named decided)
verdict_is_told s n named read Done gives each = tt
verdict_is_told s n named (Ok asked) (Selected rows) gives each =
    subst (λ (it : List Row). All (λ (row : Row). sees_of s n row.path ≡ true) it) (sym gives.2) (shown_are_seen s n gives.0).seen
verdict_is_told s n named (Err cause) (Selected rows) gives each = absurd gives
verdict_is_told s n named (Ok asked) (Locked lock nodes) gives each = gives
verdict_is_told s n named (Err cause) (Locked lock nodes) gives each = gives
verdict_is_told s n named read (Refused causes) gives each = causes_are_told s.schema (sees_of s n) named causes each

pub verdicts_tell_seen : VerdictsTellSeen
verdicts_tell_seen s n request failed proper =
    verdict_is_told s n (named_by s.schema request.asked) request.asked (verdict s n request failed)
    (verdict_gives s n request.operation request.asked failed) (denials_are_named s n request failed proper)
