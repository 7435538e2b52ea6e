-- What a reply tells: of a verdict no path that is neither seen nor named by the request, and no names of a rule that
-- is not seen (RFC 8341 3.2.4, 3.4.3).
use Rattle.std.specs.Prelude.{◌≡◌, ◌⊎◌, ◌||◌, ℕ, Bool, true, if◌then◌else◌, List, [], ◌∷◌, length, map, Option, Some, None, IfSome}
use Rattle.std.specs.List.{All}
use Rattle.nc_names.specs.declared.path.Path.{Path}
use Rattle.nc_protocol.specs.Reply.{names_shown, rule_path}
use Rattle.nc_protocol.specs.Words.{rule_word}
use Rattle.nc_protocol.specs.declared.request.Cause.{Cause}
use Rattle.nc_protocol.specs.declared.verdict.Verdict.{Verdict}
use Rattle.nc_protocol.specs.declared.verdict.Verdict.TheVariants.{Selected, Locked, Refused}
use Rattle.nc_model.specs.VerdictLaws.{is_denial}

-- ---- what is left of a verdict

-- the path, where it is shown
abbrev pub path_told : (shown : Path → Bool) → Option Path → Option Path
path_told shown None = None
path_told shown (Some path) = if shown path then Some path else None

-- the cause without a path that the session does not see and the request does not name, and without the names of a
-- rule that the session does not see
abbrev pub cause_told : (sees named : Path → Bool) → Cause → Cause
cause_told sees named cause = record {
  kind = cause.kind;
  path = path_told (λ path. sees path || named path) cause.path;
  names = names_shown sees cause;
}

-- the verdict with such causes
abbrev pub verdict_told : (sees named : Path → Bool) → Verdict → Verdict
verdict_told sees named (Refused causes) = Refused (map (cause_told sees named) causes)
verdict_told sees named verdict = verdict

-- ---- what may be told

-- the session sees the path, or its request names it
abbrev pub MayBeTold : (sees named : Path → Bool) → Path → Type 0
MayBeTold sees named path = (sees path ≡ true) ⊎ (named path ≡ true)

-- a rule that the session sees: the word for a rule, the name of its rule-list, and its own
pub record NamesRule (sees : Path → Bool) (names : List (List ℕ)) : Type 0 where
  pub list : List ℕ
  pub rule : List ℕ
  pub are : names ≡ rule_word ∷ list ∷ rule ∷ []
  pub seen : sees (rule_path list rule) ≡ true

-- what decided: a rule without its names, a default by two words, or a rule that the session sees
abbrev pub AreNamesTold : (sees : Path → Bool) → List (List ℕ) → Type 0
AreNamesTold sees names = (names ≡ rule_word ∷ []) ⊎ ((length names ≡ 2) ⊎ NamesRule sees names)

-- a cause tells nothing of what is not seen
pub record IsCauseTold (sees named : Path → Bool) (cause : Cause) : Type 0 where
  pub path : IfSome cause.path (MayBeTold sees named)
  pub names : is_denial cause.kind ≡ true → AreNamesTold sees cause.names

-- so does a verdict: rows and locked nodes are seen
abbrev pub IsTold : (sees named : Path → Bool) → Verdict → Type 0
IsTold sees named (Selected rows) = All (λ row. sees row.path ≡ true) rows
IsTold sees named (Locked lock nodes) = All (λ path. sees path ≡ true) nodes
IsTold sees named (Refused causes) = All (IsCauseTold sees named) causes
IsTold sees named verdict = Unit {0}
