-- The first of some paths at which a right is not given, as it is looked for one after another.
use Rattle.std.proofs.Common.{◌≡◌, ◌<◌, ◌≤◌, ◌+◌, ℕ, Bool, true, false, cond, not, List, ◌∷◌, length, drop, get_or, refl, sym, ap, ◌∙◌, Option, Some, None}
use Rattle.std.specs.Prelude.{option_map}
use Rattle.std.specs.List.{find}
use Rattle.std.specs.Option.{option_or}
use Rattle.nc_names.specs.declared.cause.CauseKind.TheVariants.{DataDenied}
use Rattle.nc_names.specs.declared.path.Path.{Path}
use Rattle.nc_names.specs.declared.path.Right.{Right}
use Rattle.nc_schema.proofs.GivenLemmas.{item_there, nothing_left}
use Rattle.nc_protocol.specs.declared.access.Decision.{Decision}
use Rattle.nc_protocol.specs.declared.request.Cause.{Cause}
use Rattle.nc_protocol.specs.Edited.{cause_at, cause_where, decision_names}
use Rattle.nc_model.specs.Verdict.{denied_among}

module _ (rights : Path → Right → Decision) (right : Right) where
  -- why it is not given at a path
  abbrev denial : Path → Option Cause
  denial path =
      cause_where (not (rights path right).permit) (cause_at DataDenied path (decision_names right (rights path right).by))

  one_path : (path : Path) (rest : List Path) →
      denied_among rights right (path ∷ rest) ≡ option_or (denial path) (denied_among rights right rest)
  one_path path rest = by (not (rights path right).permit)
    where
      by : (denied : Bool) →
          option_map (λ at. cause_at DataDenied at (decision_names right (rights at right).by))
          (cond denied (Some path) (find (λ at. not (rights at right).permit) rest))
          ≡ option_or (cause_where denied (cause_at DataDenied path (decision_names right (rights path right).by)))
          (option_map (λ at. cause_at DataDenied at (decision_names right (rights at right).by))
          (find (λ at. not (rights at right).permit) rest))
      by true = refl
      by false = refl

  module _ (paths : List Path) where
    there : (i : ℕ) (path : Path) → i < length paths → path ≡ get_or paths i path →
        denied_among rights right (drop i paths) ≡ option_or (denial path) (denied_among rights right (drop (i + 1) paths))
    there i path less here =
        ap (denied_among rights right) (item_there paths i path less here) ∙ one_path path (drop (i + 1) paths)

    pub denied_next : (i : ℕ) (path : Path) →
        denied_among rights right (drop i paths) ≡ denied_among rights right paths → i < length paths →
        path ≡ get_or paths i path → None ≡ denial path →
        denied_among rights right (drop (i + 1) paths) ≡ denied_among rights right paths
    denied_next i path e less here none =
        ap (λ (why : Option Cause). option_or why (denied_among rights right (drop (i + 1) paths))) none
        ∙ (sym (there i path less here) ∙ e)

    pub denied_found : (i : ℕ) (path : Path) (cause : Cause) →
        denied_among rights right (drop i paths) ≡ denied_among rights right paths → i < length paths →
        path ≡ get_or paths i path → Some cause ≡ denial path → Some cause ≡ denied_among rights right paths
    denied_found i path cause e less here found =
        ap (λ (why : Option Cause). option_or why (denied_among rights right (drop (i + 1) paths))) found
        ∙ (sym (there i path less here) ∙ e)

    pub denied_nowhere : (i : ℕ) → denied_among rights right (drop i paths) ≡ denied_among rights right paths →
        length paths ≤ i → None ≡ denied_among rights right paths
    denied_nowhere i e past = sym (ap (denied_among rights right) (nothing_left paths i past)) ∙ e
