-- Where no path of a refusal is hidden, its reply is the same whatever its request names.
use Rattle.std.proofs.Common.{◌≡◌, ◌||◌, ◌++◌, ◌∙◌, if◌then◌else◌, Bool, true, false, not, List, [], ◌∷◌, map, Option, Some, None, refl, ap}
use Rattle.nc_names.specs.declared.path.Path.{Path}
use Rattle.nc_message.specs.declared.tree.Part.{Part}
use Rattle.nc_schema.specs.Tables.{Tables}
use Rattle.nc_protocol.specs.declared.asked.Operation.{Operation}
use Rattle.nc_protocol.specs.declared.request.Cause.{Cause}
use Rattle.nc_protocol.specs.declared.request.Request.{Request}
use Rattle.nc_protocol.specs.declared.verdict.Verdict.{Verdict}
use Rattle.nc_protocol.specs.declared.verdict.Verdict.TheVariants.{Done, Selected, Locked, Refused}
use Rattle.nc_protocol.specs.Content.{base_name}
use Rattle.nc_protocol.specs.ErrorRows.{error_of}
use Rattle.nc_protocol.specs.Reply.{answer_parts, cause_part, error_part, error_path, info_parts, names_shown, path_part, reply_naming, reply_tree}
use Rattle.nc_protocol.specs.Words as w
use Rattle.nc_errors.specs.Hidden.{any_hidden, hides_path, is_hidden}

seen_same : (b named other : Bool) → not b ≡ false → (b || named) ≡ (b || other)
seen_same true named other seen = refl
seen_same false named other seen = absurd (cc seen)

path_same : (tables : Tables) (sees named other : Path → Bool) (path : Option Path) → is_hidden sees path ≡ false →
    error_path tables (λ p. sees p || named p) path ≡ error_path tables (λ p. sees p || other p) path
path_same tables sees named other None seen = refl
path_same tables sees named other (Some path) seen =
    ap (λ b. if b then path_part tables (base_name w.error_path_word) path ∷ [] else [])
    (seen_same (sees path) (named path) (other path) seen)

cause_same : (tables : Tables) (sees named other : Path → Bool) (operation : Option Operation) (cause : Cause) →
    is_hidden sees cause.path ≡ false →
    cause_part tables sees named operation cause ≡ cause_part tables sees other operation cause
cause_same tables sees named other operation cause seen =
    ap (λ parts. error_part (error_of operation cause.kind) (parts ++ info_parts cause.kind (names_shown sees cause)))
    (path_same tables sees named other cause.path seen)

first_false : (a b : Bool) → (a || b) ≡ false → a ≡ false
first_false true b none = none
first_false false b none = refl

rest_false : (a b : Bool) → (a || b) ≡ false → b ≡ false
rest_false true b none = absurd (cc none)
rest_false false b none = none

each_same : (tables : Tables) (sees named other : Path → Bool) (operation : Option Operation) (causes : List Cause) →
    any_hidden sees causes ≡ false →
    map (cause_part tables sees named operation) causes ≡ map (cause_part tables sees other operation) causes
each_same tables sees named other operation [] none = refl
each_same tables sees named other operation (cause ∷ causes) none =
    ap (λ part. part ∷ map (cause_part tables sees named operation) causes)
    (cause_same tables sees named other operation cause
    (first_false (is_hidden sees cause.path) (any_hidden sees causes) none))
    ∙ ap (λ parts. cause_part tables sees other operation cause ∷ parts)
    (each_same tables sees named other operation causes
    (rest_false (is_hidden sees cause.path) (any_hidden sees causes) none))

answer_same : (tables : Tables) (sees named other : Path → Bool) (operation : Option Operation) (verdict : Verdict) →
    hides_path sees verdict ≡ false →
    answer_parts tables sees named operation verdict ≡ answer_parts tables sees other operation verdict
answer_same tables sees named other operation Done none = refl
answer_same tables sees named other operation (Selected rows) none = refl
answer_same tables sees named other operation (Locked lock nodes) none = refl
answer_same tables sees named other operation (Refused causes) none = each_same tables sees named other operation causes none

-- two answers on what a payload names make one reply
pub naming_same : (tables : Tables) (sees named other : Path → Bool) (request : Request) (verdict : Verdict) →
    hides_path sees verdict ≡ false →
    reply_naming tables sees named request verdict ≡ reply_naming tables sees other request verdict
naming_same tables sees named other request verdict none =
    ap (λ parts. reply_tree parts request) (answer_same tables sees named other request.operation verdict none)
