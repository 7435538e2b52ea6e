-- A whole configuration, as it is read.
use Rattle.std.proofs.Common.{◌≡◌, ◌≤◌, cond, ℕ, zero, suc, max, false, List, [], ◌∷◌, length, None, refl, sym, ap, ◌∙◌, arith}
use Rattle.std.proofs.lemmas.List.{append-nil}
use Rattle.std.proofs.Math.Nat.{le-max_left, le-max_right}
use Rattle.std.specs.Prelude.{Err, fold}
use Rattle.std.specs.List.{Contains}
use Rattle.nc_names.specs.declared.cause.CauseKind.TheVariants.{BadElement}
use Rattle.nc_names.specs.declared.path.Row.{Row}
use Rattle.nc_protocol.specs.Attributes.{cause_in}
use Rattle.nc_protocol.specs.Elements.{has_text}
use Rattle.nc_protocol.specs.Payload.{list_edits}
use Rattle.nc_protocol.specs.Printed.{longest}
use Rattle.nc_print.proofs.PartsLemmas.{printed_holds_no_text}
use Rattle.nc_print.specs.Laws.{inline_at}
use Rattle.nc_print.specs.Laws.{PrintedIsMerges}
use Rattle.nc_print.proofs.LevelBack.{level_is_read}

-- no path is longer than the longest
most_grows : (rows : List Row) (n : ℕ) → n ≤ fold (λ most (row : Row). max most (length row.path.steps)) n rows
most_grows [] n = omega arith
most_grows (row ∷ rows) n = let rest = most_grows rows (max n (length row.path.steps)) in let first = le-max_left n (length row.path.steps) in omega (arith, rest, first)

most_covers : (rows : List Row) (n : ℕ) (row : Row) → Contains rows row → length row.path.steps ≤ fold (λ most (row : Row). max most (length row.path.steps)) n rows
most_covers [] n row (k, within, here) = absurd (omega (arith, within))
most_covers (first ∷ rows) n row (zero, within, here) =
    let rest = most_grows rows (max n (length first.path.steps)) in
    let own = le-max_right n (length first.path.steps) in
    let same = ap (λ (r : Row). length r.path.steps) here in
    omega (arith, rest, own, same)
most_covers (first ∷ rows) n row (suc k, within, here) = most_covers rows (max n (length first.path.steps)) row (k, omega (arith, within), here)

pub longest_covers : (rows : List Row) (row : Row) → Contains rows row → length row.path.steps ≤ longest rows
longest_covers rows row has = most_covers rows 0 row has

pub printed_is_merges : PrintedIsMerges
printed_is_merges reading rows config schema tree read parts_are =
    (λ i. cond (textless i) (Err (cause_in BadElement [] (config.name.name ∷ []))) (list_edits reading (inline_at [] None) [] (parts_are i)))
    ∙ level_is_read reading schema rows tree read (longest rows) [] 0 [] rows [] (sym (append-nil rows)) refl (λ r has. (r.path.steps, refl)) (λ r has. absurd (omega (arith, has.1)))
    (λ r has. absurd (omega (arith, has.1))) (λ r has. let long = longest_covers rows r has in omega (arith, long))
  where
    textless : has_text config.parts ≡ false
    textless = ap has_text parts_are ∙ printed_holds_no_text reading.tables (longest rows) 0 rows
