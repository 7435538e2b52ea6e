-- Rows are written, one after another.
use Rattle.std.proofs.Common.{◌≡◌, ◌∙◌, ◌<◌, ◌≤◌, ◌+◌, ◌^◌, ◌++◌, ap, sym, subst, ℕ, suc, List, [], ◌∷◌, length, map, take, get_or, arith, append_assoc, Bor}
use Rattle.std.specs.Prelude.{IsUtf8}
use Rattle.std.specs.List.{All, flat_map}
use Rattle.std.proofs.lemmas.List.{get_or-map, length-map, take_all, take_more}
use Rattle.std.proofs.lemmas.List.Elements.{All-push}
use Rattle.nc_names.specs.declared.path.Row.{Row}
use Rattle.nc_schema.proofs.PlaceLemmas.{written_more}
use Rattle.nc_schema.specs.Record.{row_record, value_bytes}
use Rattle.nc_record.specs.Reading.{AreTexts}
use Rattle.nc_record.specs.inner.Given.{AreShort}

-- the rows behind references
abbrev seen : List (Bor Row) → List Row
seen rows = map (λ (r : Bor Row). r.now) rows

module _ (rows : List (Bor Row)) (place : ℕ) (row : Bor Row) (within : place < length rows) (is : row ≡ get_or rows place row) where
  here : row.now ≡ get_or (seen rows) place row.now
  here = ap (λ (r : Bor Row). r.now) is ∙ sym (get_or-map (λ (r : Bor Row). r.now) rows place row row.now within)

  within_seen : place < length (seen rows)
  within_seen = let long = length-map rows (λ (r : Bor Row). r.now) in omega (arith, long, within)

  pub short_here : AreShort (seen rows) → length (value_bytes row.now) < 2 ^ 32
  short_here short = subst (λ (r : Row). length (value_bytes r) < 2 ^ 32) (sym here) (short place row.now within_seen)

  pub written_here : (start before after : List ℕ) → before ≡ start ++ flat_map row_record (take place (seen rows)) → after ≡ before ++ row_record row.now → after ≡ start ++ flat_map row_record (take (place + 1) (seen rows))
  written_here start before after so_far next =
      let one_more : place + 1 ≡ suc place = omega arith in
      let more : flat_map row_record (take (suc place) (seen rows)) ≡ flat_map row_record (take place (seen rows)) ++ row_record row.now = written_more row_record (seen rows) place row.now within_seen here in
      next ∙ ap (λ z. z ++ row_record row.now) so_far ∙ append_assoc start (flat_map row_record (take place (seen rows))) (row_record row.now) ∙ ap (λ z. start ++ z) (sym more)
      ∙ ap (λ (n : ℕ). start ++ flat_map row_record (take n (seen rows))) (sym one_more)

  pub texts_here : AreTexts (take place (seen rows)) → IsUtf8 (value_bytes row.now) → AreTexts (take (place + 1) (seen rows))
  texts_here texts text =
      let one : take (place + 1) (seen rows) ≡ take place (seen rows) ++ row.now ∷ [] = take_more (seen rows) place row.now within_seen ∙ ap (λ r. take place (seen rows) ++ r ∷ []) (sym here) in
      subst AreTexts (sym one) (All-push (λ (r : Row). IsUtf8 (value_bytes r)) (take place (seen rows)) row.now texts text)

pub all_texts : (rows : List (Bor Row)) (place : ℕ) → length rows ≤ place → AreTexts (take place (seen rows)) → AreTexts (seen rows)
all_texts rows place past texts = let long = length-map rows (λ (r : Bor Row). r.now) in subst AreTexts (take_all place (seen rows) (omega (arith, long, past))) texts
