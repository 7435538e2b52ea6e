-- The prefixes of the texts, one after another.
use Rattle.std.proofs.Common.{inl, inr, ◌≡◌, ◌+◌, ℕ, List, [], ◌∷◌, ◌++◌, length, refl, sym, ap, ◌∙◌}
use Rattle.std.specs.Prelude.{Some, slice_get}
use Rattle.std.proofs.lemmas.List.{length_push}
use Rattle.nc_names.specs.declared.name.Bound.{Bound}
use Rattle.nc_yang_words.specs.declared.statement.Statement.{Statement}
use Rattle.nc_yang_scopes.specs.Prefixes.{ArePrefixes, prefixes_in}
use Rattle.nc_yang_nodes.proofs.ListLemmas.{get_push}

-- those of the first so many
pub record AreFirst (texts : List Statement) (count : ℕ) (all : List (List Bound)) : Type 0 where
  pub counted : length all ≡ count
  pub each : (text : ℕ) (bounds : List Bound) → slice_get all text ≡ Some bounds → bounds ≡ prefixes_in texts text

pub none_yet : (texts : List Statement) → AreFirst texts 0 []
none_yet texts = record { counted = refl; each = λ text bounds e. absurd (cc) }

pub one_more : (texts : List Statement) (count : ℕ) (all new : List (List Bound)) (bounds : List Bound) → AreFirst texts count all
    → bounds ≡ prefixes_in texts count → new ≡ all ++ bounds ∷ [] → AreFirst texts (count + 1) new
one_more texts count all new bounds so_far is new_is = record {
  counted = ap length new_is ∙ length_push all bounds ∙ ap (λ n. n + 1) so_far.counted;
  each = λ text found at. elim (get_push all bounds found text (sym (ap (λ z. slice_get z text) new_is) ∙ at)) [
    | inl old ↦ so_far.each text found old
    | inr now ↦ sym now.1 ∙ is ∙ ap (prefixes_in texts) (sym (now.0 ∙ so_far.counted))
  ];
}

pub all_are : (texts : List Statement) (count : ℕ) (all : List (List Bound)) → AreFirst texts count all → count ≡ length texts → ArePrefixes texts all
all_are texts count all so_far past = record { counted = so_far.counted ∙ past; each = so_far.each }
