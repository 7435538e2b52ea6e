use Rattle.std.proofs.Common.{◌≡◌, ◌∙◌, ℕ, nat_eq, List, Contains, sym, subst}
use Rattle.std.specs.Cmp.Lexicographic.{bytes_decides, nat_list_eq_equiv, on_texts, pointwise, slice_cmp, texts_ties}
use Rattle.std.specs.List.{dedup}
use Rattle.std.specs.List.Sorted.{IsStrictlySortedBy}
use Rattle.std.specs.Ordering.{nat_cmp}
use Rattle.std.proofs.lemmas.List.Filters.{dedup_is}
use Rattle.std.proofs.lemmas.List.Kept.{Contains-dedup, Contains-from_dedup, IsStrictlySortedBy-dedup}
use Rattle.std.proofs.lemmas.List.Sorted.{Contains-permutation, IsPermutation-sym}
use Rattle.nc_device.proofs.header.in_order.Goals as goal

pub returns : goal.returns
returns c =
    let moved = c.sort_unstable.ensures.permutation in
    let same : c.into_vec-names.result.items ≡ c.args.features.now = c.into_vec-names.ensures ∙ c.in_ok-copy.ensures in
    let gives : c.from_vec.result ≡ dedup (pointwise nat_eq) c.sort_unstable.new.self.items = c.from_vec.ensures ∙ dedup_is _ _ _ c.dedup.ensures.filtered in
    record {
      order = subst (IsStrictlySortedBy (slice_cmp nat_cmp)) (sym gives) (IsStrictlySortedBy-dedup (on_texts (λ (t : List ℕ). t)) (λ x y. texts_ties x y) _ c.sort_unstable.ensures.sorted);
      all = λ name has. subst (λ (l : List (List ℕ)). Contains l name) (sym gives)
          (Contains-dedup nat_list_eq_equiv (λ x y e. (bytes_decides x y).0 e) _ name (Contains-permutation _ _ name moved (subst (λ (l : List (List ℕ)). Contains l name) (sym same) has)));
      only = λ name has. subst (λ (l : List (List ℕ)). Contains l name) same
          (Contains-permutation _ _ name (IsPermutation-sym _ _ moved) (Contains-from_dedup (pointwise nat_eq) _ name (subst (λ (l : List (List ℕ)). Contains l name) gives has)));
    }
