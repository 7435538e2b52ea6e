use Rattle.std.proofs.Common.{◌≡◌, ◌↔◌, List, [], ◌∷◌, ◌++◌, IsTrue, ℕ, sym, subst}
use Rattle.std.specs.BTreeMap.{BTreeMap}
use Rattle.nc_names.specs.declared.name.Bound.{Bound}
use Rattle.nc_message.specs.inner.Levels.{IsTable, later}
use Rattle.nc_message.proofs.Looking.{later_more, ok_then}
use Rattle.nc_message.proofs.bounds.with_later.Goals as goal

-- it is not the first, so it comes after those of the table
pub returns : goal.returns
returns c =
    let bound : Bound = record { prefix = c.args.prefix; space = c.args.space } in
    ok_then c.with_space.result
    (λ (it : BTreeMap (List ℕ) (List ℕ)). (own : List Bound) → IsTable c.args.spaces own → IsTable it (own ++ bound ∷ []))
    (λ (it : BTreeMap (List ℕ) (List ℕ)). (own : List Bound) → (IsTrue c.args.is_first ↔ (own ≡ [])) → IsTable c.args.spaces (later own) → IsTable it (later (own ++ bound ∷ [])))
    (λ it added own first table. subst (IsTable it) (sym (later_more own bound (λ none. cc (c.if-is_first.false, first.1 none)))) (added (later own) table))
    c.with_space.ensures
