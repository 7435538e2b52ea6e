use Rattle.std.proofs.Common.{◌≡◌, ◌+◌, ◌++◌, take, drop, sym, ap, ◌∙◌, take-append-drop, Some, List, ℕ, Option}
use Rattle.std.proofs.lemmas.List.{drop-drop}
use Rattle.nc_outside.proofs.source.MemSourceSource.read.Goals as goal

-- what is left is what was given, and then what is left behind it
gives : (at n : ℕ) (bytes rest into left : List ℕ) → left ≡ drop at bytes → rest ≡ drop at bytes → take n into ≡ take n rest
    → ◌≡◌ {A = Option (List ℕ)} (Some left) (Some (take n into ++ drop (at + n) bytes))
gives at n bytes rest into left before here copied =
    let given : take n (drop at bytes) ≡ take n into = ap (take n) (sym here) ∙ sym copied in
    ap Some (before ∙ sym (take-append-drop n (drop at bytes)) ∙ ap (λ l. take n (drop at bytes) ++ l) (drop-drop n at bytes)
    ∙ ap (λ l. l ++ drop (at + n) bytes) given)

pub returns-clause-bytes : goal.returns-clause-bytes
returns-clause-bytes c =
    gives c.self.inside.at _ c.self.inside.bytes _ _ _ (sym (ap (λ s. s.left) c.self.view_is)) (c.tail-rest.ensures ∙ ap (drop c.self.inside.at) c.as_slice.ensures) c.copy_front.ensures
