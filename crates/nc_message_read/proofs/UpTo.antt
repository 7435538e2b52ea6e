-- A mark is searched from the front.
use Rattle.std.proofs.Common.{◌≡◌, ℕ, suc, ◌+◌, ◌<◌, true, false, cond, eqb, List, [], ◌∷◌, length, take, drop, get_or, Some, sym, ap, ◌∙◌, drop-cons, append-nil, arith}
use Rattle.std.specs.List.{starts_with}
use Rattle.std.proofs.Math.Seq.{take-suc}
use Rattle.nc_message.specs.Pieces.{up_to, prepend}
use Rattle.nc_message_read.proofs.Goes.{prepend_twice}

-- the first places have no mark
abbrev pub NoneTo : (mark bytes : List ℕ) → ℕ → Type 0
NoneTo mark bytes i = up_to mark bytes ≡ prepend (take i bytes) (up_to mark (drop i bytes))

pub none_more : (mark bytes : List ℕ) (i : ℕ) → i < length bytes → starts_with eqb (drop i bytes) mark ≡ false → NoneTo mark bytes i → NoneTo mark bytes (i + 1)
none_more mark bytes i less none so_far =
    let c = get_or bytes i 0 in
    let here : drop i bytes ≡ c ∷ drop (suc i) bytes = drop-cons bytes i 0 less in
    let next : suc i ≡ i + 1 = omega arith in
    let tested : starts_with eqb (c ∷ drop (suc i) bytes) mark ≡ false = ap (λ l. starts_with eqb l mark) (sym here) ∙ none in
    let step : up_to mark (drop i bytes) ≡ prepend (c ∷ []) (up_to mark (drop (suc i) bytes)) =
    ap (up_to mark) here ∙ ap (λ b. cond b (Some ([], drop (length mark) (c ∷ drop (suc i) bytes))) (prepend (c ∷ []) (up_to mark (drop (suc i) bytes)))) tested in
    so_far ∙ ap (prepend (take i bytes)) step ∙ prepend_twice (take i bytes) (c ∷ []) (up_to mark (drop (suc i) bytes))
    ∙ ap (λ l. prepend l (up_to mark (drop (suc i) bytes))) (sym (take-suc bytes i 0 less)) ∙ ap (λ k. prepend (take k bytes) (up_to mark (drop k bytes))) next

pub mark_at : (mark bytes : List ℕ) (i : ℕ) → i < length bytes → starts_with eqb (drop i bytes) mark ≡ true → NoneTo mark bytes i
    → up_to mark bytes ≡ Some (take i bytes, drop (length mark) (drop i bytes))
mark_at mark bytes i less found so_far =
    let c = get_or bytes i 0 in
    let here : drop i bytes ≡ c ∷ drop (suc i) bytes = drop-cons bytes i 0 less in
    let tested : starts_with eqb (c ∷ drop (suc i) bytes) mark ≡ true = ap (λ l. starts_with eqb l mark) (sym here) ∙ found in
    let step : up_to mark (drop i bytes) ≡ Some ([], drop (length mark) (drop i bytes)) =
    ap (up_to mark) here ∙ ap (λ b. cond b (Some ([], drop (length mark) (c ∷ drop (suc i) bytes))) (prepend (c ∷ []) (up_to mark (drop (suc i) bytes)))) tested
    ∙ ap (λ l. Some ([], drop (length mark) l)) (sym here) in
    so_far ∙ ap (prepend (take i bytes)) step ∙ ap (λ l. Some (l, drop (length mark) (drop i bytes))) (append-nil (take i bytes))
