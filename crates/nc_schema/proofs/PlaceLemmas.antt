-- Elements of lists at a place, one after another.
use Rattle.std.proofs.Common.{◌≡◌, ℕ, List, [], ◌∷◌, ◌++◌, ap, sym, ◌∙◌, ◌<◌, suc, length, get_or, take}
use Rattle.std.proofs.lemmas.List.{append-nil}
use Rattle.std.specs.List.{flat_map, zip}
use Rattle.std.proofs.lemmas.Grind.{flat_map-append}
use Rattle.std.proofs.Math.Seq.{take-suc}
use Rattle.std.proofs.lemmas.Slice.Zip.{get_or-zip}

-- what the elements up to a place give, with one more
pub written_more : {X : Type 0} (f : X → List ℕ) (xs : List X) (place : ℕ) (x : X) → place < length xs → x ≡ get_or xs place x → flat_map f (take (suc place) xs) ≡ flat_map f (take place xs) ++ f x
written_more {X} f xs place x within here =
    let more : take (suc place) xs ≡ take place xs ++ x ∷ [] = take-suc xs place x within ∙ ap (λ y. take place xs ++ y ∷ []) (sym here) in
    ap (flat_map f) more ∙ flat_map-append f (take place xs) (x ∷ []) ∙ ap (λ t. flat_map f (take place xs) ++ t) (append-nil (f x))

-- the pair at a place of two lists side by side
pub pair_at : {A B : Type 0} (ks : List A) (vs : List B) (place : ℕ) (k : A) (v : B) → place < length ks → place < length vs → k ≡ get_or ks place k → v ≡ get_or vs place v → (k, v) ≡ get_or (zip ks vs) place (k, v)
pair_at ks vs place k v in_ks in_vs at_k at_v = (λ i. (at_k i, at_v i)) ∙ sym (get_or-zip ks vs place (k, v) in_ks in_vs)
