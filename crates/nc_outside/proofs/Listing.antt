-- What stands behind a folder and a slash.
use Rattle.std.proofs.Common.{◌≡◌, ◌≢◌, ℕ, ◌+◌, ◌<◌, Bool, true, false, cond, eqb, List, [], ◌∷◌, ◌++◌, length, get_or, drop, Option, None, Some, MatchOption, option_and_then, refl, sym, ap, ◌∙◌, append_assoc, length-append, Bor}
use Rattle.std.proofs.Math.Seq.{drop-append_seam}
use Rattle.std.specs.List.{starts_with, list_any}
use Rattle.std.specs.Option.{option_copied}
use Rattle.std.proofs.lemmas.Bool.Decides.{Decides-eqb}
use Rattle.std.proofs.lemmas.List.{get_or_default}
use Rattle.std.proofs.lemmas.List.Folds.{list_any_none}
use Rattle.std.proofs.lemmas.Slice.Eq.{starts_is}
use Rattle.nc_outside.specs.Folders.{name_below, name_in}

begins : (folder name : List ℕ) → Bool
begins folder name = starts_with eqb name (folder ++ 47 ∷ [])

-- the name of a file below the folder
pub name_below-is : (folder name rest : List ℕ) → name ≡ folder ++ 47 ∷ rest → name_below folder name ≡ Some rest
name_below-is folder name rest e =
    let slashed = folder ++ 47 ∷ [] in
    let whole : name ≡ slashed ++ rest = e ∙ sym (append_assoc folder (47 ∷ []) rest) in
    let test : starts_with eqb name slashed ≡ true = (starts_is Decides-eqb name slashed _ refl).1 rest whole in
    let size : length folder + 1 ≡ length slashed = sym (length-append folder (47 ∷ [])) in
    let behind : drop (length folder + 1) name ≡ rest = ap (λ n. drop n name) size ∙ ap (drop (length slashed)) whole ∙ drop-append_seam slashed rest in
    ap (λ b. cond b (Some (drop (length folder + 1) name)) None) test ∙ ap Some behind

cond-not_true : {A : Type 0} (b : Bool) (x y : A) → (b ≡ true → ⊥) → cond b x y ≡ y
cond-not_true true x y h = absurd (h refl)
cond-not_true false x y h = refl

-- a name that is not below it
pub name_below-not : (folder name : List ℕ) → ((rest : List ℕ) → name ≢ folder ++ 47 ∷ rest) → name_below folder name ≡ None
name_below-not folder name none =
    let slashed = folder ++ 47 ∷ [] in
    cond-not_true _ _ _ (λ test.
    none (drop (length slashed) name) ((starts_is Decides-eqb name slashed _ refl).0 test ∙ append_assoc folder (47 ∷ []) (drop (length slashed) name)))

-- two steps: the folder, and then the slash
pub strips : (folder name after : List ℕ) (r : Option (Bor (List ℕ))) → name ≡ folder ++ after → MatchOption r ((rest : List ℕ) → after ≢ 47 ∷ rest) (λ x. after ≡ 47 ∷ x.now) → option_copied r ≡ name_below folder name
strips folder name after None e h = sym (name_below-not folder name (λ rest w.
    h rest (sym (drop-append_seam folder after) ∙ ap (drop (length folder)) (sym e ∙ w) ∙ drop-append_seam folder (47 ∷ rest))))
strips folder name after (Some x) e h = sym (name_below-is folder name x.now (e ∙ ap (λ l. folder ++ l) h))

not_true : (b : Bool) → (b ≡ true → ⊥) → b ≡ false
not_true true h = absurd (h refl)
not_true false h = refl

-- a name behind which no slash stands is the name within the folder
pub name_in-is : (folder name rest : List ℕ) → Some rest ≡ name_below folder name → ((k : ℕ) → k < length rest → get_or rest k 0 ≢ 47) → Some rest ≡ name_in folder name
name_in-is folder name rest below slashless =
    let free : list_any (λ c. eqb c 47) rest ≡ false = list_any_none (λ c. eqb c 47) rest (λ k d here. not_true _ (λ test.
    slashless k here (get_or_default rest k 0 d here ∙ (Decides-eqb _ _).0 test))) in
    sym (ap (λ b. cond b None (Some rest)) free) ∙ ap (option_and_then (λ r. cond (list_any (λ c. eqb c 47) r) None (Some r))) below
