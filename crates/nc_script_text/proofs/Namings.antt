-- Names that are read one after another.
use Rattle.std.proofs.Common.{◌≡◌, ◌<◌, ℕ, List, [], ◌∷◌, ◌++◌, length, Result, Ok, Err, refl, sym, ap, subst, ◌∙◌, append_assoc, arith}
use Rattle.std.specs.List.{All, Contains}
use Rattle.std.proofs.lemmas.List.Elements.{All-contains, All-push, Contains-append_right}
use Rattle.nc_script_text.specs.inner.Heads.{IsSome, ReadsName, ReadsNames}
use Rattle.nc_script_text.specs.declared.fault.LineFault.{LineFault}
use Rattle.nc_script_text.specs.declared.fault.LineFault.TheVariants.{Bad, Memory}

-- one of the words is no name
pub names_refused : (words names left more : List (List ℕ)) (word : List ℕ) (fault : LineFault) → words ≡ names ++ left
    → left ≡ word ∷ more → ReadsName word (Err fault) → ReadsNames words (Err fault)
names_refused words names left more word Bad is begins none =
    λ all. none (All-contains IsSome words word all
    (subst (λ ws. Contains ws word) (sym (is ∙ ap (λ ws. names ++ ws) begins))
    (Contains-append_right names (word ∷ more) word (0, omega arith, refl))))
names_refused words names left more word Memory is begins none = tt

pub one_more_name : (words names left more : List (List ℕ)) (word : List ℕ) → words ≡ names ++ left → left ≡ word ∷ more
    → words ≡ (names ++ word ∷ []) ++ more
one_more_name words names left more word is begins =
    is ∙ (ap (λ ws. names ++ ws) begins ∙ sym (append_assoc names (word ∷ []) more))
