-- Texts in any case.
use Rattle.std.proofs.Common.{◌≡◌, ℕ, Bool, true, false, List, map, refl, sym}
use Rattle.std.specs.Char.{to_ascii_lowercase}
use Rattle.std.specs.Cmp.Lexicographic.{bytes_decides}
use Rattle.nc_message.specs.Names.{is_same_in_any_case}

same_in_any_case_at : (r s : Bool) → (r ≡ true → s ≡ true) → (s ≡ true → r ≡ true) → r ≡ s
same_in_any_case_at true s f g = sym (f refl)
same_in_any_case_at false true f g = g refl
same_in_any_case_at false false f g = refl

pub same_in_any_case : (r : Bool) (a b : List ℕ) → (r ≡ true → map to_ascii_lowercase a ≡ map to_ascii_lowercase b) → (map to_ascii_lowercase a ≡ map to_ascii_lowercase b → r ≡ true)
    → r ≡ is_same_in_any_case a b
same_in_any_case r a b f g =
    same_in_any_case_at r (is_same_in_any_case a b) (λ e. (bytes_decides (map to_ascii_lowercase a) (map to_ascii_lowercase b)).1 (f e)) (λ e. g ((bytes_decides (map to_ascii_lowercase a) (map to_ascii_lowercase b)).0 e))
