-- The parts of a header.
use Rattle.std.proofs.Common.{◌≡◌, ◌∙◌, ◌<◌, ◌≤◌, ◌^◌, ◌++◌, ap, sym, subst, refl, ℕ, List, [], ◌∷◌, length, map, All, arith, append_assoc}
use Rattle.std.specs.List.{flat_map}
use Rattle.std.proofs.lemmas.List.{get_or-map, length-map}
use Rattle.nc_journal.specs.Format.{number}
use Rattle.nc_journal.specs.Header.{counted, header_of, short_number}
use Rattle.nc_yang.specs.Texts.{text_limit}
use Rattle.nc_yang.specs.declared.text.ModuleText.{ModuleText}

-- the bytes of the texts
abbrev pub bytes_of : List ModuleText → List (List ℕ)
bytes_of modules = map (λ (text : ModuleText). text.bytes) modules

counted_all : (modules : List ModuleText) → flat_map (λ (text : ModuleText). counted text.bytes) modules ≡ flat_map counted (bytes_of modules)
counted_all [] = refl
counted_all (text ∷ more) = ap (λ z. counted text.bytes ++ z) (counted_all more)

pub many : (modules : List ModuleText) → length (bytes_of modules) ≡ length modules
many modules = length-map modules (λ (text : ModuleText). text.bytes)

pub all_short : (modules : List ModuleText) → All (λ (text : ModuleText). length text.bytes ≤ text_limit) modules → All (λ (text : List ℕ). length text < 2 ^ 32) (bytes_of modules)
all_short [] short = λ k d within. absurd (omega (arith, within))
all_short (text ∷ more) short = λ k d within.
    let long = many (text ∷ more) in
    let inside : k < length (text ∷ more) = omega (arith, long, within) in
    let is = get_or-map (λ (t : ModuleText). t.bytes) (text ∷ more) k text d inside in
    let small = short k text inside in
    subst (λ (t : List ℕ). length t < 2 ^ 32) (sym is) (omega (arith, small))

pub put_together : (modules ms : List ModuleText) (lines ls start one two three : List ℕ) → start ≡ [] → one ≡ start ++ short_number (length ms)
    → two ≡ one ++ flat_map (λ (text : ModuleText). counted text.bytes) ms → three ≡ two ++ (number (length ls) ++ ls) → ms ≡ modules → ls ≡ lines
    → three ≡ header_of (bytes_of modules) lines
put_together modules ms lines ls start one two three empty first second third same_modules same_lines =
    let tail : List ℕ = number (length lines) ++ lines in
    let texts : List ℕ = flat_map counted (bytes_of modules) in
    let ends : number (length ls) ++ ls ≡ tail = ap (λ (l : List ℕ). number (length l) ++ l) same_lines in
    let middle : flat_map (λ (text : ModuleText). counted text.bytes) ms ≡ texts = ap (λ (m : List ModuleText). flat_map (λ (text : ModuleText). counted text.bytes) m) same_modules ∙ counted_all modules in
    let begins : one ≡ short_number (length (bytes_of modules)) =
    first ∙ ap (λ (z : List ℕ). z ++ short_number (length ms)) empty ∙ ap (λ (m : List ModuleText). short_number (length m)) same_modules ∙ ap short_number (sym (many modules)) in
    third ∙ ap (λ (z : List ℕ). z ++ (number (length ls) ++ ls)) (second ∙ ap (λ (z : List ℕ). z ++ flat_map (λ (text : ModuleText). counted text.bytes) ms) begins ∙ ap (λ (z : List ℕ). short_number (length (bytes_of modules)) ++ z) middle)
    ∙ ap (λ (z : List ℕ). (short_number (length (bytes_of modules)) ++ texts) ++ z) ends ∙ append_assoc (short_number (length (bytes_of modules))) texts tail
