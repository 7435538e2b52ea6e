-- The first of faults that are listed one statement after another.
use Rattle.std.proofs.Common.{◌≡◌, ◌<◌, ◌≤◌, ◌+◌, ◌++◌, ◌∷◌, [], ℕ, zero, suc, List, length, get_or, drop, refl, sym, ap, ◌∙◌, arith, cond}
use Rattle.std.specs.Prelude.{false, Option, Some, None, slice_get}
use Rattle.std.specs.List.{flat_map}
use Rattle.std.specs.Option.{option_map_or}
use Rattle.std.proofs.lemmas.Option.{slice_get-get_or}
use Rattle.nc_yang_words.specs.declared.statement.Statement.{Statement}
use Rattle.nc_yang_statements.specs.Keywords.{is_closed}
use Rattle.nc_yang_statements.specs.Statements.{below, kind}
use Rattle.nc_yang_statements.specs.Rules.{first}
use Rattle.nc_yang_statements.proofs.Firsts.{first_none, first_some}
use Rattle.nc_yang_scopes.specs.declared.naming.TextFault.{TextFault}
use Rattle.nc_yang_scopes.proofs.Lists.{past_end}
use Rattle.nc_yang_scopes.specs.Revisions.{unrevised, unrevised_at, unrevised_from, unrevised_in}

-- the elements from a place on
drop_next : {A : Type 0} (xs : List A) (i : ℕ) (x : A) → slice_get xs i ≡ Some x → drop i xs ≡ x ∷ drop (i + 1) xs
drop_next [] i x is = absurd (cc)
drop_next (y ∷ xs) zero x is = let same : y ≡ x = cc in ap (λ z. z ∷ xs) same
drop_next (y ∷ xs) (suc i) x is = let e : suc i + 1 ≡ suc (i + 1) = omega arith in drop_next xs i x is ∙ ap (λ n. x ∷ drop n (y ∷ xs)) (sym e)

none_left : {A : Type 0} (xs : List A) (i : ℕ) → length xs ≤ i → drop i xs ≡ []
none_left [] zero le = refl
none_left [] (suc i) le = refl
none_left (x ∷ xs) zero le = absurd (omega (arith, le))
none_left (x ∷ xs) (suc i) le = none_left xs i (omega (arith, le))

-- the next has one
pub found_next : {A B : Type 0} (f : A → List B) (xs : List A) (i : ℕ) (x : A) (whole : List B) (y : B) → i < length xs → x ≡ get_or xs i x → first whole ≡ first (flat_map f (drop i xs)) →
    Some y ≡ first (f x) → Some y ≡ first whole
found_next f xs i x whole y less item is e =
    sym (is ∙ ap (λ zs. first (flat_map f zs)) (drop_next xs i x (slice_get-get_or xs i x less ∙ ap Some (sym item)))
    ∙ first_some (f x) (flat_map f (drop (i + 1) xs)) y (sym e))

-- the next has none
pub passed_next : {A B : Type 0} (f : A → List B) (xs : List A) (i : ℕ) (x : A) (whole : List B) → i < length xs → x ≡ get_or xs i x → first whole ≡ first (flat_map f (drop i xs)) →
    None ≡ first (f x) → first whole ≡ first (flat_map f (drop (i + 1) xs))
passed_next f xs i x whole less item is e =
    is ∙ ap (λ zs. first (flat_map f zs)) (drop_next xs i x (slice_get-get_or xs i x less ∙ ap Some (sym item)))
    ∙ first_none (f x) (flat_map f (drop (i + 1) xs)) (sym e)

-- no one has one
pub none_found : {A B : Type 0} (f : A → List B) (xs : List A) (i : ℕ) (whole : List B) → length xs ≤ i → first whole ≡ first (flat_map f (drop i xs)) → None ≡ first whole
none_found f xs i whole le is = sym (is ∙ ap (λ zs. first (flat_map f zs)) (none_left xs i le))

pub opened : (texts : List Statement) (n : ℕ) (s : Statement) (among : List Statement) → among ≡ below s → is_closed (kind s) ≡ false →
    first (unrevised_in texts n s) ≡ first (flat_map (unrevised_at texts n) (drop 0 among))
opened texts n s among is is_open =
    ap (λ b. first (cond b [] (flat_map (unrevised_at texts n) (below s)))) is_open
    ∙ ap (λ ss. first (flat_map (unrevised_at texts n) ss)) (sym is)

-- text after text
abbrev in_text : List Statement → ℕ → List TextFault
in_text texts text = option_map_or (unrevised_in texts text) (slice_get texts text) []

text_there : (texts : List Statement) (text : ℕ) → text < length texts → (s : Statement) × (slice_get texts text ≡ Some s)
text_there texts text less = by (slice_get texts text) refl
  where
    by : (o : Option Statement) → slice_get texts text ≡ o → (s : Statement) × (slice_get texts text ≡ Some s)
    by None none = absurd (omega (arith, past_end texts text none, less))
    by (Some s) some = (s, some)

next_text : (texts : List Statement) (text : ℕ) → text < length texts → unrevised_from texts text (drop text texts) ≡ in_text texts text ++ unrevised_from texts (text + 1) (drop (text + 1) texts)
next_text texts text less =
    let s = text_there texts text less in
    ap (unrevised_from texts text) (drop_next texts text s.0 s.1)
    ∙ ap (λ o. option_map_or (unrevised_in texts text) o [] ++ unrevised_from texts (text + 1) (drop (text + 1) texts)) (sym s.1)

pub found_text : (texts : List Statement) (text : ℕ) (found : TextFault) → text < length texts → first (unrevised texts) ≡ first (unrevised_from texts text (drop text texts)) →
    Some found ≡ first (in_text texts text) → Some found ≡ first (unrevised texts)
found_text texts text found less is e =
    sym (is ∙ ap first (next_text texts text less) ∙ first_some (in_text texts text) (unrevised_from texts (text + 1) (drop (text + 1) texts)) found (sym e))

pub passed_text : (texts : List Statement) (text : ℕ) → text < length texts → first (unrevised texts) ≡ first (unrevised_from texts text (drop text texts)) →
    None ≡ first (in_text texts text) → first (unrevised texts) ≡ first (unrevised_from texts (text + 1) (drop (text + 1) texts))
passed_text texts text less is e =
    is ∙ ap first (next_text texts text less) ∙ first_none (in_text texts text) (unrevised_from texts (text + 1) (drop (text + 1) texts)) (sym e)

pub no_text : (texts : List Statement) (text : ℕ) → length texts ≤ text → first (unrevised texts) ≡ first (unrevised_from texts text (drop text texts)) → None ≡ first (unrevised texts)
no_text texts text le is = sym (is ∙ ap (λ ss. first (unrevised_from texts text ss)) (none_left texts text le))
