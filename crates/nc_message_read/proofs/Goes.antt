-- What is read so far, and single steps of a loop that reads.
use Rattle.std.proofs.Common.{◌≡◌, ℕ, zero, suc, ◌<◌, ◌≤◌, true, cond, List, [], ◌∷◌, ◌++◌, length, Option, None, Some, option_and_then, refl, sym, ap, ◌∙◌, append_assoc, arith}
use Rattle.nc_names.specs.Ends.{after_white}
use Rattle.nc_names.specs.Signs.{is_white}
use Rattle.nc_message.specs.Tokens.{Attribute}
use Rattle.nc_message.specs.Names.{begins_name}
use Rattle.nc_message.specs.Pieces.{first_passes, prepend, attribute, attributes}

-- What is read so far: these items, and what is left to read is in this text. The readings of both
-- with enough fuel agree.
pub record Goes {X : Type 0} (read : ℕ → List ℕ → Option (List X × List ℕ)) (most : ℕ) (begin : List ℕ) (items : List X) (text : List ℕ) : Type 0 where
  pub fuel : ℕ
  pub enough : length text < fuel
  pub same : read most begin ≡ prepend items (read fuel text)

pub prepend_twice : {X : Type 0} (xs ys : List X) (o : Option (List X × List ℕ)) → prepend xs (prepend ys o) ≡ prepend (xs ++ ys) o
prepend_twice xs ys None = refl
prepend_twice xs ys (Some p) = ap (λ l. Some (l, p.1)) (sym (append_assoc xs ys p.0))

more_at : {X : Type 0} (read : ℕ → List ℕ → Option (List X × List ℕ)) (most : ℕ) (begin : List ℕ) (items more : List X) (text next : List ℕ) (fuel : ℕ)
    → length text < fuel → read most begin ≡ prepend items (read fuel text)
    → ((n : ℕ) → length text ≤ n → read (suc n) text ≡ prepend more (read n next)) → length next < length text → Goes read most begin (items ++ more) next
more_at read most begin items more text next zero enough same step less = absurd (omega (arith, enough))
more_at read most begin items more text next (suc n) enough same step less =
    let fits : length text ≤ n = omega (arith, enough) in
    let left : length next < n = omega (arith, enough, less) in
    record { fuel = n; enough = left; same = same ∙ ap (prepend items) (step n fits) ∙ prepend_twice items more (read n next) }

pub goes_more : {X : Type 0} (read : ℕ → List ℕ → Option (List X × List ℕ)) (most : ℕ) (begin : List ℕ) (items more : List X) (text next : List ℕ)
    → Goes read most begin items text → ((n : ℕ) → length text ≤ n → read (suc n) text ≡ prepend more (read n next)) → length next < length text → Goes read most begin (items ++ more) next
goes_more read most begin items more text next g step less = more_at read most begin items more text next g.fuel g.enough g.same step less

-- one more attribute
pub attributes_more : (text left next : List ℕ) (a : Attribute) → left ≡ after_white text → first_passes begins_name left ≡ true → first_passes is_white text ≡ true
    → attribute left ≡ Some (a, next) → (n : ℕ) → attributes (suc n) text ≡ prepend (a ∷ []) (attributes n next)
attributes_more text left next a blanks named parted read n =
    let one : first_passes begins_name (after_white text) ≡ true = ap (first_passes begins_name) (sym blanks) ∙ named in
    let two : attribute (after_white text) ≡ Some (a, next) = ap attribute (sym blanks) ∙ read in
    let more = λ (x : Attribute × List ℕ). prepend (x.0 ∷ []) (attributes n x.1) in
    ap (λ b. cond b (cond (first_passes is_white text) (option_and_then more (attribute (after_white text))) None) (Some ([], after_white text))) one
    ∙ ap (λ b. cond b (option_and_then more (attribute (after_white text))) None) parted ∙ ap (option_and_then more) two

-- what comes first is all so far
pub first_text : (text more : List ℕ) → text ≡ [] → more ≡ text ++ more
first_text text more none = sym (ap (λ xs. xs ++ more) none)
