-- Single steps of reading what bytes stand for.
use Rattle.std.specs.Prelude.{◌==◌, ◌&&◌, ◌||◌, not, encode_utf8}
use Rattle.std.specs.List.{list_all}
use Rattle.std.proofs.Common.{◌≡◌, ℕ, zero, suc, Bool, true, false, cond, List, [], ◌∷◌, ◌++◌, drop, Option, None, Some, option_and_then, refl, sym, ap, ◌∙◌, append_assoc}
use Rattle.nc_message.specs.Texts.{resolved, onto, plain, reference, line_feed}
use Rattle.nc_message_read.specs.inner.Plain.{is_itself}

pub skip_is : (r v : Bool) (k : ℕ) (cs : List ℕ) → resolved r v k cs ≡ resolved r v 0 (drop k cs)
skip_is r v zero cs = refl
skip_is r v (suc k) [] = refl
skip_is r v (suc k) (c ∷ cs) = skip_is r v k cs

pub onto_twice : {X : Type 0} (xs ys : List X) (o : Option (List X)) → onto xs (onto ys o) ≡ onto (xs ++ ys) o
onto_twice xs ys None = refl
onto_twice xs ys (Some zs) = ap Some (sym (append_assoc xs ys zs))

pub onto_nil : {X : Type 0} (o : Option (List X)) → onto [] o ≡ o
onto_nil None = refl
onto_nil (Some zs) = refl

-- a reference
pub reference_step : (r v : Bool) (c k sign : ℕ) (cs left out new : List ℕ) → (r && c == 38) ≡ true → reference cs ≡ Some (sign, k) → left ≡ drop k cs → new ≡ out ++ encode_utf8 sign
    → onto out (resolved r v 0 (c ∷ cs)) ≡ onto new (resolved r v 0 left)
reference_step r v c k sign cs left out new test read rest joined =
    let bytes = encode_utf8 sign in
    let one : resolved r v 0 (c ∷ cs) ≡ onto bytes (resolved r v k cs) =
    ap (λ b. cond b (option_and_then (λ x. onto (encode_utf8 x.0) (resolved r v x.1 cs)) (reference cs)) (cond (c == 13) (onto (plain v 10 ∷ []) (resolved r v (line_feed cs) cs)) (onto (plain v c ∷ []) (resolved r v 0 cs)))) test
    ∙ ap (option_and_then (λ (x : ℕ × ℕ). onto (encode_utf8 x.0) (resolved r v x.1 cs))) read in
    ap (onto out) one ∙ onto_twice out bytes (resolved r v k cs) ∙ ap (λ l. onto l (resolved r v k cs)) (sym joined)
    ∙ ap (onto new) (skip_is r v k cs ∙ ap (resolved r v 0) (sym rest))

-- the end of a line
pub line_step : (r v : Bool) (c byte : ℕ) (cs left out new : List ℕ) → (r && c == 38) ≡ false → (c == 13) ≡ true → byte ≡ plain v 10 → left ≡ drop (line_feed cs) cs → new ≡ out ++ byte ∷ []
    → onto out (resolved r v 0 (c ∷ cs)) ≡ onto new (resolved r v 0 left)
line_step r v c byte cs left out new test cr is rest joined =
    let one : resolved r v 0 (c ∷ cs) ≡ onto (plain v 10 ∷ []) (resolved r v (line_feed cs) cs) =
    ap (λ b. cond b (option_and_then (λ x. onto (encode_utf8 x.0) (resolved r v x.1 cs)) (reference cs)) (cond (c == 13) (onto (plain v 10 ∷ []) (resolved r v (line_feed cs) cs)) (onto (plain v c ∷ []) (resolved r v 0 cs)))) test
    ∙ ap (λ b. cond b (onto (plain v 10 ∷ []) (resolved r v (line_feed cs) cs)) (onto (plain v c ∷ []) (resolved r v 0 cs))) cr in
    let same : new ≡ out ++ plain v 10 ∷ [] = joined ∙ ap (λ x. out ++ x ∷ []) is in
    ap (onto out) one ∙ onto_twice out (plain v 10 ∷ []) (resolved r v (line_feed cs) cs) ∙ ap (λ l. onto l (resolved r v (line_feed cs) cs)) (sym same)
    ∙ ap (onto new) (skip_is r v (line_feed cs) cs ∙ ap (resolved r v 0) (sym rest))

-- any other byte
pub plain_step : (r v : Bool) (c byte : ℕ) (cs left out new : List ℕ) → (r && c == 38) ≡ false → (c == 13) ≡ false → byte ≡ plain v c → left ≡ cs → new ≡ out ++ byte ∷ []
    → onto out (resolved r v 0 (c ∷ cs)) ≡ onto new (resolved r v 0 left)
plain_step r v c byte cs left out new test cr is rest joined =
    let one : resolved r v 0 (c ∷ cs) ≡ onto (plain v c ∷ []) (resolved r v 0 cs) =
    ap (λ b. cond b (option_and_then (λ x. onto (encode_utf8 x.0) (resolved r v x.1 cs)) (reference cs)) (cond (c == 13) (onto (plain v 10 ∷ []) (resolved r v (line_feed cs) cs)) (onto (plain v c ∷ []) (resolved r v 0 cs)))) test
    ∙ ap (λ b. cond b (onto (plain v 10 ∷ []) (resolved r v (line_feed cs) cs)) (onto (plain v c ∷ []) (resolved r v 0 cs))) cr in
    let same : new ≡ out ++ plain v c ∷ [] = joined ∙ ap (λ x. out ++ x ∷ []) is in
    ap (onto out) one ∙ onto_twice out (plain v c ∷ []) (resolved r v 0 cs) ∙ ap (λ l. onto l (resolved r v 0 cs)) (sym same)
    ∙ ap (λ l. onto new (resolved r v 0 l)) (sym rest)

-- bytes that stand for themselves
both_true : (a b : Bool) → (a && b) ≡ true → (a ≡ true) × (b ≡ true)
both_true true b is = (refl, is)
both_true false b is = absurd (let clash : false ≡ true = is in cc)

not_true : (b : Bool) → not b ≡ true → b ≡ false
not_true true is = absurd (let clash : false ≡ true = is in cc)
not_true false is = refl

itself : (a b c : Bool) → (not a && not b && not c) ≡ true → (a ≡ false) × (b ≡ false) × (c ≡ false)
itself true b c is = absurd (let clash : false ≡ true = is in cc)
itself false true c is = absurd (let clash : false ≡ true = is in cc)
itself false false c is = (refl, refl, not_true c is)

pub themselves : (r v : Bool) (cs : List ℕ) → list_all (is_itself r v) cs ≡ true → resolved r v 0 cs ≡ Some cs
themselves r v [] all = refl
themselves r v (c ∷ cs) all =
    let parts = both_true (is_itself r v c) (list_all (is_itself r v) cs) all in
    let is = itself (r && c == 38) (c == 13) (v && (c == 9 || c == 10)) parts.0 in
    ap (λ b. cond b (option_and_then (λ x. onto (encode_utf8 x.0) (resolved r v x.1 cs)) (reference cs)) (cond (c == 13) (onto (plain v 10 ∷ []) (resolved r v (line_feed cs) cs)) (onto (plain v c ∷ []) (resolved r v 0 cs)))) is.0
    ∙ ap (λ b. cond b (onto (plain v 10 ∷ []) (resolved r v (line_feed cs) cs)) (onto (plain v c ∷ []) (resolved r v 0 cs))) is.1
    ∙ ap (λ b. onto (cond b 32 c ∷ []) (resolved r v 0 cs)) is.2
    ∙ ap (onto (c ∷ [])) (themselves r v cs parts.1)
