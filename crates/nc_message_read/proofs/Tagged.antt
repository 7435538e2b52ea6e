-- The first token of what is written: tags and runs of text.
use Rattle.std.proofs.Common.{◌≡◌, ◌&&◌, ◌+◌, ◌≤◌, ℕ, suc, Bool, true, false, eqb, List, [], ◌∷◌, ◌++◌, length, take, drop, Some, option_and_then, refl, sym, ap, ◌∙◌, append_assoc, length-append, arith}
use Rattle.std.proofs.Math.Seq.{drop-append_seam, take-append_seam}
use Rattle.std.proofs.lemmas.Bool.Decides.{Decides-eqb}
use Rattle.std.specs.List.{list_all, starts_with}
use Rattle.nc_names.proofs.SameLemmas.{first_true}
use Rattle.nc_message.specs.Names.{begins_name, is_in_run}
use Rattle.nc_message.specs.Pieces.{attributes, close, end, first_passes, name, start, token}
use Rattle.nc_message.specs.Tokens.{Name, Attribute, Tag, Start, End, Run}
use Rattle.nc_message_read.specs.ReadBack.{is_name}
use Rattle.nc_message_read.proofs.Fronts.{AreFree, EndsName, EndsTag, attributes_are, attributes_text, attribute_text, bare_is, bind_is, name_parts, passes_all}

-- `/>` or `>`
abbrev pub tag_end : (alone : Bool) → List ℕ
tag_end true = 47 ∷ 62 ∷ []
tag_end false = 62 ∷ []

close_is : (alone : Bool) (rest : List ℕ) → close (tag_end alone ++ rest) ≡ Some (alone, rest)
unfolding close
close_is true rest = refl
close_is false rest = refl

end_ends_tag : (alone : Bool) (rest : List ℕ) → EndsTag (tag_end alone ++ rest)
end_ends_tag true rest = record { white = refl; begins = refl }
end_ends_tag false rest = record { white = refl; begins = refl }

after_name : (found : List Attribute) (alone : Bool) (rest : List ℕ) → EndsName (attributes_text found ++ (tag_end alone ++ rest))
after_name [] true rest = record { stops = refl; bare = refl }
after_name [] false rest = record { stops = refl; bare = refl }
after_name (a ∷ more) alone rest = record { stops = refl; bare = refl }

enough : (found : List Attribute) (text : List ℕ) → length found ≤ length (attributes_text found ++ text)
enough [] text = omega arith
enough (a ∷ more) text =
    let below = enough more text in
    let whole : length ((attribute_text a ++ attributes_text more) ++ text) ≡ length (attribute_text a) + length (attributes_text more ++ text) =
    ap length (append_assoc (attribute_text a) (attributes_text more) text) ∙ length-append (attribute_text a) (attributes_text more ++ text) in
    omega (arith, below, whole)

-- the start tag of an element without a prefix
abbrev pub tag_of : List ℕ → List Attribute → (alone : Bool) → Tag
tag_of local found alone = record { name = record { prefix = []; local = local }; attributes = found; alone = alone }

start_is : (local : List ℕ) (found : List Attribute) (alone : Bool) (rest : List ℕ) → is_name local ≡ true → AreFree found
    → start (60 ∷ (local ++ (attributes_text found ++ (tag_end alone ++ rest)))) ≡ Some (tag_of local found alone, rest)
unfolding start
start_is local found alone rest named free =
    let ending = tag_end alone ++ rest in
    let behind = attributes_text found ++ ending in
    bind_is (name (local ++ behind)) _ (record { prefix = []; local = local }, behind) _ (bare_is local behind named (after_name found alone rest))
    (bind_is (attributes (suc (length behind)) behind) _ (found, ending) _ (attributes_are found ending (length behind) free (end_ends_tag alone rest) (enough found ending))
    (bind_is (close ending) _ (alone, rest) _ (close_is alone rest) refl))

begins_apart : (mark c : ℕ) → (begins_name mark ≡ false) → begins_name c ≡ true → eqb mark c ≡ false
begins_apart mark c not_mark is = at (eqb mark c) refl
  where
    at : (b : Bool) → eqb mark c ≡ b → b ≡ false
    at false e = refl
    at true e = let same : mark ≡ c = (Decides-eqb mark c).0 e in let clash : false ≡ true = sym not_mark ∙ ap begins_name same ∙ is in cc

false_and : (a b : Bool) → a ≡ false → (a && b) ≡ false
false_and false b e = refl
false_and true b e = cc

pub start_token : (local : List ℕ) (found : List Attribute) (alone : Bool) (rest : List ℕ) → is_name local ≡ true → AreFree found
    → token (60 ∷ (local ++ (attributes_text found ++ (tag_end alone ++ rest)))) ≡ Some (Start (tag_of local found alone), rest)
unfolding token
start_token [] found alone rest named free = cc
start_token (c ∷ cs) found alone rest named free =
    let begins : begins_name c ≡ true = (name_parts (c ∷ cs) named).0 in
    let slash : starts_with eqb (60 ∷ c ∷ (cs ++ (attributes_text found ++ (tag_end alone ++ rest)))) (60 ∷ 47 ∷ []) ≡ false = false_and (eqb 47 c) true (begins_apart 47 c refl begins) in
    let comments : starts_with eqb (60 ∷ c ∷ (cs ++ (attributes_text found ++ (tag_end alone ++ rest)))) (60 ∷ 33 ∷ 45 ∷ 45 ∷ []) ≡ false = false_and (eqb 33 c) _ (begins_apart 33 c refl begins) in
    let sections : starts_with eqb (60 ∷ c ∷ (cs ++ (attributes_text found ++ (tag_end alone ++ rest)))) (60 ∷ 33 ∷ 91 ∷ []) ≡ false = false_and (eqb 33 c) _ (begins_apart 33 c refl begins) in
    let questions : starts_with eqb (60 ∷ c ∷ (cs ++ (attributes_text found ++ (tag_end alone ++ rest)))) (60 ∷ 63 ∷ []) ≡ false = false_and (eqb 63 c) true (begins_apart 63 c refl begins) in
    rw (slash, comments, sections, questions) (ap (option_and_then (λ (t : Tag × List ℕ). Some (Start t.0, t.1))) (start_is (c ∷ cs) found alone rest named free))

end_is : (local rest : List ℕ) → is_name local ≡ true → end (60 ∷ 47 ∷ (local ++ 62 ∷ rest)) ≡ Some (record { prefix = []; local = local }, rest)
unfolding end
end_is local rest named =
    bind_is (name (local ++ 62 ∷ rest)) _ (record { prefix = []; local = local }, 62 ∷ rest) _ (bare_is local (62 ∷ rest) named (record { stops = refl; bare = refl })) refl

pub end_token : (local rest : List ℕ) → is_name local ≡ true → token (60 ∷ 47 ∷ (local ++ 62 ∷ rest)) ≡ Some (End (record { prefix = []; local = local }), rest)
unfolding token
end_token local rest named = ap (option_and_then (λ (t : Name × List ℕ). Some (End t.0, t.1))) (end_is local rest named)

run_apart : (c : ℕ) → is_in_run c ≡ true → eqb 60 c ≡ false
run_apart c is = at (eqb 60 c) refl
  where
    at : (b : Bool) → eqb 60 c ≡ b → b ≡ false
    at false e = refl
    at true e = let same : 60 ≡ c = (Decides-eqb 60 c).0 e in let clash : false ≡ true = ap is_in_run same ∙ is in cc

-- a run of text, up to the next tag
pub run_token : (c : ℕ) (cs rest : List ℕ) → list_all is_in_run (c ∷ cs) ≡ true → first_passes is_in_run rest ≡ false → token (c ∷ (cs ++ rest)) ≡ Some (Run (c ∷ cs), rest)
unfolding token
run_token c cs rest all stops =
    let apart = run_apart c (first_true (is_in_run c) (list_all is_in_run cs) all) in
    let slash : starts_with eqb (c ∷ (cs ++ rest)) (60 ∷ 47 ∷ []) ≡ false = false_and (eqb 60 c) _ apart in
    let comments : starts_with eqb (c ∷ (cs ++ rest)) (60 ∷ 33 ∷ 45 ∷ 45 ∷ []) ≡ false = false_and (eqb 60 c) _ apart in
    let sections : starts_with eqb (c ∷ (cs ++ rest)) (60 ∷ 33 ∷ 91 ∷ []) ≡ false = false_and (eqb 60 c) _ apart in
    let questions : starts_with eqb (c ∷ (cs ++ rest)) (60 ∷ 63 ∷ []) ≡ false = false_and (eqb 60 c) _ apart in
    let tags : starts_with eqb (c ∷ (cs ++ rest)) (60 ∷ []) ≡ false = false_and (eqb 60 c) true apart in
    rw (slash, comments, sections, questions, tags) (ap (λ n. Some (Run (take n (c ∷ (cs ++ rest))), drop n (c ∷ (cs ++ rest)))) (passes_all is_in_run (c ∷ cs) rest all stops)
    ∙ ap (λ x. Some (Run x, drop (suc (length cs)) (c ∷ (cs ++ rest)))) (take-append_seam (c ∷ cs) rest) ∙ ap (λ y. Some (Run (c ∷ cs), y)) (drop-append_seam (c ∷ cs) rest))
