-- The words for framing, worked by computation.
use Rattle.std.proofs.Common.{◌≡◌, ℕ, ◌+◌, ◌-◌, ◌*◌, ◌/◌, ◌%◌, ◌^◌, ◌<◌, List, [], ◌∷◌, ◌++◌, refl, ap, ◌∙◌, arith}
use Rattle.std.specs.Prelude.{codes}
use Rattle.std.specs.Fmt.{decimal}
use Rattle.std.specs.List.{concat}
use Rattle.std.proofs.lemmas.Fmt.{decimal_digit, decimal_step}
use Rattle.nc_frames.specs.Framing.{in_chunks, with_mark, capped, marked_limit, largest_size}
use Rattle.nc_frames.specs.Laws.{unfinished_limit, session_limit}
use Rattle.nc_frames.specs.Writing.{written_chunk}

-- the example of RFC 6242 4.2
example : List (List ℕ)
example = codes "<rpc" ∷ codes " message-id=\"102\"\n" ∷ codes "     xmlns=\"urn:ietf:params:xml:ns:netconf:base:1.0\">\n  <close-session/>\n</rpc>" ∷ []

two_digits : (tens units : ℕ) → 0 < tens → tens < 10 → units < 10 → decimal (tens * 10 + units) ≡ (48 + tens) ∷ (48 + units) ∷ []
two_digits tens units some few less =
    let quotient : (tens * 10 + units) / 10 ≡ tens = omega arith in
    let rest : (tens * 10 + units) % 10 ≡ units = omega arith in
    decimal_step (tens * 10 + units) (omega arith) (omega arith)
    ∙ ap (λ n. decimal n ++ (48 + (tens * 10 + units) % 10) ∷ []) quotient
    ∙ ap (λ n. decimal tens ++ (48 + n) ∷ []) rest
    ∙ ap (λ l. l ++ (48 + units) ∷ []) (decimal_digit tens few)

example_in_chunks : in_chunks example ≡ codes "\n#4\n<rpc\n#18\n message-id=\"102\"\n\n#79\n     xmlns=\"urn:ietf:params:xml:ns:netconf:base:1.0\">\n  <close-session/>\n</rpc>\n##\n"
unfolding example
example_in_chunks =
    let four : decimal 4 ≡ codes "4" = decimal_digit 4 (omega arith) in
    let eighteen : decimal 18 ≡ codes "18" = two_digits 1 8 (omega arith) (omega arith) (omega arith) in
    let seventy_nine : decimal 79 ≡ codes "79" = two_digits 7 9 (omega arith) (omega arith) (omega arith) in
    rw (four, eighteen, seventy_nine) refl

example_message : concat example ≡ codes "<rpc message-id=\"102\"\n     xmlns=\"urn:ietf:params:xml:ns:netconf:base:1.0\">\n  <close-session/>\n</rpc>"
unfolding example
example_message = refl

a_marked_message : with_mark (codes "<hello/>") ≡ codes "<hello/>]]>]]>"
a_marked_message = refl

-- the limits
marked_limit_is : marked_limit ≡ 4194310
marked_limit_is = refl

unfinished_limit_is : unfinished_limit ≡ 20971532
unfinished_limit_is = refl

session_limit_is : session_limit ≡ 25165843
session_limit_is = refl

largest_size_is : largest_size ≡ 2 ^ 32 - 1
largest_size_is = refl

written_chunk_is : written_chunk ≡ 2 ^ 16
written_chunk_is = refl

-- places
a_small_place : capped 5 ≡ 5
a_small_place = refl

a_large_place : capped (2 ^ 64) ≡ 2 ^ 64 - 1
a_large_place = refl
