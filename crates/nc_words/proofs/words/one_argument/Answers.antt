use Rattle.std.proofs.Common.{Global, ◌≡◌, ◌≢◌, ◌∷◌, [], ap, map, string_bytes, subst, rules, false, true}
use Rattle.nc_words.proofs.Arguments.{flag_one, has_one, other_one, two_words}
use Rattle.nc_words.specs.Words.{IsCommand, begins_with_hyphen}
use Rattle.nc_words.proofs.words.one_argument.Goals as goal

pub returns-then-ne : goal.returns-then-ne
returns-then-ne c = λ first is.
    let a = string_bytes {Z = Global} c.command-item.result in
    let b = string_bytes {Z = Global} c.first-item.result in
    let are = two_words c.args.words.now c.command-item.result c.first-item.result c.in-len2.len_at_least c.in-len2.len_below c.command-item.is c.first-item.is in
    let other : a ≢ c.args.name.now = search rules in
    other_one c.args.name.now a b other first
    (subst (λ w. IsCommand c.args.name.now w (first ∷ [])) (ap (map (string_bytes {Z = Global})) are) is)

pub returns-then-begins_with_hyphen : goal.returns-then-begins_with_hyphen
returns-then-begins_with_hyphen c = λ first is.
    let a = string_bytes {Z = Global} c.command-item.result in
    let b = string_bytes {Z = Global} c.first-item.result in
    let are = two_words c.args.words.now c.command-item.result c.first-item.result c.in-len2.len_at_least c.in-len2.len_below c.command-item.is c.first-item.is in
    let flag : begins_with_hyphen b ≡ true = search rules in
    flag_one c.args.name.now a b flag first
    (subst (λ w. IsCommand c.args.name.now w (first ∷ [])) (ap (map (string_bytes {Z = Global})) are) is)

pub returns : goal.returns
returns c =
    let a = string_bytes {Z = Global} c.command-item.result in
    let b = string_bytes {Z = Global} c.first-item.result in
    let are = two_words c.args.words.now c.command-item.result c.first-item.result c.in-len2.len_at_least c.in-len2.len_below c.command-item.is c.first-item.is in
    let same : a ≡ c.args.name.now = search rules in
    let plain : begins_with_hyphen b ≡ false = search rules in
    rw c.as_str-3.ensures.value
    (has_one c.args.name.now a b (map (string_bytes {Z = Global}) c.args.words.now) (ap (map (string_bytes {Z = Global})) are) same plain)
