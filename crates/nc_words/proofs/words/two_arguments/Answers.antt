use Rattle.std.proofs.Common.{Global, ◌≡◌, ◌≢◌, ◌∷◌, [], ap, map, string_bytes, subst, rules, false, true}
use Rattle.nc_words.proofs.Arguments.{flag_three, flag_two, has_two, other_two, three_words}
use Rattle.nc_words.specs.Words.{IsCommand, begins_with_hyphen}
use Rattle.nc_words.proofs.words.two_arguments.Goals as goal

pub returns-then-ne : goal.returns-then-ne
returns-then-ne c = λ first second is.
    let a = string_bytes {Z = Global} c.command-item.result in
    let b = string_bytes {Z = Global} c.first-item.result in
    let d = string_bytes {Z = Global} c.second-item.result in
    let are = three_words c.args.words.now c.command-item.result c.first-item.result c.second-item.result c.in-len3.len_at_least c.in-len3.len_below c.command-item.is c.first-item.is c.second-item.is in
    let other : a ≢ c.args.name.now = search rules in
    other_two c.args.name.now a b d other first second
    (subst (λ w. IsCommand c.args.name.now w (first ∷ second ∷ [])) (ap (map (string_bytes {Z = Global})) are) is)

pub returns-then-begins_with_hyphen : goal.returns-then-begins_with_hyphen
returns-then-begins_with_hyphen c = λ first second is.
    let a = string_bytes {Z = Global} c.command-item.result in
    let b = string_bytes {Z = Global} c.first-item.result in
    let d = string_bytes {Z = Global} c.second-item.result in
    let are = three_words c.args.words.now c.command-item.result c.first-item.result c.second-item.result c.in-len3.len_at_least c.in-len3.len_below c.command-item.is c.first-item.is c.second-item.is in
    let flag : begins_with_hyphen b ≡ true = search rules in
    flag_two c.args.name.now a b d flag first second
    (subst (λ w. IsCommand c.args.name.now w (first ∷ second ∷ [])) (ap (map (string_bytes {Z = Global})) are) is)

pub returns-then-begins_with_hyphen-2 : goal.returns-then-begins_with_hyphen-2
returns-then-begins_with_hyphen-2 c = λ first second is.
    let a = string_bytes {Z = Global} c.command-item.result in
    let b = string_bytes {Z = Global} c.first-item.result in
    let d = string_bytes {Z = Global} c.second-item.result in
    let are = three_words c.args.words.now c.command-item.result c.first-item.result c.second-item.result c.in-len3.len_at_least c.in-len3.len_below c.command-item.is c.first-item.is c.second-item.is in
    let plain : begins_with_hyphen b ≡ false = search rules in
    let flag : begins_with_hyphen d ≡ true = search rules in
    flag_three c.args.name.now a b d plain flag first second
    (subst (λ w. IsCommand c.args.name.now w (first ∷ second ∷ [])) (ap (map (string_bytes {Z = Global})) are) is)

pub returns : goal.returns
returns c =
    let a = string_bytes {Z = Global} c.command-item.result in
    let b = string_bytes {Z = Global} c.first-item.result in
    let d = string_bytes {Z = Global} c.second-item.result in
    let are = three_words c.args.words.now c.command-item.result c.first-item.result c.second-item.result c.in-len3.len_at_least c.in-len3.len_below c.command-item.is c.first-item.is c.second-item.is in
    let same : a ≡ c.args.name.now = search rules in
    let plain : begins_with_hyphen b ≡ false = search rules in
    let also : begins_with_hyphen d ≡ false = search rules in
    rw (c.as_str-4.ensures.value, c.as_str-5.ensures.value)
    (has_two c.args.name.now a b d (map (string_bytes {Z = Global}) c.args.words.now) (ap (map (string_bytes {Z = Global})) are) same plain also)
