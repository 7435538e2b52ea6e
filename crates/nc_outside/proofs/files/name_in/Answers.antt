use Rattle.std.proofs.Common.{◌≡◌, true, false, sym, ◌∙◌, arith}
use Rattle.std.proofs.lemmas.Str.Pattern.{contains_char}
use Rattle.nc_outside.proofs.Listing.{name_in-is}
use Rattle.nc_outside.proofs.files.name_in.Goals as goal

-- no further slash stands in it
pub returns-else-contains : goal.returns-else-contains
returns-else-contains c =
    let rest = c.in_ok-rest.rest.now in
    let found = contains_char 47 rest _ c.contains.ensures.cases (omega arith) in
    name_in-is c.args.folder.now c.args.name.now rest c.in_ok-rest.ensures (λ k here e. let clash : true ≡ false = sym (found.1 k here e) ∙ c.if-contains.false in cc)
