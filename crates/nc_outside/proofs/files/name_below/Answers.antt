use Rattle.std.proofs.Common.{◌≡◌, ◌≢◌, ◌∷◌, ◌++◌, List, ℕ, sym, ap, ◌∙◌, arith}
use Rattle.std.proofs.lemmas.Str.Pattern.{strip_prefix_char}
use Rattle.nc_outside.proofs.Listing.{name_below-not, strips}
use Rattle.nc_outside.proofs.files.name_below.Goals as goal

-- a name that does not begin with the folder is not below it
pub returns-in_default : goal.returns-in_default
returns-in_default c =
    let lacks : (rest : List ℕ) → c.args.name.now ≢ c.args.folder.now ++ rest = c.in_default.ensures.cases in
    sym (name_below-not _ _ (λ rest e. lacks (47 ∷ rest) e))

-- behind the folder the slash decides
pub returns : goal.returns
returns c =
    let after = c.in-Some.ensures.cases in
    let whole : c.args.name.now ≡ c.args.folder.now ++ c.in-Some.rest.now = after.1.1 ∙ ap (λ l. c.args.folder.now ++ l) (sym after.2) in
    strips _ _ _ _ whole (strip_prefix_char 47 _ _ c.strip_prefix-2.ensures.cases (omega arith))
