use Rattle.std.proofs.Common.{ℕ, List, rules}
use Rattle.std.specs.Prelude.{◌||◌}
use Rattle.std.proofs.lemmas.Iterator.Search.{all_from_yields_List}
use Rattle.std.proofs.lemmas.Iterator.Splits.{YieldsList-from_slice_split}
use borrow.Author.Tests.{tests}
use Rattle.nc_names.specs.Signs.{is_white}
use Rattle.nc_yang_statements.specs.Arguments.{is_nothing, is_reference}
use Rattle.nc_yang_statements.proofs.argument.names_alone.Goals as goal

pub returns : goal.returns
returns c =
    all_from_yields_List (λ (part : List ℕ). is_nothing part || is_reference part) _ _ c.all.result c.all.ensures.ran
    (YieldsList-from_slice_split _ is_white c.args.text.now c.split.ensures.rest c.split.ensures.done c.split.ensures.closure (λ x r q k. search (rules, tests)))
    (λ x b q k. search (rules, tests))
