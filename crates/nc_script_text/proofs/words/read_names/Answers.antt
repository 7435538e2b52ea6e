-- A word that is no name.
use Rattle.std.proofs.Common.{◌≡◌, ap, ◌∙◌}
use Rattle.std.specs.Option.{option_copied}
use Rattle.nc_script_text.specs.inner.Heads.{words_in}
use Rattle.nc_script_text.proofs.Namings.{names_refused}
use Rattle.nc_script_text.proofs.words.read_names.Goals as goal

pub returns-in-Err : goal.returns-in-Err
returns-in-Err c =
    names_refused (words_in (option_copied c.args.text)) c.loop-left.names (words_in (option_copied c.loop-left.left))
    (words_in (option_copied c.next_word.result.1)) c.next_word.result.0.now c.in-Err.fault c.loop-left.invariant.words_are
    (ap (λ r. words_in (option_copied r)) c.in-Some.is ∙ c.next_word.ensures) c.in-Err.ensures
