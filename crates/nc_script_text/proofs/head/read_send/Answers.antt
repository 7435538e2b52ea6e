-- A word too many.
use Rattle.std.proofs.Common.{◌≡◌, ◌∷◌, ap, ◌∙◌}
use Rattle.std.specs.Option.{option_copied}
use Rattle.nc_script_text.specs.inner.Heads.{cut, words_in}
use Rattle.nc_script_text.proofs.Mores.{send_more}
use Rattle.nc_script_text.proofs.head.read_send.Goals as goal

pub returns-in-Some-more : goal.returns-in-Some-more
returns-in-Some-more c = λ head is.
    send_more c.args.number.now c.next_word.result.0.now c.in-Some-more._more.now (words_in (option_copied c.args.rest)) head
    (ap (λ r. words_in (option_copied r)) c.in-Some-rest.is
    ∙ (c.next_word.ensures ∙ ap (λ r. c.next_word.result.0.now ∷ words_in (option_copied r)) c.in-Some-more.is)) is
