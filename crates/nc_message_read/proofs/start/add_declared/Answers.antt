use Rattle.std.proofs.Common.{◌≡◌, ◌∙◌, sym, ap, cond, true}
use Rattle.std.specs.Prelude.{◌&&◌, ◌||◌}
use Rattle.std.proofs.lemmas.Map.Text.{is_eq-slice_cmp}
use Rattle.nc_names.specs.Same.{is_same_text}
use Rattle.nc_message.specs.Tokens.{Name}
use Rattle.nc_message.specs.Resolved.{is_xmlns}
use Rattle.nc_message_read.specs.inner.Sets.{has}
use Rattle.nc_message_read.proofs.Sets.{as_or, same_turned}
use Rattle.nc_message_read.proofs.start.add_declared.Goals as goal

pub returns-in_ok-insert : goal.returns-in_ok-insert
returns-in_ok-insert c = λ prefix.
    let key = c.in_ok-text_of_word.field-0 in
    let local = c.args.name.now.local in
    let old = has c.args.prefixes.now prefix in
    let key_is : key ≡ local = c.in_ok-text_of_word.ensures ∙ ap (λ (n : Name). n.local) c.name.view_is in
    let xmlns : is_xmlns c.args.name.now.prefix ≡ true = sym (ap (λ (n : Name). is_xmlns n.prefix) c.name.view_is) ∙ sym c.is_xmlns.ensures ∙ c.if-is_xmlns.true in
    c.in_ok-insert.ensures.updates.0 prefix
    ∙ ap (λ t. cond t true old) (is_eq-slice_cmp key prefix ∙ ap (λ k. is_same_text k prefix) key_is ∙ same_turned local prefix)
    ∙ as_or (is_same_text prefix local) old
    ∙ ap (λ b. (b && is_same_text prefix local) || old) (sym xmlns)
