use Rattle.std.proofs.Common.{sym, ap, ◌∙◌}
use Rattle.std.specs.List.{list_all}
use Rattle.std.specs.Str.Iter.{chars_rest}
use Rattle.nc_message.specs.Texts.{is_char}
use Rattle.std.proofs.lemmas.Str.{IsUtf8-past_char, chars_past_char}
use Rattle.std.proofs.StrCases.{chars_of_empty}
use Rattle.nc_message_read.proofs.text.all_chars.Goals as goal

pub returns-then-not-is_char : goal.returns-then-not-is_char
returns-then-not-is_char c =
    let held = c.loop-c.invariant in
    let step = chars_past_char _ _ c.in-Some.c held.0 c.in-Some.ensures.steps.0 in
    let refused = sym c.is_char.ensures ∙ c.if-not-is_char.true in
    sym (rw (step, refused) at held.1)

pub loop-c-preserved : goal.loop-c-preserved
loop-c-preserved c =
    let held = c.loop-c.invariant in
    let parts = c.in-Some.ensures.steps.0 in
    let passed = sym c.is_char.ensures ∙ c.if-not-is_char.false in
    (IsUtf8-past_char _ _ c.in-Some.c held.0 parts, rw (chars_past_char _ _ c.in-Some.c held.0 parts, passed) at held.1)

pub returns : goal.returns
returns c = sym (c.loop-c.invariant.1 ∙ ap (list_all is_char) (chars_of_empty (chars_rest c.loop-c.c-iterator) c.in-None.ensures.steps.0.0))
