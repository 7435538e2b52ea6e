use Rattle.std.proofs.Common.{◌≡◌}
use Rattle.std.specs.List.{list_all}
use Rattle.std.specs.Str.{IsUtf8, chars}
use Rattle.std.specs.Str.Iter.{chars_rest}
use Rattle.nc_message.specs.Texts as texts
use Rattle.nc_message_read.proofs.text.all_chars.Given as goal

-- the characters that are left decide
abbrev pub invariant-loop-c : goal.invariant-loop-c
invariant-loop-c l = IsUtf8 (chars_rest l.c-iterator) × (list_all texts.is_char (chars l.text) ≡ list_all texts.is_char (chars (chars_rest l.c-iterator)))
