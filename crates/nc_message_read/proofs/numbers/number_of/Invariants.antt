use Rattle.std.proofs.Common.{◌≡◌, ◌≤◌, drop}
use Rattle.std.specs.Str.Parse.{digits_value, digits_value_after}
use Rattle.nc_message_read.specs.inner.Numbers.{capped, past_characters}
use Rattle.nc_message_read.proofs.numbers.number_of.Given as goal

-- the number so far, and the digits that are left
abbrev pub invariant-loop-digit : goal.invariant-loop-digit
invariant-loop-digit l =
    (l.number ≤ past_characters) × (capped (digits_value l.radix l.digits) ≡ capped (digits_value_after l.radix l.number (drop l.digit-index l.digits)))
