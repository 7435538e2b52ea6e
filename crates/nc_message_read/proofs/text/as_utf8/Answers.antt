use Rattle.std.proofs.Common.{◌≡◌, rules, subst}
use Rattle.std.specs.Prelude.{string_bytes}
use Rattle.std.specs.Str.{IsUtf8}
use Rattle.std.proofs.lemmas.Str.{IsUtf8-string_bytes}
use Rattle.nc_message_read.proofs.Utf8.{utf8_yes}
use Rattle.nc_message_read.proofs.text.as_utf8.Goals as goal

pub returns-in-Ok : goal.returns-in-Ok
returns-in-Ok c =
    let same : string_bytes c.in-Ok.chars ≡ c.args.bytes = search rules in
    (same, utf8_yes c.args.bytes (subst IsUtf8 same (IsUtf8-string_bytes c.in-Ok.chars)))
