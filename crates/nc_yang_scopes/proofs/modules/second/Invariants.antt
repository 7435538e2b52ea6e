use Rattle.std.proofs.Common.{◌≡◌, ℕ, List, take, drop}
use Rattle.std.specs.Prelude.{is_some, []}
use Rattle.std.specs.List.{list_any}
use Rattle.nc_yang_scopes.specs.Modules.{has_title, seconds}
use Rattle.nc_yang_scopes.specs.Tables.{number_at}
use Rattle.nc_yang_scopes.proofs.modules.second.Given as goal

abbrev pub invariant-loop-text : goal.invariant-loop-text
invariant-loop-text l =
    record {
      rest : seconds l.by 0 [] l.texts ≡ seconds l.by l.text (take l.text l.texts) (drop l.text l.texts);
      titles : (word : List ℕ) → is_some (number_at l.titles 0 word) ≡ list_any (has_title l.by word) (take l.text l.texts);
    }
