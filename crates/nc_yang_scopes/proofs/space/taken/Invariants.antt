use Rattle.std.proofs.Common.{◌≡◌, ℕ, List, take, drop}
use Rattle.std.specs.Prelude.{is_some, []}
use Rattle.std.specs.List.{list_any}
use Rattle.nc_yang_statements.specs.Statements.{kind, below}
use Rattle.nc_yang_scopes.specs.Spaces.{has_name, taken}
use Rattle.nc_yang_scopes.specs.Tables.{number_at}
use Rattle.nc_yang_scopes.proofs.space.taken.Given as goal

abbrev pub invariant-loop-place : goal.invariant-loop-place
invariant-loop-place l =
    record {
      rest : taken l.space (kind l.statement) [] (below l.statement) ≡ taken l.space (kind l.statement) (take l.place l.among) (drop l.place l.among);
      names : (word : List ℕ) → is_some (number_at l.names 0 word) ≡ list_any (has_name l.space (kind l.statement) word) (take l.place l.among);
    }
