use Rattle.std.proofs.Common.{◌≡◌, ◌++◌, map, take, Some}
use Rattle.nc_yang_scopes.proofs.frames.Frames.push_below.Given as goal

abbrev pub invariant-loop-statement : goal.invariant-loop-statement
invariant-loop-statement l =
    l.self ≡ l.fn.self ++ map (λ s. record { statement = s; text = l.frame.text; outer = Some l.number }) (take l.statement-index l.statement-items)
