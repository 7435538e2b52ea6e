-- Which refusals have a path that the session may not see (RFC 8341 3.2.5).
use Rattle.std.specs.Prelude.{Bool, false, not, List, Option, Some, None}
use Rattle.std.specs.List.{list_any}
use Rattle.nc_names.specs.declared.path.Path.{Path}
use Rattle.nc_protocol.specs.declared.request.Cause.{Cause}
use Rattle.nc_protocol.specs.declared.verdict.Verdict.{Verdict}
use Rattle.nc_protocol.specs.declared.verdict.Verdict.TheVariants.{Refused}

-- there is a path, and it is not seen
abbrev pub is_hidden : (sees : Path → Bool) → Option Path → Bool
is_hidden sees None = false
is_hidden sees (Some path) = not (sees path)

-- one of the causes has such a path
abbrev pub any_hidden : (sees : Path → Bool) → List Cause → Bool
any_hidden sees causes = list_any (λ cause. is_hidden sees cause.path) causes

-- a verdict refuses, and one of its causes has such a path: its reply depends on what the request names
abbrev pub hides_path : (sees : Path → Bool) → Verdict → Bool
hides_path sees (Refused causes) = any_hidden sees causes
hides_path sees verdict = false
