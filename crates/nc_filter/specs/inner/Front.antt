-- The rows that a filter may keep, found by one of its content matches before the rest is looked at.
use Rattle.std.specs.Prelude.{◌≡◌, ◌<◌, ◌&&◌, ◌||◌, ℕ, Bool, true, false, List, [], ◌∷◌, None, length, map, option_map, take}
use Rattle.std.specs.List.{Contains, filter, last_or, list_all, list_any}
use Rattle.std.specs.Option.{option_map_or}
use Rattle.nc_names.specs.Same.{is_at_or_below}
use Rattle.nc_names.specs.declared.path.Row.{Row}
use Rattle.nc_names.specs.declared.path.Step.{Step}
use Rattle.nc_message.specs.declared.tree.Elem.{Elem}
use Rattle.nc_schema.specs.Blocks.{above_last}
use Rattle.nc_schema.specs.Order.{keys_above}
use Rattle.nc_schema.specs.Standing.{has_row}
use Rattle.nc_schema.specs.Tables.{Tables}
use Rattle.nc_filter.specs.declared.front.Way.{Way}
use Rattle.nc_protocol.specs.Filter.{is_containment, is_content_match, is_key_of_entry}
use Rattle.nc_protocol.specs.Filter.{is_of_node, is_of_text, level_of}

-- containment nodes lead from one element to another: each is all that stands at the level of the one before it
abbrev pub LeadBy : Elem → List Elem → Elem → Type 0
LeadBy from [] to = from ≡ to
LeadBy from (elem ∷ way) to = (level_of from ≡ elem ∷ []) × (is_containment elem ≡ true) × LeadBy elem way to

-- so they lead from one element to the last of a way, whose level is known
abbrev pub IsWay : Elem → Way → Type 0
IsWay from way =
    LeadBy from (map (λ elem. elem.now) way.elems) way.end.now
    × (map (λ elem. elem.now) way.level ≡ level_of way.end.now)

-- a row has the name and the text of a content match
abbrev pub is_like : Tables → Elem → Row → Bool
is_like tables elem row =
    option_map_or (is_of_node tables elem) (last_or None row.path.steps) false && is_of_text elem row

-- rows like one of the content matches of a level
abbrev pub AreLikes : Tables → List Elem → List Row → List Row → Type 0
AreLikes tables level rows likes =
    (elem : Elem) × Contains level elem × (is_content_match elem ≡ true) × (likes ≡ filter (is_like tables elem) rows)

-- such a row stands at or below the first so many steps
abbrev pub is_near : List Row → ℕ → List Step → Bool
is_near likes depth steps = list_any (λ other. is_at_or_below (take depth steps) other.path) likes

-- so does one for the steps to a row, or to the entry of which it is a key
abbrev pub is_met : Tables → List Row → ℕ → Row → Bool
is_met tables likes depth row =
    is_near likes depth row.path.steps
    || (is_key_of_entry tables row.path.steps && is_near likes depth (above_last row.path.steps))

-- a node has neither a row nor keys
abbrev pub IsBare : Tables → List Row → List Step → Type 0
IsBare tables rows steps =
    (has_row rows steps ≡ false) × (keys_above tables (option_map (λ over. over.node) (last_or None steps)) ≡ [])

-- so it is with each node above one
abbrev pub AreBare : Tables → List Row → List Step → Type 0
AreBare tables rows steps = (depth : ℕ) → depth < length steps → IsBare tables rows (take depth steps)

-- rows stand at a node or below it
abbrev pub AreBelow : List Step → List Row → Type 0
AreBelow steps rows = list_all (λ row. is_at_or_below steps row.path) rows ≡ true

-- there are rows like a content match, and all of them stand in one instance, so many steps below the top, above which
-- nothing has a row or keys
abbrev pub IsLone : Tables → List Row → List Row → ℕ → List Step → Type 0
IsLone tables rows [] depth top = ⊥
IsLone tables rows (one ∷ more) depth top =
    (length top ≡ depth) × AreBelow top (one ∷ more) × AreBare tables rows top
