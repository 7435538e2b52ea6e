-- What is asked of the elements of one level, as it is asked of the parts in which they stand.
use Rattle.std.specs.Prelude.{◌&&◌, Bool, true, false, not, List, None}
use Rattle.std.specs.Prelude.{is_some}
use Rattle.std.specs.List.{filter, last_or}
use Rattle.std.specs.Option.{option_map_or}
use Rattle.nc_names.specs.Same.{is_same_path}
use Rattle.nc_names.specs.declared.path.Row.{Row}
use Rattle.nc_names.specs.declared.path.Step.{Step}
use Rattle.nc_message.specs.declared.tree.Elem.{Elem}
use Rattle.nc_message.specs.declared.tree.Part.{Part}
use Rattle.nc_schema.specs.Blocks.{above_last}
use Rattle.nc_schema.specs.Tables.{Tables}
use Rattle.nc_protocol.specs.Elements.{elem_of}
use Rattle.nc_protocol.specs.Filter.{is_content_match, is_of_node, is_of_text}

-- the rows directly in an instance
abbrev pub children : List Row → List Step → List Row
children rows above = filter (λ row. is_same_path (above_last row.path.steps) above) rows

-- a row is at a node of an element's name and has its text
abbrev pub fits : Tables → Elem → Row → Bool
fits tables elem row = option_map_or (is_of_node tables elem) (last_or None row.path.steps) false && is_of_text elem row

-- a part is an element, and no text
abbrev pub is_element : Part → Bool
is_element part = is_some (elem_of part)

-- a part is a content match, or no element
abbrev pub is_part_match : Part → Bool
is_part_match part = option_map_or is_content_match (elem_of part) true

-- no element of a level is a content match
abbrev pub is_free : Part → Bool
is_free part = not (option_map_or is_content_match (elem_of part) false)
