-- Elements that are open, and what stands in them so far.
use Rattle.std.specs.Prelude.{ℕ, Bool, ◌&&◌, List, [], ◌∷◌, ◌++◌}
use Rattle.nc_names.specs.Same.{is_same_text}
use Rattle.nc_message.specs.declared.tree.Elem.{Elem}
use Rattle.nc_message.specs.declared.tree.Part.TheVariants.{Child}
use Rattle.nc_message.specs.Tokens.{Name}
use Rattle.nc_message.specs.Resolved.{Head}
use Rattle.nc_message.specs.Spells.{Bit, chars_of, joined}
use Rattle.nc_message_read.specs.declared.open.Open.{Open}

-- an element that was just opened
abbrev pub open_of : Head → Open
open_of head =
    record { prefix = head.prefix; name = head.name; bounds = head.bounds; attrs = head.attrs; parts = []; text = [] }

-- the element, at its end tag
abbrev pub elem_of : Open → Elem
elem_of o = record { name = o.name; bounds = o.bounds; attrs = o.attrs; parts = o.parts ++ chars_of o.text }

-- adjacent text is one part, whatever comments stand in it
abbrev pub with_text : Open → List ℕ → Open
with_text o text =
    record {
      prefix = o.prefix;
      name = o.name;
      bounds = o.bounds;
      attrs = o.attrs;
      parts = o.parts;
      text = o.text
          ++ text;
    }

-- a child, before which the text that came so far is a part
abbrev pub with_child : Open → Elem → Open
with_child o child =
    record {
      prefix = o.prefix;
      name = o.name;
      bounds = o.bounds;
      attrs = o.attrs;
      parts =
          (o.parts ++ chars_of o.text) ++ Child child ∷ [];
      text = [];
    }

-- the element, with these in it besides
abbrev pub around : Open → List Bit → Elem
around o bits = record { name = o.name; bounds = o.bounds; attrs = o.attrs; parts = o.parts ++ joined o.text bits }

-- whether an end tag has the name of its start tag
abbrev pub ends : Open → Name → Bool
ends o n = is_same_text o.prefix n.prefix && is_same_text o.name.name n.local
