-- Which tokens fit after which, and where they lead.
use Rattle.std.specs.Prelude.{ℕ, Bool, true, false, ◌==◌, nat_le, if◌then◌else◌, List, [], ◌∷◌, length, Option, None, Some, option_map, is_some, Result, Ok, Err}
use Rattle.std.specs.List.{list_all}
use Rattle.nc_names.specs.Limits.{element_depth}
use Rattle.nc_names.specs.Signs.{is_white}
use Rattle.nc_names.specs.declared.name.Bound.{Bound}
use Rattle.nc_message.specs.declared.tree.Elem.{Elem}
use Rattle.nc_message.specs.declared.tree.Why.{Why}
use Rattle.nc_message.specs.declared.tree.Why.TheVariants.{NotUtf8, NotWellFormed, UnboundPrefix, Doctype, Depth}
use Rattle.nc_message.specs.Tokens.{Name, Tag, Token, Start, End, Run, Section, Comment, Instruction, Declaration}
use Rattle.nc_message.specs.Texts.{text_of, section_of, is_allowed}
use Rattle.nc_message.specs.Resolved.{has_unbound, opened}
use Rattle.nc_message_read.specs.declared.open.Open.{Open}
use Rattle.nc_message_read.specs.inner.Opened.{open_of, elem_of, with_text, with_child, ends}
use Rattle.nc_message_read.specs.inner.State.{State}

-- what stands before a place where the declaration may no longer come
abbrev pub state : List Open → Option Elem → State
state above root = record { above = above; root = root; fresh = false }

-- before the first token
abbrev pub begin : State
begin = record { above = []; root = None; fresh = true }

-- the bindings in force where the next child would stand
abbrev pub bounds_in : List Open → List Bound
bounds_in [] = []
bounds_in (o ∷ above) = o.bounds

-- an element has ended: the root, or a child
abbrev pub closed : Elem → List Open → State
closed e [] = state [] (Some e)
closed e (o ∷ above) = state (with_child o e ∷ above) None

-- an element was opened, and has ended too where its tag stands alone
abbrev pub entered : Open → (alone : Bool) → List Open → State
entered o alone above = if alone then closed (elem_of o) above else state (o ∷ above) None

-- where a start tag leads, if it opens an element
abbrev pub start_fits : List Open → Tag → Option Open → Result State Why
start_fits above tag None = Err NotWellFormed
start_fits above tag (Some o) = Ok (entered o tag.alone above)

-- a start tag, below at most 63 open elements; there is one root
abbrev pub start : State → Tag → Result State Why
start s tag =
    if nat_le element_depth (length s.above) then Err Depth
    else if has_unbound (bounds_in s.above) tag then Err UnboundPrefix
    else if is_some s.root then Err NotWellFormed
    else start_fits s.above tag (option_map open_of (opened (bounds_in s.above) tag))

-- where a token leads, or that the message is not well-formed there
abbrev pub fits : Option State → Result State Why
fits None = Err NotWellFormed
fits (Some s) = Ok s

-- an end tag, of the nearest open element
abbrev pub end : List Open → Name → Option State
end [] n = None
end (o ∷ above) n = if ends o n then Some (closed (elem_of o) above) else None

-- text in an element
abbrev pub add_text : List Open → Option (List ℕ) → Option State
add_text [] text = None
add_text (o ∷ above) text = option_map (λ t. state (with_text o t ∷ above) None) text

-- no element is open
abbrev pub is_outside : List Open → Bool
is_outside above = length above == 0

-- a run of text; outside of the root it is white space
abbrev pub run : State → List ℕ → Option State
run s raw =
    if is_outside s.above then (if list_all is_white raw then Some s else None) else add_text s.above (text_of raw)

-- what is skipped
abbrev pub remark : State → List ℕ → Option State
remark s raw = if is_allowed raw then Some s else None

-- the declaration
abbrev pub declaration : State → Option State
declaration s = if s.fresh then Some (state [] None) else None

-- where a whole token leads, if it fits
abbrev pub step : State → Token → Result State Why
step s (Start tag) = start s tag
step s (End n) = fits (end s.above n)
step s (Run raw) = fits (run s raw)
step s (Section raw) = fits (add_text s.above (section_of raw))
step s (Comment raw) = fits (remark s raw)
step s (Instruction raw) = fits (remark s raw)
step s Declaration = fits (declaration s)

-- why no whole token fits
abbrev pub torn_why : Bool → Why
torn_why is_doctype = if is_doctype then Doctype else NotWellFormed

-- in bytes that are not UTF-8 that is why, but for Depth and Doctype
abbrev pub told : (utf8 : Bool) → Why → Why
told true why = why
told false Depth = Depth
told false Doctype = Doctype
told false _ = NotUtf8
