-- The client's hello (RFC 6241 8.1).
use Rattle.std.specs.Prelude.{ℕ, List, Option, Some, None, Bool, true, false, ◌&&◌, if◌then◌else◌, Result, Ok, Err}
use Rattle.std.specs.List.{list_all, list_any}
use Rattle.std.specs.Str.{bytes_eq}
use Rattle.nc_names.specs.Ends.{trimmed}
use Rattle.nc_message.specs.declared.tree.Elem.{Elem}
use Rattle.nc_message.specs.declared.tree.Part.{Part, out-Part}
use Rattle.nc_message.specs.declared.tree.Part.TheOpen.{Part-F, Child, Chars}
use Rattle.nc_message.specs.declared.tree.Tree.{Tree}
use Rattle.nc_protocol.specs.Words.{session_id_word}
use Rattle.nc_session.specs.declared.base.Base.{Base}
use Rattle.nc_session.specs.declared.base.Base.TheVariants.{Base10, Base11}
use Rattle.nc_session.specs.declared.end.BadMessage.{BadMessage}
use Rattle.nc_session.specs.declared.end.HelloFault.{HelloFault}
use Rattle.nc_session.specs.declared.end.HelloFault.TheVariants.{NotRead, NotHello, HasSessionId, NoBase}
use Rattle.nc_session.specs.Shape.{is_base, is_named, only_named, text_of}
use Rattle.nc_session.specs.Words.{hello_word, capabilities_word, capability_word, base_10, base_11}

-- there is a text
abbrev pub has_text : Option (List ℕ) → Bool
has_text None = false
has_text (Some text) = true

-- what may stand in `capabilities`: `capability` elements with a text; text beside them does not count
abbrev pub may_stand_in : Part-F Part Elem → Bool
may_stand_in (Child e) = is_base capability_word e && has_text (text_of e.parts)
may_stand_in (Chars text) = true

-- the same of a part
abbrev pub may_stand : Part → Bool
may_stand p = may_stand_in (out-Part p)

-- white space round a capability (`S` of XML 1.0, 2.3) does not count
abbrev pub is_word : List ℕ → Option (List ℕ) → Bool
is_word word None = false
is_word word (Some text) = bytes_eq (trimmed text) word

-- the capability of that word
abbrev pub offers_in : List ℕ → Part-F Part Elem → Bool
offers_in word (Child e) = is_word word (text_of e.parts)
offers_in word (Chars text) = false

-- the same of a part
abbrev pub offers : List ℕ → Part → Bool
offers word p = offers_in word (out-Part p)

-- the highest version of the protocol that both peers have
abbrev pub chosen : List Part → Result Base HelloFault
chosen parts =
    if list_any (offers base_11) parts then Ok Base11
    else if list_any (offers base_10) parts then Ok Base10
    else Err NoBase

-- by the `capabilities` of a hello, if it has one and no more
abbrev pub base_by : Elem → Option Elem → Result Base HelloFault
base_by hello None = Err NotHello
base_by hello (Some capabilities) =
    if list_all may_stand capabilities.parts
    then (if list_any (is_named session_id_word) hello.parts then Err HasSessionId else chosen capabilities.parts)
    else Err NotHello

-- What the client's first message chooses, or why it is no hello that the server takes: a `hello` with one
-- `capabilities`, which holds `capability` elements alone, without a session-id, and with a base capability.
-- Other children of `hello` do not matter.
abbrev pub base_of : Result Tree BadMessage → Result Base HelloFault
base_of (Err bad) = Err NotRead
base_of (Ok tree) =
    if is_base hello_word tree.root
    then base_by tree.root (only_named capabilities_word tree.root)
    else Err NotHello
