-- Requests of bytes, one more at a time, and stops that stay.
use Rattle.std.proofs.Common.{◌≡◌, ℕ, ◌+◌, List, [], ◌∷◌, ◌++◌, length, refl, sym, ap, subst, ◌∙◌, append_assoc, append-nil, arith, length-append, Some, Ok}
use Rattle.std.specs.List.{AllByRecursion}
use Rattle.std.proofs.lemmas.List.{map-append}
use Rattle.std.proofs.lemmas.List.Concat.{flat_map-append}
use Rattle.nc_names.specs.Signs.{line_feed}
use Rattle.nc_frames.specs.Framing.{Mode, Marks, Chunks, IsTooLong, AnnouncesTooMuch, IsTooBig, IsBad}
use Rattle.nc_frames.specs.Replies.{IsFaultOf}
use Rattle.nc_frames.specs.declared.fault.FrameFault.{FrameFault}
use Rattle.nc_frames.specs.declared.fault.FrameFault.TheVariants.{BadFrame as FrameBad, TooBig as FrameTooBig, Memory as FrameMemory}
use Rattle.nc_protocol.specs.declared.request.Request.{Request}
use Rattle.nc_session.specs.declared.base.Base.{Base}
use Rattle.nc_session.specs.declared.end.SessionEnd.{SessionEnd}
use Rattle.nc_session.specs.declared.end.SessionEnd.TheVariants.{Closed, InputEnded, BadHello, BadFrame, TooBig, Malformed, Killed, ReadFault, WriteFault, Full, Spent, Memory}
use Rattle.nc_session.specs.Requests.{AsksFor, Greets}
use Rattle.nc_session.specs.Asks.{mode_of, Message, IsAsked, stream_of, requests_of, AsksFirst, AsksAll, Spurned, Stopped, BeginsWith, StopsAtHello, StopsAtMessage}
use Rattle.nc_session.specs.inner.Unseen.{Gives}

-- the hello is taken: no request is given yet
pub hello_taken : (U V : ℕ → List ℕ → Type 0) (base : Base) (bytes body : List ℕ) (g : Gives U Marks 0 bytes body)
    → Greets body (Ok base) → V (length g.framed) g.rest → (first : AsksFirst base bytes []) × V (length first.front) first.rest
hello_taken U V base bytes body g chooses unread = (
  record {
    front = g.framed;
    rest = g.rest;
    bytes_are = g.bytes_are;
    asks = record {
      hello = g.framed;
      hello_body = body;
      is_hello = g.is_message;
      chooses = chooses;
      messages = [];
      each = tt;
      requests_are = refl;
      bytes_are = sym (append-nil g.framed);
    };
  },
  unread,
)

-- the first place is that of no byte
pub from_first : (U : ℕ → List ℕ → Type 0) (framed rest : List ℕ) → U (0 + length framed) rest → U (length framed) rest
from_first U framed rest unread = let P : ℕ → Type 0 = λ n. U n rest in subst P (omega arith) unread

asked_push : (base : Base) (messages : List Message) (message : Message) → AllByRecursion (IsAsked base) messages → IsAsked base message
    → AllByRecursion (IsAsked base) (messages ++ message ∷ [])
asked_push base [] message each is = (is, tt)
asked_push base (m ∷ ms) message each is = (each.0, asked_push base ms message each.1 is)

-- one request more
module _ (U V : ℕ → List ℕ → Type 0) (base : Base) (bytes body : List ℕ) (given : List Request) (request : Request)
    (first : AsksFirst base bytes given) (g : Gives U (mode_of base) (length first.front) first.rest body) (asked : AsksFor base body (Ok request)) where
  abbrev message : Message
  message = record { framed = g.framed; body = body; request = request }

  abbrev messages : List Message
  messages = first.asks.messages ++ message ∷ []

  stream_more : stream_of messages ≡ stream_of first.asks.messages ++ g.framed
  stream_more = flat_map-append (λ (m : Message). m.framed) first.asks.messages (message ∷ []) ∙ ap (λ x. stream_of first.asks.messages ++ x) (append-nil g.framed)

  front_more : first.front ++ g.framed ≡ first.asks.hello ++ stream_of messages
  front_more =
      ap (λ x. x ++ g.framed) first.asks.bytes_are ∙ append_assoc first.asks.hello (stream_of first.asks.messages) g.framed
      ∙ ap (λ x. first.asks.hello ++ x) (sym stream_more)

  asked_more : given ++ request ∷ [] ≡ requests_of messages
  asked_more =
      ap (λ x. x ++ request ∷ []) first.asks.requests_are
      ∙ sym (map-append (λ (m : Message). m.request) first.asks.messages (message ∷ []))

  pub one_more_request : V (length first.front + length g.framed) g.rest → (more : AsksFirst base bytes (given ++ request ∷ [])) × V (length more.front) more.rest
  one_more_request unread = (
    record {
      front = first.front ++ g.framed;
      rest = g.rest;
      bytes_are = first.bytes_are ∙ ap (λ x. first.front ++ x) g.bytes_are ∙ sym (append_assoc first.front g.framed g.rest);
      asks = record {
        hello = first.asks.hello;
        hello_body = first.asks.hello_body;
        is_hello = first.asks.is_hello;
        chooses = first.asks.chooses;
        messages = messages;
        each = asked_push base first.asks.messages message first.asks.each (record { is_message = g.is_message; asks = asked });
        requests_are = asked_more;
        bytes_are = front_more;
      };
    },
    (let P : ℕ → Type 0 = λ n. V n g.rest in subst P (sym (length-append first.front g.framed)) unread),
  )

-- stops stay, whatever bytes follow
too_long_more : (bytes more : List ℕ) (place : ℕ) → IsTooLong bytes place → IsTooLong (bytes ++ more) place
too_long_more bytes more place t = record {
  front = t.front;
  rest = t.rest ++ more;
  bytes_are = ap (λ b. b ++ more) t.bytes_are ∙ append_assoc t.front t.rest more;
  many = t.many;
  unmarked = t.unmarked;
  place_is = t.place_is;
}

too_much_more : (bytes more : List ℕ) (place : ℕ) → AnnouncesTooMuch bytes place → AnnouncesTooMuch (bytes ++ more) place
too_much_more bytes more place t = record {
  chunks = t.chunks;
  each = t.each;
  size = t.size;
  is_size = t.is_size;
  rest = t.rest ++ more;
  bytes_are = ap (λ b. b ++ more) t.bytes_are ∙ append_assoc _ (line_feed ∷ t.rest) more;
  before = t.before;
  after = t.after;
  place_is = t.place_is;
}

too_big_more : (mode : Mode) (bytes more : List ℕ) (place : ℕ) → IsTooBig mode bytes place → IsTooBig mode (bytes ++ more) place
too_big_more Marks bytes more place t = too_long_more bytes more place t
too_big_more Chunks bytes more place t = too_much_more bytes more place t

bad_more : (bytes more : List ℕ) (place : ℕ) → IsBad bytes place → IsBad (bytes ++ more) place
bad_more bytes more place b = record {
  before = b.before;
  byte = b.byte;
  rest = b.rest ++ more;
  bytes_are = ap (λ x. x ++ more) b.bytes_are ∙ append_assoc b.before (b.byte ∷ b.rest) more;
  unfinished = b.unfinished;
  wrong = b.wrong;
  place_is = b.place_is;
}

fault_more : (mode : Mode) (first : ℕ) (bytes more : List ℕ) (fault : FrameFault) → IsFaultOf mode first bytes fault → IsFaultOf mode first (bytes ++ more) fault
fault_more Marks first bytes more (FrameBad at) f = absurd f
fault_more Chunks first bytes more (FrameBad at) f = (f.0, bad_more bytes more f.0 f.1, f.2)
fault_more Marks first bytes more (FrameTooBig at) f = (f.0, too_big_more Marks bytes more f.0 f.1, f.2)
fault_more Chunks first bytes more (FrameTooBig at) f = (f.0, too_big_more Chunks bytes more f.0 f.1, f.2)
fault_more Marks first bytes more FrameMemory f = absurd f
fault_more Chunks first bytes more FrameMemory f = absurd f

begins_more : (mode : Mode) (bytes more body : List ℕ) → BeginsWith mode bytes body → BeginsWith mode (bytes ++ more) body
begins_more mode bytes more body b = record {
  framed = b.framed;
  rest = b.rest ++ more;
  bytes_are = ap (λ x. x ++ more) b.bytes_are ∙ append_assoc b.framed b.rest more;
  is_message = b.is_message;
}

hello_stop_more : (bytes more : List ℕ) (end : SessionEnd) → StopsAtHello bytes end → StopsAtHello (bytes ++ more) end
hello_stop_more bytes more (BadHello why) s = (s.0, begins_more Marks bytes more s.0 s.1, s.2)
hello_stop_more bytes more (BadFrame at) s = fault_more Marks 0 bytes more (FrameBad at) s
hello_stop_more bytes more (TooBig at) s = fault_more Marks 0 bytes more (FrameTooBig at) s
hello_stop_more bytes more Closed s = absurd s
hello_stop_more bytes more InputEnded s = absurd s
hello_stop_more bytes more (Malformed at why) s = absurd s
hello_stop_more bytes more Killed s = absurd s
hello_stop_more bytes more ReadFault s = absurd s
hello_stop_more bytes more WriteFault s = absurd s
hello_stop_more bytes more (Full live last) s = absurd s
hello_stop_more bytes more (Spent ticket) s = absurd s
hello_stop_more bytes more Memory s = absurd s

message_stop_more : (base : Base) (first : ℕ) (bytes more : List ℕ) (end : SessionEnd) → StopsAtMessage base first bytes end → StopsAtMessage base first (bytes ++ more) end
message_stop_more base first bytes more (Malformed at why) s = (s.0, begins_more (mode_of base) bytes more s.0 s.1, s.2)
message_stop_more base first bytes more (BadFrame at) s = fault_more (mode_of base) first bytes more (FrameBad at) s
message_stop_more base first bytes more (TooBig at) s = fault_more (mode_of base) first bytes more (FrameTooBig at) s
message_stop_more base first bytes more Closed s = absurd s
message_stop_more base first bytes more InputEnded s = absurd s
message_stop_more base first bytes more (BadHello why) s = absurd s
message_stop_more base first bytes more Killed s = absurd s
message_stop_more base first bytes more ReadFault s = absurd s
message_stop_more base first bytes more WriteFault s = absurd s
message_stop_more base first bytes more (Full live last) s = absurd s
message_stop_more base first bytes more (Spent ticket) s = absurd s
message_stop_more base first bytes more Memory s = absurd s

abbrev pub first_more : (base : Base) (bytes more : List ℕ) (given : List Request) → AsksFirst base bytes given → AsksFirst base (bytes ++ more) given
first_more base bytes more given f = record {
  front = f.front;
  rest = f.rest ++ more;
  bytes_are = ap (λ x. x ++ more) f.bytes_are ∙ append_assoc f.front f.rest more;
  asks = f.asks;
}

pub stop_stays : (base : Base) (bytes more : List ℕ) (given : List Request) (end : SessionEnd)
    → AsksAll base bytes given (Some end) → AsksAll base (bytes ++ more) given (Some end)
stop_stays base bytes more given end (Spurned last none stop) = Spurned last none (hello_stop_more bytes more last stop)
stop_stays base bytes more given end (Stopped first last stop) =
    Stopped (first_more base bytes more given first) last (message_stop_more base (length first.front) first.rest more last stop)
