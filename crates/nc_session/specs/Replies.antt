-- Replies as they stand in a stream (RFC 6242 4.2 and 4.3).
use Rattle.std.specs.Prelude.{ℕ, zero, suc, nat_le, List, [], ◌∷◌, length, take, drop, if◌then◌else◌}
use Rattle.nc_names.specs.Mark.{with_mark}
use Rattle.nc_frames.specs.Framing.{in_chunks}
use Rattle.nc_frames.specs.Writing.{written_chunk}
use Rattle.nc_message.specs.declared.tree.Tree.{Tree}
use Rattle.nc_message.specs.Written.{written}
use Rattle.nc_session.specs.declared.base.Base.{Base}
use Rattle.nc_session.specs.declared.base.Base.TheVariants.{Base10, Base11}

-- a body cut into pieces of this size and a last one with the rest, `most` and one at most
abbrev pub cut_in : (most size : ℕ) → List ℕ → List (List ℕ)
cut_in zero size body = body ∷ []
cut_in (suc most) size body =
    if nat_le (length body) size then body ∷ [] else take size body ∷ cut_in most size (drop size body)

-- a body in pieces of so many octets, and a last one with the rest
abbrev pub cut : (size : ℕ) → List ℕ → List (List ℕ)
cut size body = cut_in (length body) size body

-- a message as it is framed after the hellos
abbrev pub framed : Base → List ℕ → List ℕ
framed Base10 body = with_mark body
framed Base11 body = in_chunks (cut written_chunk body)

-- a reply as it is written, in the framing of the session (RFC 6242 4)
abbrev pub reply_text : Base → Tree → List ℕ
reply_text base reply = framed base (written reply)
