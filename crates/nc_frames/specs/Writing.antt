-- What is written.
use Rattle.std.specs.Prelude.{◌≡◌, ℕ, ◌<◌, ◌≤◌, List, [], ◌∷◌, ◌++◌, length}
use Rattle.std.specs.List.{concat}
use Rattle.nc_frames.specs.Framing.{in_chunks}

-- how many octets the chunks have that are written, but for the last of a message
abbrev pub written_chunk : ℕ
written_chunk = 65536

-- chunks of this many octets, and a last one of as many or fewer
abbrev pub IsCut : ℕ → List (List ℕ) → Type 0
IsCut size [] = ⊥
IsCut size (last ∷ []) = (0 < length last) × (length last ≤ size)
IsCut size (octets ∷ next ∷ more) = (length octets ≡ size) × IsCut size (next ∷ more)

-- a message in such chunks was put at the end
pub record AppendsChunks (size : ℕ) (old new message : List ℕ) : Type 0 where
  pub chunks : List (List ℕ)
  pub cut : IsCut size chunks
  pub message_is : concat chunks ≡ message
  pub new_is : new ≡ old ++ in_chunks chunks
