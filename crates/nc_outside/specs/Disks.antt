-- The crash model of a disk: what its calls do to the file, and what a crash may leave of it. A crash image is what
-- the file may hold after a crash. A write or a cut that no sync has made durable may have been done in part.
use Rattle.std.specs.Prelude.{◌≡◌, ◌⊎◌, ℕ, ◌+◌, ◌^◌, ◌≤◌, max, Bool, List, ◌++◌, length, take, drop, Option, Some, is_some}

-- the largest size of a file, in bytes
abbrev pub largest_size : ℕ
largest_size = 2 ^ 62

-- P holds of the bytes that a disk tells; nothing is said of a disk that tells none
abbrev pub Told : Option (List ℕ) → (List ℕ → Type 0) → Type 0
Told seen P = (bytes : List ℕ) → seen ≡ Some bytes → P bytes

-- the file after a write of these bytes at this place, which is done whole
abbrev pub written_at : ℕ → List ℕ → List ℕ → List ℕ
written_at place bytes old = take place old ++ (bytes ++ drop (place + length bytes) old)

-- A torn write of n bytes at a place, which a crash cut short: any bytes stand in its range and past the old end,
-- the bytes elsewhere are as they were, and the size is the old one, the new one, or any between them.
pub record Torn (place n : ℕ) (old new : List ℕ) : Type 0 where
  pub before : take place new ≡ take place old
  pub after : drop (place + n) new ≡ drop (place + n) old
  pub no_shorter : length old ≤ length new
  pub no_longer : length new ≤ max (length old) (place + n)

-- A cut that a crash met: it was done or not, and the size is the old one or the new one.
abbrev pub CutTo : ℕ → List ℕ → List ℕ → Type 0
CutTo size old new = (new ≡ old) ⊎ (new ≡ take size old)

-- the file stays as it is
abbrev pub Same : List ℕ → List ℕ → Type 0
Same old new = new ≡ old

-- one step and then another, each of which a crash may have torn
pub record Then (first second : List ℕ → List ℕ → Type 0) (old new : List ℕ) : Type 0 where
  pub mid : List ℕ
  pub left : first old mid
  pub right : second mid new

-- the crash images that a step makes of these
pub record After (step : List ℕ → List ℕ → Type 0) (old : List ℕ → Type 0) (new : List ℕ) : Type 0 where
  pub from : List ℕ
  pub was : old from
  pub did : step from new

-- each crash image afterwards is one from before after this step
abbrev pub Follows : (List ℕ → List ℕ → Type 0) → (List ℕ → Type 0) → (List ℕ → Type 0) → Type 0
Follows step old new = (c : List ℕ) → new c → After step old c

-- each crash image afterwards is one from before
abbrev pub Within : (List ℕ → Type 0) → (List ℕ → Type 0) → Type 0
Within old new = (c : List ℕ) → new c → old c

-- the file is durable: a crash leaves these bytes and no others
abbrev pub Only : List ℕ → (List ℕ → Type 0) → Type 0
Only file images = (c : List ℕ) → images c → c ≡ file

-- Time goes on within a call: a crash since a moment before it might have left what it might have left by then, or
-- what it may leave now.
pub record Elapses (before now : ℕ) (past since : ℕ → List ℕ → Type 0) (may_leave : List ℕ → Type 0) : Type 0 where
  pub later : before ≤ now
  pub nothing_else : (t : ℕ) (c : List ℕ) → t ≤ before → since t c → past t c ⊎ may_leave c
  pub keeps : (t : ℕ) (c : List ℕ) → t ≤ before → past t c → since t c

-- A crash at any moment from old to new leaves an image that has P.
pub record LeavesOnly {D : Type 0} (moment : D → ℕ) (left_since : D → ℕ → List ℕ → Type 0) (old new : D)
    (P : List ℕ → Type 0) : Type 0 where
  pub later : moment old ≤ moment new
  pub each : (c : List ℕ) → left_since new (moment old) c → P c
  -- the same for moments before old: it leaves what was left by then, or an image that has P
  pub before : (t : ℕ) (c : List ℕ) → t ≤ moment old → left_since new t c → left_since old t c ⊎ P c

-- A stretch of calls acts as one step: what a crash leaves within it and after it is what this step makes of an image
-- from before it.
pub record Passes {D : Type 0} (may_leave : D → List ℕ → Type 0) (moment : D → ℕ) (left_since : D → ℕ → List ℕ → Type 0)
    (step : List ℕ → List ℕ → Type 0) (old new : D) : Type 0 where
  pub outcomes : Follows step (may_leave old) (may_leave new)
  pub moments : LeavesOnly moment left_since old new (After step (may_leave old))

-- a read gives this file, and the file is durable
pub record IsSettled {D : Type 0} (seen : D → Option (List ℕ)) (may_leave : D → List ℕ → Type 0) (disk : D)
    (file : List ℕ) : Type 0 where
  pub told : seen disk ≡ Some file
  pub durable : Only file (may_leave disk)
