-- What a source and a sink tell, at one moment.
use Rattle.std.specs.Prelude.{◌≡◌, ℕ, List, Option}

-- the bytes that are left, how often the source gave the end of input, and how often it failed; the bytes that
-- the sink took, and how often it failed
pub record Streams : Type 0 where
  pub left : Option (List ℕ)
  pub ends : ℕ
  pub reads_failed : ℕ
  pub taken : Option (List ℕ)
  pub writes_failed : ℕ

-- these five, each by its name
abbrev pub streams :
    (left : Option (List ℕ)) (ends reads_failed : ℕ) (taken : Option (List ℕ)) (writes_failed : ℕ) → Streams
streams left ends reads_failed taken writes_failed = record {
  left = left;
  ends = ends;
  reads_failed = reads_failed;
  taken = taken;
  writes_failed = writes_failed;
}

-- the end of input was not given, and nothing failed
pub record SameCounts (before now : Streams) : Type 0 where
  pub ends : now.ends ≡ before.ends
  pub reads : now.reads_failed ≡ before.reads_failed
  pub writes : now.writes_failed ≡ before.writes_failed
