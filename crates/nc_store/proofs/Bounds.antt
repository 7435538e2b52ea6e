-- How far the file of a store grows.
use Rattle.std.proofs.Common.{◌≡◌, ◌⊎◌, inl, inr, ⊎_elim, ℕ, ◌+◌, ◌<◌, ◌≤◌, max, Bool, true, false, nat_le, if◌then◌else◌, List, [], ◌∷◌, ◌++◌, length, Option, refl, ap, arith, length-append}
use Rattle.std.proofs.lemmas.Bool.{leb-false}
use Rattle.nc_names.specs.Limits.{body_limit}
use Rattle.nc_names.specs.declared.path.Row.{Row}
use Rattle.nc_schema.specs.Record.{record_body}
use Rattle.nc_journal.specs.Format.{area, areas_begin, recorded}
use Rattle.nc_journal.specs.Growing.{HasGrown, free_place, start_after}
use Rattle.nc_journal.specs.Journal.{Stands, records_of}
use Rattle.nc_journal.specs.declared.journal.Journal.{Journal}
use Rattle.nc_journal.specs.declared.kept.Kept.{Kept}
use Rattle.nc_journal.specs.declared.kept.Kept.TheVariants.{Kept as IsKept, Failed as HasFailed}
use Rattle.nc_journal.proofs.Numbers.{area-push, length-framed, length-recorded}
use Rattle.nc_store.specs.Keeping.{AreWithin, IsBounded, IsRecord, Storing, area_limit, live_size, whole_area}
use Rattle.nc_store.specs.Reopening.{Setup}
use Rattle.nc_store.specs.declared.ready.Way.{Way}
use Rattle.nc_store.specs.declared.ready.Way.TheVariants.{Append, Replace}
use Rattle.nc_store.specs.inner.Growing.{GrowsBy}
use Rattle.nc_store.proofs.Files.{placed}

-- a store as contracts see it
abbrev pub storing : {D : Type 0} → Journal D → Setup → List Row → Option (List Row) → Storing D
storing journal setup base doubt = record {
  disk = journal.disk;
  setup = setup;
  base = base;
  doubt = doubt;
  start = journal.start;
  live = live_size journal;
  records = records_of journal;
}

-- a new area goes to the front, or there is no room before the live one
place_cases : (start gate room : ℕ) → (free_place start gate room ≡ areas_begin)
    ⊎ ((free_place start gate room ≡ gate + 1) × (start < areas_begin + room))
place_cases start gate room = go (nat_le (areas_begin + room) start) refl
  where
    go : (front : Bool) → nat_le (areas_begin + room) start ≡ front → (free_place start gate room ≡ areas_begin)
        ⊎ ((free_place start gate room ≡ gate + 1) × (start < areas_begin + room))
    go true is = inl (ap (λ (b : Bool). if b then areas_begin else gate + 1) is)
    go false is = inr (ap (λ (b : Bool). if b then areas_begin else gate + 1) is, leb-false (areas_begin + room) start is)

-- an area with one record
alone_size : (header body bytes : List ℕ) → bytes ≡ area header (body ∷ []) ++ 0 ∷ []
    → length bytes ≡ whole_area (length header) (length body)
alone_size header body bytes is =
    omega (
      arith,
      ap length is,
      length-append (area header (body ∷ [])) (0 ∷ []),
      ap length (area-push header [] body),
      length-append header [],
      length-append (area header []) (recorded body),
      length-recorded body,
    )

-- Where the live area begins after a new one was written, by where that ends: all numbers.
module _ (start live header body : ℕ) (small : body ≤ body_limit) where
  abbrev most : ℕ
  most = max live (area_limit header body_limit)

  abbrev last : ℕ
  last = max start (areas_begin + whole_area header body_limit + most)

  pub place_within : (gate room : ℕ) → gate + 1 ≡ start + live → room ≡ whole_area header body
      → (free_place start gate room ≤ last) × (free_place start gate room + room ≤ last + most)
  place_within gate room gate_is room_is = ⊎_elim
      (λ (front : free_place start gate room ≡ areas_begin). (omega (arith, front), omega (arith, front, room_is, small)))
      (λ (back : (free_place start gate room ≡ gate + 1) × (start < areas_begin + room)). (
        omega (arith, back.0, back.1, gate_is, room_is, small),
        omega (arith, back.0, back.1, gate_is, room_is, small),
      ))
      (place_cases start gate room)

  pub after_within : (result : Kept) (place : ℕ) → place ≤ last → start_after result start place ≤ last
  after_within IsKept place le = le
  after_within (HasFailed doubt) place le = omega arith

module _ {D : Type 0} (seen : D → Option (List ℕ)) (may_leave : D → List ℕ → Type 0) (moment : D → ℕ) (left_since : D → ℕ → List ℕ → Type 0)
    (only_now : (disk : D) (c : List ℕ) → left_since disk (moment disk) c → may_leave disk c)
    (counts_now : (disk : D) (t : ℕ) (c : List ℕ) → t ≤ moment disk → may_leave disk c → left_since disk t c) where
  -- the images of this moment, in other words
  within_since : (limit end : ℕ) (old new : Journal D) → end ≤ limit → (start : ℕ) → HasGrown may_leave old new start end
      → AreWithin moment left_since limit old.disk → AreWithin moment left_since limit new.disk
  within_since limit end old new le start grown before = λ c left.
      grown.within limit le (λ d was. before d (counts_now old.disk (moment old.disk) d (omega arith) was)) c (only_now new.disk c left)

  gate_end : (header : List ℕ) (journal : Journal D) (bodies : List (List ℕ)) (doubt : Option (List (List ℕ)))
      → Stands seen may_leave header journal bodies doubt → journal.gate + 1 ≡ journal.start + live_size journal
  gate_end header journal bodies doubt stands =
      let gate = (placed seen may_leave moment left_since header journal bodies doubt stands).gate in omega (arith, gate)

  pub grown_within : (setup : Setup) (old new : Journal D) (bodies : List (List ℕ)) (others : Option (List (List ℕ))) (base later_base : List Row)
      (doubt later_doubt : Option (List Row)) (rows : List Row) (way : Way) (result : Kept) → Stands seen may_leave setup.header old bodies others
      → IsRecord setup (live_size old) rows way → length (record_body rows) ≤ body_limit
      → live_size new ≤ max (live_size old) (area_limit (length setup.header) body_limit) → GrowsBy may_leave way result old new
      → IsBounded moment left_since (storing old setup base doubt) (storing new setup later_base later_doubt)
  grown_within setup old new bodies others base later_base doubt later_doubt rows (Append framed) result stands made small live grown = record {
    live_is = live;
    start_is = omega (arith, grown.start_is);
    file_is = λ limit le before.
        within_since limit (old.gate + 1 + length framed) old new
        (omega (arith, le, gate_end setup.header old bodies others stands, ap length made.way_is.0, length-framed (record_body rows), made.way_is.1, small))
        old.start grown before;
  }
  grown_within setup old new bodies others base later_base doubt later_doubt rows (Replace bytes) result stands made small live grown =
      let body = record_body rows in
      let room = alone_size setup.header body bytes made.way_is.0 in
      let ends = gate_end setup.header old bodies others stands in
      let place = place_within old.start (live_size old) (length setup.header) (length body) small old.gate (length bytes) ends room in
      let after = after_within old.start (live_size old) (length setup.header) (length body) small result (free_place old.start old.gate (length bytes)) place.0 in
      record {
        live_is = live;
        start_is = omega (arith, grown.start_is, after);
        file_is = λ limit le before.
            within_since limit (free_place old.start old.gate (length bytes) + length bytes) old new (omega (arith, le, place.1))
            (start_after result old.start (free_place old.start old.gate (length bytes))) grown before;
      }
