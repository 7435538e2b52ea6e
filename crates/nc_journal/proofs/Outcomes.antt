-- A file is one thing to a store with a header.
use Rattle.std.proofs.Common.{◌≡◌, ◌≢◌, ◌⊎◌, inl, inr, ⊎_elim, ℕ, zero, suc, ◌+◌, ◌-◌, ◌<◌, ◌≤◌, ◌^◌, nat_eq, List, [], ◌∷◌, ◌++◌, length, take, drop, get_or, slice_get, All, Option, Some, None, refl, sym, ◌∙◌, ap, subst, arith, length-append, append_assoc}
use Rattle.std.proofs.lemmas.Bool.{cases_lt}
use Rattle.std.proofs.lemmas.Option.{slice_get-get_or, slice_get_within}
use Rattle.std.proofs.lemmas.List.{drop_more, take_all, length-take-le, get_or-take, take-take}
use Rattle.std.specs.List.{flat_map}
use Rattle.nc_journal.specs.Format.{mark, number, recorded, area, gate_place, slot_place, areas_begin}
use Rattle.nc_names.specs.Limits.{body_limit}
use Rattle.nc_journal.specs.Files.{At, IsNew}
use Rattle.nc_journal.specs.Header.{counted, header_of, IsHeader, HasHeader, DiffersAt}
use Rattle.nc_journal.specs.Opening.{IsFront, IsArea, IsSoFar, IsRead}
use Rattle.nc_journal.specs.Refusing.{IsFirstUnlike, HasNoRecord, IsDamaged, HasOtherHeader, bad_mark, short_front, bad_slot, short_header, bad_record}
use Rattle.nc_journal.specs.Laws.{Outcome, Reads, new_file, whole_file, damaged_file, other_file}
use Rattle.nc_journal.proofs.Numbers.{length-mark, length-recorded}
use Rattle.nc_journal.proofs.Segments.{at_front, at_back, at_join, at_within}
use Rattle.nc_journal.proofs.Repairs.{at_get}
use Rattle.nc_journal.proofs.Looking.{record_parts, at_same, part_at}
use Rattle.nc_journal.proofs.Fronts.{set_not_new}
use Rattle.nc_journal.proofs.Once.{numbers_at, areas_once, fronts_once}
use Rattle.nc_journal.proofs.Headers.{header_count, header_modules, header_features, features_once, modules_once, short_numbers_at, at_self}

-- a byte at the front of a file that is as some bytes are
front_byte : (at : ℕ) (bytes file : List ℕ) → at < length bytes → At 0 bytes file → slice_get file at ≡ slice_get bytes at
front_byte at bytes file within stands =
    let one : take 1 (drop at bytes) ≡ get_or bytes at 0 ∷ [] = ap (take 1) (drop_more bytes at 0 within) in
    let here : At (0 + at) (take 1 (drop at bytes)) file = part_at 0 at 1 bytes file (omega arith) stands in
    let on : At at (get_or bytes at 0 ∷ []) file =
    subst (λ k. At k (get_or bytes at 0 ∷ []) file) (omega arith) (subst (λ (l : List ℕ). At (0 + at) l file) one here) in
    at_get at (get_or bytes at 0) file on ∙ sym (slice_get-get_or bytes at 0 within)

pub unlike_not : (bytes file : List ℕ) (at : ℕ) → IsFirstUnlike bytes at file → ¬ At 0 bytes file
unlike_not bytes file at is stands = is.unlike (front_byte at bytes file is.within stands)

not_before : (bytes file : List ℕ) (at other : ℕ) → IsFirstUnlike bytes at file → IsFirstUnlike bytes other file
    → ¬ (at < other)
not_before bytes file at other one two below =
    let long : length (take other bytes) ≡ other = length-take-le other bytes (omega (arith, two.within)) in
    let same = front_byte at (take other bytes) file (omega (arith, long)) two.front in
    one.unlike (same ∙ slice_get-get_or (take other bytes) at 0 (omega (arith, long))
    ∙ ap (λ (b : ℕ). Some b) (get_or-take other bytes at 0 below) ∙ sym (slice_get-get_or bytes at 0 one.within))

pub unlike_once : (bytes file : List ℕ) (at other : ℕ) → IsFirstUnlike bytes at file → IsFirstUnlike bytes other file
    → at ≡ other
unlike_once bytes file at other one two = elim (cases_lt at other) [
  | inl below ↦ absurd (not_before bytes file at other one two below)
  | inr above ↦ elim (cases_lt other at) [
    | inl below ↦ absurd (not_before bytes file other at two one below)
    | inr other_above ↦ omega (arith, above, other_above)
  ]
]

-- a file that begins with the mark is not new
pub opened_not_new : (header file : List ℕ) → At 0 (1 ∷ mark) file → ¬ IsNew header file
opened_not_new header file opened is_new =
    set_not_new header file 1 (at_get 0 1 file (at_front 0 (1 ∷ []) mark file opened))
    (omega (arith, length-mark, at_within 0 (1 ∷ mark) file opened (omega arith))) (omega arith) (inl refl) is_new

byte_once : (file : List ℕ) (place one two : ℕ) → slice_get file place ≡ Some one → slice_get file place ≡ Some two → one ≡ two
byte_once file place one two first second = let e : Some one ≡ Some two = sym first ∙ second in cc

-- no record of these bodies stands where the records end
no_first : (place : ℕ) (body rest file : List ℕ) → HasNoRecord place file → length body ≤ body_limit
    → At place (recorded body ++ rest) file → ⊥
no_first place body rest file (inl past) small stands =
    omega (arith, past, (record_parts place body file (at_front place (recorded body) rest file stands)).within)
no_first place body rest file (inr none) small stands = none.1 body small (at_front place (recorded body) rest file stands)

record_once : (place : ℕ) (b c rest more file : List ℕ) → length b ≤ body_limit → length c ≤ body_limit
    → At place (recorded b ++ rest) file → At place (recorded c ++ more) file → b ≡ c
record_once place b c rest more file b_small c_small first second =
    let b_parts = record_parts place b file (at_front place (recorded b) rest file first) in
    let c_parts = record_parts place c file (at_front place (recorded c) more file second) in
    let long : length b ≡ length c =
    numbers_at (place + 1) (length b) (length c) file (omega arith) (omega arith) b_parts.long c_parts.long in
    at_same (place + 9) b c file long b_parts.stands c_parts.stands

-- the records end at one place
records_end : (one two : List (List ℕ)) (place at other : ℕ) (file : List ℕ)
    → At place (flat_map recorded one) file → At place (flat_map recorded two) file
    → All (λ (b : List ℕ). length b ≤ body_limit) one → All (λ (b : List ℕ). length b ≤ body_limit) two
    → at ≡ place + length (flat_map recorded one) → other ≡ place + length (flat_map recorded two)
    → HasNoRecord at file → HasNoRecord other file → at ≡ other
records_end [] [] place at other file first second first_small second_small at_is other_is none none_too =
    omega (arith, at_is, other_is)
records_end [] (c ∷ cs) place at other file first second first_small second_small at_is other_is none none_too =
    absurd (no_first place c (flat_map recorded cs) file (subst (λ k. HasNoRecord k file) (omega (arith, at_is)) none)
    (second_small zero c (omega arith)) second)
records_end (b ∷ bs) [] place at other file first second first_small second_small at_is other_is none none_too =
    absurd (no_first place b (flat_map recorded bs) file (subst (λ k. HasNoRecord k file) (omega (arith, other_is)) none_too)
    (first_small zero b (omega arith)) first)
records_end (b ∷ bs) (c ∷ cs) place at other file first second first_small second_small at_is other_is none none_too =
    let same : b ≡ c = record_once place b c (flat_map recorded bs) (flat_map recorded cs) file
    (first_small zero b (omega arith)) (second_small zero c (omega arith)) first second in
    let there : place + length (recorded c) ≡ place + length (recorded b) =
    omega (arith, length-recorded b, length-recorded c, ap length same) in
    records_end bs cs (place + length (recorded b)) at other file
    (at_back place (recorded b) (flat_map recorded bs) file first)
    (subst (λ k. At k (flat_map recorded cs) file) there (at_back place (recorded c) (flat_map recorded cs) file second))
    (λ k d within. first_small (suc k) d (omega arith)) (λ k d within. second_small (suc k) d (omega arith))
    (omega (arith, at_is, length-append (recorded b) (flat_map recorded bs)))
    (omega (arith, other_is, there, length-append (recorded c) (flat_map recorded cs))) none none_too

-- where a gate that is not open stands after all records, no place is without a record
records_whole : (one two : List (List ℕ)) (place at gate : ℕ) (file : List ℕ)
    → At place (flat_map recorded one) file → At place (flat_map recorded two ++ gate ∷ []) file → gate ≢ 1
    → All (λ (b : List ℕ). length b ≤ body_limit) one → All (λ (b : List ℕ). length b ≤ body_limit) two
    → at ≡ place + length (flat_map recorded one) → HasNoRecord at file → ⊥
records_whole [] [] place at gate file first second shut first_small second_small at_is (inl past) =
    omega (arith, at_is, past, at_within place (gate ∷ []) file second (omega arith))
records_whole [] [] place at gate file first second shut first_small second_small at_is (inr none) =
    shut (byte_once file place gate 1 (at_get place gate file second)
    (ap (slice_get file) (omega (arith, at_is)) ∙ none.0))
records_whole [] (c ∷ cs) place at gate file first second shut first_small second_small at_is none =
    no_first place c (flat_map recorded cs ++ gate ∷ []) file (subst (λ k. HasNoRecord k file) (omega (arith, at_is)) none)
    (second_small zero c (omega arith))
    (subst (λ (l : List ℕ). At place l file) (append_assoc (recorded c) (flat_map recorded cs) (gate ∷ [])) second)
records_whole (b ∷ bs) [] place at gate file first second shut first_small second_small at_is none =
    shut (byte_once file place gate 1 (at_get place gate file second)
    (record_parts place b file (at_front place (recorded b) (flat_map recorded bs) file first)).gate)
records_whole (b ∷ bs) (c ∷ cs) place at gate file first second shut first_small second_small at_is none =
    let second_on : At place (recorded c ++ (flat_map recorded cs ++ gate ∷ [])) file =
    subst (λ (l : List ℕ). At place l file) (append_assoc (recorded c) (flat_map recorded cs) (gate ∷ [])) second in
    let same : b ≡ c = record_once place b c (flat_map recorded bs) (flat_map recorded cs ++ gate ∷ []) file
    (first_small zero b (omega arith)) (second_small zero c (omega arith)) first second_on in
    let there : place + length (recorded c) ≡ place + length (recorded b) =
    omega (arith, length-recorded b, length-recorded c, ap length same) in
    records_whole bs cs (place + length (recorded b)) at gate file
    (at_back place (recorded b) (flat_map recorded bs) file first)
    (subst (λ k. At k (flat_map recorded cs ++ gate ∷ []) file) there
    (at_back place (recorded c) (flat_map recorded cs ++ gate ∷ []) file second_on)) shut
    (λ k d within. first_small (suc k) d (omega arith)) (λ k d within. second_small (suc k) d (omega arith))
    (omega (arith, at_is, length-append (recorded b) (flat_map recorded bs))) none

-- the parts of an area that was read so far
so_far_header : (header : List ℕ) (place : ℕ) (done : List (List ℕ)) (file : List ℕ) (at : ℕ)
    → IsSoFar header place done file at → At place header file
so_far_header header place done file at is = at_front place header (flat_map recorded done) file is.area

so_far_records : (header : List ℕ) (place : ℕ) (done : List (List ℕ)) (file : List ℕ) (at : ℕ)
    → IsSoFar header place done file at
    → At (place + length header) (flat_map recorded done) file
    × (at ≡ place + length header + length (flat_map recorded done))
so_far_records header place done file at is = (
  at_back place header (flat_map recorded done) file is.area,
  omega (arith, is.there, length-append header (flat_map recorded done)),
)

pub stuck_once : (header : List ℕ) (place : ℕ) (one two : List (List ℕ)) (at other : ℕ) (file : List ℕ)
    → IsSoFar header place one file at → IsSoFar header place two file other
    → HasNoRecord at file → HasNoRecord other file → at ≡ other
stuck_once header place one two at other file first second none none_too =
    let a = so_far_records header place one file at first in
    let b = so_far_records header place two file other second in
    records_end one two (place + length header) at other file a.0 b.0 first.small second.small a.1 b.1 none none_too

pub stuck_not_read : (header : List ℕ) (place : ℕ) (done bodies : List (List ℕ)) (at gate : ℕ) (file : List ℕ)
    → IsSoFar header place done file at → IsArea header place bodies gate file → HasNoRecord at file → ⊥
stuck_not_read header place done bodies at gate file so_far live none =
    let a = so_far_records header place done file at so_far in
    let on = at_back place header (flat_map recorded bodies ++ gate ∷ []) file
    (subst (λ (l : List ℕ). At place l file) (append_assoc header (flat_map recorded bodies) (gate ∷ []))
    (at_join place (area header bodies) (gate ∷ []) file live.area live.end)) in
    records_whole done bodies (place + length header) at gate file a.0 on live.not_open so_far.small live.small a.1 none

-- two headers that stand at one place are one
pub headers_once : (place : ℕ) (file one two : List ℕ) (modules others : List (List ℕ)) (features other_features : List ℕ)
    → IsHeader modules features one → IsHeader others other_features two → At place one file → At place two file
    → (one ≡ two) × (modules ≡ others)
headers_once place file one two modules others features other_features is is_too first second =
    let first_on : At place (header_of modules features) file = subst (λ (l : List ℕ). At place l file) is.is first in
    let second_on : At place (header_of others other_features) file = subst (λ (l : List ℕ). At place l file) is_too.is second in
    let count : length modules ≡ length others =
    short_numbers_at place (length modules) (length others) file is.few is_too.few
    (header_count place modules features file first_on) (header_count place others other_features file second_on) in
    let same : modules ≡ others =
    modules_once modules others (place + 4) file count is.small is_too.small
    (header_modules place modules features file first_on) (header_modules place others other_features file second_on) in
    let end : place + 4 + length (flat_map counted others) ≡ place + 4 + length (flat_map counted modules) =
    ap (λ (l : List (List ℕ)). place + 4 + length (flat_map counted l)) (sym same) in
    let here = place + 4 + length (flat_map counted modules) in
    let features_on = header_features place modules features file first_on in
    let others_on : At here (number (length other_features) ++ other_features) file =
    subst (λ k. At k (number (length other_features) ++ other_features) file) end
    (header_features place others other_features file second_on) in
    let features_same = features_once here features other_features file is.fits is_too.fits features_on others_on in (
      is.is ∙ ap (λ (l : List (List ℕ)). header_of l features) same
          ∙ ap (λ (l : List ℕ). header_of others l) features_same ∙ sym is_too.is,
      same,
    )

-- a header that stands where ours does is no other
not_other : (header : List ℕ) (file : List ℕ) (at : ℕ) (modules : List (List ℕ)) (features : List ℕ)
    → IsHeader modules features header → (has : HasOtherHeader header at file) → ¬ At has.place header file
not_other header file at modules features is has stands =
    has.not_ours (headers_once has.place file has.other header has.theirs modules has.their_features features
    has.is_theirs is has.stands stands).0

differs_once : (ours theirs : List (List ℕ)) (at other : ℕ) → DiffersAt ours theirs at → DiffersAt ours theirs other
    → ¬ (at < other)
differs_once ours theirs at other one two below =
    one.next (omega (arith, two.within_ours)) (omega (arith, two.within_theirs))
    (sym (get_or-take other ours at [] below) ∙ ap (λ (l : List (List ℕ)). get_or l at []) two.same
    ∙ get_or-take other theirs at [] below)

others_once : (header : List ℕ) (file : List ℕ) (at other : ℕ) → HasOtherHeader header at file
    → HasOtherHeader header other file → at ≡ other
others_once header file at other one two =
    let place : one.place ≡ two.place =
    fronts_once file one.byte two.byte (nat_eq one.byte 1) (nat_eq two.byte 1) one.place two.place one.front two.front in
    let theirs = (headers_once one.place file one.other two.other one.theirs two.theirs one.their_features two.their_features
    one.is_theirs two.is_theirs one.stands (subst (λ k. At k two.other file) (sym place) two.stands)).1 in
    let ours = (headers_once 0 header header header one.ours two.ours one.our_features two.our_features
    one.is_ours two.is_ours (at_self header) (at_self header)).1 in
    let moved : DiffersAt one.ours one.theirs other =
    subst (λ (l : List (List ℕ)). DiffersAt l one.theirs other) (sym ours)
    (subst (λ (l : List (List ℕ)). DiffersAt two.ours l other) (sym theirs) two.differs) in
    elim (cases_lt at other) [
      | inl below ↦ absurd (differs_once one.ours one.theirs at other one.differs moved below)
      | inr above ↦ elim (cases_lt other at) [
        | inl below ↦ absurd (differs_once one.ours one.theirs other at moved one.differs below)
        | inr other_above ↦ omega (arith, above, other_above)
      ]
    ]

-- what has a front of this place, or none
place_of : (file : List ℕ) (byte other place there : ℕ) → IsFront file byte (nat_eq byte 1) place
    → IsFront file other (nat_eq other 1) there → place ≡ there
place_of file byte other place there one two =
    fronts_once file byte other (nat_eq byte 1) (nat_eq other 1) place there one two

-- a slot that names no place of an area is no front
no_front : (file : List ℕ) (byte place other there at : ℕ) → slice_get file 9 ≡ Some byte → at ≡ slot_place (nat_eq byte 1)
    → At at (number place) file → place < 2 ^ 64 → (place < areas_begin) ⊎ (length file < place)
    → IsFront file other (nat_eq other 1) there → ⊥
no_front file byte place other there at read is named fits bad front =
    let same : other ≡ byte = byte_once file 9 other byte front.byte_is read in
    let slot : At (slot_place (nat_eq byte 1)) (number there) file =
    subst (λ b. At (slot_place (nat_eq b 1)) (number there) file) same front.slot in
    let here : place ≡ there =
    numbers_at (slot_place (nat_eq byte 1)) place there file fits front.fits (subst (λ k. At k (number place) file) is named) slot in
    ⊎_elim (λ (low : place < areas_begin). omega (arith, low, here, front.low))
    (λ (high : length file < place). omega (arith, high, here, front.high)) bad

-- Of a file with our header.
module _ (modules : List (List ℕ)) (features header file : List ℕ) (is : IsHeader modules features header) where
  damaged_not_new : (at : ℕ) → IsDamaged header at file → ¬ IsNew header file
  damaged_not_new at (bad_mark old unlike) is_new = old is_new
  damaged_not_new at (short_front opened few at_is) is_new = opened_not_new header file opened is_new
  damaged_not_new at (bad_slot byte place opened long read at_is named fits bad) is_new =
      opened_not_new header file opened is_new
  damaged_not_new at (short_header byte place front none at_is) is_new = opened_not_new header file front.opened is_new
  damaged_not_new at (bad_record byte place done front so_far none) is_new =
      opened_not_new header file front.opened is_new

  -- with a front, one of two kinds of damage
  fronts_damaged : (at byte place : ℕ) → IsDamaged header at file → IsFront file byte (nat_eq byte 1) place
      → ((¬ HasHeader place file) × (at ≡ length file))
      ⊎ ((done : List (List ℕ)) × IsSoFar header place done file at × HasNoRecord at file)
  fronts_damaged at byte place (bad_mark old unlike) front = absurd (unlike_not (1 ∷ mark) file at unlike front.opened)
  fronts_damaged at byte place (short_front opened few at_is) front = absurd (omega (arith, few, front.low, front.high))
  fronts_damaged at byte place (bad_slot other there opened long read at_is named fits bad) front =
      absurd (no_front file other there byte place at read at_is named fits bad front)
  fronts_damaged at byte place (short_header other there other_front none at_is) front =
      inl (subst (λ k. ¬ HasHeader k file) (sym (place_of file byte other place there front other_front)) none, at_is)
  fronts_damaged at byte place (bad_record other there done other_front so_far none) front =
      inr (done, subst (λ k. IsSoFar header k done file at) (sym (place_of file byte other place there front other_front)) so_far, none)

  damaged_not_read : (at : ℕ) (bodies : List (List ℕ)) → IsDamaged header at file → ¬ IsRead header bodies file
  damaged_not_read at bodies damage reading =
      elim (fronts_damaged at reading.byte reading.place damage reading.front) [
        | inl both ↦ both.0 (record {
          modules = modules;
          features = features;
          header = header;
          is = is;
          stands = at_front reading.place header (flat_map recorded bodies) file reading.live.area;
        })
        | inr stuck ↦
            stuck_not_read header reading.place stuck.0 bodies at reading.gate file stuck.1 reading.live stuck.2
      ]

  damaged_not_other : (at other : ℕ) → IsDamaged header at file → ¬ HasOtherHeader header other file
  damaged_not_other at other damage has =
      elim (fronts_damaged at has.byte has.place damage has.front) [
        | inl both ↦ both.0 (record {
          modules = has.theirs;
          features = has.their_features;
          header = has.other;
          is = has.is_theirs;
          stands = has.stands;
        })
        | inr stuck ↦
            not_other header file other modules features is has (so_far_header header has.place stuck.0 file at stuck.1)
      ]

  read_not_other : (bodies : List (List ℕ)) (other : ℕ) → IsRead header bodies file → ¬ HasOtherHeader header other file
  read_not_other bodies other reading has =
      let same = place_of file has.byte reading.byte has.place reading.place has.front reading.front in
      not_other header file other modules features is has
      (subst (λ k. At k header file) (sym same)
      (at_front reading.place header (flat_map recorded bodies) file reading.live.area))

  reads_once : (one two : List (List ℕ)) → IsRead header one file → IsRead header two file → one ≡ two
  reads_once one two first second =
      let same = place_of file first.byte second.byte first.place second.place first.front second.front in
      areas_once header first.place one two first.gate second.gate file first.live
      (subst (λ k. IsArea header k two second.gate file) (sym same) second.live)

  our_header : (place : ℕ) (done : List (List ℕ)) (at : ℕ) → IsSoFar header place done file at → HasHeader place file
  our_header place done at so_far = record {
    modules = modules;
    features = features;
    header = header;
    is = is;
    stands = so_far_header header place done file at so_far;
  }

  damaged_once : (at other : ℕ) → IsDamaged header at file → IsDamaged header other file → at ≡ other
  damaged_once at other (bad_mark old unlike) (bad_mark old_too unlike_too) =
      unlike_once (1 ∷ mark) file at other unlike unlike_too
  damaged_once at other (bad_mark old unlike) (short_front opened few at_is) =
      absurd (unlike_not (1 ∷ mark) file at unlike opened)
  damaged_once at other (bad_mark old unlike) (bad_slot byte place opened long read at_is named fits bad) =
      absurd (unlike_not (1 ∷ mark) file at unlike opened)
  damaged_once at other (bad_mark old unlike) (short_header byte place front none at_is) =
      absurd (unlike_not (1 ∷ mark) file at unlike front.opened)
  damaged_once at other (bad_mark old unlike) (bad_record byte place done front so_far none) =
      absurd (unlike_not (1 ∷ mark) file at unlike front.opened)
  damaged_once at other (short_front opened few at_is) (bad_mark old unlike) =
      absurd (unlike_not (1 ∷ mark) file other unlike opened)
  damaged_once at other (short_front opened few at_is) (short_front opened_too few_too other_is) = at_is ∙ sym other_is
  damaged_once at other (short_front opened few at_is) (bad_slot byte place opened_too long read other_is named fits bad) =
      absurd (omega (arith, few, long))
  damaged_once at other (short_front opened few at_is) (short_header byte place front none other_is) =
      absurd (omega (arith, few, front.low, front.high))
  damaged_once at other (short_front opened few at_is) (bad_record byte place done front so_far none) =
      absurd (omega (arith, few, front.low, front.high))
  damaged_once at other (bad_slot byte place opened long read at_is named fits bad) (bad_mark old unlike) =
      absurd (unlike_not (1 ∷ mark) file other unlike opened)
  damaged_once at other (bad_slot byte place opened long read at_is named fits bad) (short_front opened_too few other_is) =
      absurd (omega (arith, few, long))
  damaged_once at other (bad_slot byte place opened long read at_is named fits bad)
      (bad_slot byte_too place_too opened_too long_too read_too other_is named_too fits_too bad_too) =
      at_is ∙ ap (λ b. slot_place (nat_eq b 1)) (byte_once file 9 byte byte_too read read_too) ∙ sym other_is
  damaged_once at other (bad_slot byte place opened long read at_is named fits bad) (short_header second there front none other_is) =
      absurd (no_front file byte place second there at read at_is named fits bad front)
  damaged_once at other (bad_slot byte place opened long read at_is named fits bad) (bad_record second there done front so_far none) =
      absurd (no_front file byte place second there at read at_is named fits bad front)
  damaged_once at other (short_header byte place front none at_is) damage = elim (fronts_damaged other byte place damage front) [
    | inl both ↦ at_is ∙ sym both.1
    | inr stuck ↦ absurd (none (our_header place stuck.0 other stuck.1))
  ]
  damaged_once at other (bad_record byte place done front so_far none) damage = elim (fronts_damaged other byte place damage front) [
    | inl both ↦ absurd (both.0 (our_header place done at so_far))
    | inr stuck ↦ stuck_once header place done stuck.0 at other file so_far stuck.1 none stuck.2
  ]

  pub outcomes_once : (one two : Outcome) → Reads header file one → Reads header file two → one ≡ two
  outcomes_once new_file new_file a b = refl
  outcomes_once new_file (whole_file bodies) a b = absurd (opened_not_new header file b.front.opened a)
  outcomes_once new_file (damaged_file at) a b = absurd (damaged_not_new at b a)
  outcomes_once new_file (other_file at) a b = absurd (opened_not_new header file b.front.opened a)
  outcomes_once (whole_file bodies) new_file a b = absurd (opened_not_new header file a.front.opened b)
  outcomes_once (whole_file bodies) (whole_file others) a b = ap (λ (l : List (List ℕ)). whole_file l) (reads_once bodies others a b)
  outcomes_once (whole_file bodies) (damaged_file at) a b = absurd (damaged_not_read at bodies b a)
  outcomes_once (whole_file bodies) (other_file at) a b = absurd (read_not_other bodies at a b)
  outcomes_once (damaged_file at) new_file a b = absurd (damaged_not_new at a b)
  outcomes_once (damaged_file at) (whole_file bodies) a b = absurd (damaged_not_read at bodies a b)
  outcomes_once (damaged_file at) (damaged_file other) a b = ap (λ (k : ℕ). damaged_file k) (damaged_once at other a b)
  outcomes_once (damaged_file at) (other_file other) a b = absurd (damaged_not_other at other a b)
  outcomes_once (other_file at) new_file a b = absurd (opened_not_new header file a.front.opened b)
  outcomes_once (other_file at) (whole_file bodies) a b = absurd (read_not_other bodies at b a)
  outcomes_once (other_file at) (damaged_file other) a b = absurd (damaged_not_other other at b a)
  outcomes_once (other_file at) (other_file other) a b =
      ap (λ (k : ℕ). other_file k) (others_once header file at other a b)
