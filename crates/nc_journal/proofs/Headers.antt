-- Headers that stand at a place of a file.
use Rattle.std.proofs.Common.{◌≡◌, ℕ, zero, suc, ◌+◌, ◌-◌, ◌<◌, ◌≤◌, ◌^◌, List, [], ◌∷◌, ◌++◌, length, take, drop, get_or, All, refl, sym, ◌∙◌, ap, subst, arith, length-append, length-drop, append_assoc, take-append-drop}
use Rattle.std.proofs.lemmas.List.{append-nil, length-take-le, drop_more, take_more, take_all, get_or-take}
use Rattle.std.proofs.lemmas.List.Elements.{All-push as All_push}
use Rattle.std.specs.List.{flat_map}
use Rattle.std.specs.Int.{from_be_bytes, to_be_bytes, w32}
use Rattle.std.proofs.lemmas.Nat.{from_be_bytes-to_be_bytes_4, be_bytes_4}
use Rattle.nc_journal.specs.Format.{number}
use Rattle.nc_journal.specs.Files.{At}
use Rattle.nc_journal.specs.Header.{short_number, counted, header_of, IsHeader, HasHeader, DiffersAt}
use Rattle.nc_journal.specs.inner.Headers.{HasCounted, HasModules, HasFeatures, HasHeaderOf}
use Rattle.nc_journal.proofs.Numbers.{length-number}
use Rattle.nc_journal.proofs.Segments.{at_front, at_back, at_join, at_within}
use Rattle.nc_journal.proofs.Looking.{at_same}
use Rattle.nc_journal.proofs.Once.{numbers_at}

pub length-short_number : (n : ℕ) → length (short_number n) ≡ 4
unfolding short_number
length-short_number n = refl

short_number_once : (n m : ℕ) → n < 2 ^ 32 → m < 2 ^ 32 → short_number n ≡ short_number m → n ≡ m
unfolding short_number
short_number_once n m n_fits m_fits same =
    sym (from_be_bytes-to_be_bytes_4 n n_fits) ∙ ap (from_be_bytes w32) same ∙ from_be_bytes-to_be_bytes_4 m m_fits

pub short_number_made : (n : ℕ) (bytes : List ℕ) → length bytes ≡ 4 → ((i : ℕ) → get_or bytes i 0 < 256)
    → n ≡ from_be_bytes w32 bytes → short_number n ≡ bytes
unfolding short_number
short_number_made n bytes long fits is = be_bytes_4 bytes n long fits is

pub short_numbers_at : (place n m : ℕ) (file : List ℕ) → n < 2 ^ 32 → m < 2 ^ 32
    → At place (short_number n) file → At place (short_number m) file → n ≡ m
short_numbers_at place n m file n_fits m_fits one two =
    short_number_once n m n_fits m_fits
    (at_same place (short_number n) (short_number m) file (length-short_number n ∙ sym (length-short_number m)) one two)

pub length-counted : (text : List ℕ) → length (counted text) ≡ 4 + length text
length-counted text = omega (arith, length-append (short_number (length text)) text, length-short_number (length text))

-- where a text with its length stands it is the only one
pub counted_once : (place : ℕ) (one two file : List ℕ) → length one < 2 ^ 32 → length two < 2 ^ 32
    → At place (counted one) file → At place (counted two) file → one ≡ two
counted_once place one two file one_small two_small first second =
    let long : length one ≡ length two =
    short_numbers_at place (length one) (length two) file one_small two_small
    (at_front place (short_number (length one)) one file first)
    (at_front place (short_number (length two)) two file second) in
    at_same (place + length (short_number (length one))) one two file long
    (at_back place (short_number (length one)) one file first)
    (subst (λ k. At (place + k) two file) (length-short_number (length two) ∙ sym (length-short_number (length one)))
    (at_back place (short_number (length two)) two file second))

-- so are so many of them
pub modules_once : (one two : List (List ℕ)) (place : ℕ) (file : List ℕ) → length one ≡ length two
    → All (λ (t : List ℕ). length t < 2 ^ 32) one → All (λ (t : List ℕ). length t < 2 ^ 32) two
    → At place (flat_map counted one) file → At place (flat_map counted two) file → one ≡ two
modules_once [] [] place file long one_small two_small first second = refl
modules_once [] (t ∷ ts) place file long one_small two_small first second = absurd (omega (arith, long))
modules_once (s ∷ ss) [] place file long one_small two_small first second = absurd (omega (arith, long))
modules_once (s ∷ ss) (t ∷ ts) place file long one_small two_small first second =
    let same : s ≡ t = counted_once place s t file (one_small zero s (omega arith)) (two_small zero t (omega arith))
    (at_front place (counted s) (flat_map counted ss) file first)
    (at_front place (counted t) (flat_map counted ts) file second) in
    let there : place + length (counted t) ≡ place + length (counted s) =
    omega (arith, length-counted s, length-counted t, ap length same) in
    let rest : ss ≡ ts = modules_once ss ts (place + length (counted s)) file (omega (arith, long))
    (λ k d within. one_small (suc k) d (omega arith)) (λ k d within. two_small (suc k) d (omega arith))
    (at_back place (counted s) (flat_map counted ss) file first)
    (subst (λ k. At k (flat_map counted ts) file) there (at_back place (counted t) (flat_map counted ts) file second)) in
    (λ i. same i ∷ rest i)

counted-split : (done : List (List ℕ)) (text : List ℕ) (rest : List (List ℕ))
    → flat_map counted (done ++ text ∷ rest) ≡ flat_map counted done ++ (counted text ++ flat_map counted rest)
counted-split [] text rest = refl
counted-split (d ∷ done) text rest =
    ap (λ (l : List ℕ). counted d ++ l) (counted-split done text rest)
    ∙ sym (append_assoc (counted d) (flat_map counted done) (counted text ++ flat_map counted rest))

pub counted-push : (done : List (List ℕ)) (text : List ℕ)
    → flat_map counted (done ++ text ∷ []) ≡ flat_map counted done ++ counted text
counted-push done text =
    counted-split done text [] ∙ ap (λ (l : List ℕ). flat_map counted done ++ l) (append-nil (counted text))

split_at : (l : List (List ℕ)) (k : ℕ) → k < length l → l ≡ take k l ++ get_or l k [] ∷ drop (k + 1) l
split_at l k within =
    sym (take-append-drop k l) ∙ ap (λ (r : List (List ℕ)). take k l ++ r) (drop_more l k [] within)

-- the texts before a number, and the text of that number
counted-at : (modules : List (List ℕ)) (k : ℕ) → k < length modules
    → flat_map counted modules ≡ flat_map counted (take k modules)
    ++ (counted (get_or modules k []) ++ flat_map counted (drop (k + 1) modules))
counted-at modules k within =
    ap (flat_map counted) (split_at modules k within)
    ∙ counted-split (take k modules) (get_or modules k []) (drop (k + 1) modules)

pub modules_before : (place : ℕ) (modules : List (List ℕ)) (k : ℕ) (file : List ℕ) → k < length modules
    → At place (flat_map counted modules) file → At place (flat_map counted (take k modules)) file
modules_before place modules k file within stands =
    at_front place (flat_map counted (take k modules))
    (counted (get_or modules k []) ++ flat_map counted (drop (k + 1) modules)) file
    (subst (λ (l : List ℕ). At place l file) (counted-at modules k within) stands)

pub module_at : (place : ℕ) (modules : List (List ℕ)) (k : ℕ) (file : List ℕ) → k < length modules
    → At place (flat_map counted modules) file
    → At (place + length (flat_map counted (take k modules))) (counted (get_or modules k [])) file
module_at place modules k file within stands =
    at_front (place + length (flat_map counted (take k modules))) (counted (get_or modules k []))
    (flat_map counted (drop (k + 1) modules)) file
    (at_back place (flat_map counted (take k modules))
    (counted (get_or modules k []) ++ flat_map counted (drop (k + 1) modules)) file
    (subst (λ (l : List ℕ). At place l file) (counted-at modules k within) stands))

pub before-more : (modules : List (List ℕ)) (k : ℕ) → k < length modules
    → length (flat_map counted (take (k + 1) modules))
    ≡ length (flat_map counted (take k modules)) + (4 + length (get_or modules k []))
before-more modules k within =
    omega (
      arith,
      ap (λ (l : List (List ℕ)). length (flat_map counted l)) (take_more modules k [] within),
      ap length (counted-push (take k modules) (get_or modules k [])),
      length-append (flat_map counted (take k modules)) (counted (get_or modules k [])),
      length-counted (get_or modules k []),
    )

-- a list up to a number, where it is as long at least
pub small_before : (modules : List (List ℕ)) (k : ℕ) → k ≤ length modules
    → All (λ (t : List ℕ). length t < 2 ^ 32) modules → All (λ (t : List ℕ). length t < 2 ^ 32) (take k modules)
small_before modules k le small = λ j d within.
    let below : j < k = omega (arith, length-take-le k modules le) in
    subst (λ (t : List ℕ). length t < 2 ^ 32) (sym (get_or-take k modules j d below)) (small j d (omega arith))

-- the next text, where some were read
pub next_module : (at done end : ℕ) (file : List ℕ) → HasModules at done end file
    → (modules : List (List ℕ)) → done < length modules → All (λ (t : List ℕ). length t < 2 ^ 32) modules
    → At at (flat_map counted modules) file → At end (counted (get_or modules done [])) file
next_module at done end file has modules within small stands =
    let before : take done modules ≡ has.modules =
    modules_once (take done modules) has.modules at file
    (length-take-le done modules (omega arith) ∙ sym has.count_is)
    (small_before modules done (omega arith) small) has.small
    (modules_before at modules done file within stands) has.stands in
    let there : at + length (flat_map counted (take done modules)) ≡ end =
    ap (λ (l : List (List ℕ)). at + length (flat_map counted l)) before ∙ sym has.end_is in
    subst (λ k. At k (counted (get_or modules done [])) file) there (module_at at modules done file within stands)

pub no_modules : (at : ℕ) (file : List ℕ) → HasModules at 0 at file
no_modules at file = record {
  modules = [];
  stands = record { is = refl };
  count_is = refl;
  small = λ k d within. absurd (omega arith);
  end_is = omega arith;
}

pub more_modules : (at done end later : ℕ) (file : List ℕ) → HasModules at done end file → HasCounted end later file
    → HasModules at (done + 1) later file
more_modules at done end later file has next = record {
  modules = has.modules ++ next.text ∷ [];
  stands = subst (λ (l : List ℕ). At at l file) (sym (counted-push has.modules next.text))
      (at_join at (flat_map counted has.modules) (counted next.text) file has.stands
      (subst (λ k. At k (counted next.text) file) has.end_is next.stands));
  count_is = omega (arith, length-append has.modules (next.text ∷ []), has.count_is);
  small = All_push (λ (t : List ℕ). length t < 2 ^ 32) has.modules next.text has.small next.small;
  end_is = omega (
    arith,
    ap length (counted-push has.modules next.text),
    length-append (flat_map counted has.modules) (counted next.text),
    length-counted next.text,
    has.end_is,
    next.end_is,
  );
}

-- a part of a file stands where it is
pub part_stands : (at n : ℕ) (file : List ℕ) → at + n ≤ length file
    → (length (take n (drop at file)) ≡ n) × At at (take n (drop at file)) file
part_stands at n file within =
    let long : length (take n (drop at file)) ≡ n =
    length-take-le n (drop at file) (omega (arith, length-drop at file)) in
    (long, record { is = ap (λ k. take k (drop at file)) long })

pub counted_made : (at n end : ℕ) (file : List ℕ) → At at (short_number n) file → n < 2 ^ 32
    → at + (4 + n) ≤ length file → end ≡ at + (4 + n) → HasCounted at end file
counted_made at n end file number_stands fits within is =
    let part = part_stands (at + 4) n file (omega arith) in
    let text = take n (drop (at + 4) file) in
    let number_on : At at (short_number (length text)) file =
    subst (λ k. At at (short_number k) file) (sym part.0) number_stands in
    let there : at + 4 ≡ at + length (short_number (length text)) = omega (arith, length-short_number (length text)) in
    record {
      text = text;
      stands = at_join at (short_number (length text)) text file number_on
          (subst (λ k. At k text file) there part.1);
      small = omega (arith, part.0, fits);
      end_is = omega (arith, part.0, is);
    }

pub features_made : (at n : ℕ) (file : List ℕ) → At at (number n) file → n < 2 ^ 64
    → at + (8 + n) ≤ length file → HasFeatures at file
features_made at n file number_stands fits within =
    let part = part_stands (at + 8) n file (omega arith) in
    let text = take n (drop (at + 8) file) in
    let number_on : At at (number (length text)) file =
    subst (λ k. At at (number k) file) (sym part.0) number_stands in
    let there : at + 8 ≡ at + length (number (length text)) = omega (arith, length-number (length text)) in
    record {
      features = text;
      stands = at_join at (number (length text)) text file number_on (subst (λ k. At k text file) there part.1);
      fits = omega (arith, part.0, fits);
    }

pub counted_within : (at : ℕ) (text file : List ℕ) → At at (counted text) file → at + (4 + length text) ≤ length file
counted_within at text file stands =
    omega (arith, length-counted text, at_within at (counted text) file stands (omega (arith, length-counted text)))

pub features_within : (at : ℕ) (file : List ℕ) (has : HasFeatures at file) → at + (8 + length has.features) ≤ length file
features_within at file has =
    let long : length (number (length has.features) ++ has.features) ≡ 8 + length has.features =
    omega (arith, length-append (number (length has.features)) has.features, length-number (length has.features)) in
    omega (
      arith,
      long,
      at_within at (number (length has.features) ++ has.features) file has.stands (omega (arith, long)),
    )

pub features_once : (at : ℕ) (one two file : List ℕ) → length one < 2 ^ 64 → length two < 2 ^ 64
    → At at (number (length one) ++ one) file → At at (number (length two) ++ two) file → one ≡ two
features_once at one two file one_fits two_fits first second =
    let long : length one ≡ length two =
    numbers_at at (length one) (length two) file one_fits two_fits
    (at_front at (number (length one)) one file first) (at_front at (number (length two)) two file second) in
    at_same (at + length (number (length one))) one two file long (at_back at (number (length one)) one file first)
    (subst (λ k. At (at + k) two file) (length-number (length two) ∙ sym (length-number (length one)))
    (at_back at (number (length two)) two file second))

pub features_count : (at n : ℕ) (file : List ℕ) → At at (number n) file → n < 2 ^ 64 → (has : HasFeatures at file)
    → n ≡ length has.features
features_count at n file stands fits has =
    numbers_at at n (length has.features) file fits has.fits stands
    (at_front at (number (length has.features)) has.features file has.stands)

-- The parts of a header.
module _ (place : ℕ) (modules : List (List ℕ)) (features file : List ℕ)
    (stands : At place (header_of modules features) file) where
  pub header_count : At place (short_number (length modules)) file
  header_count =
      at_front place (short_number (length modules))
      (flat_map counted modules ++ (number (length features) ++ features)) file stands

  after_count : At (place + 4) (flat_map counted modules ++ (number (length features) ++ features)) file
  after_count =
      subst (λ k. At (place + k) (flat_map counted modules ++ (number (length features) ++ features)) file)
      (length-short_number (length modules))
      (at_back place (short_number (length modules))
      (flat_map counted modules ++ (number (length features) ++ features)) file stands)

  pub header_modules : At (place + 4) (flat_map counted modules) file
  header_modules =
      at_front (place + 4) (flat_map counted modules) (number (length features) ++ features) file after_count

  pub header_features : At (place + 4 + length (flat_map counted modules)) (number (length features) ++ features) file
  header_features =
      at_back (place + 4) (flat_map counted modules) (number (length features) ++ features) file after_count

pub length-header : (modules : List (List ℕ)) (features : List ℕ)
    → length (header_of modules features) ≡ 4 + (length (flat_map counted modules) + (8 + length features))
length-header modules features =
    omega (
      arith,
      length-append (short_number (length modules)) (flat_map counted modules ++ (number (length features) ++ features)),
      length-append (flat_map counted modules) (number (length features) ++ features),
      length-append (number (length features)) features,
      length-short_number (length modules),
      length-number (length features),
    )

pub stands_as : (place : ℕ) (file : List ℕ) (has : HasHeader place file)
    → At place (header_of has.modules has.features) file
stands_as place file has = subst (λ (l : List ℕ). At place l file) has.is.is has.stands

pub header_within : (place : ℕ) (file : List ℕ) (has : HasHeader place file)
    → (place + 12 ≤ length file) × (place + length has.header ≤ length file)
header_within place file has =
    let long : length has.header ≡ 4 + (length (flat_map counted has.modules) + (8 + length has.features)) =
    ap length has.is.is ∙ length-header has.modules has.features in
    let within = at_within place has.header file has.stands (omega (arith, long)) in
    (omega (arith, long, within), within)

pub count_of : (place count : ℕ) (file : List ℕ) → At place (short_number count) file → count < 2 ^ 32
    → (has : HasHeader place file) → length has.modules ≡ count
count_of place count file stands fits has =
    short_numbers_at place (length has.modules) count file has.is.few fits
    (header_count place has.modules has.features file (stands_as place file has)) stands

pub header_made : (place count end : ℕ) (file : List ℕ) → At place (short_number count) file → count < 2 ^ 32
    → HasModules (place + 4) count end file → HasFeatures end file → HasHeaderOf place count file
header_made place count end file count_stands fits has features = record {
  has = record {
    modules = has.modules;
    features = features.features;
    header = header_of has.modules features.features;
    is = record {
      is = refl;
      few = omega (arith, has.count_is, fits);
      small = has.small;
      fits = features.fits;
    };
    stands = at_join place (short_number (length has.modules))
        (flat_map counted has.modules ++ (number (length features.features) ++ features.features)) file
        (subst (λ k. At place (short_number k) file) (sym has.count_is) count_stands)
        (subst (λ k. At k (flat_map counted has.modules ++ (number (length features.features) ++ features.features)) file)
        (omega (arith, length-short_number (length has.modules)))
        (at_join (place + 4) (flat_map counted has.modules) (number (length features.features) ++ features.features) file
        has.stands (subst (λ k. At k (number (length features.features) ++ features.features) file)
        has.end_is features.stands)));
  };
  count_is = has.count_is;
}

-- where the features of a header stand whose modules were read
pub features_of : (place count end : ℕ) (file : List ℕ) → At place (short_number count) file → count < 2 ^ 32
    → HasModules (place + 4) count end file → HasHeader place file → HasFeatures end file
features_of place count end file stands fits read has =
    let count_is = count_of place count file stands fits has in
    let on = stands_as place file has in
    let same : has.modules ≡ read.modules =
    modules_once has.modules read.modules (place + 4) file (count_is ∙ sym read.count_is) has.is.small read.small
    (header_modules place has.modules has.features file on) read.stands in
    let there : place + 4 + length (flat_map counted has.modules) ≡ end =
    ap (λ (l : List (List ℕ)). place + 4 + length (flat_map counted l)) same ∙ sym read.end_is in
    record {
      features = has.features;
      stands = subst (λ k. At k (number (length has.features) ++ has.features) file) there
          (header_features place has.modules has.features file on);
      fits = has.is.fits;
    }

-- some bytes stand in themselves
pub at_self : (bytes : List ℕ) → At 0 bytes bytes
at_self bytes = record { is = take_all (length bytes) bytes (omega arith) }

-- where the text of a number stands in our header, and where in theirs
pub our_text : (ours : List (List ℕ)) (features header : List ℕ) (k from : ℕ) → IsHeader ours features header
    → k < length ours → from ≡ 4 + length (flat_map counted (take k ours)) → At from (counted (get_or ours k [])) header
our_text ours features header k from is within from_is =
    let on : At 0 (header_of ours features) header = subst (λ (l : List ℕ). At 0 l header) is.is (at_self header) in
    subst (λ j. At j (counted (get_or ours k [])) header) (omega (arith, from_is))
    (module_at (0 + 4) ours k header within (header_modules 0 ours features header on))

pub their_text : (place : ℕ) (file : List ℕ) (has : HasHeader place file) (k from : ℕ)
    → k < length has.modules → from ≡ 4 + length (flat_map counted (take k has.modules))
    → At (place + from) (counted (get_or has.modules k [])) file
their_text place file has k from within from_is =
    subst (λ j. At j (counted (get_or has.modules k [])) file) (omega (arith, from_is))
    (module_at (place + 4) has.modules k file within
    (header_modules place has.modules has.features file (stands_as place file has)))

pub our_count : (ours : List (List ℕ)) (features header : List ℕ) (n : ℕ) → IsHeader ours features header → n < 2 ^ 32
    → At 0 (short_number n) header → n ≡ length ours
our_count ours features header n is fits stands =
    short_numbers_at 0 n (length ours) header fits is.few stands
    (header_count 0 ours features header (subst (λ (l : List ℕ). At 0 l header) is.is (at_self header)))

-- what our header and theirs have in common at their fronts
pub record HasShared (ours theirs : List (List ℕ)) (done : ℕ) : Type 0 where
  pub same : take done ours ≡ take done theirs
  pub within_ours : done ≤ length ours
  pub within_theirs : done ≤ length theirs

pub none_shared : (ours theirs : List (List ℕ)) → HasShared ours theirs 0
none_shared ours theirs = record { same = refl; within_ours = omega arith; within_theirs = omega arith }

pub more_shared : (ours theirs : List (List ℕ)) (done : ℕ) → HasShared ours theirs done → done < length ours
    → done < length theirs → get_or ours done [] ≡ get_or theirs done [] → HasShared ours theirs (done + 1)
more_shared ours theirs done has our_within their_within same = record {
  same = take_more ours done [] our_within
      ∙ ap (λ (l : List (List ℕ)). l ++ get_or ours done [] ∷ []) has.same
      ∙ ap (λ (t : List ℕ). take done theirs ++ t ∷ []) same ∙ sym (take_more theirs done [] their_within);
  within_ours = omega (arith, our_within);
  within_theirs = omega (arith, their_within);
}

pub shared_ends : (ours theirs : List (List ℕ)) (done : ℕ) → HasShared ours theirs done
    → (done < length ours → done < length theirs → ⊥) → DiffersAt ours theirs done
shared_ends ours theirs done has ends = record {
  same = has.same;
  within_ours = has.within_ours;
  within_theirs = has.within_theirs;
  next = λ our_within their_within. absurd (ends our_within their_within);
}

pub shared_differs : (ours theirs : List (List ℕ)) (done : ℕ) → HasShared ours theirs done
    → (get_or ours done [] ≡ get_or theirs done [] → ⊥) → DiffersAt ours theirs done
shared_differs ours theirs done has differs = record {
  same = has.same;
  within_ours = has.within_ours;
  within_theirs = has.within_theirs;
  next = λ our_within their_within. differs;
}

pub header_len : (ours : List (List ℕ)) (features header : List ℕ) → IsHeader ours features header → 12 ≤ length header
header_len ours features header is = omega (arith, ap length is.is, length-header ours features)
