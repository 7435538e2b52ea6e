-- Where the statements under numbers stand.
use Rattle.std.proofs.Common.{◌≡◌, ◌<◌, ◌≤◌, ◌+◌, ℕ, zero, suc, List, [], ◌∷◌, ◌++◌, length, take, drop, refl, sym, ap, ◌∙◌, arith, length-append}
use Rattle.std.specs.Prelude.{Option, Some, None, slice_get, IfSome, fold}
use Rattle.std.specs.Option.{option_map_or}
use Rattle.std.proofs.lemmas.List.{length-take-le, take_all, take-append-drop, length_push}
use Rattle.std.proofs.lemmas.List.Sums.{fold-append, fold_push}
use Rattle.std.proofs.lemmas.Option.{slice_get_past}
use Rattle.nc_yang_words.specs.declared.statement.Statement.{Statement}
use Rattle.nc_yang_scopes.specs.Scopes.{Located, inside}
use Rattle.nc_yang_scopes.specs.Numbers.{Entry, blocks_in, children, located, located_after, opened, roots}
use Rattle.nc_yang_scopes.specs.inner.Frames.{AreBehind, IsBehind, IsWhole, first_in}
use Rattle.nc_yang_scopes.proofs.Lists.{get_left, get_right, get_within, past_end, take_next}
use Rattle.nc_yang_scopes.proofs.Numbered.{length_roots}

-- a statement by those before it
abbrev placed : List Located → Entry → Located
placed before entry = record { statement = entry.statement; place = record { text = entry.text; blocks = blocks_in before entry.outer } }

length_after : (before : List Located) (entries : List Entry) → length (fold located_after before entries) ≡ length before + length entries
length_after before [] = omega arith
length_after before (entry ∷ entries) = length_after (located_after before entry) entries ∙ (let one = length_push before (placed before entry) in omega arith)

pub length_located : (entries : List Entry) → length (located entries) ≡ length entries
length_located entries = length_after [] entries ∙ omega arith

-- statements that come later move none
kept_after : (before : List Located) (entries : List Entry) (i : ℕ) → i < length before → slice_get (fold located_after before entries) i ≡ slice_get before i
kept_after before [] i less = refl
kept_after before (entry ∷ entries) i less =
    kept_after (located_after before entry) entries i (let one = length_push before (placed before entry) in omega arith)
    ∙ get_left before (placed before entry ∷ []) i less

kept_take : (entries : List Entry) (n i : ℕ) → i < n → n ≤ length entries → slice_get (located entries) i ≡ slice_get (located (take n entries)) i
kept_take entries n i less le =
    ap (λ es. slice_get (located es) i) (sym (take-append-drop n entries))
    ∙ ap (λ ls. slice_get ls i) (fold-append located_after [] (take n entries) (drop n entries))
    ∙ kept_after (located (take n entries)) (drop n entries) i (let e = length_located (take n entries) in let f = length-take-le n entries le in omega arith)

-- the blocks round it do not depend on what comes later
blocks_kept : (entries : List Entry) (n : ℕ) (entry : Entry) (outer : Option ℕ) → n ≤ length entries → IfSome outer (IsBehind entries n entry) → blocks_in (located (take n entries)) outer ≡ blocks_in (located entries) outer
blocks_kept entries n entry None le behind = refl
blocks_kept entries n entry (Some o) le behind = ap (λ (l : Option Located). option_map_or (λ k. (inside k).blocks) l []) (sym (kept_take entries n o behind.0 le))

at_end : (before : List Located) (l : Located) (n : ℕ) → length before ≡ n → slice_get (before ++ l ∷ []) n ≡ Some l
at_end before l n is = let e : n ≡ n + 0 = omega arith in ap (slice_get (before ++ l ∷ [])) e ∙ get_right before (l ∷ []) n 0 is

-- where the statement of a number stands
pub located_at : (entries : List Entry) → AreBehind entries → (n : ℕ) (entry : Entry) → slice_get entries n ≡ Some entry → slice_get (located entries) n ≡ Some (placed (located entries) entry)
located_at entries behind n entry is =
    let less : n < length entries = get_within entries n entry is in
    let le : n ≤ length entries = omega arith in
    let more : n + 1 ≤ length entries = omega arith in
    kept_take entries (n + 1) n (omega arith) more
    ∙ ap (λ es. slice_get (located es) n) (take_next entries n entry is)
    ∙ ap (λ ls. slice_get ls n) (fold_push located_after [] (take n entries) entry)
    ∙ at_end (located (take n entries)) (placed (located (take n entries)) entry) n (length_located (take n entries) ∙ length-take-le n entries le)
    ∙ ap (λ bs. Some (record { statement = entry.statement; place = record { text = entry.text; blocks = bs } })) (blocks_kept entries n entry entry.outer le (behind n entry is))

pub located_none : (entries : List Entry) (n : ℕ) → slice_get entries n ≡ None → slice_get (located entries) n ≡ None
located_none entries n is = slice_get_past (located entries) n (let le = past_end entries n is in let e = length_located entries in omega arith)

-- what stands directly in a statement is numbered after one another
opened_at : (number : ℕ) (entries : List Entry) (d n : ℕ) (entry : Entry) (i : ℕ) → number + d ≡ n → slice_get entries d ≡ Some entry → i < length (children n entry) →
    slice_get (opened number entries) (length (opened number (take d entries)) + i) ≡ slice_get (children n entry) i
opened_at number [] d n entry i sum is within = absurd (cc)
opened_at number (first ∷ entries) zero n entry i sum is within =
    let same : first ≡ entry = cc in
    let e : number ≡ n = omega arith in
    let zero_plus : 0 + i ≡ i = omega arith in
    ap (slice_get (children number first ++ opened (number + 1) entries)) zero_plus
    ∙ ap (λ cs. slice_get (cs ++ opened (number + 1) entries) i) (ap (λ m. children m first) e ∙ ap (children n) same)
    ∙ get_left (children n entry) (opened (number + 1) entries) i within
opened_at number (first ∷ entries) (suc d) n entry i sum is within =
    let l = length (children number first) in
    let whole = length-append (children number first) (opened (number + 1) (take d entries)) in
    let at : length (children number first ++ opened (number + 1) (take d entries)) + i ≡ length (children number first) + (length (opened (number + 1) (take d entries)) + i) = omega arith in
    ap (slice_get (children number first ++ opened (number + 1) entries)) at
    ∙ get_right (children number first) (opened (number + 1) entries) (length (children number first)) (length (opened (number + 1) (take d entries)) + i) refl
    ∙ opened_at (number + 1) entries d n entry i (omega arith) is within

module _ (texts : List Statement) (entries : List Entry) (firsts : List ℕ) (whole : IsWhole texts entries firsts) where
  pub all_entries : entries ≡ roots 0 texts ++ opened 0 entries
  all_entries = whole.whole ∙ ap (λ es. roots 0 texts ++ opened 0 es) (take_all (length entries) entries (omega arith))

  pub child_at : (n : ℕ) (entry : Entry) (i : ℕ) → slice_get entries n ≡ Some entry → i < length (children n entry) →
      slice_get entries (first_in texts entries n + i) ≡ slice_get (children n entry) i
  child_at n entry i is within =
      let more = length (opened 0 (take n entries)) in
      let at : first_in texts entries n + i ≡ length texts + (length (opened 0 (take n entries)) + i) = omega arith in
      ap (slice_get entries) at
      ∙ ap (λ es. slice_get es (length texts + (length (opened 0 (take n entries)) + i))) all_entries
      ∙ get_right (roots 0 texts) (opened 0 entries) (length texts) (length (opened 0 (take n entries)) + i) (length_roots 0 texts)
      ∙ opened_at 0 entries n n entry i (omega arith) is within
