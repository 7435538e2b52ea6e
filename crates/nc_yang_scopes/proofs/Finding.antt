-- What is found in a block.
use Rattle.std.proofs.Common.{◌≡◌, ◌<◌, ◌+◌, ◌==◌, ◌&&◌, ℕ, zero, suc, Bool, true, false, cond, List, [], ◌∷◌, length, map, refl, sym, ap, ◌∙◌, arith}
use Rattle.std.specs.Prelude.{Option, Some, None, slice_get, option_map, option_and_then, find, MatchOption}
use Rattle.std.specs.List.{position_from}
use Rattle.std.specs.Option.{option_or, option_map_or}
use Rattle.std.proofs.lemmas.Bool.Decides.{nat_tests}
use Rattle.std.proofs.lemmas.List.Folds.{find-append}
use Rattle.nc_yang_words.specs.declared.statement.Statement.{Statement}
use Rattle.nc_yang_statements.specs.declared.keyword.Keyword.{Keyword}
use Rattle.nc_names.specs.Same.{is_same_text}
use Rattle.nc_yang_statements.specs.Keywords.{is_same_keyword}
use Rattle.nc_yang_statements.specs.Statements.{below, kind, name}
use Rattle.nc_yang_scopes.specs.Scopes.{Located, defines, found, has_prefix, inside}
use Rattle.nc_yang_scopes.specs.Numbers.{Entry, blocks_in, children, located, opened, roots}
use Rattle.nc_yang_scopes.specs.inner.Frames.{IsWhole, is_import, is_known, is_one}
use Rattle.nc_yang_scopes.proofs.Lists.{found_at, found_none, past_end}
use Rattle.nc_yang_scopes.proofs.Places.{all_entries, located_at}

-- a statement in the one of a number
abbrev put_in : ℕ → Entry → Statement → Entry
put_in number entry s = record { statement = s; text = entry.text; outer = Some number }

module _ (keyword : Keyword) (word : List ℕ) where
  -- among those that stand in one statement
  find_in : (block number : ℕ) (entry : Entry) (same : Bool) → (number == block) ≡ same → (ss : List Statement) →
      find (is_known keyword block word) (map (put_in number entry) ss) ≡ cond same (option_map (put_in number entry) (find (is_one keyword word) ss)) None
  find_in block number entry true is [] = refl
  find_in block number entry false is [] = refl
  find_in block number entry true is (s ∷ ss) =
      ap (λ b. cond (b && is_one keyword word s) (Some (put_in number entry s)) (find (is_known keyword block word) (map (put_in number entry) ss))) is
      ∙ by (is_one keyword word s) (find_in block number entry true is ss)
    where
      by : (b : Bool) → find (is_known keyword block word) (map (put_in number entry) ss) ≡ option_map (put_in number entry) (find (is_one keyword word) ss) →
          cond b (Some (put_in number entry s)) (find (is_known keyword block word) (map (put_in number entry) ss)) ≡ option_map (put_in number entry) (cond b (Some s) (find (is_one keyword word) ss))
      by true e = refl
      by false e = e
  find_in block number entry false is (s ∷ ss) =
      ap (λ b. cond (b && is_one keyword word s) (Some (put_in number entry s)) (find (is_known keyword block word) (map (put_in number entry) ss))) is
      ∙ find_in block number entry false is ss

  -- in the statement of another number
  find_past : (block number : ℕ) (entries : List Entry) → block < number → find (is_known keyword block word) (opened number entries) ≡ None
  find_past block number [] less = refl
  find_past block number (entry ∷ entries) less =
      find-append (is_known keyword block word) (children number entry) (opened (number + 1) entries)
      ∙ ap (λ o. option_or o (find (is_known keyword block word) (opened (number + 1) entries))) (find_in block number entry false (grind (arith, nat_tests)) (below entry.statement))
      ∙ find_past block (number + 1) entries (omega arith)

  or_none : {A : Type 0} (o : Option A) → option_or o None ≡ o
  or_none None = refl
  or_none (Some x) = refl

  find_opened : (block number d : ℕ) (entries : List Entry) → number + d ≡ block →
      find (is_known keyword block word) (opened number entries)
      ≡ option_and_then (λ entry. option_map (put_in block entry) (find (is_one keyword word) (below entry.statement))) (slice_get entries d)
  find_opened block number d [] is = refl
  find_opened block number zero (entry ∷ entries) is =
      let same : number ≡ block = omega arith in
      find-append (is_known keyword block word) (children number entry) (opened (number + 1) entries)
      ∙ ap (λ o. option_or (find (is_known keyword block word) (children number entry)) o) (find_past block (number + 1) entries (omega arith))
      ∙ or_none (find (is_known keyword block word) (children number entry))
      ∙ find_in block number entry true (grind (arith, nat_tests)) (below entry.statement)
      ∙ ap (λ n. option_map (put_in n entry) (find (is_one keyword word) (below entry.statement))) same
  find_opened block number (suc d) (entry ∷ entries) is =
      find-append (is_known keyword block word) (children number entry) (opened (number + 1) entries)
      ∙ ap (λ o. option_or o (find (is_known keyword block word) (opened (number + 1) entries))) (find_in block number entry false (grind (arith, nat_tests)) (below entry.statement))
      ∙ find_opened block (number + 1) d entries (omega arith)

  find_roots : (block number : ℕ) (texts : List Statement) → find (is_known keyword block word) (roots number texts) ≡ None
  find_roots block number [] = refl
  find_roots block number (s ∷ texts) = find_roots block (number + 1) texts

  module _ (texts : List Statement) (entries : List Entry) (firsts : List ℕ) (whole : IsWhole texts entries firsts) where
    pub find_known : (block : ℕ) (entry : Entry) → slice_get entries block ≡ Some entry →
        find (is_known keyword block word) entries ≡ option_map (put_in block entry) (find (is_one keyword word) (below entry.statement))
    find_known block entry is =
        ap (find (is_known keyword block word)) (all_entries texts entries firsts whole)
        ∙ find-append (is_known keyword block word) (roots 0 texts) (opened 0 entries)
        ∙ ap (λ o. option_or o (find (is_known keyword block word) (opened 0 entries))) (find_roots block 0 texts)
        ∙ find_opened block 0 block entries (omega arith)
        ∙ ap (option_and_then (λ e. option_map (put_in block e) (find (is_one keyword word) (below e.statement)))) is

    pub within_entries : (block : ℕ) (at : ℕ) → Some at ≡ position_from (is_known keyword block word) 0 entries → at < length entries
    within_entries block at is = let f = found_at (is_known keyword block word) entries 0 at (sym is) in omega (arith, f.is, f.within)

    pub first_in_block : (block : ℕ) (entry : Entry) (at : Option ℕ) → slice_get entries block ≡ Some entry → at ≡ position_from (is_known keyword block word) 0 entries →
        option_and_then (slice_get entries) at ≡ option_map (put_in block entry) (find (is_one keyword word) (below entry.statement))
    first_in_block block entry None here is = sym (found_none (is_known keyword block word) entries 0 (sym is)) ∙ find_known block entry here
    first_in_block block entry (Some at) here is =
        let f = found_at (is_known keyword block word) entries 0 at (sym is) in
        let same : f.place ≡ at = omega (arith, f.is) in
        ap (slice_get entries) (sym same) ∙ sym f.found ∙ find_known block entry here

-- a definition in the nearest block, or what is found further out
module _ (keyword : Keyword) (word : List ℕ) (plain : is_import keyword ≡ false) (texts : List Statement) (entries : List Entry) (firsts : List ℕ) (whole : IsWhole texts entries firsts) where
  by_name : (ss : List Statement) → find (is_one keyword word) ss ≡ find (defines keyword word) ss
  by_name [] = refl
  by_name (s ∷ ss) =
      ap (λ b. cond (is_same_keyword keyword (kind s) && cond b (has_prefix word s) (is_same_text (name s) word)) (Some s) (find (is_one keyword word) ss)) plain
      ∙ ap (cond (defines keyword word s) (Some s)) (by_name ss)

  pub nearest_is : (block : ℕ) (entry : Entry) (at : Option ℕ) → slice_get entries block ≡ Some entry → at ≡ position_from (is_known keyword block word) 0 entries →
      MatchOption at (found keyword word entry.text (blocks_in (located entries) (Some block)) ≡ found keyword word entry.text (blocks_in (located entries) entry.outer))
      (λ n. slice_get (located entries) n ≡ found keyword word entry.text (blocks_in (located entries) (Some block)))
  nearest_is block entry at here is =
      by at refl (find (defines keyword word) (below entry.statement)) refl
      (first_in_block keyword word texts entries firsts whole block entry at here is ∙ ap (option_map (put_in block entry)) (by_name (below entry.statement)))
    where
      blocks : blocks_in (located entries) (Some block) ≡ below entry.statement ∷ blocks_in (located entries) entry.outer
      blocks = ap (λ (l : Option Located). option_map_or (λ k. (inside k).blocks) l []) (located_at entries whole.behind block entry here)

      outer : List (List Statement)
      outer = blocks_in (located entries) entry.outer

      by : (o : Option ℕ) → at ≡ o → (one : Option Statement) → find (defines keyword word) (below entry.statement) ≡ one →
          option_and_then (slice_get entries) o ≡ option_map (put_in block entry) one →
          MatchOption o (found keyword word entry.text (blocks_in (located entries) (Some block)) ≡ found keyword word entry.text outer)
          (λ n. slice_get (located entries) n ≡ found keyword word entry.text (blocks_in (located entries) (Some block)))
      by None at_is None none e =
          ap (found keyword word entry.text) blocks
          ∙ ap (λ o. option_map_or (λ s. Some (record { statement = s; place = record { text = entry.text; blocks = below entry.statement ∷ outer } })) o (found keyword word entry.text outer)) none
      by None at_is (Some s) one e = absurd (cc)
      by (Some n) at_is None none e = absurd (omega (arith, past_end entries n e, within_entries keyword word texts entries firsts whole block n (sym at_is ∙ is)))
      by (Some n) at_is (Some s) one e =
          located_at entries whole.behind n (put_in block entry s) e
          ∙ ap (λ bs. Some (record { statement = s; place = record { text = entry.text; blocks = bs } })) blocks
          ∙ sym (ap (λ o. option_map_or (λ s. Some (record { statement = s; place = record { text = entry.text; blocks = below entry.statement ∷ outer } })) o (found keyword word entry.text outer)) one)
          ∙ sym (ap (found keyword word entry.text) blocks)
