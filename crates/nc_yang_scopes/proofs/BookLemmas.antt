-- What names mean in texts whose statements have numbers.
use Rattle.std.proofs.Common.{inl, inr, ◌≡◌, ◌≢◌, ◌<◌, ◌≤◌, ◌+◌, ◌==◌, ◌||◌, ◌⊎◌, not, ℕ, zero, suc, Bool, true, false, cond, List, [], ◌∷◌, length, refl, sym, ap, subst, ◌∙◌, arith, Bor}
use Rattle.std.specs.Prelude.{Option, Some, None, slice_get, option_map, option_and_then, find, MatchOption, IfSome, IsSome, IsTrue, is_some}
use Rattle.std.specs.List.{after_first, before_first, list_any, position_from, position_or_len}
use Rattle.std.specs.Option.{option_map_or}
use Rattle.std.proofs.lemmas.Bool.{cases_lt}
use Rattle.std.proofs.lemmas.Bool.Decides.{nat_tests}
use Rattle.std.proofs.lemmas.Iterator.Adapters.{position_from-zero}
use Rattle.std.proofs.lemmas.Option.{slice_get-map, slice_get_past}
use Rattle.std.proofs.lemmas.List.{length-map}
use Rattle.nc_names.specs.Same.{is_same_text}
use Rattle.nc_names.specs.Signs.{colon}
use Rattle.nc_yang_words.specs.declared.statement.Statement.{Statement}
use Rattle.nc_yang_statements.specs.declared.keyword.Keyword.{Keyword}
use Rattle.nc_yang_statements.specs.declared.keyword.Keyword.TheVariants.{Import, Revision}
use Rattle.nc_yang_statements.specs.Statements.{below, name}
use Rattle.nc_yang_scopes.specs.Scopes.{SplitsReference, Located, child, defines, found, found_in, has_colon, has_revision, import_of, inside, is_defining, local_of, prefix_of, resolved, root, text_of, text_of_prefix, top}
use Rattle.nc_yang_scopes.specs.Names.{further_out, is_defined_out}
use Rattle.nc_yang_scopes.specs.inner.Books.{Gives, across, near}
use Rattle.nc_yang_scopes.specs.Numbers.{Entry, blocks_in, located, opened, roots}
use Rattle.nc_yang_scopes.specs.inner.Frames.{IsBehind, IsWhole, first_in, is_import, is_known, is_one}
use Rattle.nc_yang_scopes.proofs.Lists.{get_left, get_within, past_end}
use Rattle.nc_yang_scopes.proofs.Numbered.{length_roots}
use Rattle.nc_yang_scopes.proofs.Places.{all_entries, child_at, length_located, located_at, located_none}
use Rattle.nc_yang_scopes.proofs.Finding.{first_in_block, nearest_is, within_entries}

-- a colon in a reference
found_step : (b : Bool) (n len : ℕ) (rest : Bool) → (n < len → rest ≡ true) → cond (not b) (1 + n) 0 < 1 + len → (b || rest) ≡ true
found_step true n len rest further within = refl
found_step false n len rest further within = further (omega (arith, within))

missing_step : (b : Bool) (n len : ℕ) (rest : Bool) → (n ≡ len → rest ≡ false) → cond (not b) (1 + n) 0 ≡ 1 + len → (b || rest) ≡ false
missing_step true n len rest further past = absurd (omega (arith, past))
missing_step false n len rest further past = further (omega (arith, past))

some_passes : (p : ℕ → Bool) (text : List ℕ) → position_or_len p text < length text → list_any p text ≡ true
some_passes p [] within = absurd (omega (arith, within))
some_passes p (c ∷ cs) within = found_step (p c) (position_or_len p cs) (length cs) (list_any p cs) (some_passes p cs) (omega (arith, within))

none_passes : (p : ℕ → Bool) (text : List ℕ) → position_or_len p text ≡ length text → list_any p text ≡ false
none_passes p [] past = refl
none_passes p (c ∷ cs) past = missing_step (p c) (position_or_len p cs) (length cs) (list_any p cs) (none_passes p cs) (omega (arith, past))

abbrev is_colon : ℕ → Bool
is_colon c = c == colon

pub splits : (text : List ℕ) (r : Option (Bor (List ℕ) × Bor (List ℕ))) →
    MatchOption r (position_or_len is_colon text ≡ length text) (λ x. (x.0.now ≡ before_first is_colon text) × (x.1.now ≡ after_first is_colon text) × (position_or_len is_colon text < length text)) →
    SplitsReference text r
splits text None past = none_passes is_colon text past
splits text (Some x) h =
    let there : has_colon text ≡ true = some_passes is_colon text h.2 in
    (there, h.0, h.1 ∙ sym (ap (λ b. cond b (after_first is_colon text) text) there))

-- the first text of a name
pub text_is : (texts : List Statement) (word : List ℕ) (r : Option ℕ) → r ≡ position_from (λ t. is_same_text (name t) word) 0 texts → r ≡ text_of texts word
text_is texts word r is = is ∙ sym (position_from-zero (λ t. is_same_text (name t) word) texts)

abbrev root_entry : ℕ → Statement → Entry
root_entry text s = record { statement = s; text = text; outer = None }

abbrev root_located : ℕ → Statement → Located
root_located text s = record { statement = s; place = record { text = text; blocks = [] } }

abbrev child_entry : ℕ → Entry → Statement → Entry
child_entry n entry s = record { statement = s; text = entry.text; outer = Some n }

-- the number of a text is that of its module
root_at : (from : ℕ) (texts : List Statement) (i : ℕ) → slice_get (roots from texts) i ≡ option_map (root_entry (from + i)) (slice_get texts i)
root_at from [] i = refl
root_at from (s ∷ texts) zero = let e : from ≡ from + 0 = omega arith in ap (λ n. Some (record { statement = s; text = n; outer = None })) e
root_at from (s ∷ texts) (suc i) =
    root_at (from + 1) texts i
    ∙ (let e : from + 1 + i ≡ from + suc i = omega arith in ap (λ n. option_map (root_entry n) (slice_get texts i)) e)

-- what is found is there
pub given_some : (located : List Located) (at : Option ℕ) (wanted : Option Located) → Gives located at wanted → is_some at ≡ is_some wanted
given_some located None None e = refl
given_some located None (Some l) e = absurd (cc)
given_some located (Some n) None e = absurd (cc)
given_some located (Some n) (Some l) e = refl

module _ (texts : List Statement) (entries : List Entry) (firsts : List ℕ) (whole : IsWhole texts entries firsts) where
  pub entry_root : (text : ℕ) → text < length texts → slice_get entries text ≡ option_map (root_entry text) (slice_get texts text)
  entry_root text less =
      ap (λ es. slice_get es text) (all_entries texts entries firsts whole)
      ∙ get_left (roots 0 texts) (opened 0 entries) text (omega (arith, length_roots 0 texts))
      ∙ root_at 0 texts text
      ∙ (let e : 0 + text ≡ text = omega arith in ap (λ n. option_map (root_entry n) (slice_get texts text)) e)

  abbrev located_of : Entry → Located
  located_of e = record { statement = e.statement; place = record { text = e.text; blocks = blocks_in (located entries) e.outer } }

  -- where each statement stands
  pub located_is : (n : ℕ) (o : Option Entry) → slice_get entries n ≡ o → slice_get (located entries) n ≡ option_map located_of o
  located_is n None is = located_none entries n is
  located_is n (Some e) is = located_at entries whole.behind n e is

  pub root_is : (text : ℕ) → text < length texts → slice_get (located entries) text ≡ root texts text
  root_is text less = located_is text (option_map (root_entry text) (slice_get texts text)) (entry_root text less) ∙ by (slice_get texts text)
    where
      by : (o : Option Statement) → option_map located_of (option_map (root_entry text) o) ≡ option_map (root_located text) o
      by None = refl
      by (Some s) = refl

  abbrev child_located : Entry → Statement → Located
  child_located entry s = record { statement = s; place = inside (located_of entry) }

  blocks_of : (n : ℕ) (entry : Entry) → slice_get entries n ≡ Some entry → blocks_in (located entries) (Some n) ≡ (inside (located_of entry)).blocks
  blocks_of n entry here = ap (λ (l : Option Located). option_map_or (λ k. (inside k).blocks) l []) (located_at entries whole.behind n entry here)

  -- a statement in a place of another
  pub child_is : (n place first : ℕ) → slice_get firsts n ≡ Some first → IsSome (option_and_then (child place) (slice_get (located entries) n)) →
      slice_get (located entries) (first + place) ≡ option_and_then (child place) (slice_get (located entries) n)
  child_is n place first is some = by (slice_get entries n) refl
    where
      at : (entry : Entry) → slice_get entries n ≡ Some entry → (o : Option Statement) → slice_get (below entry.statement) place ≡ o →
          slice_get (located entries) (first + place) ≡ option_and_then (child place) (slice_get (located entries) n)
      at entry here None none =
          absurd (let lost : is_some (option_and_then (child place) (slice_get (located entries) n)) ≡ false =
          ap (λ l. is_some (option_and_then (child place) l)) (located_at entries whole.behind n entry here) ∙ ap (λ o. is_some (option_map (child_located entry) o)) none in cc)
      at entry here (Some s) one =
          let less : n < length entries = get_within entries n entry here in
          let same : first ≡ first_in texts entries n = let e = whole.firsts_are n less in cc in
          let within : place < length (below entry.statement) = get_within (below entry.statement) place s one in
          let there : slice_get entries (first + place) ≡ Some (record { statement = s; text = entry.text; outer = Some n }) =
          ap (λ f. slice_get entries (f + place)) same
          ∙ child_at texts entries firsts whole n entry place here (omega (arith, within, length-map (below entry.statement) (child_entry n entry)))
          ∙ slice_get-map (child_entry n entry) (below entry.statement) place
          ∙ ap (option_map (child_entry n entry)) one in
          located_at entries whole.behind (first + place) (record { statement = s; text = entry.text; outer = Some n }) there
          ∙ ap (λ bs. Some (record { statement = s; place = record { text = entry.text; blocks = bs } })) (blocks_of n entry here)
          ∙ sym (ap (λ l. option_and_then (child place) l) (located_at entries whole.behind n entry here) ∙ ap (option_map (child_located entry)) one)

      by : (o : Option Entry) → slice_get entries n ≡ o → slice_get (located entries) (first + place) ≡ option_and_then (child place) (slice_get (located entries) n)
      by None none = absurd (let lost : is_some (option_and_then (child place) (slice_get (located entries) n)) ≡ false = ap (λ l. is_some (option_and_then (child place) l)) (located_none entries n none) in cc)
      by (Some entry) here = at entry here (slice_get (below entry.statement) place) refl

  -- a statement with a child has its first
  pub has_first : (n place : ℕ) → IsSome (option_and_then (child place) (slice_get (located entries) n)) → n < length firsts
  has_first n place some = by (cases_lt n (length entries))
    where
      by : (n < length entries) ⊎ (length entries ≤ n) → n < length firsts
      by (inl less) = omega (arith, whole.counted)
      by (inr le) =
          absurd (let lost : is_some (option_and_then (child place) (slice_get (located entries) n)) ≡ false = ap (λ l. is_some (option_and_then (child place) l)) (located_none entries n (slice_get_past entries n le)) in cc)

  -- and is within the statements
  pub child_within : (n place first : ℕ) → Some first ≡ slice_get firsts n → IsSome (option_and_then (child place) (slice_get (located entries) n)) → first + place < length entries
  child_within n place first is some = by (slice_get (located entries) (first + place)) refl
    where
      by : (o : Option Located) → slice_get (located entries) (first + place) ≡ o → first + place < length entries
      by None none = absurd (let lost : is_some (option_and_then (child place) (slice_get (located entries) n)) ≡ false = ap is_some (sym (child_is n place first (sym is) some) ∙ none) in cc)
      by (Some l) there = let less = get_within (located entries) (first + place) l there in omega (arith, length_located entries)

  pub no_first : {P : Type 0} (n place : ℕ) → None ≡ slice_get firsts n → IsSome (option_and_then (child place) (slice_get (located entries) n)) → P
  no_first n place none some = absurd (omega (arith, past_end firsts n (sym none), has_first n place some))

  -- what is kept of each statement
  pub statement_is : (n : ℕ) (o : Option Entry) → o ≡ slice_get entries n → option_map (λ (e : Entry). e.statement) o ≡ option_map (λ (l : Located). l.statement) (slice_get (located entries) n)
  statement_is n o is = by o ∙ ap (option_map (λ (l : Located). l.statement)) (sym (located_is n o (sym is)))
    where
      by : (o : Option Entry) → option_map (λ (e : Entry). e.statement) o ≡ option_map (λ (l : Located). l.statement) (option_map located_of o)
      by None = refl
      by (Some e) = refl

  pub text_at : (n : ℕ) (o : Option Entry) → o ≡ slice_get entries n → option_map (λ (e : Entry). e.text) o ≡ option_map (λ (l : Located). l.place.text) (slice_get (located entries) n)
  text_at n o is = by o ∙ ap (option_map (λ (l : Located). l.place.text)) (sym (located_is n o (sym is)))
    where
      by : (o : Option Entry) → option_map (λ (e : Entry). e.text) o ≡ option_map (λ (l : Located). l.place.text) (option_map located_of o)
      by None = refl
      by (Some e) = refl

  -- the definition nearest to a statement
  near_entry : (keyword : Keyword) (word : List ℕ) (n : ℕ) (entry : Entry) → slice_get entries n ≡ Some entry → near (located entries) keyword word n ≡ found keyword word entry.text (blocks_in (located entries) entry.outer)
  near_entry keyword word n entry here = ap (option_and_then (λ (l : Located). found keyword word l.place.text l.place.blocks)) (located_at entries whole.behind n entry here)

  -- where it stands in none, there is none
  pub near_end : (keyword : Keyword) (word : List ℕ) (n : ℕ) → option_and_then (λ (e : Entry). e.outer) (slice_get entries n) ≡ None → None ≡ near (located entries) keyword word n
  near_end keyword word n is = by (slice_get entries n) refl
    where
      by : (o : Option Entry) → slice_get entries n ≡ o → None ≡ near (located entries) keyword word n
      by None none = sym (ap (option_and_then (λ (l : Located). found keyword word l.place.text l.place.blocks)) (located_none entries n none))
      by (Some entry) here =
          let alone : entry.outer ≡ None = sym (ap (option_and_then (λ (e : Entry). e.outer)) here) ∙ is in
          sym (near_entry keyword word n entry here ∙ ap (λ o. found keyword word entry.text (blocks_in (located entries) o)) alone)

  -- a statement and the one in which it stands
  pub record Stands (n block : ℕ) : Type 0 where
    pub entry : Entry
    pub here : slice_get entries n ≡ Some entry
    pub outer : entry.outer ≡ Some block
    pub above : Entry
    pub there : slice_get entries block ≡ Some above
    pub text : above.text ≡ entry.text
    pub less : block < n

  pub stands : (n block : ℕ) → option_and_then (λ (e : Entry). e.outer) (slice_get entries n) ≡ Some block → Stands n block
  stands n block is = by (slice_get entries n) refl
    where
      over : (entry : Entry) → slice_get entries n ≡ Some entry → entry.outer ≡ Some block → IsBehind entries n entry block → (o : Option Entry) → slice_get entries block ≡ o → Stands n block
      over entry here outer behind None none = absurd (let e : option_map (λ (a : Entry). a.text) (slice_get entries block) ≡ None = ap (option_map (λ (a : Entry). a.text)) none in let f = behind.1 in cc)
      over entry here outer behind (Some above) there = record {
        entry = entry;
        here = here;
        outer = outer;
        above = above;
        there = there;
        text = let e : Some above.text ≡ Some entry.text = sym (ap (option_map (λ (a : Entry). a.text)) there) ∙ behind.1 in cc;
        less = behind.0;
      }

      by : (o : Option Entry) → slice_get entries n ≡ o → Stands n block
      by None none = absurd (let e = ap (option_and_then (λ (e : Entry). e.outer)) none in cc)
      by (Some entry) here =
          let outer : entry.outer ≡ Some block = sym (ap (option_and_then (λ (e : Entry). e.outer)) here) ∙ is in
          over entry here outer (subst (λ o. IfSome o (IsBehind entries n entry)) outer (whole.behind n entry here)) (slice_get entries block) refl

  pub outer_less : (n block : ℕ) → option_and_then (λ (e : Entry). e.outer) (slice_get entries n) ≡ Some block → block < n
  outer_less n block is = (stands n block is).less

  -- a statement that is there
  given : (m : ℕ) (wanted : Option Located) → m < length entries → slice_get (located entries) m ≡ wanted → Gives (located entries) (Some m) wanted
  given m None less is = absurd (let le = past_end (located entries) m is in let e = length_located entries in omega arith)
  given m (Some l) less is = ap Some is

  -- what the next block has, or what is found further out
  near_whole : (keyword : Keyword) (word : List ℕ) (n block : ℕ) (s : Stands n block) → near (located entries) keyword word n ≡ found keyword word s.above.text (blocks_in (located entries) (Some block))
  near_whole keyword word n block s =
      near_entry keyword word n s.entry s.here
      ∙ ap (λ o. found keyword word s.entry.text (blocks_in (located entries) o)) s.outer
      ∙ ap (λ t. found keyword word t (blocks_in (located entries) (Some block))) (sym s.text)

  pub near_found : (keyword : Keyword) (word : List ℕ) → is_import keyword ≡ false → (n block : ℕ) → Some block ≡ option_and_then (λ (e : Entry). e.outer) (slice_get entries n) →
      (m : ℕ) → Some m ≡ position_from (is_known keyword block word) 0 entries → Gives (located entries) (Some m) (near (located entries) keyword word n)
  near_found keyword word plain n block is m at_is =
      let s = stands n block (sym is) in
      given m (near (located entries) keyword word n) (within_entries keyword word texts entries firsts whole block m at_is)
      (nearest_is keyword word plain texts entries firsts whole block s.above (Some m) s.there at_is ∙ sym (near_whole keyword word n block s))

  pub near_further : (keyword : Keyword) (word : List ℕ) → is_import keyword ≡ false → (n block : ℕ) → Some block ≡ option_and_then (λ (e : Entry). e.outer) (slice_get entries n) →
      None ≡ position_from (is_known keyword block word) 0 entries → near (located entries) keyword word block ≡ near (located entries) keyword word n
  near_further keyword word plain n block is at_is =
      let s = stands n block (sym is) in
      near_entry keyword word block s.above s.there
      ∙ sym (nearest_is keyword word plain texts entries firsts whole block s.above None s.there at_is)
      ∙ sym (near_whole keyword word n block s)

  -- what stands at the top of a text
  pub top_is : (keyword : Keyword) (word : List ℕ) → is_import keyword ≡ false → (text : ℕ) → text < length texts → (at : Option ℕ) → at ≡ position_from (is_known keyword text word) 0 entries →
      Gives (located entries) at (found keyword word text (top texts text ∷ []))
  top_is keyword word plain text less at at_is = by (slice_get texts text) refl
    where
      by : (o : Option Statement) → slice_get texts text ≡ o → Gives (located entries) at (found keyword word text (top texts text ∷ []))
      by None none = absurd (let there = past_end texts text none in omega arith)
      by (Some s) one = match at at_is (nearest_is keyword word plain texts entries firsts whole text here at entry at_is)
        where
          here : Entry
          here = record { statement = s; text = text; outer = None }

          entry : slice_get entries text ≡ Some here
          entry = entry_root text less ∙ ap (option_map (root_entry text)) one

          blocks : blocks_in (located entries) (Some text) ≡ top texts text ∷ []
          blocks = blocks_of text here entry ∙ ap (λ ss. ss ∷ []) (sym (ap (λ o. option_map_or below o []) one))

          match : (o : Option ℕ) → o ≡ position_from (is_known keyword text word) 0 entries →
              MatchOption o (found keyword word text (blocks_in (located entries) (Some text)) ≡ None) (λ m. slice_get (located entries) m ≡ found keyword word text (blocks_in (located entries) (Some text))) →
              Gives (located entries) o (found keyword word text (top texts text ∷ []))
          match None is h = ap (option_map Some) (sym (ap (found keyword word text) (sym blocks) ∙ h))
          match (Some m) is h =
              given m (found keyword word text (top texts text ∷ [])) (within_entries keyword word texts entries firsts whole text m is)
              (h ∙ ap (found keyword word text) blocks)

  -- the import of a prefix
  import_is : (prefix : List ℕ) (text : ℕ) → text < length texts → (at : Option ℕ) → at ≡ position_from (is_known Import text prefix) 0 entries →
      option_map (λ (e : Entry). e.statement) (option_and_then (slice_get entries) at) ≡ import_of prefix (top texts text)
  import_is prefix text less at at_is = by (slice_get texts text) refl
    where
      by : (o : Option Statement) → slice_get texts text ≡ o → option_map (λ (e : Entry). e.statement) (option_and_then (slice_get entries) at) ≡ import_of prefix (top texts text)
      by None none = absurd (let there = past_end texts text none in omega arith)
      by (Some s) one =
          ap (option_map (λ (e : Entry). e.statement)) (first_in_block Import prefix texts entries firsts whole text here at entry at_is)
          ∙ kept (find (is_one Import prefix) (below s))
          ∙ ap (λ (o : Option Statement). find (is_one Import prefix) (option_map_or below o [])) (sym one)
        where
          here : Entry
          here = record { statement = s; text = text; outer = None }

          entry : slice_get entries text ≡ Some here
          entry = entry_root text less ∙ ap (option_map (root_entry text)) one

          kept : (o : Option Statement) → option_map (λ (e : Entry). e.statement) (option_map (child_entry text here) o) ≡ o
          kept None = refl
          kept (Some t) = refl

  -- the name of the module that is imported
  pub import_none : (prefix : List ℕ) (text : ℕ) → text < length texts → None ≡ position_from (is_known Import text prefix) 0 entries → None ≡ option_map name (import_of prefix (top texts text))
  import_none prefix text less at_is = ap (option_map name) (import_is prefix text less None at_is)

  pub import_at : (prefix : List ℕ) (text : ℕ) → text < length texts → (at : ℕ) → Some at ≡ position_from (is_known Import text prefix) 0 entries → (o : Option Entry) → o ≡ slice_get entries at →
      option_map (λ (e : Entry). name e.statement) o ≡ option_map name (import_of prefix (top texts text))
  import_at prefix text less at at_is o is = by o ∙ ap (λ p. option_map name (option_map (λ (e : Entry). e.statement) p)) is ∙ ap (option_map name) (import_is prefix text less (Some at) at_is)
    where
      by : (o : Option Entry) → option_map (λ (e : Entry). name e.statement) o ≡ option_map name (option_map (λ (e : Entry). e.statement) o)
      by None = refl
      by (Some e) = refl

  -- a name with a prefix
  across_entry : (keyword : Keyword) (prefix word : List ℕ) (n : ℕ) (entry : Entry) (to : Option ℕ) → slice_get entries n ≡ Some entry → to ≡ text_of_prefix texts entry.text prefix →
      across texts (located entries) keyword prefix word n ≡ option_and_then (found_in texts keyword word (located_of entry).place) to
  across_entry keyword prefix word n entry to here is =
      ap (option_and_then (λ (l : Located). option_and_then (found_in texts keyword word l.place) (text_of_prefix texts l.place.text prefix))) (located_at entries whole.behind n entry here)
      ∙ ap (option_and_then (found_in texts keyword word (located_of entry).place)) (sym is)

  pub across_nowhere : (keyword : Keyword) (prefix word : List ℕ) (n : ℕ) → None ≡ slice_get entries n → Gives (located entries) None (across texts (located entries) keyword prefix word n)
  across_nowhere keyword prefix word n none =
      ap (λ o. option_map Some (option_and_then (λ (l : Located). option_and_then (found_in texts keyword word l.place) (text_of_prefix texts l.place.text prefix)) o)) (sym (located_none entries n (sym none)))

  pub across_unknown : (keyword : Keyword) (prefix word : List ℕ) (n : ℕ) (entry : Entry) → Some entry ≡ slice_get entries n → None ≡ text_of_prefix texts entry.text prefix →
      Gives (located entries) None (across texts (located entries) keyword prefix word n)
  across_unknown keyword prefix word n entry here is = ap (option_map Some) (sym (across_entry keyword prefix word n entry None (sym here) is))

  pub across_own : (keyword : Keyword) (prefix word : List ℕ) (n : ℕ) (entry : Entry) (to : ℕ) (result : Option ℕ) → Some entry ≡ slice_get entries n → Some to ≡ text_of_prefix texts entry.text prefix → to ≡ entry.text →
      Gives (located entries) result (near (located entries) keyword word n) → Gives (located entries) result (across texts (located entries) keyword prefix word n)
  across_own keyword prefix word n entry to result here is own gives =
      gives ∙ ap (option_map Some) (near_entry keyword word n entry (sym here)
      ∙ ap (λ t. found keyword word t (located_of entry).place.blocks) (sym own)
      ∙ ap (λ b. cond b (found keyword word to (located_of entry).place.blocks) (found keyword word to (top texts to ∷ []))) (sym (same to entry.text own))
      ∙ sym (across_entry keyword prefix word n entry (Some to) (sym here) is))
    where
      same : (a b : ℕ) → a ≡ b → (a == b) ≡ true
      same a b e = grind (arith, nat_tests)

  pub across_other : (keyword : Keyword) (prefix word : List ℕ) (n : ℕ) (entry : Entry) (to : ℕ) (result : Option ℕ) → Some entry ≡ slice_get entries n → Some to ≡ text_of_prefix texts entry.text prefix → to ≢ entry.text →
      Gives (located entries) result (found keyword word to (top texts to ∷ [])) → Gives (located entries) result (across texts (located entries) keyword prefix word n)
  across_other keyword prefix word n entry to result here is other gives =
      gives ∙ ap (option_map Some)
      (ap (λ b. cond b (found keyword word to (located_of entry).place.blocks) (found keyword word to (top texts to ∷ []))) (sym (differ to entry.text other))
      ∙ sym (across_entry keyword prefix word n entry (Some to) (sym here) is))
    where
      differ : (a b : ℕ) → a ≢ b → (a == b) ≡ false
      differ a b e = grind (arith, nat_tests)

  -- a definition further out than the own block
  pub out_none : (keyword : Keyword) (word : List ℕ) (n : ℕ) → None ≡ option_and_then (λ (e : Entry). e.outer) (slice_get entries n) →
      false ≡ option_map_or (λ l. is_defined_out keyword word l.place) (slice_get (located entries) n) false
  out_none keyword word n is = by (slice_get entries n) refl
    where
      by : (o : Option Entry) → slice_get entries n ≡ o → false ≡ option_map_or (λ l. is_defined_out keyword word l.place) (slice_get (located entries) n) false
      by None none = sym (ap (λ o. option_map_or (λ (l : Located). is_defined_out keyword word l.place) o false) (located_none entries n none))
      by (Some entry) here =
          let alone : entry.outer ≡ None = sym (ap (option_and_then (λ (e : Entry). e.outer)) here) ∙ sym is in
          sym (ap (λ o. option_map_or (λ (l : Located). is_defined_out keyword word l.place) o false) (located_at entries whole.behind n entry here)
          ∙ ap (λ o. is_some (found keyword word entry.text (further_out (blocks_in (located entries) o)))) alone)

  pub out_some : (keyword : Keyword) (word : List ℕ) (n block : ℕ) → Some block ≡ option_and_then (λ (e : Entry). e.outer) (slice_get entries n) → (at : Option ℕ) →
      Gives (located entries) at (near (located entries) keyword word block) → is_some at ≡ option_map_or (λ l. is_defined_out keyword word l.place) (slice_get (located entries) n) false
  out_some keyword word n block is at gives =
      let s = stands n block (sym is) in
      given_some (located entries) at (near (located entries) keyword word block) gives
      ∙ ap is_some (near_entry keyword word block s.above s.there)
      ∙ ap (λ t. is_some (found keyword word t (blocks_in (located entries) s.above.outer))) s.text
      ∙ sym (ap (λ o. option_map_or (λ (l : Located). is_defined_out keyword word l.place) o false) (located_at entries whole.behind n s.entry s.here)
      ∙ ap (λ o. is_some (found keyword word s.entry.text (further_out (blocks_in (located entries) o)))) s.outer
      ∙ ap (λ bs. is_some (found keyword word s.entry.text (further_out bs))) (blocks_of block s.above s.there))

-- past the texts nothing stands
pub root_past : (texts : List Statement) (text : ℕ) → length texts ≤ text → None ≡ root texts text
root_past texts text le = ap (option_map (root_located text)) (sym (slice_get_past texts text le))

pub top_past : (texts : List Statement) (located : List Located) (keyword : Keyword) (word : List ℕ) (text : ℕ) → length texts ≤ text → Gives located None (found keyword word text (top texts text ∷ []))
top_past texts located keyword word text le = ap (λ (o : Option Statement). option_map Some (found keyword word text (option_map_or below o [] ∷ []))) (sym (slice_get_past texts text le))

-- a revision of a module
pub revision_is : (texts : List Statement) (statements : List Located) (text : ℕ) (date : List ℕ) (at : Option ℕ) →
    Gives statements at (found Revision date text (top texts text ∷ [])) → is_some at ≡ has_revision texts text date
revision_is texts statements text date at gives =
    given_some statements at (found Revision date text (top texts text ∷ [])) gives ∙ by (find (defines Revision date) (top texts text))
  where
    by : (o : Option Statement) →
        is_some {T = Located} (option_map_or (λ s. Some (record { statement = s; place = record { text = text; blocks = top texts text ∷ [] } })) o None) ≡ is_some o
    by None = refl
    by (Some s) = refl

-- a keyword that defines a name is no import
pub plain_of : (keyword : Keyword) → IsTrue (is_defining keyword) → is_import keyword ≡ false
plain_of Import e = absurd (cc)
plain_of keyword e = refl

-- a reference with and without a prefix
pub resolved_plain : (texts : List Statement) (located : List Located) (keyword : Keyword) (reference : List ℕ) (n : ℕ) (result : Option ℕ) → has_colon reference ≡ false →
    Gives located result (near located keyword reference n) → Gives located result (option_and_then (λ l. resolved texts keyword reference l.place) (slice_get located n))
resolved_plain texts located keyword reference n result plain gives =
    gives ∙ ap (λ b. option_map Some (option_and_then (λ (l : Located). cond b (option_and_then (found_in texts keyword (local_of reference) l.place) (text_of_prefix texts l.place.text (prefix_of reference)))
    (found keyword reference l.place.text l.place.blocks)) (slice_get located n))) (sym plain)

pub resolved_across : (texts : List Statement) (located : List Located) (keyword : Keyword) (reference prefix word : List ℕ) (n : ℕ) (result : Option ℕ) →
    (has_colon reference ≡ true) × (prefix ≡ prefix_of reference) × (word ≡ local_of reference) →
    Gives located result (across texts located keyword prefix word n) → Gives located result (option_and_then (λ l. resolved texts keyword reference l.place) (slice_get located n))
resolved_across texts located keyword reference prefix word n result h gives =
    gives
    ∙ ap (λ p. option_map Some (across texts located keyword p word n)) h.1
    ∙ ap (λ w. option_map Some (across texts located keyword (prefix_of reference) w n)) h.2
    ∙ ap (λ b. option_map Some (option_and_then (λ (l : Located). cond b (option_and_then (found_in texts keyword (local_of reference) l.place) (text_of_prefix texts l.place.text (prefix_of reference)))
    (found keyword reference l.place.text l.place.blocks)) (slice_get located n))) (sym h.0)
