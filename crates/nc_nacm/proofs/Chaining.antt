-- Where the first rule is that passes, of rules in chains.
use Rattle.std.proofs.Common.{◌≡◌, ◌&&◌, ◌||◌, ◌==◌, ◌+◌, ◌++◌, ◌<◌, ◌≤◌, ◌%◌, ℕ, zero, suc, Bool, true, false, cond, List, [], ◌∷◌, get_or, length, drop, map, refl, sym, ap, ◌∙◌, arith, eqb-true, eq-eqb, Some, None, Bor}
use Rattle.std.proofs.lemmas.List.{at_drop_all, at_drop_more, drop-drop, get_or-drop, get_or-map, length-drop, length-map}
use Rattle.std.proofs.lemmas.List.Folds.{list_any-append}
use Rattle.std.specs.List.{AllZip, flat_map, list_any, position_from}
use Rattle.nc_names.specs.declared.path.Step.{Step}
use Rattle.nc_names.specs.declared.path.Right.{Right}
use Rattle.nc_model.specs.declared.policy.Rule.{Rule}
use Rattle.nc_nacm.specs.inner.Chains.{IsAnchor, IsLinkedFrom, is_candidate, is_in, lesser, place, place_among, place_of}
use Rattle.nc_nacm.specs.inner.Found.{matches_under}
use Rattle.nc_nacm.specs.inner.Marks.{is_among, key_mark, key_marks, path_marks, step_marks}
use Rattle.nc_nacm.proofs.Covering.{both, left_true, or_left, or_right}

-- ---- the lesser of two numbers
pub lesser_assoc : (a b c : ℕ) → lesser (lesser a b) c ≡ lesser a (lesser b c)
lesser_assoc zero b c = refl
lesser_assoc (suc a) zero c = refl
lesser_assoc (suc a) (suc b) zero = refl
lesser_assoc (suc a) (suc b) (suc c) = ap suc (lesser_assoc a b c)

pub lesser_left : (a b : ℕ) → a ≤ b → lesser a b ≡ a
lesser_left zero b le = refl
lesser_left (suc a) zero le = absurd (omega (arith, le))
lesser_left (suc a) (suc b) le = ap suc (lesser_left a b (omega (arith, le)))

pub lesser_right : (a b : ℕ) → b ≤ a → lesser a b ≡ b
lesser_right zero zero le = refl
lesser_right zero (suc b) le = absurd (omega (arith, le))
lesser_right (suc a) zero le = refl
lesser_right (suc a) (suc b) le = ap suc (lesser_right a b (omega (arith, le)))

pub lesser_within : (a b : ℕ) → lesser a b ≤ a
lesser_within zero b = omega arith
lesser_within (suc a) zero = omega arith
lesser_within (suc a) (suc b) = omega (arith, lesser_within a b)

-- a limit stays within
pub stays_within : (n limit next other : ℕ) → limit ≤ n → next ≡ lesser limit other → next ≤ n
stays_within n limit next other within is = omega (arith, within, is, lesser_within limit other)

-- what is less than the one is the other
pub lesser_is : (a b c : ℕ) → c ≡ lesser a b → c < a → c ≡ b
lesser_is zero b c is less = absurd (omega (arith, less))
lesser_is (suc a) zero c is less = is
lesser_is (suc a) (suc b) zero is less = absurd (omega (arith, is))
lesser_is (suc a) (suc b) (suc c) is less = ap suc (lesser_is a b c (omega (arith, is)) (omega (arith, less)))

-- where the lesser is not less than the one, the other is not
lesser_past : (a b c : ℕ) → c ≡ lesser a b → a ≤ c → a ≤ b
lesser_past zero b c is past = omega arith
lesser_past (suc a) zero c is past = absurd (omega (arith, is, past))
lesser_past (suc a) (suc b) zero is past = absurd (omega (arith, past))
lesser_past (suc a) (suc b) (suc c) is past = omega (arith, lesser_past a b c (omega (arith, is)) (omega (arith, past)))

-- ---- tests
false_of : (b : Bool) → (b ≡ true → ⊥) → b ≡ false
false_of true never = absurd (never refl)
false_of false never = refl

same_test : (a b : Bool) → (a ≡ true → b ≡ true) → (b ≡ true → a ≡ true) → a ≡ b
same_test true b there back = sym (there refl)
same_test false true there back = back refl
same_test false false there back = refl

-- ---- the place of the first
pub either_place : (f g : ℕ → Rule → Bool) (marks : List ℕ) (rules : List Rule) →
    place_of (λ mark rule. f mark rule || g mark rule) marks rules ≡ lesser (place_of f marks rules) (place_of g marks rules)
either_place f g [] rules = refl
either_place f g (mark ∷ marks) [] = refl
either_place f g (mark ∷ marks) (rule ∷ rules) = by (f mark rule) (g mark rule) (either_place f g marks rules)
  where
    by : (a b : Bool) → place_of (λ one other. f one other || g one other) marks rules ≡ lesser (place_of f marks rules) (place_of g marks rules) →
        cond (a || b) 0 (suc (place_of (λ one other. f one other || g one other) marks rules))
        ≡ lesser (cond a 0 (suc (place_of f marks rules))) (cond b 0 (suc (place_of g marks rules)))
    by true b rest = refl
    by false true rest = refl
    by false false rest = ap suc rest

never_place : (marks : List ℕ) (rules : List Rule) → length marks ≡ length rules → place_of (λ mark rule. false) marks rules ≡ length rules
never_place [] [] long = refl
never_place [] (rule ∷ rules) long = absurd (omega (arith, long))
never_place (mark ∷ marks) [] long = absurd (omega (arith, long))
never_place (mark ∷ marks) (rule ∷ rules) long = ap suc (never_place marks rules (omega (arith, long)))

pub same_long : (marks : List ℕ) (rules : List Rule) → AllZip IsAnchor marks rules → length marks ≡ length rules
same_long [] [] all = refl
same_long [] (rule ∷ rules) all = absurd all
same_long (mark ∷ marks) [] all = absurd all
same_long (mark ∷ marks) (rule ∷ rules) all = ap suc (same_long marks rules all.1)

module _ (test : Rule → Bool) (its : List ℕ) (rules : List Rule) where
  pub among_more : (limit mark : ℕ) (marks : List ℕ) → lesser (lesser limit (place_of (is_candidate test mark) its rules)) (place_among test marks its rules)
      ≡ lesser limit (place_among test (mark ∷ marks) its rules)
  among_more limit mark marks =
      lesser_assoc limit (place_of (is_candidate test mark) its rules) (place_among test marks its rules)
      ∙ ap (lesser limit) (sym (either_place (is_candidate test mark) (λ one rule. list_any (λ other. is_candidate test other one rule) marks) its rules))

  pub among_both : (limit : ℕ) (marks others : List ℕ) → lesser (lesser limit (place_among test marks its rules)) (place_among test others its rules)
      ≡ lesser limit (place_among test (marks ++ others) its rules)
  among_both limit marks others =
      lesser_assoc limit (place_among test marks its rules) (place_among test others its rules)
      ∙ ap (lesser limit) (sym (ap (λ f. place_of f its rules) (λ i one rule. each one rule i)
      ∙ either_place (λ one rule. list_any (λ other. is_candidate test other one rule) marks) (λ one rule. list_any (λ other. is_candidate test other one rule) others) its rules))
    where
      each : (one : ℕ) (rule : Rule) → list_any (λ mark. is_candidate test mark one rule) (marks ++ others)
          ≡ (list_any (λ mark. is_candidate test mark one rule) marks || list_any (λ mark. is_candidate test mark one rule) others)
      each one rule = list_any-append (λ mark. is_candidate test mark one rule) marks others

  pub among_none : (limit : ℕ) → AllZip IsAnchor its rules → limit ≤ length rules → limit ≡ lesser limit (place_among test [] its rules)
  among_none limit anchored within =
      sym (lesser_left limit (place_among test [] its rules) (omega (arith, within, never_place its rules (same_long its rules anchored))))

  -- the keys of a step, one after another
  pub keys_more : (node at : ℕ) (keys : List (List ℕ)) (key : List ℕ) (limit next all : ℕ) → at < length keys → key ≡ get_or keys at key →
      next ≡ lesser limit (place_of (is_candidate test (key_mark node at key)) its rules) →
      lesser limit (place_among test (key_marks node at (drop at keys)) its rules) ≡ all →
      lesser next (place_among test (key_marks node (at + 1) (drop (at + 1) keys)) its rules) ≡ all
  keys_more node at keys key limit next all within is next_is so =
      ap (λ one. lesser one (place_among test (key_marks node (at + 1) (drop (at + 1) keys)) its rules)) next_is
      ∙ among_more limit (key_mark node at key) (key_marks node (at + 1) (drop (at + 1) keys))
      ∙ ap (λ one. lesser limit (place_among test (key_mark node at one ∷ key_marks node (at + 1) (drop (at + 1) keys)) its rules)) is
      ∙ sym (at_drop_more (λ left. lesser limit (place_among test (key_marks node at left) its rules)) keys at key within) ∙ so

  pub keys_end : (node at : ℕ) (keys : List (List ℕ)) (limit all : ℕ) → AllZip IsAnchor its rules → length keys ≤ at → limit ≤ length rules →
      lesser limit (place_among test (key_marks node at (drop at keys)) its rules) ≡ all → limit ≡ all
  keys_end node at keys limit all anchored past within so =
      among_none limit anchored within
      ∙ sym (at_drop_all (λ left. lesser limit (place_among test (key_marks node at left) its rules)) keys at past) ∙ so

  -- the steps of a path
  pub steps_more : (steps : List Step) (at : ℕ) (step : Step) (limit next all : ℕ) → at < length steps → step ≡ get_or steps at step →
      next ≡ lesser limit (place_among test (step_marks step) its rules) →
      lesser limit (place_among test (flat_map step_marks (drop at steps)) its rules) ≡ all →
      lesser next (place_among test (flat_map step_marks (drop (at + 1) steps)) its rules) ≡ all
  steps_more steps at step limit next all within is next_is so =
      ap (λ one. lesser one (place_among test (flat_map step_marks (drop (at + 1) steps)) its rules)) next_is
      ∙ among_both limit (step_marks step) (flat_map step_marks (drop (at + 1) steps))
      ∙ ap (λ one. lesser limit (place_among test (step_marks one ++ flat_map step_marks (drop (at + 1) steps)) its rules)) is
      ∙ sym (at_drop_more (λ left. lesser limit (place_among test (flat_map step_marks left) its rules)) steps at step within) ∙ so

  pub steps_end : (steps : List Step) (at limit all : ℕ) → AllZip IsAnchor its rules → length steps ≤ at → limit ≤ length rules →
      lesser limit (place_among test (flat_map step_marks (drop at steps)) its rules) ≡ all → limit ≡ all
  steps_end steps at limit all anchored past within so =
      among_none limit anchored within
      ∙ sym (at_drop_all (λ left. lesser limit (place_among test (flat_map step_marks left) its rules)) steps at past) ∙ so

-- ---- a walk along a chain
place_at : (test : ℕ → Rule → Bool) (marks : List ℕ) (rules : List Rule) (at : ℕ) (rule : Rule) → at < length marks → at < length rules →
    place_of test (drop at marks) (drop at rules) ≡ cond (test (get_or marks at 0) (get_or rules at rule)) 0 (suc (place_of test (drop (at + 1) marks) (drop (at + 1) rules)))
place_at test marks rules at rule here there =
    at_drop_more (λ left. place_of test left (drop at rules)) marks at 0 here
    ∙ at_drop_more (λ left. place_of test (get_or marks at 0 ∷ drop (at + 1) marks) left) rules at rule there

-- what passes no weaker test before a place passes not there
skipped : (weak : ℕ → Bool) (test : ℕ → Rule → Bool) → ((mark : ℕ) (rule : Rule) → test mark rule ≡ true → weak mark ≡ true) →
    (marks : List ℕ) (rules : List Rule) → length marks ≡ length rules →
    place_of test marks rules ≡ place weak marks + place_of test (drop (place weak marks) marks) (drop (place weak marks) rules)
skipped weak test weaker [] rules long = refl
skipped weak test weaker (mark ∷ marks) [] long = absurd (omega (arith, long))
skipped weak test weaker (mark ∷ marks) (rule ∷ rules) long = by (weak mark) refl (skipped weak test weaker marks rules (omega (arith, long)))
  where
    fails : weak mark ≡ false → test mark rule ≡ false
    fails is = false_of (test mark rule) (λ passes. let clash : false ≡ true = sym is ∙ weaker mark rule passes in absurd (cc))

    by : (b : Bool) → weak mark ≡ b → place_of test marks rules ≡ place weak marks + place_of test (drop (place weak marks) marks) (drop (place weak marks) rules) →
        place_of test (mark ∷ marks) (rule ∷ rules)
        ≡ cond b 0 (suc (place weak marks)) + place_of test (drop (cond b 0 (suc (place weak marks))) (mark ∷ marks)) (drop (cond b 0 (suc (place weak marks))) (rule ∷ rules))
    by true is rest = let same : place_of test (mark ∷ marks) (rule ∷ rules) ≡ 0 + place_of test (mark ∷ marks) (rule ∷ rules) = omega arith in same
    by false is rest =
        let more : suc (place weak marks + place_of test (drop (place weak marks) marks) (drop (place weak marks) rules))
        ≡ suc (place weak marks) + place_of test (drop (place weak marks) marks) (drop (place weak marks) rules) = omega arith in
        ap (λ b. cond b 0 (suc (place_of test marks rules))) (fails is) ∙ ap suc rest ∙ more

passes_there : (weak : ℕ → Bool) (marks : List ℕ) → place weak marks < length marks → weak (get_or marks (place weak marks) 0) ≡ true
passes_there weak [] within = absurd (omega (arith, within))
passes_there weak (mark ∷ marks) within = by (weak mark) refl (passes_there weak marks) within
  where
    by : (b : Bool) → weak mark ≡ b → (place weak marks < length marks → weak (get_or marks (place weak marks) 0) ≡ true) →
        cond b 0 (suc (place weak marks)) < suc (length marks) → weak (get_or (mark ∷ marks) (cond b 0 (suc (place weak marks))) 0) ≡ true
    by true is rest less = is
    by false is rest less = rest (omega (arith, less))

-- a place of a chain: the first candidate is there or behind it, and it is in the bucket
pub record StandsAt (test : Rule → Bool) (count mark : ℕ) (marks : List ℕ) (rules : List Rule) (at : ℕ) : Type 0 where
  pub rest : place_of (is_candidate test mark) marks rules ≡ at + place_of (is_candidate test mark) (drop at marks) (drop at rules)
  pub in_bucket : at < length marks → is_in count (mark % count) (get_or marks at 0) ≡ true

module _ (test : Rule → Bool) (mark : ℕ) (marks heads nexts : List ℕ) (rules : List Rule) (anchored : AllZip IsAnchor marks rules) (linked : IsLinkedFrom 0 marks heads nexts) where
  abbrev count : ℕ
  count = length heads

  abbrev weak : ℕ → Bool
  weak = is_in count (mark % count)

  weaker : (one : ℕ) (rule : Rule) → is_candidate test mark one rule ≡ true → weak one ≡ true
  weaker one rule passes =
      let same : one ≡ mark = eqb-true one mark (left_true (one == mark) (test rule) passes) in
      eq-eqb (one % count) (mark % count) (ap (λ number. number % count) same)

  pub start : (at : ℕ) → mark % count < count → at ≡ get_or heads (mark % count) 0 → StandsAt test count mark marks rules at
  start at within is =
      let at_is : at ≡ place weak marks = omega (arith, is, linked.heads_are (mark % count) within) in
      record {
        rest = skipped weak (is_candidate test mark) weaker marks rules (same_long marks rules anchored)
            ∙ ap (λ one. one + place_of (is_candidate test mark) (drop one marks) (drop one rules)) (sym at_is);
        in_bucket = λ less. ap (λ one. weak (get_or marks one 0)) at_is ∙ passes_there weak marks (omega (arith, less, at_is));
      }

  -- the next in the bucket, where a place has no candidate
  next_is : (at next : ℕ) → StandsAt test count mark marks rules at → at < length marks → next ≡ get_or nexts at 0 →
      next ≡ at + 1 + place weak (drop (at + 1) marks)
  next_is at next stands within is =
      let same : get_or marks at 0 % count ≡ mark % count = eqb-true (get_or marks at 0 % count) (mark % count) (stands.in_bucket within) in
      is ∙ linked.nexts_are at (omega arith) within
      ∙ ap (λ bucket. at + 1 + place (is_in count bucket) (drop (at + 1) marks)) same

  pub next_behind : (at next : ℕ) → StandsAt test count mark marks rules at → at < length marks → next ≡ get_or nexts at 0 → at < next
  next_behind at next stands within is = omega (arith, next_is at next stands within is)

  pub next_stands : (at next : ℕ) (rule : Rule) → StandsAt test count mark marks rules at → at < length marks → next ≡ get_or nexts at 0 →
      is_candidate test mark (get_or marks at 0) (get_or rules at rule) ≡ false → StandsAt test count mark marks rules next
  next_stands at next rule stands within is fails =
      let long = same_long marks rules anchored in
      let k : ℕ = place weak (drop (at + 1) marks) in
      let to : next ≡ at + 1 + k = next_is at next stands within is in
      let here : place_of (is_candidate test mark) (drop at marks) (drop at rules)
      ≡ suc (place_of (is_candidate test mark) (drop (at + 1) marks) (drop (at + 1) rules)) =
      place_at (is_candidate test mark) marks rules at rule within (omega (arith, long, within))
      ∙ ap (λ b. cond b 0 (suc (place_of (is_candidate test mark) (drop (at + 1) marks) (drop (at + 1) rules)))) fails in
      let skip : place_of (is_candidate test mark) (drop (at + 1) marks) (drop (at + 1) rules)
      ≡ k + place_of (is_candidate test mark) (drop k (drop (at + 1) marks)) (drop k (drop (at + 1) rules)) =
      skipped weak (is_candidate test mark) weaker (drop (at + 1) marks) (drop (at + 1) rules)
      (omega (arith, long, length-drop (at + 1) marks, length-drop (at + 1) rules)) in
      let there : place_of (is_candidate test mark) (drop k (drop (at + 1) marks)) (drop k (drop (at + 1) rules))
      ≡ place_of (is_candidate test mark) (drop next marks) (drop next rules) =
      (λ i. place_of (is_candidate test mark) ((drop-drop k (at + 1) marks ∙ ap (λ n. drop n marks) (behind at k next to)) i)
      ((drop-drop k (at + 1) rules ∙ ap (λ n. drop n rules) (behind at k next to)) i)) in
      record {
        rest = omega (arith, stands.rest, here, skip, there, to);
        in_bucket = λ less. ap (λ one. weak (get_or marks one 0)) to ∙ ap weak (sym (get_or-drop (at + 1) marks k 0))
            ∙ passes_there weak (drop (at + 1) marks) (omega (arith, less, to, length-drop (at + 1) marks));
      }
    where
      behind : (at k next : ℕ) → next ≡ at + 1 + k → at + 1 + k ≡ next
      behind at k next to = sym to

  pub stops_at : (at limit : ℕ) (rule : Rule) → StandsAt test count mark marks rules at → at < limit → limit ≤ length rules →
      is_candidate test mark (get_or marks at 0) (get_or rules at rule) ≡ true → at ≡ lesser limit (place_of (is_candidate test mark) marks rules)
  stops_at at limit rule stands less within passes =
      let long = same_long marks rules anchored in
      let here : place_of (is_candidate test mark) (drop at marks) (drop at rules) ≡ 0 =
      place_at (is_candidate test mark) marks rules at rule (omega (arith, long, less, within)) (omega (arith, less, within))
      ∙ ap (λ b. cond b 0 (suc (place_of (is_candidate test mark) (drop (at + 1) marks) (drop (at + 1) rules)))) passes in
      let all : place_of (is_candidate test mark) marks rules ≡ at = omega (arith, stands.rest, here) in
      sym (lesser_right limit (place_of (is_candidate test mark) marks rules) (omega (arith, all, less)) ∙ all)

  pub ends_at : (at limit : ℕ) → StandsAt test count mark marks rules at → limit ≤ at → limit ≡ lesser limit (place_of (is_candidate test mark) marks rules)
  ends_at at limit stands past = sym (lesser_left limit (place_of (is_candidate test mark) marks rules) (omega (arith, past, stands.rest)))

-- ---- all that a path has
any_passes : (b : Bool) (one : ℕ) (marks : List ℕ) → list_any (λ mark. (one == mark) && b) marks ≡ true → b ≡ true
any_passes true one marks any = refl
any_passes false one [] any = any
any_passes false one (mark ∷ marks) any = any_passes false one marks (by (one == mark) any)
  where
    by : (c : Bool) → ((c && false) || list_any (λ other. (one == other) && false) marks) ≡ true → list_any (λ other. (one == other) && false) marks ≡ true
    by true e = e
    by false e = e

any_there : (b : Bool) (one : ℕ) (marks : List ℕ) → b ≡ true → is_among marks one ≡ true → list_any (λ mark. (one == mark) && b) marks ≡ true
any_there b one [] is there = there
any_there b one (mark ∷ marks) is there = by (mark == one) refl there (any_there b one marks is)
  where
    by : (c : Bool) → (mark == one) ≡ c → (c || is_among marks one) ≡ true → (is_among marks one ≡ true → list_any (λ other. (one == other) && b) marks ≡ true) →
        (((one == mark) && b) || list_any (λ other. (one == other) && b) marks) ≡ true
    by true e there more =
        or_left ((one == mark) && b) (list_any (λ other. (one == other) && b) marks)
        (both (one == mark) b (eq-eqb one mark (sym (eqb-true mark one e))) is)
    by false e there more = or_right ((one == mark) && b) (list_any (λ other. (one == other) && b) marks) (more there)

module _ (name : List ℕ) (steps : List Step) (right : Right) where
  abbrev matches : Rule → Bool
  matches = matches_under name steps right

  found_by : (mark : ℕ) (rule : Rule) → IsAnchor mark rule → list_any (λ other. is_candidate matches other mark rule) (path_marks name steps) ≡ matches rule
  found_by mark rule anchor =
      same_test (list_any (λ other. is_candidate matches other mark rule) (path_marks name steps)) (matches rule)
      (any_passes (matches rule) mark (path_marks name steps))
      (λ passes. any_there (matches rule) mark (path_marks name steps) passes (anchor name steps right passes))

  all_found_by : (marks : List ℕ) (rules : List Rule) → AllZip IsAnchor marks rules → place_among matches (path_marks name steps) marks rules ≡ place matches rules
  all_found_by [] [] all = refl
  all_found_by [] (rule ∷ rules) all = absurd all
  all_found_by (mark ∷ marks) [] all = absurd all
  all_found_by (mark ∷ marks) (rule ∷ rules) all = λ i. cond (found_by mark rule all.0 i) 0 (suc (all_found_by marks rules all.1 i))

  placed : (n : ℕ) (rules : List Rule) → place matches rules < length rules → Some (n + place matches rules) ≡ position_from matches n rules
  placed n [] within = absurd (omega (arith, within))
  placed n (rule ∷ rules) within = by (matches rule) (placed (n + 1) rules) within
    where
      by : (b : Bool) → (place matches rules < length rules → Some (n + 1 + place matches rules) ≡ position_from matches (n + 1) rules) →
          cond b 0 (suc (place matches rules)) < suc (length rules) → Some (n + cond b 0 (suc (place matches rules))) ≡ cond b (Some n) (position_from matches (n + 1) rules)
      by true rest less = let same : n + 0 ≡ n = omega arith in ap Some same
      by false rest less =
          let same : n + suc (place matches rules) ≡ n + 1 + place matches rules = omega arith in
          ap Some same ∙ rest (omega (arith, less))

  not_placed : (n : ℕ) (rules : List Rule) → length rules ≤ place matches rules → None ≡ position_from matches n rules
  not_placed n [] past = refl
  not_placed n (rule ∷ rules) past = by (matches rule) (not_placed (n + 1) rules) past
    where
      by : (b : Bool) → (length rules ≤ place matches rules → None ≡ position_from matches (n + 1) rules) →
          suc (length rules) ≤ cond b 0 (suc (place matches rules)) → None ≡ cond b (Some n) (position_from matches (n + 1) rules)
      by true rest le = absurd (omega (arith, le))
      by false rest le = rest (omega (arith, le))

  pub is_found : (marks : List ℕ) (rules : List Rule) (limit at : ℕ) → AllZip IsAnchor marks rules → limit ≤ length rules → at < limit →
      at ≡ lesser limit (place_among matches (path_marks name steps) marks rules) → Some at ≡ position_from matches 0 rules
  is_found marks rules limit at anchored within less is =
      let same : at ≡ place matches rules = lesser_is limit (place_among matches (path_marks name steps) marks rules) at is less ∙ all_found_by marks rules anchored in
      let zero_more : at ≡ 0 + place matches rules = omega (arith, same) in
      ap Some zero_more ∙ placed 0 rules (omega (arith, same, less, within))

  pub is_missing : (marks : List ℕ) (rules : List Rule) (limit at : ℕ) → AllZip IsAnchor marks rules → limit ≡ length rules → limit ≤ at →
      at ≡ lesser limit (place_among matches (path_marks name steps) marks rules) → None ≡ position_from matches 0 rules
  is_missing marks rules limit at anchored whole past is =
      not_placed 0 rules (omega (arith, whole, lesser_past limit (place_among matches (path_marks name steps) marks rules) at is past, all_found_by marks rules anchored))

-- ---- rules that are referred to
abbrev pub rules_of : List (Bor Rule) → List Rule
rules_of rules = map (λ (one : Bor Rule). one.now) rules

pub rules_long : (rules : List (Bor Rule)) → length (rules_of rules) ≡ length rules
rules_long rules = length-map rules (λ (one : Bor Rule). one.now)

pub rule_at : (rules : List (Bor Rule)) (at : ℕ) (rule : Bor Rule) → at < length rules → rule ≡ get_or rules at rule → get_or (rules_of rules) at rule.now ≡ rule.now
rule_at rules at rule within is = get_or-map (λ (one : Bor Rule). one.now) rules at rule rule.now within ∙ ap (λ (one : Bor Rule). one.now) (sym is)
