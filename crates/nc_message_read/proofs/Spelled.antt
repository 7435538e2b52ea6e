-- Tokens that spell a tree are read as it.
use Rattle.std.proofs.Common.{◌≡◌, ℕ, zero, suc, ◌+◌, ◌<◌, ◌≤◌, true, false, cond, List, [], ◌∷◌, ◌++◌, length, None, Some, Result, Ok, Err, refl, sym, ap, ◌∙◌, append_assoc, arith, inl, inr}
use Rattle.std.specs.Prelude.{nat_le, ◌⊎◌, option_map}
use Rattle.std.specs.List.{list_all}
use Rattle.std.proofs.lemmas.Bool.Decides.{nat_tests}
use Rattle.nc_names.specs.Limits.{element_depth}
use Rattle.nc_names.specs.Signs.{is_white}
use Rattle.nc_message.specs.declared.tree.Why.{Why}
use Rattle.nc_message.specs.declared.tree.Why.TheVariants.{UnboundPrefix, Depth}
use Rattle.nc_message.specs.declared.tree.Elem.{Elem}
use Rattle.nc_message.specs.declared.tree.Part.{Part}
use Rattle.nc_message.specs.declared.tree.Part.TheVariants.{Child}
use Rattle.nc_message_read.specs.declared.open.Open.{Open}
use Rattle.nc_message.specs.Tokens.{Name, Tag, Token, Start, End, Run, Section, Comment, Instruction, Declaration}
use Rattle.nc_message_read.specs.inner.Opened.{open_of, elem_of, with_child, with_text, around, ends}
use Rattle.nc_message.specs.Resolved.{Head, has_unbound, opened}
use Rattle.nc_message.specs.Texts.{text_of}
use Rattle.nc_message_read.specs.inner.State.{State}
use Rattle.nc_message_read.specs.inner.Reads.{state, bounds_in, closed, entered, start_fits, fits, add_text, is_outside, step, begin}
use Rattle.nc_message_read.specs.inner.Fits.{go}
use Rattle.nc_message.specs.Spells.{Bit, Words, Inner, Remark, chars_of, joined, IsWords, IsRemark, AreBits, IsAlone, IsClosed, SpellsElem, IsMisc, AreMisc, HasRoot, Spells}

pub inside_is : (o : Open) (above : List Open) → is_outside (o ∷ above) ≡ false
inside_is o above = grind (arith, nat_tests)

-- tokens one after another
pub go_append : (s t : State) (xs ys : List Token) → go s xs ≡ Some t → go s (xs ++ ys) ≡ go t ys
go_append s t [] ys e = cc e
go_append s t (k ∷ ks) ys e = go_at t ks ys (step s k) (λ u h. go_append u t ks ys h) e where
  go_at : (t : State) (ks ys : List Token) (r : Result State Why) → ((u : State) → go u ks ≡ Some t → go u (ks ++ ys) ≡ go t ys)
      → elim r [ Err why ↦ None | Ok u ↦ go u ks ] ≡ Some t → elim r [ Err why ↦ None | Ok u ↦ go u (ks ++ ys) ] ≡ go t ys
  go_at t ks ys (Err why) more e = absurd (cc e)
  go_at t ks ys (Ok u) more e = more u e

-- one token
pub go_one : (s t : State) (k : Token) → step s k ≡ Ok t → go s (k ∷ []) ≡ Some t
go_one s t k e = ap (λ (r : Result State Why). elim r [ Err why ↦ None | Ok u ↦ Some u ]) e

pub go_cons : (s t : State) (k : Token) (ks : List Token) → step s k ≡ Ok t → go s (k ∷ ks) ≡ go t ks
go_cons s t k ks e = ap (λ (r : Result State Why). elim r [ Err why ↦ None | Ok u ↦ go u ks ]) e

-- what stands in an element so far
abbrev pub filled : Open → List Bit → Open
filled o [] = o
filled o (Words t ∷ bits) = filled (with_text o t) bits
filled o (Inner e ∷ bits) = filled (with_child o e) bits
filled o (Remark ∷ bits) = filled o bits

pub filled_is : (o : Open) (bits : List Bit) → elem_of (filled o bits) ≡ around o bits
filled_is o [] = refl
filled_is o (Words t ∷ bits) = filled_is (with_text o t) bits
filled_is o (Inner e ∷ bits) = filled_is (with_child o e) bits
    ∙ ap (λ (l : List Part). record { name = o.name; bounds = o.bounds; attrs = o.attrs; parts = l }) (append_assoc (o.parts ++ chars_of o.text) (Child e ∷ []) (joined [] bits) ∙ append_assoc o.parts (chars_of o.text) (Child e ∷ joined [] bits))
filled_is o (Remark ∷ bits) = filled_is o bits

pub filled_ends : (o : Open) (bits : List Bit) (n : Name) → ends (filled o bits) n ≡ ends o n
filled_ends o [] n = refl
filled_ends o (Words t ∷ bits) n = filled_ends (with_text o t) bits n
filled_ends o (Inner e ∷ bits) n = filled_ends (with_child o e) bits n
filled_ends o (Remark ∷ bits) n = filled_ends o bits n

-- text in an element
words_step : (o : Open) (above : List Open) (t : List ℕ) (k : Token) → IsWords t k → step (state (o ∷ above) None) k ≡ Ok (state (with_text o t ∷ above) None)
words_step o above t (Run raw) h =
    ap (λ b. fits (cond b (cond (list_all is_white raw) (Some (state (o ∷ above) None)) None) (add_text (o ∷ above) (text_of raw)))) (inside_is o above)
    ∙ ap (λ x. fits (add_text (o ∷ above) x)) h
words_step o above t (Section raw) h = ap (λ x. fits (add_text (o ∷ above) x)) h
words_step o above t (Start tag) h = absurd h
words_step o above t (End n) h = absurd h
words_step o above t (Comment raw) h = absurd h
words_step o above t (Instruction raw) h = absurd h
words_step o above t Declaration h = absurd h

remark_step : (s : State) (k : Token) → IsRemark k → step s k ≡ Ok s
remark_step s (Comment raw) h = ap (λ b. fits (cond b (Some s) None)) h
remark_step s (Instruction raw) h = ap (λ b. fits (cond b (Some s) None)) h
remark_step s (Run raw) h = absurd h
remark_step s Declaration h = absurd h
remark_step s (Section raw) h = absurd h
remark_step s (Start tag) h = absurd h
remark_step s (End n) h = absurd h

-- a start tag that fits
pub start_step : (above : List Open) (tag : Tag) (first : Head) → length above < 64 → has_unbound (bounds_in above) tag ≡ false → opened (bounds_in above) tag ≡ Some first
    → step (state above None) (Start tag) ≡ Ok (entered (open_of first) tag.alone above)
start_step above tag first room bound opens =
    let few : nat_le 64 (length above) ≡ false = grind (arith, nat_tests, room) in
    ap (λ b. cond b (Err Depth) (cond (has_unbound (bounds_in above) tag) (Err UnboundPrefix) (start_fits above tag (option_map open_of (opened (bounds_in above) tag))))) few
    ∙ ap (λ b. cond b (Err UnboundPrefix) (start_fits above tag (option_map open_of (opened (bounds_in above) tag)))) bound ∙ ap (λ o. start_fits above tag (option_map open_of o)) opens

-- elements of so many levels go from an open element to it with them as its children
abbrev ChildrenGo : ℕ → List Open → Type 0
ChildrenGo n above = (p : Open) (e : Elem) (ts : List Token) → SpellsElem n p.bounds e ts → go (state (p ∷ above) None) ts ≡ Some (state (with_child p e ∷ above) None)

bits_go : (n : ℕ) (above : List Open) → ChildrenGo n above → (o : Open) (bits : List Bit) (ts : List Token) → AreBits (SpellsElem n o.bounds) bits ts
    → go (state (o ∷ above) None) ts ≡ Some (state (filled o bits ∷ above) None)
bits_go n above child o [] ts h = ap (go (state (o ∷ above) None)) h
bits_go n above child o (Words t ∷ bits) ts h =
    let one : go (state (o ∷ above) None) h.0 ≡ Some (state (with_text o t ∷ above) None) =
    ap (go (state (o ∷ above) None)) h.3.1 ∙ go_one (state (o ∷ above) None) (state (with_text o t ∷ above) None) h.3.0 (words_step o above t h.3.0 h.3.2) in
    ap (go (state (o ∷ above) None)) h.2 ∙ go_append (state (o ∷ above) None) (state (with_text o t ∷ above) None) h.0 h.1 one
    ∙ bits_go n above child (with_text o t) bits h.1 h.4
bits_go n above child o (Inner e ∷ bits) ts h =
    let one : go (state (o ∷ above) None) h.0 ≡ Some (state (with_child o e ∷ above) None) = child o e h.0 h.3 in
    ap (go (state (o ∷ above) None)) h.2 ∙ go_append (state (o ∷ above) None) (state (with_child o e ∷ above) None) h.0 h.1 one
    ∙ bits_go n above child (with_child o e) bits h.1 h.4
bits_go n above child o (Remark ∷ bits) ts h =
    let one : go (state (o ∷ above) None) h.0 ≡ Some (state (o ∷ above) None) =
    ap (go (state (o ∷ above) None)) h.3.1 ∙ go_one (state (o ∷ above) None) (state (o ∷ above) None) h.3.0 (remark_step (state (o ∷ above) None) h.3.0 h.3.2) in
    ap (go (state (o ∷ above) None)) h.2 ∙ go_append (state (o ∷ above) None) (state (o ∷ above) None) h.0 h.1 one
    ∙ bits_go n above child o bits h.1 h.4

pub end_step : (o : Open) (above : List Open) (n : Name) → ends o n ≡ true → step (state (o ∷ above) None) (End n) ≡ Ok (closed (elem_of o) above)
end_step o above n h = ap (λ b. fits (cond b (Some (closed (elem_of o) above)) None)) h

-- the end of an element whose content was read
close_go : (n : ℕ) (above : List Open) (first : Open) (bits : List Bit) (inner : List Token) (name : Name) → ChildrenGo n above
    → AreBits (SpellsElem n first.bounds) bits inner → ends first name ≡ true
    → go (state (first ∷ above) None) (inner ++ End name ∷ []) ≡ Some (closed (around first bits) above)
close_go n above first bits inner name child are h =
    go_append (state (first ∷ above) None) (state (filled first bits ∷ above) None) inner (End name ∷ []) (bits_go n above child first bits inner are)
    ∙ go_one (state (filled first bits ∷ above) None) (closed (elem_of (filled first bits)) above) (End name) (end_step (filled first bits) above name (filled_ends first bits name ∙ h))
    ∙ ap (λ e. Some (closed e above)) (filled_is first bits)

ending_go : (n : ℕ) (above : List Open) (tag : Tag) (first : Head) (bits : List Bit) (behind : List Token) → ChildrenGo n above
    → IsAlone tag bits behind ⊎ IsClosed (SpellsElem n first.bounds) tag first bits behind
    → go (entered (open_of first) tag.alone above) behind ≡ Some (closed (around (open_of first) bits) above)
ending_go n above tag first bits behind child (inl h) =
    ap (go (entered (open_of first) tag.alone above)) h.2 ∙ ap (λ b. Some (cond b (closed (elem_of (open_of first)) above) (state (open_of first ∷ above) None))) h.0 ∙ ap (λ l. Some (closed (around (open_of first) l) above)) (sym h.1)
ending_go n above tag first bits behind child (inr h) =
    ap (go (entered (open_of first) tag.alone above)) h.whole ∙ ap (λ b. go (cond b (closed (elem_of (open_of first)) above) (state (open_of first ∷ above) None)) (h.inner ++ End h.name ∷ [])) h.open_to
    ∙ close_go n above (open_of first) bits h.inner h.name child h.are h.ends

pub elem_go : (n : ℕ) (above : List Open) (e : Elem) (ts : List Token) → length above + n ≤ 64 → SpellsElem n (bounds_in above) e ts → go (state above None) ts ≡ Some (closed e above)
elem_go zero above e ts room h = absurd h
elem_go (suc n) above e ts room h =
    let less : length above < 64 = omega (arith, room) in
    let child : ChildrenGo n above = λ p x xs s. elem_go n (p ∷ above) x xs (omega (arith, room)) s in
    ap (go (state above None)) h.whole ∙ go_cons (state above None) (entered (open_of h.first) h.tag.alone above) (Start h.tag) h.behind (start_step above h.tag h.first less h.bound h.opens)
    ∙ ending_go n above h.tag h.first h.bits h.behind child h.ending ∙ ap (λ x. Some (closed x above)) (sym h.tree)

misc_step : (s : State) (k : Token) → s.above ≡ [] → IsMisc k → step s k ≡ Ok s
misc_step s (Run raw) e h =
    ap (λ l. fits (cond (is_outside l) (cond (list_all is_white raw) (Some s) None) (add_text s.above (text_of raw)))) e
    ∙ ap (λ b. fits (cond b (Some s) None)) h
misc_step s (Comment raw) e h = ap (λ b. fits (cond b (Some s) None)) h
misc_step s (Instruction raw) e h = ap (λ b. fits (cond b (Some s) None)) h
misc_step s (Section raw) e h = absurd h
misc_step s (Start tag) e h = absurd h
misc_step s (End n) e h = absurd h
misc_step s Declaration e h = absurd h

misc_go : (s : State) (ts : List Token) → s.above ≡ [] → AreMisc ts → go s ts ≡ Some s
misc_go s [] e h = refl
misc_go s (k ∷ ks) e h = go_cons s s k ks (misc_step s k e h.0) ∙ misc_go s ks e h.1

-- a start tag fits before the declaration as after it
fresh_start : (ts : List Token) (tag : Tag) (behind : List Token) → ts ≡ Start tag ∷ behind → go begin ts ≡ go (state [] None) ts
fresh_start ts tag behind e = ap (go begin) e ∙ sym (ap (go (state [] None)) e)

-- the tokens of a root among what may stand outside of it
root_go : (s : State) (ts : List Token) (e : Elem) → s.above ≡ [] → ((xs : List Token) → SpellsElem element_depth [] e xs → go s xs ≡ go (state [] None) xs)
    → HasRoot ts e → go s ts ≡ Some (state [] (Some e))
root_go s ts e outside same h =
    let room : 0 + 64 ≤ 64 = omega arith in
    ap (go s) h.whole ∙ go_append s s h.before (h.middle ++ h.after) (misc_go s h.before outside h.misc_before)
    ∙ go_append s (state [] (Some e)) h.middle h.after (same h.middle h.element ∙ elem_go 64 [] e h.middle room h.element)
    ∙ misc_go (state [] (Some e)) h.after refl h.misc_after

-- the tokens of a message fit, and lead to its root
pub spelled_go : (ts : List Token) (e : Elem) → Spells ts e → go begin ts ≡ Some (state [] (Some e))
spelled_go ts e (inl h) = root_go begin ts e refl (λ xs is. fresh_start xs is.tag is.behind is.whole) h
spelled_go ts e (inr h) =
    ap (go begin) h.whole ∙ go_append begin begin h.before (Declaration ∷ h.rest) (misc_go begin h.before refl h.misc_before)
    ∙ go_cons begin (state [] None) Declaration h.rest refl
    ∙ root_go (state [] None) h.rest e refl (λ xs is. refl) h.has_root
