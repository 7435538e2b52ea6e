-- Tokens that are read as a tree spell it.
use Rattle.std.proofs.Common.{◌≡◌, ℕ, suc, ◌-◌, ◌<◌, Bool, true, false, cond, List, [], ◌∷◌, ◌++◌, length, Option, None, Some, option_map, Result, Ok, Err, refl, sym, ap, subst, ◌∙◌, append_assoc, arith, inl, inr}
use Rattle.std.specs.Prelude.{nat_le}
use Rattle.std.specs.List.{list_all}
use Rattle.std.proofs.lemmas.Bool.Decides.{nat_tests}
use Rattle.nc_names.specs.Signs.{is_white}
use Rattle.nc_names.specs.declared.name.Bound.{Bound}
use Rattle.nc_message.specs.declared.tree.Why.{Why}
use Rattle.nc_message.specs.declared.tree.Why.TheVariants.{NotWellFormed, UnboundPrefix, Depth}
use Rattle.nc_message.specs.declared.tree.Elem.{Elem}
use Rattle.nc_message_read.specs.declared.open.Open.{Open}
use Rattle.nc_message.specs.Tokens.{Name, Tag, Token, Start, End, Run, Section, Comment, Instruction, Declaration}
use Rattle.nc_message.specs.declared.tree.Part.{Part}
use Rattle.nc_message.specs.declared.tree.Part.TheVariants.{Child}
use Rattle.nc_message_read.specs.inner.Opened.{open_of, elem_of, with_child, with_text, around, ends}
use Rattle.nc_message.specs.Resolved.{Head, has_unbound, opened}
use Rattle.nc_message.specs.Texts.{text_of, section_of, is_allowed}
use Rattle.nc_message_read.specs.inner.State.{State}
use Rattle.nc_message_read.specs.inner.Reads.{state, bounds_in, closed, entered, start_fits, fits, add_text, step, begin}
use Rattle.nc_message_read.specs.inner.Fits.{go}
use Rattle.nc_message.specs.Spells.{Bit, Words, Inner, Remark, chars_of, joined, IsWords, IsRemark, IsBit, AreBits, SpellsElem, IsMisc, AreMisc, HasRoot, Spells}
use Rattle.nc_message_read.proofs.Spelled.{inside_is}

-- Single steps, backwards.

-- a first token that fits
pub go_ok : (s f : State) (k : Token) (ks : List Token) → go s (k ∷ ks) ≡ Some f → (t : State) × (step s k ≡ Ok t) × (go t ks ≡ Some f)
go_ok s f k ks e = ok_at f ks (step s k) e where
  ok_at : (f : State) (ks : List Token) (r : Result State Why) → elim r [ Err why ↦ None | Ok t ↦ go t ks ] ≡ Some f → (t : State) × (r ≡ Ok t) × (go t ks ≡ Some f)
  ok_at f ks (Err why) e = absurd (cc e)
  ok_at f ks (Ok t) e = (t, refl, e)

-- a test that was passed
pub passed : (b : Bool) (why : Why) (r : Result State Why) (t : State) → cond b (Err why) r ≡ Ok t → (b ≡ false) × (r ≡ Ok t)
passed true why r t e = absurd (cc e)
passed false why r t e = (refl, e)

pub held : (b : Bool) (s t : State) → fits (cond b (Some s) None) ≡ Ok t → (b ≡ true) × (t ≡ s)
held true s t e = (refl, cc e)
held false s t e = absurd (cc e)

pub text_ok : (o : Open) (above : List Open) (text : Option (List ℕ)) (t : State) → fits (add_text (o ∷ above) text) ≡ Ok t
    → (x : List ℕ) × (text ≡ Some x) × (t ≡ state (with_text o x ∷ above) None)
text_ok o above None t e = absurd (cc e)
text_ok o above (Some x) t e = (x, refl, cc e)

-- a start tag
pub opened_ok : (above : List Open) (tag : Tag) (o : Option Head) (t : State) → start_fits above tag (option_map open_of o) ≡ Ok t → (first : Head) × (o ≡ Some first) × (t ≡ entered (open_of first) tag.alone above)
opened_ok above tag None t e = absurd (cc e)
opened_ok above tag (Some first) t e = (first, refl, cc e)

pub record Started (above : List Open) (tag : Tag) (t : State) : Type 0 where
  pub first : Head
  pub room : length above < 64
  pub bound : has_unbound (bounds_in above) tag ≡ false
  pub opens : opened (bounds_in above) tag ≡ Some first
  pub leads : t ≡ entered (open_of first) tag.alone above

start_ok : (above : List Open) (tag : Tag) (t : State) → step (state above None) (Start tag) ≡ Ok t → Started above tag t
start_ok above tag t e =
    let deep = passed (nat_le 64 (length above)) Depth (cond (has_unbound (bounds_in above) tag) (Err UnboundPrefix) (start_fits above tag (option_map open_of (opened (bounds_in above) tag)))) t e in
    let bound = passed (has_unbound (bounds_in above) tag) UnboundPrefix (start_fits above tag (option_map open_of (opened (bounds_in above) tag))) t deep.1 in
    let made = opened_ok above tag (opened (bounds_in above) tag) t bound.1 in
    let few : length above < 64 = grind (arith, nat_tests, deep.0) in
    record { first = made.0; room = few; bound = bound.0; opens = made.1; leads = made.2 }

no_second : (above : List Open) (tag : Tag) (root : Elem) (t : State) → step (state above (Some root)) (Start tag) ≡ Ok t → ⊥
no_second above tag root t e =
    let deep = passed (nat_le 64 (length above)) Depth (cond (has_unbound (bounds_in above) tag) (Err UnboundPrefix) (Err NotWellFormed)) t e in
    let last = passed (has_unbound (bounds_in above) tag) UnboundPrefix (Err NotWellFormed) t deep.1 in
    cc last.1

-- an end tag
end_ok : (o : Open) (above : List Open) (n : Name) (t : State) → step (state (o ∷ above) None) (End n) ≡ Ok t → (ends o n ≡ true) × (t ≡ closed (elem_of o) above)
end_ok o above n t e = held (ends o n) (closed (elem_of o) above) t e

-- What tokens complete.

-- the content and the end tag of an open element, and what follows
pub record Fills (Then : Elem → List Token → Type 0) (levels : ℕ) (o : Open) (ts : List Token) : Type 0 where
  pub bits : List Bit
  pub inner : List Token
  pub name : Name
  pub rest : List Token
  pub whole : ts ≡ inner ++ End name ∷ rest
  pub are : AreBits (SpellsElem levels o.bounds) bits inner
  pub ends : ends o name ≡ true
  pub follows : Then (around o bits) rest

-- what follows the end of an element, up to the end of this root
abbrev pub Closes : Elem → List Open → Elem → List Token → Type 0
Closes root [] x ts = (x ≡ root) × AreMisc ts
Closes root (p ∷ above) x ts = Fills (Closes root above) (63 - length above) (with_child p x) ts

abbrev Filling : Elem → List Open → Open → List Token → Type 0
Filling root above o ts = Fills (Closes root above) (63 - length above) o ts

-- one thing more in front
one_more : (root : Elem) (above : List Open) (o p : Open) (b : Bit) (front ts : List Token) → p.bounds ≡ o.bounds → ((n : Name) → ends p n ≡ ends o n) → ((bits : List Bit) → around p bits ≡ around o (b ∷ bits))
    → IsBit (SpellsElem (63 - length above) o.bounds) b front → Filling root above p ts → Filling root above o (front ++ ts)
one_more root above o p b front ts bounds named same is f =
    record {
      bits = b ∷ f.bits;
      inner = front ++ f.inner;
      name = f.name;
      rest = f.rest;
      whole = ap (λ l. front ++ l) f.whole ∙ sym (append_assoc front f.inner (End f.name ∷ f.rest));
      are = (front, f.inner, refl, is, subst (λ l. AreBits (SpellsElem (63 - length above) l) f.bits f.inner) bounds f.are);
      ends = sym (named f.name) ∙ f.ends;
      follows = subst (λ x. Closes root above x f.rest) (same f.bits) f.follows;
    }

with_words : (root : Elem) (above : List Open) (o : Open) (x : List ℕ) (k : Token) (ks : List Token) → IsWords x k → Filling root above (with_text o x) ks → Filling root above o (k ∷ ks)
with_words root above o x k ks is f = one_more root above o (with_text o x) (Words x) (k ∷ []) ks refl (λ n. refl) (λ bits. refl) (k, refl, is) f

with_remark : (root : Elem) (above : List Open) (o : Open) (k : Token) (ks : List Token) → IsRemark k → Filling root above o ks → Filling root above o (k ∷ ks)
with_remark root above o k ks is f = one_more root above o o Remark (k ∷ []) ks refl (λ n. refl) (λ bits. refl) (k, refl, is) f

around_child : (o : Open) (e : Elem) (bits : List Bit) → around (with_child o e) bits ≡ around o (Inner e ∷ bits)
around_child o e bits =
    ap (λ (l : List Part). record { name = o.name; bounds = o.bounds; attrs = o.attrs; parts = l }) (append_assoc (o.parts ++ chars_of o.text) (Child e ∷ []) (joined [] bits) ∙ append_assoc o.parts (chars_of o.text) (Child e ∷ joined [] bits))

with_inner : (root : Elem) (above : List Open) (o : Open) (e : Elem) (front ks : List Token) → SpellsElem (63 - length above) o.bounds e front → Filling root above (with_child o e) ks → Filling root above o (front ++ ks)
with_inner root above o e front ks is f = one_more root above o (with_child o e) (Inner e) front ks refl (λ n. refl) (around_child o e) is f

-- an element that its own tag closes
lone : (n : ℕ) (outer : List Bound) (tag : Tag) (first : Head) → has_unbound outer tag ≡ false → opened outer tag ≡ Some first → tag.alone ≡ true
    → SpellsElem (suc n) outer (elem_of (open_of first)) (Start tag ∷ [])
lone n outer tag first bound opens alone =
    record { tag = tag; first = first; bits = []; behind = []; whole = refl; bound = bound; opens = opens; tree = refl; ending = inl (alone, refl, refl) }

-- an element with content and an end tag
framed : (n : ℕ) (outer : List Bound) (tag : Tag) (first : Head) (bits : List Bit) (inner : List Token) (name : Name) → has_unbound outer tag ≡ false → opened outer tag ≡ Some first → tag.alone ≡ false
    → AreBits (SpellsElem n first.bounds) bits inner → ends (open_of first) name ≡ true → SpellsElem (suc n) outer (around (open_of first) bits) (Start tag ∷ (inner ++ End name ∷ []))
framed n outer tag first bits inner name bound opens alone are named = record {
  tag = tag;
  first = first;
  bits = bits;
  behind = inner ++ End name ∷ [];
  whole = refl;
  bound = bound;
  opens = opens;
  tree = refl;
  ending = inr (record { inner = inner; name = name; whole = refl; open_to = alone; ends = named; are = are });
}

-- how many levels are left below an open element
levels : (above : List Open) (o : Open) → length (o ∷ above) < 64 → suc (63 - length (o ∷ above)) ≡ 63 - length above
levels above o room = omega (arith, room)

-- a child in front: its own tag closes it, or its end tag follows its content
child_first : (root : Elem) (above : List Open) (o : Open) (tag : Tag) (ks : List Token) (first : Head) (alone : Bool) → tag.alone ≡ alone → length (o ∷ above) < 64
    → has_unbound o.bounds tag ≡ false → opened o.bounds tag ≡ Some first
    → (alone ≡ true → Filling root above (with_child o (elem_of (open_of first))) ks) → (alone ≡ false → Filling root (o ∷ above) (open_of first) ks) → Filling root above o (Start tag ∷ ks)
child_first root above o tag ks first true alone room bound opens here below =
    let is = subst (λ n. SpellsElem n o.bounds (elem_of (open_of first)) (Start tag ∷ [])) (levels above o room) (lone (63 - length (o ∷ above)) o.bounds tag first bound opens alone) in
    with_inner root above o (elem_of (open_of first)) (Start tag ∷ []) ks is (here refl)
child_first root above o tag ks first false alone room bound opens here below =
    let f = below refl in
    let e = around (open_of first) f.bits in
    let tokens = Start tag ∷ (f.inner ++ End f.name ∷ []) in
    let is = subst (λ n. SpellsElem n o.bounds e tokens) (levels above o room) (framed (63 - length (o ∷ above)) o.bounds tag first f.bits f.inner f.name bound opens alone f.are f.ends) in
    let whole : tokens ++ f.rest ≡ Start tag ∷ ks = ap (λ l. Start tag ∷ l) (append_assoc f.inner (End f.name ∷ []) f.rest ∙ sym f.whole) in
    subst (Filling root above o) whole (with_inner root above o e tokens f.rest is f.follows)

-- the end of an element
ended : (root : Elem) (above : List Open) (o : Open) (name : Name) (ks : List Token) → ends o name ≡ true → Closes root above (elem_of o) ks → Filling root above o (End name ∷ ks)
ended root above o name ks named follows =
    record { bits = []; inner = []; name = name; rest = ks; whole = refl; are = refl; ends = named; follows = follows }

-- what is done after an element has ended
abbrev done : Elem → State
done root = state [] (Some root)

same_root : (s : State) (root : Elem) → Some s ≡ Some (done root) → s.root ≡ Some root
same_root s root e = let h : s ≡ done root = cc e in ap (λ t. t.root) h

after_root : (root x : Elem) (ts : List Token) → go (state [] (Some x)) ts ≡ Some (done root) → (x ≡ root) × AreMisc ts
after_root root x [] e = let r = same_root (state [] (Some x)) root e in (cc r, tt)
after_root root x (k ∷ ks) e = let g = go_ok (state [] (Some x)) (done root) k ks e in
    misc_at root x k ks g.0 g.1 g.2 (after_root root x ks) where
      misc_at : (root x : Elem) (k : Token) (ks : List Token) (t : State) → step (state [] (Some x)) k ≡ Ok t → go t ks ≡ Some (done root)
          → (go (state [] (Some x)) ks ≡ Some (done root) → (x ≡ root) × AreMisc ks) → (x ≡ root) × AreMisc (k ∷ ks)
      misc_at root x (Run raw) ks t e g more =
          let h = held (list_all is_white raw) (state [] (Some x)) t e in
          let m = more (ap (λ s. go s ks) (sym h.1) ∙ g) in (m.0, (h.0, m.1))
      misc_at root x (Comment raw) ks t e g more =
          let h = held (is_allowed raw) (state [] (Some x)) t e in
          let m = more (ap (λ s. go s ks) (sym h.1) ∙ g) in (m.0, (h.0, m.1))
      misc_at root x (Instruction raw) ks t e g more =
          let h = held (is_allowed raw) (state [] (Some x)) t e in
          let m = more (ap (λ s. go s ks) (sym h.1) ∙ g) in (m.0, (h.0, m.1))
      misc_at root x Declaration ks t e g more = absurd (cc e)
      misc_at root x (Section raw) ks t e g more = absurd (cc e)
      misc_at root x (End n) ks t e g more = absurd (cc e)
      misc_at root x (Start tag) ks t e g more = absurd (no_second [] tag x t e)

-- reading on leads to the end of the root
abbrev Leads : Elem → List Token → Type 0
Leads root ts = (above : List Open) (o : Open) → go (state (o ∷ above) None) ts ≡ Some (done root) → Filling root above o ts

-- after an element has ended
after_close : (root : Elem) (ts : List Token) → Leads root ts → (above : List Open) (x : Elem) → go (closed x above) ts ≡ Some (done root) → Closes root above x ts
after_close root ts leads [] x e = after_root root x ts e
after_close root ts leads (p ∷ above) x e = leads above (with_child p x) e

token_at : (root : Elem) (k : Token) (ks : List Token) → Leads root ks → (above : List Open) (o : Open) (t : State) → step (state (o ∷ above) None) k ≡ Ok t → go t ks ≡ Some (done root) → Filling root above o (k ∷ ks)
token_at root (Run raw) ks leads above o t e g =
    let inside : step (state (o ∷ above) None) (Run raw) ≡ fits (add_text (o ∷ above) (text_of raw)) =
    ap (λ b. fits (cond b (cond (list_all is_white raw) (Some (state (o ∷ above) None)) None) (add_text (o ∷ above) (text_of raw)))) (inside_is o above) in
    let w = text_ok o above (text_of raw) t (sym inside ∙ e) in
    with_words root above o w.0 (Run raw) ks w.1 (leads above (with_text o w.0) (ap (λ s. go s ks) (sym w.2) ∙ g))
token_at root (Section raw) ks leads above o t e g =
    let w = text_ok o above (section_of raw) t e in
    with_words root above o w.0 (Section raw) ks w.1 (leads above (with_text o w.0) (ap (λ s. go s ks) (sym w.2) ∙ g))
token_at root (Comment raw) ks leads above o t e g =
    let h = held (is_allowed raw) (state (o ∷ above) None) t e in
    with_remark root above o (Comment raw) ks h.0 (leads above o (ap (λ s. go s ks) (sym h.1) ∙ g))
token_at root (Instruction raw) ks leads above o t e g =
    let h = held (is_allowed raw) (state (o ∷ above) None) t e in
    with_remark root above o (Instruction raw) ks h.0 (leads above o (ap (λ s. go s ks) (sym h.1) ∙ g))
token_at root Declaration ks leads above o t e g = absurd (cc e)
token_at root (End n) ks leads above o t e g =
    let h = end_ok o above n t e in
    ended root above o n ks h.0 (after_close root ks leads above (elem_of o) (ap (λ s. go s ks) (sym h.1) ∙ g))
token_at root (Start tag) ks leads above o t e g =
    let s = start_ok (o ∷ above) tag t e in
    let goes : go (entered (open_of s.first) tag.alone (o ∷ above)) ks ≡ Some (done root) = ap (λ x. go x ks) (sym s.leads) ∙ g in
    child_first root above o tag ks s.first tag.alone refl s.room s.bound s.opens
    (λ h. leads above (with_child o (elem_of (open_of s.first))) (ap (λ b. go (cond b (closed (elem_of (open_of s.first)) (o ∷ above)) (state (open_of s.first ∷ (o ∷ above)) None)) ks) (sym h) ∙ goes))
    (λ h. leads (o ∷ above) (open_of s.first) (ap (λ b. go (cond b (closed (elem_of (open_of s.first)) (o ∷ above)) (state (open_of s.first ∷ (o ∷ above)) None)) ks) (sym h) ∙ goes))

all_lead : (root : Elem) (ts : List Token) → Leads root ts
all_lead root [] above o e = let r = same_root (state (o ∷ above) None) root e in absurd (cc r)
all_lead root (k ∷ ks) above o e = let g = go_ok (state (o ∷ above) None) (done root) k ks e in token_at root k ks (all_lead root ks) above o g.0 g.1 g.2

-- the root's own tokens
root_first : (root : Elem) (tag : Tag) (ks : List Token) (first : Head) (alone : Bool) → tag.alone ≡ alone → has_unbound [] tag ≡ false → opened [] tag ≡ Some first
    → go (entered (open_of first) alone []) ks ≡ Some (done root) → HasRoot (Start tag ∷ ks) root
root_first root tag ks first true alone bound opens g =
    let h = after_root root (elem_of (open_of first)) ks g in
    record { before = []; middle = Start tag ∷ []; after = ks; whole = refl; misc_before = tt; element = subst (λ x. SpellsElem 64 [] x (Start tag ∷ [])) h.0 (lone 63 [] tag first bound opens alone); misc_after = h.1 }
root_first root tag ks first false alone bound opens g =
    let f = all_lead root ks [] (open_of first) g in
    let tokens = Start tag ∷ (f.inner ++ End f.name ∷ []) in
    let whole : Start tag ∷ ks ≡ tokens ++ f.rest = ap (λ l. Start tag ∷ l) (f.whole ∙ sym (append_assoc f.inner (End f.name ∷ []) f.rest)) in
    record { before = []; middle = tokens; after = f.rest; whole = whole; misc_before = tt; element = subst (λ x. SpellsElem 64 [] x tokens) f.follows.0 (framed 63 [] tag first f.bits f.inner f.name bound opens alone f.are f.ends); misc_after = f.follows.1 }

misc_more : (root : Elem) (k : Token) (ks : List Token) → IsMisc k → HasRoot ks root → HasRoot (k ∷ ks) root
misc_more root k ks is s =
    record { before = k ∷ s.before; middle = s.middle; after = s.after; whole = ap (λ l. k ∷ l) s.whole; misc_before = (is, s.misc_before); element = s.element; misc_after = s.misc_after }

-- a first token that fits outside of the root, other than the declaration
data First (root : Elem) (s t : State) (k : Token) (ks : List Token) : Type 0 where
  Skipped : IsMisc k → t ≡ s → First root s t k ks
  Rooted : HasRoot (k ∷ ks) root → First root s t k ks
  Announced : k ≡ Declaration → t ≡ state [] None → s.fresh ≡ true → First root s t k ks

first_is : (root : Elem) (s : State) (fresh : Bool) → s ≡ record { above = []; root = None; fresh = fresh } → (k : Token) (ks : List Token) (t : State)
    → step (record { above = []; root = None; fresh = fresh }) k ≡ Ok t → go t ks ≡ Some (done root) → First root s t k ks
first_is root s fresh same (Run raw) ks t e g =
    let h = held (list_all is_white raw) (record { above = []; root = None; fresh = fresh }) t e in Skipped h.0 (h.1 ∙ sym same)
first_is root s fresh same (Comment raw) ks t e g =
    let h = held (is_allowed raw) (record { above = []; root = None; fresh = fresh }) t e in Skipped h.0 (h.1 ∙ sym same)
first_is root s fresh same (Instruction raw) ks t e g =
    let h = held (is_allowed raw) (record { above = []; root = None; fresh = fresh }) t e in Skipped h.0 (h.1 ∙ sym same)
first_is root s fresh same (Section raw) ks t e g = absurd (cc e)
first_is root s fresh same (End n) ks t e g = absurd (cc e)
first_is root s fresh same Declaration ks t e g =
    let h = held fresh (state [] None) t e in Announced refl h.1 (ap (λ (x : State). x.fresh) same ∙ h.0)
first_is root s fresh same (Start tag) ks t e g =
    let s' = start_ok [] tag t e in Rooted (root_first root tag ks s'.first tag.alone refl s'.bound s'.opens (ap (λ x. go x ks) (sym s'.leads) ∙ g))

-- after the declaration
declared_spelled : (root : Elem) (ts : List Token) → go (state [] None) ts ≡ Some (done root) → HasRoot ts root
declared_spelled root [] e = let r = same_root (state [] None) root e in absurd (cc r)
declared_spelled root (k ∷ ks) e = let g = go_ok (state [] None) (done root) k ks e in
    at root k ks g.0 (first_is root (state [] None) false refl k ks g.0 g.1 g.2) g.2 (declared_spelled root ks) where
      at : (root : Elem) (k : Token) (ks : List Token) (t : State) → First root (state [] None) t k ks → go t ks ≡ Some (done root) → (go (state [] None) ks ≡ Some (done root) → HasRoot ks root) → HasRoot (k ∷ ks) root
      at root k ks t (Skipped is same) g more = misc_more root k ks is (more (ap (λ s. go s ks) (sym same) ∙ g))
      at root k ks t (Rooted is) g more = is
      at root k ks t (Announced is leads fresh) g more = absurd (cc fresh)

skipped : (root : Elem) (k : Token) (ks : List Token) → IsMisc k → Spells ks root → Spells (k ∷ ks) root
skipped root k ks is (inl s) = inl (misc_more root k ks is s)
skipped root k ks is (inr s) = inr (record { before = k ∷ s.before; rest = s.rest; whole = ap (λ l. k ∷ l) s.whole; misc_before = (is, s.misc_before); has_root = s.has_root })

pub go_spelled : (root : Elem) (ts : List Token) → go begin ts ≡ Some (done root) → Spells ts root
go_spelled root [] e = let r = same_root begin root e in absurd (cc r)
go_spelled root (k ∷ ks) e = let g = go_ok begin (done root) k ks e in
    at root k ks g.0 (first_is root begin true refl k ks g.0 g.1 g.2) g.2 (go_spelled root ks) where
      at : (root : Elem) (k : Token) (ks : List Token) (t : State) → First root begin t k ks → go t ks ≡ Some (done root) → (go begin ks ≡ Some (done root) → Spells ks root) → Spells (k ∷ ks) root
      at root k ks t (Skipped is same) g more = skipped root k ks is (more (ap (λ s. go s ks) (sym same) ∙ g))
      at root k ks t (Rooted is) g more = inl is
      at root k ks t (Announced is leads fresh) g more = inr (record {
        before = [];
        rest = ks;
        whole = ap (λ x. x ∷ ks) is;
        misc_before = tt;
        has_root = declared_spelled root ks (ap (λ s. go s ks) (sym leads) ∙ g);
      })
