-- Whole tokens that fit go on to a message.
use Rattle.std.proofs.Common.{◌≡◌, ℕ, ◌<◌, inl, inr, subst, Bool, true, false, cond, List, [], ◌∷◌, ◌++◌, length, Option, None, Some, option_and_then, option_map, Result, Ok, Err, refl, sym, ap, ◌∙◌, append_assoc, arith}
use Rattle.std.specs.Prelude.{◌&&◌, ◌⊎◌, nat_le, is_some}
use Rattle.std.specs.List.{list_all}
use Rattle.std.specs.Str.{chars}
use Rattle.std.proofs.lemmas.Str.{chars-IsAscii}
use Rattle.std.proofs.lemmas.Str.Ascii.{IsAscii-nil, IsAscii-cons}
use Rattle.nc_names.specs.Signs.{is_white}
use Rattle.nc_message.specs.declared.tree.Why.TheVariants.{NotWellFormed, UnboundPrefix, Depth}
use Rattle.nc_message.specs.Texts.{text_of, section_of, is_allowed, is_char}
use Rattle.std.specs.Cmp.Lexicographic.{bytes_decides}
use Rattle.nc_message.specs.declared.tree.Why.{Why}
use Rattle.nc_message.specs.declared.tree.Elem.{Elem}
use Rattle.nc_message_read.specs.declared.open.Open.{Open}
use Rattle.nc_message.specs.Tokens.{Name, Tag, Token, Start, End, Run, Section, Comment, Instruction, Declaration}
use Rattle.nc_names.specs.Same.{is_same_text}
use Rattle.nc_message.specs.Bindings.{inside}
use Rattle.nc_message_read.specs.inner.Opened.{open_of, elem_of, with_child, ends}
use Rattle.nc_message.specs.Resolved.{Head, has_unbound, opened, opened_in, declared, nothing, are_allowed_names}
use Rattle.nc_message_read.specs.inner.State.{State}
use Rattle.nc_message_read.specs.inner.Reads.{state, bounds_in, closed, step, begin, entered, fits, start, start_fits, add_text, end, is_outside}
use Rattle.nc_message_read.specs.inner.Fits.{go}
use Rattle.nc_message.specs.Spells.{Spells}
use Rattle.nc_message.specs.Faults.{Fits, SpellsTree, Stops}
use Rattle.nc_message_read.specs.inner.Turn.{Refuses, IsTorn, Went}
use Rattle.nc_message_read.proofs.Spelled.{go_append, go_cons, end_step, start_step, spelled_go}
use Rattle.nc_message_read.proofs.Sound.{go_spelled, go_ok, passed, held, text_ok, opened_ok}

-- tokens that lead to the end of a root
record Finishes (s : State) : Type 0 where
  more : List Token
  root : Elem
  leads : go s more ≡ Some (state [] (Some root))

name_of : Open → Name
name_of o = record { prefix = o.prefix; local = o.name.name }

own_name : (o : Open) → ends o (name_of o) ≡ true
unfolding name_of
own_name o = ap (λ b. b && is_same_text o.name.name o.name.name) ((bytes_decides o.prefix o.prefix).1 refl) ∙ (bytes_decides o.name.name o.name.name).1 refl

-- the open elements are closed
close_all : (above : List Open) (x : Elem) → Finishes (closed x above)
close_all [] x = record { more = []; root = x; leads = refl }
close_all (p ∷ above) x =
    let o = with_child p x in
    let f = close_all above (elem_of o) in
    record { more = End (name_of o) ∷ f.more; root = f.root; leads = go_cons (state (o ∷ above) None) (closed (elem_of o) above) (End (name_of o)) f.more (end_step o above (name_of o) (own_name o)) ∙ f.leads }

close_open : (o : Open) (above : List Open) → Finishes (state (o ∷ above) None)
close_open o above =
    let f = close_all above (elem_of o) in
    record { more = End (name_of o) ∷ f.more; root = f.root; leads = go_cons (state (o ∷ above) None) (closed (elem_of o) above) (End (name_of o)) f.more (end_step o above (name_of o) (own_name o)) ∙ f.leads }

-- before the root `<a/>` goes on
bare : Tag
bare = record { name = record { prefix = []; local = 97 ∷ [] }; attributes = []; alone = true }

bare_open : Head
bare_open = record { prefix = []; name = record { space = []; name = 97 ∷ [] }; bounds = []; attrs = [] }

bare_allowed : are_allowed_names bare ≡ true
unfolding bare
bare_allowed =
    let nil : chars [] ≡ [] = chars-IsAscii [] IsAscii-nil in
    let letter : chars (97 ∷ []) ≡ 97 ∷ [] = chars-IsAscii (97 ∷ []) (IsAscii-cons 97 [] (omega arith) IsAscii-nil) in
    ap (λ l. (list_all is_char l && list_all is_char (chars (97 ∷ []))) && true) nil ∙ ap (λ l. list_all is_char l && true) letter

bare_opens : opened [] bare ≡ Some bare_open
unfolding bare bare_open
bare_opens = ap (λ b. cond b (option_and_then (λ d. opened_in (inside [] d) bare) (declared nothing [])) None) bare_allowed

bare_root : (fresh : Bool) → Finishes (record { above = []; root = None; fresh = fresh })
unfolding bare
bare_root fresh =
    let leads : step (record { above = []; root = None; fresh = fresh }) (Start bare) ≡ Ok (closed (elem_of (open_of bare_open)) []) = start_step [] bare bare_open (omega arith) refl bare_opens in
    record { more = Start bare ∷ []; root = elem_of (open_of bare_open); leads = go_cons (record { above = []; root = None; fresh = fresh }) (closed (elem_of (open_of bare_open)) []) (Start bare) [] leads }

-- where the root has ended nothing is open, and before the declaration nothing has come
abbrev pub IsKept : State → Type 0
IsKept s = ((s.above ≡ []) ⊎ (s.root ≡ None)) × (s.fresh ≡ false)

abbrev pub IsGood : State → Type 0
IsGood s = IsKept s ⊎ (s ≡ begin)

closed_good : (e : Elem) (above : List Open) → (s : State) → s ≡ closed e above → IsGood s
closed_good e [] s h = inl (inl (ap (λ (t : State). t.above) h), ap (λ (t : State). t.fresh) h)
closed_good e (o ∷ above) s h = inl (inr (ap (λ (t : State). t.root) h), ap (λ (t : State). t.fresh) h)

entered_good : (o : Open) (alone : Bool) (above : List Open) (t : State) → t ≡ entered o alone above → IsGood t
entered_good o true above t h = closed_good (elem_of o) above t h
entered_good o false above t h = inl (inr (ap (λ (s : State). s.root) h), ap (λ (s : State). s.fresh) h)

text_good : (above : List Open) (text : Option (List ℕ)) (t : State) → fits (add_text above text) ≡ Ok t → IsGood t
text_good [] text t e = absurd (cc e)
text_good (o ∷ above) text t e = let w = text_ok o above text t e in inl (inr (ap (λ (s : State). s.root) w.2), ap (λ (s : State). s.fresh) w.2)

same_good : (s t : State) → IsGood s → t ≡ s → IsGood t
same_good s t g h = subst IsGood (sym h) g

run_good : (s t : State) (raw : List ℕ) (b : Bool) → IsGood s → fits (cond b (cond (list_all is_white raw) (Some s) None) (add_text s.above (text_of raw))) ≡ Ok t → IsGood t
run_good s t raw true g e = let h = held (list_all is_white raw) s t e in same_good s t g h.1
run_good s t raw false g e = text_good s.above (text_of raw) t e

end_good : (above : List Open) (n : Name) (t : State) → fits (end above n) ≡ Ok t → IsGood t
end_good [] n t e = absurd (cc e)
end_good (o ∷ above) n t e = let h = held (ends o n) (closed (elem_of o) above) t e in closed_good (elem_of o) above t h.1

start_good : (s t : State) (tag : Tag) → start s tag ≡ Ok t → IsGood t
start_good s t tag e =
    let made = start_fits s.above tag (option_map open_of (opened (bounds_in s.above) tag)) in
    let deep = passed (nat_le 64 (length s.above)) Depth (cond (has_unbound (bounds_in s.above) tag) (Err UnboundPrefix) (cond (is_some s.root) (Err NotWellFormed) made)) t e in
    let bound = passed (has_unbound (bounds_in s.above) tag) UnboundPrefix (cond (is_some s.root) (Err NotWellFormed) made) t deep.1 in
    let alone = passed (is_some s.root) NotWellFormed made t bound.1 in
    let o = opened_ok s.above tag (opened (bounds_in s.above) tag) t alone.1 in
    entered_good (open_of o.0) tag.alone s.above t o.2

pub step_good : (s t : State) (k : Token) → IsGood s → step s k ≡ Ok t → IsGood t
step_good s t (Start tag) g e = start_good s t tag e
step_good s t (End n) g e = end_good s.above n t e
step_good s t (Run raw) g e = run_good s t raw (is_outside s.above) g e
step_good s t (Section raw) g e = text_good s.above (section_of raw) t e
step_good s t (Comment raw) g e = let h = held (is_allowed raw) s t e in same_good s t g h.1
step_good s t (Instruction raw) g e = let h = held (is_allowed raw) s t e in same_good s t g h.1
step_good s t Declaration g e = let h = held s.fresh (state [] None) t e in inl (inl (ap (λ (s : State). s.above) h.1), ap (λ (s : State). s.fresh) h.1)

go_good : (s t : State) (ts : List Token) → IsGood s → go s ts ≡ Some t → IsGood t
go_good s t [] g e = let h : s ≡ t = cc e in subst IsGood h g
go_good s t (k ∷ ks) g e = let h = go_ok s t k ks e in go_good h.0 t ks (step_good s h.0 k g h.1) h.2

finish_kept : (above : List Open) (root : Option Elem) → (above ≡ []) ⊎ (root ≡ None) → Finishes (state above root)
finish_kept [] None g = bare_root false
finish_kept [] (Some r) g = close_all [] r
finish_kept (o ∷ above) None g = close_open o above
finish_kept (o ∷ above) (Some r) (inl h) = absurd (cc h)
finish_kept (o ∷ above) (Some r) (inr h) = absurd (cc h)

-- a state with the declaration behind it
kept_is : (s : State) → s.fresh ≡ false → s ≡ state s.above s.root
kept_is s h = ap (λ f. record { above = s.above; root = s.root; fresh = f }) h

finish_good : (s : State) → IsGood s → Finishes s
finish_good s (inl g) = subst Finishes (sym (kept_is s g.1)) (finish_kept s.above s.root g.0)
finish_good s (inr h) = subst Finishes (sym h) (bare_root true)

pub begin_good : IsGood begin
begin_good = inr refl

pub fits_of : (ts : List Token) (s : State) → go begin ts ≡ Some s → Fits ts
fits_of ts s e =
    let f = finish_good s (go_good begin s ts begin_good e) in
    record { more = f.more; root = f.root; spells = go_spelled f.root (ts ++ f.more) (go_append begin s ts f.more e ∙ f.leads) }

stuck : (s : State) (k : Token) (why : Why) (ks : List Token) → step s k ≡ Err why → go s (k ∷ ks) ≡ None
stuck s k why ks e = ap (λ (r : Result State Why). elim r [ Err w ↦ None | Ok t ↦ go t ks ]) e

pub misfits : (ts : List Token) (s : State) (k : Token) (why : Why) → go begin ts ≡ Some s → step s k ≡ Err why → Fits (ts ++ k ∷ []) → ⊥
misfits ts s k why e refused f =
    let joined : (ts ++ k ∷ []) ++ f.more ≡ ts ++ k ∷ f.more = append_assoc ts (k ∷ []) f.more in
    let goes = spelled_go ((ts ++ k ∷ []) ++ f.more) f.root f.spells in
    let none : go begin ((ts ++ k ∷ []) ++ f.more) ≡ None = ap (go begin) joined ∙ go_append begin s ts (k ∷ f.more) e ∙ stuck s k why f.more refused in
    absurd (cc (goes, none))

done_at : (above : List Open) (r : Option Elem) (root : Elem) → (above ≡ []) ⊎ (r ≡ None) → r ≡ Some root → state above r ≡ state [] (Some root)
done_at [] r root g h = ap (state []) h
done_at (o ∷ above) r root (inl g) h = absurd (cc g)
done_at (o ∷ above) r root (inr g) h = absurd (cc (sym g ∙ h))

done_is : (s : State) (root : Elem) → IsGood s → s.root ≡ Some root → s ≡ state [] (Some root)
done_is s root (inl g) h = kept_is s g.1 ∙ done_at s.above s.root root g.0 h
done_is s root (inr g) h = absurd (cc (sym (ap (λ (t : State). t.root) g) ∙ h))

pub spells_of : (bytes : List ℕ) (s : State) (root : Elem) → Went begin bytes s [] → s.root ≡ Some root → SpellsTree bytes (record { root = root })
spells_of bytes s root w h =
    let end = done_is s root (go_good begin s w.tokens begin_good w.leads) h in
    record { tokens = w.tokens; cut = w.cut; spells = go_spelled root w.tokens (w.leads ∙ ap Some end) }

pub early_of : (ts : List Token) (s : State) → go begin ts ≡ Some s → s.root ≡ None → (root : Elem) → Spells ts root → ⊥
early_of ts s leads h root spelled = no_root s root (sym leads ∙ spelled_go ts root spelled) h where
  no_root : (s : State) (root : Elem) → Some s ≡ Some (state [] (Some root)) → s.root ≡ None → ⊥
  no_root s root e h = let r : s ≡ state [] (Some root) = cc e in let x : s.root ≡ Some root = ap (λ t. t.root) r in cc (sym h ∙ x)

pub ends_of : (ts : List Token) (s : State) (text : List ℕ) (why : Why) → go begin ts ≡ Some s → 0 < length text → Refuses s text why ⊎ IsTorn text why → Stops ts text
ends_of ts s text why e some (inl r) = (some, inl (r.0, r.1, r.2, misfits ts s r.0 why e r.3))
ends_of ts s text why e some (inr t) = (some, inr t.0)
