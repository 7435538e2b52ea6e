-- Where reading stops is the fault of the bytes.
use Rattle.std.proofs.Common.{◌≡◌, ℕ, ◌-◌, Bool, true, false, cond, not, List, [], ◌∷◌, ◌++◌, length, map, fold, take, drop, Option, None, Some, option_and_then, option_map, Ok, Err, refl, sym, ap, ◌∙◌, arith, inl, inr}
use Rattle.std.specs.Prelude.{nat_le, is_some, ◌⊎◌, codes, if◌then◌else◌}
use Rattle.std.specs.List.{list_all}
use Rattle.std.specs.Str.{is_utf8}
use Rattle.std.specs.Cmp.Lexicographic.{bytes_decides}
use Rattle.std.proofs.lemmas.List.{take-append-drop}
use Rattle.nc_names.specs.Limits.{element_depth}
use Rattle.nc_names.specs.Signs.{is_white}
use Rattle.nc_names.specs.declared.name.Bound.{Bound}
use Rattle.nc_message.specs.declared.tree.Attr.{Attr}
use Rattle.nc_message.specs.declared.tree.Elem.{Elem}
use Rattle.nc_message.specs.declared.tree.Why.{Why}
use Rattle.nc_message.specs.declared.tree.Why.TheVariants.{NotUtf8, NotWellFormed, UnboundPrefix, Doctype, Depth}
use Rattle.nc_message.specs.Tokens.{Name, Tag, Token, Start, End, Run, Section, Comment, Instruction, Declaration}
use Rattle.nc_message.specs.Pieces.{token, name, part}
use Rattle.nc_message.specs.Pieces as pieces
use Rattle.nc_message.specs.Bindings.{Declared, inside}
use Rattle.nc_message.specs.Resolved.{Head, declared, nothing, has_unbound, opened, opened_in, are_allowed_names, attrs_of, differ_from, head_of, elem_space}
use Rattle.nc_message.specs.Texts.{text_of, section_of, is_allowed}
use Rattle.nc_message.specs.Faults.{IsFault, inside_declared, inside_tag, nearest, open_after, open_in, is_deep, is_unbound_in, begins_doctype, why_at}
use Rattle.nc_message_read.specs.declared.open.Open.{Open}
use Rattle.nc_message_read.specs.declared.stop.Stop.{Stop}
use Rattle.nc_message_read.specs.inner.Opened.{open_of, elem_of, ends}
use Rattle.nc_message_read.specs.inner.State.{State}
use Rattle.nc_message_read.specs.inner.Reads.{state, begin, bounds_in, closed, entered, start_fits, start, fits, end, add_text, is_outside, run, remark, declaration, step, torn_why, told}
use Rattle.nc_message_read.specs.inner.Fits.{go}
use Rattle.nc_message_read.specs.inner.Turn.{Refuses, IsTorn, IsStop}
use Rattle.nc_message_read.proofs.Sound.{go_ok, passed, held, text_ok, opened_ok}
use Rattle.nc_message_read.proofs.Complete.{IsGood, step_good, begin_good, fits_of, ends_of, early_of}

-- The bindings in force in the open elements.

abbrev bindings : List Open → List (List Bound)
bindings above = map (λ o. o.bounds) above

nearest_is : (above : List Open) → nearest (bindings above) ≡ bounds_in above
nearest_is [] = refl
nearest_is (o ∷ above) = refl

bound_of : (bounds : List Bound) (tag : Tag) (space : Option (List ℕ)) (head : Head)
    → option_and_then (λ s. option_and_then (λ attrs. if differ_from [] attrs then Some (head_of bounds tag s attrs) else None) (attrs_of bounds tag.attributes)) space ≡ Some head
    → head.bounds ≡ bounds
bound_of bounds tag None head e = absurd (cc e)
bound_of bounds tag (Some s) head e = at (attrs_of bounds tag.attributes) e where
  last : (b : Bool) (attrs : List Attr) → (if b then Some (head_of bounds tag s attrs) else None) ≡ Some head → head.bounds ≡ bounds
  last true attrs e = let h : head_of bounds tag s attrs ≡ head = cc e in sym (ap (λ (x : Head). x.bounds) h)
  last false attrs e = absurd (cc e)

  at : (o : Option (List Attr)) → option_and_then (λ attrs. if differ_from [] attrs then Some (head_of bounds tag s attrs) else None) o ≡ Some head → head.bounds ≡ bounds
  at None e = absurd (cc e)
  at (Some attrs) e = last (differ_from [] attrs) attrs e

opened_bounds : (outer : List Bound) (tag : Tag) (head : Head) → opened outer tag ≡ Some head → head.bounds ≡ inside_tag outer tag
opened_bounds outer tag head e = at (are_allowed_names tag) e where
  inner : (d : Option Declared) → option_and_then (λ d. opened_in (inside outer d) tag) d ≡ Some head → head.bounds ≡ inside_declared outer d
  inner None e = absurd (cc e)
  inner (Some d) e = bound_of (inside outer d) tag (elem_space (inside outer d) tag.name.prefix) head e

  at : (b : Bool) → (if b then option_and_then (λ d. opened_in (inside outer d) tag) (declared nothing tag.attributes) else None) ≡ Some head → head.bounds ≡ inside_tag outer tag
  at true e = inner (declared nothing tag.attributes) e
  at false e = absurd (cc e)

closed_bindings : (e : Elem) (above : List Open) → bindings (closed e above).above ≡ bindings above
closed_bindings e [] = refl
closed_bindings e (o ∷ above) = refl

entered_bindings : (above : List Open) (tag : Tag) (head : Head) (alone : Bool) → tag.alone ≡ alone → opened (bounds_in above) tag ≡ Some head
    → bindings (entered (open_of head) alone above).above ≡ open_after (bindings above) (Start tag)
entered_bindings above tag head true h e = closed_bindings (elem_of (open_of head)) above ∙ sym (ap (λ b. if b then bindings above else inside_tag (nearest (bindings above)) tag ∷ bindings above) h)
entered_bindings above tag head false h e =
    ap (λ x. x ∷ bindings above) (opened_bounds (bounds_in above) tag head e ∙ ap (λ x. inside_tag x tag) (sym (nearest_is above)))
    ∙ sym (ap (λ b. if b then bindings above else inside_tag (nearest (bindings above)) tag ∷ bindings above) h)

start_bindings : (s t : State) (tag : Tag) → start s tag ≡ Ok t → bindings t.above ≡ open_after (bindings s.above) (Start tag)
start_bindings s t tag e =
    let made = start_fits s.above tag (option_map open_of (opened (bounds_in s.above) tag)) in
    let deep = passed (nat_le element_depth (length s.above)) Depth (cond (has_unbound (bounds_in s.above) tag) (Err UnboundPrefix) (cond (is_some s.root) (Err NotWellFormed) made)) t e in
    let bound = passed (has_unbound (bounds_in s.above) tag) UnboundPrefix (cond (is_some s.root) (Err NotWellFormed) made) t deep.1 in
    let alone = passed (is_some s.root) NotWellFormed made t bound.1 in
    let o = opened_ok s.above tag (opened (bounds_in s.above) tag) t alone.1 in
    ap (λ (x : State). bindings x.above) o.2 ∙ entered_bindings s.above tag o.0 tag.alone refl o.1

text_bindings : (above : List Open) (text : Option (List ℕ)) (t : State) → fits (add_text above text) ≡ Ok t → bindings t.above ≡ bindings above
text_bindings [] text t e = absurd (cc e)
text_bindings (o ∷ above) text t e = let w = text_ok o above text t e in ap (λ (x : State). bindings x.above) w.2

same_bindings : (s t : State) → t ≡ s → bindings t.above ≡ bindings s.above
same_bindings s t e = ap (λ (x : State). bindings x.above) e

run_bindings : (s t : State) (raw : List ℕ) (b : Bool) → fits (cond b (cond (list_all is_white raw) (Some s) None) (add_text s.above (text_of raw))) ≡ Ok t → bindings t.above ≡ bindings s.above
run_bindings s t raw true e = let h = held (list_all is_white raw) s t e in same_bindings s t h.1
run_bindings s t raw false e = text_bindings s.above (text_of raw) t e

end_bindings : (above : List Open) (n : Name) (t : State) → fits (end above n) ≡ Ok t → bindings t.above ≡ open_after (bindings above) (End n)
end_bindings [] n t e = absurd (cc e)
end_bindings (o ∷ above) n t e = let h = held (ends o n) (closed (elem_of o) above) t e in ap (λ (x : State). bindings x.above) h.1 ∙ closed_bindings (elem_of o) above

step_bindings : (s t : State) (k : Token) → (s.fresh ≡ true → s.above ≡ []) → step s k ≡ Ok t → bindings t.above ≡ open_after (bindings s.above) k
step_bindings s t (Start tag) f e = start_bindings s t tag e
step_bindings s t (End n) f e = end_bindings s.above n t e
step_bindings s t (Run raw) f e = run_bindings s t raw (is_outside s.above) e
step_bindings s t (Section raw) f e = text_bindings s.above (section_of raw) t e
step_bindings s t (Comment raw) f e = same_bindings s t (held (is_allowed raw) s t e).1
step_bindings s t (Instruction raw) f e = same_bindings s t (held (is_allowed raw) s t e).1
step_bindings s t Declaration f e =
    let h = held s.fresh (state [] None) t e in ap (λ (x : State). bindings x.above) h.1 ∙ ap bindings (sym (f h.0))

fresh_outside : (s : State) → IsGood s → s.fresh ≡ true → s.above ≡ []
fresh_outside s (inl g) e = absurd (cc (e, g.1))
fresh_outside s (inr g) e = ap (λ (x : State). x.above) g

along : (s t : State) (ts : List Token) → IsGood s → go s ts ≡ Some t → bindings t.above ≡ fold open_after (bindings s.above) ts
along s t [] g e = let h : s ≡ t = cc e in ap (λ (x : State). bindings x.above) (sym h)
along s t (k ∷ ks) g e =
    let h = go_ok s t k ks e in
    along h.0 t ks (step_good s h.0 k g h.1) h.2
    ∙ ap (λ x. fold open_after x ks) (step_bindings s h.0 k (fresh_outside s g) h.1)

-- Why a token does not fit.

length_bindings : (above : List Open) → length (bindings above) ≡ length above
length_bindings [] = refl
length_bindings (o ∷ above) = grind (arith, length_bindings above)

-- no whole token is a document type declaration
doctype_torn : (rest : List ℕ) → token (codes "<!DOCTYPE" ++ rest) ≡ None
unfolding token pieces.start name part
doctype_torn rest = refl

doctype_at : (text : List ℕ) → begins_doctype text ≡ true → token text ≡ None
doctype_at text e =
    let front : codes "<!DOCTYPE" ≡ take 9 text = (bytes_decides (codes "<!DOCTYPE") (take 9 text)).0 e in
    let whole : text ≡ codes "<!DOCTYPE" ++ drop 9 text = sym (take-append-drop 9 text) ∙ ap (λ l. l ++ drop 9 text) (sym front) in
    ap token whole ∙ doctype_torn (drop 9 text)

abbrev told_or : (utf8 : Bool) → (unbound : Bool) → Why
told_or utf8 unbound = if not utf8 then NotUtf8 else if unbound then UnboundPrefix else NotWellFormed

told_unbound : (utf8 : Bool) → told utf8 UnboundPrefix ≡ told_or utf8 true
told_unbound true = refl
told_unbound false = refl

told_malformed : (utf8 : Bool) → told utf8 NotWellFormed ≡ told_or utf8 false
told_malformed true = refl
told_malformed false = refl

told_deep : (utf8 : Bool) → told utf8 Depth ≡ Depth
told_deep true = refl
told_deep false = refl

told_doctype : (utf8 : Bool) → told utf8 Doctype ≡ Doctype
told_doctype true = refl
told_doctype false = refl

-- the reason at a place, by what stands there
abbrev reason : (utf8 deep doctype unbound : Bool) → Why
reason utf8 deep doctype unbound = if deep then Depth else if doctype then Doctype else told_or utf8 unbound

no_doctype : (text : List ℕ) (k : Token) (next : List ℕ) → token text ≡ Some (k, next) → begins_doctype text ≡ false
no_doctype text k next e = at (begins_doctype text) refl where
  at : (b : Bool) → begins_doctype text ≡ b → begins_doctype text ≡ false
  at false h = h
  at true h = absurd (cc (e, doctype_at text h))

-- by the token that stands there
why_token : (utf8 : Bool) (around : List (List Bound)) (text : List ℕ) (k : Token) (next : List ℕ) → token text ≡ Some (k, next)
    → why_at utf8 around text ≡ reason utf8 (is_deep around (Some (k, next))) false (is_unbound_in around (Some (k, next)))
why_token utf8 around text k next e =
    ap (λ t. reason utf8 (is_deep around t) (begins_doctype text) (is_unbound_in around t)) e
    ∙ ap (λ d. reason utf8 (is_deep around (Some (k, next))) d (is_unbound_in around (Some (k, next)))) (no_doctype text k next e)

start_why : (utf8 : Bool) (s : State) (tag : Tag) (why : Why) → start s tag ≡ Err why
    → told utf8 why ≡ reason utf8 (nat_le element_depth (length s.above)) false (has_unbound (bounds_in s.above) tag)
start_why utf8 s tag why e = at (nat_le element_depth (length s.above)) (has_unbound (bounds_in s.above) tag) (is_some s.root) (opened (bounds_in s.above) tag) e where
  at : (deep unbound second : Bool) (o : Option Head)
      → cond deep (Err Depth) (cond unbound (Err UnboundPrefix) (cond second (Err NotWellFormed) (start_fits s.above tag (option_map open_of o)))) ≡ Err why
      → told utf8 why ≡ reason utf8 deep false unbound
  at true unbound second o e = ap (told utf8) (sym (cc e)) ∙ told_deep utf8
  at false true second o e = ap (told utf8) (sym (cc e)) ∙ told_unbound utf8
  at false false true o e = ap (told utf8) (sym (cc e)) ∙ told_malformed utf8
  at false false false None e = ap (told utf8) (sym (cc e)) ∙ told_malformed utf8
  at false false false (Some o) e = absurd (cc e)

fits_why : (o : Option State) (why : Why) → fits o ≡ Err why → why ≡ NotWellFormed
fits_why None why e = sym (cc e)
fits_why (Some s) why e = absurd (cc e)

step_why : (utf8 : Bool) (s : State) (k : Token) (next : List ℕ) (why : Why) → step s k ≡ Err why
    → told utf8 why ≡ reason utf8 (is_deep (bindings s.above) (Some (k, next))) false (is_unbound_in (bindings s.above) (Some (k, next)))
step_why utf8 s (Start tag) next why e =
    start_why utf8 s tag why e
    ∙ ap (λ n. reason utf8 (nat_le element_depth n) false (has_unbound (bounds_in s.above) tag)) (sym (length_bindings s.above))
    ∙ ap (λ x. reason utf8 (nat_le element_depth (length (bindings s.above))) false (has_unbound x tag)) (sym (nearest_is s.above))
step_why utf8 s (End n) next why e = ap (told utf8) (fits_why (end s.above n) why e) ∙ told_malformed utf8
step_why utf8 s (Run raw) next why e = ap (told utf8) (fits_why (run s raw) why e) ∙ told_malformed utf8
step_why utf8 s (Section raw) next why e = ap (told utf8) (fits_why (add_text s.above (section_of raw)) why e) ∙ told_malformed utf8
step_why utf8 s (Comment raw) next why e = ap (told utf8) (fits_why (remark s raw) why e) ∙ told_malformed utf8
step_why utf8 s (Instruction raw) next why e = ap (told utf8) (fits_why (remark s raw) why e) ∙ told_malformed utf8
step_why utf8 s Declaration next why e = ap (told utf8) (fits_why (declaration s) why e) ∙ told_malformed utf8

torn_is : (utf8 doctype : Bool) → told utf8 (torn_why doctype) ≡ reason utf8 false doctype false
torn_is utf8 true = told_doctype utf8
torn_is utf8 false = told_malformed utf8

torn_at : (utf8 : Bool) (around : List (List Bound)) (text : List ℕ) (why : Why) → IsTorn text why → told utf8 why ≡ why_at utf8 around text
torn_at utf8 around text why t =
    ap (told utf8) t.1 ∙ torn_is utf8 (begins_doctype text)
    ∙ sym (ap (λ x. reason utf8 (is_deep around x) (begins_doctype text) (is_unbound_in around x)) t.0)

why_of : (utf8 : Bool) (s : State) (text : List ℕ) (why : Why) → Refuses s text why ⊎ IsTorn text why → told utf8 why ≡ why_at utf8 (bindings s.above) text
why_of utf8 s text why (inl r) = step_why utf8 s r.0 r.1 why r.3 ∙ sym (why_token utf8 (bindings s.above) text r.0 r.1 r.2)
why_of utf8 s text why (inr t) = torn_at utf8 (bindings s.above) text why t

early_why : (utf8 : Bool) (around : List (List Bound)) → told utf8 NotWellFormed ≡ why_at utf8 around []
unfolding token
early_why true around = refl
early_why false around = refl

pub fault_of : (bytes : List ℕ) (stop : Stop) → IsStop bytes stop → IsFault bytes (length bytes - stop.left) (told (is_utf8 bytes) stop.why)
fault_of bytes stop (inl h) = record {
  before = h.went.tokens;
  rest = h.text;
  cut = h.went.cut;
  fits = fits_of h.went.tokens h.s h.went.leads;
  ends = inl (ends_of h.went.tokens h.s h.text stop.why h.went.leads h.stops.1 h.stops.2);
  place = ap (λ n. length bytes - n) h.stops.0;
  why_is = why_of (is_utf8 bytes) h.s h.text stop.why h.stops.2
      ∙ ap (λ x. why_at (is_utf8 bytes) x h.text) (along begin h.s h.went.tokens begin_good h.went.leads);
}
fault_of bytes stop (inr e) = record {
  before = e.1.tokens;
  rest = [];
  cut = e.1.cut;
  fits = fits_of e.1.tokens e.0 e.1.leads;
  ends = inr (refl, early_of e.1.tokens e.0 e.1.leads e.2);
  place = ap (λ n. length bytes - n) e.3;
  why_is = ap (told (is_utf8 bytes)) e.4 ∙ early_why (is_utf8 bytes) (open_in e.1.tokens);
}
