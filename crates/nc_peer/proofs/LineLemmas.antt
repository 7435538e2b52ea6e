-- Lines of names are read in one way.
use Rattle.std.proofs.Common.{◌≡◌, ◌≢◌, ◌<◌, ◌≤◌, ◌+◌, ℕ, List, [], ◌∷◌, ◌++◌, length, All, refl, sym, ap, subst, ◌∙◌, append_assoc, append-nil, arith, length-append}
use Rattle.std.specs.List.{flat_map}
use Rattle.std.proofs.lemmas.List.Elements.{All-append, All-cons, All-head, All-nil, All-push, All-tail, All-weaker}
use Rattle.std.proofs.lemmas.List.Concat.{flat_map-append}
use Rattle.nc_peer.specs.Lines.{space, line_feed, peer_limit, and_space, IsName, IsNameByte, IsPeerLine, BeginsNone, GoesOn, GoesOnToLast, HasNoFeed, StopsAtFeed, line_of}
use Rattle.std.specs.Prelude.{Bool, true, Option, Ok, Err}
use Rattle.std.specs.Io.KnownBytes.{prepend_known}
use Rattle.nc_outside.proofs.Known.{prepend_twice}
use Rattle.nc_peer.specs.declared.fault.PeerFault.{PeerFault}
use Rattle.nc_peer.specs.declared.fault.PeerFault.TheVariants.{BadPeer, InputEnded, ReadFault, Memory}
use Rattle.nc_peer.specs.Faults.{Counts, Stops}
use Rattle.nc_peer.specs.inner.Underway.{IsUnderway, Takes, NamesReadAs, ReadsNames}

record Cut (a b : List ℕ) (x y : ℕ) (s t : List ℕ) : Type 0 where
  front : a ≡ b
  mark : x ≡ y
  back : s ≡ t

-- two lists of name bytes end at the same place, where bytes stand that are none
cut : (a b : List ℕ) (x y : ℕ) (s t : List ℕ) → All IsNameByte a → All IsNameByte b → (IsNameByte x → ⊥) →
    (IsNameByte y → ⊥) → a ++ x ∷ s ≡ b ++ y ∷ t → Cut a b x y s t
cut [] [] x y s t ha hb hx hy e = record { front = refl; mark = cc; back = cc }
cut [] (d ∷ b) x y s t ha hb hx hy e =
    let k : d ≡ x = cc in absurd (hx (subst IsNameByte k (All-head IsNameByte d b hb)))
cut (c ∷ a) [] x y s t ha hb hx hy e =
    let k : c ≡ y = cc in absurd (hy (subst IsNameByte k (All-head IsNameByte c a ha)))
cut (c ∷ a) (d ∷ b) x y s t ha hb hx hy e =
    let k : c ≡ d = cc in
    let tails : a ++ x ∷ s ≡ b ++ y ∷ t = cc in
    let r = cut a b x y s t (All-tail IsNameByte c a ha) (All-tail IsNameByte d b hb) hx hy tails in
    let f : a ≡ b = r.front in
    record { front = cc; mark = r.mark; back = r.back }

not_nil : (a : List ℕ) (x : ℕ) (s : List ℕ) → [] ≡ a ++ x ∷ s → ⊥
not_nil [] x s e = cc
not_nil (c ∷ a) x s e = cc

space_none : IsNameByte space → ⊥
space_none h = h.0 refl

feed_none : IsNameByte line_feed → ⊥
feed_none h = h.1 refl

spread : (d f w : List ℕ) → ((d ++ space ∷ []) ++ f) ++ w ≡ d ++ space ∷ (f ++ w)
spread d f w = ap (λ l. l ++ w) (append_assoc d (space ∷ []) f) ∙ append_assoc d (space ∷ f) w

-- a line that begins with whole names, a word and a byte of no name: the word is a name
found : (done : List (List ℕ)) (word : List ℕ) (c : ℕ) (names : List (List ℕ)) (rest : List ℕ) → All IsName done →
    All IsNameByte word → (IsNameByte c → ⊥) → All IsName names →
    line_of names ≡ flat_map and_space done ++ (word ++ c ∷ rest) → IsName word
found [] word c [] rest hd hw hc hn e = absurd (not_nil word c rest e)
found [] word c (n ∷ []) rest hd hw hc hn e =
    let n_is = All-head IsName n [] hn in
    let r = cut n word line_feed c [] rest n_is.bytes hw feed_none hc e in subst IsName r.front n_is
found [] word c (n ∷ (m ∷ ns)) rest hd hw hc hn e =
    let n_is = All-head IsName n (m ∷ ns) hn in
    let r = cut n word space c (line_of (m ∷ ns)) rest n_is.bytes hw space_none hc e in subst IsName r.front n_is
found (d ∷ ds) word c [] rest hd hw hc hn e =
    absurd (not_nil d space (flat_map and_space ds ++ (word ++ c ∷ rest))
    (e ∙ spread d (flat_map and_space ds) (word ++ c ∷ rest)))
found (d ∷ ds) word c (n ∷ []) rest hd hw hc hn e =
    let n_is = All-head IsName n [] hn in
    let d_is = All-head IsName d ds hd in
    let r =
    cut n d line_feed space []
    (flat_map and_space ds ++ (word ++ c ∷ rest)) n_is.bytes d_is.bytes feed_none space_none
    (e ∙ spread d (flat_map and_space ds) (word ++ c ∷ rest)) in
    let m : line_feed ≡ space = r.mark in absurd (omega arith)
found (d ∷ ds) word c (n ∷ (m ∷ ns)) rest hd hw hc hn e =
    let n_is = All-head IsName n (m ∷ ns) hn in
    let d_is = All-head IsName d ds hd in
    let r =
    cut n d space space (line_of (m ∷ ns))
    (flat_map and_space ds ++ (word ++ c ∷ rest)) n_is.bytes d_is.bytes space_none space_none
    (e ∙ spread d (flat_map and_space ds) (word ++ c ∷ rest)) in
    found ds word c (m ∷ ns) rest (All-tail IsName d ds hd) hw hc (All-tail IsName n (m ∷ ns) hn) r.back

-- after bytes that are whole names and a word that is none, no line has a space or a line feed
pub no_name : {bytes : List ℕ} {names : List (List ℕ)} {word : List ℕ} (c : ℕ) → IsUnderway bytes names word →
    (IsNameByte c → ⊥) → (IsName word → ⊥) → BeginsNone (bytes ++ c ∷ [])
no_name {bytes} {names} {word} c u hc hw others rest line =
    let f = flat_map and_space names in
    let e : (bytes ++ c ∷ []) ++ rest ≡ f ++ (word ++ c ∷ rest) =
    append_assoc bytes (c ∷ []) rest ∙ (ap (λ l. l ++ c ∷ rest) u.bytes_are ∙ append_assoc f word (c ∷ rest)) in
    hw (found names word c others rest u.whole u.begun hc line.named (sym line.line ∙ e))

pub no_name_at_space : {bytes : List ℕ} {names : List (List ℕ)} {word : List ℕ} → IsUnderway bytes names word →
    (IsName word → ⊥) → BeginsNone (bytes ++ space ∷ [])
no_name_at_space u hw = no_name space u space_none hw

pub no_name_at_feed : {bytes : List ℕ} {names : List (List ℕ)} {word : List ℕ} → IsUnderway bytes names word →
    (IsName word → ⊥) → BeginsNone (bytes ++ line_feed ∷ [])
no_name_at_feed u hw = no_name line_feed u feed_none hw

ends : (n : List ℕ) (ns : List (List ℕ)) → (front : List ℕ) × (line_of (n ∷ ns) ≡ front ++ line_feed ∷ [])
ends n [] = (n, refl)
ends n (m ∷ ns) =
    let r = ends m ns in
    (n ++ space ∷ r.0, ap (λ l. n ++ space ∷ l) r.1 ∙ sym (append_assoc n (space ∷ r.0) (line_feed ∷ [])))

snoc : (a b : List ℕ) (x y : ℕ) → a ++ x ∷ [] ≡ b ++ y ∷ [] → x ≡ y
snoc [] [] x y e = cc
snoc [] (d ∷ b) x y e = let k : [] ≡ b ++ y ∷ [] = cc in absurd (not_nil b y [] k)
snoc (c ∷ a) [] x y e = let k : [] ≡ a ++ x ∷ [] = cc in absurd (not_nil a x [] k)
snoc (c ∷ a) (d ∷ b) x y e = let k : a ++ x ∷ [] ≡ b ++ y ∷ [] = cc in snoc a b x y k

-- a line has no byte but its line feed after as many as it may have before it
pub too_long : (bytes : List ℕ) (c : ℕ) → length bytes ≡ peer_limit → c ≢ line_feed → BeginsNone (bytes ++ c ∷ [])
too_long bytes c full other [] rest line =
    absurd (not_nil bytes c rest (sym line.line ∙ append_assoc bytes (c ∷ []) rest))
too_long bytes c full other (n ∷ ns) [] line =
    let r = ends n ns in
    let e : bytes ++ c ∷ [] ≡ r.0 ++ line_feed ∷ [] = sym (append-nil (bytes ++ c ∷ [])) ∙ (line.line ∙ r.1) in
    other (snoc bytes r.0 c line_feed e)
too_long bytes c full other (n ∷ ns) (d ∷ rest) line =
    let l = line.short in
    absurd (omega (arith, l, full, length-append (bytes ++ c ∷ []) (d ∷ rest), length-append bytes (c ∷ [])))

line_done : (names : List (List ℕ)) (word : List ℕ) →
    line_of (names ++ word ∷ []) ≡ flat_map and_space names ++ (word ++ line_feed ∷ [])
line_done [] word = refl
line_done (n ∷ []) word = sym (spread n [] (word ++ line_feed ∷ []))
line_done (n ∷ (m ∷ ns)) word =
    ap (λ l. n ++ space ∷ l) (line_done (m ∷ ns) word)
    ∙ sym (spread n (flat_map and_space (m ∷ ns)) (word ++ line_feed ∷ []))

-- a line feed after a name
pub line_ends : {bytes : List ℕ} {names : List (List ℕ)} {word : List ℕ} → IsUnderway bytes names word → IsName word →
    IsPeerLine (names ++ word ∷ []) (bytes ++ line_feed ∷ [])
line_ends {bytes} {names} {word} u w =
    let f = flat_map and_space names in
    let short = u.short in record {
      line =
          ap (λ l. l ++ line_feed ∷ []) u.bytes_are
          ∙ (append_assoc f word (line_feed ∷ []) ∙ sym (line_done names word));
      named = All-push IsName names word u.whole w;
      short = omega (arith, short, length-append bytes (line_feed ∷ []));
    }

-- a space after a name
pub name_ends : {bytes : List ℕ} {names : List (List ℕ)} {word : List ℕ} → IsUnderway bytes names word → IsName word →
    length bytes < peer_limit → IsUnderway (bytes ++ space ∷ []) (names ++ word ∷ []) []
name_ends {bytes} {names} {word} u w less =
    let f = flat_map and_space names in
    let last : flat_map and_space (word ∷ []) ≡ word ++ space ∷ [] = append-nil (word ++ space ∷ []) in record {
      bytes_are =
          ap (λ l. l ++ space ∷ []) u.bytes_are
          ∙ (append_assoc f word (space ∷ [])
          ∙ (ap (λ l. f ++ l) (sym last)
          ∙ (sym (flat_map-append and_space names (word ∷ []))
          ∙ sym (append-nil (flat_map and_space (names ++ word ∷ []))))));
      whole = All-push IsName names word u.whole w;
      begun = All-nil IsNameByte;
      short = omega (arith, less, length-append bytes (space ∷ []));
    }

-- one byte more of a name
pub name_grows : {bytes : List ℕ} {names : List (List ℕ)} {word : List ℕ} (b : ℕ) → IsUnderway bytes names word →
    IsNameByte b → length bytes < peer_limit → IsUnderway (bytes ++ b ∷ []) names (word ++ b ∷ [])
name_grows {bytes} {names} {word} b u h less = record {
  bytes_are = ap (λ l. l ++ b ∷ []) u.bytes_are ∙ append_assoc (flat_map and_space names) word (b ∷ []);
  whole = u.whole;
  begun = All-push IsNameByte word b u.begun h;
  short = omega (arith, less, length-append bytes (b ∷ []));
}

-- bytes that were taken before one more
pub taken_more : (first middle last : Option (List ℕ)) (bytes : List ℕ) (b : ℕ) → first ≡ prepend_known bytes middle →
    middle ≡ prepend_known (b ∷ []) last → first ≡ prepend_known (bytes ++ b ∷ []) last
taken_more first middle last bytes b e f = e ∙ (ap (λ k. prepend_known bytes k) f ∙ prepend_twice last bytes (b ∷ []))

-- where a line is being read, none has ended
abbrev no_feed : ℕ → Type 0
no_feed b = b ≢ line_feed

plain_names : (names : List (List ℕ)) → All IsName names → HasNoFeed (flat_map and_space names)
plain_names [] all = All-nil no_feed
plain_names (n ∷ ns) all =
    let it = All-head IsName n ns all in
    let name = All-weaker IsNameByte no_feed (λ b h. h.1) n it.bytes in
    All-append no_feed (n ++ space ∷ []) (flat_map and_space ns)
    (All-push no_feed n space name (λ e. absurd (omega (arith, e))))
    (plain_names ns (All-tail IsName n ns all))

pub underway_plain : {bytes : List ℕ} {names : List (List ℕ)} {word : List ℕ} → IsUnderway bytes names word →
    HasNoFeed bytes
underway_plain {bytes} {names} {word} u =
    subst HasNoFeed (sym u.bytes_are)
    (All-append no_feed (flat_map and_space names) word (plain_names names u.whole)
    (All-weaker IsNameByte no_feed (λ b h. h.1) word u.begun))

front_of : (front : List ℕ) (last : ℕ) → HasNoFeed (front ++ last ∷ []) → HasNoFeed front
front_of [] last all = All-nil no_feed
front_of (b ∷ bs) last all =
    All-cons no_feed b bs (All-head no_feed b (bs ++ last ∷ []) all)
    (front_of bs last (All-tail no_feed b (bs ++ last ∷ []) all))

pub plain_stops : (bytes : List ℕ) → HasNoFeed bytes → StopsAtFeed bytes
plain_stops bytes all front last is = front_of front last (subst HasNoFeed is all)

same_front : (a b : List ℕ) (x y : ℕ) → a ++ x ∷ [] ≡ b ++ y ∷ [] → a ≡ b
same_front [] [] x y e = refl
same_front [] (d ∷ b) x y e = let k : [] ≡ b ++ y ∷ [] = cc in absurd (not_nil b y [] k)
same_front (c ∷ a) [] x y e = let k : [] ≡ a ++ x ∷ [] = cc in absurd (not_nil a x [] k)
same_front (c ∷ a) (d ∷ b) x y e =
    let k : a ++ x ∷ [] ≡ b ++ y ∷ [] = cc in
    let f : a ≡ b = same_front a b x y k in
    let h : c ≡ d = cc in
    λ i. h i ∷ f i

pub last_stops : (bytes : List ℕ) (b : ℕ) → HasNoFeed bytes → StopsAtFeed (bytes ++ b ∷ [])
last_stops bytes b all front last is = subst HasNoFeed (same_front bytes front b last is) all

-- one byte more than a line had that is being read
pub one_more : {bytes : List ℕ} {names : List (List ℕ)} {word : List ℕ} (b : ℕ) → IsUnderway bytes names word →
    (length (bytes ++ b ∷ []) ≤ peer_limit + 1) × StopsAtFeed (bytes ++ b ∷ [])
one_more {bytes} b u =
    let short = u.short in (omega (arith, short, length-append bytes (b ∷ [])), last_stops bytes b (underway_plain u))

-- a line that is being read goes on
underway_goes_on : {bytes : List ℕ} {names : List (List ℕ)} {word : List ℕ} → IsUnderway bytes names word → GoesOn bytes
underway_goes_on {bytes} {names} {word} u = record {
  names = names;
  word = word;
  bytes_are = u.bytes_are;
  whole = u.whole;
  begun = u.begun;
  short = u.short;
}

-- and it goes on to a byte more
goes_on_to : {bytes : List ℕ} {names : List (List ℕ)} {word : List ℕ} (b : ℕ) → IsUnderway bytes names word →
    GoesOnToLast (bytes ++ b ∷ [])
goes_on_to {bytes} b u = record { front = bytes; last = b; bytes_are = refl; goes_on = underway_goes_on u }

-- no byte came, and the line that is being read has no end
unread_as : (bytes : List ℕ) (left : Option (List ℕ)) (before now : Counts) (fault : PeerFault) → GoesOn bytes →
    Stops left before now fault → NamesReadAs bytes left before now (Err fault)
unread_as bytes left before now (BadPeer at) all stops = absurd stops
unread_as bytes left before now Memory all stops = absurd stops
unread_as bytes left before now InputEnded all stops = (stops.0, all, stops.1)
unread_as bytes left before now ReadFault all stops = (all, stops)

pub unread : (first last : Option (List ℕ)) {bytes : List ℕ} {names : List (List ℕ)} {word : List ℕ}
    (before between now : Counts) (fault : PeerFault) → first ≡ prepend_known bytes last → IsUnderway bytes names word →
    between ≡ before → Stops last between now fault → ReadsNames first last before now (Err fault)
unread first last {bytes} before between now fault e u same stops =
    let all = underway_plain u in
    let short = u.short in record {
      bytes = bytes;
      taken = e;
      few = omega (arith, short);
      stops = plain_stops bytes all;
      reads = unread_as bytes last before now fault (underway_goes_on u)
          (subst (λ (c : Counts). Stops last c now fault) same stops);
    }

-- a byte that ends the line
pub whole : (first last : Option (List ℕ)) {bytes : List ℕ} {names : List (List ℕ)} {word : List ℕ} (part : List ℕ)
    (b : ℕ) (all : List (List ℕ)) (before now : Counts) → first ≡ prepend_known (bytes ++ b ∷ []) last →
    IsUnderway bytes names word → now ≡ before → (ends : Bool) → ends ≡ true →
    Takes (bytes ++ b ∷ []) all part (Ok ends) → ReadsNames first last before now (Ok all)
whole first last {bytes} part b all before now e u same over is takes =
    let more = one_more b u in
    let line = subst (λ (f : Bool). Takes (bytes ++ b ∷ []) all part (Ok f)) is takes in record {
      bytes = bytes ++ b ∷ [];
      taken = e;
      few = more.0;
      stops = more.1;
      reads = (line.0, line.1, same);
    }

stops_as : (bytes : List ℕ) (names : List (List ℕ)) (word : List ℕ) (left : Option (List ℕ)) (before now : Counts)
    (fault : PeerFault) → GoesOnToLast bytes → now ≡ before → Takes bytes names word (Err fault)
    → NamesReadAs bytes left before now (Err fault)
stops_as bytes names word left before now (BadPeer at) there same t = (t.0, there, t.1, same)
stops_as bytes names word left before now Memory there same t = same
stops_as bytes names word left before now InputEnded there same t = absurd t
stops_as bytes names word left before now ReadFault there same t = absurd t

-- a byte that ends the reading by a fault
pub stopped : (first last : Option (List ℕ)) {bytes : List ℕ} {old : List (List ℕ)} {part : List ℕ} (b : ℕ)
    (names : List (List ℕ)) (word : List ℕ) (before now : Counts) (fault : PeerFault) →
    first ≡ prepend_known (bytes ++ b ∷ []) last → IsUnderway bytes old part → now ≡ before →
    Takes (bytes ++ b ∷ []) names word (Err fault) → ReadsNames first last before now (Err fault)
stopped first last {bytes} b names word before now fault e u same t =
    let more = one_more b u in
    record {
      bytes = bytes
          ++ b ∷ [];
      taken = e;
      few = more.0;
      stops = more.1;
      reads = stops_as (bytes ++ b ∷ []) names word last before now fault (goes_on_to b u) same t;
    }
