-- The line that stands first in a text.
use Rattle.std.proofs.Common.{◌≡◌, ◌≢◌, ◌<◌, ◌≤◌, ◌+◌, ◌^◌, ℕ, suc, Bool, true, false, List, [], ◌∷◌, ◌++◌, length, drop, take, get_or, Option, Some, None, Result, Ok, Err, refl, sym, ap, subst, ◌∙◌, append_assoc, length-append, arith}
use Rattle.std.specs.Prelude.{codes}
use Rattle.std.specs.Fmt.{decimal}
use Rattle.std.specs.List.{All, flat_map}
use Rattle.std.specs.Str.{is_utf8}
use Rattle.std.proofs.lemmas.List.Elements.{All-cons, All-head, All-nil, All-tail, All-weaker}
use Rattle.nc_names.specs.Signs.{blank, line_feed}
use Rattle.nc_script_text.specs.Lines.{BeginsNone, IsName, IsNameByte, IsProper, IsWithin, begin_word, body_of, line_of, spaced, words_of}
use Rattle.nc_script_text.specs.inner.Heads.{Completes, Finds, IsCompleted, IsFound, IsHead, IsSome, Reads, cut, head_words, size_of, step_of}
use Rattle.nc_script_text.specs.declared.fault.LineFault.{LineFault}
use Rattle.nc_script_text.specs.declared.fault.LineFault.TheVariants.{Bad, Memory}
use Rattle.nc_script_text.specs.declared.head.Head.{Head}
use Rattle.nc_script_text.specs.declared.head.Head.TheVariants.{Begin as HeadBegin, Send, End as HeadEnd, Clock}
use Rattle.nc_script_text.specs.declared.line.Found.{Found}
use Rattle.nc_script_text.specs.declared.step.ScriptStep.{ScriptStep}
use Rattle.nc_script_text.specs.declared.step.ScriptStep.TheVariants.{Begin, Piece, End, Reading}
use Rattle.nc_script_text.proofs.Cuts.{cut_named, cut_spaced, spaced_cut}
use Rattle.nc_script_text.proofs.Named.{spaced_line, words_named}

abbrev NoFeed : List ℕ → Type 0
NoFeed line = All (λ x. x ≢ line_feed) line

record SameLine (a b s t : List ℕ) : Type 0 where
  front : a ≡ b
  back : s ≡ t

-- two texts with one first line end it at one place
first_line : (a b s t : List ℕ) → NoFeed a → NoFeed b → a ++ line_feed ∷ s ≡ b ++ line_feed ∷ t → SameLine a b s t
first_line [] [] s t na nb e = record { front = refl; back = cc }
first_line [] (d ∷ b) s t na nb e =
    let k : line_feed ≡ d = cc in absurd (All-head (λ x. x ≢ line_feed) d b nb (sym k))
first_line (c ∷ a) [] s t na nb e =
    let k : c ≡ line_feed = cc in absurd (All-head (λ x. x ≢ line_feed) c a na k)
first_line (c ∷ a) (d ∷ b) s t na nb e =
    let k : c ≡ d = cc in
    let tails : a ++ line_feed ∷ s ≡ b ++ line_feed ∷ t = cc in
    let r = first_line a b s t (All-tail (λ x. x ≢ line_feed) c a na) (All-tail (λ x. x ≢ line_feed) d b nb) tails in
    let f : a ≡ b = r.front in
    record { front = cc; back = r.back }

-- a text without a line feed has no line
no_feed : (text b t : List ℕ) → NoFeed text → text ≢ b ++ line_feed ∷ t
no_feed [] [] t none e = cc
no_feed [] (d ∷ b) t none e = cc
no_feed (c ∷ text) [] t none e =
    let k : c ≡ line_feed = cc in All-head (λ x. x ≢ line_feed) c text none k
no_feed (c ∷ text) (d ∷ b) t none e =
    let tails : text ≡ b ++ line_feed ∷ t = cc in no_feed text b t (All-tail (λ x. x ≢ line_feed) c text none) tails

line_split : (step : ScriptStep) (more : List ℕ)
    → line_of step ++ more ≡ spaced (words_of step) ++ line_feed ∷ (body_of step ++ more)
line_split step more = append_assoc (spaced (words_of step)) (line_feed ∷ body_of step) more

line_of_step : (step : ScriptStep) → IsProper step → NoFeed (spaced (words_of step))
line_of_step step proper = spaced_line (words_of step) (words_named step proper.within)

pub none_without_feed : (text : List ℕ) → NoFeed text → BeginsNone text
none_without_feed text none step more proper e =
    no_feed text (spaced (words_of step)) (body_of step ++ more) none (e ∙ line_split step more)

-- a step that stands first in a text has the text's first line
record HasLine (line after : List ℕ) (step : ScriptStep) (more : List ℕ) : Type 0 where
  words : line ≡ spaced (words_of step)
  body : after ≡ body_of step ++ more

has_line : (line after : List ℕ) (step : ScriptStep) (more : List ℕ) → NoFeed line → IsProper step
    → line ++ line_feed ∷ after ≡ line_of step ++ more → HasLine line after step more
has_line line after step more none proper e =
    let same = first_line line (spaced (words_of step)) after (body_of step ++ more) none (line_of_step step proper) (e ∙ line_split step more) in
    record { words = same.front; body = same.back }

pub none_not_text : (text line after : List ℕ) → text ≡ line ++ line_feed ∷ after → NoFeed line → is_utf8 line ≡ false → BeginsNone text
none_not_text text line after is none not_text step more proper e =
    let has = has_line line after step more none proper (sym is ∙ e) in
    differ (is_utf8 line) (subst (λ l. is_utf8 l ≡ true) (sym has.words) proper.text) not_text
  where
    differ : (b : Bool) → b ≡ true → b ≡ false → ⊥
    differ b one other = cc (one, other)

-- the words of a step are those of a line
some_words : (step : ScriptStep) → IsWithin step → cut (spaced (words_of step)) ≡ words_of step
some_words (Begin connection peer) within =
    cut_spaced (begin_word peer.recovery) (decimal connection ∷ peer.user ∷ peer.groups) (words_named (Begin connection peer) within)
some_words (Piece connection bytes) within =
    cut_spaced (codes "send") (decimal connection ∷ decimal (length bytes) ∷ []) (words_named (Piece connection bytes) within)
some_words (End connection) within =
    cut_spaced (codes "end") (decimal connection ∷ []) (words_named (End connection) within)
some_words (Reading at) within = cut_spaced (codes "clock") (decimal at ∷ []) (words_named (Reading at) within)

head_of : ScriptStep → Head
head_of (Begin connection peer) = HeadBegin connection peer
head_of (Piece connection bytes) = Send connection (length bytes)
head_of (End connection) = HeadEnd connection
head_of (Reading at) = Clock at

head_words_of : (step : ScriptStep) → words_of step ≡ head_words (head_of step)
unfolding head_of
head_words_of (Begin connection peer) = refl
head_words_of (Piece connection bytes) = refl
head_words_of (End connection) = refl
head_words_of (Reading at) = refl

head_is : (step : ScriptStep) → IsWithin step → IsHead (head_of step)
unfolding head_of
head_is (Begin connection peer) (low, user, groups) =
    (low, user.some, All-weaker IsName IsSome (λ name is. is.some) peer.groups groups)
head_is (Piece connection bytes) within = within
head_is (End connection) within = within
head_is (Reading at) within = within

pub none_unread : (text line after : List ℕ) → text ≡ line ++ line_feed ∷ after → NoFeed line → Reads (cut line) (Err Bad) → BeginsNone text
none_unread text line after is none unread step more proper e =
    let has = has_line line after step more none proper (sym is ∙ e) in
    unread (head_of step) (head_is step proper.within)
    (ap cut has.words ∙ some_words step proper.within ∙ head_words_of step)

pub none_incomplete : (text line after : List ℕ) (head : Head) → text ≡ line ++ line_feed ∷ after → NoFeed line
    → Reads (cut line) (Ok head) → Completes head after (Err Bad) → BeginsNone text
none_incomplete text line after head is none read incomplete step more proper e =
    let has = has_line line after step more none proper (sym is ∙ e) in
    incomplete step more read.0 proper.within
    (sym (some_words step proper.within) ∙ (sym (ap cut has.words) ∙ read.1)) has.body

-- the words of a line as a step
within : (head : Head) (bytes : List ℕ) → IsHead head → All (All IsNameByte) (head_words head) → length bytes ≡ size_of head
    → IsWithin (step_of head bytes)
within (HeadBegin connection peer) bytes (low, user, groups) named size =
    let behind =
    All-tail (All IsNameByte) (decimal connection) (peer.user ∷ peer.groups)
    (All-tail (All IsNameByte) (begin_word peer.recovery) (decimal connection ∷ peer.user ∷ peer.groups) named) in (
      low,
      record { some = user; bytes = All-head (All IsNameByte) peer.user peer.groups behind },
      names peer.groups groups (All-tail (All IsNameByte) peer.user peer.groups behind),
    )
  where
    names : (words : List (List ℕ)) → All IsSome words → All (All IsNameByte) words → All IsName words
    names [] some bytes = All-nil IsName
    names (word ∷ words) some bytes =
        All-cons IsName word words
        (record { some = All-head IsSome word words some; bytes = All-head (All IsNameByte) word words bytes })
        (names words (All-tail IsSome word words some) (All-tail (All IsNameByte) word words bytes))
within (Send connection size) bytes (low, few) named same = (low, subst (λ n. n ≤ 4194304) (sym same) few)
within (HeadEnd connection) bytes low named same = low
within (Clock at) bytes low named same = low

step_words : (head : Head) (bytes : List ℕ) → length bytes ≡ size_of head → words_of (step_of head bytes) ≡ head_words head
step_words (HeadBegin connection peer) bytes size = refl
step_words (Send connection number) bytes size = ap (λ n. head_words (Send connection n)) size
step_words (HeadEnd connection) bytes size = refl
step_words (Clock at) bytes size = refl

drop_more : (line after : List ℕ) (len : ℕ) → drop (length line + 1 + len) (line ++ line_feed ∷ after) ≡ drop len after
drop_more [] after len =
    let more : 0 + 1 + len ≡ suc len = omega arith in ap (λ n. drop n (line_feed ∷ after)) more
drop_more (c ∷ line) after len =
    let more : length (c ∷ line) + 1 + len ≡ suc (length line + 1 + len) = omega arith in
    ap (λ n. drop n (c ∷ (line ++ line_feed ∷ after))) more ∙ drop_more line after len

pub found_first : (line after : List ℕ) (head : Head) (inner : Found) → NoFeed line → is_utf8 line ≡ true → Reads (cut line) (Ok head)
    → IsCompleted head after inner → IsFound (line ++ line_feed ∷ after) (record { step = inner.step; len = length line + 1 + inner.len })
found_first line after head inner none text_is read done =
    let words : words_of inner.step ≡ cut line =
    ap words_of done.step_is ∙ (step_words head done.bytes done.size_is ∙ sym read.1) in
    let line_is : spaced (words_of inner.step) ≡ line = ap spaced words ∙ spaced_cut line in
    record {
      proper = record {
        within = subst IsWithin (sym done.step_is)
            (within head done.bytes read.0 (subst (All (All IsNameByte)) read.1 (cut_named line none)) done.size_is);
        text = subst (λ l. is_utf8 l ≡ true) (sym line_is) text_is;
      };
      few = omega (arith, done.few, length-append line (line_feed ∷ after));
      some = omega arith;
      text_is =
          ap (λ x. line ++ line_feed ∷ x) done.body
          ∙ (ap (λ x. x ++ line_feed ∷ (body_of inner.step ++ drop inner.len after)) (sym line_is)
          ∙ (sym (line_split inner.step (drop inner.len after))
          ∙ ap (λ x. line_of inner.step ++ x) (sym (drop_more line after inner.len))));
    }

-- what reading the words of a line, and then its body, comes to
pub first_found : (line after : List ℕ) (head : Head) (inner : Found) → NoFeed line → is_utf8 line ≡ true → Reads (cut line) (Ok head)
    → Completes head after (Ok inner)
    → Finds (line ++ line_feed ∷ after) (Ok (record { step = inner.step; len = length line + 1 + inner.len }))
first_found line after head inner none text_is read done = found_first line after head inner none text_is read done

pub none_read : (line after : List ℕ) (fault : LineFault) → NoFeed line → Reads (cut line) (Err fault)
    → Finds (line ++ line_feed ∷ after) (Err fault)
none_read line after Bad none unread = none_unread (line ++ line_feed ∷ after) line after refl none unread
none_read line after Memory none unread = tt

pub none_complete : (line after : List ℕ) (head : Head) (fault : LineFault) → NoFeed line → Reads (cut line) (Ok head)
    → Completes head after (Err fault) → Finds (line ++ line_feed ∷ after) (Err fault)
none_complete line after head Bad none read incomplete =
    none_incomplete (line ++ line_feed ∷ after) line after head refl none read incomplete
none_complete line after head Memory none read incomplete = tt

pub finds_there : (text line after : List ℕ) (result : Result Found LineFault) → text ≡ line ++ line_feed ∷ after
    → Finds (line ++ line_feed ∷ after) result → Finds text result
finds_there text line after result is finds = subst (λ t. Finds t result) (sym is) finds
