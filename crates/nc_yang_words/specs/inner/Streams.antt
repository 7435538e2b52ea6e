-- A double-quoted string, one character after another.
use Rattle.std.specs.Prelude.{◌≡◌, ℕ, ◌+◌, ◌-◌, Bool, true, false, ◌==◌, ◌&&◌, if◌then◌else◌, List, [], ◌∷◌, ◌++◌, Option, Some, None, encode_utf8, replicate}
use Rattle.nc_names.specs.Signs.{blank, line_feed, carriage_return, quote, backslash}
use Rattle.nc_yang_words.specs.Signs.{is_yang_char, is_blank, starts_with, columns, utf8}
use Rattle.nc_yang_words.specs.Doubles.{escape}
use Rattle.nc_yang_words.specs.declared.double.Quoted.{Quoted}
use Rattle.nc_yang_words.specs.declared.double.Double.{Double}
use Rattle.nc_yang_words.specs.declared.double.Turn.{Turn}
use Rattle.nc_yang_words.specs.declared.double.Turn.TheVariants.{Goes, Closes, Faulty}

-- the string, with these bytes before it
abbrev pub with_front : List ℕ → Option Quoted → Option Quoted
with_front front None = None
with_front front (Some q) = Some (record { text = front ++ q.text; count = q.count })

-- what is held after one more character of white space, where `room` columns are still to be cut
abbrev pub held_more : (room : ℕ) (held : List ℕ) (c : ℕ) → List ℕ
held_more room held c = held ++ (if room == 0 then c ∷ [] else replicate (columns c - room) blank)

-- the value of what follows in a double-quoted string, and the number of its characters, `count` of
-- which are before. `width` columns are cut from the leading white space of a later line, and `room` of
-- them are still to be cut here. `held` is the white space just before, which a line break drops
abbrev pub double : (width room : ℕ) (held : List ℕ) (escaped : Bool) (count : ℕ) → List ℕ → Option Quoted
double width room held escaped count [] = None
double width room held true count (c ∷ cs) =
    elim (escape c) [
      | None ↦ None
      | Some x ↦ with_front (encode_utf8 x) (double width 0 [] false (count + 1) cs)
    ]
double width room held false count (c ∷ cs) =
    if c == quote then Some (record { text = utf8 held; count = count })
    else (if c == backslash then with_front (utf8 held) (double width 0 [] true (count + 1) cs)
    else (if c == line_feed then with_front (encode_utf8 c) (double width width [] false (count + 1) cs)
    else (if c == carriage_return && starts_with line_feed cs then
    with_front (encode_utf8 c) (double width 0 [] false (count + 1) cs)
    else (if is_blank c then double width (room - columns c) (held_more room held c) false (count + 1) cs
    else (if is_yang_char c then with_front (utf8 held ++ encode_utf8 c) (double width 0 [] false (count + 1) cs)
    else None)))))

-- the string that a reader has read in part
abbrev pub reads : Double → ℕ → List ℕ → Option Quoted
reads d count cs = with_front d.text (double d.width d.room d.held.items d.escaped count cs)

-- what a string is, where a character has done this to its reader
abbrev pub Turns : Turn → Double → ℕ → List ℕ → Option Quoted → Type 0
Turns Goes d count cs string = string ≡ reads d (count + 1) cs
Turns Closes d count cs string = string ≡ Some (record { text = d.text; count = count })
Turns Faulty d count cs string = string ≡ None
