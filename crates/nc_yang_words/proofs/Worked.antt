-- Double-quoted strings worked by computation (RFC 7950 6.1.3).
use Rattle.std.proofs.Common.{◌≡◌, [], ◌∷◌, Some, None, refl}
use Rattle.nc_names.specs.Signs.{tab, line_feed, carriage_return, blank, quote, backslash}
use Rattle.std.proofs.Math.Utf8.{encode}
use Rattle.nc_yang_words.specs.Doubles.{double_string}

-- white space before a line break is stripped, and of that before the next line as much as stands in the
-- columns up to the opening mark, here two; of the tab seven columns are left
margin_is_cut : double_string 2 (97 ∷ tab ∷ blank ∷ line_feed ∷ blank ∷ tab ∷ 98 ∷ quote ∷ [])
    ≡ Some (record {
      text = 97 ∷ line_feed ∷ blank ∷ blank ∷ blank ∷ blank ∷ blank ∷ blank ∷ blank ∷ 98 ∷ [];
      count = 7;
    })
unfolding encode
margin_is_cut = refl

-- a line break of CR LF stays as it is written, and white space before it is stripped
break_is_kept : double_string 1 (97 ∷ blank ∷ carriage_return ∷ line_feed ∷ blank ∷ 98 ∷ quote ∷ [])
    ≡ Some (record { text = 97 ∷ carriage_return ∷ line_feed ∷ 98 ∷ []; count = 6 })
unfolding encode
break_is_kept = refl

-- a CR that stands alone is a character as any other
return_is_kept : double_string 1 (97 ∷ blank ∷ carriage_return ∷ blank ∷ line_feed ∷ 98 ∷ quote ∷ [])
    ≡ Some (record { text = 97 ∷ blank ∷ carriage_return ∷ line_feed ∷ 98 ∷ []; count = 6 })
unfolding encode
return_is_kept = refl

-- white space that a backslash gives is never stripped
escape_is_kept : double_string 1 (97 ∷ backslash ∷ 116 ∷ blank ∷ line_feed ∷ 98 ∷ quote ∷ [])
    ≡ Some (record { text = 97 ∷ tab ∷ line_feed ∷ 98 ∷ []; count = 6 })
unfolding encode
escape_is_kept = refl

-- a backslash before another character is a fault
no_other_escape : double_string 1 (backslash ∷ 114 ∷ quote ∷ []) ≡ None
no_other_escape = refl
