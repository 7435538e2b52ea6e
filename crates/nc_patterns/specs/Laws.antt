-- What the laws say.
use Rattle.std.specs.Prelude.{◌≡◌, ℕ, ◌≤◌, ◌==◌, ◌||◌, ◌&&◌, not, nat_le, Bool, true, false, Option, List, [], ◌∷◌, ◌++◌, Some, None, Err, IfOk, chars, codes, encode_utf8, encode_utf8_all}
use Rattle.std.specs.List.{flat_map}
use Rattle.std.specs.Int.{is_in_range}
use Rattle.regex.specs.Patterns.{Re, default_config, literal}
use Rattle.regex_syntax.specs.Brackets.{Nested, flat, member, operator, set_item}
use Rattle.regex_syntax.specs.Escapes.{character}
use Rattle.regex_syntax.specs.Grammar.{atom}
use Rattle.regex_syntax.specs.Reading.{Text, is_at}
use Rattle.regex_syntax.specs.Sets.{one_of}
use Rattle.nc_patterns.specs.Reading.{tokens}
use Rattle.nc_patterns.specs.Translation.{quoted, quoted_text, translation}
use Rattle.nc_patterns.specs.Admits.{admits}
use Rattle.nc_patterns.specs.declared.fault.ReadFault.TheVariants.{BadArgument, Unsupported}

-- the tokens of a pattern spell it, from its first character to its last
abbrev pub SpellPattern : List ℕ → Type 0
SpellPattern pattern = IfOk (tokens pattern) (λ ts. flat_map (λ s. s.text) ts ≡ chars pattern)

-- patterns and how they are written for `regex`
pub record AreTranslated : Type 0 where
  pub ranges : translation (codes "[a-c]+\\d?") ≡ codes "[a-c]+[0-9]?"
  pub any : translation (codes ".*") ≡ codes "[^\\n\\r]*"
  pub anchors : translation (codes "^a$b^") ≡ codes "\\^a\\$b\\^"
  pub groups : translation (codes "(a|(b)?|)+") ≡ codes "(?:a|(?:b)?|)+"
  pub nothing : translation [] ≡ []
  pub empty_group : translation (codes "()") ≡ codes "(?:)"
  pub counts : translation (codes "a{0}b{2,}c{3,1000}") ≡ codes "a{0}b{2,}c{3,1000}"
  pub spaces : translation (codes "\\s[^\\s#]x #") ≡ codes "[ \\t\\n\\r][^[ \\t\\n\\r]\\#]x \\#"
  pub operators : translation (codes "[a&&b~~c]") ≡ codes "[a\\&\\&b\\~\\~c]"
  pub classes : translation (codes "[:alpha:]") ≡ codes "[:alpha:]"
  pub hyphens : translation (codes "[-a-c\\-.-]") ≡ codes "[\\-a-c\\-\\.\\-]"
  pub hyphen_alone : translation (codes "[-][^-]") ≡ codes "[\\-][^\\-]"
  pub carets : translation (codes "[^^a][a^][!-^]") ≡ codes "[^\\^a][a\\^][!-\\^]"
  pub categories : translation (codes "\\p{L}[\\P{Nd}]") ≡ codes "\\p{L}[\\P{Nd}]"
  pub escapes : translation (codes "\\.\\-\\[\\n\\\\") ≡ codes "\\.\\-\\[\n\\\\"
  pub signs : translation (codes "a-b,<>&'\"/~") ≡ codes "a\\-b,<>\\&'\"/\\~"

-- patterns and the place of their first fault
pub record AreFaulty : Type 0 where
  pub no_bound : tokens (codes "a{,3}") ≡ Err (BadArgument 1)
  pub brace : tokens (codes "{") ≡ Err (BadArgument 0)
  pub closing_brace : tokens (codes "a}") ≡ Err (BadArgument 1)
  pub spaced_count : tokens (codes "a{ 2 }") ≡ Err (BadArgument 1)
  pub falling_count : tokens (codes "a{3,2}") ≡ Err (BadArgument 1)
  pub great_count : tokens (codes "a{1001}") ≡ Err (BadArgument 1)
  pub lazy : tokens (codes "a*?") ≡ Err (BadArgument 2)
  pub twice : tokens (codes "a{2}+") ≡ Err (BadArgument 4)
  pub nothing_repeated : tokens (codes "a|*") ≡ Err (BadArgument 2)
  pub flags : tokens (codes "(?:a)") ≡ Err (BadArgument 1)
  pub opened : tokens (codes "(a") ≡ Err (BadArgument 2)
  pub closed : tokens (codes "a)") ≡ Err (BadArgument 1)
  pub bracket : tokens (codes "a]") ≡ Err (BadArgument 1)
  pub empty_class : tokens (codes "[]a]") ≡ Err (BadArgument 1)
  pub empty_negation : tokens (codes "[^]") ≡ Err (BadArgument 2)
  pub open_class : tokens (codes "[ab") ≡ Err (BadArgument 3)
  pub nested_class : tokens (codes "[a[b]]") ≡ Err (BadArgument 2)
  pub posix : tokens (codes "[[:alpha:]]") ≡ Err (BadArgument 1)
  pub falling_range : tokens (codes "[c-a]") ≡ Err (BadArgument 2)
  pub hyphen_between : tokens (codes "[a-c-e]") ≡ Err (BadArgument 4)
  pub hyphens : tokens (codes "[--x]") ≡ Err (BadArgument 2)
  pub range_from_class : tokens (codes "[\\d-z]") ≡ Err (BadArgument 3)
  pub range_to_class : tokens (codes "[a-\\d]") ≡ Err (BadArgument 2)
  pub backslash : tokens (codes "a\\") ≡ Err (BadArgument 1)
  pub subtraction : tokens (codes "[a-z-[aeiou]]") ≡ Err (Unsupported 4)
  pub word : tokens (codes "a\\w") ≡ Err (Unsupported 1)
  pub word_in_class : tokens (codes "[\\w.-]") ≡ Err (Unsupported 1)
  pub name : tokens (codes "\\i\\c*") ≡ Err (Unsupported 0)
  pub no_digit : tokens (codes "\\D") ≡ Err (Unsupported 0)
  pub block : tokens (codes "\\p{IsBasicLatin}") ≡ Err (Unsupported 0)
  pub no_category : tokens (codes "\\p{Lx}") ≡ Err (Unsupported 0)
  pub bare_category : tokens (codes "\\pL") ≡ Err (Unsupported 0)
  pub surrogates : tokens (codes "\\p{Cs}") ≡ Err (Unsupported 0)
  pub dollar : tokens (codes "\\$") ≡ Err (Unsupported 0)

-- patterns, and texts that they admit or not; `other_digit` is a digit of another script, U+0663
pub record AreJudged : Type 0 where
  pub same : admits (codes "ab") (codes "ab") ≡ true
  pub before : admits (codes "ab") (codes "xab") ≡ false
  pub after : admits (codes "ab") (codes "abx") ≡ false
  pub no_end : admits (codes "a$") (codes "a") ≡ false
  pub dollar : admits (codes "a$") (codes "a$") ≡ true
  pub no_start : admits (codes "a|^b") (codes "b") ≡ false
  pub caret : admits (codes "a|^b") (codes "^b") ≡ true
  pub run : admits (codes "[a-c]+") (codes "ab") ≡ true
  pub digit : admits (codes "a\\d?") (codes "a7") ≡ true
  pub digits : admits (codes "a\\d?") (codes "a77") ≡ false
  pub any : admits (codes ".") (codes "x") ≡ true
  pub line_break : admits (codes ".") (codes "\n") ≡ false
  pub other_digit : admits (codes "\\d") (0xD9 ∷ 0xA3 ∷ []) ≡ false
  pub operator : admits (codes "[&&]") (codes "&") ≡ true
  pub branch : admits (codes "(a|ab)(c|bcd)") (codes "abcd") ≡ true
  pub empty : admits (codes "()") [] ≡ true
  pub nothing : admits [] (codes "a") ≡ false

-- what a character that stands for itself is to `regex`, whatever follows it: a literal outside classes, and within
-- them a member that ends no class, begins none, and joins with nothing to an operator
pub record StandsForItself (c : ℕ) : Type 0 where
  pub bytes : quoted c ≡ encode_utf8_all (quoted_text c)
  pub literal : (t : Text) → atom default_config (quoted_text c ++ t) ≡ Some (flat (literal (encode_utf8 c)), t)
  pub member : (t : Text) → member default_config (quoted_text c ++ t) ≡ Some (character c false, t)
  pub ends_no_class : (t : Text) → is_at "]" (quoted_text c ++ t) ≡ false
  pub begins_no_class : (t : Text) → is_at "[" (quoted_text c ++ t) ≡ false
  pub no_operator : (t : Text) → operator (quoted_text c ++ t) ≡ None

-- `regex` reads a class of these characters at the front, nested so deep, and goes on with the text
abbrev pub as_class : (ℕ → Bool) → ℕ → Text → Option (Nested Re × Text)
as_class set depth t = Some (record { value = one_of default_config set; depth = depth }, t)

-- what other tokens are to `regex`, as they are written: classes outside classes, and members within them
pub record TokensMean : Type 0 where
  pub any : (t : Text) → atom default_config (codes "[^\\n\\r]" ++ t)
      ≡ as_class (λ c. nat_le c 0x10_FFFF && not (c == 0x0A || c == 0x0D)) 2 t
  pub digit : (t : Text) → atom default_config (codes "[0-9]" ++ t) ≡ as_class (is_in_range 0x30 0x39) 1 t
  pub space : (t : Text) → atom default_config (codes "[ \\t\\n\\r]" ++ t)
      ≡ as_class (λ c. c == 0x20 || (c == 0x09 || (c == 0x0A || c == 0x0D))) 2 t
  pub range : (low high : ℕ) (t : Text) → low ≤ high →
      set_item default_config (quoted_text low ++ (0x2D ∷ (quoted_text high ++ t))) ≡ Some (is_in_range low high, t)
  pub single : (c d : ℕ) (t : Text) → (d == 0x2D) ≡ false →
      set_item default_config (quoted_text c ++ (d ∷ t)) ≡ Some ((λ e. e == c), d ∷ t)
