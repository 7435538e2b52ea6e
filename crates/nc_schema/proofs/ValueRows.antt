-- Values worked by computation: what texts the types admit, and the canonical ones (RFC 7950 9).
use Rattle.std.proofs.Common.{◌≡◌, ℕ, List, [], ◌∷◌, map, refl}
use Rattle.std.specs.Prelude.{codes, Option, Some, None}
use Rattle.std.specs.Fmt.{digits}
use Rattle.base64.specs.Decode.{groups_error, groups_bytes, scan_steps}
use Rattle.base64.specs.GeneralPurpose.{decoded_of}
use Rattle.nc_schema.specs.InstancePaths.{instance_path, node_pattern, pattern_step}
use Rattle.nc_schema.specs.NumberTexts.{whole_text, decimal_text}
use Rattle.nc_schema.specs.PathWords.{written_name, quoted_string, predicate_key, predicate, written_step}
use Rattle.nc_schema.specs.Values.{canonical, string_text, boolean_text, bits_text, binary_text, empty_text, identity_text, instance_text, node_instance_text}
use Rattle.nc_schema.proofs.Example.{example, bindings}

-- each text beside its canonical one
abbrev Rows : Type 0
Rows = List (List ℕ × Option (List ℕ))

-- they are those of a value at that data node
abbrev AreOf : ℕ → Rows → Type 0
AreOf number rows = map (λ row. canonical example number row.0 bindings) rows ≡ map (λ row. row.1) rows

-- RFC 7950 9.2: an int8. A sign `+` and zeros before the number go; white space round it does not count
abbrev whole_rows : Rows
whole_rows =
    (codes "+007", Some (codes "7"))
    ∷ (codes "-0", Some (codes "0"))
    ∷ (codes " -128\n", Some (codes "-128"))
    ∷ (codes "127", Some (codes "127"))
    ∷ (codes "128", None)
    ∷ (codes "-129", None)
    ∷ (codes "+-1", None)
    ∷ (codes "0x1", None)
    ∷ (codes "1 2", None)
    ∷ ([], None)
    ∷ []

whole_is : AreOf 7 whole_rows
unfolding canonical whole_text digits
whole_is = refl

-- RFC 7950 9.3: a decimal64 with two fraction digits, from -1.28 to 1.27
abbrev decimal_rows : Rows
decimal_rows =
    (codes "-0.00", Some (codes "0.0"))
    ∷ (codes "+1.", Some (codes "1.0"))
    ∷ (codes "001.20", Some (codes "1.2"))
    ∷ (codes "-0.05", Some (codes "-0.05"))
    ∷ (codes "1.27", Some (codes "1.27"))
    ∷ (codes "1.28", None)
    ∷ (codes "0.005", None)
    ∷ (codes ".5", None)
    ∷ (codes "1.2.3", None)
    ∷ []

decimal_is : AreOf 8 decimal_rows
unfolding canonical decimal_text digits
decimal_is = refl

-- RFC 7950 9.5
abbrev boolean_rows : Rows
boolean_rows =
    (codes " true ", Some (codes "true"))
    ∷ (codes "false", Some (codes "false"))
    ∷ (codes "1", None)
    ∷ (codes "True", None)
    ∷ []

boolean_is : AreOf 9 boolean_rows
unfolding canonical boolean_text
boolean_is = refl

-- RFC 7950 9.6: `one` or `oneself`
abbrev enumeration_rows : Rows
enumeration_rows =
    (codes "oneself", Some (codes "oneself"))
    ∷ (codes "one", Some (codes "one"))
    ∷ (codes "ones", None)
    ∷ []

enumeration_is : AreOf 10 enumeration_rows
unfolding canonical
enumeration_is = refl

-- RFC 7950 9.7: `a`, `b` and `c`, in the order of their positions
abbrev bits_rows : Rows
bits_rows =
    (codes "c  a", Some (codes "a c"))
    ∷ ([], Some [])
    ∷ (codes "a a", None)
    ∷ (codes "a d", None)
    ∷ []

bits_is : AreOf 11 bits_rows
unfolding canonical bits_text
bits_is = refl

-- RFC 7950 9.8: at most two octets
abbrev binary_rows : Rows
binary_rows =
    (codes "YQ ==", Some (codes "YQ=="))
    ∷ ([], Some [])
    ∷ (codes "YWFh", None)
    ∷ (codes "YQ", None)
    ∷ []

binary_is : AreOf 12 binary_rows
unfolding canonical binary_text decoded_of groups_error groups_bytes scan_steps
binary_is = refl

-- RFC 7950 9.11
abbrev empty_rows : Rows
empty_rows =
    (codes " ", Some [])
    ∷ (codes "x", None)
    ∷ []

empty_is : AreOf 13 empty_rows
unfolding canonical empty_text
empty_is = refl

-- RFC 7950 9.12: an int8 or a string, which keeps its white space
abbrev union_rows : Rows
union_rows =
    (codes "07", Some (codes "7"))
    ∷ (codes "seven", Some (codes "seven"))
    ∷ (codes " x", Some (codes " x"))
    ∷ (codes "300", Some (codes "300"))
    ∷ []

union_is : AreOf 14 union_rows
unfolding canonical whole_text digits string_text
union_is = refl

-- RFC 7950 9.10: the identity `des`, by prefix or in the default namespace
abbrev identity_rows : Rows
identity_rows =
    (codes "e:des", Some (codes "ex:des"))
    ∷ (codes "des", Some (codes "ex:des"))
    ∷ (codes "ex:des", None)
    ∷ (codes "e:de", None)
    ∷ (codes ":des", None)
    ∷ []

identity_is : AreOf 15 identity_rows
unfolding canonical identity_text
identity_is = refl

-- RFC 7950 9.4
abbrev string_rows : Rows
string_rows =
    (codes " x ' \" ", Some (codes " x ' \" "))
    ∷ ([], Some [])
    ∷ []

string_is : AreOf 1 string_rows
unfolding canonical string_text
string_is = refl

-- RFC 7950 9.9: a value of the target's type, a string
abbrev leafref_rows : Rows
leafref_rows =
    (codes " a", Some (codes " a"))
    ∷ []

leafref_is : AreOf 5 leafref_rows
unfolding canonical string_text
leafref_is = refl

-- a key that holds both marks could not stand in a path
abbrev key_rows : Rows
key_rows =
    (codes "it's", Some (codes "it's"))
    ∷ (codes "'\"", None)
    ∷ []

key_is : AreOf 3 key_rows
unfolding canonical string_text
key_is = refl

-- RFC 7950 9.13: module names as prefixes, and apostrophes round values without one
abbrev instance_rows : Rows
instance_rows =
    (codes "/e:top/e:port[ e:name = \"a\" ]/e:tag", Some (codes "/ex:top/ex:port[ex:name='a']/ex:tag"))
    ∷ (codes "/e:top/e:port[e:name=\"it's\"]", Some (codes "/ex:top/ex:port[ex:name=\"it's\"]"))
    ∷ (codes "/e:top/e:port", None)
    ∷ (codes "/ex:top", None)
    ∷ []

instance_is : AreOf 16 instance_rows
unfolding canonical instance_text string_text instance_path pattern_step written_name quoted_string predicate_key predicate written_step
instance_is = refl

-- RFC 8341, `node-instance-identifier`: keys may be left out
abbrev node_instance_rows : Rows
node_instance_rows =
    (codes "/e:top/e:port", Some (codes "/ex:top/ex:port"))
    ∷ (codes "/", Some (codes "/"))
    ∷ (codes "/e:top/e:no", None)
    ∷ []

node_instance_is : AreOf 17 node_instance_rows
unfolding canonical node_instance_text node_pattern pattern_step written_name quoted_string predicate_key predicate written_step
node_instance_is = refl

-- a union of itself with two others: the member that is reached again admits nothing
abbrev cyclic_rows : Rows
cyclic_rows =
    (codes "true", Some (codes "true"))
    ∷ (codes "x", None)
    ∷ []

cyclic_is : AreOf 18 cyclic_rows
unfolding canonical boolean_text whole_text digits string_text
cyclic_is = refl
