-- One tree with every kind of declaration, escape and content, and its text written out by hand.
use Rattle.std.proofs.Common.{◌≡◌, ℕ, List, [], ◌∷◌, ◌++◌, refl}
use Rattle.std.specs.Prelude.{codes}
use Rattle.nc_message.specs.declared.tree.Attr.{Attr}
use Rattle.nc_message.specs.declared.tree.Elem.{Elem}
use Rattle.nc_message.specs.declared.tree.Part.TheVariants.{Child, Chars}
use Rattle.nc_message.specs.declared.tree.Tree.{Tree}
use Rattle.nc_message.specs.Marks.{ampersand, less_than, greater_than, quotation_mark, carriage_return, tab, line_feed, default_namespace, prefixed_namespace, value_start, empty_end, end_tag, xml_prefix}
use Rattle.nc_message.specs.declared.tree.Part.TheBlock.{hidden-the_row-Elem-1}
use denote.Hole.Carrier.{hidden}
use Rattle.nc_message.specs.Written.{written}

attr : (space prefix name value : List ℕ) → Attr
attr space prefix name value = record { name = record { space = space; name = name }; prefix = prefix; value = value }

same : Elem
same = record {
  name = record { space = codes "u"; name = codes "b" };
  bounds = record { prefix = []; space = codes "u" } ∷ record { prefix = codes "q"; space = codes "w" } ∷ [];
  attrs = [];
  parts = Chars (codes "x]]>&<\r\"\n") ∷ [];
}

other : Elem
other = record { name = record { space = []; name = codes "c" }; bounds = []; attrs = []; parts = [] }

sample : Tree
sample = record {
  root = record {
    name = record { space = codes "u"; name = codes "a" };
    bounds = [];
    attrs = attr [] [] (codes "k") (codes "\"<>&\t\n\r'") ∷ attr (codes "v") (codes "p") (codes "m") (codes "1")
        ∷ attr (codes "v") (codes "p") (codes "n") (codes "2") ∷ attr (codes "x") (codes "xml") (codes "lang")
        (codes "en") ∷ [];
    parts = Child same ∷ Child other ∷ [];
  };
}

sample_is_written : written sample
    ≡ codes "<a xmlns=\"u\" xmlns:p=\"v\" k=\"&quot;&lt;&gt;&amp;&#9;&#10;&#13;'\" p:m=\"1\" p:n=\"2\" xml:lang=\"en\">"
    ++ codes "<b xmlns:q=\"w\">x]]&gt;&amp;&lt;&#13;\"\n</b><c xmlns=\"\"/></a>"
unfolding attr same other sample ampersand less_than greater_than quotation_mark carriage_return tab line_feed
    default_namespace prefixed_namespace value_start empty_end end_tag xml_prefix hidden-the_row-Elem-1 hidden
sample_is_written = refl
