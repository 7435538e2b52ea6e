-- Types, circles and defaults do not depend on which plan of the modules is taken.
use Rattle.std.proofs.Common.{◌≡◌, ℕ, List, cond, sym, ap, ◌∙◌}
use Rattle.std.specs.Prelude.{Bool, Option, Some, None, IsSomeAnd, option_and_then, option_map, slice_get}
use Rattle.nc_names.specs.declared.name.QName.{QName}
use Rattle.nc_schema.specs.Tables.{Tables}
use Rattle.nc_schema.specs.declared.node.Kind.{Kind}
use Rattle.nc_schema.specs.declared.node.Node.{Node}
use Rattle.nc_schema.specs.declared.value_type.ValueType.{ValueType}
use Rattle.nc_yang_statements.specs.declared.keyword.Keyword.TheVariants.{TypeName}
use Rattle.nc_yang_scopes.specs.Parts.{part_of}
use Rattle.nc_yang_scopes.specs.Scopes.{Located, Scoping}
use Rattle.nc_yang_scopes.specs.declared.naming.TextFault.{TextFault}
use Rattle.nc_yang_nodes.specs.Alike.{AreAlike}
use Rattle.nc_yang_nodes.specs.declared.planned.Plan.{Plan}
use Rattle.nc_yang_nodes.proofs.Alike.{statements_alike}
use Rattle.nc_yang_leafs.specs.Bases.{Basis, type_of}
use Rattle.nc_yang_leafs.specs.Faults.{BreaksLeafref}
use Rattle.nc_yang_leafs.specs.Typings.{HasItsType, HasTypings, IsInUse, IsOfType, IsSameNode}
use Rattle.nc_yang_leafs.specs.Circles.{BreaksCircle, HasPath, Reaches, Refers, itself, through}
use Rattle.nc_yang_leafs.specs.Defaults.{BreaksDefault, HasDefaults, KeepsDefaults}
use Rattle.nc_yang.specs.Depths.{BreaksDepth, reads_too_many, too_many_at}

some_more : {A : Type 0} (P Q : A → Type 0) (o : Option A) → ((x : A) → P x → Q x) → IsSomeAnd o P → IsSomeAnd o Q
some_more P Q None more h = absurd h
some_more P Q (Some x) more h = more x h

module _ (scoping : Scoping) (one other : Plan) (alike : AreAlike scoping one other) where
  types_same : (n : ℕ) → type_of scoping one n ≡ type_of scoping other n
  types_same n = ap (option_and_then (part_of TypeName)) (statements_alike scoping one other alike n)

  pub deep_here : (tables : Tables) (fault : TextFault) → BreaksDepth scoping other tables fault → BreaksDepth scoping one tables fault
  deep_here tables fault (number, is) = (number, ap (λ o. cond (reads_too_many tables number) (option_map too_many_at o) None) (types_same number) ∙ is)

  pub default_here : (tables : Tables) (fault : TextFault) → BreaksDefault scoping other tables fault → BreaksDefault scoping one tables fault
  default_here tables fault h = record {
    at = h.at;
    is = (h.is.0, statements_alike scoping one other alike h.at.number ∙ h.is.1);
    default = h.default;
    breaks = h.breaks;
    first = λ d default is less breaks. h.first d default (is.0, sym (statements_alike scoping one other alike d.number) ∙ is.1) less breaks;
    fault_is = h.fault_is;
  }

  pub keeps_here : (tables : Tables) → KeepsDefaults scoping other tables → KeepsDefaults scoping one tables
  keeps_here tables h d is = h d (is.0, sym (statements_alike scoping one other alike d.number) ∙ is.1)

  pub defaults_here : (typed tables : Tables) → HasDefaults scoping other typed tables → HasDefaults scoping one typed tables
  defaults_here typed tables h = record {
    counted = h.counted;
    nodes = λ d is. h.nodes d (is.0, sym (statements_alike scoping one other alike d.number) ∙ is.1);
    choices = h.choices;
    types = h.types;
    modules = h.modules;
    patterns = h.patterns;
  }

  module _ (on : ℕ → List ℕ → Bool) (given : Tables) where
    abbrev on_one : Basis
    on_one = record { on = on; scoping = scoping; plan = one; given = given }

    abbrev on_other : Basis
    on_other = record { on = on; scoping = scoping; plan = other; given = given }

    its_type_here : (derived : List Located → List QName → Type 0) (named : List ℕ → List Located → Type 0) (tables : Tables) (n : ℕ) (kind : Kind) (number : ℕ) →
        HasItsType derived named on_other tables.types n kind number → HasItsType derived named on_one tables.types n kind number
    its_type_here derived named tables n kind number h = record { valued = λ has l is. h.valued has l (sym (types_same n) ∙ is); other = h.other }

    of_type_here : (derived : List Located → List QName → Type 0) (named : List ℕ → List Located → Type 0) (types : List ValueType) (number : ℕ) (kind : Kind) (entry : ℕ) →
        IsOfType derived named on_other types number kind entry → IsOfType derived named on_one types number kind entry
    of_type_here derived named types number kind entry h = record {
      valued = h.valued;
      of_type = h.of_type;
      is = types_same number ∙ h.is;
      one = h.one;
      among = h.among;
      has = h.has;
    }

    in_use_here : (derived : List Located → List QName → Type 0) (named : List ℕ → List Located → Type 0) (types : List ValueType) (entry : ℕ) → IsInUse derived named on_other types entry →
        IsInUse derived named on_one types entry
    in_use_here derived named types entry (number, node, there, is) = (number, node, there, of_type_here derived named types number node.kind entry is)

    pub typed_here : (derived : List Located → List QName → Type 0) (named : List ℕ → List Located → Type 0) (tables : Tables) → HasTypings derived named on_other tables → HasTypings derived named on_one tables
    typed_here derived named tables h = record {
      modules = h.modules;
      choices = h.choices;
      counted = h.counted;
      nodes = λ n old there.
          some_more (λ (new : Node). IsSameNode old new × HasItsType derived named on_other tables.types n new.kind new.kind_of_value)
          (λ (new : Node). IsSameNode old new × HasItsType derived named on_one tables.types n new.kind new.kind_of_value) (slice_get tables.nodes n)
          (λ new is. (is.0, its_type_here derived named tables n new.kind new.kind_of_value is.1)) (h.nodes n old there);
      entries = λ entry less. in_use_here derived named tables.types entry (h.entries entry less);
    }

    pub lost_here : (fault : TextFault) → BreaksLeafref on_other fault → BreaksLeafref on_one fault
    lost_here fault h = record {
      number = h.number;
      node = h.node;
      there = h.there;
      valued = h.valued;
      of_type = h.of_type;
      is = types_same h.number ∙ h.is;
      path = h.path;
      uses = h.uses;
      lost = h.lost;
      at = h.at;
    }

    has_path_here : (leaf : ℕ) (path : Located) → HasPath on_other leaf path → HasPath on_one leaf path
    has_path_here leaf path h = record { node = h.node; there = h.there; valued = h.valued; of_type = h.of_type; is = types_same leaf ∙ h.is; uses = h.uses }

    refers_here : (leaf : ℕ) (path : Located) (target : ℕ) → Refers on_other leaf path target → Refers on_one leaf path target
    refers_here leaf path target h = record { has = has_path_here leaf path h.has; end = h.end; leads = h.leads; to = h.to }

    reaches_here : (leaf last : ℕ) → Reaches on_other leaf last → Reaches on_one leaf last
    reaches_here _ _ (itself leaf) = itself leaf
    reaches_here _ _ (through leaf path next last refers rest) = through leaf path next last (refers_here leaf path next refers) (reaches_here next last rest)

    pub circle_here : (fault : TextFault) → BreaksCircle on_other fault → BreaksCircle on_one fault
    circle_here fault h = record {
      leaf = h.leaf;
      path = h.path;
      target = h.target;
      refers = refers_here h.leaf h.path h.target h.refers;
      back = reaches_here h.target h.leaf h.back;
      at = h.at;
    }
