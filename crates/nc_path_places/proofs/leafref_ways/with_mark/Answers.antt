-- One data node more.
use Rattle.std.proofs.Common.{rules, ◌≡◌, true, set, sym, ap, subst, ◌∙◌}
use Rattle.nc_schema.specs.InstancePaths.{parent_of}
use Rattle.nc_path_places.specs.inner.Counted.{reading_of}
use Rattle.nc_path_places.specs.inner.LeafrefNames.{IsMarking, place_of}
use Rattle.nc_path_places.proofs.MarkLemmas.{marking_idle, marking_more, marking_unreached}
use Rattle.nc_path_places.proofs.leafref_ways.with_mark.Goals as goal

pub returns-then-not-is_reached : goal.returns-then-not-is_reached
returns-then-not-is_reached c =
    marking_unreached (reading_of c.args.names.now) c.args.own.now c.args.marks c.args.number c.requires.marking (search rules)

pub returns-then-not-leads : goal.returns-then-not-leads
returns-then-not-leads c =
    marking_idle (reading_of c.args.names.now) c.args.own.now c.args.marks c.args.number c.requires.marking (search rules)

pub returns : goal.returns
returns c =
    let s = reading_of c.args.names.now in
    let place : c.place_of.result ≡ place_of (parent_of s.tables c.args.number) = c.place_of.ensures ∙ ap place_of c.parent_of.ensures in
    let is : c.set.new.self ≡ set c.args.marks (place_of (parent_of s.tables c.args.number)) true = c.set.ensures ∙ ap (λ k. set c.args.marks k true) place in
    subst (λ m. IsMarking s c.args.own.now m c.args.number) (sym is)
    (marking_more s c.args.own.now c.args.marks c.args.number c.requires.lower c.requires.within c.requires.marking (search rules) (search rules))
