-- The bits so far, and those that are left.
use Rattle.std.proofs.Common.{◌≡◌, None, [], drop}
use Rattle.nc_yang_types.specs.declared.member.Listed.TheVariants.{Flags}
use Rattle.nc_yang_types.specs.Members.{numbered, with_bits}
use Rattle.nc_yang_types.proofs.listed.bits_of.Given as goal

abbrev pub invariant-loop-statement : goal.invariant-loop-statement
invariant-loop-statement g l =
    with_bits (g.C.Conditions.stands l.conditions) [] (numbered Flags None l.below)
    ≡ with_bits (g.C.Conditions.stands l.conditions) l.bits.entries (numbered Flags l.high (drop l.statement-index l.below))
