-- What is looked up in a schema.
use Rattle.std.specs.Prelude.{◌≡◌, map}
use Rattle.nc_validate.specs.declared.outline.Outline.{Outline}
use Rattle.nc_validate.specs.inner.Choices.{AreFirstsFrom, bares_from}

-- what was found is that of the schema
pub record IsOutline (outline : Outline) : Type 0 where
  pub children : outline.children ≡ outline.schema.now
  pub firsts : AreFirstsFrom outline.schema.now 0 outline.firsts
  pub bares : map (λ choice. choice.now) outline.bares ≡ bares_from outline.firsts 0 outline.schema.now.choices
