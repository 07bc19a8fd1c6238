-- The catalogue of an image, as the start of a fill asks for it. This project's own.
use Rattle.std.specs.Prelude.{◌≡◌, ℕ, true, slice_get, Some}
use Rattle.il_model.specs.declared.method.MethodDef.{MethodDef}
use Rattle.il_model.specs.declared.program.Program.{Program}
use Rattle.il_model.specs.Found.{method_at}
use Rattle.il_model.specs.Slots.{is_interface_class}
use Rattle.il_model.specs.ClassRules.{is_abstract_shape}
use Rattle.il_model.specs.Accepted.{IsOfText}
use Rattle.rgctx_template.specs.Catalogue.{CatData, IsCatalogue}

-- in an interface every method is abstract
pub record HasAbstractInterfaces (program : Program) : Type 0 where
  pub each : (number : ℕ) (m : MethodDef) → method_at program number ≡ Some m → is_interface_class (slice_get program.classes m.owner) ≡ true → is_abstract_shape m.shape ≡ true

-- a catalogue whose program is that of an accepted text, with abstract methods alone in interfaces
pub record IsImageCatalogue (cat : CatData) : Type 0 where
  pub catalogue : IsCatalogue cat
  pub text : IsOfText cat.program
  pub interfaces : HasAbstractInterfaces cat.program
