-- The catalogue of a program that the verifier accepts is that of an image.
use Rattle.std.proofs.Common.{◌≡◌, ℕ, ◌<◌, ◌≤◌, ◌^◌, Bool, true, false, not, ◌||◌, length, slice_get, Option, Some, None, refl, ap, arith}
use Rattle.il_model.specs.declared.method.MethodDef.{MethodDef}
use Rattle.il_model.specs.declared.entry.Def.TheVariants as def
use Rattle.il_model.specs.declared.program.Program.{Program}
use Rattle.il_model.specs.Accepted.{IsOfText}
use Rattle.il_model.specs.Canonical.{canonical_text}
use Rattle.il_model.specs.Entries.{template_of}
use Rattle.il_model.specs.Found.{method_at}
use Rattle.il_model.specs.Slots.{is_interface_class}
use Rattle.il_model.specs.ClassRules.{is_abstract_shape}
use Rattle.rgctx_template.specs.Catalogue.{CatData}
use Rattle.rgctx_template.specs.GotEntries.{AreKeptEntries}
use Rattle.rgctx_template.proofs.CollectedLemmas.{template_of_none}
use Rattle.cil_verify.specs.WellTyped.{IsWellTyped}
use Rattle.rgctx_fill.specs.ImageCatalogues.{HasAbstractInterfaces, IsImageCatalogue}
use Rattle.aot_image.specs.ImageSpelling.{ImageData}
use Rattle.aot_image.specs.ImageForm.{IsImage}
use Rattle.aot_image.specs.Catalogued.{catalogue_of}
use Rattle.aot_image.proofs.CatalogueMembers.{finds-members, has-counts}
use Rattle.aot_image.proofs.CatalogueMain.{has-main}

second_holds : (a b : Bool) → (not a || b) ≡ true → a ≡ true → b ≡ true
second_holds true b h e = h
second_holds false b h e = cc

module _ (program : Program) (typed : IsWellTyped program) where
  few_if : (number : ℕ) (o : Option MethodDef) → method_at program number ≡ o → length (template_of program (def.Method number)) ≤ 224
  few_if number None is = let none : length (template_of program (def.Method number)) ≡ 0 = ap length (template_of_none program number is) in omega (arith, none)
  few_if number (Some m) is = (typed.methods.each number m is).sizes.1.0.few

  abstract_interfaces : HasAbstractInterfaces program
  abstract_interfaces = record {
    each = λ number m is interface. second_holds (is_interface_class (slice_get program.classes m.owner)) (is_abstract_shape m.shape) ((typed.methods.each number m is).head.0.suits) interface;
  }

-- a catalogue with a verified program of an accepted text, and with closed entries that are kept, is that of an image
pub verified-catalogue : (cat : CatData) → IsWellTyped cat.program → IsOfText cat.program → length cat.bodies < 2 ^ 32 → AreKeptEntries cat.program cat.got → IsImageCatalogue cat
verified-catalogue cat typed text bodies got = record {
  catalogue = record {
    types = record {
      hierarchy = record { each = λ number c is. (typed.first.each number c is).0 };
      layout = record { each = λ number c is. (typed.first.each number c is).1.0 };
    };
    implementations = record { each = λ number c is. (typed.later.each number c is).1.0 };
    slots = record { each = λ number c is. (typed.later.each number c is).1.1.0 };
    counts = has-counts cat.program typed;
    members = finds-members cat.program typed;
    templates = record { each = λ number. few_if cat.program typed number (method_at cat.program number) refl };
    main = has-main cat.program typed text;
    bodies = bodies;
    got = got;
  };
  text = text;
  interfaces = abstract_interfaces cat.program typed;
}

-- the catalogue of what has the image form
pub image-catalogue : (image : ImageData) → IsImage image → IsImageCatalogue (catalogue_of image)
image-catalogue image h =
    verified-catalogue (catalogue_of image) h.text.typed (record { text = canonical_text image.program; classes = h.text.classes; accepted = h.text.is }) h.fits.bodies h.got
