-- The object of a call of the code, by the method that is called.
use Rattle.il_model.specs.declared.program.Program.{Program}
use Rattle.il_model.specs.declared.layout.MethodTree.{MethodTree}
use Rattle.il_model.specs.Kinds.{is_value}
use Rattle.cil_meaning.specs.Values.{Value, Pointer, Managed}
use Rattle.cil_meaning.specs.Calls.{object_for}
use Rattle.unshared.specs.declared.calls.Object.{Object}
use Rattle.unshared.specs.declared.calls.Object.TheVariants as object
use Rattle.unshared.specs.Forms.{the_pointer}

-- the struct where a pointer leads, whichever method is called
unfoldable pub pointed : Pointer → MethodTree → Value
pointed q m = Managed q

abbrev pub the_object : Program → Object → (MethodTree → Value)
the_object p (object.Reference word) = λ m. object_for (is_value p m.class) word
the_object p (object.Pointed q) = pointed (the_pointer q)
