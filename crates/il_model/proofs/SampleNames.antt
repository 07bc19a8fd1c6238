-- The program that the small text of `Sample` is, and its canonical text.
use Rattle.std.proofs.Common.{◌≡◌, ℕ, pos, List, [], ◌∷◌, ◌++◌, length, map, Some, None, codes, refl, arith}
use Rattle.std.specs.List.{IsDistinct}
use Rattle.std.specs.Cmp.Lexicographic.{nat_list_eq_equiv}
use Rattle.std.proofs.lemmas.Map.Made.{IsDistinct-from_count}
use Rattle.il_model.specs.declared.class.ClassKind.TheVariants as kind
use Rattle.il_model.specs.declared.class.ClassDef.{ClassDef}
use Rattle.il_model.specs.declared.method.Shape.TheVariants as shape
use Rattle.il_model.specs.declared.method.Body.{Body}
use Rattle.il_model.specs.declared.method.MethodDef.{MethodDef}
use Rattle.il_model.specs.declared.op.Op.TheVariants as op
use Rattle.il_model.specs.declared.program.Program.{Program}
use Rattle.il_model.specs.Spellings.{plain_name}
use Rattle.il_model.specs.Library.{plain, library_classes, library_methods}
use Rattle.il_model.specs.Names.{end, both, neither, each, no_types}
use Rattle.il_model.specs.LookUp.{Known, known_of, scope_of, NamesBody, NamesMethod, NamesClass, NamesProgram, names_int32, names_nothing, object_of_plain, no_classes, more_classes}
use Rattle.il_model.specs.Canonical.{canonical_text, canonical_len}
use Rattle.il_model.proofs.Sample.{written, main, main_body}

abbrev main_code : Body
main_code = record { locals = []; code = op.LdcI4 (pos 2) ∷ op.WriteLineInt32 ∷ op.Ret ∷ []; clauses = [] }

abbrev main_def : MethodDef
main_def = record { owner = 13; name = codes "Main"; shape = shape.Fixed; vars = []; params = []; result = None; body = Some main_code }

abbrev class_def : ClassDef
class_def = record { name = codes "P"; kind = kind.Plain; vars = []; base = Some (plain 0); interfaces = []; fields = []; methods = 12 ∷ [] }

abbrev pub program : Program
program = record { classes = library_classes ++ class_def ∷ []; methods = library_methods ++ main_def ∷ []; literals = []; main = 12 }

abbrev known : Known
known = known_of (written ∷ [])

names_body : NamesBody (scope_of known 0 0) [] main_body main_code
unfolding IsDistinct
names_body = record {
  distinct = tt;
  locals = end;
  code = both _ _ _ _ (record { form = refl; operand = names_int32 (pos 2) })
      (both _ _ _ _ (record { form = refl; operand = names_nothing }) (both _ _ _ _ (record { form = refl; operand = names_nothing }) end));
  clauses = end;
}

names_main : NamesMethod known 13 0 main main_def
unfolding IsDistinct
names_main = record {
  owner_is = refl;
  name = refl;
  shape = refl;
  distinct = tt;
  vars = end;
  params = end;
  gives = neither;
  body = each main_body main_code names_body;
}

names_class : NamesClass known 12 written class_def
unfolding IsDistinct
names_class = record {
  name = refl;
  kind = refl;
  distinct_vars = tt;
  vars = end;
  base = object_of_plain;
  interfaces = no_types _;
  distinct_fields = tt;
  fields = end;
  methods = refl;
}

-- the look-up gives this program
pub names_program : NamesProgram (written ∷ []) program
names_program = record {
  distinct = IsDistinct-from_count nat_list_eq_equiv (map plain_name known.names) refl;
  own_classes = class_def ∷ [];
  classes_are = refl;
  named_classes = more_classes 12 written class_def [] [] names_class (no_classes 13);
  own_methods = main_def ∷ [];
  methods_are = refl;
  named_methods = both _ _ _ _ names_main end;
  signatures = λ i j d before inside same. absurd (omega (arith, before, inside));
  literals = refl;
  begins = refl;
}

-- the same method without its number, in a struct, whose canonical text has no base
abbrev pub struct_program : Program
struct_program = record {
  classes = library_classes ++ record class_def { kind = kind.Struct; base = None } ∷ [];
  methods = library_methods ++ record main_def { body = Some (record { locals = []; code = op.Nop ∷ op.WriteLineInt32 ∷ op.Ret ∷ []; clauses = [] }) } ∷ [];
  literals = [];
  main = 12;
}

abbrev pub printed : List ℕ
printed =
    codes ".class struct P {" ++ 10 ∷ codes "  .method static void Main ( ) {" ++ 10 ∷ codes "    .entrypoint" ++ 10 ∷ codes "    nop" ++
    10 ∷ codes "    call void System.Console :: WriteLine ( int32 )" ++ 10 ∷ codes "    ret" ++ 10 ∷ codes "  }" ++ 10 ∷ codes "}" ++ 10 ∷ []

pub canonical_text-struct_program : canonical_text struct_program ≡ printed
canonical_text-struct_program = refl

pub canonical_len-struct_program : canonical_len struct_program ≡ length printed
canonical_len-struct_program = refl
