-- What written classes stand for, and the program of all of them. This project's own.
use Rattle.std.specs.Prelude.{ℕ, ◌+◌, Bool, false, ◌||◌, is_some, List, [], ◌∷◌, ◌++◌, length, map, Option, Some, None, option_and_then, Ok, Err}
use Rattle.std.specs.List.{list_any}
use Rattle.type_tree.specs.declared.tree.TExpr.{TExpr}
use Rattle.il_model.specs.declared.class.ClassKind.{ClassKind}
use Rattle.il_model.specs.declared.class.ClassKind.TheVariants as kind
use Rattle.il_model.specs.declared.class.ClassDef.{ClassDef}
use Rattle.il_model.specs.declared.class.FieldDef.{FieldDef}
use Rattle.il_model.specs.declared.method.PType.{PType}
use Rattle.il_model.specs.declared.method.MethodDef.{MethodDef}
use Rattle.il_model.specs.declared.program.Program.{Program}
use Rattle.il_model.specs.declared.written.WrittenType.{WrittenType}
use Rattle.il_model.specs.declared.written.WrittenField.{WrittenField}
use Rattle.il_model.specs.declared.written.WrittenMethod.{WrittenMethod}
use Rattle.il_model.specs.declared.written.WrittenMember.{WrittenMember}
use Rattle.il_model.specs.declared.written.WrittenMember.TheVariants as member
use Rattle.il_model.specs.declared.written.WrittenClass.{WrittenClass}
use Rattle.il_model.specs.Lexemes.{is_among}
use Rattle.il_model.specs.Spellings.{plain_name}
use Rattle.il_model.specs.Library.{plain, library_classes, library_methods}
use Rattle.il_model.specs.Names.{Scope}
use Rattle.il_model.specs.Bounds.{all_methods}
use Rattle.il_model.specs.LookUp.{Known, known_of, scope_of, numbers_from, entries_from}
use Rattle.il_parse.specs.declared.fault.ParseCause.TheVariants as cause
pub use Rattle.il_parse.specs.declared.found.Found.{Found}
pub use Rattle.il_parse.specs.declared.found.Gathered.{Gathered}
pub use Rattle.il_parse.specs.Looking.{once}
pub use Rattle.il_parse.specs.SameTypes.{has_signature}
use Rattle.il_parse.specs.Looking.{Look, ◌>>=◌, pure, perhaps_of}
use Rattle.il_parse.specs.NamedTypes.{type_named, types_named, result_named, params_named, vars_named}
use Rattle.il_parse.specs.NamedBodies.{body_named}

-- whether one of these methods has the signature; where the parameters have no types there is none to compare
abbrev pub is_signature_met : List MethodDef → List ℕ → ℕ → Look (List PType) → Option TExpr → Bool
is_signature_met met name vars (Ok params) result = list_any (has_signature name vars params result) met
is_signature_met met name vars (Err fault) result = false

-- a method of the class with this number and so many variables, behind these of the class, where an entry point was met or not
unfoldable pub method_named : Known → ℕ → ℕ → List MethodDef → Bool → WrittenMethod → Look MethodDef
method_named known owner of_class met begun m =
    let s : Scope = scope_of known of_class (length m.vars) in
    result_named s m.result >>= (λ result.
    once (is_signature_met met m.name.name (length m.vars) (params_named s m.params) result) m.name.at >>= (λ _.
    vars_named s m.vars >>= (λ vars.
    params_named s m.params >>= (λ params.
    perhaps_of (body_named s known.literals begun) m.body >>= (λ b.
    pure (record { owner = owner; name = m.name.name; shape = m.shape; vars = vars; params = params; result = result; body = b }))))))

-- a field behind these of the class
unfoldable pub field_named : Scope → List FieldDef → WrittenField → Look FieldDef
field_named s met f =
    type_named s f.kind >>= (λ t. once (is_among (map (λ g. g.name) met) f.name.name) f.name.at >>= (λ _.
    pure (record { name = f.name.name; fixed = f.fixed; kind = t })))

abbrev pub has_entry_point : WrittenMethod → Bool
has_entry_point m = is_some (option_and_then (λ b. b.entry) m.body)

-- the members of the class with this number and so many variables, behind those found
unfoldable pub members_named : Known → ℕ → ℕ → Found → List WrittenMember → Look Found
members_named known owner of_class found [] = pure found
members_named known owner of_class found (member.Field f ∷ ms) =
    field_named (scope_of known of_class 0) found.fields f >>= (λ g.
    members_named known owner of_class (record found { fields = found.fields ++ g ∷ [] }) ms)
members_named known owner of_class found (member.Method m ∷ ms) =
    method_named known owner of_class found.methods found.begun m >>= (λ d.
    members_named known owner of_class
    (record { fields = found.fields; methods = found.methods ++ d ∷ []; begun = found.begun || has_entry_point m }) ms)

-- the base where none is written
abbrev pub base_of_kind : ClassKind → Option TExpr
base_of_kind kind.Plain = Some (plain 0)
base_of_kind kind.Abstract = Some (plain 0)
base_of_kind kind.Interface = None
base_of_kind kind.Struct = None
base_of_kind kind.Delegate = None

unfoldable pub base_named : Scope → ClassKind → Option WrittenType → Look (Option TExpr)
base_named s k None = pure (base_of_kind k)
base_named s k (Some written) = type_named s written >>= (λ t. pure (Some t))

abbrev pub with_class : Gathered → WrittenClass → ClassDef → Found → Gathered
with_class g c def members = record {
  names = plain_name c.name.name ∷ g.names;
  classes = g.classes ++ def ∷ [];
  methods = g.methods ++ members.methods;
  begun = members.begun;
}

-- a class behind these
unfoldable pub class_named : Known → Gathered → WrittenClass → Look Gathered
class_named known g c =
    let s : Scope = scope_of known (length c.vars) 0 in
    once (is_among g.names (plain_name c.name.name)) c.name.at >>= (λ _.
    vars_named s c.vars >>= (λ vars.
    base_named s c.kind c.base >>= (λ base.
    types_named s c.interfaces >>= (λ interfaces.
    members_named known (length library_classes + length g.classes) (length c.vars) (record { fields = []; methods = []; begun = g.begun }) c.members >>= (λ members.
    pure (with_class g c (record {
      name = c.name.name;
      kind = c.kind;
      vars = vars;
      base = base;
      interfaces = interfaces;
      fields = members.fields;
      methods = numbers_from (length library_methods + length g.methods) members.methods;
    }) members))))))

unfoldable pub classes_named : Known → Gathered → List WrittenClass → Look Gathered
classes_named known g [] = pure g
classes_named known g (c ∷ cs) = class_named known g c >>= (λ more. classes_named known more cs)

-- the method that a program begins with; where no method has the entry point the end of the text is refused
abbrev pub first_entry : List ℕ → Look ℕ
first_entry [] = Err (record { at = None; cause = cause.NoEntry })
first_entry (number ∷ numbers) = Ok number

abbrev pub gathered_first : Gathered
gathered_first = record { names = map (λ c. plain_name c.name) library_classes; classes = []; methods = []; begun = false }

-- the program that the written classes stand for, or the first name that is refused
unfoldable pub program_named : List WrittenClass → Look Program
program_named classes =
    classes_named (known_of classes) gathered_first classes >>= (λ g.
    first_entry (entries_from (length library_methods) (all_methods classes)) >>= (λ main.
    pure (record {
      classes = library_classes ++ g.classes;
      methods = library_methods ++ g.methods;
      literals = (known_of classes).literals;
      main = main;
    })))
