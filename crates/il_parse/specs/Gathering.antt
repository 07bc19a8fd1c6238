-- The members and classes of a text, as they are added one after another. This project's own.
use Rattle.std.specs.Prelude.{◌≡◌, ℕ, Bool, ◌||◌, List, [], ◌∷◌, ◌++◌, length, Option, Result, Ok, Err, ⊤}
use Rattle.std.specs.List.{list_any}
use Rattle.type_tree.specs.declared.tree.TExpr.{TExpr}
use Rattle.il_model.specs.declared.method.PType.{PType}
use Rattle.il_model.specs.declared.method.MethodDef.{MethodDef}
use Rattle.il_model.specs.declared.written.WrittenMethod.{WrittenMethod}
use Rattle.il_model.specs.declared.written.WrittenMember.{WrittenMember}
use Rattle.il_model.specs.declared.written.WrittenMember.TheVariants as member
use Rattle.il_model.specs.Names.{Scope}
use Rattle.il_model.specs.LookUp.{Known, scope_of}
use Rattle.il_parse.specs.declared.fault.Fault.{Fault}
use Rattle.il_parse.specs.declared.fault.ReadError.{ReadError}
use Rattle.il_parse.specs.declared.fault.ReadError.TheVariants as error
use Rattle.il_parse.specs.declared.signatures.Signature.{Signature}
use Rattle.il_parse.specs.declared.found.Found.{Found}
use Rattle.il_parse.specs.Looking.{Look, ◌>>=◌, pure, once, perhaps_of}
use Rattle.il_parse.specs.NamedTypes.{vars_named}
use Rattle.il_parse.specs.NamedBodies.{body_named}
use Rattle.il_parse.specs.SameTypes.{has_signature}
use Rattle.il_parse.specs.Signatures.{method_of}
use Rattle.il_parse.specs.NamedClasses.{field_named, method_named, has_entry_point}

-- what a call that adds to something makes of it; want of memory says nothing
abbrev pub LooksInto : {A : Type 0} → Look A → Result (Unit {0}) ReadError → A → Type 0
LooksInto look (Ok x) new = look ≡ Ok new
LooksInto look (Err (error.Fault fault)) new = look ≡ Err fault
LooksInto look (Err error.Memory) new = ⊤

-- the list with what was found behind it
abbrev pub added : {A : Type 0} → List A → Look A → Look (List A)
added xs look = look >>= (λ x. pure (xs ++ x ∷ []))

-- a method with this signature, behind these of its class
unfoldable pub signed_method : Scope → List (List ℕ) → ℕ → List MethodDef → Bool → WrittenMethod → Signature → Look MethodDef
signed_method s literals owner met begun m signature =
    once (list_any (has_signature signature.name signature.vars signature.params signature.result) met) m.name.at >>= (λ _.
    vars_named s m.vars >>= (λ vars.
    perhaps_of (body_named s literals begun) m.body >>= (λ b.
    pure (method_of (signature, record { owner = owner; shape = m.shape; vars = vars; body = b })))))

abbrev pub signature_of : WrittenMethod → List PType → Option TExpr → Signature
signature_of m params result = record { name = m.name.name; vars = length m.vars; params = params; result = result }

-- a method whose parameters are refused: its type variables come first
abbrev pub refused_method : Scope → WrittenMethod → Fault → Look MethodDef
refused_method s m fault = vars_named s m.vars >>= (λ _. Err fault)

-- a method with these parameters
abbrev pub with_params : Scope → List (List ℕ) → ℕ → List MethodDef → Bool → WrittenMethod → Option TExpr → Look (List PType) → Look MethodDef
with_params s literals owner met begun m result (Ok params) = signed_method s literals owner met begun m (signature_of m params result)
with_params s literals owner met begun m result (Err fault) = refused_method s m fault

-- a member of the class with this number and so many variables, behind those found
unfoldable pub member_named : Known → ℕ → ℕ → Found → WrittenMember → Look Found
member_named known owner of_class found (member.Field f) =
    added found.fields (field_named (scope_of known of_class 0) found.fields f) >>= (λ fields. pure (record found { fields = fields }))
member_named known owner of_class found (member.Method m) =
    added found.methods (method_named known owner of_class found.methods found.begun m) >>= (λ methods.
    pure (record { fields = found.fields; methods = methods; begun = found.begun || has_entry_point m }))
