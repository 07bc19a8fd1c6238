-- Reading classes and whole programs: the rules `field`, `method`, `class` and `program` of the grammar.
use Rattle.std.specs.Prelude.{ℕ, zero, suc, ◌-◌, ◌==◌, Bool, true, false, ◌&&◌, is_none, if◌then◌else◌, List, [], ◌∷◌, ◌++◌, drop, length, Option, Some, None, option_map, Result, Ok, Err, codes, bytes_eq}
use Rattle.std.specs.List.{find}
use Rattle.il_model.specs.declared.class.ClassKind.{ClassKind}
use Rattle.il_model.specs.declared.class.ClassKind.TheVariants as kind
use Rattle.il_model.specs.declared.method.Shape.{Shape}
use Rattle.il_model.specs.declared.method.Shape.TheVariants as shape
use Rattle.il_model.specs.declared.written.WrittenType.{WrittenType}
use Rattle.il_model.specs.declared.written.WrittenParam.{WrittenParam}
use Rattle.il_model.specs.declared.written.WrittenVar.{WrittenVar}
use Rattle.il_model.specs.declared.written.WrittenBody.{WrittenBody}
use Rattle.il_model.specs.declared.written.WrittenField.{WrittenField}
use Rattle.il_model.specs.declared.written.WrittenMethod.{WrittenMethod}
use Rattle.il_model.specs.declared.written.WrittenMember.{WrittenMember}
use Rattle.il_model.specs.declared.written.WrittenMember.TheVariants as member
use Rattle.il_model.specs.declared.written.WrittenClass.{WrittenClass}
use Rattle.il_model.specs.Lexemes.{Lexeme}
use Rattle.il_model.specs.Words.{kind_words, quoted_words}
use Rattle.il_model.specs.Library.{library_classes, library_methods}
use Rattle.il_parse.specs.declared.fault.Fault.{Fault}
use Rattle.il_parse.specs.declared.fault.ParseCause.TheVariants as cause
use Rattle.il_parse.specs.Reading.{Read, Reader, ◌>>=◌, ◌>>◌, pure, stuck, refuse, sees, eat, expect, expect_at, read_name, read_name_but}
use Rattle.il_parse.specs.Types.{read_type, read_types, read_result, read_params, read_vars, read_enclosed}
use Rattle.il_parse.specs.Members.{read_method_name}
use Rattle.il_parse.specs.Bodies.{read_body}

-- `field`
unfoldable pub read_field : Reader WrittenField
read_field = do
  expect (codes ".field")
  fixed ← eat (codes "static")
  t ← read_type
  name ← read_name
  pure (record { fixed = fixed; kind = t; name = name })

-- the word that says how a method is called, if one stands there
unfoldable pub read_shape : Reader Shape
read_shape = λ ws.
    if sees (codes "static") ws then Ok (shape.Fixed, drop 1 ws)
    else (if sees (codes "virtual") ws then Ok (shape.Virtual, drop 1 ws)
    else (if sees (codes "newslot") ws then (expect (codes "virtual") >> pure shape.NewSlot) (drop 1 ws)
    else (if sees (codes "abstract") ws then Ok (shape.Abstract, drop 1 ws) else Ok (shape.Instance, ws))))

-- a method has at most so many type variables, and a class at most so many
abbrev pub most_method_vars : ℕ
most_method_vars = 2

abbrev pub most_class_vars : ℕ
most_class_vars = 3

-- a method that has a slot has no type variables
abbrev pub read_no_vars : Reader (List WrittenVar)
read_no_vars = λ ws. if sees (codes "<") ws then refuse cause.Unsupported ws else Ok ([], ws)

unfoldable pub read_method_vars : Shape → Reader (List WrittenVar)
read_method_vars shape.Fixed = read_vars most_method_vars
read_method_vars shape.Instance = read_vars most_method_vars
read_method_vars shape.Virtual = read_no_vars
read_method_vars shape.NewSlot = read_no_vars
read_method_vars shape.Abstract = read_no_vars

-- `;`, or a body in braces
unfoldable pub read_body_or_none : Bool → Reader (Option WrittenBody)
read_body_or_none may_begin = do
  is_bodiless ← eat (codes ";")
  if is_bodiless then pure None else (do
    expect (codes "{")
    b ← read_body may_begin
    expect (codes "}")
    pure (Some b))

abbrev pub is_fixed : Shape → Bool
is_fixed shape.Fixed = true
is_fixed shape.Instance = false
is_fixed shape.Virtual = false
is_fixed shape.NewSlot = false
is_fixed shape.Abstract = false

abbrev pub is_empty : {A : Type 0} → List A → Bool
is_empty [] = true
is_empty (x ∷ xs) = false

-- whether a program can begin in such a method, where its class has no type variables
abbrev pub may_begin_in : Bool → Shape → Option WrittenType → List WrittenVar → List WrittenParam → Bool
may_begin_in plain_class s result vars params = plain_class && is_fixed s && is_none result && is_empty vars && is_empty params

-- `method`, in a class that has no type variables or has some
unfoldable pub read_method : Bool → Reader WrittenMethod
read_method plain_class = do
  at ← expect_at (codes ".method")
  s ← read_shape
  result ← read_result
  name ← read_method_name
  vars ← read_method_vars s
  params ← read_enclosed read_params
  b ← read_body_or_none (may_begin_in plain_class s result vars params)
  pure (record { at = at; shape = s; result = result; name = name; vars = vars; params = params; body = b })

-- members behind those found, with the number of methods that may still come
abbrev pub Members : Type 0
Members = List WrittenMember × ℕ

-- fields and methods behind those found, where so many methods may still come; the first number is at least that of the lexemes
unfoldable pub members_from : Bool → ℕ → ℕ → List WrittenMember → Reader Members
members_from plain_class zero left found = pure (found, left)
members_from plain_class (suc n) left found = λ ws.
    if sees (codes ".field") ws then (read_field >>= (λ f. members_from plain_class n left (found ++ member.Field f ∷ []))) ws
    else (if sees (codes ".method") ws
    then (if left == 0 then refuse cause.TooMany ws
    else (read_method plain_class >>= (λ m. members_from plain_class n (left - 1) (found ++ member.Method m ∷ []))) ws)
    else Ok ((found, left), ws))

unfoldable pub read_members : Bool → ℕ → Reader Members
read_members plain_class left = λ ws. members_from plain_class (length ws) left [] ws

abbrev pub kind_or_plain : Option ClassKind → Lexeme → Reader ClassKind
kind_or_plain (Some k) l ws = Ok (k, ws)
kind_or_plain None l ws = Ok (kind.Plain, l ∷ ws)

-- the word that says what a class is, if one stands there
unfoldable pub read_kind : Reader ClassKind
read_kind [] = Ok (kind.Plain, [])
read_kind (l ∷ ws) = kind_or_plain (option_map (λ row. row.1) (find (λ row. bytes_eq row.0 l.bytes) kind_words)) l ws

abbrev pub has_base : ClassKind → Bool
has_base kind.Plain = true
has_base kind.Abstract = true
has_base kind.Interface = false
has_base kind.Struct = false
has_base kind.Delegate = false

-- the base that is written; a struct or an interface has none
unfoldable pub read_base : ClassKind → Reader (Option WrittenType)
read_base k = λ ws.
    if has_base k && sees (codes "extends") ws then (read_type >>= (λ t. pure (Some t))) (drop 1 ws) else Ok (None, ws)

-- the interfaces that are written
unfoldable pub read_interfaces : Reader (List WrittenType)
read_interfaces = do
  are_there ← eat (codes "implements")
  if are_there then read_types (codes ",") else pure []

-- `class`, where so many methods may still come; with the number of those that may come behind it
unfoldable pub read_class : ℕ → Reader (WrittenClass × ℕ)
read_class left = do
  at ← expect_at (codes ".class")
  k ← read_kind
  name ← read_name_but quoted_words
  vars ← read_vars most_class_vars
  base ← read_base k
  interfaces ← read_interfaces
  expect (codes "{")
  members ← read_members (is_empty vars) left
  expect (codes "}")
  pure (record { at = at; kind = k; name = name; vars = vars; base = base; interfaces = interfaces; members = members.0 }, members.1)

-- the classes of the rest of a text behind those found, of which so many may still come, and so many methods
unfoldable pub classes_from : ℕ → ℕ → List WrittenClass → Reader (List WrittenClass)
classes_from most left found [] = Ok (found, [])
classes_from zero left found (l ∷ ws) = if bytes_eq (codes ".class") l.bytes then refuse cause.TooMany (l ∷ ws) else stuck (l ∷ ws)
classes_from (suc most) left found (l ∷ ws) = (read_class left >>= (λ p. classes_from most p.1 (found ++ p.0 ∷ []))) (l ∷ ws)

-- how many classes and methods a text may have beside those of the library
abbrev pub class_room : ℕ
class_room = 4096 - length library_classes

abbrev pub method_room : ℕ
method_room = 16384 - length library_methods

abbrev pub outcome : {A : Type 0} → Read A → Result A Fault
outcome (Ok read) = Ok read.0
outcome (Err fault) = Err fault

-- `program`: the classes that these lexemes spell, or the first of them that refuses
unfoldable pub read_program : List Lexeme → Result (List WrittenClass) Fault
read_program ws = outcome (classes_from class_room method_room [] ws)
