-- A small text in the grammar: `.class P { .method static void Main() { .entrypoint ldc.i4 2 call void System.Console::WriteLine(int32) ret } }`.
use Rattle.std.proofs.Common.{pos, List, [], ◌∷◌, ◌++◌, Some, None, codes, refl}
use Rattle.il_text.specs.declared.token.TokenKind.TheVariants.{Word, Number, Mark}
use Rattle.il_model.specs.declared.class.ClassKind.TheVariants as kind
use Rattle.il_model.specs.declared.method.Shape.TheVariants as shape
use Rattle.il_model.specs.declared.form.Form.TheVariants as form
use Rattle.il_model.specs.declared.written.WrittenOperand.TheVariants as operand
use Rattle.il_model.specs.declared.written.WrittenLine.{WrittenLine}
use Rattle.il_model.specs.declared.written.WrittenLine.TheVariants as line
use Rattle.il_model.specs.declared.written.WrittenBody.{WrittenBody}
use Rattle.il_model.specs.declared.written.WrittenMethod.{WrittenMethod}
use Rattle.il_model.specs.declared.written.WrittenMember.TheVariants as member
use Rattle.il_model.specs.declared.written.WrittenClass.{WrittenClass}
use Rattle.il_model.specs.declared.written.WrittenInstr.{WrittenInstr}
use Rattle.il_model.specs.Lexemes.{Lexeme, none, more}
use Rattle.il_model.specs.Types.{no_vars, void, no_params}
use Rattle.il_model.specs.Instructions.{IsInstr, long, library, int32_number, nothing, library_words, nothing_inside}
use Rattle.il_model.specs.Bodies.{IsBody, body, entry, no_locals, AreLines, no_lines, instruction}
use Rattle.il_model.specs.Classes.{IsProgram, IsClass, class, IsMethod, method, static, braced, method_member, plain, no_base, no_interfaces}

abbrev l0 : Lexeme
l0 = record { kind = Word; at = 0; bytes = codes ".class" }

abbrev l7 : Lexeme
l7 = record { kind = Word; at = 7; bytes = codes "P" }

abbrev l9 : Lexeme
l9 = record { kind = Mark; at = 9; bytes = codes "{" }

abbrev l11 : Lexeme
l11 = record { kind = Word; at = 11; bytes = codes ".method" }

abbrev l19 : Lexeme
l19 = record { kind = Word; at = 19; bytes = codes "static" }

abbrev l26 : Lexeme
l26 = record { kind = Word; at = 26; bytes = codes "void" }

abbrev l31 : Lexeme
l31 = record { kind = Word; at = 31; bytes = codes "Main" }

abbrev l35 : Lexeme
l35 = record { kind = Mark; at = 35; bytes = codes "(" }

abbrev l36 : Lexeme
l36 = record { kind = Mark; at = 36; bytes = codes ")" }

abbrev l38 : Lexeme
l38 = record { kind = Mark; at = 38; bytes = codes "{" }

abbrev l40 : Lexeme
l40 = record { kind = Word; at = 40; bytes = codes ".entrypoint" }

abbrev l52 : Lexeme
l52 = record { kind = Word; at = 52; bytes = codes "ldc.i4" }

abbrev l59 : Lexeme
l59 = record { kind = Number; at = 59; bytes = codes "2" }

abbrev l61 : Lexeme
l61 = record { kind = Word; at = 61; bytes = codes "call" }

abbrev l66 : Lexeme
l66 = record { kind = Word; at = 66; bytes = codes "void" }

abbrev l71 : Lexeme
l71 = record { kind = Word; at = 71; bytes = codes "System.Console" }

abbrev l85 : Lexeme
l85 = record { kind = Mark; at = 85; bytes = codes "::" }

abbrev l87 : Lexeme
l87 = record { kind = Word; at = 87; bytes = codes "WriteLine" }

abbrev l96 : Lexeme
l96 = record { kind = Mark; at = 96; bytes = codes "(" }

abbrev l97 : Lexeme
l97 = record { kind = Word; at = 97; bytes = codes "int32" }

abbrev l102 : Lexeme
l102 = record { kind = Mark; at = 102; bytes = codes ")" }

abbrev l104 : Lexeme
l104 = record { kind = Word; at = 104; bytes = codes "ret" }

abbrev l108 : Lexeme
l108 = record { kind = Mark; at = 108; bytes = codes "}" }

abbrev l110 : Lexeme
l110 = record { kind = Mark; at = 110; bytes = codes "}" }

abbrev call_words : List Lexeme
call_words = l66 ∷ l71 ∷ l85 ∷ l87 ∷ l96 ∷ l97 ∷ l102 ∷ []

abbrev code : List Lexeme
code = l52 ∷ l59 ∷ l61 ∷ call_words ++ l104 ∷ []

abbrev main_words : List Lexeme
main_words = l11 ∷ l19 ∷ l26 ∷ l31 ∷ l35 ∷ l36 ∷ l38 ∷ l40 ∷ code ++ l108 ∷ []

abbrev pub sample : List Lexeme
sample = l0 ∷ l7 ∷ l9 ∷ main_words ++ l110 ∷ []

abbrev push : WrittenInstr
push = record { at = 52; form = form.LdcI4; operand = operand.Int32 (pos 2) }

abbrev print : WrittenInstr
print = record { at = 61; form = form.WriteLineInt32; operand = operand.Nothing }

abbrev leave : WrittenInstr
leave = record { at = 104; form = form.Ret; operand = operand.Nothing }

abbrev lines : List WrittenLine
lines = line.Instr push ∷ line.Instr print ∷ line.Instr leave ∷ []

abbrev pub main_body : WrittenBody
main_body = record { entry = Some 40; locals = []; lines = lines; clauses = [] }

abbrev pub main : WrittenMethod
main = record { at = 11; shape = shape.Fixed; result = None; name = record { at = 31; name = codes "Main" }; vars = []; params = []; body = Some main_body }

abbrev pub written : WrittenClass
written = record { at = 0; kind = kind.Plain; name = record { at = 7; name = codes "P" }; vars = []; base = None; interfaces = []; members = member.Method main ∷ [] }

pushes : IsInstr (l52 ∷ l59 ∷ []) push
pushes = long l52 (l59 ∷ []) form.LdcI4 (operand.Int32 (pos 2)) refl (int32_number l59 (pos 2) refl refl)

prints : IsInstr (l61 ∷ call_words) print
prints = library l61 call_words form.WriteLineInt32 operand.Nothing refl
    (library_words call_words call_words [] [] form.WriteLineInt32 operand.Nothing _ [] refl refl refl nothing_inside refl)

leaves : IsInstr (l104 ∷ []) leave
leaves = long l104 [] form.Ret operand.Nothing refl nothing

are_lines : AreLines (codes ".locals" ∷ []) code lines
are_lines =
    instruction (codes ".locals" ∷ []) code (l52 ∷ l59 ∷ []) (l61 ∷ call_words ++ l104 ∷ []) push (line.Instr print ∷ line.Instr leave ∷ []) refl pushes
    (instruction [] (l61 ∷ call_words ++ l104 ∷ []) (l61 ∷ call_words) (l104 ∷ []) print (line.Instr leave ∷ []) refl prints
    (instruction [] (l104 ∷ []) (l104 ∷ []) [] leave [] refl leaves (no_lines [])))

is_body : IsBody (l40 ∷ code) main_body
is_body = body (l40 ∷ code) (l40 ∷ []) [] code [] (Some 40) [] lines [] refl (entry l40 refl) no_locals are_lines none

is_main : IsMethod main_words main
is_main = method main_words (l19 ∷ []) (l26 ∷ []) [] [] (l38 ∷ l40 ∷ code ++ l108 ∷ []) l11 l31 l35 l36 shape.Fixed [] None [] [] (Some main_body)
    refl refl (static l19 refl) (void l26 refl) (record { word = refl; free = refl }) no_vars tt refl no_params refl
    (braced (l38 ∷ l40 ∷ code ++ l108 ∷ []) (l40 ∷ code) l38 l108 main_body refl refl is_body refl)

is_class : IsClass sample written
is_class = class sample [] [] [] [] main_words l0 l7 l9 l110 kind.Plain [] None [] (member.Method main ∷ [])
    refl refl plain (record { word = refl; free = refl }) no_vars (no_base kind.Plain) no_interfaces refl
    (more main_words main_words [] (member.Method main) [] refl (method_member main_words main is_main) none) refl

pub sample_is_program : IsProgram sample (written ∷ [])
sample_is_program = more sample sample [] written [] refl is_class none
