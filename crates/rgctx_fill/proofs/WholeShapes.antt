-- By the grammar a method that has a slot has no variables.
use Rattle.std.proofs.Common.{◌≡◌, true, List, []}
use Rattle.std.specs.List.{AllByRecursion}
use Rattle.il_model.specs.declared.method.Shape.{Shape}
use Rattle.il_model.specs.declared.method.Shape.TheVariants as shape
use Rattle.il_model.specs.declared.written.WrittenVar.{WrittenVar}
use Rattle.il_model.specs.declared.written.WrittenMethod.{WrittenMethod}
use Rattle.il_model.specs.declared.written.WrittenMember.{WrittenMember}
use Rattle.il_model.specs.declared.written.WrittenClass.{WrittenClass}
use Rattle.il_model.specs.Lexemes.{Lexeme, Many, none, more}
use Rattle.il_model.specs.Classes.{MayHaveVars, IsMethod, method, IsMember, field_member, method_member, IsClass, class, IsProgram}
use Rattle.il_model.specs.Bounds.{methods_of, all_methods}
use Rattle.il_model.specs.Entries.{has_slot}
use Rattle.rgctx_fill.proofs.WholeLists.{flat_all}

abbrev pub IsShaped : WrittenMethod → Type 0
IsShaped m = MayHaveVars m.shape m.vars

pub slot-no_vars : (s : Shape) (vs : List WrittenVar) → has_slot s ≡ true → MayHaveVars s vs → vs ≡ []
slot-no_vars shape.Fixed vs has may = cc
slot-no_vars shape.Instance vs has may = cc
slot-no_vars shape.Virtual vs has may = may
slot-no_vars shape.NewSlot vs has may = may
slot-no_vars shape.Abstract vs has may = may

method_shaped : (ws : List Lexeme) (m : WrittenMethod) → IsMethod ws m → IsShaped m
method_shaped ws m (method ws' shaped result vars params rest word name left right s quoted r vs ps b split h1 h2 h3 h4 h5 may h6 h7 h8 h9) = may

members_shaped : (ws : List Lexeme) (ms : List WrittenMember) → Many IsMember ws ms → AllByRecursion IsShaped (methods_of ms)
members_shaped ws ms none = tt
members_shaped ws ms (more ws' front back x xs split (field_member fs f h) rest) = members_shaped back xs rest
members_shaped ws ms (more ws' front back x xs split (method_member fs m h) rest) = (method_shaped fs m h, members_shaped back xs rest)

class_shaped : (ws : List Lexeme) (c : WrittenClass) → IsClass ws c → AllByRecursion IsShaped (methods_of c.members)
class_shaped ws c (class ws' kinds vars base interfaces members word name left right k vs b is ms split h1 h2 h3 h4 h5 h6 h7 many h8) = members_shaped members ms many

classes_shaped : (ws : List Lexeme) (cs : List WrittenClass) → IsProgram ws cs → AllByRecursion (λ c. AllByRecursion IsShaped (methods_of c.members)) cs
classes_shaped ws cs none = tt
classes_shaped ws cs (more ws' front back c ds split is rest) = (class_shaped front c is, classes_shaped back ds rest)

pub methods-shaped : (ws : List Lexeme) (cs : List WrittenClass) → IsProgram ws cs → AllByRecursion IsShaped (all_methods cs)
methods-shaped ws cs is = flat_all IsShaped (λ c. methods_of c.members) cs (classes_shaped ws cs is)
