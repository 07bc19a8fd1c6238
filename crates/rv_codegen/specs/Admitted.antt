-- Process states that the states of a body admit: what stands on the stack and in the places is of the types that the verifier found. This project's own.
use Rattle.std.specs.Prelude.{◌≡◌, ℕ, List, [], ◌∷◌, ◌++◌, length, reverse}
use Rattle.il_model.specs.declared.layout.MethodTree.{MethodTree}
use Rattle.il_model.specs.declared.method.MethodDef.{MethodDef}
use Rattle.il_model.specs.declared.method.PType.{PType}
use Rattle.il_model.specs.declared.method.PType.TheVariants as ptype
use Rattle.il_model.specs.declared.program.Program.{Program}
use Rattle.il_model.specs.Layouts.{words_of}
use Rattle.cil_flow.specs.declared.state.StackType.{StackType}
use Rattle.cil_flow.specs.declared.state.StackType.TheVariants as stack
use Rattle.cil_meaning.specs.Values.{Kind, Int32, Int64, Native, Reference, Value, Plain, Managed}
use Rattle.cil_meaning.specs.Naming.{put_type}
use Rattle.cil_meaning.specs.Types.{kind_of, argument_places, local_places}
use Rattle.cil_meaning.specs.Frames.{Frame, Places}

-- so many words of a kind
abbrev pub AreWords : Kind → ℕ → Value → Type 0
AreWords kind n (Plain k words) = (k ≡ kind) × (length words ≡ n)
AreWords kind n (Managed q) = ⊥

abbrev pub IsPointer : Value → Type 0
IsPointer (Plain k words) = ⊥
IsPointer (Managed q) = Unit {0}

module _ (p : Program) (m : MethodTree) where
  -- a value on the stack, by its type in the definition
  abbrev pub IsOf : StackType → Value → Type 0
  IsOf stack.Int32 v = AreWords Int32 1 v
  IsOf stack.Int64 v = AreWords Int64 1 v
  IsOf stack.Native v = AreWords Native 1 v
  IsOf stack.Null v = AreWords Reference 1 v
  IsOf (stack.Kind t) v = AreWords (kind_of p (put_type m t)) (words_of p (put_type m t)) v
  IsOf (stack.Boxed t) v = AreWords Reference 1 v
  IsOf (stack.Pointer t) v = IsPointer v

  -- how many words it has
  abbrev pub size_of_type : StackType → ℕ
  size_of_type stack.Int32 = 1
  size_of_type stack.Int64 = 1
  size_of_type stack.Native = 1
  size_of_type stack.Null = 1
  size_of_type (stack.Kind t) = words_of p (put_type m t)
  size_of_type (stack.Boxed t) = 1
  size_of_type (stack.Pointer t) = 1

  -- values and types, the top first
  abbrev pub AreOf : List StackType → List Value → Type 0
  AreOf [] [] = Unit {0}
  AreOf [] (v ∷ vs) = ⊥
  AreOf (t ∷ ts) [] = ⊥
  AreOf (t ∷ ts) (v ∷ vs) = IsOf t v × AreOf ts vs

-- a value in the place of an argument or a local, by its type with the arguments of the instantiated method put
abbrev pub IsIn : Program → PType → Value → Type 0
IsIn p (ptype.Value t) v = AreWords (kind_of p t) (words_of p t) v
IsIn p (ptype.Pointer t) v = IsPointer v
IsIn p ptype.Native v = AreWords Native 1 v

abbrev pub AreIn : Program → List PType → List Value → Type 0
AreIn p [] [] = Unit {0}
AreIn p [] (v ∷ vs) = ⊥
AreIn p (t ∷ ts) [] = ⊥
AreIn p (t ∷ ts) (v ∷ vs) = IsIn p t v × AreIn p ts vs

-- A frame with its places, where the stack before the instruction has these types, the deepest first.
pub record IsAdmitted (p : Program) (d : MethodDef) (types : List StackType) (f : Frame) (q : Places) : Type 0 where
  pub stack : AreOf p f.method (reverse types) f.stack
  pub held : AreIn p (argument_places p f.method d ++ local_places f.method d) q.held
