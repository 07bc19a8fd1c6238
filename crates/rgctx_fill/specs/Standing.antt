-- Where a process and a thread stand together: the thread's frames hold what the process's frames do, and its code is that of the process's instruction. This project's own.
use Rattle.std.specs.Prelude.{◌≡◌, ℕ, suc, ◌+◌, ◌<◌, ◌≤◌, ◌==◌, Bool, true, if◌then◌else◌, List, [], ◌∷◌, ◌++◌, length, reverse, slice_get, slice_index, Option, Some, None}
use Rattle.type_tree.specs.declared.tree.TExpr.{TExpr}
use Rattle.il_model.specs.declared.key.BodyRow.{BodyRow}
use Rattle.il_model.specs.declared.layout.MethodTree.{MethodTree}
use Rattle.il_model.specs.declared.method.MethodDef.{MethodDef}
use Rattle.il_model.specs.Entries.{arguments_of}
use Rattle.il_model.specs.Found.{method_at}
use Rattle.il_model.specs.Layouts.{words_of}
use Rattle.share_canon.specs.Keys.{Serves}
use Rattle.interaction.specs.Process.{Naming, Next}
use Rattle.interaction.specs.Simulation.{Sides}
use Rattle.store_object.specs.declared.request.Request.{Request}
use Rattle.store_object.specs.declared.reply.Reply.{Reply}
use Rattle.cil_meaning.specs.Values.{Value}
use Rattle.cil_meaning.specs.Naming.{Mention, put_type}
use Rattle.cil_meaning.specs.Frames.{Awaited, Nothing, Result, Object, Built, Frame, Places, Frames, places_at}
use Rattle.cil_meaning.specs.Replies.{Left}
use Rattle.cil_meaning.specs.Meaning.{meaning}
use Rattle.cil_flow.specs.declared.plan.Plan.{Plan}
use Rattle.rgctx_words.specs.Regions.{node_count}
use Rattle.rgctx_words.specs.Frames.{place_words, place_offset, scratch_offset, frame_address, caller_word, back_word, method_word, result_word, instr_word, length_word}
use Rattle.rgctx_words.specs.Stacks.{StackWords, IsStack, mem_of, base_of}
use Rattle.rv_machine.specs.Registers.{register_of}
use Rattle.rgctx_fill.specs.declared.spelled.NodeTree.TheVariants as tree
use Rattle.rgctx_fill.specs.Spelled.{spelled}
use Rattle.rgctx_fill.specs.declared.doing.Doing.TheVariants.{Runs}
use Rattle.rgctx_fill.specs.ThreadStates.{ImageData, ThreadData}
use Rattle.rgctx_fill.specs.ThreadTurns.{want}
use Rattle.rgctx_fill.specs.Constructed.{IsSized, PutsBuilt}
use Rattle.rgctx_fill.specs.FrameMaps.{FrameMap, place_count, width_at, spot, Stacked}

-- What is known of the compiled bodies, by the number of their row: the plan of their frames, and the address of the code of
-- each instruction. And whether the interpreter may run frames as well.
pub record Compiled : Type 0 where
  pub plan : ℕ → Plan
  pub pc : ℕ → ℕ → ℕ
  pub interprets : Bool

-- What runs a frame: the body of a row, or the interpreter, over a frame of this plan.
pub data Runner : Type 0 where
  ByRow : (row : ℕ) → Runner
  ByInterpreter : Plan → Runner

abbrev pub plan_of : Compiled → Runner → Plan
plan_of c (ByRow row) = c.plan row
plan_of c (ByInterpreter plan) = plan

-- where a frame goes on at an instruction: at its code, or at 0 where the interpreter goes on
abbrev pub GoesOnAt : Compiled → Runner → (at back : ℕ) → Type 0
GoesOnAt c (ByRow row) at back = (back ≡ c.pc row at) × (0 < back)
GoesOnAt c (ByInterpreter plan) at back = back ≡ 0

-- What the process's frames hold, by level and place ------------------------

-- the item of a level; the last of the list is that of level 0
abbrev pub level_of : {A : Type 0} → List A → ℕ → Option A
level_of [] l = None
level_of (x ∷ xs) l = if l == length xs then Some x else level_of xs l

-- the places of a frame: its arguments and locals, then its stack, the deepest value first
abbrev pub value_in : Option Frame → Option Places → ℕ → Option Value
value_in None places n = None
value_in (Some f) None n = None
value_in (Some f) (Some p) n = slice_get (p.held ++ reverse f.stack) n

abbrev pub value_at : Frames → ℕ → ℕ → Option Value
value_at fs l = value_in (level_of fs.frames l) (places_at fs.places l)

-- What stands in the scratch words of a frame: the number of the object whose constructor was called, or the words of the struct
-- that is being built.
abbrev pub made_words : Awaited → (fresh : List ℕ) → List ℕ
made_words Nothing fresh = fresh
made_words Result fresh = fresh
made_words (Object o) fresh = o ∷ []
made_words Built fresh = fresh

abbrev pub fresh_in : Option Frame → Option Places → List ℕ
fresh_in None places = []
fresh_in (Some f) None = []
fresh_in (Some f) (Some p) = made_words f.awaits p.fresh

abbrev pub fresh_at : Frames → ℕ → List ℕ
fresh_at fs l = fresh_in (level_of fs.frames l) (places_at fs.places l)

-- whether a frame waits for a constructor
abbrev pub IsMaking : Awaited → Type 0
IsMaking Nothing = ⊥
IsMaking Result = ⊥
IsMaking (Object o) = Unit {0}
IsMaking Built = Unit {0}

-- a struct's words stand in a frame only as long as it is built there
abbrev pub AreFresh : Awaited → List ℕ → Type 0
AreFresh Nothing fresh = fresh ≡ []
AreFresh Result fresh = fresh ≡ []
AreFresh (Object o) fresh = fresh ≡ []
AreFresh Built fresh = Unit {0}

-- the place that takes a result: the next one of the stack
abbrev pub result_place : Frame → Places → ℕ
result_place f p = length p.held + length f.stack

-- where the frames lie, by what runs each
abbrev pub map_of : Compiled → (ℕ → Runner) → StackWords → FrameMap
map_of c runner stack = record { base = base_of stack; plan = λ l. plan_of c (runner l) }

-- The thread ---------------------------------------------------------------

-- the body of a row is one for this instantiated method
pub record IsServed (im : ImageData) (row : ℕ) (m : MethodTree) : Type 0 where
  pub body : BodyRow
  pub is : slice_get im.cat.bodies row ≡ Some body
  pub method : body.method ≡ m.method
  pub serves : Serves im.cat.program body.key.parts (arguments_of m.class ++ m.args)

-- the plan of an interpreted frame: each place has the words of the largest value
pub record IsInterpreted (k : Plan) : Type 0 where
  pub places : (p : ℕ) → p < length k.offsets → (slice_index k.offsets p ≡ place_offset p) × (slice_index k.widths p ≡ place_words)
  pub scratch : k.scratch ≡ scratch_offset (length k.offsets)

abbrev pub IsRunBy : ImageData → Compiled → Runner → MethodTree → Type 0
IsRunBy im c (ByRow row) m = IsServed im row m
IsRunBy im c (ByInterpreter plan) m = (c.interprets ≡ true) × IsInterpreted plan

-- a place of the caller takes the result of this type
pub record TakesResult (im : ImageData) (g : FrameMap) (l place : ℕ) (t : TExpr) : Type 0 where
  pub inside : place < place_count g l
  pub fits : words_of im.cat.program t ≤ width_at g l place

-- The return address of a constructor lies within the code of the frame's newobj. From there on that code puts what was made into the
-- place of the result, which has the room, and comes to the next instruction.
pub record IsWithinNew (im : ImageData) (k : Plan) (next place many back : ℕ) : Type 0 where
  pub inside : place < length k.offsets
  pub fits : many ≤ slice_index k.widths place
  pub code : 0 < back
  pub puts : PutsBuilt im k place many back next

abbrev pub FinishesNew : ImageData → Compiled → Runner → Frame → Places → (back : ℕ) → Type 0
FinishesNew im c (ByRow row) f p back = IsWithinNew im (c.plan row) (c.pc row (suc f.at)) (result_place f p) (length (made_words f.awaits p.fresh)) back
FinishesNew im c (ByInterpreter plan) f p back = back ≡ 0

-- What the header words of a level say, `head l k` being word k: the caller, where it goes on, the method's node, the place of the
-- result where there is one, the instruction at which it waits, and its length. The first frame's method and a constructor have no
-- result.
pub record Headed (im : ImageData) (c : Compiled) (runner : ℕ → Runner) (node : ℕ → ℕ) (g : FrameMap) (fs : Frames) (head : ℕ → ℕ → ℕ) (top : ℕ) : Type 0 where
  pub first : head 0 caller_word ≡ 0
  pub ends : (f : Frame) (d : MethodDef) → level_of fs.frames 0 ≡ Some f → method_at im.cat.program f.method.method ≡ Some d → d.result ≡ None
  pub caller : (l : ℕ) → l < top → head (suc l) caller_word ≡ frame_address (g.base l)
  pub back : (l : ℕ) (f : Frame) → l < top → level_of fs.frames l ≡ Some f → f.awaits ≡ Result → GoesOnAt c (runner l) (suc f.at) (head (suc l) back_word)
  pub made : (l : ℕ) (f above : Frame) (p : Places) (d : MethodDef) → l < top → level_of fs.frames l ≡ Some f → places_at fs.places l ≡ Some p →
      level_of fs.frames (suc l) ≡ Some above → IsMaking f.awaits → method_at im.cat.program above.method.method ≡ Some d →
      (d.result ≡ None) × FinishesNew im c (runner l) f p (head (suc l) back_word)
  pub method : (l : ℕ) → l ≤ top → head l method_word ≡ node l
  pub result : (l : ℕ) (f above : Frame) (p : Places) (d : MethodDef) (t : TExpr) → l < top → level_of fs.frames l ≡ Some f → places_at fs.places l ≡ Some p →
      level_of fs.frames (suc l) ≡ Some above → f.awaits ≡ Result → method_at im.cat.program above.method.method ≡ Some d → d.result ≡ Some t →
      (head (suc l) result_word ≡ frame_address (spot g l (result_place f p))) × TakesResult im g l (result_place f p) (put_type above.method t)
  pub instr : (l : ℕ) (f : Frame) → l < top → level_of fs.frames l ≡ Some f → head l instr_word ≡ f.at
  pub size : (l : ℕ) → l ≤ top → head l length_word ≡ (g.plan l).frame

-- what holds of the levels beside memory
pub record Around (im : ImageData) (w : ℕ → ℕ) (c : Compiled) (runner : ℕ → Runner) (node : ℕ → ℕ) (fs : Frames) (s : ThreadData) (top : ℕ) : Type 0 where
  pub frames : length fs.frames ≡ suc top
  pub places : length fs.places ≡ suc top
  pub bases : length s.stack.bases ≡ suc top
  pub bodies : (l : ℕ) (f : Frame) → level_of fs.frames l ≡ Some f → IsRunBy im c (runner l) f.method
  pub nodes : (l : ℕ) (f : Frame) → level_of fs.frames l ≡ Some f → (node l < node_count) × (spelled w (node l) ≡ tree.Method f.method)
  pub fresh : (l : ℕ) (f : Frame) (p : Places) → level_of fs.frames l ≡ Some f → places_at fs.places l ≡ Some p → AreFresh f.awaits p.fresh
  pub copy : register_of s.core 8 ≡ frame_address (base_of s.stack top)
  pub stack : IsStack s.stack
  pub sized : IsSized s

-- The thread's machine code goes on at the current frame's instruction, and its frames lie in its words.
pub record Together (im : ImageData) (w : ℕ → ℕ) (c : Compiled) (fs : Frames) (s : ThreadData) : Type 0 where
  pub top : ℕ
  pub runner : ℕ → Runner
  pub node : ℕ → ℕ
  pub head : ℕ → ℕ → ℕ
  pub around : Around im w c runner node fs s top
  pub headed : Headed im c runner node (map_of c runner s.stack) fs head top
  pub stacked : Stacked (map_of c runner s.stack) head (mem_of s.stack) (length s.stack.words) top (value_at fs) (fresh_at fs)
  pub calm : (f : Frame) → level_of fs.frames top ≡ Some f → f.awaits ≡ Nothing
  pub goes : s.doing ≡ Runs
  pub row : ℕ
  pub compiled : runner top ≡ ByRow row
  pub here : (f : Frame) → level_of fs.frames top ≡ Some f → s.core.pc ≡ c.pc row f.at

-- where a piece of code begins or ends: at an instruction of the process
pub data At (im : ImageData) (w : ℕ → ℕ) (c : Compiled) : Left → ThreadData → Type 0 where
  running : {fs : Frames} {s : ThreadData} → Together im w c fs s → At im w c (Next fs) s

-- both sides: what the process means under a naming, and what the thread wants, under words
abbrev pub sides : ImageData → Naming Mention TExpr → (ThreadData → ℕ) → (ℕ → ℕ) → Sides Mention TExpr Request Reply Frames ThreadData
sides im naming gain w = record { naming = naming; meaning = meaning im.cat.program; want = want im; gain = gain; words = w }
