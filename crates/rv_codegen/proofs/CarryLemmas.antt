-- The code of each form keeps to its instruction.
use Rattle.std.proofs.Common.{◌≡◌, ℕ, suc, ◌+◌, ◌*◌, ◌^◌, ◌<◌, Bool, true, false, cond, List, [], ◌∷◌, ◌++◌, length, map, reverse, slice_get, Option, Some, None, flat_map, option_to_list, refl, sym, ap, ap₂, ◌∙◌, subst, arith}
use Rattle.std.proofs.lemmas.List.{append-nil, length-append, length-reverse, length-map}
use Rattle.type_tree.specs.declared.tree.TExpr.{TExpr}
use Rattle.il_model.specs.declared.entry.Entry.{Entry}
use Rattle.il_model.specs.declared.key.BodyRow.{BodyRow}
use Rattle.il_model.specs.declared.layout.MethodTree.{MethodTree}
use Rattle.il_model.specs.declared.method.Body.{Body}
use Rattle.il_model.specs.declared.method.PType.{PType}
use Rattle.il_model.specs.declared.op.Op.{Op}
use Rattle.il_model.specs.declared.program.Program.{Program}
use Rattle.il_model.specs.Entries.{entries_of}
use Rattle.il_model.specs.Find.{takes_object}
use Rattle.il_model.specs.Found.{method_at}
use Rattle.interaction.specs.Process.{Naming, Next}
use Rattle.interaction.specs.Simulation.{Keeps}
use Rattle.cil_flow.specs.declared.state.StackType.{StackType}
use Rattle.cil_meaning.specs.Values.{Value}
use Rattle.cil_meaning.specs.Naming.{Mention}
use Rattle.cil_meaning.specs.Frames.{Frame, Places}
use Rattle.cil_meaning.specs.Mentions.{settles_all}
use Rattle.cil_meaning.specs.Replies.{Left}
use Rattle.cil_meaning.specs.Site.{Site, moved, op_at}
use Rattle.cil_meaning.specs.Pieces.{given}
use Rattle.cil_meaning.specs.Groups.{group_of}
use Rattle.cil_meaning.specs.Meaning.{does, begins, meaning}
use Rattle.cil_meaning.specs.Types.{argument_places, local_places, arguments_with, object_place, put_place}
use Rattle.rv_isa.specs.declared.instr.Instr.{Instr}
use Rattle.rv_isa.specs.Assembly.{word_count}
use Rattle.rgctx_fill.specs.ThreadStates.{ImageData, ThreadData}
use Rattle.rgctx_fill.specs.Standing.{Compiled, IsRunBy, IsServed, Together, At, sides}
use Rattle.rgctx_fill.proofs.MachineLemmas.{Stands, run_pc}
use Rattle.rv_codegen.specs.Admitted.{AreOf, AreIn}
use Rattle.rv_codegen.specs.Carried.{StandFrom, code_address, IsBodyOf, StandsAt, frames_with}
use Rattle.rv_codegen.specs.PlainItems.{BodyData, plain, stack_of, locals_in, held_count}
use Rattle.rv_codegen.proofs.ItemLemmas.{AreRows, words_plain, plain_items_stand, stand_within}
use Rattle.rv_codegen.proofs.FormLemmas.{Leaves, rest_frames, rest_places, level_top, form_done, straight}
use Rattle.rv_codegen.proofs.PlaceLemmas.{Did}

-- Lengths ------------------------------------------------------------------

stack_long : (p : Program) (m : MethodTree) (ts : List StackType) (vs : List Value) → AreOf p m ts vs → length vs ≡ length ts
stack_long p m [] [] h = refl
stack_long p m [] (v ∷ vs) h = absurd h
stack_long p m (t ∷ ts) [] h = absurd h
stack_long p m (t ∷ ts) (v ∷ vs) h = ap suc (stack_long p m ts vs h.1)

pub held_long : (p : Program) (ts : List PType) (vs : List Value) → AreIn p ts vs → length vs ≡ length ts
held_long p [] [] h = refl
held_long p [] (v ∷ vs) h = absurd h
held_long p (t ∷ ts) [] h = absurd h
held_long p (t ∷ ts) (v ∷ vs) h = ap suc (held_long p ts vs h.1)

pub arguments_long : (m : MethodTree) (has_object : Bool) (object : PType) (params : List PType) → length (arguments_with has_object object (map (put_place m) params)) ≡ cond has_object 1 0 + length params
arguments_long m true object params = let h = length-map params (put_place m) in omega arith
arguments_long m false object params = let h = length-map params (put_place m) in omega arith

locals_long : (m : MethodTree) (body : Option Body) → length (flat_map (λ (x : Body). map (put_place m) x.locals) (option_to_list body)) ≡ length (locals_in body)
locals_long m None = refl
locals_long m (Some x) = ap length (append-nil (map (put_place m) x.locals)) ∙ length-map x.locals (put_place m)

-- At an instruction ---------------------------------------------------------

module _ (b : BodyData) (at : ℕ) (op : Op) (im : ImageData) (c : Compiled) (row from : ℕ) (places : List (Option ℕ)) (body : IsBodyOf b im c row places) (is_op : op_at b.method at ≡ Some op)
    (naming : Naming Mention TExpr) (gain : ThreadData → ℕ) (w : ℕ → ℕ) (f : Frame) (around : List Frame) (q : Places) (outer : List Places) (s : ThreadData)
    (here : StandsAt b at op im c row from w f around q outer s) where
  abbrev pub site : Site
  site = record { frame = f; definition = b.method; around = around; places = q ∷ outer }

  abbrev pub types : List StackType
  types = stack_of (slice_get b.states at)

  abbrev pub Kept_to : Left → Type 0
  Kept_to left = Keeps (sides im naming gain w) (At im w c) true 1024 left s

  abbrev pub g : Together im w c (frames_with f around q outer) s
  g = here.together

  served : IsServed im row f.method
  served =
      let r : IsRunBy im c (g.runner g.top) f.method = g.around.bodies g.top f (level_top g.top around outer (rest_frames g) (rest_places g) f) in
      subst (λ n. IsServed im n f.method) here.row_is (subst (λ x. IsRunBy im c x f.method) g.compiled r)

  pub found : method_at b.program f.method.method ≡ Some b.method
  found =
      let e : Some served.body ≡ Some body.body = sym served.is ∙ body.is in
      let e' : served.body ≡ body.body = cc e in
      ap (method_at b.program) (sym served.method ∙ ap (λ (x : BodyRow). x.method) e') ∙ body.method

  -- the process is at this instruction
  pub meaning_is : meaning im.cat.program (frames_with f around q outer) ≡ begins b.program site op
  meaning_is =
      ap (λ p. meaning p (frames_with f around q outer)) body.program
      ∙ ap (λ o. given o (λ d. given (op_at d f.at) (λ x. begins b.program (record { frame = f; definition = d; around = around; places = q ∷ outer }) x))) found
      ∙ ap (λ o. given o (begins b.program site)) (ap (op_at b.method) here.at_is ∙ is_op)

  -- an instruction without entries begins at once
  pub does_is : entries_of b.program op ≡ [] → meaning im.cat.program (frames_with f around q outer) ≡ does b.program site [] f.stack (group_of op)
  does_is none = meaning_is ∙ ap (λ (es : List Entry). settles_all b.program f.method es (λ numbers. does b.program site numbers f.stack (group_of op))) none

  pub stack_is : length f.stack ≡ length types
  stack_is = stack_long b.program f.method (reverse types) f.stack here.admitted.stack ∙ length-reverse types

  pub held_is : length q.held ≡ held_count b
  held_is = held_long b.program (argument_places b.program f.method b.method ++ local_places f.method b.method) q.held here.admitted.held ∙ length-append (argument_places b.program f.method b.method) (local_places f.method b.method)
      ∙ ap₂ (λ x y. x + y) (arguments_long f.method (takes_object b.method.shape) (object_place b.program f.method.class) b.method.params) (locals_long f.method b.method.body)

  -- where the code begins
  pub pc_is : c.pc row at ≡ code_address from → s.core.pc ≡ code_address from
  pc_is e =
      g.here f (level_top g.top around outer (rest_frames g) (rest_places g) f)
      ∙ ap (λ n. c.pc n f.at) here.row_is ∙ ap (c.pc row) here.at_is ∙ e

  -- Straight-line code that goes on to the next instruction.
  pub goes_straight : (is : List Instr) → AreRows is → 0 < length is → length is < 1024 → StandFrom im places from (plain is) → c.pc row at ≡ code_address from → c.pc row (suc at) ≡ code_address (from + word_count (plain is)) →
      (stack : List Value) (q' : Places) → q'.fresh ≡ q.fresh → (left : ℕ → ℕ → Option Value) → Did g is left →
      Leaves g.top around outer (rest_frames g) (rest_places g) (moved f (suc f.at) stack) q' left →
      Kept_to (Next (frames_with (moved f (suc f.at) stack) around q' outer))
  goes_straight is rows some few st pc next stack q' fresh left d leaves =
      straight im naming gain w c d.run some few g.goes (subst (λ n. Stands im n is) (sym (pc_is pc)) (plain_items_stand im places from is rows st))
      (form_done g (moved f (suc f.at) stack) q' refl refl d.t d.kept fresh left d.stacked leaves
      (let e = run_pc d.run in
      let a = pc_is pc in
      let n = words_plain is in
      let to : c.pc g.row (suc f.at) ≡ code_address (from + word_count (plain is)) = ap (λ m. c.pc m (suc f.at)) here.row_is ∙ ap (λ m. c.pc row (suc m)) here.at_is ∙ next in
      omega arith))

  -- the code ends far below the last address
  pub far_below : (is : List Instr) → AreRows is → 0 < length is → StandFrom im places from (plain is) → c.pc row at ≡ code_address from → s.core.pc + 4 * length is < 2 ^ 40
  far_below is rows some st pc =
      let a = pc_is pc in
      let h = stand_within im (code_address from) from is refl (plain_items_stand im places from is rows st) some in
      let l = body.short in
      omega arith
