use Rattle.std.proofs.Common.{◌≡◌, ℕ, ◌+◌, ◌≤◌, true, false, if◌then◌else◌, List, length, map, sym, ap, ◌∙◌, subst, arith, rules}
use Rattle.std.specs.Prelude.{slice_get}
use Rattle.il_model.specs.declared.layout.MethodTree.{MethodTree}
use Rattle.il_model.specs.declared.method.MethodDef.{MethodDef}
use Rattle.il_model.specs.declared.program.Program.{Program}
use Rattle.il_model.specs.Find.{takes_object}
use Rattle.cil_meaning.specs.Types.{argument_places}
use Rattle.crossings.specs.declared.call.CallWords.{CallWords}
use Rattle.crossings.specs.Calls.{AreListed, AreWidths, most_places}
use Rattle.rgctx_fill.specs.declared.image.FrameCount.{FrameCount}
use Rattle.rgctx_fill.specs.ThreadStates.{ImageData, ThreadData, image_of}
use Rattle.rgctx_fill.specs.CallServices.{argument_width, argument_widths, are_there, takes_result, count_in, calls_entry}
use Rattle.rgctx_fill.specs.Serving.{IsCounted}
use Rattle.rgctx_fill.specs.Moves.{IsMade}
use Rattle.rt_service.specs.Refusals.{refused}
use Rattle.rt_service.proofs.WidthLemmas.{places_count, widths_count, are_widths}
use Rattle.rt_service.proofs.CallLemmas.{there_is, not_there, interpreted}
use Rattle.rt_service.proofs.calling.call_interpreter.Goals as goal

pub are_listed-requires : goal.are_listed-requires
are_listed-requires c =
    let im : ImageData = image_of c.args.image.now in
    let p : Program = c.args.image.now.cat.program.now in
    let m : MethodTree = c.args.method.now in
    let d : MethodDef = c.args.definition.now in
    let placed : c.as_slice.result.now ≡ argument_places p m d = search rules in
    let wide : c.as_slice-2.result.now ≡ argument_widths p m d = c.as_slice-2.ensures.value ∙ c.in_ok-widths.ensures {u = tt} ∙ ap (map (argument_width p)) placed in
    let counted : IsCounted d (count_in (slice_get im.frames m.method)) = c.requires.image.counts m.method d c.requires.method c.requires.body in
    let arguments : (if takes_object d.shape then 1 else 0) + length d.params ≤ (count_in (slice_get im.frames m.method)).places = counted.arguments in
    let most : (count_in (slice_get im.frames m.method)).places ≤ most_places = counted.places in
    let count : length c.as_slice-2.result.now ≡ (if takes_object d.shape then 1 else 0) + length d.params = ap length wide ∙ widths_count p m d in
    omega arith

pub returns-then-not-are_listed : goal.returns-then-not-are_listed
returns-then-not-are_listed c = λ cat h kept.
    let im : ImageData = image_of c.args.image.now in
    let p : Program = c.args.image.now.cat.program.now in
    let m : MethodTree = c.args.method.now in
    let d : MethodDef = c.args.definition.now in
    let s : ThreadData = record { core = c.state.inside.core; stack = c.state.inside.stack; doing = c.state.inside.doing } in
    let now : ThreadData = c.args.state.now in
    let placed : c.as_slice.result.now ≡ argument_places p m d = search rules in
    let wide : c.as_slice-2.result.now ≡ argument_widths p m d = c.as_slice-2.ensures.value ∙ c.in_ok-widths.ensures {u = tt} ∙ ap (map (argument_width p)) placed in
    let there : c.are_listed.result ≡ are_there s.stack.words c.args.list (argument_widths p m d) =
    there_is s.stack.words c.args.list c.as_slice-2.result.now c.are_listed.result c.are_listed.ensures.0 c.are_listed.ensures.1 ∙ ap (are_there s.stack.words c.args.list) wide in
    let none : are_there s.stack.words c.args.list (argument_widths p m d) ≡ false = sym there ∙ c.if-not-are_listed.true in
    subst (λ w. IsMade cat h now (calls_entry im now c.args.node c.args.target c.args.list 0 m d) w now) (sym c.refuse.ensures)
    (subst (λ (v : ThreadData). IsMade cat h v (calls_entry im v c.args.node c.args.target c.args.list 0 m d) (refused v) v) c.state.view_is
    (not_there im s c.args.node c.args.target c.args.list m d cat h kept none))

pub enter_interpreter-requires-clause-few : goal.enter_interpreter-requires-clause-few
enter_interpreter-requires-clause-few c =
    let im : ImageData = image_of c.args.image.now in
    let p : Program = c.args.image.now.cat.program.now in
    let m : MethodTree = c.args.method.now in
    let d : MethodDef = c.args.definition.now in
    let placed : c.as_slice-3.result.now ≡ argument_places p m d = search rules in
    let counted : IsCounted d (count_in (slice_get im.frames m.method)) = c.requires.image.counts m.method d c.requires.method c.requires.body in
    let arguments : (if takes_object d.shape then 1 else 0) + length d.params ≤ (count_in (slice_get im.frames m.method)).places = counted.arguments in
    let most : (count_in (slice_get im.frames m.method)).places ≤ most_places = counted.places in
    let places : c.count_of-count.result.places ≡ (count_in (slice_get im.frames m.method)).places = ap (λ (n : FrameCount). n.places) c.count_of-count.ensures in
    let count : length c.as_slice-3.result.now ≡ (if takes_object d.shape then 1 else 0) + length d.params = ap length placed ∙ places_count p m d in
    omega arith

pub enter_interpreter-requires-clause-places : goal.enter_interpreter-requires-clause-places
enter_interpreter-requires-clause-places c =
    let im : ImageData = image_of c.args.image.now in
    let p : Program = c.args.image.now.cat.program.now in
    let m : MethodTree = c.args.method.now in
    let d : MethodDef = c.args.definition.now in
    let counted : IsCounted d (count_in (slice_get im.frames m.method)) = c.requires.image.counts m.method d c.requires.method c.requires.body in
    let arguments : (if takes_object d.shape then 1 else 0) + length d.params ≤ (count_in (slice_get im.frames m.method)).places = counted.arguments in
    let most : (count_in (slice_get im.frames m.method)).places ≤ most_places = counted.places in
    let places : c.count_of-count.result.places ≡ (count_in (slice_get im.frames m.method)).places = ap (λ (n : FrameCount). n.places) c.count_of-count.ensures in
    omega arith

pub enter_interpreter-requires-clause-list : goal.enter_interpreter-requires-clause-list
enter_interpreter-requires-clause-list c =
    let im : ImageData = image_of c.args.image.now in
    let p : Program = c.args.image.now.cat.program.now in
    let m : MethodTree = c.args.method.now in
    let d : MethodDef = c.args.definition.now in
    let counted : IsCounted d (count_in (slice_get im.frames m.method)) = c.requires.image.counts m.method d c.requires.method c.requires.body in
    let most : (count_in (slice_get im.frames m.method)).list ≤ most_places = counted.list in
    let list : c.count_of-count.result.list ≡ (count_in (slice_get im.frames m.method)).list = ap (λ (n : FrameCount). n.list) c.count_of-count.ensures in
    omega arith

pub enter_interpreter-requires-clause-widths : goal.enter_interpreter-requires-clause-widths
enter_interpreter-requires-clause-widths c =
    let im : ImageData = image_of c.args.image.now in
    let p : Program = c.args.image.now.cat.program.now in
    let m : MethodTree = c.args.method.now in
    let d : MethodDef = c.args.definition.now in
    let placed : c.as_slice.result.now ≡ argument_places p m d = search rules in
    let wide : c.as_slice-4.result.now ≡ argument_widths p m d = c.as_slice-4.ensures.value ∙ c.in_ok-widths.ensures {u = tt} ∙ ap (map (argument_width p)) placed in
    let counted : IsCounted d (count_in (slice_get im.frames m.method)) = c.requires.image.counts m.method d c.requires.method c.requires.body in
    let arguments : (if takes_object d.shape then 1 else 0) + length d.params ≤ (count_in (slice_get im.frames m.method)).places = counted.arguments in
    let most : (count_in (slice_get im.frames m.method)).places ≤ most_places = counted.places in
    let places : c.count_of-count.result.places ≡ (count_in (slice_get im.frames m.method)).places = ap (λ (n : FrameCount). n.places) c.count_of-count.ensures in
    let few : (if takes_object d.shape then 1 else 0) + length d.params ≤ c.count_of-count.result.places = omega arith in
    subst (λ (ws : List ℕ). AreWidths ws c.count_of-count.result.places) (sym wide) (are_widths p m d c.count_of-count.result.places c.requires.admitted c.requires.method few)

pub enter_interpreter-requires-clause-listed : goal.enter_interpreter-requires-clause-listed
enter_interpreter-requires-clause-listed c =
    let im : ImageData = image_of c.args.image.now in
    let now : ThreadData = c.args.state.now in
    let own : AreListed c.state.inside.stack.words c.args.list c.as_slice-2.result.now = c.are_listed.ensures.0 c.if-not-are_listed.false in
    let there : AreListed now.stack.words c.args.list c.as_slice-2.result.now = subst (λ (v : ThreadData). AreListed v.stack.words c.args.list c.as_slice-2.result.now) c.state.view_is own in
    let same : AreListed now.stack.words c.args.list c.as_slice-4.result.now =
    subst (λ (ws : List ℕ). AreListed now.stack.words c.args.list ws) (c.as_slice-2.ensures.value ∙ sym c.as_slice-4.ensures.value) there in
    subst (λ (l : ℕ). AreListed now.stack.words l c.as_slice-4.result.now) (sym (ap (λ (w : CallWords). w.list) (c.call_words-call.ensures im))) same

pub returns : goal.returns
returns c = λ cat h kept.
    let im : ImageData = image_of c.args.image.now in
    let p : Program = c.args.image.now.cat.program.now in
    let m : MethodTree = c.args.method.now in
    let d : MethodDef = c.args.definition.now in
    let s : ThreadData = record { core = c.state.inside.core; stack = c.state.inside.stack; doing = c.state.inside.doing } in
    let now : ThreadData = c.args.state.now in
    let placed : c.as_slice.result.now ≡ argument_places p m d = search rules in
    let wide : c.as_slice-2.result.now ≡ argument_widths p m d = c.as_slice-2.ensures.value ∙ c.in_ok-widths.ensures {u = tt} ∙ ap (map (argument_width p)) placed in
    let there : c.are_listed.result ≡ are_there s.stack.words c.args.list (argument_widths p m d) =
    there_is s.stack.words c.args.list c.as_slice-2.result.now c.are_listed.result c.are_listed.ensures.0 c.are_listed.ensures.1 ∙ ap (are_there s.stack.words c.args.list) wide in
    let listed : are_there now.stack.words c.args.list (argument_widths p m d) ≡ true =
    sym (ap (λ (v : ThreadData). are_there v.stack.words c.args.list (argument_widths p m d)) c.state.view_is) ∙ sym there ∙ c.if-not-are_listed.false in
    let takes : takes_result now.stack.words c.args.target p m d.result ≡ true = search rules in
    let places : c.as_slice-3.result.now ≡ argument_places p m d = search rules in
    let widths : c.as_slice-4.result.now ≡ argument_widths p m d = c.as_slice-4.ensures.value ∙ c.in_ok-widths.ensures {u = tt} ∙ ap (map (argument_width p)) placed in
    interpreted im now c.args.node c.args.target c.args.list m d cat h kept c.call_words-call.result c.count_of-count.result c.as_slice-3.result.now c.as_slice-4.result.now c.is_struct_method-is_struct.result
    c.in_ok-want.want c.enter_interpreter.new.state listed takes (c.call_words-call.ensures im) c.count_of-count.ensures places widths c.is_struct_method-is_struct.ensures
    (c.in_ok-want.ensures {u = tt}).said (c.in_ok-want.ensures {u = tt}).state
