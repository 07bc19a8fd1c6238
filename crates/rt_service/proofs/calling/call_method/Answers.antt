use Rattle.std.proofs.Common.{◌≡◌, ◌≢◌, ℕ, ◌==◌, ◌&&◌, true, List, length, Some, refl, sym, ap, ◌∙◌, subst, arith, rules}
use Rattle.std.specs.Prelude.{is_some, slice_get}
use Rattle.std.specs.Option.{option_copied}
use Rattle.std.proofs.lemmas.Option.{slice_get_read}
use Rattle.il_model.specs.declared.key.BodyRow.{BodyRow}
use Rattle.il_model.specs.declared.method.MethodDef.{MethodDef}
use Rattle.il_model.specs.Found.{method_at}
use Rattle.rgctx_fill.specs.ThreadStates.{ImageData, image_of}
use Rattle.rgctx_fill.specs.CallServices.{row_entered, calls_entry}
use Rattle.rgctx_fill.specs.Moves.{IsMade}
use Rattle.rt_service.proofs.CallLemmas.{row_listed, method_goes, row_goes}
use Rattle.rt_service.proofs.calling.call_method.Goals as goal

pub returns-then-word-eq0 : goal.returns-then-word-eq0
returns-then-word-eq0 c = λ cat h kept.
    let im : ImageData = image_of c.args.image.now in
    let d : MethodDef = c.in-Some.definition.now in
    let rows : List MethodDef = c.as_slice-methods.result.now in
    let named : rows ≡ c.args.image.now.cat.program.now.methods = search rules in
    let item : slice_get rows c.from.result ≡ Some d = slice_get_read rows (length rows) c.from.result d refl c.in-Some.ensures.lookup.3.0 c.in-Some.ensures.lookup.1 in
    let is : method_at c.args.image.now.cat.program.now c.args.method.now.method ≡ Some d =
    ap (λ (xs : List MethodDef). slice_get xs c.args.method.now.method) (sym named) ∙ ap (slice_get rows) (sym c.from.ensures) ∙ item in
    let has : is_some d.body ≡ true = search rules in
    let zero : c.args.word ≡ 0 = omega (arith, c.if-word-eq0.true) in
    method_goes im cat h c.args.state.now c.in_ok-want.want c.call_interpreter.new.state c.args.node c.args.target c.args.list c.args.method.now d c.args.word _ is has
    (subst (λ (w : ℕ). IsMade cat h c.args.state.now (calls_entry im c.args.state.now c.args.node c.args.target c.args.list w c.args.method.now d) c.in_ok-want.want c.call_interpreter.new.state) (sym zero)
    (c.in_ok-want.ensures {u = tt} cat h kept))

pub call_body-requires : goal.call_body-requires
call_body-requires c =
    let im : ImageData = image_of c.args.image.now in
    let listed : c.as_slice.result.now ≡ im.cat.bodies = search rules in
    let found : row_entered im.cat.bodies c.args.method.now.method c.args.word ≡ Some c.in-Some-row_entered.row.now =
    ap (λ rows. row_entered rows c.args.method.now.method c.args.word) (sym listed) ∙ sym c.row_entered.ensures ∙ ap option_copied c.in-Some-row_entered.is in
    let one = row_listed (λ (r : BodyRow). (r.method == c.args.method.now.method) && (r.entry == c.args.word)) im.cat.bodies c.in-Some-row_entered.row.now found in
    c.requires.image.bodies one.0 c.in-Some-row_entered.row.now one.1

pub returns-in_ok-want-in-Some-row_entered : goal.returns-in_ok-want-in-Some-row_entered
returns-in_ok-want-in-Some-row_entered c = λ cat h kept.
    let im : ImageData = image_of c.args.image.now in
    let d : MethodDef = c.in-Some.definition.now in
    let rows : List MethodDef = c.as_slice-methods.result.now in
    let named : rows ≡ c.args.image.now.cat.program.now.methods = search rules in
    let item : slice_get rows c.from.result ≡ Some d = slice_get_read rows (length rows) c.from.result d refl c.in-Some.ensures.lookup.3.0 c.in-Some.ensures.lookup.1 in
    let is : method_at c.args.image.now.cat.program.now c.args.method.now.method ≡ Some d =
    ap (λ (xs : List MethodDef). slice_get xs c.args.method.now.method) (sym named) ∙ ap (slice_get rows) (sym c.from.ensures) ∙ item in
    let has : is_some d.body ≡ true = search rules in
    let other : c.args.word ≢ 0 = omega (arith, c.if-word-eq0.false) in
    let listed : c.as_slice.result.now ≡ im.cat.bodies = search rules in
    let found : row_entered im.cat.bodies c.args.method.now.method c.args.word ≡ Some c.in-Some-row_entered.row.now =
    ap (λ rows. row_entered rows c.args.method.now.method c.args.word) (sym listed) ∙ sym c.row_entered.ensures ∙ ap option_copied c.in-Some-row_entered.is in
    method_goes im cat h c.args.state.now c.in_ok-want-in-Some-row_entered.want c.call_body.new.state c.args.node c.args.target c.args.list c.args.method.now d c.args.word _ is has
    (row_goes im cat h c.args.state.now c.in_ok-want-in-Some-row_entered.want c.call_body.new.state c.args.node c.args.target c.args.list c.args.method.now d c.args.word c.in-Some-row_entered.row.now other found
    (c.in_ok-want-in-Some-row_entered.ensures {u = tt} cat h kept))
