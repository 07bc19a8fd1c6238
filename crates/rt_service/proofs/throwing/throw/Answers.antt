use Rattle.std.proofs.Common.{◌≡◌, ℕ, ◌==◌, false, nat_lt, refl, arith}
use Rattle.std.proofs.lemmas.Bool.Decides.{nat_tests}
use Rattle.store_object.specs.declared.request.Request.TheVariants as ask
use Rattle.cil_meaning.specs.Naming.{strings_from}
use Rattle.rgctx_template.specs.Catalogue.{CatData, data_of}
use Rattle.rgctx_fill.specs.ThreadStates.{ImageData, ThreadData, Move, image_of}
use Rattle.rgctx_fill.specs.ThreadStates as move
use Rattle.rgctx_fill.specs.StoreServices.{string_leaf, with_string, with_object, by_reference}
use Rattle.rgctx_fill.specs.ThrowServices.{null_reference, on_thrown, raises, searches}
use Rattle.rgctx_fill.specs.Moves.{Span, span, Within}
use Rattle.rt_service.proofs.PointerLemmas.{chosen}
use Rattle.rt_service.proofs.throwing.throw.Goals as goal

pub returns-in-Passes-clause-turn : goal.returns-in-Passes-clause-turn
returns-in-Passes-clause-turn g c =
    let s : ThreadData = c.args.state.now in
    let im : ImageData = image_of c.args.image.now in
    let cat : CatData = data_of c.args.image.now.cat in
    let w : ℕ = c.args.word in
    let h : Span = span (g.W.Words.alone c.args.words.now) (g.W.Words.held c.args.words.now) (g.W.Words.held c.string.new.words) (g.W.Words.claims c.args.words.now) (g.W.Words.claims c.string.new.words) in
    let within : Within h (g.W.Words.held c.args.words.now) (g.W.Words.held c.string.new.words) = record { later = λ j used. refl; sooner = λ j used. refl } in
    let object : Move = move.Asks (ask.TypeOf w) (on_thrown s w) in
    let string : Move = searches s (record { word = w; kind = string_leaf }) in
    let some : (w == 0) ≡ false = grind (arith, nat_tests, c.if-word-eq0.false) in
    let late : nat_lt w strings_from ≡ false = grind (arith, nat_tests, c.if-word-lt-STRINGS.false) in
    chosen cat h s c.search.result c.search.new.state (w == 0) (raises s null_reference) (by_reference im s w object string) some
    (chosen cat h s c.search.result c.search.new.state (nat_lt w strings_from) (with_object im s w object) (with_string im s w string) late
    (c.in-Passes.ensures.goes c.requires.met h within s string c.search.result c.search.new.state (c.search.ensures cat h c.string.ensures.claims)))
