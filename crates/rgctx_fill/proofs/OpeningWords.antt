-- A list of the words of the leaves and zeros fits under each catalogue of the program.
use Rattle.std.proofs.Common.{◌≡◌, ℕ, ◌+◌, ◌<◌, ◌≤◌, List, length, sym, ap, ◌∙◌, subst, arith}
use Rattle.std.specs.Prelude.{slice_index}
use Rattle.std.proofs.lemmas.Option.{slice_get_within}
use Rattle.il_model.specs.declared.program.Program.{Program}
use Rattle.il_model.specs.Accepted.{IsOfText}
use Rattle.rgctx_words.specs.Regions.{word_count}
use Rattle.rgctx_words.specs.Held.{AreFit}
use Rattle.rgctx_words.proofs.MemoryLemmas.{memory, same_memory}
use Rattle.rgctx_template.specs.declared.catalogue.Catalogue.{Catalogue}
use Rattle.rgctx_template.specs.Catalogue.{HasMain, data_of}
use Rattle.rgctx_fill.specs.Leaves.{owner_in, main_class, opening}
use Rattle.rgctx_fill.specs.Predefined.{HasLeaves}
use Rattle.rgctx_fill.specs.Fitting.{AreFitting}
use Rattle.rgctx_fill.proofs.Opening.{opening-fits}
use Rattle.rgctx_fill.proofs.TextLeaves.{text-leaves}

pub main-small : (program : Program) → HasLeaves program → program.main < 0x8000
main-small program leaves =
    let a : program.main < length program.methods = slice_get_within program.methods program.main leaves.main leaves.main_is in
    let b : length program.methods ≤ 16384 = leaves.few_methods in
    omega arith

pub owner-small : (program : Program) → HasLeaves program → 16 + main_class program < 0x8000
owner-small program leaves =
    let e : main_class program ≡ leaves.main.owner = ap owner_in leaves.main_is in
    let a : leaves.main.owner < length program.classes = slice_get_within program.classes leaves.main.owner leaves.class leaves.class_is in
    let b : length program.classes ≤ 4096 = leaves.few_classes in
    omega arith

pub opening-list : (program : Program) → IsOfText program → HasMain program → (words : List ℕ) → length words ≡ word_count → ((i : ℕ) → slice_index words i ≡ opening program i)
    → (cat : Catalogue) → cat.program.now ≡ program → AreFit (λ ws. AreFitting (data_of cat) (λ i. slice_index ws i)) words
opening-list program of main words count are cat e =
    let same : memory words ≡ opening cat.program.now = same_memory are ∙ ap opening (sym e) in
    record {
      count = count;
      fits = subst (AreFitting (data_of cat)) (sym same) (opening-fits (data_of cat) (subst HasMain (sym e) main) (subst HasLeaves (sym e) (text-leaves program of)));
    }
