use Rattle.std.proofs.Common.{◌≡◌, ◌-◌, ◌^◌, false, nat_eq, ℕ, List, map, sym, ap, ◌∙◌}
use Rattle.std.specs.List.{list_any}
use Rattle.il_model.specs.Layouts.{words_of}
use Rattle.type_inst.specs.Sizing.{capped_words}
use Rattle.type_inst.proofs.LayingLemmas.{all_uncut}
use Rattle.type_inst.proofs.laying.exact_words.Goals as goal

pub returns : goal.returns
returns c =
    let p = c.args.program.now in
    let words : c.in_ok-words.words ≡ map (capped_words (2 ^ 32 - 1) p) c.args.kinds.now = c.in_ok-words.ensures {u = tt} in
    let below : list_any (nat_eq (2 ^ 32 - 1)) (map (capped_words (2 ^ 32 - 1) p) c.args.kinds.now) ≡ false =
    ap (λ (ws : List ℕ). list_any (nat_eq (2 ^ 32 - 1)) ws) (sym words ∙ sym c.as_slice.ensures) ∙ sym c.is_cut.ensures ∙ c.if-is_cut.false in
    words ∙ all_uncut (words_of p) (2 ^ 32 - 1) c.args.kinds.now below
