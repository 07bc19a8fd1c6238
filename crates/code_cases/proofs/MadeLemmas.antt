-- Labels of one assembler stay its labels.
use Rattle.std.proofs.Common.{◌≡◌, ℕ, ◌<◌, List, Option, Some, length, slice_get, sym, ap, ◌∙◌, subst}
use Rattle.std.proofs.lemmas.List.{length-set}
use Rattle.mn_outside.specs.declared.places.Label.{Label}
use Rattle.rv_isa.specs.Assembly.{Assembly, word_count, with_place}
use Rattle.code_cases.specs.Made.{AreMade}

pub made_below : (ls : List Label) (n i : ℕ) (l : Label) → AreMade ls n → slice_get ls i ≡ Some l → l.number < n
made_below ls n i l made is = made i l is

pub made_still : (ls : List Label) (old new : Assembly) → new.places ≡ old.places → AreMade ls (length old.places) → AreMade ls (length new.places)
made_still ls old new same made = subst (λ (ps : List (Option ℕ)). AreMade ls (length ps)) (sym same) made

pub made_placed : (ls : List Label) (old new : Assembly) (n : ℕ) → new ≡ with_place old n → AreMade ls (length old.places) → AreMade ls (length new.places)
made_placed ls old new n is made =
    subst (AreMade ls) (sym (ap (λ (a : Assembly). length a.places) is ∙ length-set old.places n (Some (word_count old.items)))) made
