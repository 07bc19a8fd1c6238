-- Entries collected one by one are the list with each once.
use Rattle.std.proofs.Common.{◌≡◌, ◌∙◌, ℕ, suc, ◌+◌, ◌-◌, ◌<◌, Bool, true, false, cond, flat_map, Some, None, Option, option_to_list, arith, List, [], ◌∷◌, ◌++◌, fold, sym, ap, refl}
use Rattle.std.proofs.lemmas.List.{append_assoc}
use Rattle.std.proofs.lemmas.List.Sums.{fold-append}
use Rattle.il_model.specs.declared.entry.Entry.{Entry}
use Rattle.il_model.specs.declared.entry.Entry.TheVariants as entry
use Rattle.il_model.specs.declared.entry.Def.TheVariants as def
use Rattle.il_model.specs.declared.op.Op.{Op}
use Rattle.il_model.specs.declared.method.Clause.{Clause}
use Rattle.il_model.specs.declared.method.Body.{Body}
use Rattle.il_model.specs.declared.method.MethodDef.{MethodDef}
use Rattle.il_model.specs.declared.program.Program.{Program}
use Rattle.il_model.specs.Found.{method_at}
use Rattle.il_model.specs.Entries.{is_listed, once, slots_from, entries_of, clause_entries, mentions_of, mentions_of_method, template_of}
use Rattle.rgctx_template.specs.Collected.{added, collected}

append_none : (xs : List Entry) → xs ++ [] ≡ xs
append_none [] = refl
append_none (x ∷ xs) = ap (λ (ys : List Entry). x ∷ ys) (append_none xs)

-- the entries collected are those listed and then the others, each at its first place
pub collected_once : (listed es : List Entry) → collected listed es ≡ listed ++ once listed es
collected_once listed [] = sym (append_none listed)
collected_once listed (e ∷ es) =
    elim (is_listed listed e) as (λ (b : Bool). is_listed listed e ≡ b → fold added (cond b listed (listed ++ e ∷ [])) es ≡ listed ++ cond b (once listed es) (e ∷ once (listed ++ e ∷ []) es)) [
      | true ↦ (λ is. collected_once listed es)
      | false ↦ (λ is. collected_once (listed ++ e ∷ []) es ∙ append_assoc listed (e ∷ []) (once (listed ++ e ∷ []) es))
    ] refl

pub collected_all : (es : List Entry) → collected [] es ≡ once [] es
collected_all es = collected_once [] es

-- collecting two lists is collecting the one and then the other
pub collected_both : (listed es fs : List Entry) → collected (collected listed es) fs ≡ collected listed (es ++ fs)
collected_both listed es fs = sym (fold-append added listed es fs)

-- the slots from a number on are its own and those from the next one on
pub slots_step : (n count : ℕ) → n < count → slots_from n (count - n) ≡ entry.Slot n ∷ slots_from (n + 1) (count - (n + 1))
slots_step n count below =
    let left : count - n ≡ suc (count - (n + 1)) = omega arith in
    let next : suc n ≡ n + 1 = omega arith in
    ap (λ (k : ℕ). slots_from n k) left ∙ ap (λ (m : ℕ). entry.Slot n ∷ slots_from m (count - (n + 1))) next

-- one more slot
pub slots_next : (n count : ℕ) (es now : List Entry) → n < count → now ≡ es ++ entry.Slot n ∷ [] → es ++ slots_from n (count - n) ≡ slots_from 0 count →
    now ++ slots_from (n + 1) (count - (n + 1)) ≡ slots_from 0 count
slots_next n count es now below pushed whole =
    ap (λ (xs : List Entry). xs ++ slots_from (n + 1) (count - (n + 1))) pushed
    ∙ append_assoc es (entry.Slot n ∷ []) (slots_from (n + 1) (count - (n + 1)))
    ∙ ap (λ (xs : List Entry). es ++ xs) (sym (slots_step n count below))
    ∙ whole

-- the template of a method with this body
pub template_of_body_is : (program : Program) (number : ℕ) (m : MethodDef) (b : Body) → method_at program number ≡ Some m → m.body ≡ Some b →
    template_of program (def.Method number) ≡ once [] (mentions_of program b)
template_of_body_is program number m b is has =
    ap (λ (o : Option MethodDef). once [] (flat_map (mentions_of_method program) (option_to_list o))) is
    ∙ ap (λ (o : Option Body). once [] (flat_map (mentions_of program) (option_to_list o) ++ [])) has
    ∙ ap (λ (es : List Entry). once [] es) (append_none (mentions_of program b ++ []) ∙ append_none (mentions_of program b))

pub template_without_body : (program : Program) (number : ℕ) (m : MethodDef) → method_at program number ≡ Some m → m.body ≡ None →
    template_of program (def.Method number) ≡ []
template_without_body program number m is none =
    ap (λ (o : Option MethodDef). once [] (flat_map (mentions_of_method program) (option_to_list o))) is
    ∙ ap (λ (o : Option Body). once [] (flat_map (mentions_of program) (option_to_list o) ++ [])) none

pub template_of_none : (program : Program) (number : ℕ) → method_at program number ≡ None → template_of program (def.Method number) ≡ []
template_of_none program number is = ap (λ (o : Option MethodDef). once [] (flat_map (mentions_of_method program) (option_to_list o))) is

-- what is collected from the code and then from the clauses is the template of the body
pub body_collected : (program : Program) (b : Body) (none first last : List Entry) (code : List Op) (clauses : List Clause) → none ≡ [] → code ≡ b.code → clauses ≡ b.clauses →
    first ≡ collected none (flat_map (entries_of program) code) → last ≡ collected first (flat_map clause_entries clauses) → last ≡ once [] (mentions_of program b)
body_collected program b none first last code clauses empty is_code are_clauses then_first then_last =
    then_last
    ∙ ap (λ (p : List Entry × List Clause). collected p.0 (flat_map clause_entries p.1)) (λ k. (then_first k, are_clauses k))
    ∙ ap (λ (p : List Entry × List Op). collected (collected p.0 (flat_map (entries_of program) p.1)) (flat_map clause_entries b.clauses)) (λ k. (empty k, is_code k))
    ∙ collected_both [] (flat_map (entries_of program) b.code) (flat_map clause_entries b.clauses)
    ∙ collected_all (mentions_of program b)
