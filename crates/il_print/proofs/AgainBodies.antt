-- Bodies of a canonical text.
use Rattle.std.proofs.Common.{◌≡◌, ℕ, zero, suc, ◌+◌, ◌<◌, ◌≤◌, ◌^◌, Bool, true, false, if◌then◌else◌, List, [], ◌∷◌, ◌++◌, length, map, Option, Some, None, option_to_list, refl, sym, ap, ◌∙◌, subst, codes, arith, Contains, bytes_eq}
use Rattle.std.specs.List.{AllByRecursion, IsDistinct}
use Rattle.std.proofs.lemmas.Bool.{true≢false, or_left, or_right}
use Rattle.type_tree.specs.declared.tree.TExpr.{TExpr}
use Rattle.il_model.specs.declared.op.Op.{Op}
use Rattle.il_model.specs.declared.member.MRef.{MRef}
use Rattle.il_model.specs.declared.method.PType.{PType}
use Rattle.il_model.specs.declared.method.Sort.{Sort}
use Rattle.il_model.specs.declared.method.Sort.TheVariants as sort
use Rattle.il_model.specs.declared.method.Clause.{Clause}
use Rattle.il_model.specs.declared.method.Body.{Body}
use Rattle.il_model.specs.declared.written.WrittenParam.{WrittenParam}
use Rattle.il_model.specs.declared.written.WrittenInstr.{WrittenInstr}
use Rattle.il_model.specs.declared.written.WrittenLine.{WrittenLine}
use Rattle.il_model.specs.declared.written.WrittenLine.TheVariants as line
use Rattle.il_model.specs.declared.written.WrittenClause.{WrittenClause}
use Rattle.il_model.specs.declared.written.WrittenBody.{WrittenBody}
use Rattle.il_model.specs.Lexemes.{Lexeme, name_at}
use Rattle.il_model.specs.Forms.{called_method, operand_kind}
use Rattle.il_model.specs.Ops.{method, form_of, operand_of}
use Rattle.il_model.specs.Types.{IsParam}
use Rattle.il_model.specs.Instructions.{IsLabel, label_name, IsInstr}
use Rattle.il_model.specs.Bodies.{IsEntry, no_entry, entry, AreLocals, no_locals, locals, quoted_before, AreLines, no_lines, labelled, instruction, range, IsClause, clause, IsBody, body}
use Rattle.il_model.specs.Bounds.{instrs_of}
use Rattle.il_model.specs.Names.{Scope, Each, end, both, NamesType, NamesParam, NamesParams}
use Rattle.il_model.specs.LookUp.{NamesLabel, labels_from, NamesInstr, NamesClause, NamesBody}
use Rattle.il_model.specs.Canonical.{Word, Printing, label_text, passing, is_named, targets_of, ends_of}
use Rattle.il_print.proofs.Keys.{key_of, quoted, label_key, keys_between, type_keys, param_keys, params_keys, op_keys, code_keys, locals_keys, clause_keys, clauses_keys, entry_keys, printing_of, body_keys}
use Rattle.il_print.proofs.AgainKeys.{keys_first, keys_split, keys_one, keys_none, is_quoted, is_name}
use Rattle.il_print.proofs.AgainScopes.{IsFair}
use Rattle.il_print.proofs.AgainTypes.{type_again}
use Rattle.il_print.proofs.AgainLists.{ItemAgain, Reads, separated_again, many_again, all_read, enclosed}
use Rattle.il_print.proofs.AgainParams.{param_again}
use Rattle.il_print.proofs.AgainMembers.{AreGenuine, genuine_front, genuine_back, genuine_rest}
use Rattle.il_print.proofs.AgainForms.{suits, form_written}
use Rattle.il_print.proofs.AgainOps.{IsLabelled, IsOwnCall, instr_again}
use Rattle.il_print.proofs.AgainInstrs.{instr_fits, form_has_text, IsReached, AreBefore, can_write}
use Rattle.il_print.proofs.AgainCalls.{own_call}
use Rattle.il_print.proofs.AgainLines.{marks_from, NoLabels, code_again}
use Rattle.il_print.proofs.AgainLabels.{passing_has, each_item, marks_have, marks_distinct}

caught : Sort → TExpr → TExpr
caught (sort.Catch t) other = t
caught sort.Finally other = other

is_catch : Sort → Bool
is_catch (sort.Catch t) = true
is_catch sort.Finally = false

-- ---- the instructions of a text

pub record IsSpelledInstr (i : WrittenInstr) : Type 0 where
  pub lexemes : List Lexeme
  pub is : IsInstr lexemes i
  pub genuine : AreGenuine lexemes

pub lines_spelled : (words : List Word) (ls : List Lexeme) (lines : List WrittenLine) → AreLines words ls lines → AreGenuine ls →
    AllByRecursion IsSpelledInstr (instrs_of lines)
lines_spelled words ls lines (no_lines q) genuine = tt
lines_spelled words ls lines (labelled q l colon rest more is same are) genuine = lines_spelled [] rest more are (genuine_rest colon rest (genuine_rest l (colon ∷ rest) genuine))
lines_spelled words ls lines (instruction q ws front back i more split is are) genuine =
    let whole = subst AreGenuine split genuine in
    (record { lexemes = front; is = is; genuine = genuine_front front back whole }, lines_spelled [] back more are (genuine_back front back whole))

-- the labels of a text stand before places up to the last
labels_before : (number : ℕ) (lines : List WrittenLine) → AreBefore (number + length (instrs_of lines)) (labels_from number lines)
labels_before number [] name to (k, inside, is) = absurd (omega (arith, inside))
labels_before number (line.Label l ∷ lines) name to (zero, inside, is) =
    let here : number ≡ to = ap (λ m. m.1) is in
    omega (arith, here)
labels_before number (line.Label l ∷ lines) name to (suc k, inside, is) = labels_before number lines name to (k, omega (arith, inside), is)
labels_before number (line.Instr i ∷ lines) name to c = omega (arith, labels_before (number + 1) lines name to c)

pub each_length : {A B : Type 0} (R : A → B → Type 0) (xs : List A) (ys : List B) → Each R xs ys → length xs ≡ length ys
each_length R xs ys end = refl
each_length R xs ys (both x y us vs is are) = ap suc (each_length R us vs are)

module _ (s : Scope) (fair : IsFair s) (p : Printing) (same : p.names ≡ s.names) (marks labels : List (List ℕ × ℕ)) (most : ℕ) (before : AreBefore most labels) where
  -- each instruction is read back
  code_reads : (written : List WrittenInstr) (ops : List Op) → Each (NamesInstr s p.literals labels) written ops → AllByRecursion IsSpelledInstr written →
      AllByRecursion (λ (op : Op). AllByRecursion (IsReached p marks most) (targets_of (operand_of op))) ops →
      AllByRecursion (Reads IsInstr (NamesInstr s p.literals marks) (op_keys p)) ops
  code_reads written ops end spelled reached = tt
  code_reads written ops (both i op ws rest is are) spelled reached =
      let own : (m : MRef) → operand_kind (form_of op) ≡ called_method → operand_of op ≡ method m → IsOwnCall s.names m =
      λ m called holds. own_call s fair p.literals labels spelled.0.lexemes i op m spelled.0.is spelled.0.genuine is called holds
      in (
        instr_again s fair p same marks op
            (can_write s p marks labels most before (operand_kind (form_of op)) (operand_of op) (suits op) i.operand is.operand
            (instr_fits spelled.0.lexemes i spelled.0.is spelled.0.genuine) reached.0 own)
            (form_has_text spelled.0.lexemes i spelled.0.is (form_of op) is.form) (form_written (form_of op)),
        code_reads ws rest are spelled.1 reached.1,
      )

  -- ---- clauses

  one_label : (to : ℕ) (l : Lexeme) → key_of l ≡ label_key p.places to → IsLabelled p marks to → IsLabel (l ∷ []) (name_at l) × NamesLabel marks (name_at l) to
  one_label to l is found =
      (label_name l (is_name [] (label_text p.places to) l is refl), subst (λ b. Contains marks (b, to)) (sym (ap (λ k. k.bytes) is)) found)

  clause_by_sort : (written : WrittenClause) (c : Clause) → NamesClause s labels written c → AllByRecursion (IsReached p marks most) (ends_of c) →
      (ls : List Lexeme) (found : Sort) → c.sort ≡ found → map key_of ls ≡ clause_keys p c found → ItemAgain IsClause (NamesClause s marks) ls c
  unfolding caught is_catch
  clause_by_sort written c names reached ls (sort.Catch t) is e =
      let e1 : map key_of ls ≡ quoted (codes ".try") ∷ label_key p.places c.from ∷ quoted (codes "to") ∷ label_key p.places c.to ∷ quoted (codes "catch") ∷
      type_keys s.names t ++ quoted (codes "handler") ∷ label_key p.places c.handler ∷ quoted (codes "to") ∷ label_key p.places c.end ∷ [] =
      e ∙ ap (λ names. clause_keys (record p { names = names }) c (sort.Catch t)) same
      in
      let word = keys_first ls (quoted (codes ".try")) _ e1 in
      let from = keys_first word.rest (label_key p.places c.from) _ word.are in
      let to1 = keys_first from.rest (quoted (codes "to")) _ from.are in
      let to = keys_first to1.rest (label_key p.places c.to) _ to1.are in
      let catch = keys_first to.rest (quoted (codes "catch")) _ to.are in
      let split = keys_split catch.rest (type_keys s.names t) (quoted (codes "handler") ∷ label_key p.places c.handler ∷ quoted (codes "to") ∷ label_key p.places c.end ∷ []) catch.are in
      let handler = keys_first split.back (quoted (codes "handler")) _ split.second in
      let start = keys_first handler.rest (label_key p.places c.handler) _ handler.are in
      let to2 = keys_first start.rest (quoted (codes "to")) _ start.are in
      let last = keys_one to2.rest (label_key p.places c.end) to2.are in
      let kind : NamesType s written.catches t = subst (NamesType s written.catches) (ap (λ x. caught x t) (sym names.sort ∙ is)) names.kind in
      let a = type_again s fair written.catches t kind [] refl split.front split.first in
      let l_from = one_label c.from from.lexeme from.is (reached.0 (before written.from.name c.from names.from)) in
      let l_to = one_label c.to to.lexeme to.is (reached.1.0 (before written.to.name c.to names.to)) in
      let l_start = one_label c.handler start.lexeme start.is (reached.1.1.0 (before written.handler.name c.handler names.handler)) in
      let l_end = one_label c.end last.lexeme last.is (reached.1.1.1.0 (before written.end.name c.end names.end)) in
      let tried = from.lexeme ∷ to1.lexeme ∷ to.lexeme ∷ [] in
      let handled = start.lexeme ∷ to2.lexeme ∷ last.lexeme ∷ [] in
      let spelled : ls ≡ word.lexeme ∷ tried ++ catch.lexeme ∷ split.front ++ handler.lexeme ∷ handled =
      word.split ∙ ap (λ z. word.lexeme ∷ z) (from.split ∙ ap (λ z. from.lexeme ∷ z) (to1.split ∙ ap (λ z. to1.lexeme ∷ z) (to.split ∙ ap (λ z. to.lexeme ∷ z)
      (catch.split ∙ ap (λ z. catch.lexeme ∷ z) (split.split ∙ ap (λ z. split.front ++ z) (handler.split ∙ ap (λ z. handler.lexeme ∷ z)
      (start.split ∙ ap (λ z. start.lexeme ∷ z) (to2.split ∙ ap (λ z. to2.lexeme ∷ z) last.split))))))))
      in
      record {
        item = record { from = name_at from.lexeme; to = name_at to.lexeme; catches = a.type; handler = name_at start.lexeme; end = name_at last.lexeme };
        is = clause ls tried split.front handled word.lexeme catch.lexeme handler.lexeme (name_at from.lexeme) (name_at to.lexeme) (name_at start.lexeme) (name_at last.lexeme) a.type
            spelled (is_quoted (codes ".try") word.lexeme word.is)
            (range tried (from.lexeme ∷ []) (to.lexeme ∷ []) to1.lexeme (name_at from.lexeme) (name_at to.lexeme) refl l_from.0 (is_quoted (codes "to") to1.lexeme to1.is) l_to.0)
            (is_quoted (codes "catch") catch.lexeme catch.is) a.is (is_quoted (codes "handler") handler.lexeme handler.is)
            (range handled (start.lexeme ∷ []) (last.lexeme ∷ []) to2.lexeme (name_at start.lexeme) (name_at last.lexeme) refl l_start.0 (is_quoted (codes "to") to2.lexeme to2.is) l_end.0);
        names = record { from = l_from.1; to = l_to.1; catches = t; sort = is; kind = a.names; handler = l_start.1; end = l_end.1 };
      }
  clause_by_sort written c names reached ls sort.Finally is e = absurd (true≢false (ap is_catch (sym names.sort ∙ is)))

  clause_again : (written : WrittenClause) (c : Clause) → NamesClause s labels written c → AllByRecursion (IsReached p marks most) (ends_of c) →
      Reads IsClause (NamesClause s marks) (λ x. clause_keys p x x.sort) c
  clause_again written c names reached ls e = clause_by_sort written c names reached ls c.sort refl e

  clauses_read : (written : List WrittenClause) (cs : List Clause) → Each (NamesClause s labels) written cs →
      AllByRecursion (λ (c : Clause). AllByRecursion (IsReached p marks most) (ends_of c)) cs → AllByRecursion (Reads IsClause (NamesClause s marks) (λ x. clause_keys p x x.sort)) cs
  clauses_read written cs end reached = tt
  clauses_read written cs (both w c ws rest is are) reached = (clause_again w c is reached.0, clauses_read ws rest are reached.1)

-- ---- locals and the entry point

record LocalsAgain (s : Scope) (ls : List Lexeme) (ps : List PType) : Type 0 where
  locals : List WrittenParam
  are : AreLocals ls locals
  names : NamesParams s locals ps

locals_again : (s : Scope) → IsFair s → (written : List WrittenParam) (ps : List PType) → NamesParams s written ps → (ls : List Lexeme) →
    map key_of ls ≡ locals_keys s.names ps → LocalsAgain s ls ps
locals_again s fair written [] named ls e = record { locals = []; are = subst (λ z. AreLocals z []) (sym (keys_none ls e)) no_locals; names = end }
locals_again s fair written (first ∷ rest) named ls e =
    let word = keys_first ls (quoted (codes ".locals")) (quoted (codes "init") ∷ params_keys s.names (first ∷ rest)) e in
    let init = keys_first word.rest (quoted (codes "init")) (params_keys s.names (first ∷ rest)) word.are in
    let c = enclosed (codes "(") (codes ")") (keys_between (codes ",") (map (param_keys s.names) (first ∷ rest))) init.rest init.are in
    let all = all_read IsParam (NamesParam s) (param_keys s.names) (NamesParam s) (param_again s fair) written (first ∷ rest) named in
    let r = separated_again IsParam (NamesParam s) (param_keys s.names) (codes ",") first rest all.0 all.1 c.inner c.are in
    record {
      locals = r.first ∷ r.rest;
      are = locals ls c.inner word.lexeme init.lexeme c.left c.right r.first r.rest (word.split ∙ ap (λ z. word.lexeme ∷ z) (init.split ∙ ap (λ z. init.lexeme ∷ z) c.split))
          (is_quoted (codes ".locals") word.lexeme word.is) (is_quoted (codes "init") init.lexeme init.is) c.opens r.are c.closes;
      names = r.names;
    }

record EntryAgain (is_entry : Bool) (ls : List Lexeme) : Type 0 where
  at : Option ℕ
  is : IsEntry ls at
  entries : (number : ℕ) → map (λ (x : ℕ). number) (option_to_list at) ≡ (if is_entry then number ∷ [] else [])

entry_again : (is_entry : Bool) (ls : List Lexeme) → map key_of ls ≡ entry_keys is_entry → EntryAgain is_entry ls
entry_again true ls e =
    let one = keys_one ls (quoted (codes ".entrypoint")) e in
    record {
      at = Some one.lexeme.at;
      is = subst (λ z. IsEntry z (Some one.lexeme.at)) (sym one.split) (entry one.lexeme (is_quoted (codes ".entrypoint") one.lexeme one.is));
      entries = λ number. refl;
    }
entry_again false ls e = record { at = None; is = subst (λ z. IsEntry z None) (sym (keys_none ls e)) no_entry; entries = λ number. refl }

no_labels_before : (at : Option ℕ) (locals : List WrittenParam) → NoLabels (quoted_before at locals)
no_labels_before at (p ∷ ps) number = refl
no_labels_before None [] number = refl
no_labels_before (Some at) [] number = refl

-- ---- bodies

passing_short : (test : ℕ → Bool) (count from : ℕ) → length (passing test count from) ≤ count
passing_short test zero from = omega arith
passing_short test (suc count) from = with_first (test from) (passing_short test count (from + 1)) where
  with_first : (b : Bool) → length (passing test count (from + 1)) ≤ count →
      length (if b then from ∷ passing test count (from + 1) else passing test count (from + 1)) ≤ suc count
  with_first true short = omega (arith, short)
  with_first false short = omega (arith, short)

-- a body that the lexemes spell, for the body that was printed
pub record BodyAgain (s : Scope) (literals : List (List ℕ)) (is_entry : Bool) (ls : List Lexeme) (b : Body) : Type 0 where
  pub body : WrittenBody
  pub is : IsBody ls body
  pub names : NamesBody s literals body b
  pub entries : (number : ℕ) → map (λ (x : ℕ). number) (option_to_list body.entry) ≡ (if is_entry then number ∷ [] else [])

body_spelled : (ls : List Lexeme) (written : WrittenBody) → IsBody ls written → AreGenuine ls → AllByRecursion IsSpelledInstr (instrs_of written.lines)
body_spelled ls written (body ws first second third fourth at ps lines cs split is_first is_second is_third is_fourth) genuine =
    lines_spelled (quoted_before at ps) third lines is_third (genuine_back (first ++ second) third (genuine_front (first ++ second ++ third) fourth (subst AreGenuine split genuine)))

pub body_again : (s : Scope) → IsFair s → (literals : List (List ℕ)) (is_entry : Bool) (lexemes : List Lexeme) (written : WrittenBody) (b : Body) → IsBody lexemes written →
    AreGenuine lexemes → NamesBody s literals written b → length (instrs_of written.lines) ≤ 16384 → (ls : List Lexeme) →
    map key_of ls ≡ body_keys s.names literals is_entry b → BodyAgain s literals is_entry ls b
body_again s fair literals is_entry lexemes written b is genuine names small ls e =
    let p = printing_of s.names literals b in
    let size : length (instrs_of written.lines) ≡ length b.code = each_length _ (instrs_of written.lines) b.code names.code in
    let labels = labels_from 0 written.lines in
    let marks = marks_from p 0 b.code in
    let before : AreBefore (length b.code) labels = λ name to c. omega (arith, labels_before 0 written.lines name to c, size) in
    let reached : (to : ℕ) → is_named b to ≡ true → IsReached p marks (length b.code) to =
    λ to named high. marks_have p b.code 0 to (omega arith) (omega (arith, high)) (passing_has (is_named b) (length b.code + 1) 0 to (omega arith) (omega (arith, high)) named)
    in
    let in_code = each_item (IsReached p marks (length b.code)) (λ op. targets_of (operand_of op)) b.code (λ to has. reached to (or_left _ _ has)) in
    let in_clauses = each_item (IsReached p marks (length b.code)) ends_of b.clauses (λ to has. reached to (or_right _ _ has)) in
    let few : length p.places < 2 ^ 64 = omega (arith, passing_short (is_named b) (length b.code + 1) 0, size, small) in
    let s1 = keys_split ls (entry_keys is_entry ++ locals_keys s.names b.locals ++ code_keys p 0 b.code) (clauses_keys p b.clauses) e in
    let s2 = keys_split s1.front (entry_keys is_entry ++ locals_keys s.names b.locals) (code_keys p 0 b.code) s1.first in
    let s3 = keys_split s2.front (entry_keys is_entry) (locals_keys s.names b.locals) s2.first in
    let first = entry_again is_entry s3.front s3.first in
    let second = locals_again s fair written.locals b.locals names.locals s3.back s3.second in
    let reads = code_reads s fair p refl marks labels (length b.code) before (instrs_of written.lines) b.code names.code (body_spelled lexemes written is genuine) in_code in
    let third = code_again s p marks 0 b.code reads (quoted_before first.at second.locals) (no_labels_before first.at second.locals) s2.back s2.second in
    let read_clauses = clauses_read s fair p refl marks labels (length b.code) before written.clauses b.clauses names.clauses in_clauses in
    let fourth = many_again IsClause (NamesClause s marks) (λ x. clause_keys p x x.sort) b.clauses read_clauses s1.back s1.second in
    let spelled : ls ≡ s3.front ++ s3.back ++ s2.back ++ s1.back = s1.split ∙ ap (λ z. z ++ s1.back) (s2.split ∙ ap (λ z. z ++ s2.back) s3.split) in
    let at_marks : marks ≡ labels_from 0 third.lines = sym third.marks_are in
    record {
      body = record { entry = first.at; locals = second.locals; lines = third.lines; clauses = fourth.items };
      is = body ls s3.front s3.back s2.back s1.back first.at second.locals third.lines fourth.items spelled first.is second.are third.are fourth.are;
      names = record {
        distinct = subst (λ ms. IsDistinct bytes_eq (map (λ (m : List ℕ × ℕ). m.0) ms)) at_marks (marks_distinct p b.code 0 few);
        locals = second.names;
        code = subst (λ ms. Each (NamesInstr s literals ms) (instrs_of third.lines) b.code) at_marks third.code;
        clauses = subst (λ ms. Each (NamesClause s ms) fourth.items b.clauses) at_marks fourth.names;
      };
      entries = first.entries;
    }
