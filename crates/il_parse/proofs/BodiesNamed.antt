-- Instructions and bodies stand for just what their look-up finds.
use Rattle.std.proofs.Common.{◌≡◌, ℕ, ◌+◌, Bool, true, false, ◌&&◌, List, [], ◌∷◌, ◌++◌, map, flat_map, Option, Some, None, is_some, Ok, refl, sym, ap, subst, ◌∙◌, append_assoc, append-nil, bytes_eq, inl, inr}
use Rattle.std.specs.List.{AllByRecursion, IsDistinct}
use Rattle.std.proofs.lemmas.Bool.{cases_Bool}
use Rattle.il_model.specs.declared.method.Sort.{Sort}
use Rattle.il_model.specs.declared.method.Sort.TheVariants as sort
use Rattle.il_model.specs.declared.method.Clause.{Clause}
use Rattle.il_model.specs.declared.method.Body.{Body}
use Rattle.il_model.specs.declared.op.Op.{Op}
use Rattle.il_model.specs.declared.form.Form.{Form}
use Rattle.il_model.specs.declared.written.WrittenOperand.{WrittenOperand}
use Rattle.il_model.specs.declared.written.WrittenOperand.TheVariants as operand
use Rattle.il_model.specs.declared.written.WrittenInstr.{WrittenInstr}
use Rattle.il_model.specs.declared.written.WrittenLine.{WrittenLine}
use Rattle.il_model.specs.declared.written.WrittenLine.TheVariants as line
use Rattle.il_model.specs.declared.written.WrittenClause.{WrittenClause}
use Rattle.il_model.specs.declared.written.WrittenBody.{WrittenBody}
use Rattle.il_model.specs.Lexemes.{is_among}
use Rattle.il_model.specs.Bounds.{instrs_of}
use Rattle.il_model.specs.Names.{Scope, Each, end, both, place_of}
use Rattle.il_model.specs.LookUp.{labels_from, NamesLabel, NamesOperand, names_nothing, names_int32, names_int64, names_literal, names_place, names_target, names_targets, names_type, names_method, names_field, names_constrained, NamesInstr, NamesClause, NamesBody, texts_of}
use Rattle.il_model.specs.Ops.{Operand, nothing, int32, int64, place, target, targets, type, method, field, constrained, operand_of}
use Rattle.il_parse.specs.Looking.{each_of}
use Rattle.il_parse.specs.NamedTypes.{type_named, params_named, method_ref_named, field_ref_named}
use Rattle.il_parse.specs.NamedOps.{op_of}
use Rattle.il_parse.specs.NamedBodies.{label_named, literal_or_first, operand_named, op_or_stuck, instr_named, lines_named, clause_named, entry_once, body_named}
use Rattle.il_parse.proofs.FreshLists.{Fresh, fresh_distinct, distinct_fresh, all_split}
use Rattle.il_parse.proofs.PairedLists.{each_first, each_none}
use Rattle.il_parse.proofs.LookSteps.{refused, given, looked, by_look, each_of_sound, each_of_complete}
use Rattle.il_parse.proofs.TypesNamed.{type_sound, type_complete}
use Rattle.il_parse.proofs.MembersNamed.{params_sound, params_complete, method_ref_sound, method_ref_complete, field_ref_sound, field_ref_complete}
use Rattle.il_parse.proofs.OpsNamed.{op_made, op_remade}
use Rattle.il_parse.proofs.PlacesNamed.{label_sound, label_complete, Literal, literal_sound, literal_complete}

-- each of these texts is a literal
abbrev pub AreLiterals : List (List ℕ) → List (List ℕ) → Type 0
AreLiterals literals texts = AllByRecursion (λ t. is_among literals t ≡ true) texts

module _ (s : Scope) (literals : List (List ℕ)) (labels : List (List ℕ × ℕ)) where
  text_sound : (bytes : List ℕ) (o : Operand) → Literal literals bytes → literal_or_first (place_of literals bytes) ≡ o →
      NamesOperand s literals labels (operand.Text bytes) o
  text_sound bytes o l e =
      subst (NamesOperand s literals labels (operand.Text bytes)) (ap literal_or_first (sym l.place) ∙ e) (names_literal bytes l.number l.at)

  operand_sound : (written : WrittenOperand) (o : Operand) → AreLiterals literals (texts_of written) → operand_named s literals labels written ≡ Ok o →
      NamesOperand s literals labels written o
  unfolding operand_named
  operand_sound operand.Nothing o texts e = subst (NamesOperand s literals labels operand.Nothing) (given nothing o e) names_nothing
  operand_sound (operand.Int32 n) o texts e = subst (NamesOperand s literals labels (operand.Int32 n)) (given (int32 n) o e) (names_int32 n)
  operand_sound (operand.Int64 n) o texts e = subst (NamesOperand s literals labels (operand.Int64 n)) (given (int64 n) o e) (names_int64 n)
  operand_sound (operand.Text bytes) o texts e =
      text_sound bytes o (literal_sound literals bytes texts.0) (given (literal_or_first (place_of literals bytes)) o e)
  operand_sound (operand.Place n) o texts e = subst (NamesOperand s literals labels (operand.Place n)) (given (place n) o e) (names_place n)
  operand_sound (operand.Label to) o texts e =
      looked (label_named labels to) _ o e (λ n e0 e1.
      subst (NamesOperand s literals labels (operand.Label to)) (given (target n) o e1) (names_target to n (label_sound labels to n e0)))
  operand_sound (operand.Labels to) o texts e =
      looked (each_of (label_named labels) to) _ o e (λ ns e0 e1.
      subst (NamesOperand s literals labels (operand.Labels to)) (given (targets ns) o e1)
      (names_targets to ns (each_of_sound (NamesLabel labels) (label_named labels) (label_sound labels) to ns e0)))
  operand_sound (operand.Type written) o texts e =
      looked (type_named s written) _ o e (λ t e0 e1.
      subst (NamesOperand s literals labels (operand.Type written)) (given (type t) o e1) (names_type written t (type_sound s written t e0)))
  operand_sound (operand.Method written) o texts e =
      looked (method_ref_named s written) _ o e (λ m e0 e1.
      subst (NamesOperand s literals labels (operand.Method written)) (given (method m) o e1) (names_method written m (method_ref_sound s written m e0)))
  operand_sound (operand.Field written) o texts e =
      looked (field_ref_named s written) _ o e (λ f e0 e1.
      subst (NamesOperand s literals labels (operand.Field written)) (given (field f) o e1) (names_field written f (field_ref_sound s written f e0)))
  operand_sound (operand.Constrained written called) o texts e =
      looked (type_named s written) _ o e (λ t e0 f0.
      looked (method_ref_named s called) _ o f0 (λ m e1 f1.
      subst (NamesOperand s literals labels (operand.Constrained written called)) (given (constrained t m) o f1)
      (names_constrained written called t m (type_sound s written t e0) (method_ref_sound s called m e1))))

  made_of : (o : Option Op) (at : ℕ) (op : Op) → op_or_stuck o at ≡ Ok op → o ≡ Some op
  made_of (Some x) at op e = ap Some (given x op e)
  made_of None at op e = refused _ op e

  instr_sound : (i : WrittenInstr) (op : Op) → AreLiterals literals (texts_of i.operand) → instr_named s literals labels i ≡ Ok op →
      NamesInstr s literals labels i op
  unfolding instr_named
  instr_sound i op texts e =
      looked (operand_named s literals labels i.operand) _ op e (λ o e0 e1.
      let m = op_made i.form o op (made_of (op_of i.form o) i.at op e1) in
      record { form = m.form; operand = subst (NamesOperand s literals labels i.operand) (sym m.operand) (operand_sound i.operand o texts e0) })

  clause_sound : (c : WrittenClause) (d : Clause) → clause_named s labels c ≡ Ok d → NamesClause s labels c d
  unfolding clause_named
  clause_sound c d e =
      looked (label_named labels c.from) _ d e (λ from e0 f0.
      looked (label_named labels c.to) _ d f0 (λ to e1 f1.
      looked (type_named s c.catches) _ d f1 (λ t e2 f2.
      looked (label_named labels c.handler) _ d f2 (λ handler e3 f3.
      looked (label_named labels c.end) _ d f3 (λ last e4 f4.
      subst (NamesClause s labels c) (given (record { from = from; to = to; sort = sort.Catch t; handler = handler; end = last }) d f4) (record {
        from = label_sound labels c.from from e0;
        to = label_sound labels c.to to e1;
        catches = t;
        sort = refl;
        kind = type_sound s c.catches t e2;
        handler = label_sound labels c.handler handler e3;
        end = label_sound labels c.end last e4;
      }))))))

  -- the other way, where literals and labels differ from each other
  module _ (one : IsDistinct bytes_eq literals) (distinct : IsDistinct bytes_eq (map (λ l. l.0) labels)) where
    operand_complete : (written : WrittenOperand) (o : Operand) → NamesOperand s literals labels written o → operand_named s literals labels written ≡ Ok o
    unfolding operand_named
    operand_complete written o names_nothing = refl
    operand_complete written o (names_int32 n) = refl
    operand_complete written o (names_int64 n) = refl
    operand_complete written o (names_literal bytes number at) = ap (λ p. Ok (literal_or_first p)) (literal_complete literals number bytes one at)
    operand_complete written o (names_place number) = refl
    operand_complete written o (names_target l to is) = by_look (label_named labels l) _ (Ok (target to)) to (label_complete labels distinct l to is) refl
    operand_complete written o (names_targets ls to are) =
        by_look (each_of (label_named labels) ls) _ (Ok (targets to)) to
        (each_of_complete (NamesLabel labels) (label_named labels) (label_complete labels distinct) ls to are) refl
    operand_complete written o (names_type v t is) = by_look (type_named s v) _ (Ok (type t)) t (type_complete s v t is) refl
    operand_complete written o (names_method v m is) = by_look (method_ref_named s v) _ (Ok (method m)) m (method_ref_complete s v m is) refl
    operand_complete written o (names_field v f is) = by_look (field_ref_named s v) _ (Ok (field f)) f (field_ref_complete s v f is) refl
    operand_complete written o (names_constrained v named t m is called) =
        by_look (type_named s v) _ (Ok (constrained t m)) t (type_complete s v t is)
        (by_look (method_ref_named s named) _ (Ok (constrained t m)) m (method_ref_complete s named m called) refl)

    instr_complete : (i : WrittenInstr) (op : Op) → NamesInstr s literals labels i op → instr_named s literals labels i ≡ Ok op
    unfolding instr_named
    instr_complete i op names =
        by_look (operand_named s literals labels i.operand) _ (Ok op) (operand_of op) (operand_complete i.operand (operand_of op) names.operand)
        (ap (λ (f : Form). op_or_stuck (op_of f (operand_of op)) i.at) (sym names.form) ∙ ap (λ o. op_or_stuck o i.at) (op_remade op))

    clause_complete : (c : WrittenClause) (d : Clause) → NamesClause s labels c d → clause_named s labels c ≡ Ok d
    unfolding clause_named
    clause_complete c d names =
        by_look (label_named labels c.from) _ (Ok d) d.from (label_complete labels distinct c.from d.from names.from)
        (by_look (label_named labels c.to) _ (Ok d) d.to (label_complete labels distinct c.to d.to names.to)
        (by_look (type_named s c.catches) _ (Ok d) names.catches (type_complete s c.catches names.catches names.kind)
        (by_look (label_named labels c.handler) _ (Ok d) d.handler (label_complete labels distinct c.handler d.handler names.handler)
        (by_look (label_named labels c.end) _ (Ok d) d.end (label_complete labels distinct c.end d.end names.end)
        (ap (λ (x : Sort). Ok (record { from = d.from; to = d.to; sort = x; handler = d.handler; end = d.end })) (sym names.sort))))))

-- the labels of lines
abbrev names_of_labels : ℕ → List WrittenLine → List (List ℕ)
names_of_labels number lines = map (λ l. l.0) (labels_from number lines)

-- instructions that were found behind those found before, among labels that were not met
record Lines (s : Scope) (literals : List (List ℕ)) (labels : List (List ℕ × ℕ)) (number : ℕ) (met : List (List ℕ)) (found : List Op) (lines : List WrittenLine) (code : List Op) : Type 0 where
  items : List Op
  all : code ≡ found ++ items
  are : Each (NamesInstr s literals labels) (instrs_of lines) items
  fresh : Fresh bytes_eq met (names_of_labels number lines)

lines_sound : (s : Scope) (literals : List (List ℕ)) (labels : List (List ℕ × ℕ)) (number : ℕ) (met : List (List ℕ)) (found : List Op) (lines : List WrittenLine) (code : List Op) →
    AreLiterals literals (flat_map (λ i. texts_of i.operand) (instrs_of lines)) → lines_named s literals labels met found lines ≡ Ok code →
    Lines s literals labels number met found lines code
unfolding lines_named
lines_sound s literals labels number met found [] code texts e =
    record { items = []; all = sym (given found code e) ∙ sym (append-nil found); are = end; fresh = tt }
lines_sound s literals labels number met found (line.Label l ∷ lines) code texts e =
    elim (cases_Bool (is_among met l.name)) [
      | inl hit ↦ refused _ code (rw hit at e)
      | inr miss ↦
          let r = lines_sound s literals labels number (l.name ∷ met) found lines code texts (rw miss at e) in
          record { items = r.items; all = r.all; are = r.are; fresh = (miss, r.fresh) }
    ]
lines_sound s literals labels number met found (line.Instr i ∷ lines) code texts e =
    let t = all_split (λ t. is_among literals t ≡ true) (texts_of i.operand) (flat_map (λ i. texts_of i.operand) (instrs_of lines)) texts in
    looked (instr_named s literals labels i) _ code e (λ op e0 e1.
    let r = lines_sound s literals labels (number + 1) met (found ++ op ∷ []) lines code t.1 e1 in
    record {
      items = op ∷ r.items;
      all = r.all ∙ append_assoc found (op ∷ []) r.items;
      are = both i op (instrs_of lines) r.items (instr_sound s literals labels i op t.0 e0) r.are;
      fresh = r.fresh;
    })

lines_complete : (s : Scope) (literals : List (List ℕ)) (labels : List (List ℕ × ℕ)) → IsDistinct bytes_eq literals → IsDistinct bytes_eq (map (λ l. l.0) labels) →
    (number : ℕ) (met : List (List ℕ)) (found : List Op) (lines : List WrittenLine) (code : List Op) → Fresh bytes_eq met (names_of_labels number lines) →
    Each (NamesInstr s literals labels) (instrs_of lines) code → lines_named s literals labels met found lines ≡ Ok (found ++ code)
unfolding lines_named
lines_complete s literals labels one distinct number met found [] code fresh are =
    ap Ok (sym (append-nil found)) ∙ ap (λ c. Ok (found ++ c)) (sym (each_none (NamesInstr s literals labels) code are))
lines_complete s literals labels one distinct number met found (line.Label l ∷ lines) code fresh are =
    rw fresh.0 (lines_complete s literals labels one distinct number (l.name ∷ met) found lines code fresh.1 are)
lines_complete s literals labels one distinct number met found (line.Instr i ∷ lines) code fresh are =
    let r = each_first (NamesInstr s literals labels) i (instrs_of lines) code are in
    by_look (instr_named s literals labels i) _ (Ok (found ++ code)) r.first (instr_complete s literals labels one distinct i r.first r.is)
    (lines_complete s literals labels one distinct (number + 1) met (found ++ r.first ∷ []) lines r.rest fresh r.are
    ∙ ap Ok (append_assoc found (r.first ∷ []) r.rest) ∙ ap (λ c. Ok (found ++ c)) (sym r.split))

-- an entry point stands only where none was met
pub entry_sound : (begun : Bool) (entry : Option ℕ) (u : Unit {0}) → entry_once begun entry ≡ Ok u → (begun && is_some entry) ≡ false
entry_sound true None u e = refl
entry_sound false None u e = refl
entry_sound true (Some at) u e = refused _ u e
entry_sound false (Some at) u e = refl

pub entry_complete : (begun : Bool) (entry : Option ℕ) → (begun && is_some entry) ≡ false → entry_once begun entry ≡ Ok tt
entry_complete true None e = refl
entry_complete false None e = refl
entry_complete true (Some at) e = cc
entry_complete false (Some at) e = refl

abbrev pub texts_of_body : WrittenBody → List (List ℕ)
texts_of_body b = flat_map (λ i. texts_of i.operand) (instrs_of b.lines)

-- a body whose entry point stands only where none was met
pub record BodyNamed (s : Scope) (literals : List (List ℕ)) (begun : Bool) (b : WrittenBody) (d : Body) : Type 0 where
  pub once : (begun && is_some b.entry) ≡ false
  pub is : NamesBody s literals b d

pub body_sound : (s : Scope) (literals : List (List ℕ)) (begun : Bool) (b : WrittenBody) (d : Body) → AreLiterals literals (texts_of_body b) →
    body_named s literals begun b ≡ Ok d → BodyNamed s literals begun b d
unfolding body_named
body_sound s literals begun b d texts e =
    let labels : List (List ℕ × ℕ) = labels_from 0 b.lines in
    looked (entry_once begun b.entry) _ d e (λ u e0 f0.
    looked (params_named s b.locals) _ d f0 (λ locals e1 f1.
    looked (lines_named s literals labels [] [] b.lines) _ d f1 (λ code e2 f2.
    looked (each_of (clause_named s labels) b.clauses) _ d f2 (λ clauses e3 f3.
    let r = lines_sound s literals labels 0 [] [] b.lines code texts e2 in
    subst (BodyNamed s literals begun b) (given (record { locals = locals; code = code; clauses = clauses }) d f3) (record {
      once = entry_sound begun b.entry u e0;
      is = record {
        distinct = fresh_distinct bytes_eq [] (map (λ l. l.0) labels) r.fresh;
        locals = params_sound s b.locals locals e1;
        code = subst (Each (NamesInstr s literals labels) (instrs_of b.lines)) (sym r.all) r.are;
        clauses = each_of_sound (NamesClause s labels) (clause_named s labels) (clause_sound s literals labels) b.clauses clauses e3;
      };
    })))))

pub body_complete : (s : Scope) (literals : List (List ℕ)) (begun : Bool) (b : WrittenBody) (d : Body) → IsDistinct bytes_eq literals →
    BodyNamed s literals begun b d → body_named s literals begun b ≡ Ok d
unfolding body_named
body_complete s literals begun b d one names =
    let labels : List (List ℕ × ℕ) = labels_from 0 b.lines in
    let n = names.is in
    by_look (entry_once begun b.entry) _ (Ok d) tt (entry_complete begun b.entry names.once)
    (by_look (params_named s b.locals) _ (Ok d) d.locals (params_complete s b.locals d.locals n.locals)
    (by_look (lines_named s literals labels [] [] b.lines) _ (Ok d) d.code
    (lines_complete s literals labels one n.distinct 0 [] [] b.lines d.code (distinct_fresh bytes_eq (map (λ l. l.0) labels) n.distinct) n.code)
    (by_look (each_of (clause_named s labels) b.clauses) _ (Ok d) d.clauses
    (each_of_complete (NamesClause s labels) (clause_named s labels) (clause_complete s literals labels one n.distinct) b.clauses d.clauses n.clauses) refl)))
