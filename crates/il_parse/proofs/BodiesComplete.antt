-- Bodies of the grammar are read as themselves.
use Rattle.std.proofs.Common.{◌≡◌, ℕ, zero, suc, ◌≤◌, Bool, true, false, not, ◌&&◌, List, [], ◌∷◌, ◌++◌, length, map, flat_map, Option, Some, None, Ok, refl, sym, ap, subst, ◌∙◌, codes, append_assoc, append-nil, bytes_eq, arith}
use Rattle.std.proofs.Math.Bool.{and-false}
use Rattle.std.proofs.lemmas.Bool.{true≢false}
use Rattle.std.proofs.lemmas.List.{length-append}
use Rattle.il_text.specs.declared.token.TokenKind.{TokenKind}
use Rattle.il_text.specs.declared.token.TokenKind.TheVariants as token
use Rattle.il_text.specs.Spelling.{spells, is_word}
use Rattle.il_model.specs.declared.written.WrittenName.{WrittenName}
use Rattle.il_model.specs.declared.written.WrittenType.{WrittenType}
use Rattle.il_model.specs.declared.written.WrittenParam.{WrittenParam}
use Rattle.il_model.specs.declared.written.WrittenLine.{WrittenLine}
use Rattle.il_model.specs.declared.written.WrittenClause.{WrittenClause}
use Rattle.il_model.specs.declared.written.WrittenBody.{WrittenBody}
use Rattle.il_model.specs.Lexemes.{Lexeme, Is, Many, none, more}
use Rattle.il_model.specs.Bounds.{instrs_of, types_of_params, types_of_body}
use Rattle.il_model.specs.Instructions.{IsLabel}
use Rattle.il_model.specs.Bodies.{IsEntry, no_entry, entry, AreLocals, no_locals, locals, quoted_before, AreLines, IsRange, range, IsClause, clause, IsBody, body}
use Rattle.il_parse.specs.Reading.{Reader, sees, is_word_kind, expect, read_name, many_from, read_many, read_separated}
use Rattle.il_parse.specs.Types.{read_type, read_param}
use Rattle.il_parse.specs.Mnemonics.{form_of_word, mnemonic_of}
use Rattle.il_parse.specs.Bodies.{read_entry, read_locals, read_lines, most_instrs, read_clause, read_body}
use Rattle.il_parse.proofs.Steps.{AreSpelled, spelled-append, by_step}
use Rattle.il_parse.proofs.ListsSound.{AreSmall}
use Rattle.il_parse.proofs.InstrsSound.{types_of_instr}
use Rattle.il_parse.proofs.BodiesSound.{type_of_clause, flat-catches}
use Rattle.il_parse.proofs.TypesComplete.{sees-is, sees-other, after-is, after-other, expect-is}
use Rattle.il_parse.proofs.ListsComplete.{ends_at, type_complete, small-split}
use Rattle.il_parse.proofs.PartsComplete.{param_list_complete, enclosed_complete}
use Rattle.il_parse.proofs.OperandsComplete.{label_complete}
use Rattle.il_parse.proofs.LinesComplete.{EndsLines, lines_unquoted, lines_complete}

-- parts of this relation that all begin with one word are read as themselves up to where it doesn't stand
module _ {A : Type 0} (item : Reader A) (P : List Lexeme → A → Type 0) (types : A → List WrittenType) (word : List ℕ)
    (begins : (front : List Lexeme) (x : A) → P front x → (l : Lexeme) × (rest : List Lexeme) × (front ≡ l ∷ rest) × Is word l)
    (complete : (front : List Lexeme) (x : A) (back : List Lexeme) → P front x → AreSmall (types x) → AreSpelled front → item (front ++ back) ≡ Ok (x, back)) where
  many_from_complete : (n : ℕ) (found : List A) (front : List Lexeme) (xs : List A) (back : List Lexeme) → Many P front xs → AreSmall (flat_map types xs) → AreSpelled front →
      sees word back ≡ false → length front ≤ n → many_from item word n found (front ++ back) ≡ Ok (found ++ xs, back)
  unfolding many_from
  many_from_complete zero found front xs back none small s miss within = ap (λ z. Ok (z, back)) (sym (append-nil found))
  many_from_complete (suc n) found front xs back none small s miss within = rw miss (ap (λ z. Ok (z, back)) (sym (append-nil found)))
  many_from_complete zero found front xs back (more ws first rest x ys split p m) small s miss within =
      let b = begins first x p in
      absurd (omega (arith, within, ap length split, length-append first rest, ap length b.2))
  many_from_complete (suc n) found front xs back (more ws first rest x ys split p m) small s miss within =
      let parts = spelled-append first rest (subst AreSpelled split s) in
      let smalls = small-split (types x) (flat_map types ys) small in
      let b = begins first x p in
      let whole : ws ++ back ≡ first ++ (rest ++ back) = ap (λ z. z ++ back) split ∙ append_assoc first rest back in
      let hit : sees word (first ++ (rest ++ back)) ≡ true = ap (λ z. sees word (z ++ (rest ++ back))) b.2 ∙ sees-is word b.0 (b.1 ++ (rest ++ back)) b.3 in
      let later = many_from_complete n (found ++ x ∷ []) rest ys back m smalls.1 parts.1 miss (omega (arith, within, ap length split, length-append first rest, ap length b.2)) in
      ap (many_from item word (suc n) found) whole
      ∙ rw hit (by_step (item (first ++ (rest ++ back))) _ _ x (rest ++ back) (complete first x (rest ++ back) p smalls.0 parts.0) later)
      ∙ ap (λ zs. Ok (zs, back)) (append_assoc found (x ∷ []) ys)

  pub many_complete : (front : List Lexeme) (xs : List A) (back : List Lexeme) → Many P front xs → AreSmall (flat_map types xs) → AreSpelled front → sees word back ≡ false →
      read_many item word (front ++ back) ≡ Ok (xs, back)
  unfolding read_many
  many_complete front xs back m small s miss = many_from_complete (length (front ++ back)) [] front xs back m small s miss (omega (arith, length-append front back))

  -- what doesn't begin a part doesn't stand before what is behind them
  pub many_first : (m : List ℕ) → bytes_eq m word ≡ false → (front : List Lexeme) (xs : List A) (back : List Lexeme) → Many P front xs → sees m back ≡ false → sees m (front ++ back) ≡ false
  many_first m other front xs back none miss = miss
  many_first m other front xs back (more ws first rest x ys split p t) miss =
      let b = begins first x p in
      ap (λ z. sees m (z ++ back)) (split ∙ ap (λ z. z ++ rest) b.2) ∙ sees-other m word b.0 ((b.1 ++ rest) ++ back) b.3 other

clause_begins : (front : List Lexeme) (c : WrittenClause) → IsClause front c → (l : Lexeme) × (rest : List Lexeme) × (front ≡ l ∷ rest) × Is (codes ".try") l
clause_begins front c (clause ws tried kind handled word catch handler from to start end t split a tried_is b is_t d handled_is) =
    (word, tried ++ catch ∷ kind ++ handler ∷ handled, split, a)

clause_steps : (word : Lexeme) (f1 : List Lexeme) (to1 : Lexeme) (l1 : List Lexeme) (catch : Lexeme) (kind : List Lexeme) (handler : Lexeme) (f2 : List Lexeme) (to2 : Lexeme) (l2 back : List Lexeme)
    (c : WrittenClause) → Is (codes ".try") word →
    read_name (f1 ++ to1 ∷ (l1 ++ catch ∷ (kind ++ handler ∷ (f2 ++ to2 ∷ (l2 ++ back))))) ≡ Ok (c.from, to1 ∷ (l1 ++ catch ∷ (kind ++ handler ∷ (f2 ++ to2 ∷ (l2 ++ back))))) →
    Is (codes "to") to1 →
    read_name (l1 ++ catch ∷ (kind ++ handler ∷ (f2 ++ to2 ∷ (l2 ++ back)))) ≡ Ok (c.to, catch ∷ (kind ++ handler ∷ (f2 ++ to2 ∷ (l2 ++ back)))) →
    Is (codes "catch") catch →
    read_type (kind ++ handler ∷ (f2 ++ to2 ∷ (l2 ++ back))) ≡ Ok (c.catches, handler ∷ (f2 ++ to2 ∷ (l2 ++ back))) →
    Is (codes "handler") handler →
    read_name (f2 ++ to2 ∷ (l2 ++ back)) ≡ Ok (c.handler, to2 ∷ (l2 ++ back)) →
    Is (codes "to") to2 →
    read_name (l2 ++ back) ≡ Ok (c.end, back) →
    read_clause (word ∷ (f1 ++ to1 ∷ (l1 ++ catch ∷ (kind ++ handler ∷ (f2 ++ to2 ∷ (l2 ++ back)))))) ≡ Ok (c, back)
unfolding read_clause
clause_steps word f1 to1 l1 catch kind handler f2 to2 l2 back c h_word e1 h_to1 e2 h_catch e3 h_handler e4 h_to2 e5 =
    let w5 : List Lexeme = l2 ++ back in
    let w4 : List Lexeme = f2 ++ to2 ∷ w5 in
    let w3 : List Lexeme = kind ++ handler ∷ w4 in
    let w2 : List Lexeme = l1 ++ catch ∷ w3 in
    let w1 : List Lexeme = f1 ++ to1 ∷ w2 in
    by_step (expect (codes ".try") (word ∷ w1)) _ _ tt w1 (expect-is (codes ".try") word w1 h_word)
    (by_step (read_name w1) _ _ c.from (to1 ∷ w2) e1
    (by_step (expect (codes "to") (to1 ∷ w2)) _ _ tt w2 (expect-is (codes "to") to1 w2 h_to1)
    (by_step (read_name w2) _ _ c.to (catch ∷ w3) e2
    (by_step (expect (codes "catch") (catch ∷ w3)) _ _ tt w3 (expect-is (codes "catch") catch w3 h_catch)
    (by_step (read_type w3) _ _ c.catches (handler ∷ w4) e3
    (by_step (expect (codes "handler") (handler ∷ w4)) _ _ tt w4 (expect-is (codes "handler") handler w4 h_handler)
    (by_step (read_name w4) _ _ c.handler (to2 ∷ w5) e4
    (by_step (expect (codes "to") (to2 ∷ w5)) _ _ tt w5 (expect-is (codes "to") to2 w5 h_to2)
    (by_step (read_name w5) _ _ c.end back e5 refl)))))))))

-- the two names of a range and the word between them
record RangeIs (ws : List Lexeme) (from end : WrittenName) : Type 0 where
  first : List Lexeme
  to : Lexeme
  last : List Lexeme
  split : ws ≡ first ++ to ∷ last
  from_is : IsLabel first from
  same : Is (codes "to") to
  end_is : IsLabel last end

range_is : (ws : List Lexeme) (from end : WrittenName) → IsRange ws from end → RangeIs ws from end
range_is ws from end (range same first last to f e split a h b) = record { first = first; to = to; last = last; split = split; from_is = a; same = h; end_is = b }

clause_complete : (front : List Lexeme) (c : WrittenClause) (back : List Lexeme) → IsClause front c → AreSmall (type_of_clause c) → AreSpelled front → read_clause (front ++ back) ≡ Ok (c, back)
clause_complete front c back (clause ws tried kind handled word catch handler from to start end t split h_word is_tried h_catch is_t h_handler is_handled) small s =
    let r = range_is tried from to is_tried in
    let q = range_is handled start end is_handled in
    let s1 = spelled-append (word ∷ tried ++ catch ∷ kind) (handler ∷ handled) (subst AreSpelled split s) in
    let s2 = spelled-append (word ∷ tried) (catch ∷ kind) s1.0 in
    let w5 : List Lexeme = q.last ++ back in
    let w4 : List Lexeme = q.first ++ q.to ∷ w5 in
    let w3 : List Lexeme = kind ++ handler ∷ w4 in
    let w2 : List Lexeme = r.last ++ catch ∷ w3 in
    let w1 : List Lexeme = r.first ++ r.to ∷ w2 in
    let whole : ws ++ back ≡ word ∷ w1 =
    ap (λ z. z ++ back) (split ∙ ap (λ z. word ∷ z ++ catch ∷ kind ++ handler ∷ handled) r.split ∙ ap (λ z. word ∷ (r.first ++ r.to ∷ r.last) ++ catch ∷ kind ++ handler ∷ z) q.split)
    ∙ simp append_assoc refl in
    ap read_clause whole
    ∙ clause_steps word r.first r.to r.last catch kind handler q.first q.to q.last back (record { from = from; to = to; catches = t; handler = start; end = end })
    h_word (label_complete r.first from (r.to ∷ w2) r.from_is) r.same (label_complete r.last to (catch ∷ w3) r.end_is) h_catch
    (type_complete [] kind t (handler ∷ w4) is_t small.0 s2.1.1 (ends_at (codes "handler") handler w4 h_handler refl refl)) h_handler
    (label_complete q.first start (q.to ∷ w5) q.from_is) q.same (label_complete q.last end back q.end_is)

entry_complete : (may_begin : Bool) (front : List Lexeme) (o : Option ℕ) (back : List Lexeme) → IsEntry front o → ((at : ℕ) → o ≡ Some at → may_begin ≡ true) →
    (o ≡ None → sees (codes ".entrypoint") back ≡ false) → read_entry may_begin (front ++ back) ≡ Ok (o, back)
unfolding read_entry sees
entry_complete may_begin front o [] no_entry begins miss = refl
entry_complete may_begin front o (l ∷ ws) no_entry begins miss = rw (miss refl) refl
entry_complete may_begin front o back (entry l same) begins miss = rw (sees-is (codes ".entrypoint") l back same, begins l.at refl) refl

locals_complete : (front : List Lexeme) (ps : List WrittenParam) (back : List Lexeme) → AreLocals front ps → AreSmall (types_of_params ps) → AreSpelled front →
    (ps ≡ [] → sees (codes ".locals") back ≡ false) → read_locals (front ++ back) ≡ Ok (ps, back)
unfolding read_locals
locals_complete front ps back no_locals small s miss = rw (miss refl, after-other (codes ".locals") back (miss refl)) refl
locals_complete front ps back (locals ws inner word init left right p qs split h_word h_init h_left sep h_right) small s miss =
    let parts = spelled-append inner (right ∷ []) (subst AreSpelled split s).1.1.1 in
    let item = read_separated read_param (codes ",") in
    let w2 : List Lexeme = left ∷ (inner ++ right ∷ back) in
    let w1 : List Lexeme = init ∷ w2 in
    let whole : ws ++ back ≡ word ∷ w1 = ap (λ z. z ++ back) split ∙ ap (λ z. word ∷ init ∷ left ∷ z) (append_assoc inner (right ∷ []) back) in
    ap read_locals whole
    ∙ rw (sees-is (codes ".locals") word w1 h_word, after-is (codes ".locals") word w1 h_word)
    (by_step (expect (codes "init") w1) _ _ tt w2 (expect-is (codes "init") init w2 h_init)
    (enclosed_complete item left inner right (p ∷ qs) back h_left h_right (param_list_complete inner (p ∷ qs) right back sep small parts.0 h_right)))

-- the mark that ends a body, and the word of a clause, begin no line
mark_line : (k : TokenKind) (bytes : List ℕ) → bytes ≡ codes "}" → spells k bytes ≡ true → (is_word_kind k && not (bytes_eq (codes ".try") bytes)) ≡ false
mark_line token.Word bytes same s = absurd (true≢false (sym s ∙ ap is_word same))
mark_line token.Variable bytes same s = refl
mark_line token.Number bytes same s = refl
mark_line token.Text bytes same s = refl
mark_line token.Mark bytes same s = refl

mark_ends : (r : Lexeme) (back : List Lexeme) → Is (codes "}") r → spells r.kind r.bytes ≡ true → EndsLines (r ∷ back)
mark_ends r back same s = record {
  no_line = mark_line r.kind r.bytes same s;
  ends = ends_at (codes "}") r back same refl refl;
  no_colon = sees-other (codes ":") (codes "}") r back same refl;
}

try_ends : (l : Lexeme) (back : List Lexeme) → Is (codes ".try") l → EndsLines (l ∷ back)
try_ends l back same = record {
  no_line = ap (λ z. is_word_kind l.kind && not (bytes_eq (codes ".try") z)) same ∙ and-false (is_word_kind l.kind);
  ends = ends_at (codes ".try") l back same refl refl;
  no_colon = sees-other (codes ":") (codes ".try") l back same refl;
}

tail_ends : (front : List Lexeme) (cs : List WrittenClause) (r : Lexeme) (back : List Lexeme) → Many IsClause front cs → Is (codes "}") r → spells r.kind r.bytes ≡ true →
    EndsLines (front ++ r ∷ back)
tail_ends front cs r back none same s = mark_ends r back same s
tail_ends front cs r back (more ws first rest c ds split p m) same s =
    let b = clause_begins first c p in
    subst EndsLines (sym (ap (λ z. z ++ r ∷ back) (split ∙ ap (λ z. z ++ rest) b.2))) (try_ends b.0 ((b.1 ++ rest) ++ r ∷ back) b.3)

no_entry_word : mnemonic_of (codes ".entrypoint") ≡ None
unfolding mnemonic_of form_of_word
no_entry_word = refl

no_locals_word : mnemonic_of (codes ".locals") ≡ None
unfolding mnemonic_of form_of_word
no_locals_word = refl

-- where no locals stand, `.locals` doesn't stand there
locals_free : (o : Option ℕ) (ps : List WrittenParam) (front : List Lexeme) (lines : List WrittenLine) (back : List Lexeme) → AreLines (quoted_before o ps) front lines →
    AreSmall (flat_map types_of_instr (instrs_of lines)) → AreSpelled front → sees (codes ".locals") back ≡ false → ps ≡ [] → sees (codes ".locals") (front ++ back) ≡ false
locals_free None [] front lines back are small s miss e =
    lines_unquoted (codes ".locals") no_locals_word (codes ".entrypoint" ∷ codes ".locals" ∷ []) refl front lines back are small s miss
locals_free (Some at) [] front lines back are small s miss e = lines_unquoted (codes ".locals") no_locals_word (codes ".locals" ∷ []) refl front lines back are small s miss
locals_free o (p ∷ ps) front lines back are small s miss e = absurd (omega (arith, ap length e))

-- where no entry point stands, `.entrypoint` doesn't stand there
entry_free : (o : Option ℕ) (second : List Lexeme) (ps : List WrittenParam) (front : List Lexeme) (lines : List WrittenLine) (back : List Lexeme) → AreLocals second ps →
    AreLines (quoted_before o ps) front lines → AreSmall (flat_map types_of_instr (instrs_of lines)) → AreSpelled front → sees (codes ".entrypoint") back ≡ false → o ≡ None →
    sees (codes ".entrypoint") (second ++ (front ++ back)) ≡ false
entry_free o second ps front lines back no_locals are small s miss e =
    lines_unquoted (codes ".entrypoint") no_entry_word (codes ".entrypoint" ∷ codes ".locals" ∷ []) refl front lines back
    (subst (λ z. AreLines (quoted_before z []) front lines) e are) small s miss
entry_free o second ps front lines back (locals ws inner word init left right p qs split h_word h_init h_left sep h_right) are small s miss e =
    ap (λ z. sees (codes ".entrypoint") (z ++ (front ++ back))) split
    ∙ sees-other (codes ".entrypoint") (codes ".locals") word ((init ∷ left ∷ inner ++ right ∷ []) ++ (front ++ back)) h_word refl

-- a body is read as itself up to the mark that ends it
pub body_complete : (may_begin : Bool) (front : List Lexeme) (b : WrittenBody) (r : Lexeme) (back : List Lexeme) → IsBody front b → AreSmall (types_of_body b) → AreSpelled front →
    Is (codes "}") r → spells r.kind r.bytes ≡ true → length (instrs_of b.lines) ≤ 16384 → ((at : ℕ) → b.entry ≡ Some at → may_begin ≡ true) →
    read_body may_begin (front ++ r ∷ back) ≡ Ok (b, r ∷ back)
unfolding read_body read_lines
body_complete may_begin front b r back (body ws first second third fourth o ps lines cs split is_e are_l are_n many) small s same spelled few begins =
    let s1 = spelled-append (first ++ second ++ third) fourth (subst AreSpelled split s) in
    let s2 = spelled-append (first ++ second) third s1.0 in
    let s3 = spelled-append first second s2.0 in
    let m1 = small-split (types_of_params ps ++ flat_map types_of_instr (instrs_of lines)) (map (λ c. c.catches) cs) small in
    let m2 = small-split (types_of_params ps) (flat_map types_of_instr (instrs_of lines)) m1.0 in
    let tail : List Lexeme = r ∷ back in
    let w3 : List Lexeme = fourth ++ tail in
    let w2 : List Lexeme = third ++ w3 in
    let w1 : List Lexeme = second ++ w2 in
    let whole : ws ++ tail ≡ first ++ w1 = ap (λ z. z ++ tail) split ∙ simp append_assoc refl in
    let f = tail_ends fourth cs r back many same spelled in
    let no_entry_behind : sees (codes ".entrypoint") w3 ≡ false = many_first read_clause IsClause type_of_clause (codes ".try") clause_begins clause_complete
    (codes ".entrypoint") refl fourth cs tail many (sees-other (codes ".entrypoint") (codes "}") r back same refl) in
    let no_locals_behind : sees (codes ".locals") w3 ≡ false = many_first read_clause IsClause type_of_clause (codes ".try") clause_begins clause_complete
    (codes ".locals") refl fourth cs tail many (sees-other (codes ".locals") (codes "}") r back same refl) in
    ap (read_body may_begin) whole
    ∙ by_step (read_entry may_begin (first ++ w1)) _ _ o w1
    (entry_complete may_begin first o w1 is_e begins (entry_free o second ps third lines w3 are_l are_n m2.1 s2.1 no_entry_behind))
    (by_step (read_locals w1) _ _ ps w2 (locals_complete second ps w2 are_l m2.0 s3.1 (locals_free o ps third lines w3 are_n m2.1 s2.1 no_locals_behind))
    (by_step (read_lines w2) _ _ lines w3
    (lines_complete (length w2) (quoted_before o ps) most_instrs [] third lines w3 are_n m2.1 s2.1 f few (omega (arith, length-append third w3)))
    (by_step (read_many read_clause (codes ".try") w3) _ _ cs tail
    (many_complete read_clause IsClause type_of_clause (codes ".try") clause_begins clause_complete fourth cs tail many (subst AreSmall (sym (flat-catches cs)) m1.1) s1.1
    (sees-other (codes ".try") (codes "}") r back same refl)) refl)))
