-- What is read as a body is that of the grammar, within the limits, where calls are.
use Rattle.std.proofs.Common.{◌≡◌, ℕ, ◌≤◌, Bool, true, false, List, [], ◌∷◌, ◌++◌, length, map, flat_map, Option, Some, None, Ok, refl, sym, ap, subst, ◌∙◌, codes, bytes_eq, inl, inr}
use Rattle.std.proofs.lemmas.Bool.{cases_Bool}
use Rattle.std.proofs.lemmas.Slice.Eq.{bytes_eq-Decides}
use Rattle.il_model.specs.declared.written.WrittenType.{WrittenType}
use Rattle.il_model.specs.declared.written.WrittenParam.{WrittenParam}
use Rattle.il_model.specs.declared.written.WrittenLine.{WrittenLine}
use Rattle.il_model.specs.declared.written.WrittenClause.{WrittenClause}
use Rattle.il_model.specs.declared.written.WrittenBody.{WrittenBody}
use Rattle.il_model.specs.Lexemes.{Lexeme, Is, Separated, last, next}
use Rattle.il_model.specs.Bounds.{instrs_of, types_of_params, types_of_body}
use Rattle.il_model.specs.Types.{IsParam}
use Rattle.il_model.specs.Instructions.{IsLabel, label_name}
use Rattle.il_model.specs.Bodies.{IsEntry, no_entry, entry, AreLocals, no_locals, locals, quoted_before, range, IsClause, clause, IsBody, body}
use Rattle.il_parse.specs.declared.fault.ParseCause.TheVariants as cause
use Rattle.il_parse.specs.Reading.{Read, fault_at, sees, read_name, read_name_but, read_many, read_separated}
use Rattle.il_parse.specs.Types.{read_type, read_param}
use Rattle.il_parse.specs.Bodies.{read_entry, read_locals, read_lines, most_instrs, read_clause, read_body}
use Rattle.il_parse.proofs.Finding.{none_is}
use Rattle.il_parse.proofs.Steps.{AreSpelled, spelled_rest, Took, Sound, refusal, value_of, rest_of, stepped, stepped_over, seen, there, absent, joined, led}
use Rattle.il_parse.proofs.TypesSound.{FreeOf, no_quoted}
use Rattle.il_parse.proofs.ListsSound.{type_sound, name_sound, IsBoth, AreSmall, small-append, many_sound, many_small}
use Rattle.il_parse.proofs.PartsSound.{free_more, param_list_sound, enclosed_sound}
use Rattle.il_parse.proofs.InstrsSound.{CallsAreSound, types_of_instr, lines_sound}

-- the entry point that is read, if one is
data EntryRead (may_begin : Bool) (ws : List Lexeme) (back : List Lexeme) : Option ℕ → Type 0 where
  begun : (l : Lexeme) → ws ≡ l ∷ back → Is (codes ".entrypoint") l → may_begin ≡ true → EntryRead may_begin ws back (Some l.at)
  plain : ws ≡ back → sees (codes ".entrypoint") ws ≡ false → EntryRead may_begin ws back None

entry_read : (may_begin : Bool) (ws : List Lexeme) (o : Option ℕ) (back : List Lexeme) → read_entry may_begin ws ≡ Ok (o, back) → EntryRead may_begin ws back o
unfolding read_entry sees
entry_read may_begin [] o back e = subst (EntryRead may_begin [] back) (value_of None o [] back e) (plain (rest_of None o [] back e) refl)
entry_read may_begin (l ∷ ws) o back e =
    elim (cases_Bool (bytes_eq (codes ".entrypoint") l.bytes)) [
      | inl hit ↦ elim (cases_Bool may_begin) [
        | inl may ↦
            let e2 : (let r : Read (Option ℕ) = Ok (Some l.at, ws) in r ≡ Ok (o, back)) = rw (hit, may) at e in
            subst (EntryRead may_begin (l ∷ ws) back) (value_of (Some l.at) o ws back e2)
            (begun l (ap (λ z. l ∷ z) (rest_of (Some l.at) o ws back e2)) (sym ((bytes_eq-Decides (codes ".entrypoint") l.bytes).0 hit)) may)
        | inr not_here ↦ refusal (fault_at (l ∷ ws) cause.Syntax) o back (rw (hit, not_here) at e)
      ]
      | inr miss ↦
          let e2 : (let r : Read (Option ℕ) = Ok (None, l ∷ ws) in r ≡ Ok (o, back)) = rw miss at e in
          subst (EntryRead may_begin (l ∷ ws) back) (value_of None o (l ∷ ws) back e2) (plain (rest_of None o (l ∷ ws) back e2) miss)
    ]

-- the locals that are read, if any are
data LocalsRead (ws back : List Lexeme) (ps : List WrittenParam) : Type 0 where
  some_locals : (front : List Lexeme) (p : WrittenParam) (rest : List WrittenParam) → ws ≡ front ++ back → ps ≡ p ∷ rest → AreLocals front ps →
      AreSmall (types_of_params ps) → LocalsRead ws back ps
  without : ws ≡ back → sees (codes ".locals") ws ≡ false → ps ≡ [] → LocalsRead ws back ps

listed : (ws back front inner : List Lexeme) (word init left right : Lexeme) (ps : List WrittenParam) → front ≡ word ∷ init ∷ left ∷ inner ++ right ∷ [] →
    ws ≡ front ++ back → Is (codes ".locals") word → Is (codes "init") init → Is (codes "(") left → Separated (codes ",") IsParam inner ps → Is (codes ")") right →
    AreSmall (types_of_params ps) → LocalsRead ws back ps
listed ws back front inner word init left right ps is split a b c (last same p h) d small =
    some_locals front p [] split refl (locals front inner word init left right p [] is a b c (last inner p h) d) small
listed ws back front inner word init left right ps is split a b c (next same f g l p rest s h m t) d small =
    some_locals front p rest split refl (locals front inner word init left right p rest is a b c (next inner f g l p rest s h m t) d) small

locals_read : (ws : List Lexeme) (ps : List WrittenParam) (back : List Lexeme) → read_locals ws ≡ Ok (ps, back) → LocalsRead ws back ps
unfolding read_locals
locals_read ws ps back e =
    elim (seen (codes ".locals") ws) [
      | there l rest split same hit behind ↦
          stepped_over (codes "init") rest _ ps back (rw (hit, behind) at e) (λ init mid s h f.
          let n = enclosed_sound (read_separated read_param (codes ",")) (IsBoth (Separated (codes ",") IsParam) types_of_params) param_list_sound mid ps back f in
          listed ws back (l ∷ init ∷ n.left ∷ n.inner ++ n.right ∷ []) n.inner l init n.left n.right ps refl
          (split ∙ ap (λ z. l ∷ z) (s ∙ ap (λ z. init ∷ z) n.split)) same h n.opens n.holds.is n.closes n.holds.small)
      | absent miss stays ↦
          let e2 : (let r : Read (List WrittenParam) = Ok ([], ws) in r ≡ Ok (ps, back)) = rw (miss, stays) at e in
          without (rest_of [] ps ws back e2) miss (sym (value_of [] ps ws back e2))
    ]

abbrev pub type_of_clause : WrittenClause → List WrittenType
type_of_clause c = c.catches ∷ []

pub clause_sound : Sound read_clause (IsBoth IsClause type_of_clause)
unfolding read_clause read_name
clause_sound ws c back e =
    stepped_over (codes ".try") ws _ c back e (λ word ws1 s0 h0 f0.
    stepped (read_name_but [] ws1) _ c back f0 (λ from ws2 e1 f1.
    stepped_over (codes "to") ws2 _ c back f1 (λ until ws3 s2 h2 f2.
    stepped (read_name_but [] ws3) _ c back f2 (λ to ws4 e3 f3.
    stepped_over (codes "catch") ws4 _ c back f3 (λ catch ws5 s4 h4 f4.
    stepped (read_type ws5) _ c back f4 (λ t ws6 e5 f5.
    stepped_over (codes "handler") ws6 _ c back f5 (λ handler ws7 s6 h6 f6.
    stepped (read_name_but [] ws7) _ c back f6 (λ start ws8 e7 f7.
    stepped_over (codes "to") ws8 _ c back f7 (λ until2 ws9 s8 h8 f8.
    stepped (read_name_but [] ws9) _ c back f8 (λ end ws10 e9 f9.
    let a = name_sound [] ws1 from ws2 e1 in
    let b = name_sound [] ws3 to ws4 e3 in
    let k = type_sound [] ws5 t ws6 (no_quoted ws5) e5 in
    let d = name_sound [] ws7 start ws8 e7 in
    let g = name_sound [] ws9 end ws10 e9 in
    let made : WrittenClause = record { from = from; to = to; catches = t; handler = start; end = end } in
    let tried : List Lexeme = a.token ∷ until ∷ b.token ∷ [] in
    let handled : List Lexeme = d.token ∷ until2 ∷ g.token ∷ [] in
    let whole : List Lexeme = word ∷ tried ++ catch ∷ k.front ++ handler ∷ handled in
    let label_a = subst (IsLabel (a.token ∷ [])) (sym a.at) (label_name a.token a.is) in
    let label_b = subst (IsLabel (b.token ∷ [])) (sym b.at) (label_name b.token b.is) in
    let label_d = subst (IsLabel (d.token ∷ [])) (sym d.at) (label_name d.token d.is) in
    let label_g = subst (IsLabel (g.token ∷ [])) (sym g.at) (label_name g.token g.is) in
    let t1 : ws ≡ (word ∷ tried) ++ ws4 = s0 ∙ ap (λ z. word ∷ z) (a.split ∙ ap (λ z. a.token ∷ z) (s2 ∙ ap (λ z. until ∷ z) b.split)) in
    let t2 = joined ws (word ∷ tried) ws4 (catch ∷ k.front) ws6 t1 (led ws4 catch ws5 k.front ws6 s4 k.split) in
    let t3 : ws6 ≡ (handler ∷ handled) ++ ws10 = s6 ∙ ap (λ z. handler ∷ z) (d.split ∙ ap (λ z. d.token ∷ z) (s8 ∙ ap (λ z. until2 ∷ z) g.split)) in
    let t4 = joined ws (word ∷ tried ++ catch ∷ k.front) ws6 (handler ∷ handled) ws10 t2 t3 in
    record {
      front = whole;
      split = t4 ∙ ap (λ z. whole ++ z) (rest_of made c ws10 back f9);
      holds = subst (IsBoth IsClause type_of_clause whole) (value_of made c ws10 back f9) (record {
        is = clause whole tried k.front handled word catch handler from to start end t refl h0
            (range tried (a.token ∷ []) (b.token ∷ []) until from to refl label_a h2 label_b) h4 k.holds.is h6
            (range handled (d.token ∷ []) (g.token ∷ []) until2 start end refl label_d h8 label_g);
        small = (k.holds.small, tt);
      });
    }))))))))))

pub flat-catches : (cs : List WrittenClause) → flat_map type_of_clause cs ≡ map (λ c. c.catches) cs
flat-catches [] = refl
flat-catches (c ∷ cs) = ap (λ ts. c.catches ∷ ts) (flat-catches cs)

-- a body that is read where a program may begin or not
pub record BodyRead (may_begin : Bool) (ws : List Lexeme) (b : WrittenBody) : Type 0 where
  pub is : IsBody ws b
  pub small : AreSmall (types_of_body b)
  pub few : length (instrs_of b.lines) ≤ 16384
  pub begins : (at : ℕ) → b.entry ≡ Some at → may_begin ≡ true

-- the entry point and its words
record EntryPart (may_begin : Bool) (ws back : List Lexeme) (o : Option ℕ) : Type 0 where
  front : List Lexeme
  split : ws ≡ front ++ back
  is : IsEntry front o
  begins : (at : ℕ) → o ≡ Some at → may_begin ≡ true

entry_part : (may_begin : Bool) (ws back : List Lexeme) (o : Option ℕ) → EntryRead may_begin ws back o → EntryPart may_begin ws back o
entry_part may_begin ws back o (begun l split same may) = record { front = l ∷ []; split = split; is = entry l same; begins = λ _ _. may }
entry_part may_begin ws back o (plain split miss) = record { front = []; split = split; is = no_entry; begins = λ at e. none_is at e }

record LocalsPart (ws back : List Lexeme) (ps : List WrittenParam) : Type 0 where
  front : List Lexeme
  split : ws ≡ front ++ back
  are : AreLocals front ps
  small : AreSmall (types_of_params ps)

locals_part : (ws back : List Lexeme) (ps : List WrittenParam) → LocalsRead ws back ps → LocalsPart ws back ps
locals_part ws back ps (some_locals front p rest split is are small) = record { front = front; split = split; are = are; small = small }
locals_part ws back ps (without split miss is) =
    record { front = []; split = split; are = subst (AreLocals []) (sym is) no_locals; small = subst (λ qs. AreSmall (types_of_params qs)) (sym is) tt }

-- where the lines begin none of the words stands that could stand there
free_before : (may_begin : Bool) (ws mid back : List Lexeme) (o : Option ℕ) (ps : List WrittenParam) → EntryRead may_begin ws mid o → LocalsRead mid back ps →
    FreeOf (quoted_before o ps) back
free_before may_begin ws mid back o ps e (some_locals front p rest split is are small) = subst (λ qs. FreeOf (quoted_before o qs) back) (sym is) (no_quoted back)
free_before may_begin ws mid back o ps (begun l split same may) (without stays miss is) =
    subst (λ qs. FreeOf (quoted_before (Some l.at) qs) back) (sym is)
    (subst (FreeOf (codes ".locals" ∷ [])) stays (free_more (codes ".locals") [] mid miss (no_quoted mid)))
free_before may_begin ws mid back o ps (plain split none_here) (without stays miss is) =
    subst (λ qs. FreeOf (quoted_before None qs) back) (sym is)
    (subst (FreeOf (codes ".entrypoint" ∷ codes ".locals" ∷ [])) stays
    (free_more (codes ".entrypoint") (codes ".locals" ∷ []) mid (sym (ap (sees (codes ".entrypoint")) split) ∙ none_here)
    (free_more (codes ".locals") [] mid miss (no_quoted mid))))

pub body_sound : CallsAreSound → (may_begin : Bool) → (ws : List Lexeme) (b : WrittenBody) (back : List Lexeme) → AreSpelled ws → read_body may_begin ws ≡ Ok (b, back) →
    Took (BodyRead may_begin) ws b back
unfolding read_body read_lines
body_sound call_sound may_begin ws b back spelled e =
    stepped (read_entry may_begin ws) _ b back e (λ o ws1 e0 f0.
    stepped (read_locals ws1) _ b back f0 (λ ps ws2 e1 f1.
    stepped (read_lines ws2) _ b back f1 (λ lines ws3 e2 f2.
    stepped (read_many read_clause (codes ".try") ws3) _ b back f2 (λ cs ws4 e3 f3.
    let x = entry_read may_begin ws o ws1 e0 in
    let y = locals_read ws1 ps ws2 e1 in
    let p = entry_part may_begin ws ws1 o x in
    let q = locals_part ws1 ws2 ps y in
    let spelled2 = spelled_rest ws1 q.front ws2 q.split (spelled_rest ws p.front ws1 p.split spelled) in
    let m = lines_sound call_sound (length ws2) (quoted_before o ps) most_instrs [] ws2 lines ws3 spelled2 (free_before may_begin ws ws1 ws2 o ps x y) e2 in
    let c = many_sound read_clause (IsBoth IsClause type_of_clause) clause_sound (codes ".try") ws3 cs ws4 e3 in
    let d = many_small IsClause type_of_clause c.front cs c.holds in
    let made : WrittenBody = record { entry = o; locals = ps; lines = lines; clauses = cs } in
    let found : WrittenBody = record { entry = o; locals = ps; lines = m.items; clauses = cs } in
    let whole : List Lexeme = p.front ++ q.front ++ m.front ++ c.front in
    let t1 = joined ws p.front ws1 q.front ws2 p.split q.split in
    let t2 = joined ws (p.front ++ q.front) ws2 m.front ws3 t1 m.split in
    let t3 = joined ws (p.front ++ q.front ++ m.front) ws3 c.front ws4 t2 c.split in
    let same : found ≡ b = ap (λ (l : List WrittenLine). record { entry = o; locals = ps; lines = l; clauses = cs }) (sym m.all) ∙ value_of made b ws4 back f3 in
    record {
      front = whole;
      split = t3 ∙ ap (λ z. whole ++ z) (rest_of made b ws4 back f3);
      holds = subst (BodyRead may_begin whole) same (record {
        is = body whole p.front q.front m.front c.front o ps m.items cs refl p.is q.are m.are d.is;
        small = small-append (types_of_params ps ++ flat_map types_of_instr (instrs_of m.items)) (map (λ k. k.catches) cs)
            (small-append (types_of_params ps) (flat_map types_of_instr (instrs_of m.items)) q.small m.small) (subst AreSmall (flat-catches cs) d.small);
        few = m.few;
        begins = p.begins;
      });
    }))))
