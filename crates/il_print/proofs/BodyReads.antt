-- Bodies with the keys that they bring.
use Rattle.std.proofs.Common.{ℕ, ◌+◌, ◌==◌, Bool, true, false, List, [], ◌∷◌, ◌++◌, codes, refl, sym, subst, if◌then◌else◌}
use Rattle.std.specs.List.{AllByRecursion, list_any}
use Rattle.il_text.specs.declared.token.TokenKind.TheVariants as token
use Rattle.il_model.specs.declared.method.PType.{PType}
use Rattle.il_model.specs.declared.method.Clause.{Clause}
use Rattle.il_model.specs.declared.method.Body.{Body}
use Rattle.il_model.specs.declared.op.Op.{Op}
use Rattle.il_model.specs.declared.written.WrittenClause.{WrittenClause}
use Rattle.il_model.specs.declared.written.WrittenBody.{WrittenBody}
use Rattle.il_model.specs.Bounds.{instrs_of}
use Rattle.il_model.specs.Names.{Scope}
use Rattle.il_model.specs.LookUp.{labels_from, NamesClause, NamesBody}
use Rattle.il_model.specs.Canonical.{Word, line, Printing, type_text, params_words, label_text, op_words, places_of, label_line, code_lines, locals_line, clause_words, clause_lines, body_lines}
use Rattle.il_print.proofs.Keys.{Key, quoted, label_key, type_keys, params_keys, op_keys, label_line_keys, code_keys, locals_keys, clause_keys, clauses_keys, entry_keys, body_keys}
use Rattle.il_print.proofs.TokenReads.{nothing_reads, token_opens}
use Rattle.il_print.proofs.NumberTokens.{label_token}
use Rattle.il_print.proofs.WordReads.{Words, Starts, Lines, word_first, token_word, quoted_word, quoted_starts, starts, one_line, no_lines, lines_then}
use Rattle.il_print.proofs.TypeReads.{IsReadable, type_read}
use Rattle.il_print.proofs.PartReads.{each_gives, each_gives_with, params_read}
use Rattle.il_print.proofs.OpReads.{printing, op_read}
use Rattle.il_print.proofs.Spellable.{IsSpellableOperand, IsSpellableBody}

optional_line : (b : Bool) (level : ℕ) (ws : List Word) (ks : List Key) → Starts ws ks → Lines (if b then line level ws else []) (if b then ks else [])
optional_line true level ws ks read = one_line level ws ks read
optional_line false level ws ks read = no_lines

-- ---- labels and instructions

label_line_read : (p : Printing) (at : ℕ) → Lines (label_line p at) (label_line_keys p at)
label_line_read p at =
    let label = label_text p.places at in
    optional_line (list_any (λ to. to == at) p.places) 2 (label ∷ codes ":" ∷ []) (label_key p.places at ∷ quoted (codes ":") ∷ [])
    (starts label (codes ":" ∷ []) (label_key p.places at ∷ []) (quoted (codes ":") ∷ []) (token_opens token.Word label (label_token p.places at))
    (quoted_word (codes ":") [] [] refl nothing_reads))

code_read : (p : Printing) (at : ℕ) (ops : List Op) → AllByRecursion (λ op. Starts (op_words p op) (op_keys p op)) ops → Lines (code_lines p at ops) (code_keys p at ops)
code_read p at [] read = label_line_read p at
code_read p at (op ∷ ops) read =
    lines_then (label_line p at ++ line 2 (op_words p op)) (code_lines p (at + 1) ops) (label_line_keys p at ++ op_keys p op) (code_keys p (at + 1) ops)
    (lines_then (label_line p at) (line 2 (op_words p op)) (label_line_keys p at) (op_keys p op) (label_line_read p at)
    (one_line 2 (op_words p op) (op_keys p op) read.0))
    (code_read p (at + 1) ops read.1)

-- ---- locals and clauses

locals_read : (names : List Word) (ps : List PType) → Words (params_words names ps) (params_keys names ps) → Lines (locals_line names ps) (locals_keys names ps)
locals_read names [] read = no_lines
locals_read names (p ∷ ps) read =
    one_line 2 (codes ".locals" ∷ codes "init" ∷ params_words names (p ∷ ps)) (quoted (codes ".locals") ∷ quoted (codes "init") ∷ params_keys names (p ∷ ps))
    (quoted_starts (codes ".locals") (codes "init" ∷ params_words names (p ∷ ps)) (quoted (codes "init") ∷ params_keys names (p ∷ ps)) refl
    (quoted_word (codes "init") (params_words names (p ∷ ps)) (params_keys names (p ∷ ps)) refl read))

-- `label to label`
range_read : (p : Printing) (from to : ℕ) (ws : List Word) (ks : List Key) → Words ws ks →
    Words (label_text p.places from ∷ codes "to" ∷ label_text p.places to ∷ ws)
    (label_key p.places from ∷ quoted (codes "to") ∷ label_key p.places to ∷ ks)
range_read p from to ws ks read =
    token_word token.Word (label_text p.places from) (codes "to" ∷ label_text p.places to ∷ ws) (quoted (codes "to") ∷ label_key p.places to ∷ ks)
    (label_token p.places from)
    (quoted_word (codes "to") (label_text p.places to ∷ ws) (label_key p.places to ∷ ks) refl
    (token_word token.Word (label_text p.places to) ws ks (label_token p.places to) read))

catch_read : (s : Scope) (literals : List (List ℕ)) (places : List ℕ) (labels : List (List ℕ × ℕ)) (written : WrittenClause) (c : Clause) → IsReadable s →
    NamesClause s labels written c → Starts (clause_words (printing s literals places) c c.sort) (clause_keys (printing s literals places) c c.sort)
catch_read s literals places labels written c r named =
    let p = printing s literals places in
    let t = named.catches in
    let handled = label_text places c.handler ∷ codes "to" ∷ label_text places c.end ∷ [] in
    let handled_keys = label_key places c.handler ∷ quoted (codes "to") ∷ label_key places c.end ∷ [] in
    let caught = codes "catch" ∷ type_text s.names t ∷ codes "handler" ∷ handled in
    let caught_keys = quoted (codes "catch") ∷ type_keys s.names t ++ quoted (codes "handler") ∷ handled_keys in
    let caught_read : Words caught caught_keys =
    quoted_word (codes "catch") (type_text s.names t ∷ codes "handler" ∷ handled) (type_keys s.names t ++ quoted (codes "handler") ∷ handled_keys) refl
    (word_first (type_text s.names t) (codes "handler" ∷ handled) (type_keys s.names t) (quoted (codes "handler") ∷ handled_keys)
    (type_read s written.catches t r named.kind)
    (quoted_word (codes "handler") handled handled_keys refl (range_read p c.handler c.end [] [] nothing_reads))) in
    subst (λ kind. Starts (clause_words p c kind) (clause_keys p c kind)) (sym named.sort)
    (quoted_starts (codes ".try") (label_text places c.from ∷ codes "to" ∷ label_text places c.to ∷ caught)
    (label_key places c.from ∷ quoted (codes "to") ∷ label_key places c.to ∷ caught_keys) refl (range_read p c.from c.to caught caught_keys caught_read))

clauses_read : (p : Printing) (cs : List Clause) → AllByRecursion (λ c. Starts (clause_words p c c.sort) (clause_keys p c c.sort)) cs →
    Lines (clause_lines p cs) (clauses_keys p cs)
clauses_read p [] read = no_lines
clauses_read p (c ∷ cs) read =
    lines_then (line 2 (clause_words p c c.sort)) (clause_lines p cs) (clause_keys p c c.sort) (clauses_keys p cs)
    (one_line 2 (clause_words p c c.sort) (clause_keys p c c.sort) read.0) (clauses_read p cs read.1)

-- ---- whole bodies

pub body_read : (s : Scope) (literals : List (List ℕ)) (is_entry : Bool) (written : WrittenBody) (b : Body) → IsReadable s → NamesBody s literals written b →
    IsSpellableBody written → Lines (body_lines s.names literals is_entry b) (body_keys s.names literals is_entry b)
body_read s literals is_entry written b r named spellable =
    let places = places_of b in
    let p = printing s literals places in
    let labels = labels_from 0 written.lines in
    let entry = if is_entry then line 2 (codes ".entrypoint" ∷ []) else [] in
    let entry_read : Lines entry (entry_keys is_entry) =
    optional_line is_entry 2 (codes ".entrypoint" ∷ []) (quoted (codes ".entrypoint") ∷ []) (quoted_starts (codes ".entrypoint") [] [] refl nothing_reads) in
    let with_locals : Lines (entry ++ locals_line s.names b.locals) (entry_keys is_entry ++ locals_keys s.names b.locals) =
    lines_then entry (locals_line s.names b.locals) (entry_keys is_entry) (locals_keys s.names b.locals) entry_read
    (locals_read s.names b.locals (params_read s r written.locals b.locals named.locals)) in
    let code : AllByRecursion (λ op. Starts (op_words p op) (op_keys p op)) b.code =
    each_gives_with (λ i. IsSpellableOperand i.operand) (λ op. Starts (op_words p op) (op_keys p op))
    (λ i op names fine. op_read s literals places labels i op r names fine) (instrs_of written.lines) b.code named.code spellable in
    let clauses : AllByRecursion (λ c. Starts (clause_words p c c.sort) (clause_keys p c c.sort)) b.clauses =
    each_gives (λ c. Starts (clause_words p c c.sort) (clause_keys p c c.sort))
    (λ w c names. catch_read s literals places labels w c r names) written.clauses b.clauses named.clauses in
    lines_then ((entry ++ locals_line s.names b.locals) ++ code_lines p 0 b.code) (clause_lines p b.clauses)
    ((entry_keys is_entry ++ locals_keys s.names b.locals) ++ code_keys p 0 b.code) (clauses_keys p b.clauses)
    (lines_then (entry ++ locals_line s.names b.locals) (code_lines p 0 b.code) (entry_keys is_entry ++ locals_keys s.names b.locals) (code_keys p 0 b.code)
    with_locals (code_read p 0 b.code code))
    (clauses_read p b.clauses clauses)
