-- Lines of the text, joined.
use Rattle.std.proofs.Common.{◌≡◌, ℕ, ◌+◌, ◌*◌, ◌<◌, Bool, Option, Some, None, if◌then◌else◌, List, [], ◌∷◌, ◌++◌, length, get_or, take, drop, flat_map, sum_by, length-append, replicate, codes, refl, sym, ap, ◌∙◌, append_assoc, append-nil, add-one, drop-cons}
use Rattle.std.proofs.lemmas.List.{take_more}
use Rattle.std.proofs.Math.Seq.{drop-length}
use Rattle.std.proofs.lemmas.List.Sums.{sum_by-cons}
use Rattle.std.proofs.lemmas.List.Concat.{flat_map-append}
use Rattle.il_model.specs.declared.op.Op.{Op}
use Rattle.il_model.specs.declared.method.PType.{PType}
use Rattle.il_model.specs.declared.method.Clause.{Clause}
use Rattle.il_model.specs.declared.method.Body.{Body}
use Rattle.il_model.specs.declared.class.ClassDef.{ClassDef}
use Rattle.il_model.specs.declared.program.Program.{Program}
use Rattle.il_model.specs.Canonical.{Word, Line, line, line_text, spaced, spaced_after, params_words, locals_line, Printing, code_lines, label_line, op_words, clause_words, clause_lines, places_of, body_lines, bodied_lines, field_line, method_lines, class_lines}
use Rattle.il_print.specs.Spaces.{behind}
use Rattle.il_print.specs.Parts.{lines_text, class_head}
use Rattle.il_print.proofs.WordLemmas.{joined, joined_words, spaced_after_append}

-- some lines and then others
pub joined_lines : (first second : List Line) (start mid now : List ℕ) → mid ≡ start ++ lines_text first → now ≡ mid ++ lines_text second →
    now ≡ start ++ lines_text (first ++ second)
joined_lines first second start mid now is_first is_second =
    joined start mid now (lines_text first) (lines_text second) is_first is_second
    ∙ ap (λ text. start ++ text) (sym (flat_map-append line_text first second))

-- the lines of one thing more
pub more_lines : {X : Type 0} (f : X → List Line) (xs : List X) (i : ℕ) (d : X) (start before now : List ℕ) → i < length xs →
    before ≡ start ++ lines_text (flat_map f (take i xs)) → now ≡ before ++ lines_text (f (get_or xs i d)) →
    now ≡ start ++ lines_text (flat_map f (take (i + 1) xs))
more_lines f xs i d start before now inside so_far wrote =
    joined_lines (flat_map f (take i xs)) (f (get_or xs i d)) start before now so_far wrote
    ∙ ap (λ lines. start ++ lines_text lines) (
    ap (λ lines. flat_map f (take i xs) ++ lines) (sym (append-nil (f (get_or xs i d))))
    ∙ sym (flat_map-append f (take i xs) (get_or xs i d ∷ []))
    ∙ ap (flat_map f) (sym (take_more xs i d inside)))

-- a line of one list of words behind its first word
pub one_line : (level : ℕ) (start inside now : List ℕ) (words : List Word) → inside ≡ (start ++ replicate (2 * level) 32) ++ spaced words → now ≡ inside ++ (10 ∷ []) →
    now ≡ start ++ lines_text (line level words)
one_line level start inside now words is_inside ended =
    ended ∙ ap (λ text. text ++ (10 ∷ [])) is_inside
    ∙ append_assoc (start ++ replicate (2 * level) 32) (spaced words) (10 ∷ [])
    ∙ append_assoc start (replicate (2 * level) 32) (spaced words ++ (10 ∷ []))
    ∙ ap (λ text. start ++ text) (sym (append_assoc (replicate (2 * level) 32) (spaced words) (10 ∷ [])) ∙ sym (append-nil (line_text (record { level = level; words = words }))))

-- the lines of the locals, where there are some
pub locals_written : (names : List Word) (locals : List PType) (start s1 s2 now : List ℕ) → ¬ (locals ≡ []) →
    s1 ≡ start ++ codes "    .locals init" → s2 ≡ s1 ++ spaced_after (params_words names locals) → now ≡ s2 ++ (10 ∷ []) →
    now ≡ start ++ lines_text (locals_line names locals)
locals_written names [] start s1 s2 now some led params ended = absurd (some refl)
locals_written names (first ∷ rest) start s1 s2 now some led params ended =
    one_line 2 start s2 now (codes ".locals" ∷ codes "init" ∷ params_words names (first ∷ rest))
    (params ∙ ap (λ text. text ++ spaced_after (params_words names (first ∷ rest))) led
    ∙ append_assoc start (codes "    .locals init") (spaced_after (params_words names (first ∷ rest)))
    ∙ sym (append_assoc start (replicate 4 32) (spaced (codes ".locals" ∷ codes "init" ∷ params_words names (first ∷ rest)))))
    ended

-- one instruction further
pub next_op : (p : Printing) (code : List Op) (i : ℕ) (op : Op) (before mid now all : List ℕ) → i < length code → op ≡ get_or code i op →
    before ++ lines_text (code_lines p i (drop i code)) ≡ all → mid ≡ before ++ lines_text (label_line p i) →
    now ≡ mid ++ lines_text (line 2 (op_words p op)) → now ++ lines_text (code_lines p (i + 1) (drop (i + 1) code)) ≡ all
next_op p code i op before mid now all inside is so_far labelled wrote =
    let later = code_lines p (i + 1) (drop (i + 1) code) in
    let here : drop i code ≡ op ∷ drop (i + 1) code = drop-cons code i op inside ∙ (λ k. sym is k ∷ drop (sym (add-one i) k) code) in
    joined_lines (label_line p i ++ line 2 (op_words p op)) later before now (now ++ lines_text later)
    (joined_lines (label_line p i) (line 2 (op_words p op)) before mid now labelled wrote) refl
    ∙ ap (λ ops. before ++ lines_text (code_lines p i ops)) (sym here)
    ∙ so_far

-- the lines of all instructions, and the label of the end
pub all_ops : (p : Printing) (code : List Op) (start before now : List ℕ) → before ++ lines_text (code_lines p (length code) (drop (length code) code)) ≡ start ++ lines_text (code_lines p 0 code) →
    now ≡ before ++ lines_text (label_line p (length code)) → now ≡ start ++ lines_text (code_lines p 0 code)
all_ops p code start before now so_far wrote =
    wrote ∙ ap (λ ops. before ++ lines_text (code_lines p (length code) ops)) (sym (drop-length code)) ∙ so_far

-- the lines of clauses, one by one
pub clause_lines_are : (p : Printing) (cs : List Clause) → clause_lines p cs ≡ flat_map (λ c. line 2 (clause_words p c c.sort)) cs
clause_lines_are p [] = refl
clause_lines_are p (c ∷ cs) = ap (λ rest. line 2 (clause_words p c c.sort) ++ rest) (clause_lines_are p cs)

-- what words make a clause and a method's head
pub three_lists : (first : Word) (a b c : List Word) (start led s1 s2 now : List ℕ) → led ≡ start ++ first → s1 ≡ led ++ spaced_after a →
    s2 ≡ s1 ++ spaced_after b → now ≡ s2 ++ spaced_after c → now ≡ start ++ spaced (first ∷ (a ++ b) ++ c)
three_lists first a b c start led s1 s2 now is_led is_a is_b is_c =
    joined start led now first (spaced_after ((a ++ b) ++ c)) is_led (joined_words (a ++ b) c led s2 now (joined_words a b led s1 s2 is_a is_b) is_c)

-- and a class's head
pub five_lists : (first : Word) (a b c d e : List Word) (start led s1 s2 s3 s4 now : List ℕ) → led ≡ start ++ first → s1 ≡ led ++ spaced_after a →
    s2 ≡ s1 ++ spaced_after b → s3 ≡ s2 ++ spaced_after c → s4 ≡ s3 ++ spaced_after d → now ≡ s4 ++ spaced_after e →
    now ≡ start ++ spaced (first ∷ (((a ++ b) ++ c) ++ d) ++ e)
five_lists first a b c d e start led s1 s2 s3 s4 now is_led is_a is_b is_c is_d is_e =
    joined start led now first (spaced_after ((((a ++ b) ++ c) ++ d) ++ e)) is_led
    (joined_words (((a ++ b) ++ c) ++ d) e led s4 now
    (joined_words ((a ++ b) ++ c) d led s3 s4 (joined_words (a ++ b) c led s2 s3 (joined_words a b led s1 s2 is_a is_b) is_c) is_d) is_e)

-- a mark behind a head
pub marked_head : (first : Word) (ws : List Word) (mark : Word) (start mid now : List ℕ) → mid ≡ start ++ spaced (first ∷ ws) → now ≡ mid ++ behind mark →
    now ≡ start ++ spaced (first ∷ ws ++ mark ∷ [])
marked_head first ws mark start mid now is_head is_mark =
    joined start mid now (first ++ spaced_after ws) (behind mark) is_head is_mark
    ∙ ap (λ text. start ++ text) (
    append_assoc first (spaced_after ws) (behind mark)
    ∙ ap (λ text. first ++ (spaced_after ws ++ text)) (sym (append-nil (behind mark)))
    ∙ ap (λ text. first ++ text) (sym (spaced_after_append ws (mark ∷ []))))

-- the lines of a body
pub body_written : (names : List Word) (literals : List (List ℕ)) (is_entry : Bool) (b : Body) (p : Printing) (start s1 s2 s3 now : List ℕ) →
    p ≡ record { names = names; literals = literals; places = places_of b } →
    s1 ≡ start ++ lines_text (if is_entry then line 2 (codes ".entrypoint" ∷ []) else []) →
    s2 ≡ s1 ++ lines_text (locals_line names b.locals) → s3 ≡ s2 ++ lines_text (code_lines p 0 b.code) → now ≡ s3 ++ lines_text (clause_lines p b.clauses) →
    now ≡ start ++ lines_text (body_lines names literals is_entry b)
body_written names literals is_entry b p start s1 s2 s3 now is_p is_entry_line are_locals are_ops are_clauses =
    let entry : List Line = if is_entry then line 2 (codes ".entrypoint" ∷ []) else [] in
    let locals = locals_line names b.locals in
    joined_lines ((entry ++ locals) ++ code_lines p 0 b.code) (clause_lines p b.clauses) start s3 now
    (joined_lines (entry ++ locals) (code_lines p 0 b.code) start s2 s3 (joined_lines entry locals start s1 s2 is_entry_line are_locals) are_ops) are_clauses
    ∙ ap (λ q. start ++ lines_text (((entry ++ locals) ++ code_lines q 0 b.code) ++ clause_lines q b.clauses)) is_p

-- a method without a body, and one with a body
pub bodiless : (names : List Word) (literals : List (List ℕ)) (is_entry : Bool) (head : List Word) (body : Option Body) (start now : List ℕ) → body ≡ None →
    now ≡ start ++ lines_text (line 1 (head ++ codes ";" ∷ [])) → now ≡ start ++ lines_text (bodied_lines names literals is_entry head body)
bodiless names literals is_entry head body start now none wrote =
    wrote ∙ ap (λ b. start ++ lines_text (bodied_lines names literals is_entry head b)) (sym none)

pub bodied : (names : List Word) (literals : List (List ℕ)) (is_entry : Bool) (head : List Word) (body : Option Body) (b : Body) (start s1 s2 now : List ℕ) → body ≡ Some b →
    s1 ≡ start ++ lines_text (line 1 (head ++ codes "{" ∷ [])) → s2 ≡ s1 ++ lines_text (body_lines names literals is_entry b) → now ≡ s2 ++ codes "  }\n" →
    now ≡ start ++ lines_text (bodied_lines names literals is_entry head body)
bodied names literals is_entry head body b start s1 s2 now some is_head is_body is_end =
    joined_lines (line 1 (head ++ codes "{" ∷ []) ++ body_lines names literals is_entry b) (line 1 (codes "}" ∷ [])) start s2 now
    (joined_lines (line 1 (head ++ codes "{" ∷ [])) (body_lines names literals is_entry b) start s1 s2 is_head is_body) is_end
    ∙ ap (λ x. start ++ lines_text (bodied_lines names literals is_entry head x)) (sym some)

-- the lines of a class
pub class_written : (p : Program) (names : List Word) (c : ClassDef) (start s1 s2 s3 now : List ℕ) → s1 ≡ start ++ lines_text (line 0 (class_head names c)) →
    s2 ≡ s1 ++ lines_text (flat_map (field_line names) c.fields) → s3 ≡ s2 ++ lines_text (flat_map (method_lines p names) c.methods) →
    now ≡ s3 ++ codes "}\n" → now ≡ start ++ lines_text (class_lines p names c)
class_written p names c start s1 s2 s3 now is_head are_fields are_methods is_end =
    let head = line 0 (class_head names c) in
    let fields = flat_map (field_line names) c.fields in
    let methods = flat_map (method_lines p names) c.methods in
    joined_lines ((head ++ fields) ++ methods) (line 0 (codes "}" ∷ [])) start s3 now
    (joined_lines (head ++ fields) methods start s2 s3 (joined_lines head fields start s1 s2 is_head are_fields) are_methods) is_end

-- how many bytes these lines have, part by part
pub lines_length : {X : Type 0} (f : X → List Line) (xs : List X) → length (lines_text (flat_map f xs)) ≡ sum_by (λ x. length (lines_text (f x))) xs
lines_length f [] = refl
lines_length f (x ∷ xs) =
    ap length (flat_map-append line_text (f x) (flat_map f xs))
    ∙ length-append (lines_text (f x)) (lines_text (flat_map f xs))
    ∙ ap (λ n. length (lines_text (f x)) + n) (lines_length f xs)
    ∙ sym (sum_by-cons (λ y. length (lines_text (f y))) x xs)
