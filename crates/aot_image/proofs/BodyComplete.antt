-- A body that may stand behind rows is read where it is spelled.
use Rattle.std.proofs.Common.{◌≡◌, ◌∙◌, ℕ, suc, ◌+◌, ◌-◌, ◌<◌, ◌≤◌, ◌^◌, ◌==◌, Bool, true, false, not, ◌||◌, cond, max, fold, sum_by, List, [], ◌∷◌, ◌++◌, length, map, take, flat_map, slice_get, option_and_then, is_none, Option, Some, None, Ok, refl, sym, ap, subst, append_assoc, arith}
use Rattle.std.specs.Int.{w16, w32}
use Rattle.std.specs.List.{list_any, list_all, AllByRecursion}
use Rattle.std.proofs.lemmas.Bool.{ltb-true, ltb-false, leb-true, eq-eqb, and_parts, or_from, not_from_false}
use Rattle.std.proofs.lemmas.List.{append-nil}
use Rattle.std.proofs.lemmas.List.Sums.{sum_by-cons}
use Rattle.std.proofs.lemmas.List.Folds.{list_all-append, list_any-append}
use Rattle.type_tree.specs.declared.tree.TExpr.{TExpr}
use Rattle.type_tree.specs.Positions.{positions_of}
use Rattle.type_tree.proofs.TreeLemmas.{folded-class_var, folded-method_var, holds_of_trees}
use Rattle.type_tree.proofs.PositionsLemmas.{positions_of-node, positions_of-class_var, positions_of-method_var}
use Rattle.il_model.specs.declared.key.KeyPart.{KeyPart}
use Rattle.il_model.specs.declared.key.KeyPart.TheVariants as part
use Rattle.il_model.specs.declared.key.BodyRow.{BodyRow}
use Rattle.il_model.specs.declared.method.Body.{Body}
use Rattle.il_model.specs.declared.method.MethodDef.{MethodDef}
use Rattle.il_model.specs.declared.program.Program.{Program}
use Rattle.il_model.specs.Found.{method_at}
use Rattle.il_model.specs.Admission.{most_positions}
use Rattle.rgctx_template.specs.Admitted.{is_admitted, is_bounded_throughout}
use Rattle.rgctx_template.specs.GotEntries.{level_depth, levels_of}
use Rattle.rgctx_template.specs.BodyRows.{exact_type, exact_types, is_any, is_unmixed, vars_of_owner, key_meets, entry_method, is_code_word, most_frame, IsKeptBody, AreKeptBodies}
use Rattle.aot_image.specs.ImageSpelling.{byte, half, word, tree_bytes, part_bytes, handler_bytes, body_bytes}
use Rattle.aot_image.specs.ImagePicks.{pick_of}
use Rattle.aot_image.specs.ImageForm.{BodyFits}
use Rattle.aot_image.specs.ImageReading.{Left, and_then, check, found_or_bad, read_byte, read_half, read_word, read_tree_within, read_tree, read_exact, read_part_of, read_part, read_parts_from, compiled_at, clauses_in, variable_count, read_key, is_new_pick, read_place, is_frame, read_places_from, read_frame, read_handlers, read_body, read_bodies_from}
use Rattle.aot_image.proofs.JudgingLemmas.{admitted_small}
use Rattle.aot_image.proofs.StepLaws.{Goes, goes_then, goes_check, goes_found, byte_goes, wide16, wide32, number_goes}
use Rattle.aot_image.proofs.TreeLaws.{levels_node, MayRead, tree_goes}
use Rattle.aot_image.proofs.BodyLaws.{TypesAre, any_pick, clauses_are}

pub goes_done : {A : Type 0} (x : A) (left : Left) (rest : List ℕ) → left.bytes ≡ rest → Goes (Ok (x, left)) x rest
goes_done x left rest is = record { back = left; is = refl; remains = is }

-- ---- trees

-- a tree has no more levels than positions
deep_parts : (acc : ℕ) (ts : List TExpr) → AllByRecursion (λ t. levels_of t ≤ positions_of t) ts → fold max acc (map levels_of ts) ≤ acc + sum_by positions_of ts
deep_parts acc [] all = omega arith
deep_parts acc (t ∷ ts) all = omega (arith, all.0, deep_parts (max acc (levels_of t)) ts all.1, sum_by-cons positions_of t ts)

pub levels_few : (t : TExpr) → levels_of t ≤ positions_of t
levels_few =
    holds_of_trees (λ t. levels_of t ≤ positions_of t)
    (λ head parts all. omega (arith, levels_node head parts, positions_of-node head parts, deep_parts 0 parts all))
    (λ n. omega (arith, folded-class_var level_depth n, positions_of-class_var n))
    (λ n. omega (arith, folded-method_var level_depth n, positions_of-method_var n))

pub read_tree_goes : (program : Program) (row levels positions : ℕ) (t : TExpr) (left : Left) (rest : List ℕ) → MayRead program levels positions t → left.bytes ≡ tree_bytes t ++ rest →
    Goes (read_tree program row levels positions left) t rest
unfolding read_tree
read_tree_goes program row levels positions t left rest may is =
    goes_then (read_tree_within program row levels positions left) (λ p more. Ok (p.0, more)) (t, positions - positions_of t) t rest rest
    (tree_goes program row levels t positions left rest may is) (λ back at. goes_done t back rest at)

-- ---- keys

may_read : (program : Program) (t : TExpr) → TypesAre program (t ∷ []) → MayRead program most_positions most_positions t
may_read program t are =
    let few : positions_of t ≤ most_positions = ltb-false _ _ (admitted_small program t (and_parts _ _ are.admitted).0) in
    record {
      counts = (and_parts _ _ are.counts).0;
      closed = (and_parts _ _ are.closed).0;
      fits = (and_parts _ _ are.fits).0;
      deep = omega (arith, few, levels_few t);
      few = few;
    }

exact_goes : (program : Program) (row : ℕ) (t : TExpr) (left : Left) (rest : List ℕ) → TypesAre program (t ∷ []) → left.bytes ≡ tree_bytes t ++ rest →
    Goes (read_exact program row left) (part.Exact t) rest
unfolding read_exact
exact_goes program row t left rest are is =
    goes_then (read_tree program row most_positions most_positions left)
    (λ u more. and_then (check row (is_admitted program u) more) (λ _ more. and_then (check row (is_bounded_throughout program u) more) (λ _ more. Ok (part.Exact u, more))))
    t (part.Exact t) rest rest (read_tree_goes program row most_positions most_positions t left rest (may_read program t are) is)
    (λ back at.
    goes_check row (is_admitted program t) back (λ _ more. and_then (check row (is_bounded_throughout program t) more) (λ _ more. Ok (part.Exact t, more))) (part.Exact t) rest
    (and_parts _ _ are.admitted).0
    (goes_check row (is_bounded_throughout program t) back (λ _ more. Ok (part.Exact t, more)) (part.Exact t) rest (and_parts _ _ are.bounds).0 (goes_done (part.Exact t) back rest at)))

part_goes : (program : Program) (row : ℕ) (p : KeyPart) (left : Left) (rest : List ℕ) → TypesAre program (exact_type p) → left.bytes ≡ part_bytes p ++ rest →
    Goes (read_part program row left) p rest
unfolding read_part
part_goes program row part.Ref left rest are is =
    goes_then (read_byte left) (λ n. read_part_of program row n) 0 part.Ref rest rest (byte_goes left 0 rest is) (λ back at. goes_done part.Ref back rest at)
part_goes program row part.Any left rest are is =
    goes_then (read_byte left) (λ n. read_part_of program row n) 1 part.Any rest rest (byte_goes left 1 rest is) (λ back at. goes_done part.Any back rest at)
part_goes program row (part.Exact t) left rest are is =
    goes_then (read_byte left) (λ n. read_part_of program row n) 2 (part.Exact t) (tree_bytes t ++ rest) rest (byte_goes left 2 (tree_bytes t ++ rest) is)
    (λ back at. exact_goes program row t back rest are at)

split_all : (test : TExpr → Bool) (xs ys : List TExpr) → list_all test (xs ++ ys) ≡ true → (list_all test xs ≡ true) × (list_all test ys ≡ true)
split_all test xs ys e = and_parts _ _ (sym (list_all-append test xs ys) ∙ e)

front_types : (program : Program) (xs ys : List TExpr) → TypesAre program (xs ++ ys) → TypesAre program xs
front_types program xs ys a =
    record {
      closed = (split_all _ xs ys a.closed).0;
      counts = (split_all _ xs ys a.counts).0;
      fits = (split_all _ xs ys a.fits).0;
      admitted = (split_all _ xs ys a.admitted).0;
      bounds = (split_all _ xs ys a.bounds).0;
    }

back_types : (program : Program) (xs ys : List TExpr) → TypesAre program (xs ++ ys) → TypesAre program ys
back_types program xs ys a =
    record {
      closed = (split_all _ xs ys a.closed).1;
      counts = (split_all _ xs ys a.counts).1;
      fits = (split_all _ xs ys a.fits).1;
      admitted = (split_all _ xs ys a.admitted).1;
      bounds = (split_all _ xs ys a.bounds).1;
    }

unmixed_by : (b : Bool) (xs ys : List KeyPart) → list_any is_any xs ≡ b → is_unmixed (xs ++ ys) ≡ true → is_unmixed xs ≡ true
unmixed_by false xs ys some e = ap (λ c. not c || list_all is_any xs) some
unmixed_by true xs ys some e =
    let any : list_any is_any (xs ++ ys) ≡ true = list_any-append is_any xs ys ∙ ap (λ c. c || list_any is_any ys) some in
    let all : list_all is_any (xs ++ ys) ≡ true = sym (ap (λ c. not c || list_all is_any (xs ++ ys)) any) ∙ e in
    let front : list_all is_any xs ≡ true = (and_parts _ _ (sym (list_all-append is_any xs ys) ∙ all)).0 in
    ap (λ c. not c || list_all is_any xs) some ∙ front

-- parts in front of others that do not mix do not mix
unmixed_front : (xs ys : List KeyPart) → is_unmixed (xs ++ ys) ≡ true → is_unmixed xs ≡ true
unmixed_front xs ys e = unmixed_by (list_any is_any xs) xs ys refl e

parts_goes : (program : Program) (row : ℕ) (ps found : List KeyPart) (left : Left) (rest : List ℕ) → TypesAre program (exact_types ps) → is_unmixed (found ++ ps) ≡ true →
    left.bytes ≡ flat_map part_bytes ps ++ rest → Goes (read_parts_from program row (length ps) found left) (found ++ ps) rest
unfolding read_parts_from
parts_goes program row [] found left rest are unmixed is =
    subst (λ (xs : List KeyPart). Goes (Ok (found, left)) xs rest) (sym (append-nil found)) (goes_done found left rest is)
parts_goes program row (p ∷ ps) found left rest are unmixed is =
    let regrouped : (found ++ p ∷ []) ++ ps ≡ found ++ p ∷ ps = append_assoc found (p ∷ []) ps in
    let unmixed_now : is_unmixed ((found ++ p ∷ []) ++ ps) ≡ true = ap is_unmixed regrouped ∙ unmixed in
    subst (λ (xs : List KeyPart). Goes (read_parts_from program row (length (p ∷ ps)) found left) xs rest) regrouped
    (goes_then (read_part program row left)
    (λ q more. and_then (check row (is_unmixed (found ++ q ∷ [])) more) (λ _ more. read_parts_from program row (length ps) (found ++ q ∷ []) more))
    p ((found ++ p ∷ []) ++ ps) (flat_map part_bytes ps ++ rest) rest
    (part_goes program row p left (flat_map part_bytes ps ++ rest) (front_types program (exact_type p) (exact_types ps) are) (is ∙ append_assoc (part_bytes p) (flat_map part_bytes ps) rest))
    (λ back at.
    goes_check row (is_unmixed (found ++ p ∷ [])) back (λ _ more. read_parts_from program row (length ps) (found ++ p ∷ []) more) ((found ++ p ∷ []) ++ ps) rest
    (unmixed_front (found ++ p ∷ []) ps unmixed_now)
    (parts_goes program row ps (found ++ p ∷ []) back rest (back_types program (exact_type p) (exact_types ps) are) unmixed_now at)))

key_goes : (program : Program) (row : ℕ) (m : MethodDef) (parts : List KeyPart) (left : Left) (rest : List ℕ) → TypesAre program (exact_types parts) → is_unmixed parts ≡ true →
    length parts ≡ variable_count program m → key_meets program (vars_of_owner program m) m.vars parts ≡ true → left.bytes ≡ (byte (length parts) ++ flat_map part_bytes parts) ++ rest →
    Goes (read_key program row m left) parts rest
unfolding read_key
key_goes program row m parts left rest are unmixed count meets is =
    goes_then (read_byte left)
    (λ n more. and_then (check row (n == variable_count program m) more) (λ _ more. and_then (read_parts_from program row n [] more) (λ ps more.
    and_then (check row (key_meets program (vars_of_owner program m) m.vars ps) more) (λ _ more. Ok (ps, more)))))
    (length parts) parts (flat_map part_bytes parts ++ rest) rest (byte_goes left (length parts) (flat_map part_bytes parts ++ rest) is)
    (λ a at.
    goes_check row (length parts == variable_count program m) a
    (λ _ more. and_then (read_parts_from program row (length parts) [] more) (λ ps more. and_then (check row (key_meets program (vars_of_owner program m) m.vars ps) more) (λ _ more. Ok (ps, more))))
    parts rest (eq-eqb _ _ count)
    (goes_then (read_parts_from program row (length parts) [] a) (λ ps more. and_then (check row (key_meets program (vars_of_owner program m) m.vars ps) more) (λ _ more. Ok (ps, more))) parts parts rest rest
    (parts_goes program row parts [] a rest are unmixed at)
    (λ b at_b.
    goes_check row (key_meets program (vars_of_owner program m) m.vars parts) b (λ _ more. Ok (parts, more)) parts rest meets (goes_done parts b rest at_b))))

-- ---- places

place_fits : (count n : ℕ) → is_code_word count n ≡ true → n < count
place_fits count n e = ltb-true _ _ (and_parts _ _ e).1

place_goes : (row count n : ℕ) (left : Left) (rest : List ℕ) → count < 2 ^ 32 → is_code_word count n ≡ true → left.bytes ≡ word n ++ rest → Goes (read_place row count left) n rest
unfolding read_place
place_goes row count n left rest small inside is =
    goes_then (read_word left) (λ m more. and_then (check row (is_code_word count m) more) (λ _ more. Ok (m, more))) n n rest rest
    (number_goes w32 (2 ^ 32) wide32 left n rest is (omega (arith, place_fits count n inside, small)))
    (λ back at. goes_check row (is_code_word count n) back (λ _ more. Ok (n, more)) n rest inside (goes_done n back rest at))

frame_goes : (row n : ℕ) (left : Left) (rest : List ℕ) → is_frame n ≡ true → left.bytes ≡ word n ++ rest → Goes (read_frame row left) n rest
unfolding read_frame
frame_goes row n left rest inside is =
    let le : n ≤ most_frame = leb-true _ _ (and_parts _ _ inside).1 in
    goes_then (read_word left) (λ m more. and_then (check row (is_frame m) more) (λ _ more. Ok (m, more))) n n rest rest
    (number_goes w32 (2 ^ 32) wide32 left n rest is (omega (arith, le)))
    (λ back at. goes_check row (is_frame n) back (λ _ more. Ok (n, more)) n rest inside (goes_done n back rest at))

places_goes : (row count : ℕ) (ns found : List ℕ) (left : Left) (rest : List ℕ) → count < 2 ^ 32 → list_all (is_code_word count) ns ≡ true → left.bytes ≡ flat_map word ns ++ rest →
    Goes (read_places_from row count (length ns) found left) (found ++ ns) rest
unfolding read_places_from
places_goes row count [] found left rest small inside is =
    subst (λ (xs : List ℕ). Goes (Ok (found, left)) xs rest) (sym (append-nil found)) (goes_done found left rest is)
places_goes row count (n ∷ ns) found left rest small inside is =
    let both = and_parts _ _ inside in
    subst (λ (xs : List ℕ). Goes (read_places_from row count (length (n ∷ ns)) found left) xs rest) (append_assoc found (n ∷ []) ns)
    (goes_then (read_place row count left) (λ m more. read_places_from row count (length ns) (found ++ m ∷ []) more) n ((found ++ n ∷ []) ++ ns) (flat_map word ns ++ rest) rest
    (place_goes row count n left (flat_map word ns ++ rest) small both.0 (is ∙ append_assoc (word n) (flat_map word ns) rest))
    (λ back at. places_goes row count ns (found ++ n ∷ []) back rest small both.1 at))

handlers_goes : (row count : ℕ) (m : MethodDef) (handlers : List ℕ) (left : Left) (rest : List ℕ) → count < 2 ^ 32 → length handlers ≡ length (clauses_in m.body) →
    list_all (is_code_word count) handlers ≡ true → left.bytes ≡ handler_bytes handlers ++ rest → Goes (read_handlers row count m left) handlers rest
unfolding read_handlers
handlers_goes row count m handlers left rest small each inside is =
    goes_then (read_byte left) (λ n more. and_then (check row (n == length (clauses_in m.body)) more) (λ _ more. read_places_from row count n [] more)) (length handlers) handlers
    (flat_map word handlers ++ rest) rest (byte_goes left (length handlers) (flat_map word handlers ++ rest) is)
    (λ back at.
    goes_check row (length handlers == length (clauses_in m.body)) back (λ _ more. read_places_from row count (length handlers) [] more) handlers rest (eq-eqb _ _ each)
    (places_goes row count handlers [] back rest small inside at))

-- ---- rows

compiled_is : (program : Program) (number : ℕ) (m : MethodDef) (b : Body) → method_at program number ≡ Some m → m.body ≡ Some b → (number == entry_method) ≡ false →
    compiled_at program number ≡ Some m
unfolding compiled_at
compiled_is program number m b is has other =
    let neither : (is_none m.body || (number == entry_method)) ≡ false = or_from _ _ (ap is_none has) other in
    ap (λ (o : Option MethodDef). option_and_then (λ n. cond (is_none n.body || (number == entry_method)) None (Some n)) o) is
    ∙ ap (λ c. cond c None (Some m)) neither

types_are : (program : Program) (count : ℕ) (earlier : List BodyRow) (row : BodyRow) → IsKeptBody program count earlier row → BodyFits row → TypesAre program (exact_types row.key.parts)
types_are program count earlier row kept fits =
    record { closed = kept.closed; counts = kept.counts; fits = fits.trees; admitted = kept.admitted; bounds = kept.bounds }

body_goes : (program : Program) (count : ℕ) (earlier : List BodyRow) (row : BodyRow) (left : Left) (rest : List ℕ) → count < 2 ^ 32 → IsKeptBody program count earlier row → BodyFits row →
    left.bytes ≡ body_bytes row ++ rest → Goes (read_body program count (map pick_of earlier) left) row rest
unfolding read_body
body_goes program count earlier row left rest small kept fits is =
    let at : ℕ = left.at in
    let m = kept.method in
    let parts = row.key.parts in
    let tail : List ℕ = word row.entry ++ (word row.frame ++ handler_bytes row.handlers) in
    let key_bytes : List ℕ = byte (length parts) ++ flat_map part_bytes parts in
    let first_is : left.bytes ≡ half row.method ++ (key_bytes ++ (tail ++ rest)) =
    is ∙ append_assoc (half row.method ++ key_bytes) tail rest ∙ append_assoc (half row.method) key_bytes (tail ++ rest) in
    let tail_is : tail ++ rest ≡ word row.entry ++ (word row.frame ++ (handler_bytes row.handlers ++ rest)) =
    append_assoc (word row.entry) (word row.frame ++ handler_bytes row.handlers) rest ∙ ap (λ (bs : List ℕ). word row.entry ++ bs) (append_assoc (word row.frame) (handler_bytes row.handlers) rest) in
    let new : is_new_pick (map pick_of earlier) row.method parts ≡ true = ap not (any_pick row earlier) ∙ not_from_false _ kept.new in
    goes_then (read_half left)
    (λ number more. and_then (found_or_bad at (compiled_at program number) more) (λ m more. and_then (read_key program at m more) (λ parts more.
    and_then (check at (is_new_pick (map pick_of earlier) number parts) more) (λ _ more. and_then (read_place at count more) (λ place more. and_then (read_frame at more) (λ frame more.
    and_then (read_handlers at count m more) (λ handlers more. Ok (record { method = number; key = record { parts = parts }; entry = place; frame = frame; handlers = handlers }, more))))))))
    row.method row (key_bytes ++ (tail ++ rest)) rest (number_goes w16 (2 ^ 16) wide16 left row.method (key_bytes ++ (tail ++ rest)) first_is fits.method)
    (λ a at_a.
    goes_found at (compiled_at program row.method) m a
    (λ m more. and_then (read_key program at m more) (λ parts more.
    and_then (check at (is_new_pick (map pick_of earlier) row.method parts) more) (λ _ more. and_then (read_place at count more) (λ place more. and_then (read_frame at more) (λ frame more.
    and_then (read_handlers at count m more) (λ handlers more. Ok (record { method = row.method; key = record { parts = parts }; entry = place; frame = frame; handlers = handlers }, more)))))))
    row rest (compiled_is program row.method m kept.body kept.is kept.has kept.compiled)
    (goes_then (read_key program at m a)
    (λ parts more.
    and_then (check at (is_new_pick (map pick_of earlier) row.method parts) more) (λ _ more. and_then (read_place at count more) (λ place more. and_then (read_frame at more) (λ frame more.
    and_then (read_handlers at count m more) (λ handlers more. Ok (record { method = row.method; key = record { parts = parts }; entry = place; frame = frame; handlers = handlers }, more))))))
    parts row (tail ++ rest) rest
    (key_goes program at m parts a (tail ++ rest) (types_are program count earlier row kept fits) kept.unmixed kept.parts kept.meets at_a)
    (λ b at_b.
    goes_check at (is_new_pick (map pick_of earlier) row.method parts) b
    (λ _ more. and_then (read_place at count more) (λ place more. and_then (read_frame at more) (λ frame more.
    and_then (read_handlers at count m more) (λ handlers more. Ok (record { method = row.method; key = record { parts = parts }; entry = place; frame = frame; handlers = handlers }, more)))))
    row rest new
    (goes_then (read_place at count b)
    (λ place more. and_then (read_frame at more) (λ frame more.
    and_then (read_handlers at count m more) (λ handlers more. Ok (record { method = row.method; key = record { parts = parts }; entry = place; frame = frame; handlers = handlers }, more))))
    row.entry row (word row.frame ++ (handler_bytes row.handlers ++ rest)) rest
    (place_goes at count row.entry b (word row.frame ++ (handler_bytes row.handlers ++ rest)) small kept.entry (at_b ∙ tail_is))
    (λ c at_c.
    goes_then (read_frame at c)
    (λ frame more.
    and_then (read_handlers at count m more) (λ handlers more. Ok (record { method = row.method; key = record { parts = parts }; entry = row.entry; frame = frame; handlers = handlers }, more)))
    row.frame row (handler_bytes row.handlers ++ rest) rest
    (frame_goes at row.frame c (handler_bytes row.handlers ++ rest) kept.frame at_c)
    (λ d at_d.
    goes_then (read_handlers at count m d)
    (λ handlers more. Ok (record { method = row.method; key = record { parts = parts }; entry = row.entry; frame = row.frame; handlers = handlers }, more))
    row.handlers row rest rest
    (handlers_goes at count m row.handlers d rest small (kept.clauses ∙ sym (clauses_are m.body kept.body kept.has)) kept.handlers at_d)
    (λ e at_e. goes_done row e rest at_e)))))))

bodies_from_goes : (program : Program) (count : ℕ) (rows found : List BodyRow) (left : Left) (rest : List ℕ) → count < 2 ^ 32 →
    ((k : ℕ) (row : BodyRow) → slice_get rows k ≡ Some row → IsKeptBody program count (found ++ take k rows) row) → AllByRecursion BodyFits rows →
    left.bytes ≡ flat_map body_bytes rows ++ rest → Goes (read_bodies_from program count (length rows) found left) (found ++ rows) rest
unfolding read_bodies_from
bodies_from_goes program count [] found left rest small kept fits is =
    subst (λ (xs : List BodyRow). Goes (Ok (found, left)) xs rest) (sym (append-nil found)) (goes_done found left rest is)
bodies_from_goes program count (r ∷ rs) found left rest small kept fits is =
    let first : IsKeptBody program count found r = subst (λ (before : List BodyRow). IsKeptBody program count before r) (append-nil found) (kept 0 r refl) in
    subst (λ (xs : List BodyRow). Goes (read_bodies_from program count (length (r ∷ rs)) found left) xs rest) (append_assoc found (r ∷ []) rs)
    (goes_then (read_body program count (map pick_of found) left) (λ row more. read_bodies_from program count (length rs) (found ++ row ∷ []) more) r ((found ++ r ∷ []) ++ rs)
    (flat_map body_bytes rs ++ rest) rest
    (body_goes program count found r left (flat_map body_bytes rs ++ rest) small first fits.0 (is ∙ append_assoc (body_bytes r) (flat_map body_bytes rs) rest))
    (λ back at.
    bodies_from_goes program count rs (found ++ r ∷ []) back rest small
    (λ k row here. subst (λ (before : List BodyRow). IsKeptBody program count before row) (sym (append_assoc found (r ∷ []) (take k rs))) (kept (suc k) row here)) fits.1 at))

pub bodies_goes : (program : Program) (count : ℕ) (rows : List BodyRow) (left : Left) (rest : List ℕ) → count < 2 ^ 32 → AreKeptBodies program count rows → AllByRecursion BodyFits rows →
    left.bytes ≡ flat_map body_bytes rows ++ rest → Goes (read_bodies_from program count (length rows) [] left) rows rest
bodies_goes program count rows left rest small kept fits is = bodies_from_goes program count rows [] left rest small kept.each fits is
