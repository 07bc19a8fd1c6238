-- A body that is read was spelled so and may stand behind those before it.
use Rattle.std.proofs.Common.{◌≡◌, ◌∙◌, ℕ, zero, suc, ◌<◌, ◌^◌, ◌==◌, Bool, true, false, ◌||◌, cond, eqb, List, [], ◌∷◌, ◌++◌, length, map, take, flat_map, slice_get, is_none, Option, Some, None, Ok, refl, sym, ap, subst, append_assoc}
use Rattle.std.specs.Int.{w16, w32}
use Rattle.std.specs.List.{list_any, list_all, AllByRecursion}
use Rattle.std.proofs.lemmas.Bool.{true≢false, eqb-true, and_from, or_parts, not-true}
use Rattle.std.proofs.lemmas.List.{append-nil}
use Rattle.std.proofs.lemmas.List.Folds.{list_all-append}
use Rattle.std.proofs.lemmas.Option.{same_Some, option_and_then_some}
use Rattle.type_tree.specs.declared.tree.TExpr.{TExpr}
use Rattle.type_tree.specs.Tree.{has_variables_below}
use Rattle.il_model.specs.declared.key.KeyPart.{KeyPart}
use Rattle.il_model.specs.declared.key.KeyPart.TheVariants as part
use Rattle.il_model.specs.declared.key.BodyRow.{BodyRow}
use Rattle.il_model.specs.declared.method.Body.{Body}
use Rattle.il_model.specs.declared.method.MethodDef.{MethodDef}
use Rattle.il_model.specs.declared.program.Program.{Program}
use Rattle.il_model.specs.Found.{method_at}
use Rattle.il_model.specs.Admission.{most_positions}
use Rattle.il_model.specs.ClassRules.{has_counts}
use Rattle.rgctx_template.specs.Admitted.{is_admitted, is_bounded_throughout}
use Rattle.rgctx_template.specs.BodyRows.{exact_type, exact_types, is_unmixed, vars_of_owner, key_meets, entry_method, is_code_word, same_row, IsKeptBody, AreKeptBodies}
use Rattle.aot_image.specs.declared.image.ImageCause.TheVariants as cause
use Rattle.aot_image.specs.ImageSpelling.{byte, half, word, tree_bytes, part_bytes, handler_bytes, body_bytes}
use Rattle.aot_image.specs.ImagePicks.{same_pick, pick_of}
use Rattle.aot_image.specs.ImageForm.{tree_fits, BodyFits}
use Rattle.aot_image.specs.ImageReading.{Left, Reader, and_then, check, found_or_bad, fault_at, bad_table, read_byte, read_half, read_word, read_tree, read_exact, read_part_of, read_part, read_parts_from, compiled_at, clauses_in, variable_count, read_key, is_new_pick, read_place, is_frame, read_places_from, read_frame, read_handlers, read_body, read_bodies_from}
use Rattle.aot_image.proofs.StepLaws.{refusal, value_of, rest_of, stepped, stepped_check, stepped_found, IsBytes, Took, took_none, took_then, byte_sound, wide16, wide32, number_sound}
use Rattle.aot_image.proofs.TreeLaws.{tree_sound}

-- ---- keys

-- what the types of some parts satisfy, each by itself
pub record TypesAre (program : Program) (ts : List TExpr) : Type 0 where
  pub closed : list_all (has_variables_below 0 0) ts ≡ true
  pub counts : list_all (has_counts program) ts ≡ true
  pub fits : list_all tree_fits ts ≡ true
  pub admitted : list_all (is_admitted program) ts ≡ true
  pub bounds : list_all (is_bounded_throughout program) ts ≡ true

no_types : (program : Program) → TypesAre program []
no_types program = record { closed = refl; counts = refl; fits = refl; admitted = refl; bounds = refl }

both_all : (test : TExpr → Bool) (xs ys : List TExpr) → list_all test xs ≡ true → list_all test ys ≡ true → list_all test (xs ++ ys) ≡ true
both_all test xs ys a b = list_all-append test xs ys ∙ and_from _ _ a b

both_types : (program : Program) (xs ys : List TExpr) → TypesAre program xs → TypesAre program ys → TypesAre program (xs ++ ys)
both_types program xs ys a b =
    record {
      closed = both_all _ xs ys a.closed b.closed;
      counts = both_all _ xs ys a.counts b.counts;
      fits = both_all _ xs ys a.fits b.fits;
      admitted = both_all _ xs ys a.admitted b.admitted;
      bounds = both_all _ xs ys a.bounds b.bounds;
    }

exact_sound : (program : Program) (row : ℕ) (left : Left) (p : KeyPart) (back : Left) → IsBytes left.bytes → read_exact program row left ≡ Ok (p, back) →
    (t : TExpr) × (p ≡ part.Exact t) × Took left (tree_bytes t) back × TypesAre program (t ∷ [])
unfolding read_exact
exact_sound program row left p back fits e =
    stepped (read_tree program row most_positions most_positions left)
    (λ t more. and_then (check row (is_admitted program t) more) (λ _ more. and_then (check row (is_bounded_throughout program t) more) (λ _ more. Ok (part.Exact t, more))))
    p back e
    (λ t mid e1 e2.
    let read = tree_sound program row most_positions most_positions left t mid fits e1 in
    stepped_check row (is_admitted program t) mid (λ _ more. and_then (check row (is_bounded_throughout program t) more) (λ _ more. Ok (part.Exact t, more))) p back e2
    (λ admitted e3.
    stepped_check row (is_bounded_throughout program t) mid (λ _ more. Ok (part.Exact t, more)) p back e3
    (λ bounded e4.
    let value : part.Exact t ≡ p = value_of (part.Exact t) p mid back e4 in
    let stays : mid ≡ back = rest_of (part.Exact t) p mid back e4 in (
      t,
      sym value,
      subst (λ (l : Left). Took left (tree_bytes t) l) stays read.0,
      record {
        closed = and_from _ _ read.1.1.closed refl;
        counts = and_from _ _ read.1.1.counts refl;
        fits = and_from _ _ read.1.1.fits refl;
        admitted = and_from _ _ admitted refl;
        bounds = and_from _ _ bounded refl;
      },
    ))))

-- what a part was spelled as, and what its type satisfies
pub record PartRead (program : Program) (p : KeyPart) (left back : Left) : Type 0 where
  pub took : Took left (part_bytes p) back
  pub types : TypesAre program (exact_type p)

part_by : (program : Program) (row : ℕ) (n : ℕ) (left mid : Left) (p : KeyPart) (back : Left) (b0 b1 b2 : Bool) → eqb n 0 ≡ b0 → eqb n 1 ≡ b1 → eqb n 2 ≡ b2 →
    Took left (byte n) mid →
    (let r : Reader KeyPart = cond b0 (λ more. Ok (part.Ref, more)) (cond b1 (λ more. Ok (part.Any, more)) (cond b2 (read_exact program row) (bad_table row))) in r mid ≡ Ok (p, back)) →
    PartRead program p left back
part_by program row n left mid p back true b1 b2 is0 is1 is2 first e =
    let value : part.Ref ≡ p = value_of part.Ref p mid back e in
    let stays : mid ≡ back = rest_of part.Ref p mid back e in
    subst (λ (q : KeyPart). PartRead program q left back) value
    (record { took = subst (λ (l : Left). Took left (byte 0) l) stays (subst (λ (k : ℕ). Took left (byte k) mid) (eqb-true n 0 is0) first); types = no_types program })
part_by program row n left mid p back false true b2 is0 is1 is2 first e =
    let value : part.Any ≡ p = value_of part.Any p mid back e in
    let stays : mid ≡ back = rest_of part.Any p mid back e in
    subst (λ (q : KeyPart). PartRead program q left back) value
    (record { took = subst (λ (l : Left). Took left (byte 1) l) stays (subst (λ (k : ℕ). Took left (byte k) mid) (eqb-true n 1 is1) first); types = no_types program })
part_by program row n left mid p back false false true is0 is1 is2 first e =
    let x = exact_sound program row mid p back first.fits e in
    subst (λ (q : KeyPart). PartRead program q left back) (sym x.1)
    (record {
      took = took_then left mid back (byte 2) (tree_bytes x.0) (subst (λ (k : ℕ). Took left (byte k) mid) (eqb-true n 2 is2) first) x.2;
      types = x.3;
    })
part_by program row n left mid p back false false false is0 is1 is2 first e = refusal (fault_at row cause.BadTable) p back e

part_sound : (program : Program) (row : ℕ) (left : Left) (p : KeyPart) (back : Left) → IsBytes left.bytes → read_part program row left ≡ Ok (p, back) → PartRead program p left back
unfolding read_part
part_sound program row left p back fits e =
    stepped (read_byte left) (λ n. read_part_of program row n) p back e
    (λ n mid e1 e2.
    part_by program row n left mid p back (eqb n 0) (eqb n 1) (eqb n 2) refl refl refl (byte_sound left n mid fits e1).0 e2)

-- parts that were read behind those found
pub record PartsRead (program : Program) (n : ℕ) (found parts : List KeyPart) (left back : Left) : Type 0 where
  pub new : List KeyPart
  pub is : parts ≡ found ++ new
  pub took : Took left (flat_map part_bytes new) back
  pub count : length new ≡ n
  pub types : TypesAre program (exact_types new)
  pub unmixed : is_unmixed parts ≡ true

parts_sound : (program : Program) (row n : ℕ) (found : List KeyPart) (left : Left) (parts : List KeyPart) (back : Left) → IsBytes left.bytes → is_unmixed found ≡ true →
    read_parts_from program row n found left ≡ Ok (parts, back) → PartsRead program n found parts left back
unfolding read_parts_from
parts_sound program row zero found left parts back fits unmixed e =
    let same : found ≡ parts = value_of found parts left back e in
    let stays : left ≡ back = rest_of found parts left back e in
    record {
      new = [];
      is = sym same ∙ sym (append-nil found);
      took = subst (λ (l : Left). Took left [] l) stays (took_none left fits);
      count = refl;
      types = no_types program;
      unmixed = ap is_unmixed (sym same) ∙ unmixed;
    }
parts_sound program row (suc n) found left parts back fits unmixed e =
    stepped (read_part program row left)
    (λ p more. and_then (check row (is_unmixed (found ++ p ∷ [])) more) (λ _ more. read_parts_from program row n (found ++ p ∷ []) more))
    parts back e
    (λ p mid e1 e2.
    let one = part_sound program row left p mid fits e1 in
    stepped_check row (is_unmixed (found ++ p ∷ [])) mid (λ _ more. read_parts_from program row n (found ++ p ∷ []) more) parts back e2
    (λ now_unmixed e3.
    let others = parts_sound program row n (found ++ p ∷ []) mid parts back one.took.fits now_unmixed e3 in
    record {
      new = p ∷ others.new;
      is = others.is ∙ append_assoc found (p ∷ []) others.new;
      took = took_then left mid back (part_bytes p) (flat_map part_bytes others.new) one.took others.took;
      count = ap suc others.count;
      types = both_types program (exact_type p) (exact_types others.new) one.types others.types;
      unmixed = others.unmixed;
    }))

-- a key that was read
pub record KeyRead (program : Program) (m : MethodDef) (parts : List KeyPart) (left back : Left) : Type 0 where
  pub took : Took left (byte (length parts) ++ flat_map part_bytes parts) back
  pub few : length parts < 2 ^ 8
  pub count : length parts ≡ variable_count program m
  pub types : TypesAre program (exact_types parts)
  pub unmixed : is_unmixed parts ≡ true
  pub meets : key_meets program (vars_of_owner program m) m.vars parts ≡ true

key_sound : (program : Program) (row : ℕ) (m : MethodDef) (left : Left) (parts : List KeyPart) (back : Left) → IsBytes left.bytes → read_key program row m left ≡ Ok (parts, back) →
    KeyRead program m parts left back
unfolding read_key
key_sound program row m left parts back fits e =
    stepped (read_byte left)
    (λ n more. and_then (check row (n == variable_count program m) more) (λ _ more. and_then (read_parts_from program row n [] more) (λ ps more.
    and_then (check row (key_meets program (vars_of_owner program m) m.vars ps) more) (λ _ more. Ok (ps, more)))))
    parts back e
    (λ n mid e1 e2.
    let first = byte_sound left n mid fits e1 in
    stepped_check row (n == variable_count program m) mid
    (λ _ more. and_then (read_parts_from program row n [] more) (λ ps more. and_then (check row (key_meets program (vars_of_owner program m) m.vars ps) more) (λ _ more. Ok (ps, more))))
    parts back e2
    (λ counted e3.
    stepped (read_parts_from program row n [] mid) (λ ps more. and_then (check row (key_meets program (vars_of_owner program m) m.vars ps) more) (λ _ more. Ok (ps, more))) parts back e3
    (λ ps last e4 e5.
    let all = parts_sound program row n [] mid ps last first.0.fits refl e4 in
    stepped_check row (key_meets program (vars_of_owner program m) m.vars ps) last (λ _ more. Ok (ps, more)) parts back e5
    (λ meets e6.
    let new_is : ps ≡ all.new = all.is in
    let len : length ps ≡ n = ap length new_is ∙ all.count in
    let read : KeyRead program m ps left last = record {
      took = subst (λ (k : ℕ). Took left (byte k ++ flat_map part_bytes ps) last) (sym len)
          (took_then left mid last (byte n) (flat_map part_bytes ps) first.0 (subst (λ (xs : List KeyPart). Took mid (flat_map part_bytes xs) last) (sym new_is) all.took));
      few = subst (λ k. k < 256) (sym len) first.1;
      count = len ∙ eqb-true _ _ counted;
      types = subst (λ (xs : List KeyPart). TypesAre program (exact_types xs)) (sym new_is) all.types;
      unmixed = all.unmixed;
      meets = meets;
    } in
    subst (λ (l : Left). KeyRead program m parts left l) (rest_of ps parts last back e6) (subst (λ (xs : List KeyPart). KeyRead program m xs left last) (value_of ps parts last back e6) read)))))

-- ---- places

place_sound : (row count : ℕ) (left : Left) (n : ℕ) (back : Left) → IsBytes left.bytes → read_place row count left ≡ Ok (n, back) → Took left (word n) back × (is_code_word count n ≡ true)
unfolding read_place
place_sound row count left n back fits e =
    stepped (read_word left) (λ m more. and_then (check row (is_code_word count m) more) (λ _ more. Ok (m, more))) n back e
    (λ m mid e1 e2.
    let first = number_sound w32 (2 ^ 32) wide32 left m mid fits e1 in
    stepped_check row (is_code_word count m) mid (λ _ more. Ok (m, more)) n back e2
    (λ inside e3.
    subst (λ (l : Left). Took left (word n) l × (is_code_word count n ≡ true)) (rest_of m n mid back e3)
    (subst (λ (k : ℕ). Took left (word k) mid × (is_code_word count k ≡ true)) (value_of m n mid back e3) (first.0, inside))))

frame_sound : (row : ℕ) (left : Left) (n : ℕ) (back : Left) → IsBytes left.bytes → read_frame row left ≡ Ok (n, back) → Took left (word n) back × (is_frame n ≡ true)
unfolding read_frame
frame_sound row left n back fits e =
    stepped (read_word left) (λ m more. and_then (check row (is_frame m) more) (λ _ more. Ok (m, more))) n back e
    (λ m mid e1 e2.
    let first = number_sound w32 (2 ^ 32) wide32 left m mid fits e1 in
    stepped_check row (is_frame m) mid (λ _ more. Ok (m, more)) n back e2
    (λ inside e3.
    subst (λ (l : Left). Took left (word n) l × (is_frame n ≡ true)) (rest_of m n mid back e3)
    (subst (λ (k : ℕ). Took left (word k) mid × (is_frame k ≡ true)) (value_of m n mid back e3) (first.0, inside))))

pub record PlacesRead (count n : ℕ) (found places : List ℕ) (left back : Left) : Type 0 where
  pub new : List ℕ
  pub is : places ≡ found ++ new
  pub took : Took left (flat_map word new) back
  pub count_is : length new ≡ n
  pub inside : list_all (is_code_word count) new ≡ true

places_sound : (row count n : ℕ) (found : List ℕ) (left : Left) (places : List ℕ) (back : Left) → IsBytes left.bytes → read_places_from row count n found left ≡ Ok (places, back) →
    PlacesRead count n found places left back
unfolding read_places_from
places_sound row count zero found left places back fits e =
    let same : found ≡ places = value_of found places left back e in
    let stays : left ≡ back = rest_of found places left back e in
    record { new = []; is = sym same ∙ sym (append-nil found); took = subst (λ (l : Left). Took left [] l) stays (took_none left fits); count_is = refl; inside = refl }
places_sound row count (suc n) found left places back fits e =
    stepped (read_place row count left) (λ place more. read_places_from row count n (found ++ place ∷ []) more) places back e
    (λ place mid e1 e2.
    let one = place_sound row count left place mid fits e1 in
    let others = places_sound row count n (found ++ place ∷ []) mid places back one.0.fits e2 in
    record {
      new = place ∷ others.new;
      is = others.is ∙ append_assoc found (place ∷ []) others.new;
      took = took_then left mid back (word place) (flat_map word others.new) one.0 others.took;
      count_is = ap suc others.count_is;
      inside = and_from _ _ one.1 others.inside;
    })

-- the handlers of a body that were read
pub record HandlersRead (count : ℕ) (m : MethodDef) (handlers : List ℕ) (left back : Left) : Type 0 where
  pub took : Took left (handler_bytes handlers) back
  pub few : length handlers < 2 ^ 8
  pub each : length handlers ≡ length (clauses_in m.body)
  pub inside : list_all (is_code_word count) handlers ≡ true

handlers_sound : (row count : ℕ) (m : MethodDef) (left : Left) (handlers : List ℕ) (back : Left) → IsBytes left.bytes → read_handlers row count m left ≡ Ok (handlers, back) →
    HandlersRead count m handlers left back
unfolding read_handlers
handlers_sound row count m left handlers back fits e =
    stepped (read_byte left) (λ n more. and_then (check row (n == length (clauses_in m.body)) more) (λ _ more. read_places_from row count n [] more)) handlers back e
    (λ n mid e1 e2.
    let first = byte_sound left n mid fits e1 in
    stepped_check row (n == length (clauses_in m.body)) mid (λ _ more. read_places_from row count n [] more) handlers back e2
    (λ counted e3.
    let all = places_sound row count n [] mid handlers back first.0.fits e3 in
    let len : length handlers ≡ n = ap length all.is ∙ all.count_is in
    record {
      took = subst (λ (k : ℕ). Took left (byte k ++ flat_map word handlers) back) (sym len)
          (took_then left mid back (byte n) (flat_map word handlers) first.0 (subst (λ (xs : List ℕ). Took mid (flat_map word xs) back) (sym all.is) all.took));
      few = subst (λ k. k < 256) (sym len) first.1;
      each = len ∙ eqb-true _ _ counted;
      inside = ap (list_all (is_code_word count)) all.is ∙ all.inside;
    }))

-- ---- rows

-- a method that may be compiled is there and has a body
pub record MayCompile (program : Program) (number : ℕ) (m : MethodDef) : Type 0 where
  pub is : method_at program number ≡ Some m
  pub body : Body
  pub has : m.body ≡ Some body
  pub compiled : (number == entry_method) ≡ false

has_body : (o : Option Body) → is_none o ≡ false → (b : Body) × (o ≡ Some b)
has_body (Some b) e = (b, refl)
has_body None e = absurd (true≢false e)

may_compile_by : (program : Program) (number : ℕ) (n m : MethodDef) (b : Bool) → method_at program number ≡ Some n → (is_none n.body || (number == entry_method)) ≡ b →
    cond b None (Some n) ≡ Some m → MayCompile program number m
may_compile_by program number n m true at tests e = absurd cc
may_compile_by program number n m false at tests e =
    let same : n ≡ m = same_Some n m e in
    let both = or_parts (is_none n.body) (number == entry_method) tests in
    let body = has_body n.body both.0 in
    subst (λ (x : MethodDef). MayCompile program number x) same (record { is = at; body = body.0; has = body.1; compiled = both.1 })

may_compile : (program : Program) (number : ℕ) (m : MethodDef) → compiled_at program number ≡ Some m → MayCompile program number m
unfolding compiled_at
may_compile program number m e =
    option_and_then_some (λ n. cond (is_none n.body || (number == entry_method)) None (Some n)) (method_at program number) m e
    (λ n at e2. may_compile_by program number n m (is_none n.body || (number == entry_method)) at refl e2)

-- a row that was read behind rows
pub record BodyRead (program : Program) (count : ℕ) (earlier : List BodyRow) (row : BodyRow) (left back : Left) : Type 0 where
  pub took : Took left (body_bytes row) back
  pub fits : BodyFits row
  pub kept : IsKeptBody program count earlier row

pub any_pick : (p : BodyRow) (earlier : List BodyRow) → list_any (same_pick (pick_of p)) (map pick_of earlier) ≡ list_any (same_row p) earlier
any_pick p [] = refl
any_pick p (e ∷ es) = ap (λ b. same_row p e || b) (any_pick p es)

pub clauses_are : (o : Option Body) (b : Body) → o ≡ Some b → length (clauses_in o) ≡ length b.clauses
clauses_are o b e = ap (λ (x : Option Body). length (clauses_in x)) e

row_kept : (program : Program) (count : ℕ) (earlier : List BodyRow) (left a b c d back : Left) (number place frame : ℕ) (m : MethodDef) (parts : List KeyPart) (handlers : List ℕ) →
    Took left (half number) a → number < 2 ^ 16 → MayCompile program number m → KeyRead program m parts a b → is_new_pick (map pick_of earlier) number parts ≡ true →
    Took b (word place) c → is_code_word count place ≡ true → Took c (word frame) d → is_frame frame ≡ true → HandlersRead count m handlers d back →
    BodyRead program count earlier (record { method = number; key = record { parts = parts }; entry = place; frame = frame; handlers = handlers }) left back
row_kept program count earlier left a b c d back number place frame m parts handlers first lt may key new to_place inside to_frame sized last =
    let row : BodyRow = record { method = number; key = record { parts = parts }; entry = place; frame = frame; handlers = handlers } in
    record {
      took = took_then left b back (half number ++ (byte (length parts) ++ flat_map part_bytes parts)) (word place ++ (word frame ++ handler_bytes handlers))
          (took_then left a b (half number) (byte (length parts) ++ flat_map part_bytes parts) first key.took)
          (took_then b c back (word place) (word frame ++ handler_bytes handlers) to_place (took_then c d back (word frame) (handler_bytes handlers) to_frame last.took));
      fits = record { method = lt; parts = key.few; trees = key.types.fits; handlers = last.few };
      kept = record {
        method = m;
        is = may.is;
        body = may.body;
        has = may.has;
        compiled = may.compiled;
        closed = key.types.closed;
        counts = key.types.counts;
        parts = key.count;
        unmixed = key.unmixed;
        admitted = key.types.admitted;
        bounds = key.types.bounds;
        meets = key.meets;
        new = sym (any_pick row earlier) ∙ not-true (list_any (same_pick (pick_of row)) (map pick_of earlier)) new;
        entry = inside;
        handlers = last.inside;
        frame = sized;
        clauses = last.each ∙ clauses_are m.body may.body may.has;
      };
    }

body_sound : (program : Program) (count : ℕ) (earlier : List BodyRow) (left : Left) (row : BodyRow) (back : Left) → IsBytes left.bytes →
    read_body program count (map pick_of earlier) left ≡ Ok (row, back) → BodyRead program count earlier row left back
unfolding read_body
body_sound program count earlier left row back fits e =
    let at : ℕ = left.at in
    stepped (read_half left)
    (λ number more. and_then (found_or_bad at (compiled_at program number) more) (λ m more. and_then (read_key program at m more) (λ parts more.
    and_then (check at (is_new_pick (map pick_of earlier) number parts) more) (λ _ more. and_then (read_place at count more) (λ place more. and_then (read_frame at more) (λ frame more.
    and_then (read_handlers at count m more) (λ handlers more. Ok (record { method = number; key = record { parts = parts }; entry = place; frame = frame; handlers = handlers }, more))))))))
    row back e
    (λ number a e1 e2.
    let first = number_sound w16 (2 ^ 16) wide16 left number a fits e1 in
    stepped_found at (compiled_at program number) a
    (λ m more. and_then (read_key program at m more) (λ parts more.
    and_then (check at (is_new_pick (map pick_of earlier) number parts) more) (λ _ more. and_then (read_place at count more) (λ place more. and_then (read_frame at more) (λ frame more.
    and_then (read_handlers at count m more) (λ handlers more. Ok (record { method = number; key = record { parts = parts }; entry = place; frame = frame; handlers = handlers }, more)))))))
    row back e2
    (λ m is e3.
    stepped (read_key program at m a)
    (λ parts more.
    and_then (check at (is_new_pick (map pick_of earlier) number parts) more) (λ _ more. and_then (read_place at count more) (λ place more. and_then (read_frame at more) (λ frame more.
    and_then (read_handlers at count m more) (λ handlers more. Ok (record { method = number; key = record { parts = parts }; entry = place; frame = frame; handlers = handlers }, more))))))
    row back e3
    (λ parts b e4 e5.
    let key = key_sound program at m a parts b first.0.fits e4 in
    stepped_check at (is_new_pick (map pick_of earlier) number parts) b
    (λ _ more. and_then (read_place at count more) (λ place more. and_then (read_frame at more) (λ frame more.
    and_then (read_handlers at count m more) (λ handlers more. Ok (record { method = number; key = record { parts = parts }; entry = place; frame = frame; handlers = handlers }, more)))))
    row back e5
    (λ new e6.
    stepped (read_place at count b)
    (λ place more. and_then (read_frame at more) (λ frame more.
    and_then (read_handlers at count m more) (λ handlers more. Ok (record { method = number; key = record { parts = parts }; entry = place; frame = frame; handlers = handlers }, more))))
    row back e6
    (λ place c e7 e8.
    let to_place = place_sound at count b place c key.took.fits e7 in
    stepped (read_frame at c)
    (λ frame more.
    and_then (read_handlers at count m more) (λ handlers more. Ok (record { method = number; key = record { parts = parts }; entry = place; frame = frame; handlers = handlers }, more)))
    row back e8
    (λ frame d e9 e10.
    let to_frame = frame_sound at c frame d to_place.0.fits e9 in
    stepped (read_handlers at count m d) (λ handlers more. Ok (record { method = number; key = record { parts = parts }; entry = place; frame = frame; handlers = handlers }, more)) row back e10
    (λ handlers last e11 e12.
    let all = handlers_sound at count m d handlers last to_frame.0.fits e11 in
    let made : BodyRow = record { method = number; key = record { parts = parts }; entry = place; frame = frame; handlers = handlers } in
    let read : BodyRead program count earlier made left last =
    row_kept program count earlier left a b c d last number place frame m parts handlers first.0 first.1 (may_compile program number m is) key new to_place.0 to_place.1 to_frame.0 to_frame.1 all in
    subst (λ (l : Left). BodyRead program count earlier row left l) (rest_of made row last back e12)
    (subst (λ (x : BodyRow). BodyRead program count earlier x left last) (value_of made row last back e12) read))))))))

-- ---- tables of rows

-- each of these may stand behind those found and those before it
abbrev pub AreKept : Program → ℕ → List BodyRow → List BodyRow → Type 0
AreKept program count found [] = Unit {0}
AreKept program count found (r ∷ rs) = IsKeptBody program count found r × AreKept program count (found ++ r ∷ []) rs

kept_at : (program : Program) (count : ℕ) (found rows : List BodyRow) (k : ℕ) (row : BodyRow) → AreKept program count found rows → slice_get rows k ≡ Some row →
    IsKeptBody program count (found ++ take k rows) row
kept_at program count found [] k row all at = absurd cc
kept_at program count found (r ∷ rs) zero row all at =
    subst (λ (before : List BodyRow). IsKeptBody program count before row) (sym (append-nil found)) (subst (λ (x : BodyRow). IsKeptBody program count found x) (same_Some r row at) all.0)
kept_at program count found (r ∷ rs) (suc k) row all at =
    subst (λ (before : List BodyRow). IsKeptBody program count before row) (append_assoc found (r ∷ []) (take k rs)) (kept_at program count (found ++ r ∷ []) rs k row all.1 at)

pub are_kept : (program : Program) (count : ℕ) (rows : List BodyRow) → AreKept program count [] rows → AreKeptBodies program count rows
are_kept program count rows all = record { each = λ k row at. kept_at program count [] rows k row all at }

pub record BodiesRead (program : Program) (count n : ℕ) (found rows : List BodyRow) (left back : Left) : Type 0 where
  pub new : List BodyRow
  pub is : rows ≡ found ++ new
  pub took : Took left (flat_map body_bytes new) back
  pub count_is : length new ≡ n
  pub fits : AllByRecursion BodyFits new
  pub kept : AreKept program count found new

pub bodies_sound : (program : Program) (count n : ℕ) (found : List BodyRow) (left : Left) (rows : List BodyRow) (back : Left) → IsBytes left.bytes →
    read_bodies_from program count n found left ≡ Ok (rows, back) → BodiesRead program count n found rows left back
unfolding read_bodies_from
bodies_sound program count zero found left rows back fits e =
    let same : found ≡ rows = value_of found rows left back e in
    let stays : left ≡ back = rest_of found rows left back e in
    record { new = []; is = sym same ∙ sym (append-nil found); took = subst (λ (l : Left). Took left [] l) stays (took_none left fits); count_is = refl; fits = tt; kept = tt }
bodies_sound program count (suc n) found left rows back fits e =
    stepped (read_body program count (map pick_of found) left) (λ row more. read_bodies_from program count n (found ++ row ∷ []) more) rows back e
    (λ row mid e1 e2.
    let one = body_sound program count found left row mid fits e1 in
    let others = bodies_sound program count n (found ++ row ∷ []) mid rows back one.took.fits e2 in
    record {
      new = row ∷ others.new;
      is = others.is ∙ append_assoc found (row ∷ []) others.new;
      took = took_then left mid back (body_bytes row) (flat_map body_bytes others.new) one.took others.took;
      count_is = ap suc others.count_is;
      fits = (one.fits, others.fits);
      kept = (one.kept, others.kept);
    })
