-- The picks that lines leave satisfy what is asked of the method and the key of a row, and no two are the same.
use Rattle.std.proofs.Common.{◌≡◌, ◌∙◌, ◌+◌, ℕ, zero, suc, Bool, true, false, not, ◌&&◌, ◌||◌, List, [], ◌∷◌, ◌++◌, length, map, filter, take, zip, slice_get, is_none, Option, Some, None, Ok, Err, refl, sym, ap, subst, arith}
use Rattle.std.specs.Prelude.{◌==◌, if◌then◌else◌, nat_eq, codes, bytes_eq, ⊤}
use Rattle.std.specs.List.{list_any, list_all, AllByRecursion}
use Rattle.std.specs.Cmp.Lexicographic.{pointwise}
use Rattle.std.proofs.lemmas.Bool.{eqb-true, not-true, or_parts, or_from}
use Rattle.std.proofs.lemmas.List.{length-append, length-map}
use Rattle.std.proofs.lemmas.List.Folds.{list_any-append}
use Rattle.std.proofs.lemmas.Option.{same_Some}
use Rattle.il_text.specs.Spelling.{after_byte}
use Rattle.type_tree.specs.declared.tree.TExpr.{TExpr}
use Rattle.type_tree.specs.Tree.{has_variables_below}
use Rattle.il_model.specs.declared.class.VarDef.{VarDef}
use Rattle.il_model.specs.declared.method.Body.{Body}
use Rattle.il_model.specs.declared.method.MethodDef.{MethodDef}
use Rattle.il_model.specs.declared.key.BodyRow.{BodyRow}
use Rattle.il_model.specs.declared.key.KeyPart.{KeyPart}
use Rattle.il_model.specs.declared.key.KeyPart.TheVariants.{Ref, Any, Exact}
use Rattle.il_model.specs.declared.program.Program.{Program}
use Rattle.il_model.specs.Found.{method_at}
use Rattle.il_model.specs.ClassRules.{has_counts}
use Rattle.rgctx_template.specs.Admitted.{is_admitted, is_bounded_throughout}
use Rattle.rgctx_template.specs.BodyRows as rows
use Rattle.rgctx_template.specs.BodyRows.{is_any, exact_types, is_unmixed, vars_of_owner, class_arguments, method_arguments, part_meets, key_meets, same_row, entry_method}
use Rattle.aot_image.specs.declared.choice_fault.ChoiceCause.{ChoiceCause}
use Rattle.aot_image.specs.declared.choice_judging.Act.{Act}
use Rattle.aot_image.specs.declared.choice_judging.Act.TheVariants as act
use Rattle.aot_image.specs.ChoosingParts.{lines_of, words_of}
use Rattle.aot_image.specs.ChoosingMethods.{full_of, method_with}
use Rattle.aot_image.specs.ChoosingKeys.{keys_of}
use Rattle.aot_image.specs.ChoosingBounds.{vars_of, is_closed, is_closed_part, is_good_part, is_admitted_key, cause_of}
use Rattle.aot_image.specs.ChoosingSame.{both, joined}
use Rattle.aot_image.specs.ChoosingPicks.{Pick, pick_of, same_part, same_pick, with_pick, may_have_body, any_part, general_pick, with_general_of, with_general, picks_after}
use Rattle.aot_image.specs.ChoosingLines.{Judged, on_definition, on_method, taken_away, added_keys, added, added_words, addition, is_remark, judged_by, judged}
use Rattle.aot_image.specs.Choosing.{Chosen, after_line, behind_line, left_by, chosen}
use Rattle.aot_image.specs.Kept.{IsKeptPick, pick_in, AreKeptPicks}
use Rattle.aot_image.proofs.ChoosingBoundsLemmas.{caused}
use Rattle.aot_image.proofs.KeptTypes.{Given, either, AreCountedParts, keys_counted}

-- ---- the types of a key

closed_types : (parts : List KeyPart) → list_all is_closed_part parts ≡ true → list_all (has_variables_below 0 0) (exact_types parts) ≡ true
closed_types [] e = refl
closed_types (Ref ∷ ps) e = closed_types ps e
closed_types (Any ∷ ps) e = closed_types ps e
closed_types (Exact t ∷ ps) e = let b = both (is_closed t) (list_all is_closed_part ps) e in joined _ _ b.0 (closed_types ps b.1)

abbrev AreGood : Program → List TExpr → Type 0
AreGood program ts = (list_all (is_admitted program) ts ≡ true) × (list_all (is_bounded_throughout program) ts ≡ true)

good_types : (program : Program) (parts : List KeyPart) → list_all (is_good_part program) parts ≡ true → AreGood program (exact_types parts)
good_types program [] e = (refl, refl)
good_types program (Ref ∷ ps) e = good_types program ps e
good_types program (Any ∷ ps) e = good_types program ps e
good_types program (Exact t ∷ ps) e =
    let b = both (is_good_part program (Exact t)) (list_all (is_good_part program) ps) e in
    let one = both (is_admitted program t) (is_bounded_throughout program t) b.0 in
    let rest = good_types program ps b.1 in
    (joined _ _ one.0 rest.0, joined _ _ one.1 rest.1)

no_types : (vs : List VarDef) → exact_types (map any_part vs) ≡ []
no_types [] = refl
no_types (v ∷ vs) = no_types vs

all_any : (vs : List VarDef) → list_all is_any (map any_part vs) ≡ true
all_any [] = refl
all_any (v ∷ vs) = all_any vs

or_last : (a b : Bool) → b ≡ true → (a || b) ≡ true
or_last true b e = refl
or_last false b e = e

any_meets : (program : Program) (class_args method_args : List TExpr) (vars vs : List VarDef) →
    list_all (part_meets program class_args method_args) (zip vars (map any_part vs)) ≡ true
any_meets program class_args method_args [] vs = refl
any_meets program class_args method_args (v ∷ vars) [] = refl
any_meets program class_args method_args (v ∷ vars) (w ∷ vs) = any_meets program class_args method_args vars vs

-- ---- one pick

-- what the method and the key of a pick satisfy by themselves
record IsFit (program : Program) (number : ℕ) (keys : List KeyPart) : Type 0 where
  method : MethodDef
  is : method_at program number ≡ Some method
  body : Body
  has : method.body ≡ Some body
  compiled : (number == entry_method) ≡ false
  closed : list_all (has_variables_below 0 0) (exact_types keys) ≡ true
  counts : list_all (has_counts program) (exact_types keys) ≡ true
  parts : length keys ≡ length (vars_of_owner program method) + length method.vars
  unmixed : is_unmixed keys ≡ true
  admitted : list_all (is_admitted program) (exact_types keys) ≡ true
  bounds : list_all (is_bounded_throughout program) (exact_types keys) ≡ true
  meets : key_meets program (vars_of_owner program method) method.vars keys ≡ true

body_of : (o : Option Body) → not (is_none o) ≡ true → (b : Body) × (o ≡ Some b)
body_of None e = absurd cc
body_of (Some b) e = (b, refl)

not_caused : (a b c d : Bool) → caused a b c d ≡ None → (a ≡ true) × (b ≡ true) × (c ≡ true) × (d ≡ true)
not_caused false b c d e = absurd cc
not_caused true false c d e = absurd cc
not_caused true true false d e = absurd cc
not_caused true true true false e = absurd cc
not_caused true true true true e = (refl, refl, refl, refl)

module _ (program : Program) (number : ℕ) (m : MethodDef) (is : method_at program number ≡ Some m) (may : may_have_body number m ≡ true) where
  abbrev sides : (not (is_none m.body) ≡ true) × (not (number == entry_method) ≡ true)
  sides = both (not (is_none m.body)) (not (number == entry_method)) may

  -- a key that no cause refuses
  added_fit : (keys : List KeyPart) → AreCountedParts program keys → cause_of program m keys ≡ None → IsFit program number keys
  added_fit keys counted none =
      let holds = not_caused (length keys == length (vars_of program m)) (list_all is_closed_part keys) (is_unmixed keys) (is_admitted_key program m keys) none in
      let good = both (list_all (is_good_part program) keys) (key_meets program (vars_of_owner program m) m.vars keys) holds.3 in
      let types = good_types program keys good.0 in
      let some = body_of m.body sides.0 in
      record {
        method = m;
        is = is;
        body = some.0;
        has = some.1;
        compiled = not-true (number == entry_method) sides.1;
        closed = closed_types keys holds.1;
        counts = counted;
        parts = eqb-true (length keys) (length (vars_of program m)) holds.0 ∙ length-append (vars_of_owner program m) m.vars;
        unmixed = holds.2;
        admitted = types.0;
        bounds = types.1;
        meets = good.1;
      }

  -- the key that serves all types
  general_fit : IsFit program number (map any_part (vars_of program m))
  general_fit =
      let none = no_types (vars_of program m) in
      let some = body_of m.body sides.0 in
      record {
        method = m;
        is = is;
        body = some.0;
        has = some.1;
        compiled = not-true (number == entry_method) sides.1;
        closed = ap (list_all (has_variables_below 0 0)) none;
        counts = ap (list_all (has_counts program)) none;
        parts = length-map (vars_of program m) any_part ∙ length-append (vars_of_owner program m) m.vars;
        unmixed = or_last (not (list_any is_any (map any_part (vars_of program m)))) (list_all is_any (map any_part (vars_of program m))) (all_any (vars_of program m));
        admitted = ap (list_all (is_admitted program)) none;
        bounds = ap (list_all (is_bounded_throughout program)) none;
        meets = any_meets program _ _ (vars_of program m) (vars_of program m);
      }

-- ---- no two are the same

abbrev Apart : List Pick → Type 0
Apart [] = ⊤
Apart (x ∷ xs) = (list_any (λ y. same_pick y x) xs ≡ false) × Apart xs

apart_push : (picks : List Pick) (p : Pick) → list_any (same_pick p) picks ≡ false → Apart picks → Apart (picks ++ p ∷ [])
apart_push [] p new apart = (refl, tt)
apart_push (x ∷ xs) p new apart =
    let parts = or_parts (same_pick p x) (list_any (same_pick p) xs) new in (
      list_any-append (λ y. same_pick y x) xs (p ∷ []) ∙ or_from (list_any (λ y. same_pick y x) xs) (same_pick p x || false) apart.0 (or_from (same_pick p x) false parts.0 refl),
      apart_push xs p parts.1 apart.1,
    )

none_left : (test keep : Pick → Bool) (xs : List Pick) → list_any test xs ≡ false → list_any test (filter keep xs) ≡ false
none_left test keep [] none = refl
none_left test keep (x ∷ xs) none =
    let parts = or_parts (test x) (list_any test xs) none in
    either (λ ys. list_any test ys ≡ false) (keep x) (x ∷ filter keep xs) (filter keep xs)
    (or_from (test x) (list_any test (filter keep xs)) parts.0 (none_left test keep xs parts.1)) (none_left test keep xs parts.1)

apart_left : (keep : Pick → Bool) (xs : List Pick) → Apart xs → Apart (filter keep xs)
apart_left keep [] apart = tt
apart_left keep (x ∷ xs) apart =
    either Apart (keep x) (x ∷ filter keep xs) (filter keep xs) (none_left (λ y. same_pick y x) keep xs apart.0, apart_left keep xs apart.1) (apart_left keep xs apart.1)

module _ (P : Pick → Type 0) where
  all_push : (xs : List Pick) (p : Pick) → AllByRecursion P xs → P p → AllByRecursion P (xs ++ p ∷ [])
  all_push [] p all one = (one, tt)
  all_push (x ∷ xs) p all one = (all.0, all_push xs p all.1 one)

  all_left : (keep : Pick → Bool) (xs : List Pick) → AllByRecursion P xs → AllByRecursion P (filter keep xs)
  all_left keep [] all = tt
  all_left keep (x ∷ xs) all =
      either (AllByRecursion P) (keep x) (x ∷ filter keep xs) (filter keep xs) (all.0, all_left keep xs all.1) (all_left keep xs all.1)

-- ---- what a line does to picks

tested : {A : Type 0} (P : A → Type 0) (b : Bool) (x y : A) → (b ≡ true → P x) → (b ≡ false → P y) → P (if b then x else y)
tested P true x y h k = h refl
tested P false x y h k = k refl

module _ (program : Program) where
  abbrev FitPick : Pick → Type 0
  FitPick p = IsFit program p.0 p.1.parts

  record AreFit (picks : List Pick) : Type 0 where
    fits : AllByRecursion FitPick picks
    apart : Apart picks

  push_fits : (picks : List Pick) (p : Pick) → FitPick p → AreFit picks → AreFit (with_pick picks p)
  push_fits picks p one fit =
      tested AreFit (list_any (same_pick p) picks) picks (picks ++ p ∷ []) (λ there. fit)
      (λ new. record { fits = all_push FitPick picks p fit.fits one; apart = apart_push picks p new fit.apart })

  general_fits : (number : ℕ) (m : MethodDef) (picks : List Pick) → method_at program number ≡ Some m → AreFit picks → AreFit (with_general_of program number m picks)
  general_fits number m picks is fit =
      tested AreFit (may_have_body number m) (with_pick picks (general_pick program number m)) picks
      (λ may. push_fits picks (general_pick program number m) (general_fit program number m is may) fit) (λ not. fit)

  all_fit : (ms : List MethodDef) (number : ℕ) (picks : List Pick) → ((k : ℕ) (m : MethodDef) → slice_get ms k ≡ Some m → method_at program (number + k) ≡ Some m) →
      AreFit picks → AreFit (with_general program number ms picks)
  all_fit [] number picks at fit = fit
  all_fit (m ∷ ms) number picks at fit =
      let same : number + 0 ≡ number = omega arith in
      all_fit ms (number + 1) (with_general_of program number m picks)
      (λ k d is. let next : number + suc k ≡ number + 1 + k = omega arith in subst (λ (n : ℕ). method_at program n ≡ Some d) next (at (suc k) d is))
      (general_fits number m picks (subst (λ (n : ℕ). method_at program n ≡ Some m) same (at 0 m refl)) fit)

  abbrev ActFits : Act → Type 0
  ActFits act.Nothing = ⊤
  ActFits act.AddsAll = ⊤
  ActFits (act.TakesAway number) = ⊤
  ActFits (act.Adds number keys) = IsFit program number keys

  after_fits : (a : Act) (picks : List Pick) → ActFits a → AreFit picks → AreFit (picks_after program a picks)
  after_fits act.Nothing picks h fit = fit
  after_fits act.AddsAll picks h fit =
      all_fit program.methods 0 picks
      (λ k m is. let same : k ≡ 0 + k = omega arith in subst (λ (n : ℕ). method_at program n ≡ Some m) same is) fit
  after_fits (act.TakesAway number) picks h fit = record {
    fits = all_left FitPick (λ pick. not (nat_eq pick.0 number)) picks fit.fits;
    apart = apart_left (λ pick. not (nat_eq pick.0 number)) picks fit.apart;
  }
  after_fits (act.Adds number keys) picks h fit = push_fits picks (pick_of number keys) h fit

  -- ---- what a line says

  abbrev JudgedFits : Judged → Type 0
  JudgedFits (Ok a) = ActFits a
  JudgedFits (Err why) = ⊤

  abbrev NextFits : (ℕ → MethodDef → Judged) → Type 0
  NextFits next = (number : ℕ) (m : MethodDef) → method_at program number ≡ Some m → JudgedFits (next number m)

  defined_fits : (number : ℕ) (o : Option MethodDef) (next : ℕ → MethodDef → Judged) → method_at program number ≡ o → NextFits next → JudgedFits (on_definition o (next number))
  defined_fits number None next is h = tt
  defined_fits number (Some m) next is h = h number m is

  method_fits : (o : Option ℕ) (next : ℕ → MethodDef → Judged) → NextFits next → JudgedFits (on_method program o next)
  method_fits None next h = tt
  method_fits (Some number) next h = defined_fits number (method_at program number) next refl h

  taken_fits : (o : Option (List ℕ)) → JudgedFits (taken_away program o)
  taken_fits None = tt
  taken_fits (Some text) =
      method_fits (method_with program text) _ (λ number m is. either JudgedFits (is_none m.body) _ _ tt tt)

  keys_fit : (number : ℕ) (keys : List KeyPart) (c : Option ChoiceCause) → (c ≡ None → IsFit program number keys) → JudgedFits (added_keys number keys c)
  keys_fit number keys (Some why) h = tt
  keys_fit number keys None h = h refl

  added_fits : (text : List ℕ) (o : Option (List KeyPart)) → Given (AreCountedParts program) o → JudgedFits (added program text o)
  added_fits text None counted = tt
  added_fits text (Some keys) counted =
      method_fits (method_with program text) _
      (λ number m is.
      tested JudgedFits (may_have_body number m) _ _
      (λ may. keys_fit number keys (cause_of program m keys) (λ none. added_fit program number m is may keys counted none)) (λ not. tt))

  words_fit : (o : Option (List ℕ)) (words : List (List ℕ)) → JudgedFits (added_words program o words)
  words_fit None words = tt
  words_fit (Some text) words = added_fits text (keys_of program words) (keys_counted program words)

  addition_fits : (words : List (List ℕ)) → JudgedFits (addition program words)
  addition_fits [] = tt
  addition_fits (method ∷ words) = words_fit (full_of method) words

  by_fits : (line : List ℕ) (o : Option (List ℕ)) → JudgedFits (judged_by program line o)
  by_fits line (Some method) = taken_fits (full_of method)
  by_fits line None = addition_fits (words_of line)

  judged_fits : (line : List ℕ) → JudgedFits (judged program line)
  unfolding judged
  judged_fits line =
      either JudgedFits (is_remark line) _ _ tt
      (either JudgedFits (bytes_eq (codes "*") line) _ _ tt (by_fits line (after_byte 33 line)))

  -- ---- lines, one after another

  abbrev ChosenFits : Chosen → Type 0
  ChosenFits (Ok picks) = AreFit picks
  ChosenFits (Err f) = ⊤

  line_fits : (number : ℕ) (picks : List Pick) (j : Judged) (rest : List Pick → Chosen) → JudgedFits j → AreFit picks → ((more : List Pick) → AreFit more → ChosenFits (rest more)) →
      ChosenFits (behind_line number (after_line program picks j) rest)
  line_fits number picks (Ok a) rest h fit go = go (picks_after program a picks) (after_fits a picks h fit)
  line_fits number picks (Err why) rest h fit go = tt

  lines_fit : (lines : List (List ℕ)) (number : ℕ) (picks : List Pick) → AreFit picks → ChosenFits (left_by program number picks lines)
  unfolding left_by
  lines_fit [] number picks fit = fit
  lines_fit (line ∷ lines) number picks fit =
      line_fits number picks (judged program line) (λ more. left_by program (number + 1) more lines) (judged_fits line) fit (λ more f. lines_fit lines (number + 1) more f)

-- ---- rows with these methods and keys

parts_same : (a b : KeyPart) → rows.same_part a b ≡ same_part a b
parts_same Ref Ref = refl
parts_same Ref Any = refl
parts_same Ref (Exact t) = refl
parts_same Any Ref = refl
parts_same Any Any = refl
parts_same Any (Exact t) = refl
parts_same (Exact s) Ref = refl
parts_same (Exact s) Any = refl
parts_same (Exact s) (Exact t) = refl

keys_same : (xs ys : List KeyPart) → pointwise rows.same_part xs ys ≡ pointwise same_part xs ys
keys_same [] [] = refl
keys_same [] (y ∷ ys) = refl
keys_same (x ∷ xs) [] = refl
keys_same (x ∷ xs) (y ∷ ys) = λ i. parts_same x y i && keys_same xs ys i

row_same : (a b : BodyRow) → same_row a b ≡ same_pick (pick_in a) (pick_in b)
row_same a b = ap (λ s. (a.method == b.method) && s) (keys_same a.key.parts b.key.parts)

row_apart : (bodies : List BodyRow) (k : ℕ) (row first : BodyRow) → list_any (λ y. same_pick y (pick_in first)) (map pick_in bodies) ≡ false →
    slice_get bodies k ≡ Some row → same_row row first ≡ false
row_apart [] k row first none is = absurd cc
row_apart (x ∷ xs) zero row first none is =
    let parts = or_parts (same_pick (pick_in x) (pick_in first)) (list_any (λ y. same_pick y (pick_in first)) (map pick_in xs)) none in
    subst (λ (r : BodyRow). same_row r first ≡ false) (same_Some x row is) (row_same x first ∙ parts.0)
row_apart (x ∷ xs) (suc k) row first none is =
    let parts = or_parts (same_pick (pick_in x) (pick_in first)) (list_any (λ y. same_pick y (pick_in first)) (map pick_in xs)) none in
    row_apart xs k row first parts.1 is

rows_apart : (bodies : List BodyRow) (k : ℕ) (row : BodyRow) → Apart (map pick_in bodies) → slice_get bodies k ≡ Some row → list_any (same_row row) (take k bodies) ≡ false
rows_apart [] k row apart is = absurd cc
rows_apart (r ∷ rs) zero row apart is = refl
rows_apart (r ∷ rs) (suc k) row apart is = or_from (same_row row r) (list_any (same_row row) (take k rs)) (row_apart rs k row r apart.0 is) (rows_apart rs k row apart.1 is)

fit_at : (program : Program) (bodies : List BodyRow) (k : ℕ) (row : BodyRow) → AllByRecursion (FitPick program) (map pick_in bodies) → slice_get bodies k ≡ Some row →
    IsFit program row.method row.key.parts
fit_at program [] k row all is = absurd cc
fit_at program (r ∷ rs) zero row all is = subst (λ (b : BodyRow). IsFit program b.method b.key.parts) (same_Some r row is) all.0
fit_at program (r ∷ rs) (suc k) row all is = fit_at program rs k row all.1 is

rows_kept : (program : Program) (bodies : List BodyRow) (k : ℕ) (row : BodyRow) → AreFit program (map pick_in bodies) → slice_get bodies k ≡ Some row → IsKeptPick program (take k bodies) row
rows_kept program bodies k row fit is =
    let one = fit_at program bodies k row fit.fits is in
    record {
      method = one.method;
      is = one.is;
      body = one.body;
      has = one.has;
      compiled = one.compiled;
      closed = one.closed;
      counts = one.counts;
      parts = one.parts;
      unmixed = one.unmixed;
      admitted = one.admitted;
      bounds = one.bounds;
      meets = one.meets;
      new = rows_apart bodies k row fit.apart is;
    }

-- the picks that a choice leaves may be the bodies of an image
pub kept-picks : (program : Program) (text : List ℕ) (picks : List Pick) → chosen program text ≡ Ok picks → AreKeptPicks program picks
kept-picks program text picks is =
    let none : AreFit program [] = record { fits = tt; apart = tt } in
    let fit : AreFit program picks = subst (ChosenFits program) is (lines_fit program (lines_of text) 1 [] none) in
    record { each = λ bodies k row same at. rows_kept program bodies k row (subst (AreFit program) (sym same) fit) at }
