-- The arguments of a call, taken from the last to the first.
use Rattle.std.proofs.Common.{◌≡◌, ℕ, ◌+◌, ◌-◌, ◌<◌, ◌≤◌, Bool, true, false, cond, List, [], ◌∷◌, ◌++◌, length, map, take, drop, reverse, get_or, Option, None, refl, sym, ap, subst, ◌∙◌, arith}
use Rattle.std.proofs.lemmas.List.{drop_more, reverse-append, map-append, take-append-drop}
use Rattle.cil_flow.specs.declared.state.StackType.{StackType}
use Rattle.il_model.specs.declared.method.PType.{PType}
use Rattle.il_model.specs.declared.member.MRef.{MRef}
use Rattle.cil_verify.specs.Places.{View}
use Rattle.cil_verify.specs.Fits.{fits_place}
use Rattle.cil_verify.specs.Members.{place_at}
use Rattle.cil_verify.specs.Admits.{Operands, take_one, take_places, after_call}
use Rattle.cil_verify.specs.Taking.{if_taken, Takes}
use Rattle.cil_verify.proofs.TakingLemmas.{goes_on}

take_one_agrees : (test : StackType → Bool) (f g : Operands → Option Operands) → ((s : Operands) → f s ≡ g s) → (s : Operands) → take_one test f s ≡ take_one test g s
take_one_agrees test f g same [] = refl
take_one_agrees test f g same (a ∷ s) = ap (λ (o : Option Operands). cond (test a) o None) (same s)

places_append : (v : View) (ps qs : List PType) (go : Operands → Option Operands) (s : Operands) → take_places v (ps ++ qs) go s ≡ take_places v ps (take_places v qs go) s
places_append v [] qs go s = refl
places_append v (p ∷ ps) qs go s = take_one_agrees (fits_place v p) (take_places v (ps ++ qs) go) (take_places v ps (take_places v qs go)) (places_append v ps qs go) s

-- no argument is taken yet
pub none_taken : (v : View) (m : MRef) (old : List StackType) → Takes (take_places v (reverse (map (place_at m) (drop (length m.params - 0) m.params)))) true old old
none_taken v m old = record { gives = λ go. ap (λ (ps : List PType). take_places v (reverse (map (place_at m) ps)) go (reverse old)) (sym all_dropped) }
  where
    drop_all : (ps : List PType) → drop (length ps) ps ≡ []
    drop_all [] = refl
    drop_all (p ∷ ps) = drop_all ps

    all_dropped : drop (length m.params - 0) m.params ≡ []
    all_dropped = let same : length m.params - 0 ≡ length m.params = omega arith in ap (λ (n : ℕ). drop n m.params) same ∙ drop_all m.params

-- one argument more
pub one_taken : (v : View) (m : MRef) (i : ℕ) (param place : PType) (admitted : Bool) (old cur new : List StackType) → i < length m.params → param ≡ get_or m.params (length m.params - 1 - i) param → place ≡ place_at m param →
    Takes (take_places v (reverse (map (place_at m) (drop (length m.params - i) m.params)))) true old cur → Takes (take_one (fits_place v place)) admitted cur new →
    Takes (take_places v (reverse (map (place_at m) (drop (length m.params - (i + 1)) m.params)))) admitted old new
one_taken v m i param place admitted old cur new inside is at so_far took =
    record {
      gives = λ go.
          took.gives go
          ∙ ap (λ (p : PType). take_one (fits_place v p) go (reverse cur)) at
          ∙ goes_on (take_places v (reverse (map (place_at m) (drop (length m.params - i) m.params)))) true old cur so_far refl (take_one (fits_place v (place_at m param)) go)
          ∙ sym (places_append v (reverse (map (place_at m) (drop (length m.params - i) m.params))) (place_at m param ∷ []) go (reverse old))
          ∙ ap (λ (ps : List PType). take_places v ps go (reverse old)) (sym (reverse-append (place_at m param ∷ []) (map (place_at m) (drop (length m.params - i) m.params))) ∙ ap (λ (ps : List PType). reverse (map (place_at m) ps)) (sym next));
    }
  where
    next : drop (length m.params - (i + 1)) m.params ≡ param ∷ drop (length m.params - i) m.params
    next =
        let below : length m.params - (i + 1) < length m.params = omega arith in
        let more : (length m.params - (i + 1)) + 1 ≡ length m.params - i = omega arith in
        let place_is : length m.params - (i + 1) ≡ length m.params - 1 - i = omega arith in
        drop_more m.params (length m.params - (i + 1)) param below
        ∙ ap (λ (p : PType). p ∷ drop ((length m.params - (i + 1)) + 1) m.params) (ap (λ (k : ℕ). get_or m.params k param) place_is ∙ sym is)
        ∙ ap (λ (k : ℕ). param ∷ drop k m.params) more

-- where one is not admitted, the call is not
pub call_stops : (v : View) (m : MRef) (k : ℕ) (admitted : Bool) (old new : List StackType) → Takes (take_places v (reverse (map (place_at m) (drop k m.params)))) admitted old new → admitted ≡ false → Takes (after_call v m) false old new
call_stops v m k admitted old new took is =
    record {
      gives = λ go.
          sym (ap (λ b. if_taken b (take_places v (reverse (map (place_at m) (take k m.params))) go) (reverse new)) is)
          ∙ took.gives (take_places v (reverse (map (place_at m) (take k m.params))) go)
          ∙ sym (places_append v (reverse (map (place_at m) (drop k m.params))) (reverse (map (place_at m) (take k m.params))) go (reverse old))
          ∙ ap (λ (ps : List PType). take_places v ps go (reverse old)) (sym (reverse-append (map (place_at m) (take k m.params)) (map (place_at m) (drop k m.params)))
          ∙ ap reverse (sym (map-append (place_at m) (take k m.params) (drop k m.params))) ∙ ap (λ (ps : List PType). reverse (map (place_at m) ps)) (take-append-drop k m.params));
    }

-- all arguments are taken
pub all_taken : (v : View) (m : MRef) (i : ℕ) (old new : List StackType) → length m.params ≤ i → Takes (take_places v (reverse (map (place_at m) (drop (length m.params - i) m.params)))) true old new → Takes (after_call v m) true old new
all_taken v m i old new end took =
    let start : length m.params - i ≡ 0 = omega arith in
    subst (λ (k : ℕ). Takes (take_places v (reverse (map (place_at m) (drop k m.params)))) true old new) start took
