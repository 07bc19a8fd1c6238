-- Operands taken one after the other, and what is left then.
use Rattle.std.proofs.Common.{◌≡◌, Bool, true, false, List, [], ◌∷◌, ◌++◌, reverse, Option, Some, None, MatchOption, sym, ap, ◌∙◌}
use Rattle.std.proofs.lemmas.List.{reverse-append}
use Rattle.cil_flow.specs.declared.state.StackType.{StackType}
use Rattle.cil_verify.specs.Admits.{Operands, take_one, take_two, push}
use Rattle.cil_verify.specs.Taking.{if_taken, Takes}

pub top_taken : (o : Option StackType) (old new : List StackType) → MatchOption o ((old ≡ []) × (new ≡ [])) (λ a. old ≡ new ++ a ∷ []) →
    MatchOption o (reverse old ≡ []) (λ a. reverse old ≡ a ∷ reverse new)
top_taken None old new is = ap reverse is.0
top_taken (Some a) old new is = ap reverse is ∙ reverse-append new (a ∷ [])

pub top_put : (a : StackType) (old new : List StackType) → new ≡ old ++ a ∷ [] → reverse new ≡ a ∷ reverse old
top_put a old new is = ap reverse is ∙ reverse-append old (a ∷ [])

pub takes_none : (test : StackType → Bool) (old new : List StackType) → reverse old ≡ [] → Takes (take_one test) false old new
takes_none test old new is = record { gives = λ go. ap (λ s. take_one test go s) (sym is) }

pub takes_top : (test : StackType → Bool) (admitted : Bool) (a : StackType) (old new : List StackType) → reverse old ≡ a ∷ reverse new → admitted ≡ test a → Takes (take_one test) admitted old new
takes_top test admitted a old new is tested =
    record { gives = λ go. ap (λ b. if_taken b go (reverse new)) tested ∙ ap (λ s. take_one test go s) (sym is) }

pub takes_no_first : (test : StackType → StackType → Bool) (old new : List StackType) → reverse old ≡ [] → Takes (take_two test) false old new
takes_no_first test old new is = record { gives = λ go. ap (λ s. take_two test go s) (sym is) }

pub takes_no_second : (test : StackType → StackType → Bool) (b : StackType) (old mid new : List StackType) → reverse old ≡ b ∷ reverse mid → reverse mid ≡ [] → Takes (take_two test) false old new
takes_no_second test b old mid new is none = record { gives = λ go. ap (λ s. take_two test go s) (sym (is ∙ ap (λ s. b ∷ s) none)) }

pub takes_both : (test : StackType → StackType → Bool) (admitted : Bool) (a b : StackType) (old mid new : List StackType) → reverse old ≡ b ∷ reverse mid → reverse mid ≡ a ∷ reverse new → admitted ≡ test a b →
    Takes (take_two test) admitted old new
takes_both test admitted a b old mid new is below tested =
    record { gives = λ go. ap (λ t. if_taken t go (reverse new)) tested ∙ ap (λ s. take_two test go s) (sym (is ∙ ap (λ s. b ∷ s) below)) }

pub goes_on : (taken : (Operands → Option Operands) → Operands → Option Operands) (admitted : Bool) (old new : List StackType) → Takes taken admitted old new → admitted ≡ true → (go : Operands → Option Operands) →
    go (reverse new) ≡ taken go (reverse old)
goes_on taken admitted old new took is go = sym (ap (λ b. if_taken b go (reverse new)) is) ∙ took.gives go

pub stops : (taken : (Operands → Option Operands) → Operands → Option Operands) (admitted : Bool) (old new : List StackType) → Takes taken admitted old new → admitted ≡ false → (go : Operands → Option Operands) →
    None ≡ taken go (reverse old)
stops taken admitted old new took is go = sym (ap (λ b. if_taken b go (reverse new)) is) ∙ took.gives go

-- ---- what a function of the operands gives, where so many are known

pub at_none : (f : Operands → Option Operands) (old : List StackType) → reverse old ≡ [] → f [] ≡ f (reverse old)
at_none f old is = ap f (sym is)

pub at_one : (f : Operands → Option Operands) (a : StackType) (old new : List StackType) → reverse old ≡ a ∷ reverse new → f (a ∷ reverse new) ≡ f (reverse old)
at_one f a old new is = ap f (sym is)

pub at_last : (f : Operands → Option Operands) (b : StackType) (old mid : List StackType) → reverse old ≡ b ∷ reverse mid → reverse mid ≡ [] → f (b ∷ []) ≡ f (reverse old)
at_last f b old mid is none = ap f (sym (is ∙ ap (λ s. b ∷ s) none))

pub at_two : (f : Operands → Option Operands) (a b : StackType) (old mid new : List StackType) → reverse old ≡ b ∷ reverse mid → reverse mid ≡ a ∷ reverse new → f (b ∷ a ∷ reverse new) ≡ f (reverse old)
at_two f a b old mid new is below = ap f (sym (is ∙ ap (λ s. b ∷ s) below))

-- one more operand is taken
pub takes_more : (test : StackType → Bool) (taken : (Operands → Option Operands) → Operands → Option Operands) (first admitted : Bool) (old mid new : List StackType) → Takes (take_one test) first old mid → first ≡ true → Takes taken admitted mid new →
    Takes (λ go. take_one test (taken go)) admitted old new
takes_more test taken first admitted old mid new took is more = record { gives = λ go. more.gives go ∙ goes_on (take_one test) first old mid took is (taken go) }

-- a result on top of what is left
pub left_with : (taken : (Operands → Option Operands) → Operands → Option Operands) (admitted : Bool) (a : StackType) (old mid new : List StackType) → Takes taken admitted old mid → admitted ≡ true → reverse new ≡ a ∷ reverse mid →
    Some (reverse new) ≡ taken (push a) (reverse old)
left_with taken admitted a old mid new took is put = ap Some put ∙ goes_on taken admitted old mid took is (push a)
