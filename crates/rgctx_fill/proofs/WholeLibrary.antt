-- The predefined classes and methods: none has variables, and each method is of the class that lists it.
use Rattle.std.proofs.Common.{◌≡◌, ℕ, zero, suc, ◌+◌, List, [], ◌∷◌, Option, Some, None, refl, subst, arith}
use Rattle.std.specs.Prelude.{slice_get, option_to_list}
use Rattle.std.specs.List.{AllByRecursion}
use Rattle.type_tree.specs.declared.tree.Head.TheVariants as head
use Rattle.type_tree.specs.declared.tree.TExpr.{TExpr}
use Rattle.type_tree.specs.Tree.{IsClosed}
use Rattle.il_model.specs.declared.class.ClassKind.{ClassKind}
use Rattle.il_model.specs.declared.class.ClassDef.{ClassDef}
use Rattle.il_model.specs.declared.method.MethodDef.{MethodDef}
use Rattle.il_model.specs.Library.{plain, library_class, library_classes, constructor_of, thread_entry, run_method, library_methods}
use Rattle.rgctx_fill.proofs.WholeScopes.{BodyHolds}
use Rattle.rgctx_fill.proofs.WholeNames.{alone-below}

-- each item with its number, from this one on
abbrev pub AllFrom : {A : Type 0} → (ℕ → A → Type 0) → ℕ → List A → Type 0
AllFrom P first [] = Unit {0}
AllFrom P first (x ∷ xs) = P first x × AllFrom P (suc first) xs

pub from_at : {A : Type 0} (P : ℕ → A → Type 0) (first : ℕ) (xs : List A) (k : ℕ) (x : A) → AllFrom P first xs → slice_get xs k ≡ Some x → P (first + k) x
from_at P first [] k x all e = cc
from_at P first (y ∷ xs) zero x all e =
    let same : y ≡ x = cc in let n : first ≡ first + 0 = omega arith in subst (λ i. P i x) n (subst (P first) same all.0)
from_at P first (y ∷ xs) (suc k) x all e =
    let n : suc first + k ≡ first + suc k = omega arith in subst (λ i. P i x) n (from_at P (suc first) xs k x all.1 e)

closed_plain : (number : ℕ) → IsClosed (plain number)
closed_plain number = alone-below 0 0 (head.Class number)

-- ---- methods

pub record IsPlainMethod (m : MethodDef) : Type 0 where
  pub vars : m.vars ≡ []
  pub class : ClassDef
  pub class_is : slice_get library_classes m.owner ≡ Some class
  pub body : AllByRecursion (BodyHolds IsClosed) (option_to_list m.body)

constructor_plain : (owner : ℕ) (c : ClassDef) → slice_get library_classes owner ≡ Some c → IsPlainMethod (constructor_of owner)
constructor_plain owner c is = record { vars = refl; class = c; class_is = is; body = (record { code = (tt, tt); clauses = tt }, tt) }

entry_plain : (c : ClassDef) → slice_get library_classes 12 ≡ Some c → IsPlainMethod thread_entry
entry_plain c is = record { vars = refl; class = c; class_is = is; body = (record { code = (tt, ((closed_plain 11, tt), (tt, tt))); clauses = tt }, tt) }

run_plain : (c : ClassDef) → slice_get library_classes 11 ≡ Some c → IsPlainMethod run_method
run_plain c is = record { vars = refl; class = c; class_is = is; body = tt }

pub library-methods : AllByRecursion IsPlainMethod library_methods
library-methods = (
  entry_plain _ refl,
  (
    constructor_plain 0 _ refl,
    (
      constructor_plain 2 _ refl,
      (
        constructor_plain 3 _ refl,
        (
          constructor_plain 4 _ refl,
          (
            constructor_plain 5 _ refl,
            (constructor_plain 6 _ refl, (constructor_plain 7 _ refl, (constructor_plain 8 _ refl, (constructor_plain 9 _ refl, (constructor_plain 10 _ refl, (run_plain _ refl, tt)))))),
          ),
        ),
      ),
    ),
  ),
)

-- ---- classes

pub record IsPlainOwned (owner number : ℕ) : Type 0 where
  pub method : MethodDef
  pub is : slice_get library_methods number ≡ Some method
  pub owner_is : method.owner ≡ owner

pub record IsPlainClass (number : ℕ) (c : ClassDef) : Type 0 where
  pub vars : c.vars ≡ []
  pub base : AllByRecursion IsClosed (option_to_list c.base)
  pub interfaces : c.interfaces ≡ []
  pub methods : AllByRecursion (IsPlainOwned number) c.methods

class_plain : (name : List ℕ) (k : ClassKind) (base : Option TExpr) (methods : List ℕ) (number : ℕ) → AllByRecursion IsClosed (option_to_list base) → AllByRecursion (IsPlainOwned number) methods → IsPlainClass number (library_class name k base methods)
class_plain name k base methods number closed owned = record { vars = refl; base = closed; interfaces = refl; methods = owned }

owned_plain : (owner number : ℕ) (m : MethodDef) → slice_get library_methods number ≡ Some m → m.owner ≡ owner → AllByRecursion (IsPlainOwned owner) (number ∷ [])
owned_plain owner number m is owner_is = (record { method = m; is = is; owner_is = owner_is }, tt)

pub library-classes : AllFrom IsPlainClass 0 library_classes
library-classes = (
  class_plain _ _ None (1 ∷ []) 0 tt (owned_plain 0 1 _ refl refl),
  (
    class_plain _ _ (Some (plain 0)) [] 1 (closed_plain 0, tt) tt,
    (
      class_plain _ _ (Some (plain 0)) (2 ∷ []) 2 (closed_plain 0, tt) (owned_plain 2 2 _ refl refl),
      (
        class_plain _ _ (Some (plain 2)) (3 ∷ []) 3 (closed_plain 2, tt) (owned_plain 3 3 _ refl refl),
        (
          class_plain _ _ (Some (plain 3)) (4 ∷ []) 4 (closed_plain 3, tt) (owned_plain 4 4 _ refl refl),
          (
            class_plain _ _ (Some (plain 4)) (5 ∷ []) 5 (closed_plain 4, tt) (owned_plain 5 5 _ refl refl),
            (
              class_plain _ _ (Some (plain 4)) (6 ∷ []) 6 (closed_plain 4, tt) (owned_plain 6 6 _ refl refl),
              (
                class_plain _ _ (Some (plain 3)) (7 ∷ []) 7 (closed_plain 3, tt) (owned_plain 7 7 _ refl refl),
                (
                  class_plain _ _ (Some (plain 3)) (8 ∷ []) 8 (closed_plain 3, tt) (owned_plain 8 8 _ refl refl),
                  (
                    class_plain _ _ (Some (plain 3)) (9 ∷ []) 9 (closed_plain 3, tt) (owned_plain 9 9 _ refl refl),
                    (
                      class_plain _ _ (Some (plain 3)) (10 ∷ []) 10 (closed_plain 3, tt) (owned_plain 10 10 _ refl refl),
                      (
                        class_plain _ _ None (11 ∷ []) 11 tt (owned_plain 11 11 _ refl refl),
                        (class_plain _ _ (Some (plain 0)) (0 ∷ []) 12 (closed_plain 0, tt) (owned_plain 12 0 _ refl refl), tt),
                      ),
                    ),
                  ),
                ),
              ),
            ),
          ),
        ),
      ),
    ),
  ),
)
