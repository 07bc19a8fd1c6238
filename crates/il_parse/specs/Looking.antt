-- Looking names up in order of the text: what they stand for, or the first that is refused. This project's own.
use Rattle.std.specs.Prelude.{◌≡◌, ℕ, Bool, if◌then◌else◌, List, [], ◌∷◌, ◌++◌, Option, Some, None, Result, Ok, Err, ⊤}
use Rattle.il_model.specs.declared.written.WrittenName.{WrittenName}
use Rattle.il_parse.specs.declared.fault.Fault.{Fault}
use Rattle.il_parse.specs.declared.fault.ReadError.{ReadError}
use Rattle.il_parse.specs.declared.fault.ReadError.TheVariants as error
use Rattle.il_parse.specs.declared.fault.ParseCause.TheVariants as cause

abbrev pub Look : Type 0 → Type 0
Look A = Result A Fault

infixl 10 ◌>>=◌
abbrev pub ◌>>=◌ : {A B : Type 0} → Look A → (A → Look B) → Look B
(Ok x) >>= next = next x
(Err fault) >>= next = Err fault

abbrev pub pure : {A : Type 0} → A → Look A
pure x = Ok x

-- what a call of the look-up answers; want of memory says nothing
abbrev pub Looks : {A : Type 0} → Look A → Result A ReadError → Type 0
Looks look (Ok x) = look ≡ Ok x
Looks look (Err (error.Fault fault)) = look ≡ Err fault
Looks look (Err error.Memory) = ⊤

abbrev pub unknown_fault : WrittenName → Fault
unknown_fault name = record { at = Some name.at; cause = cause.UnknownName }

-- nothing has this name
abbrev pub unknown : {A : Type 0} → WrittenName → Look A
unknown name = Err (unknown_fault name)

abbrev pub repeated_fault : ℕ → Fault
repeated_fault at = record { at = Some at; cause = cause.Repeated }

-- what stands at this place was there before
abbrev pub repeated : {A : Type 0} → ℕ → Look A
repeated at = Err (repeated_fault at)

-- what stands at this place wasn't there before
abbrev pub once : Bool → ℕ → Look (Unit {0})
once is_met at = if is_met then repeated at else Ok tt

abbrev pub found_or_unknown : {A : Type 0} → Option A → WrittenName → Look A
found_or_unknown None name = unknown name
found_or_unknown (Some x) name = Ok x

-- what each stands for, behind those found
unfoldable pub each_from : {A B : Type 0} → (A → Look B) → List B → List A → Look (List B)
each_from look found [] = pure found
each_from look found (x ∷ xs) = look x >>= (λ y. each_from look (found ++ y ∷ []) xs)

unfoldable pub each_of : {A B : Type 0} → (A → Look B) → List A → Look (List B)
each_of look xs = each_from look [] xs

-- what it stands for where it is there
abbrev pub perhaps_of : {A B : Type 0} → (A → Look B) → Option A → Look (Option B)
perhaps_of look None = Ok None
perhaps_of look (Some x) = look x >>= (λ y. pure (Some y))
