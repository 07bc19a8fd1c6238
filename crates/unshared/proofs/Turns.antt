-- What a loop that counts its turns up has still to do, as a number that counts down, and what pieces that use replies come to.
use Rattle.std.proofs.Common.{◌≡◌, ℕ, suc, ◌+◌, ◌-◌, ◌<◌, ◌≤◌, List, [], ◌∷◌, drop, length, get_or, drop-cons, Ok, Err, ap, ◌∙◌, arith}
use Rattle.std.proofs.lemmas.List.{drop_all}
use Rattle.store_object.specs.declared.reply.Reply.{Reply}
use Rattle.type_tree.specs.declared.tree.TExpr.{TExpr}
use Rattle.unshared.specs.Growing.{Grown, Grows}
use Rattle.unshared.specs.declared.pause.Pause.{Pause}
use Rattle.unshared.specs.declared.pause.Pause.TheVariants as pause
use Rattle.unshared.specs.Talk.{Talk, Came, Talks, and_then}

-- in a turn: one turn, and those behind it
pub turn_left : {X : Type 0} {whole : X} (rest : ℕ → X) (turns at : ℕ) → at < turns → whole ≡ rest (turns - at) → whole ≡ rest (suc (turns - (at + 1)))
turn_left rest turns at below kept = let count : turns - at ≡ suc (turns - (at + 1)) = omega arith in kept ∙ ap rest count

-- behind the last turn
pub none_left : {X : Type 0} {whole : X} (rest : ℕ → X) (turns at : ℕ) → turns ≤ at → whole ≡ rest (turns - at) → whole ≡ rest 0
none_left rest turns at past kept = let count : turns - at ≡ 0 = omega arith in kept ∙ ap rest count

-- the same of a list
pub word_left : {A X : Type 0} {whole : X} (rest : List A → X) (words : List A) (at : ℕ) (d : A) → at < length words → whole ≡ rest (drop at words) → whole ≡ rest (get_or words at d ∷ drop (at + 1) words)
word_left rest words at d below kept = let next : suc at ≡ at + 1 = omega arith in kept ∙ ap rest (drop-cons words at d below ∙ ap (λ k. get_or words at d ∷ drop k words) next)

pub words_left : {A X : Type 0} {whole : X} (rest : List A → X) (words : List A) (at : ℕ) → length words ≤ at → whole ≡ rest (drop at words) → whole ≡ rest []
words_left rest words at past kept = kept ∙ ap rest (drop_all at words past)

-- The first piece of two: it stops, or it comes to a value.
pub stops : {A B C D : Type 0} (seen : A → B) (see : C → D) (first : Talk B) (next : B → Talk D) (whole : Came D) (ys zs us : List Reply) (e : Pause) → whole ≡ and_then (first ys) next → Talks seen (first ys) (Err e) zs → Talks see whole (Err e) us
stops seen see first next whole ys zs us (pause.Halts h) is came = is ∙ ap (λ c. and_then c next) came
stops seen see first next whole ys zs us pause.NoMemory is came = tt

pub goes : {B D : Type 0} (first : Talk B) (next : B → Talk D) (whole : Came D) (ys zs : List Reply) (x : B) → whole ≡ and_then (first ys) next → first ys ≡ Ok (x, zs) → whole ≡ next x zs
goes first next whole ys zs x is came = is ∙ ap (λ c. and_then c next) came

-- the same, where types got numbers before it stopped
pub stops_grown : {A B C D : Type 0} (seen : A → B) (see : C → D) (first : Talk B) (next : B → Talk D) (whole : Came D) (ys zs us : List Reply) (before after : List TExpr) (e : Pause) →
    Grows {A = A} before after (Err e) → (Grown before after → whole ≡ and_then (first ys) next) → Talks seen (first ys) (Err e) zs → Talks see whole (Err e) us
stops_grown seen see first next whole ys zs us before after (pause.Halts h) grows is came = is grows ∙ ap (λ c. and_then c next) came
stops_grown seen see first next whole ys zs us before after pause.NoMemory grows is came = tt
