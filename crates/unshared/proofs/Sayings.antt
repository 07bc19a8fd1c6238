-- Pieces that make no request, one behind another, as pieces that use replies.
use Rattle.std.proofs.Common.{◌≡◌, List, Ok, Err, refl}
use Rattle.store_object.specs.declared.reply.Reply.{Reply}
use Rattle.unshared.specs.Silent.{Silent, ◌>>=◌}
use Rattle.unshared.specs.Talk.{Talk, and_then, said}

-- one piece, and then another
abbrev pub after : {A B : Type 0} → Silent A → (A → Silent B) → Silent B
after r g = r >>= g

pub said_then : {A B C : Type 0} (r : Silent A) (g : A → Silent B) (then_ : B → Talk C) (ys : List Reply) → and_then (said (r >>= g) ys) then_ ≡ and_then (said r ys) (λ a zs. and_then (said (g a) zs) then_)
said_then (Ok a) g then_ ys = refl
said_then (Err e) g then_ ys = refl

pub said_both : {A B : Type 0} (r : Silent A) (g : A → Silent B) (ys : List Reply) → said (r >>= g) ys ≡ and_then (said r ys) (λ a zs. said (g a) zs)
said_both (Ok a) g ys = refl
said_both (Err e) g ys = refl
