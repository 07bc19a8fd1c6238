-- Exact types and strings as the meaning has them, against what they give, where types keep their numbers.
use Rattle.std.proofs.Common.{◌≡◌, ℕ, Bool, true, false, ◌-◌, nat_lt, List, [], ◌∷◌, length, Option, Some, None, Ok, if◌then◌else◌, slice_get, refl, ap}
use Rattle.type_tree.specs.declared.tree.TExpr.{TExpr}
use Rattle.il_model.specs.declared.program.Program.{Program}
use Rattle.interaction.specs.Process.{Naming, Settle, Spell, Ask, Stuck}
use Rattle.store_object.specs.declared.request.Request.TheVariants as ask
use Rattle.store_object.specs.declared.reply.Reply.{Reply}
use Rattle.cil_meaning.specs.Naming.{Mention, strings_from, names_from}
use Rattle.cil_meaning.specs.Replies.{Left, on_kind}
use Rattle.cil_meaning.specs.Pieces.{Exact, Text, Numbered, as_string, types, spells}
use Rattle.cil_meaning.specs.Site.{Site}
use Rattle.type_inst.specs.Opening.{Extends}
use Rattle.type_inst.proofs.OpeningLemmas.{kept_at}
use Rattle.unshared.specs.Going.{Did}
use Rattle.unshared.specs.Listed.{naming_of}
use Rattle.unshared.specs.Memory.{named_there, string_of, exact_of, type_of}
use Rattle.unshared.specs.Silent.{named, where_so}
use Rattle.unshared.specs.Talk.{Talk, ◌>>=◌, ◌>>◌, pure, said, say, asks_kind}
use Rattle.unshared.specs.Turns.{settled_by, spelled_by, silent, replied, answered}
use Rattle.unshared.proofs.Doing.{Does, does_bind}
use Rattle.unshared.proofs.MuteOperands.{mute_test}
use Rattle.unshared.proofs.Steps.{both, ask_kind}
use Rattle.unshared.proofs.Tying.{Met, Tied, tied_bind, tied_pure, tied_say}
use Rattle.unshared.proofs.TiedAsks.{tied_kind}

-- what is silent alike is left alike
pub answered_alike : (n : Naming Mention TExpr) (ys : List Reply) (q r : Left) → silent n q ≡ silent n r → answered n ys q ≡ answered n ys r
answered_alike n [] q r e = e
answered_alike n (y ∷ ys) q r e = ap (λ z. replied n z y (λ left. answered n ys left)) e

pub settled : (n : Naming Mention TExpr) (ys : List Reply) (m : Mention) (v : ℕ) (k : ℕ → Left) → n.value_of m ≡ Some v → answered n ys (Settle m k) ≡ answered n ys (k v)
settled n ys m v k e = answered_alike n ys (Settle m k) (k v) (ap (λ o. settled_by o (Settle m k) (λ w. silent n (k w))) e)

pub spelled : (n : Naming Mention TExpr) (ys : List Reply) (i : ℕ) (t : TExpr) (k : TExpr → Left) → n.tree_at i ≡ Some t → answered n ys (Spell i k) ≡ answered n ys (k t)
spelled n ys i t k e = answered_alike n ys (Spell i k) (k t) (ap (λ o. spelled_by o (Spell i k) (λ u. silent n (k u))) e)

module _ (kinds later : List TExpr) (ext : Extends kinds later) where
  type_meets : (i : ℕ) (o : Option TExpr) → slice_get kinds i ≡ o → (ys : List Reply) (k : TExpr → Left) → Met (naming_of later) (answered (naming_of later) ys (Spell i k)) k (said (named o) ys)
  type_meets i None e ys k = tt
  type_meets i (Some t) e ys k = spelled (naming_of later) ys i t k (kept_at kinds later i t ext e)

  pub tied_type : (e : Exact) → Tied (naming_of later) (λ (k : TExpr → Left). spells e k) (say (type_of kinds e))
  tied_type Text = record { meets = λ ys k. refl }
  tied_type (Numbered i) = record { meets = λ ys k. type_meets i (slice_get kinds i) refl ys k }

  name_meets : (i : ℕ) (o : Option TExpr) → slice_get kinds i ≡ o → (ys : List Reply) (k : Unit {0} → Left) → Met (naming_of later) (answered (naming_of later) ys (Spell i (λ t. k tt))) k (said (named_there o) ys)
  name_meets i None e ys k = tt
  name_meets i (Some t) e ys k = spelled (naming_of later) ys i t (λ t. k tt) (kept_at kinds later i t ext e)

  string_by : (p : Program) (w : ℕ) (b : Bool) →
      Tied (naming_of later) (λ (k : Unit {0} → Left). if b then (if nat_lt (w - strings_from) (length p.literals) then k tt else Stuck) else Spell (w - names_from) (λ t. k tt))
      (say (if b then where_so (nat_lt (w - strings_from) (length p.literals)) (Ok tt) else named_there (slice_get kinds (w - names_from))))
  string_by p w true = tied_say (naming_of later) _ _ (mute_test (nat_lt (w - strings_from) (length p.literals)) tt)
  string_by p w false = record { meets = λ ys k. name_meets (w - names_from) (slice_get kinds (w - names_from)) refl ys k }

  pub tied_string : (p : Program) (w : ℕ) → Tied (naming_of later) (λ (k : Unit {0} → Left). as_string p w (k tt)) (say (string_of p kinds w))
  unfolding string_of
  tied_string p w = string_by p w (nat_lt w names_from)

  exact_by : (p : Program) (w : ℕ) (b : Bool) → Tied (naming_of later) (λ (k : Exact → Left). if b then Ask (ask.TypeOf w) (on_kind (λ v. k (Numbered v))) else as_string p w (k Text))
      (if b then (asks_kind (ask.TypeOf w) >>= (λ v. pure (Numbered v))) else (say (string_of p kinds w) >> pure Text))
  exact_by p w true = tied_bind (naming_of later) (λ (k : ℕ → Left). Ask (ask.TypeOf w) (on_kind k)) (λ v k. k (Numbered v)) (asks_kind (ask.TypeOf w)) (λ v. pure (Numbered v)) (tied_kind (naming_of later) (ask.TypeOf w)) (λ v. tied_pure (naming_of later) (Numbered v))
  exact_by p w false = tied_bind (naming_of later) (λ (k : Unit {0} → Left). as_string p w (k tt)) (λ u k. k Text) (say (string_of p kinds w)) (λ u. pure Text) (tied_string p w) (λ u. tied_pure (naming_of later) Text)

  pub tied_exact : (p : Program) (w : ℕ) → Tied (naming_of later) (types p w) (exact_of p kinds w)
  unfolding exact_of
  tied_exact p w = exact_by p w (nat_lt w strings_from)

  -- as steps of an instruction
  pub exact : {p : Program} {s : Site} {next : Exact → Left} {v : Exact → Talk Did} (here : Program) (w : ℕ) → ((e : Exact) → Does (naming_of later) p s (next e) (v e)) → Does (naming_of later) p s (types here w next) (exact_of here kinds w >>= v)
  exact {p = p} {s = s} {next = next} {v = v} here w more = does_bind (naming_of later) p s (types here w) next (exact_of here kinds w) v (tied_exact here w) more

  pub spell : {p : Program} {s : Site} {next : TExpr → Left} {v : TExpr → Talk Did} (e : Exact) → ((t : TExpr) → Does (naming_of later) p s (next t) (v t)) → Does (naming_of later) p s (spells e next) (say (type_of kinds e) >>= v)
  spell {p = p} {s = s} {next = next} {v = v} e more = does_bind (naming_of later) p s (λ k. spells e k) next (say (type_of kinds e)) v (tied_type e) more

  pub judge : {p : Program} {s : Site} {next : Left} (v : Unit {0} → Talk Did) (here : Program) (w : ℕ) → Does (naming_of later) p s next (v tt) → Does (naming_of later) p s (as_string here w next) (say (string_of here kinds w) >>= v)
  judge {p = p} {s = s} {next = next} v here w more = does_bind (naming_of later) p s (λ (k : Unit {0} → Left). as_string here w (k tt)) (λ u. next) (say (string_of here kinds w)) v (tied_string here w) (λ u. more)

  -- the number of an exact type belongs to an object
  number_known : {p : Program} {s : Site} (next : Exact → Left) (v : Exact → Talk Did) (here : Program) (w : ℕ) (b : Bool) → nat_lt w strings_from ≡ b → ((i : ℕ) → nat_lt w strings_from ≡ true → Does (naming_of later) p s (next (Numbered i)) (v (Numbered i))) → Does (naming_of later) p s (next Text) (v Text) →
      Does (naming_of later) p s (if b then Ask (ask.TypeOf w) (on_kind (λ i. next (Numbered i))) else as_string here w (next Text)) ((if b then (asks_kind (ask.TypeOf w) >>= (λ i. pure (Numbered i))) else (say (string_of here kinds w) >> pure Text)) >>= v)
  number_known next v here w true e more text = both (asks_kind (ask.TypeOf w)) (λ i. pure (Numbered i)) v (ask_kind (ask.TypeOf w) (λ i. more i e))
  number_known next v here w false e more text = both (say (string_of here kinds w)) (λ u. pure Text) v (judge _ here w text)

  pub exact_known : {p : Program} {s : Site} (next : Exact → Left) (v : Exact → Talk Did) (here : Program) (w : ℕ) → ((i : ℕ) → nat_lt w strings_from ≡ true → Does (naming_of later) p s (next (Numbered i)) (v (Numbered i))) → Does (naming_of later) p s (next Text) (v Text) →
      Does (naming_of later) p s (types here w next) (exact_of here kinds w >>= v)
  unfolding exact_of
  exact_known next v here w more text = number_known next v here w (nat_lt w strings_from) refl more text
