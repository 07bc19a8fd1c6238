-- How a talk goes on past what does not compute by itself: limits, tests, look-ups.
use Rattle.std.proofs.Common.{◌≡◌, ℕ, Bool, true, false, List, [], Option, Some, None, if◌then◌else◌, subst, sym}
use Rattle.type_tree.specs.declared.tree.TExpr.{TExpr}
use Rattle.il_model.specs.declared.entry.Entry.{Entry}
use Rattle.il_model.specs.declared.layout.Limit.{Limit}
use Rattle.il_model.specs.declared.program.Program.{Program}
use Rattle.interaction.specs.Process.{Naming, Exchange, Ask}
use Rattle.store_object.specs.declared.request.Request.TheVariants as ask
use Rattle.store_object.specs.declared.request.Request.{Request}
use Rattle.store_object.specs.declared.reply.Reply.{Reply}
use Rattle.cil_meaning.specs.Naming.{Mention}
use Rattle.cil_meaning.specs.Replies.{Left, on_stopped}
use Rattle.cil_meaning.specs.Mentions.{cause_of, within, settles_all}
use Rattle.cil_meaning.specs.Pieces.{given}
use Rattle.il_model.specs.declared.op.Op.{Op}
use Rattle.std.specs.Prelude.{unwrap_or}
use Rattle.il_model.specs.Found.{method_at}
use Rattle.il_model.specs.Library.{thread_entry}
use Rattle.il_model.specs.Entries.{entries_of}
use Rattle.cil_meaning.specs.Values.{Value}
use Rattle.cil_meaning.specs.Site.{Site, moved}
use Rattle.cil_meaning.specs.Groups.{group_of}
use Rattle.cil_meaning.specs.Meaning.{does, begins}
use Rattle.cil_meaning.specs.Calls.{first_frame}
use Rattle.cil_meaning.specs.Threads.{method_tree, main_frames}
use Rattle.cil_meaning.specs.Language.{Talk}

module _ (p : Program) where
  pub within_limits : {n : Naming Mention TExpr} {q left : Left} {es : List (Exchange Request Reply)} (l : Option Limit) → l ≡ None → Talk p n left es q → Talk p n (within l left) es q
  within_limits {n = n} {q = q} {left = left} {es = es} l none t = subst (λ x. Talk p n (within x left) es q) (sym none) t

  -- the run stops at a limit
  pub stops_at : {n : Naming Mention TExpr} {q : Left} {es : List (Exchange Request Reply)} (left : Left) (l : Option Limit) (c : Limit) → l ≡ Some c → Talk p n (Ask (ask.Stop (cause_of c)) on_stopped) es q → Talk p n (within l left) es q
  stops_at {n = n} {q = q} {es = es} left l c is t = subst (λ x. Talk p n (within x left) es q) (sym is) t

  pub where_true : {n : Naming Mention TExpr} {q : Left} {es : List (Exchange Request Reply)} (left other : Left) (b : Bool) → b ≡ true → Talk p n left es q → Talk p n (if b then left else other) es q
  where_true {n = n} {q = q} {es = es} left other b is t = subst (λ x. Talk p n (if x then left else other) es q) (sym is) t

  pub where_false : {n : Naming Mention TExpr} {q : Left} {es : List (Exchange Request Reply)} (left other : Left) (b : Bool) → b ≡ false → Talk p n other es q → Talk p n (if b then left else other) es q
  where_false {n = n} {q = q} {es = es} left other b is t = subst (λ x. Talk p n (if x then left else other) es q) (sym is) t

  pub where_given : {n : Naming Mention TExpr} {q : Left} {es : List (Exchange Request Reply)} {A : Type 0} (k : A → Left) (o : Option A) (a : A) → o ≡ Some a → Talk p n (k a) es q → Talk p n (given o k) es q
  where_given {n = n} {q = q} {es = es} k o a is t = subst (λ x. Talk p n (given x k) es q) (sym is) t

  -- an instruction whose entries are these
  pub where_entries : {n : Naming Mention TExpr} {q : Left} {es : List (Exchange Request Reply)} (s : Site) (o : Op) (l : List Entry) → entries_of p o ≡ l →
      Talk p n (settles_all p s.frame.method l (λ numbers. does p s numbers s.frame.stack (group_of o))) es q → Talk p n (begins p s o) es q
  where_entries {n = n} {q = q} {es = es} s o l is t = subst (λ x. Talk p n (settles_all p s.frame.method x (λ numbers. does p s numbers s.frame.stack (group_of o))) es q) (sym is) t

  -- Main's frame alone at an instruction, with this stack
  abbrev pub main_site : ℕ → List Value → Site
  main_site at stack = record { frame = moved (first_frame (method_tree p 12)) at stack; definition = unwrap_or (method_at p 12) thread_entry; around = []; places = (main_frames p).places }

  -- what goes on from a value that is this one
  pub where_is : {n : Naming Mention TExpr} {q : Left} {es : List (Exchange Request Reply)} {A : Type 0} (k : A → Left) (a b : A) → a ≡ b → Talk p n (k b) es q → Talk p n (k a) es q
  where_is {n = n} {q = q} {es = es} k a b is t = subst (λ x. Talk p n (k x) es q) (sym is) t
