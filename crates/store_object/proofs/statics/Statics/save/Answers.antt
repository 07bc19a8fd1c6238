use Rattle.std.proofs.Common.{◌≡◌, ℕ, ap, ◌∙◌, refl, Bool, true, false, cond, Option, Some, unwrap_or}
use Rattle.store_object.proofs.statics.Statics.save.Goals as goal

-- the word under a test
word_if : (test : Bool) (word old : ℕ) (was : Option ℕ) → unwrap_or was 0 ≡ old → unwrap_or (cond test (Some word) was) 0 ≡ cond test word old
word_if true word old was e = refl
word_if false word old was e = e

pub returns-clause-ok : goal.returns-clause-ok
returns-clause-ok g c = λ kind index.
    ap (λ word. unwrap_or word 0) ((c.in_ok-insert.ensures {u = tt}).updates.0 (record { kind = kind; index = index }))
    ∙ word_if _ c.args.word (g.store.fixed kind index) _ (c.requires kind index)
