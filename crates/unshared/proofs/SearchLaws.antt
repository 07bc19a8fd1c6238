-- The search for a clause as the meaning has it, against what it comes to.
use Rattle.std.proofs.Common.{◌≡◌, ℕ, Bool, true, false, List, [], ◌∷◌, Option, Some, None, Result, Ok, Err, if◌then◌else◌, slice_get, refl, sym, subst}
use Rattle.type_tree.specs.declared.tree.TExpr.{TExpr}
use Rattle.il_model.specs.declared.program.Program.{Program}
use Rattle.il_model.specs.declared.entry.Entry.TheVariants as entry
use Rattle.il_model.specs.declared.layout.MethodTree.{MethodTree}
use Rattle.il_model.specs.declared.method.Clause.{Clause}
use Rattle.il_model.specs.declared.method.Sort.{Sort}
use Rattle.il_model.specs.declared.method.Sort.TheVariants as sort
use Rattle.il_model.specs.Library.{plain}
use Rattle.il_model.specs.Methods.{limit_of_entry}
use Rattle.interaction.specs.Process.{Naming, Next, Settle, Spell, Ask, Over}
use Rattle.store_object.specs.declared.reply.Reply.{Reply}
use Rattle.store_object.specs.declared.request.Request.TheVariants as ask
use Rattle.cil_meaning.specs.Frames.{Frame, Places, Frames, outer}
use Rattle.cil_meaning.specs.Mentions.{within}
use Rattle.cil_meaning.specs.Naming.{Mention, OfClause, OfFault, put_type, put_entry, type_of_entry}
use Rattle.cil_meaning.specs.Replies.{Left, on_object}
use Rattle.cil_meaning.specs.Search as meant
use Rattle.cil_meaning.specs.Search.{Thrown, covers, clauses_of}
use Rattle.cil_meaning.specs.Types.{passes_as}
use Rattle.unshared.specs.declared.pause.Halt.TheVariants as halt
use Rattle.unshared.specs.declared.pause.Pause.{Pause}
use Rattle.unshared.specs.declared.pause.Pause.TheVariants as pause
use Rattle.unshared.specs.Acts.{Ends}
use Rattle.unshared.specs.Listed.{number_in, value_in, naming_of}
use Rattle.unshared.specs.Searched.{Tells, sort_takes, takes, finds, handled, or_else, searched, raised}
use Rattle.unshared.specs.Settled.{stays_within, entry_number, settles_entry}
use Rattle.unshared.specs.Silent.{named}
use Rattle.unshared.specs.Talk.{Came, Talk, ◌>>=◌, and_then, pure, said, say, over, asks_done, asks_object}
use Rattle.unshared.specs.Turns.{answered}
use Rattle.unshared.proofs.DoesAll.{tied_within, tied_mention}
use Rattle.unshared.proofs.TiedAsks.{tied_done, tied_object}
use Rattle.unshared.proofs.TiedExacts.{spelled}
use Rattle.unshared.proofs.Tying.{Met, Tied, tied_bind, stuck_stays, over_meets}

module _ (later : List TExpr) (p : Program) where
  abbrev n : Naming Mention TExpr
  n = naming_of later

  -- one piece, and then another
  then_meets : {A B : Type 0} (next : A → Left) (k : B → Left) (then_ : A → Talk B) (q : Left) (came : Came A) → Met n q next came → ((a : A) (ys : List Reply) → Met n (answered n ys (next a)) k (then_ a ys)) → Met n q k (and_then came then_)
  then_meets next k then_ q (Ok r) e more = subst (λ z. Met n z k (then_ r.0 r.1)) (sym e) (more r.0 r.1)
  then_meets next k then_ q (Err h) e more = e

  tied_clause : (m : MethodTree) (t : TExpr) → Tied n (λ (k : ℕ → Left). within (limit_of_entry p (put_entry m (entry.Kind t))) (Settle (OfClause m (entry.Kind t)) k)) (settles_entry p later m (entry.Kind t))
  unfolding settles_entry
  tied_clause m t =
      tied_bind n (λ (k : Unit {0} → Left). within (limit_of_entry p (put_entry m (entry.Kind t))) (k tt)) (λ u k. Settle (OfClause m (entry.Kind t)) k) (stays_within (limit_of_entry p (put_entry m (entry.Kind t)))) (λ u. say (entry_number later (put_entry m (entry.Kind t))))
      (tied_within n (limit_of_entry p (put_entry m (entry.Kind t)))) (λ u. tied_mention later p (OfClause m (entry.Kind t)) (value_in later (type_of_entry (put_entry m (entry.Kind t)))) refl)

  spell_meets : (i : ℕ) (o : Option TExpr) → slice_get later i ≡ o → (ys : List Reply) (k : TExpr → Left) → Met n (answered n ys (Spell i k)) k (said (named o) ys)
  spell_meets i None e ys k = tt
  spell_meets i (Some t) e ys k = spelled n ys i t k e

  module _ (x : Thrown) (f : Frame) (fs : List Frame) (pl : List Places) where
    -- where a clause takes the exception, and where it doesn't
    taken_by : Clause → Left → Bool → Left
    taken_by c rest b = if b then meant.handled x f fs pl c.handler else rest

    sort_meets : (c : Clause) (rest : Left) (by : Sort) (ys : List Reply) → Met n (answered n ys (meant.tests p x f fs pl c by rest)) (taken_by c rest) (sort_takes p later f.method x.kind by ys)
    unfolding taken_by
    sort_meets c rest (sort.Catch t) ys =
        then_meets (λ v. Spell x.kind (λ exact. taken_by c rest (passes_as p exact (put_type f.method t)))) (taken_by c rest) (λ v. say (named (slice_get later x.kind)) >>= (λ exact. pure (passes_as p exact (put_type f.method t))))
        (answered n ys (meant.tests p x f fs pl c (sort.Catch t) rest)) (settles_entry p later f.method (entry.Kind t) ys) ((tied_clause f.method t).meets ys (λ v. Spell x.kind (λ exact. taken_by c rest (passes_as p exact (put_type f.method t)))))
        (λ v zs. then_meets (λ exact. taken_by c rest (passes_as p exact (put_type f.method t))) (taken_by c rest) (λ exact. pure (passes_as p exact (put_type f.method t)))
        (answered n zs (Spell x.kind (λ exact. taken_by c rest (passes_as p exact (put_type f.method t))))) (said (named (slice_get later x.kind)) zs)
        (spell_meets x.kind (slice_get later x.kind) refl zs (λ exact. taken_by c rest (passes_as p exact (put_type f.method t)))) (λ exact us. refl))
    sort_meets c rest sort.Finally ys = stuck_stays n ys

    covered : (c : Clause) (rest : Left) (b : Bool) (ys : List Reply) → Met n (answered n ys (if b then meant.tests p x f fs pl c c.sort rest else rest)) (taken_by c rest) ((if b then sort_takes p later f.method x.kind c.sort else pure false) ys)
    unfolding taken_by
    covered c rest true ys = sort_meets c rest c.sort ys
    covered c rest false ys = refl

    takes_meets : (c : Clause) (rest : Left) (ys : List Reply) → Met n (answered n ys (meant.tries p x f fs pl c rest)) (taken_by c rest) (takes p later f.method x.kind f.at c ys)
    unfolding takes
    takes_meets c rest ys = covered c rest (covers c f.at) ys

    -- the handler that is found, or what is left where none is
    found_by : Left → Option ℕ → Left
    found_by rest None = rest
    found_by rest (Some handler) = meant.handled x f fs pl handler

    finds_meets : (cs : List Clause) (rest : Left) (ys : List Reply) → Met n (answered n ys (meant.tries_all p x f fs pl cs rest)) (found_by rest) (finds p later f.method x.kind f.at cs ys)
    unfolding finds taken_by found_by
    finds_meets [] rest ys = refl
    finds_meets (c ∷ cs) rest ys =
        then_meets (taken_by c (meant.tries_all p x f fs pl cs rest)) (found_by rest) (λ b. if b then pure (Some c.handler) else finds p later f.method x.kind f.at cs) (answered n ys (meant.tries_all p x f fs pl (c ∷ cs) rest)) (takes p later f.method x.kind f.at c ys)
        (takes_meets c (meant.tries_all p x f fs pl cs rest) ys) (by_test (finds_meets cs rest))
      where
        by_test : ((ys : List Reply) → Met n (answered n ys (meant.tries_all p x f fs pl cs rest)) (found_by rest) (finds p later f.method x.kind f.at cs ys)) → (b : Bool) (ys : List Reply) →
            Met n (answered n ys (taken_by c (meant.tries_all p x f fs pl cs rest) b)) (found_by rest) ((if b then pure (Some c.handler) else finds p later f.method x.kind f.at cs) ys)
        by_test more true ys = refl
        by_test more false ys = more ys

  pub searched_meets : (x : Thrown) (fs : List Frame) (pl : List Places) (ys : List Reply) → Met n (answered n ys (meant.searches p x fs pl)) Next (searched p later x fs pl ys)
  unfolding searched found_by
  searched_meets x [] pl ys = then_meets (λ u. Over) Next (λ u. over) (answered n ys (meant.searches p x [] pl)) (asks_done (ask.Fall x.kind) ys) ((tied_done n (ask.Fall x.kind)).meets ys (λ u. Over)) (λ u zs. over_meets n zs Next)
  searched_meets x (f ∷ fs) pl ys =
      then_meets (found_by x f fs pl (meant.searches p x fs (outer pl))) Next (λ o. or_else o (handled x f fs pl) (searched p later x fs (outer pl))) (answered n ys (meant.searches p x (f ∷ fs) pl)) (finds p later f.method x.kind f.at (clauses_of p f.method) ys)
      (finds_meets x f fs pl (clauses_of p f.method) (meant.searches p x fs (outer pl)) ys) (by_found (searched_meets x fs (outer pl)))
    where
      by_found : ((ys : List Reply) → Met n (answered n ys (meant.searches p x fs (outer pl))) Next (searched p later x fs (outer pl) ys)) → (o : Option ℕ) (ys : List Reply) →
          Met n (answered n ys (found_by x f fs pl (meant.searches p x fs (outer pl)) o)) Next (or_else o (handled x f fs pl) (searched p later x fs (outer pl)) ys)
      by_found more None ys = more ys
      by_found more (Some handler) ys = refl

  pub raised_meets : (class : ℕ) (s : Frames) (ys : List Reply) → Met n (answered n ys (meant.raises p class s)) Next (raised p later class s ys)
  unfolding raised
  raised_meets class s ys =
      then_meets (λ v. Ask (ask.Alloc v 0 0) (on_object (λ o. meant.searches p (record { object = o; kind = v }) s.frames s.places))) Next (λ v. asks_object (ask.Alloc v 0 0) >>= (λ o. searched p later (record { object = o; kind = v }) s.frames s.places))
      (answered n ys (meant.raises p class s)) (said (named (number_in later (plain class))) ys) ((tied_mention later p (OfFault class) (number_in later (plain class)) refl).meets ys (λ v. Ask (ask.Alloc v 0 0) (on_object (λ o. meant.searches p (record { object = o; kind = v }) s.frames s.places))))
      (λ v zs. then_meets (λ o. meant.searches p (record { object = o; kind = v }) s.frames s.places) Next (λ o. searched p later (record { object = o; kind = v }) s.frames s.places)
      (answered n zs (Ask (ask.Alloc v 0 0) (on_object (λ o. meant.searches p (record { object = o; kind = v }) s.frames s.places)))) (asks_object (ask.Alloc v 0 0) zs) ((tied_object n (ask.Alloc v 0 0)).meets zs (λ o. meant.searches p (record { object = o; kind = v }) s.frames s.places))
      (λ o us. searched_meets (record { object = o; kind = v }) s.frames s.places us))

  -- what a call tells, as an end of what is left
  pub told : (q : Left) (frames : Frames) (came : Came Frames) (ys zs : List Reply) (r : Result (Unit {0}) Pause) → Met n (answered n ys q) Next came → Tells (λ u. frames) came r zs → Ends n ys zs q frames r
  told q frames came ys zs (Ok u) e is = subst (λ c. Met n (answered n ys q) Next c) is e
  told q frames came ys zs (Err (pause.Halts (halt.Asks r))) e is = subst (λ c. Met n (answered n ys q) Next c) is e
  told q frames came ys zs (Err (pause.Halts halt.Over)) e is = subst (λ c. Met n (answered n ys q) Next c) is e
  told q frames came ys zs (Err (pause.Halts halt.Stuck)) e is = subst (λ c. Met n (answered n ys q) Next c) is e
  told q frames came ys zs (Err (pause.Halts halt.Unnamed)) e is = tt
  told q frames came ys zs (Err pause.NoMemory) e is = tt
