-- A step of the machine over a thread's memory is the thread's turn.
use Rattle.std.proofs.Common.{◌≡◌, ◌≢◌, ℕ, ◌%◌, ◌==◌, Bool, true, false, List, Option, Some, None, if◌then◌else◌, refl, sym, ap, subst}
use Rattle.std.specs.Prelude.{MatchOption}
use Rattle.std.proofs.lemmas.Bool.Decides.{not_from_Decides, Decides-eqb}
use Rattle.mn_outside.specs.declared.machine.FaultCause.{FaultCause}
use Rattle.mn_outside.specs.declared.machine.FaultCause.TheVariants.{Fetch, Undefined, Misaligned, Access, Break}
use Rattle.interaction.specs.declared.turn.What.TheVariants as noted
use Rattle.rv_isa.specs.declared.instr.Instr.{Instr}
use Rattle.rv_isa.specs.Reading.{decode_of}
use Rattle.rv_machine.specs.declared.registers.Core.{Core}
use Rattle.rv_machine.specs.declared.effect.Effect.{Effect}
use Rattle.rv_machine.specs.declared.effect.Effect.TheVariants.{Sets, Loads, Stores, Goes, Calls, Breaks}
use Rattle.rv_machine.specs.declared.size.Size.{Size}
use Rattle.rv_machine.specs.declared.size.Size.TheVariants.{One, Two, Four, Eight}
use Rattle.rv_machine.specs.declared.outcome.Step.{Step}
use Rattle.rv_machine.specs.declared.outcome.Step.TheVariants.{Went, Call}
use Rattle.rv_machine.specs.Effect.{effect_of}
use Rattle.rv_machine.specs.Steps.{fetched, bytes_of, stored, fault_of, Faults, LoadEnds, Loaded, StoreEnds, Stored, Does, Steps}
use Rattle.rgctx_words.specs.Stacks.{StackWords}
use Rattle.rgctx_template.specs.Catalogue.{CatData}
use Rattle.rgctx_fill.specs.declared.doing.Doing.{Doing}
use Rattle.rgctx_fill.specs.declared.doing.Doing.TheVariants.{Serves}
use Rattle.rgctx_fill.specs.ThreadStates.{ThreadData, Move}
use Rattle.rgctx_fill.specs.Accesses.{frame_written}
use Rattle.rgctx_fill.specs.MachineTurns.{faults, context_of, loads_frame, loads_from, stores, does, decoded, at_word}
use Rattle.rgctx_fill.specs.Moves.{Span, IsGone, IsMade}
use Rattle.thread_core.specs.Memory.{ReadsAt, Reads, WritesTo, Writes}
use Rattle.thread_core.specs.Stepped.{told, doing_after, state_of}

-- a test of an access's place
aligned : (n : ℕ) → (n == 0) ≡ true → n ≡ 0
aligned n e = (Decides-eqb n 0).0 e

not_aligned : (n : ℕ) → (n == 0) ≡ false → n ≢ 0
not_aligned n e = not_from_Decides (n == 0) (Decides-eqb n 0) e

-- ---- the turn

module _ (cat : CatData) (h : Span) (core : Core) (stack : StackWords) (doing : Doing) (word : ℕ) (after : Core) (left : StackWords) where
  abbrev before : ThreadData
  before = state_of core stack doing

  -- the turn was made by a step that answers this
  abbrev Made : Step → Move → Type 0
  Made said m = IsMade cat h before m (told core.pc word said) (state_of after left (doing_after doing said))

  went : (said : Step) (c : Core) (k : StackWords) → said ≡ Went → after ≡ c → left ≡ k → h.relisted ≡ h.listed
      → IsGone h (noted.Instr core.pc word) (state_of c k doing) (told core.pc word said) (state_of after left (doing_after doing said))
  went said c k is core_is stack_is claims = record {
    says = ap (told core.pc word) is;
    state = λ i. record { core = core_is i; stack = stack_is i; doing = doing_after doing (is i) };
    claims = claims;
  }

  called : (said : Step) (c : Core) → said ≡ Call → after ≡ c → left ≡ stack → h.relisted ≡ h.listed
      → IsGone h (noted.Instr core.pc word) (state_of c stack Serves) (told core.pc word said) (state_of after left (doing_after doing said))
  called said c is core_is stack_is claims = record {
    says = ap (told core.pc word) is;
    state = λ i. record { core = core_is i; stack = stack_is i; doing = doing_after doing (is i) };
    claims = claims;
  }

  faulted : (said : Step) (cause : FaultCause) → said ≡ fault_of cause core → after ≡ core → left ≡ stack → h.relisted ≡ h.listed → Made said (faults before cause)
  faulted said cause is core_is stack_is claims = record {
    says = ap (told core.pc word) is;
    state = λ i. record { core = core_is i; stack = stack_is i; doing = doing_after doing (is i) };
    claims = claims;
  }

  module _ {B : Type 0} (reads : B → ℕ → ℕ → Option ℕ → B → Type 0) (writes : B → ℕ → ℕ → ℕ → Bool → B → Type 0) (bus bus' : B)
      (same : bus' ≡ bus → (left ≡ stack) × (h.relisted ≡ h.listed))
      (reading : (address bytes : ℕ) (answer : Option ℕ) → reads bus address bytes answer bus' → Reads h bytes address stack answer left)
      (writing : (address bytes value : ℕ) (done : Bool) → writes bus address bytes value done bus' → Writes h bytes address stack value done left)
      (said : Step) where
    fails : (cause : FaultCause) → Faults cause core bus said after bus' → Made said (faults before cause)
    fails cause f = faulted said cause f.0 f.1 (same f.2).0 (same f.2).1

    -- loads
    read_at : (size : Size) (address : ℕ) (answer : Option ℕ) → Reads h (bytes_of size) address stack answer left → ReadsAt h size address stack (context_of before size address) answer
    read_at One address answer r = r.at
    read_at Two address answer r = r.at
    read_at Four address answer r = r.at
    read_at Eight address answer r = r.at

    from_frame : (rd : ℕ) (size : Size) (sign : Bool) (address : ℕ) (answer : Option ℕ) → LoadEnds rd size sign address answer core bus said after bus' → left ≡ stack → h.relisted ≡ h.listed
        → Made said (loads_frame before word rd size sign address answer)
    from_frame rd size sign address None ends kept claims = fails (Access address) ends
    from_frame rd size sign address (Some found) ends kept claims = went said _ stack ends.0 ends.1 kept claims

    from_place : (rd : ℕ) (size : Size) (sign : Bool) (address : ℕ) (answer : Option ℕ) (o : Option ℕ) → ReadsAt h size address stack o answer → LoadEnds rd size sign address answer core bus said after bus' → left ≡ stack
        → Made said (loads_from before word rd size sign address o)
    from_place rd size sign address answer None r ends kept =
        subst (λ a. Made said (loads_frame before word rd size sign address a)) r.gives (from_frame rd size sign address answer ends kept r.claims)
    from_place rd size sign address answer (Some i) r ends kept =
        let e : LoadEnds rd size sign address (Some r.word) core bus said after bus' = subst (λ a. LoadEnds rd size sign address a core bus said after bus') r.gives ends in
        record { answer = r.word; loaded = r.loaded; gone = went said _ stack e.0 e.1 kept r.claims }

    loads : (rd : ℕ) (size : Size) (sign : Bool) (address : ℕ) → Loaded reads rd size sign address core bus said after bus' → Made said (loads_from before word rd size sign address (context_of before size address))
    loads rd size sign address l =
        let r : Reads h (bytes_of size) address stack l.reply left = reading address (bytes_of size) l.reply l.access in
        from_place rd size sign address l.reply (context_of before size address) (read_at size address l.reply r) l.ends r.kept

    -- stores
    write_to : (size : Size) (address value : ℕ) (done : Bool) → Writes h (bytes_of size) address stack value done left → WritesTo stack (frame_written size stack address value) done left
    write_to One address value done w = w.to
    write_to Two address value done w = w.to
    write_to Four address value done w = w.to
    write_to Eight address value done w = w.to

    to_place : (address : ℕ) (done : Bool) (o : Option StackWords) → WritesTo stack o done left → StoreEnds address done core bus said after bus' → h.relisted ≡ h.listed → Made said (stores before word address o)
    to_place address done None w ends claims = fails (Access address) (subst (λ b. StoreEnds address b core bus said after bus') w.0 ends)
    to_place address done (Some k) w ends claims =
        let e : StoreEnds address true core bus said after bus' = subst (λ b. StoreEnds address b core bus said after bus') w.0 ends in
        went said _ k e.0 e.1 w.1 claims

    stores_in : (size : Size) (address value : ℕ) → Stored writes size address value core bus said after bus' → Made said (stores before word address (frame_written size stack address (stored size value)))
    stores_in size address value l =
        let w : Writes h (bytes_of size) address stack (stored size value) l.reply left = writing address (bytes_of size) (stored size value) l.reply l.access in
        to_place address l.reply (frame_written size stack address (stored size value)) (write_to size address (stored size value) l.reply w) l.ends w.claims

    -- an access, by whether its place is a multiple of its size
    at_place : (n address : ℕ) (m : Move) → (n ≡ 0 → Made said m) → (n ≢ 0 → Faults (Misaligned address) core bus said after bus') → Made said (if n == 0 then m else faults before (Misaligned address))
    at_place n address m good bad = by (n == 0) refl
      where
        by : (b : Bool) → (n == 0) ≡ b → Made said (if b then m else faults before (Misaligned address))
        by true e = good (aligned n e)
        by false e = fails (Misaligned address) (bad (not_aligned n e))

    does_made : (e : Effect) → Does reads writes e core bus said after bus' → Made said (does before word e)
    does_made (Sets rd w) d = went said _ stack d.0 d.1 (same d.2).0 (same d.2).1
    does_made (Loads rd size sign address) d =
        at_place (address % bytes_of size) address (loads_from before word rd size sign address (context_of before size address)) (λ z. loads rd size sign address (d.0 z)) d.1
    does_made (Stores size address w) d =
        at_place (address % bytes_of size) address (stores before word address (frame_written size stack address (stored size w))) (λ z. stores_in size address w (d.0 z)) d.1
    does_made (Goes rd target) d = went said _ stack d.0 d.1 (same d.2).0 (same d.2).1
    does_made Calls d = called said _ d.0 d.1 (same d.2).0 (same d.2).1
    does_made Breaks d = fails Break d

    instr_made : (o : Option Instr) → MatchOption o (Faults (Undefined word) core bus said after bus') (λ instr. Does reads writes (effect_of instr core) core bus said after bus') → Made said (decoded before word o)
    instr_made None d = fails (Undefined word) d
    instr_made (Some i) d = does_made (effect_of i core) d

    pub steps-made : (code : List ℕ) → fetched code core.pc ≡ Some word → Steps reads writes code core bus said after bus' → Made said (at_word before (Some word))
    steps-made code is steps =
        instr_made (decode_of word)
        (subst (λ o. MatchOption o (Faults Fetch core bus said after bus') (λ w. MatchOption (decode_of w) (Faults (Undefined w) core bus said after bus') (λ instr. Does reads writes (effect_of instr core) core bus said after bus'))) is steps)

-- ---- what no access changes

module _ {B : Type 0} (reads : B → ℕ → ℕ → Option ℕ → B → Type 0) (writes : B → ℕ → ℕ → ℕ → Bool → B → Type 0) (core after : Core) (bus bus' : B) (said : Step)
    (P : B → Type 0) (here : P bus)
    (reading : (address bytes : ℕ) (answer : Option ℕ) → reads bus address bytes answer bus' → P bus')
    (writing : (address bytes value : ℕ) (done : Bool) → writes bus address bytes value done bus' → P bus') where
  stays : bus' ≡ bus → P bus'
  stays e = subst P (sym e) here

  either_way : (n : ℕ) → (n ≡ 0 → P bus') → (n ≢ 0 → P bus') → P bus'
  either_way n good bad = by (n == 0) refl
    where
      by : (b : Bool) → (n == 0) ≡ b → P bus'
      by true e = good (aligned n e)
      by false e = bad (not_aligned n e)

  does_keeps : (e : Effect) → Does reads writes e core bus said after bus' → P bus'
  does_keeps (Sets rd w) d = stays d.2
  does_keeps (Loads rd size sign address) d = either_way (address % bytes_of size) (λ z. let l : Loaded reads rd size sign address core bus said after bus' = d.0 z in reading address (bytes_of size) l.reply l.access) (λ z. stays (d.1 z).2)
  does_keeps (Stores size address w) d = either_way (address % bytes_of size) (λ z. let l : Stored writes size address w core bus said after bus' = d.0 z in writing address (bytes_of size) (stored size w) l.reply l.access) (λ z. stays (d.1 z).2)
  does_keeps (Goes rd target) d = stays d.2
  does_keeps Calls d = stays d.2
  does_keeps Breaks d = stays d.2

  instr_keeps : (word : ℕ) (o : Option Instr) → MatchOption o (Faults (Undefined word) core bus said after bus') (λ instr. Does reads writes (effect_of instr core) core bus said after bus') → P bus'
  instr_keeps word None d = stays d.2
  instr_keeps word (Some i) d = does_keeps (effect_of i core) d

  word_keeps : (o : Option ℕ) → MatchOption o (Faults Fetch core bus said after bus') (λ w. MatchOption (decode_of w) (Faults (Undefined w) core bus said after bus') (λ instr. Does reads writes (effect_of instr core) core bus said after bus')) → P bus'
  word_keeps None d = stays d.2
  word_keeps (Some w) d = instr_keeps w (decode_of w) d

  pub steps-keep : (code : List ℕ) → Steps reads writes code core bus said after bus' → P bus'
  steps-keep code steps = word_keeps (fetched code core.pc) steps
