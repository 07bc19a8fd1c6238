-- What a history shows: the output, the uncaught exception, the static fields, and which threads have finished. This project's own.
use Rattle.std.specs.Prelude.{◌≡◌, ℕ, ◌-◌, ◌==◌, nat_lt, Bool, true, false, ◌&&◌, if◌then◌else◌, List, [], ◌∷◌, ◌++◌, map, filter_map, flat_map, Option, Some, None, option_and_then, option_map, unwrap_or, slice_get}
use Rattle.std.specs.List.{list_any, last_or}
use Rattle.std.specs.Fmt.{signed_decimal}
use Rattle.type_tree.specs.declared.tree.TExpr.{TExpr}
use Rattle.type_tree.specs.Printed.{printed}
use Rattle.il_model.specs.declared.class.ClassDef.{ClassDef}
use Rattle.il_model.specs.declared.program.Program.{Program}
use Rattle.interaction.specs.declared.history.Event.{Event}
use Rattle.interaction.specs.Process.{Naming}
use Rattle.store_object.specs.declared.request.Form.{Form}
use Rattle.store_object.specs.declared.request.Form.TheVariants as form
use Rattle.store_object.specs.declared.request.Request.{Request}
use Rattle.store_object.specs.declared.request.Request.TheVariants as ask
use Rattle.store_object.specs.declared.reply.Reply.{Reply}
use Rattle.store_object.specs.Replay.{replayed}
use Rattle.cil_meaning.specs.Words.{signed}
use Rattle.cil_meaning.specs.Naming.{Mention, strings_from, names_from}

abbrev pub History : Type 0
History = List (Event Request Reply)

-- the names of the program's classes, by their numbers
abbrev pub class_names : Program → List (List ℕ)
class_names p = map (λ (c : ClassDef). c.name) p.classes

-- the printed name of the type with a number, and nothing where the naming has none
abbrev pub name_of_kind : Program → Naming Mention TExpr → ℕ → List ℕ
name_of_kind p n k = unwrap_or (option_map (printed (class_names p)) (n.tree_at k)) []

-- the bytes of a string word: none for null, those of a literal, or the printed name of a type
abbrev pub string_bytes : Program → Naming Mention TExpr → ℕ → List ℕ
string_bytes p n w =
    if nat_lt w strings_from then []
    else (if nat_lt w names_from then unwrap_or (slice_get p.literals (w - strings_from)) []
    else name_of_kind p n (w - names_from))

abbrev pub line_of : Program → Naming Mention TExpr → Form → ℕ → List ℕ
line_of p n form.Number w = signed_decimal (signed w)
line_of p n form.String w = string_bytes p n w

-- the line that a request prints, if it prints one
abbrev pub printed_line : Program → Naming Mention TExpr → Request → Option (List ℕ)
printed_line p n (ask.Alloc kind count words) = None
printed_line p n (ask.TypeOf object) = None
printed_line p n (ask.Length object) = None
printed_line p n (ask.Load place) = None
printed_line p n (ask.Save place word) = None
printed_line p n (ask.Exchange place word) = None
printed_line p n (ask.CompareExchange place word comparand) = None
printed_line p n (ask.Add place word narrow) = None
printed_line p n (ask.Print f word) = Some (line_of p n f word)
printed_line p n (ask.Start object) = None
printed_line p n (ask.Ended thread) = None
printed_line p n ask.Finish = None
printed_line p n (ask.Fall kind) = None
printed_line p n (ask.Stop why) = None

-- the lines of the output in order, without the ends of lines
abbrev pub output_of : Program → Naming Mention TExpr → History → List (List ℕ)
output_of p n h = filter_map (λ (e : Event Request Reply). printed_line p n e.request) h

-- the bytes of the output, each line with its end
abbrev pub output_bytes : Program → Naming Mention TExpr → History → List ℕ
output_bytes p n h = flat_map (λ line. line ++ 10 ∷ []) (output_of p n h)

-- the number of the exact type with which a request ends the run, if it does
abbrev pub fallen_kind : Request → Option ℕ
fallen_kind (ask.Alloc kind count words) = None
fallen_kind (ask.TypeOf object) = None
fallen_kind (ask.Length object) = None
fallen_kind (ask.Load place) = None
fallen_kind (ask.Save place word) = None
fallen_kind (ask.Exchange place word) = None
fallen_kind (ask.CompareExchange place word comparand) = None
fallen_kind (ask.Add place word narrow) = None
fallen_kind (ask.Print f word) = None
fallen_kind (ask.Start object) = None
fallen_kind (ask.Ended thread) = None
fallen_kind ask.Finish = None
fallen_kind (ask.Fall kind) = Some kind
fallen_kind (ask.Stop why) = None

-- the number of the uncaught exception's exact type, where the history ends with one
abbrev pub uncaught_kind : History → Option ℕ
uncaught_kind h = option_and_then (λ (e : Event Request Reply). fallen_kind e.request) (last_or None h)

-- its exact type
abbrev pub uncaught_of : Naming Mention TExpr → History → Option TExpr
uncaught_of n h = option_and_then n.tree_at (uncaught_kind h)

-- after the history the static word of the type at the index is this one
pub record HasStatic (n : Naming Mention TExpr) (h : History) (t : TExpr) (index word : ℕ) : Type 0 where
  pub kind : ℕ
  pub named : n.tree_at kind ≡ Some t
  pub holds : (replayed h).fixed kind index ≡ word

abbrev pub is_finish : Request → Bool
is_finish (ask.Alloc kind count words) = false
is_finish (ask.TypeOf object) = false
is_finish (ask.Length object) = false
is_finish (ask.Load place) = false
is_finish (ask.Save place word) = false
is_finish (ask.Exchange place word) = false
is_finish (ask.CompareExchange place word comparand) = false
is_finish (ask.Add place word narrow) = false
is_finish (ask.Print f word) = false
is_finish (ask.Start object) = false
is_finish (ask.Ended thread) = false
is_finish ask.Finish = true
is_finish (ask.Fall kind) = false
is_finish (ask.Stop why) = false

-- whether the thread's end stands in the history
abbrev pub has_finished : History → ℕ → Bool
has_finished h u = list_any (λ (e : Event Request Reply). (e.thread == u) && is_finish e.request) h
