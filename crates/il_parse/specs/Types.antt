-- Reading types: the rules `type`, `ptype`, `var` and `vars` of the grammar.
use Rattle.std.specs.Prelude.{ℕ, zero, suc, ◌-◌, ◌==◌, if◌then◌else◌, List, [], ◌∷◌, ◌++◌, Option, Some, None, option_map, Ok, codes, bytes_eq}
use Rattle.std.specs.List.{find}
use Rattle.il_text.specs.declared.token.TokenKind.{TokenKind}
use Rattle.il_text.specs.declared.token.TokenKind.TheVariants as token
use Rattle.il_model.specs.declared.written.WrittenName.{WrittenName}
use Rattle.il_model.specs.declared.written.WrittenType.{WrittenType}
use Rattle.il_model.specs.declared.written.WrittenType.TheVariants as w
use Rattle.il_model.specs.declared.written.WrittenParam.{WrittenParam}
use Rattle.il_model.specs.declared.written.WrittenVar.{WrittenVar}
use Rattle.il_model.specs.Lexemes.{Lexeme, name_at}
use Rattle.il_model.specs.Words.{type_words}
use Rattle.il_parse.specs.declared.fault.ParseCause.TheVariants as cause
use Rattle.il_parse.specs.Reading.{Reader, ◌>>=◌, ◌>>◌, pure, stuck, refuse, sees, eat, expect, is_word_kind, read_name, read_separated}

-- the type that a word is by itself
unfoldable pub keyword_type : List ℕ → Option WrittenType
keyword_type bytes = option_map (λ row. row.1) (find (λ row. bytes_eq row.0 bytes) type_words)

-- how a type begins: by a lexeme that is a type, or by the name of a class, which arguments may follow
pub data Head : Type 0 where
  whole : WrittenType → Head
  class_name : WrittenName → Head
  no_type : Head

abbrev pub head_by_kind : Lexeme → TokenKind → Head
head_by_kind l token.Word = class_name (name_at l)
head_by_kind l token.Variable = whole (w.Variable (name_at l))
head_by_kind l token.Number = no_type
head_by_kind l token.Text = no_type
head_by_kind l token.Mark = no_type

abbrev pub head_or_kind : Lexeme → Option WrittenType → Head
head_or_kind l (Some t) = whole t
head_or_kind l None = head_by_kind l l.kind

-- what the first lexeme is at the front of a type
unfoldable pub head_of : List Lexeme → Head
head_of [] = no_type
head_of (l ∷ ws) = head_or_kind l (keyword_type l.bytes)

-- the lexemes behind the first
abbrev pub behind : List Lexeme → List Lexeme
behind [] = []
behind (l ∷ ws) = ws

-- the vectors of a type, where so many positions may still come
unfoldable pub read_vectors : WrittenType → ℕ → Reader (WrittenType × ℕ)
read_vectors t left [] = Ok ((t, left), [])
read_vectors t left (l ∷ ws) =
    if bytes_eq (codes "[]") l.bytes
    then (if left == 0 then refuse cause.TooMany (l ∷ ws) else read_vectors (w.Vector t) (left - 1) ws)
    else Ok ((t, left), l ∷ ws)

-- where no position may come any more
abbrev pub read_no_head : {A : Type 0} → Head → Reader A
read_no_head no_type = stuck
read_no_head (whole t) = refuse cause.TooMany
read_no_head (class_name name) = refuse cause.TooMany

module _ (inner : ℕ → Reader (WrittenType × ℕ)) where
  -- the arguments of a class behind those found, where so many positions may still come; the first number is greater than that
  unfoldable pub inner_types_from : ℕ → List WrittenType → ℕ → Reader (List WrittenType × ℕ)
  inner_types_from zero found left = stuck
  inner_types_from (suc n) found left = do
    p ← inner left
    goes_on ← eat (codes ",")
    if goes_on then inner_types_from n (found ++ p.0 ∷ []) p.1 else pure (found ++ p.0 ∷ [], p.1)

  -- what follows the name of a class in a type
  unfoldable pub read_applied : ℕ → WrittenName → ℕ → Reader (WrittenType × ℕ)
  read_applied n name left = do
    has_arguments ← eat (codes "<")
    if has_arguments then (do
      p ← inner_types_from n [] left
      expect (codes ">")
      read_vectors (w.Named name p.0) p.1) else read_vectors (w.Named name []) left

  -- what follows the first lexeme of a type
  abbrev pub read_headed : ℕ → Head → ℕ → Reader (WrittenType × ℕ)
  read_headed n no_type left = stuck
  read_headed n (whole t) left = read_vectors t left
  read_headed n (class_name name) left = read_applied n name left

-- how a type goes on, whose first lexeme is this
abbrev pub past_head : Head → Reader (WrittenType × ℕ) → Reader (WrittenType × ℕ)
past_head no_type rest = stuck
past_head (whole t) rest = λ ws. rest (behind ws)
past_head (class_name name) rest = λ ws. rest (behind ws)

-- `type`, where so many positions may still come, and the first number is at least that; with the positions that may come behind it
unfoldable pub read_type_within : ℕ → ℕ → Reader (WrittenType × ℕ)
read_type_within zero left = λ ws. read_no_head (head_of ws) ws
read_type_within (suc n) left = λ ws.
    if left == 0 then read_no_head (head_of ws) ws
    else past_head (head_of ws) (read_headed (λ more. read_type_within n more) (suc n) (head_of ws) (left - 1)) ws

-- a written type has at most so many positions
abbrev pub most_positions : ℕ
most_positions = 256

-- `type`
unfoldable pub read_type : Reader WrittenType
read_type = do
  p ← read_type_within most_positions most_positions
  pure p.0

-- one type or several, with a mark between each two
unfoldable pub read_types : List ℕ → Reader (List WrittenType)
read_types mark = read_separated read_type mark

-- what a method gives
unfoldable pub read_result : Reader (Option WrittenType)
read_result = do
  is_void ← eat (codes "void")
  if is_void then pure None else (do t ← read_type; pure (Some t))

-- `ptype`
unfoldable pub read_param : Reader WrittenParam
read_param = do
  t ← read_type
  is_pointer ← eat (codes "&")
  pure (record { kind = t; pointer = is_pointer })

-- what stands between `(` and `)`
unfoldable pub read_enclosed : {A : Type 0} → Reader A → Reader A
read_enclosed item = do
  expect (codes "(")
  x ← item
  expect (codes ")")
  pure x

-- parameters or none, up to `)`
unfoldable pub read_params : Reader (List WrittenParam)
read_params = λ ws. if sees (codes ")") ws then Ok ([], ws) else read_separated read_param (codes ",") ws

-- the type arguments that a method's name may carry
unfoldable pub read_arguments : Reader (List WrittenType)
read_arguments = do
  are_there ← eat (codes "<")
  if are_there then (do ts ← read_types (codes ","); expect (codes ">"); pure ts) else pure []

-- `var`
unfoldable pub read_var : Reader WrittenVar
read_var = do
  name ← read_name
  is_bounded ← eat (codes ":")
  if is_bounded then (do ts ← read_types (codes "&"); pure (record { name = name; bounds = ts }))
      else pure (record { name = name; bounds = [] })

-- a name where none may come any more
abbrev pub read_no_name : {A : Type 0} → Reader A
read_no_name [] = stuck []
read_no_name (l ∷ ws) = if is_word_kind l.kind then refuse cause.TooMany (l ∷ ws) else stuck (l ∷ ws)

-- type variables behind those found, so many at most
unfoldable pub vars_from : ℕ → List WrittenVar → Reader (List WrittenVar)
vars_from zero found = read_no_name
vars_from (suc n) found = do
  v ← read_var
  goes_on ← eat (codes ",")
  if goes_on then vars_from n (found ++ v ∷ []) else pure (found ++ v ∷ [])

-- `vars`, so many at most
unfoldable pub read_vars : ℕ → Reader (List WrittenVar)
read_vars most = do
  are_there ← eat (codes "<")
  if are_there then (do vs ← vars_from most []; expect (codes ">"); pure vs) else pure []
