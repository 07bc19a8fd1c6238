-- The keys in a line. This project's own.
use Rattle.std.specs.Prelude.{ℕ, if◌then◌else◌, List, [], ◌∷◌, ◌++◌, codes, bytes_eq, Option, Some, None, option_map, option_and_then}
use Rattle.il_model.specs.declared.key.KeyPart.{KeyPart}
use Rattle.il_model.specs.declared.key.KeyPart.TheVariants.{Ref, Any, Exact}
use Rattle.il_model.specs.declared.program.Program.{Program}
use Rattle.aot_image.specs.ChoosingTypes.{type_of}

-- what a word is as a key: `ref`, `any` or a type; none where it is no key
abbrev pub key_of : Program → List ℕ → Option KeyPart
key_of program word =
    if bytes_eq (codes "ref") word then Some Ref
    else (if bytes_eq (codes "any") word then Some Any else option_map Exact (type_of program word))

-- the keys with one more
abbrev pub with_key : List KeyPart → Option KeyPart → Option (List KeyPart)
with_key keys None = None
with_key keys (Some key) = Some (keys ++ key ∷ [])

-- the keys that words are, behind those found; none where a word is no key
abbrev pub keys_behind : Program → List KeyPart → List (List ℕ) → Option (List KeyPart)
keys_behind program keys [] = Some keys
keys_behind program keys (word ∷ words) = option_and_then (λ more. keys_behind program more words) (with_key keys (key_of program word))

-- the keys that words are
abbrev pub keys_of : Program → List (List ℕ) → Option (List KeyPart)
keys_of program words = keys_behind program [] words
