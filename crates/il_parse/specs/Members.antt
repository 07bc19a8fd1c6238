-- Reading members as instructions name them: the rules `mref` and `fref` of the grammar.
use Rattle.std.specs.Prelude.{if◌then◌else◌, codes}
use Rattle.il_model.specs.declared.written.WrittenName.{WrittenName}
use Rattle.il_model.specs.declared.written.WrittenMethodRef.{WrittenMethodRef}
use Rattle.il_model.specs.declared.written.WrittenFieldRef.{WrittenFieldRef}
use Rattle.il_parse.specs.declared.fault.ParseCause.TheVariants as cause
use Rattle.il_parse.specs.Reading.{Reader, ◌>>=◌, ◌>>◌, pure, refuse, sees, eat, expect, read_name}
use Rattle.il_parse.specs.Types.{read_type, read_result, read_params, read_arguments, read_enclosed}

-- the name of a method, which isn't `.cctor`
unfoldable pub read_method_name : Reader WrittenName
read_method_name = λ ws. if sees (codes ".cctor") ws then refuse cause.Unsupported ws else read_name ws

-- `mref`
unfoldable pub read_method_ref : Reader WrittenMethodRef
read_method_ref = do
  is_instance ← eat (codes "instance")
  result ← read_result
  class ← read_type
  expect (codes "::")
  name ← read_method_name
  args ← read_arguments
  params ← read_enclosed read_params
  pure (record { instance = is_instance; result = result; class = class; name = name.name; args = args; params = params })

-- `fref`
unfoldable pub read_field_ref : Reader WrittenFieldRef
read_field_ref = do
  kind ← read_type
  class ← read_type
  expect (codes "::")
  name ← read_name
  pure (record { kind = kind; class = class; name = name.name })
