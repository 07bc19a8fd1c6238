-- The tests of signatures answer true exactly for equal ones.
use Rattle.std.proofs.Common.{◌==◌, ◌&&◌, Bool, length, sym, bytes_eq}
use Rattle.std.specs.Bool.{Decides}
use Rattle.std.proofs.lemmas.Bool.Decides.{Decides-eqb, Decides-and, Decides-like}
use Rattle.std.proofs.lemmas.Slice.Eq.{bytes_eq-Decides}
use Rattle.il_model.specs.declared.method.MethodDef.{MethodDef}
use Rattle.il_model.specs.LookUp.{HasSameSignature}
use Rattle.il_parse.specs.SameTypes.{same_result, same_params}
use Rattle.il_parse.specs.SameSignature.{same_result-Decides, same_params-Decides}
use Rattle.il_parse.specs.NamedClasses.{has_signature}

-- whether a later method has the name and signature of one before it
abbrev pub alike : MethodDef → MethodDef → Bool
alike a d = has_signature d.name (length d.vars) d.params d.result a

-- the same, and in one class
abbrev pub alike_in_class : MethodDef → MethodDef → Bool
alike_in_class a d = (a.owner == d.owner) && alike a d

pub alike-Decides : (a d : MethodDef) → Decides (alike_in_class a d) (HasSameSignature a d)
alike-Decides a d =
    let names = bytes_eq-Decides d.name a.name in
    let counts = Decides-eqb (length d.vars) (length a.vars) in
    let all = Decides-and (a.owner == d.owner) (alike a d) (Decides-eqb a.owner d.owner)
    (Decides-and (bytes_eq d.name a.name && (length d.vars == length a.vars) && same_params d.params a.params) (same_result d.result a.result)
    (Decides-and (bytes_eq d.name a.name && (length d.vars == length a.vars)) (same_params d.params a.params)
    (Decides-and (bytes_eq d.name a.name) (length d.vars == length a.vars) names counts) (same_params-Decides d.params a.params))
    (same_result-Decides d.result a.result)) in
    Decides-like (alike_in_class a d)
    (λ p. record { owner = p.0; name = sym p.1.0.0.0; vars = sym p.1.0.0.1; params = sym p.1.0.1; gives = sym p.1.1 })
    (λ r. (r.owner, (((sym r.name, sym r.vars), sym r.params), sym r.gives)))
    all
