use Rattle.std.proofs.Common.{◌∙◌, ap}
use Rattle.il_model.specs.LookUp.{arity_of}
use Rattle.il_parse.specs.NamedTypes.{member_scope}
use Rattle.il_parse.proofs.scope.Scope.of_member.Goals as goal

pub returns : goal.returns
unfolding member_scope
returns c = λ i. record {
  names = (c.self.view_is i).names;
  arities = (c.self.view_is i).arities;
  of_class = (c.arity.ensures ∙ ap (arity_of c.args.self.now.arities) c.written_class.ensures) i;
  of_method = c.args.of_method;
}
