-- Each body of an accepted program that passed the verifier, at each of its instantiations.
use Rattle.std.proofs.Common.{◌≡◌, ℕ, Some, None, subst}
use Rattle.std.specs.Prelude.{slice_get, reverse, option_map}
use Rattle.type_tree.specs.declared.tree.TExpr.{TExpr}
use Rattle.il_model.specs.declared.program.Program.{Program}
use Rattle.il_model.specs.declared.method.Body.{Body}
use Rattle.il_model.specs.declared.method.MethodDef.{MethodDef}
use Rattle.il_model.specs.declared.layout.MethodTree.{MethodTree}
use Rattle.il_model.specs.declared.op.Op.{Op}
use Rattle.il_model.specs.Ops.{operand_of}
use Rattle.interaction.specs.Process.{Naming}
use Rattle.rgctx_fill.proofs.WholeLists.{item_holds}
use Rattle.cil_verify.specs.Places.{view_of, code_of}
use Rattle.cil_verify.specs.Rows.{row_of, admits_none}
use Rattle.cil_verify.specs.Admits.{left_by_row}
use Rattle.cil_verify.specs.States.{stack_at, states_of}
use Rattle.cil_meaning.specs.Naming.{Mention}
use Rattle.cil_meaning.specs.Site.{op_at}
use Rattle.cil_safety.proofs.Fit.{IsInstance}
use Rattle.cil_safety.proofs.CallPieces.{FitsTypes}
use Rattle.cil_safety.proofs.StraightForms.{LiteralFits}
use Rattle.cil_safety.proofs.Edges.{WidensWell, IsAdmitted, admitted}
use Rattle.cil_safety.proofs.Steps.{BodyPasses, IsCovered, code_is, body_of}
use Rattle.cil_safety.proofs.Texts.{HasConstants}
use Rattle.cil_safety.proofs.Instances.{IsAccepted, vars_none, put_any, HasGoodCode, good_code, places_alike, places_fit}
use Rattle.cil_safety.proofs.Uppers.{PlainClasses}
use Rattle.cil_safety.proofs.TypesFit.{fits_types, widens_well}
use Rattle.cil_safety.proofs.Covered.{covered}

module _ (p : Program) (ok : IsAccepted p) (classes : PlainClasses p) (n : Naming Mention TExpr) where
  module _ (m : MethodTree) (d : MethodDef) (i : IsInstance p n m d) where
    types : FitsTypes p d m
    types = fits_types p classes d m (put_any p ok n m d i) (vars_none p ok d.owner) (ok.built.methods m.method d i.is).vars

    widens : WidensWell p d m
    widens = widens_well p classes d m (put_any p ok n m d i) (vars_none p ok d.owner) (ok.built.methods m.method d i.is).vars

    pub body_passes : (b : Body) → d.body ≡ Some b → BodyPasses p m d
    body_passes b has =
        let good : HasGoodCode p ok d b = good_code p ok m.method d b i.is has in
        let constants : HasConstants p d = ok.facts.methods m.method d i.is in
        record {
          body = b;
          has = has;
          flows = good.flows;
          passed = good.passed;
          alike = places_alike p ok n m d i;
          places = places_fit p ok n m d types;
          types = types;
          widens = widens;
          literals = λ at op is. item_holds (λ (o : Op). LiteralFits p (operand_of o)) (code_of d.body) at op constants.literals (code_is d.body at op is);
        }

    -- an instruction that the forward pass admits has a row that admits some operands
    admits_some : (at : ℕ) (op : Op) → IsAdmitted p d m widens at op → row_of op ≡ admits_none → ⊥
    admits_some at op a none =
        let leaves : option_map reverse (left_by_row (view_of p d) (row_of op) (reverse (stack_at (states_of (view_of p d)) at))) ≡ Some a.left = a.leaves in
        let no' : None ≡ Some a.left = subst (λ r. option_map reverse (left_by_row (view_of p d) r (reverse (stack_at (states_of (view_of p d)) at))) ≡ Some a.left) none leaves in
        cc no'

    pub all_covered : (at : ℕ) (op : Op) → op_at d at ≡ Some op → IsCovered op
    all_covered at op is =
        let has = body_of d.body at op is in
        let b : BodyPasses p m d = body_passes has.0 has.1 in
        let there : slice_get (code_of d.body) at ≡ Some op = code_is d.body at op is in
        covered op (ok.built.code m.method d at op i.is there).form (admits_some at op (admitted p d m widens b.passed at op there))
