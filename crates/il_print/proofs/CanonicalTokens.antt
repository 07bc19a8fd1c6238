-- The tokens of the canonical text of a program that some text gives.
use Rattle.std.proofs.Common.{◌≡◌, ◌≤◌, List, map, sym, subst}
use Rattle.il_text.specs.declared.token.Token.{Token}
use Rattle.il_text.specs.Tokens.{AreTokens}
use Rattle.il_model.specs.declared.program.Program.{Program}
use Rattle.il_model.specs.Lexemes.{lexemes_of}
use Rattle.il_model.specs.Accepted.{IsOfText}
use Rattle.il_model.specs.Canonical.{canonical_text}
use Rattle.il_model.proofs.CanonicalLemmas.{length-canonical_text}
use Rattle.il_print.proofs.Keys.{key_of, program_keys}
use Rattle.il_print.proofs.KeyTokens.{keys_read}
use Rattle.il_print.proofs.ProgramReads.{canonical_has}
use Rattle.il_print.proofs.WrittenSpellable.{written_spellable}

-- it has tokens, whose kinds and bytes are those that are defined for the program
pub canonical_tokens : (p : Program) → IsOfText p →
    (tokens : List Token) × AreTokens (canonical_text p) tokens × (map key_of (lexemes_of (canonical_text p) tokens) ≡ program_keys p)
canonical_tokens p of =
    keys_read (canonical_text p) (program_keys p)
    (canonical_has of.classes p of.accepted.named (written_spellable of.text of.classes of.accepted.written))
    (subst (λ n. n ≤ 4194304) (sym (length-canonical_text p)) of.accepted.short)
