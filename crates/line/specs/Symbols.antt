-- What a wire byte is to a line (document 01, "One line"): "An unsound byte is never a control character."
use Rattle.std.specs.Prelude.{ℕ, eqb}
use Rattle.characters.specs.Answers.{pick}
use Rattle.characters.specs.Wire.{is_sound, character_of, STX, ETX, EOT, LF, CR}
use Rattle.line.specs.declared.rules.Symbol.{Symbol}
use Rattle.line.specs.declared.rules.Symbol.TheVariants.{Stx, Etx, Eot, Lf, Cr, Damaged, Text}

-- a sound byte, by its character
unfoldable pub sound_symbol : ℕ → Symbol
sound_symbol c =
    pick (eqb c STX) Stx
    (pick (eqb c ETX) Etx
    (pick (eqb c EOT) Eot
    (pick (eqb c LF) Lf
    (pick (eqb c CR) Cr
    (Text c)))))

unfoldable pub symbol_of : ℕ → Symbol
symbol_of byte = pick (is_sound byte) (sound_symbol (character_of byte)) Damaged
