-- `character` meets its contract: it is the definition.
use Rattle.std.proofs.Common.{refl}
use Rattle.characters.specs.Wire.{character_of}
use Rattle.characters.proofs.character.Goals as goal

pub returns : goal.returns
unfolding character_of
returns c = refl
